use Rattle.std.proofs.Common.{refl}
use Rattle.mcap_scan.proofs.reader.Reader.into_refusal.Goals as goal

pub returns : goal.returns
returns c = c.refusal_in.ensures c.args.self refl
