use Rattle.std.proofs.Common.{rules}
use Rattle.mcap_scan.proofs.reader.Reader.give.Goals as goal

pub returns-else-op-eq-DATA_END-clause-given : goal.returns-else-op-eq-DATA_END-clause-given
returns-else-op-eq-DATA_END-clause-given c = search rules
