use Rattle.std.proofs.Common.{sym}
use Rattle.mcap_scan.specs.Scanning.{content_of}
use Rattle.mcap_scan.proofs.Steps.{nothing_due}
use Rattle.mcap_scan.proofs.flat_reader.FlatReader.new.Goals as goal

pub returns-in-Ok : goal.returns-in-Ok
returns-in-Ok c = λ source.
    let none = nothing_due 0 0 0 (content_of c.in-Ok.reader) in
    record { stands = c.in-Ok.ensures.stands source; all = sym none; going = λ some. absurd (some none); inside = λ some. absurd (some none) }
