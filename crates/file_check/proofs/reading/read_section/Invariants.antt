use Rattle.std.proofs.Common.{List}
use Rattle.mcap_model.specs.Tops.{Top, Placed}
use Rattle.mcap_scan.specs.Walking.{FlatStands, flat_left}
use Rattle.file_check.specs.Gathering.{GatheredTo}
use Rattle.file_check.proofs.reading.read_section.Given as goal

abbrev pub decreases-records : goal.decreases-records
decreases-records g l = flat_left l.reader

abbrev pub invariant-records : goal.invariant-records
invariant-records g l = ((given : List Placed) × ((tops : List Top) × FlatStands l.reader (g.S.Source.state l.fn.source) (g.S.Source.state l.source) tops given) × GatheredTo given l.gathering)
    × g.S.Source.stays l.fn.source l.source
