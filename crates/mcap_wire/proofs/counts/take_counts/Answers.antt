use Rattle.std.proofs.Common.{List, ℕ, sym, subst}
use Rattle.mcap_wire.specs.MapReading.{a_uint, MapStops}
use Rattle.mcap_wire.proofs.ArrayLemmas.{bytes_there, whole_there}
use Rattle.mcap_wire.proofs.MapWalks.{map_fails}
use Rattle.mcap_wire.proofs.counts.take_counts.Goals as goal

pub returns-in-Err-count_counts : goal.returns-in-Err-count_counts
returns-in-Err-count_counts c =
    let content = c.args.content.now in
    let bytes = c.in-Ok.read.0.now in
    map_fails (a_uint 2) (a_uint 8) content c.args.at c.in-Err-count_counts.why (whole_there content c.args.at bytes c.in-Ok.read.1 c.in-Ok.ensures)
    (subst (λ (l : List ℕ). MapStops (a_uint 2) (a_uint 8) l c.in-Err-count_counts.why) (sym (bytes_there content c.args.at bytes c.in-Ok.read.1 c.in-Ok.ensures)) c.in-Err-count_counts.ensures)
