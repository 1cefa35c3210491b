-- The walk goes on behind a piece that was taken whole.
use Rattle.std.proofs.Common.{◌≤◌, arith}
use Rattle.mcap_io.proofs.Appending.{begins-here, walked-more, end-of, ends-within, some-there, falls-in}
use Rattle.mcap_io.proofs.pieces.refused_in.Goals as goal
use Rattle.mcap_io.proofs.pieces.refused_in.Goals.{then-taken-end-via-then-taken-end, then-taken-end-via-else-taken-end+then-end-len}

pub end-end-requires : goal.end-end-requires
end-end-requires g c =
    let (walked, long, less, from) = c.pieces.invariant in
    begins-here _ _ _ walked less long

pub returns-then-taken-end : goal.returns-then-taken-end
returns-then-taken-end g c =
    let (walked, long, less, from) = c.pieces.invariant in
    let to : c.args.taken ≤ c.end-end.result = elim c.then-taken-end.branch [
      | then-taken-end-via-then-taken-end w ↦ omega (arith, w.if-taken-end)
      | then-taken-end-via-else-taken-end+then-end-len w ↦ omega (arith, w.if-end-len, c.requires.within, long)
    ] in
    falls-in _ c.args.taken c.pieces.at c.end-end.result _ walked less long c.end-end.ensures from to

pub pieces-smaller : goal.pieces-smaller
pieces-smaller g c =
    let (walked, long, less, from) = c.pieces.invariant in
    let b = begins-here _ _ _ walked less long in
    omega (arith, end-of _ _ _ b c.end-end.ensures, some-there _ _ b (g.met.P.Pieces.some c.args.pieces.now), less)

pub pieces-preserved : goal.pieces-preserved
pieces-preserved g c =
    let (walked, long, less, from) = c.pieces.invariant in
    let b = begins-here _ _ _ walked less long in
    let within = ends-within _ _ _ b c.end-end.ensures in
    (walked-more _ _ _ b (end-of _ _ _ b c.end-end.ensures), long, omega (arith, within.1, long, c.if-end-len.false), omega (arith, c.if-taken-end.false))
