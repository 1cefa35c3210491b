use Rattle.std.proofs.Common.{ap, length, arith}
use Rattle.mcap_io.proofs.Appending.{ends-within, piece-there}
use Rattle.mcap_io.proofs.pieces.piece_at.Goals as goal

pub slice_bounds-result-end : goal.slice_bounds-result-end
slice_bounds-result-end g c =
    let within = ends-within (g.P.Pieces.list c.args.pieces.now) c.args.at c.end-end.result c.requires c.end-end.ensures in
    omega (arith, within.1, ap length c.bytes-bytes.ensures)

pub returns : goal.returns
returns g c = piece-there (g.P.Pieces.list c.args.pieces.now) c.bytes-bytes.result.now c.args.at c.end-end.result c.end-end.ensures c.bytes-bytes.ensures
