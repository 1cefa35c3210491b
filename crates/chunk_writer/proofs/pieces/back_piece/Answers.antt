use Rattle.std.proofs.Common.{ℕ, List, length, ap, arith}
use Rattle.chunk_writer.proofs.Planned.{length-end}
use Rattle.chunk_writer.proofs.pieces.back_piece.Goals as goal

pub text-requires : goal.text-requires
text-requires c = omega (arith, c.requires, c.len.ensures, ap (λ (l : List ℕ). length l) c.in_ok-piece.ensures, length-end)
