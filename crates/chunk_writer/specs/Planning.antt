-- The plan of a file as a plain value.
use Rattle.std.specs.Prelude.{ℕ, Option}
use Rattle.chunk_writer.specs.declared.body.Body.{Body}
use Rattle.chunk_writer.specs.declared.phase.Phase.{Phase}

-- the open chunk and the summary, where there are blocks; the blocks and the bytes of the pieces so far; and whether more
-- are to come
pub record Planning : Type 0 where
  pub body : Option Body
  pub blocks : ℕ
  pub bytes : ℕ
  pub phase : Phase
