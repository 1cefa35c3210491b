-- A chunker as a plain value.
use Rattle.std.specs.Prelude.{ℕ, Option}
use Rattle.chunk_build.specs.Opened.{Opened}

-- a chunk size, a span of log times if there is one, and what the open chunk holds
pub record Chunking : Type 0 where
  pub size : ℕ
  pub span : Option ℕ
  pub chunk : Opened
