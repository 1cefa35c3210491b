-- Inputs as they are read.
use Rattle.std.specs.Prelude.{List, map}
use Rattle.mcap_model.specs.Tops.{Top}
use Rattle.mcap_model.specs.Scan.{Seen}

-- the records of an input, and their messages
pub record Read : Type 0 where
  pub tops : List Top
  pub messages : List Seen

abbrev pub read_tops : List Read → List (List Top)
read_tops reads = map (λ r. r.tops) reads
