-- What is kept of the records of the top level so far.
use Rattle.std.specs.Prelude.{◌≡◌, ◌↔◌, ℕ, List, ◌∷◌, ◌++◌, [], Result, Ok, Err, Option, Some, None, true}
use Rattle.mcap_wire.specs.declared.faults.Memory.{Memory}
use Rattle.mcap_model.specs.Tops.{Top}
use Rattle.mcap_model.specs.Whole.{V9}
use Rattle.mcap_model.specs.Valid.{Keeps}
use Rattle.index_check.specs.Chunks.{HasMessage}
use Rattle.file_check.specs.declared.top_records.TopRecords.{TopRecords}
use Rattle.file_check.specs.LastChunk.{LastOf}
use Rattle.file_check.specs.CutFiles.{IndexFails}
use Rattle.file_check.specs.IndexedRecords.{IndexedOf}

-- this is kept of the records, which keep V9
pub record TopsOf (tops : List Top) (kept : TopRecords) : Type 0 where
  pub indexed : IndexedOf tops kept.indexed
  pub last : LastOf tops kept.last
  pub v9 : Keeps V9 tops
  pub at_top : (kept.has_messages ≡ true) ↔ HasMessage tops

-- the record behind these was taken; or V9 fails at that offset, whatever follows
abbrev pub TopTaken : List Top → Top → TopRecords → Result (Option ℕ) Memory → Type 0
TopTaken tops t kept (Ok None) = TopsOf (tops ++ t ∷ []) kept
TopTaken tops t kept (Ok (Some offset)) = (more : List Top) → IndexFails (tops ++ t ∷ more) offset
TopTaken tops t kept (Err memory) = Unit {0}
