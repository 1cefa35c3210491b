-- A chunker, the histories for which it stands, and the blocks that it gives.
use Rattle.std.specs.Prelude.{◌≡◌, ℕ, List, [], ◌∷◌, ◌++◌, true, Option, Some, None}
use Rattle.rec_data.specs.declared.owned.Rec.{Rec}
use Rattle.rec_data.specs.Owned.{rec_opcode, rec_text, rec_bytes, ShowsRec}
use Rattle.mcap_model.specs.declared.block.Block.{Block}
use Rattle.mcap_model.specs.History.{is_inner}
use Rattle.mcap_model.specs.Blocks.{block, Cuts, cuts, last_piece}
use Rattle.mcap_model.specs.Built.{IsBlock}
use Rattle.chunk_build.specs.Opened.{chunk_of_records}
use Rattle.chunk_build.specs.Chunking.{Chunking}

-- A chunker stands for a history where its open chunk holds the records that wait for their block. Those before them stand
-- in the blocks that it gave.
abbrev pub StandsFor : Chunking → List Rec → Type 0
StandsFor c history = c.chunk ≡ chunk_of_records (cuts (Some c.size) c.span history).waiting

-- a block is given exactly where one more is cut, and it is that of the records that waited and this one
abbrev pub Closes : Cuts → Rec → Cuts → Option Block → Type 0
Closes before r after None = after.pieces ≡ before.pieces
Closes before r after (Some b) =
    (after.pieces ≡ before.pieces ++ block (before.waiting ++ r ∷ []) ∷ []) × IsBlock b (before.waiting ++ r ∷ [])

-- a record was put behind a history
pub record PutsRecord (size : ℕ) (span : Option ℕ) (history : List Rec) (r : Rec) (closed : Option Block)
    (after : Chunking) : Type 0 where
  pub stands : StandsFor after (history ++ r ∷ [])
  pub same_size : after.size ≡ size
  pub same_span : after.span ≡ span
  pub closes : Closes (cuts (Some size) span history) r (cuts (Some size) span (history ++ r ∷ [])) closed

-- the bytes are this record, framed, and it is read back from them
pub record AreFramed (bytes : List ℕ) (r : Rec) : Type 0 where
  pub spelled : bytes ≡ rec_bytes r
  pub shown : ShowsRec (rec_opcode r) (rec_text r) r

-- the same, and it is no extra
pub record AreInner (bytes : List ℕ) (r : Rec) : Type 0 where
  pub framed : AreFramed bytes r
  pub inner : is_inner r ≡ true

-- the last block is given where records wait
abbrev pub Last : List Rec → Option Block → Type 0
Last waiting None = last_piece waiting ≡ []
Last waiting (Some b) = (last_piece waiting ≡ block waiting ∷ []) × IsBlock b waiting

-- a history has ended, and another can begin
pub record Finishes (size : ℕ) (span : Option ℕ) (history : List Rec) (last : Option Block) (after : Chunking)
    : Type 0 where
  pub last_block : Last (cuts (Some size) span history).waiting last
  pub begun : StandsFor after []
  pub same_size : after.size ≡ size
  pub same_span : after.span ≡ span
