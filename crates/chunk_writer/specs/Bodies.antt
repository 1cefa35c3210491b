-- The open chunk and the summary beside it, and the histories for which they stand.
use Rattle.std.specs.Prelude.{◌≡◌, ℕ, ◌+◌, ◌≤◌, List, [], ◌∷◌, ◌++◌, length, Option, Some, None}
use Rattle.mcap_wire.specs.Limits.{chunk_size_limit}
use Rattle.rec_data.specs.declared.owned.Rec.{Rec}
use Rattle.mcap_model.specs.declared.block.Block.{Block}
use Rattle.mcap_model.specs.Built.{IsBlock}
use Rattle.mcap_model.specs.History.{body_of}
use Rattle.mcap_model.specs.Blocks.{Piece, block, alone, cuts, pieces_of, pieces_bytes, blocks_in}
use Rattle.mcap_model.specs.File.{blocks_from, alone_from, tail_by}
use Rattle.mcap_model.specs.Summary.{Noted}
use Rattle.chunk_build.specs.Chunker as chunker
use Rattle.summary_write.specs.Tally as tally
use Rattle.chunk_writer.specs.declared.body.Body.{Body}

-- what is noted of these records, and of these pieces, the first of which stands at that offset
abbrev pub noted_of : ℕ → List Rec → List Piece → Noted
noted_of at records pieces = record {
  records = body_of records;
  blocks = blocks_from at pieces;
  extras = alone_from at pieces;
}

-- The open chunk holds the records that wait for their block, and the summary stands for all records but the extras, and for
-- the blocks and the extras that stand in the file already.
pub record IsBody (size : ℕ) (span : Option ℕ) (at : ℕ) (history : List Rec) (b : Body) : Type 0 where
  pub some : 1 ≤ size
  pub within : size ≤ chunk_size_limit
  pub size_is : b.chunker.size ≡ size
  pub span_is : b.chunker.span ≡ span
  pub chunk : chunker.StandsFor b.chunker history
  pub summary : tally.SummaryStandsFor b.summary (noted_of at history (cuts (Some size) span history).pieces)

-- a record was put behind a history; the block that it closed isn't noted yet
pub record BodyTakes (size : ℕ) (span : Option ℕ) (at : ℕ) (history : List Rec) (r : Rec) (closed : Option Block)
    (after : Body) : Type 0 where
  pub size_is : after.chunker.size ≡ size
  pub span_is : after.chunker.span ≡ span
  pub chunk : chunker.StandsFor after.chunker (history ++ r ∷ [])
  pub closes : chunker.Closes (cuts (Some size) span history) r (cuts (Some size) span (history ++ r ∷ [])) closed
  pub summary : tally.SummaryStandsFor after.summary
      (noted_of at (history ++ r ∷ []) (cuts (Some size) span history).pieces)

-- a history has ended; its last block isn't noted yet
pub record TakesLast (size : ℕ) (span : Option ℕ) (at : ℕ) (history : List Rec) (last : Option Block) (after : Body)
    : Type 0 where
  pub last_block : chunker.Last (cuts (Some size) span history).waiting last
  pub summary : tally.SummaryStandsFor after.summary (noted_of at history (cuts (Some size) span history).pieces)

-- ---- with the numbers of the pieces that are sure

-- the same, and there are so many blocks, and so many bytes with those before the first piece
pub record StandsSo (size : ℕ) (span : Option ℕ) (at : ℕ) (history : List Rec) (b : Body) (blocks bytes : ℕ)
    : Type 0 where
  pub body : IsBody size span at history b
  pub blocks_are : blocks ≡ length (blocks_in (cuts (Some size) span history).pieces)
  pub bytes_are : bytes ≡ at + length (pieces_bytes (cuts (Some size) span history).pieces)

-- a record more makes this piece sure
abbrev pub ClosesPiece : Option ℕ → Option ℕ → List Rec → Rec → Piece → Type 0
ClosesPiece size span history r piece =
    (cuts size span (history ++ r ∷ [])).pieces ≡ (cuts size span history).pieces ++ piece ∷ []

-- it closes a block, or none
abbrev pub ClosesBlock : Option ℕ → Option ℕ → List Rec → Rec → Option Block → Type 0
ClosesBlock size span history r None = (cuts size span (history ++ r ∷ [])).pieces ≡ (cuts size span history).pieces
ClosesBlock size span history r (Some b) =
    (records : List Rec) × ClosesPiece size span history r (block records) × IsBlock b records

-- a record was put behind a history, and the block that it closed was noted
pub record NextBlock (size : ℕ) (span : Option ℕ) (at : ℕ) (history : List Rec) (r : Rec) (closed : Option Block)
    (after : Body) : Type 0 where
  pub body : IsBody size span at (history ++ r ∷ []) after
  pub closes : ClosesBlock (Some size) span history r closed

-- an extra was put behind a history, and noted
pub record NextAside (size : ℕ) (span : Option ℕ) (at : ℕ) (history : List Rec) (r : Rec) (after : Body) : Type 0 where
  pub body : IsBody size span at (history ++ r ∷ []) after
  pub closes : ClosesPiece (Some size) span history r (alone r)

-- a history has ended, and its last block was noted
pub record LastBlock (size : ℕ) (span : Option ℕ) (at : ℕ) (history : List Rec) (last : Option Block) (after : Body)
    : Type 0 where
  pub last_block : chunker.Last (cuts (Some size) span history).waiting last
  pub summary : tally.SummaryStandsFor after.summary (noted_of at history (pieces_of (Some size) span history))

-- ---- where there may be a body

-- there is one exactly where there is a chunk size
abbrev pub BodyFor : Option ℕ → Option ℕ → ℕ → List Rec → Option Body → Type 0
BodyFor None span at history None = Unit {0}
BodyFor None span at history (Some b) = ⊥
BodyFor (Some size) span at history None = ⊥
BodyFor (Some size) span at history (Some b) = IsBody size span at history b

-- its summary stands for this
abbrev pub SummaryFor : Option ℕ → Noted → Option Body → Type 0
SummaryFor None n None = Unit {0}
SummaryFor None n (Some b) = ⊥
SummaryFor (Some size) n None = ⊥
SummaryFor (Some size) n (Some b) = tally.SummaryStandsFor b.summary n

-- the Footer of a file without a summary, and the magic
abbrev pub plain_tail : List ℕ
plain_tail = tail_by None (noted_of 0 [] []) 0
