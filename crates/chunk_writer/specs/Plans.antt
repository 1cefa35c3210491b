-- The histories for which a plan stands, and what it gives of them.
use Rattle.std.specs.Prelude.{◌≡◌, ℕ, ◌+◌, List, [], ◌∷◌, ◌++◌, length, Option, Some, None}
use Rattle.rec_data.specs.declared.owned.Rec.{Rec}
use Rattle.mcap_model.specs.declared.block.Block.{Block}
use Rattle.mcap_model.specs.declared.options.FileOptions.{FileOptions}
use Rattle.mcap_model.specs.declared.ends.Stop.{Stop}
use Rattle.mcap_model.specs.declared.ends.Stop.TheVariants as stops
use Rattle.mcap_model.specs.Built.{IsBlock}
use Rattle.mcap_model.specs.Blocks.{Piece, block, alone, piece_bytes, cuts, pieces_of, pieces_bytes, last_piece, blocks_in}
use Rattle.mcap_model.specs.Places.{Each}
use Rattle.mcap_model.specs.Tops.{Top}
use Rattle.mcap_model.specs.File.{front, section, noted}
use Rattle.mcap_model.specs.Histories.{written_of}
use Rattle.mcap_model.specs.Pieces.{back_of}
use Rattle.chunk_build.specs.Chunker as chunker
use Rattle.chunk_writer.specs.declared.phase.Phase.TheVariants as phases
use Rattle.chunk_writer.specs.declared.next.Next.{Next}
use Rattle.chunk_writer.specs.declared.next.Next.TheVariants as nexts
use Rattle.chunk_writer.specs.Limits.{Holds, ChunkFits, ContentsFit}
use Rattle.chunk_writer.specs.LimitSteps.{BlockFits}
use Rattle.chunk_writer.specs.Bodies.{noted_of, ClosesPiece, BodyFor, SummaryFor}
use Rattle.chunk_writer.specs.Planning.{Planning}

-- ---- records

-- A plan stands for a history: its numbers are those of the pieces that are sure, and its body holds the records that wait.
pub record Plans (options : FileOptions) (history : List Rec) (p : Planning) : Type 0 where
  pub body : BodyFor options.chunk options.span (length (front options.profile)) history p.body
  pub blocks : p.blocks ≡ length (blocks_in (cuts options.chunk options.span history).pieces)
  pub bytes : p.bytes ≡ length (written_of options history)
  pub contents : ContentsFit options.profile (blocks_in (cuts options.chunk options.span history).pieces)

-- the plan, with so many bytes more of records that stand at top level
abbrev pub counted_on : Planning → ℕ → Planning
counted_on p len = record p { bytes = p.bytes + len }

-- what is to be appended for a record more
abbrev pub IsToAppend : Option ℕ → Option ℕ → List Rec → Rec → Next → Type 0
IsToAppend size span history r nexts.Waits =
    (cuts size span (history ++ r ∷ [])).pieces ≡ (cuts size span history).pieces
IsToAppend size span history r (nexts.Block b) =
    (records : List Rec) × ClosesPiece size span history r (block records) × IsBlock b records
IsToAppend size span history r nexts.Record = ClosesPiece size span history r (alone r)
IsToAppend size span history r nexts.Aside = ClosesPiece size span history r (alone r)

-- a record is planned
pub record IsPlanned (options : FileOptions) (history : List Rec) (r : Rec) (next : Next) (after : Planning)
    : Type 0 where
  pub stands : Plans options (history ++ r ∷ []) after
  pub next_is : IsToAppend options.chunk options.span history r next

-- a file may hold a piece more
pub record PieceFits (blocks bytes : ℕ) (piece : Piece) : Type 0 where
  pub holds : Holds (blocks + length (blocks_in (piece ∷ []))) (bytes + length (piece_bytes piece))
  pub chunks : Each ChunkFits (blocks_in (piece ∷ []))

-- why there is none: memory lacks, or the piece that the record makes sure would pass the limit
abbrev pub PutStopped : Option ℕ → Option ℕ → List Rec → Rec → ℕ → ℕ → Stop → Type 0
PutStopped size span history r blocks bytes (stops.Fault faults) = ⊥
PutStopped size span history r blocks bytes (stops.Limit at_blocks at_bytes) = (piece : Piece)
    × ClosesPiece size span history r piece × (at_blocks ≡ blocks) × (at_bytes ≡ bytes)
    × (PieceFits blocks bytes piece → ⊥)
PutStopped size span history r blocks bytes stops.Memory = Unit {0}

-- a file may hold a block more, where there is one
abbrev pub HoldsBlock : ℕ → ℕ → Option Block → Type 0
HoldsBlock blocks bytes None = Unit {0}
HoldsBlock blocks bytes (Some b) = BlockFits blocks bytes b

-- it may hold what is next, where the record has these bytes
abbrev pub HoldsNext : ℕ → ℕ → List ℕ → Next → Type 0
HoldsNext blocks bytes framed nexts.Waits = Unit {0}
HoldsNext blocks bytes framed (nexts.Block b) = BlockFits blocks bytes b
HoldsNext blocks bytes framed nexts.Record = Holds blocks (bytes + length framed)
HoldsNext blocks bytes framed nexts.Aside = Holds blocks (bytes + length framed)

-- how many blocks there are with it
abbrev pub CountsNext : ℕ → ℕ → Next → Type 0
CountsNext before after nexts.Waits = after ≡ before
CountsNext before after (nexts.Block b) = after ≡ before + 1
CountsNext before after nexts.Record = after ≡ before
CountsNext before after nexts.Aside = after ≡ before

-- the record itself is appended
abbrev pub StandsAlone : Next → Type 0
StandsAlone nexts.Waits = ⊥
StandsAlone (nexts.Block b) = ⊥
StandsAlone nexts.Record = Unit {0}
StandsAlone nexts.Aside = Unit {0}

-- the plan stopped, with so many blocks and bytes before the piece
pub record StoppedBefore (blocks bytes : ℕ) (stop : Stop) (after : Planning) : Type 0 where
  pub phase : after.phase ≡ phases.Stopped stop
  pub blocks_are : after.blocks ≡ blocks
  pub bytes_are : after.bytes ≡ bytes

-- ---- the end

-- all pieces of a history are counted, and its summary stands for them
pub record CountsAllPieces (options : FileOptions) (history : List Rec) (p : Planning) : Type 0 where
  pub body : SummaryFor options.chunk
      (noted_of (length (front options.profile)) history (pieces_of options.chunk options.span history)) p.body
  pub blocks : p.blocks ≡ length (blocks_in (pieces_of options.chunk options.span history))
  pub bytes : p.bytes ≡ length (front options.profile ++ pieces_bytes (pieces_of options.chunk options.span history))
  pub contents : ContentsFit options.profile (blocks_in (pieces_of options.chunk options.span history))

-- all pieces of a history and these extras behind them are counted, and its summary stands for them
pub record IsFilled (options : FileOptions) (extras : List Top) (history : List Rec) (p : Planning) : Type 0 where
  pub body : SummaryFor options.chunk (noted options extras history) p.body
  pub blocks : p.blocks ≡ length (blocks_in (pieces_of options.chunk options.span history))
  pub bytes : p.bytes ≡ length (section options extras history)
  pub contents : ContentsFit options.profile (blocks_in (pieces_of options.chunk options.span history))

-- why an extra of these bytes isn't counted
abbrev pub ExtraStopped : ℕ → ℕ → List ℕ → Stop → Type 0
ExtraStopped blocks bytes framed (stops.Fault faults) = ⊥
ExtraStopped blocks bytes framed (stops.Limit at_blocks at_bytes) =
    (at_blocks ≡ blocks) × (at_bytes ≡ bytes) × (Holds blocks (bytes + length framed) → ⊥)
ExtraStopped blocks bytes framed stops.Memory = Unit {0}

-- a history has ended, with its last block
pub record IsLastBlock (options : FileOptions) (history : List Rec) (last : Option Block) (after : Planning)
    : Type 0 where
  pub whole : CountsAllPieces options history after
  pub last_block : chunker.Last (cuts options.chunk options.span history).waiting last

-- the numbers with a block more, where there is one
abbrev pub CountsBlock : Planning → Option Block → Planning → Type 0
CountsBlock before None after = (after.blocks ≡ before.blocks) × (after.bytes ≡ before.bytes)
CountsBlock before (Some b) after = (after.blocks ≡ before.blocks + 1) × (after.bytes ≡ before.bytes + length b.bytes)

-- why the last block isn't given
abbrev pub LastStopped : Option ℕ → Option ℕ → List Rec → ℕ → ℕ → Stop → Type 0
LastStopped size span history blocks bytes (stops.Fault faults) = ⊥
LastStopped size span history blocks bytes (stops.Limit at_blocks at_bytes) = (piece : Piece)
    × (last_piece (cuts size span history).waiting ≡ piece ∷ []) × (at_blocks ≡ blocks) × (at_bytes ≡ bytes)
    × (PieceFits blocks bytes piece → ⊥)
LastStopped size span history blocks bytes stops.Memory = Unit {0}

-- why what closes the file isn't given
abbrev pub BackStopped : FileOptions → List Top → List Rec → ℕ → ℕ → Stop → Type 0
BackStopped options extras history blocks bytes (stops.Fault faults) = ⊥
BackStopped options extras history blocks bytes (stops.Limit at_blocks at_bytes) =
    (at_blocks ≡ blocks) × (at_bytes ≡ bytes) × (Holds blocks (bytes + length (back_of options extras history)) → ⊥)
BackStopped options extras history blocks bytes stops.Memory = Unit {0}
