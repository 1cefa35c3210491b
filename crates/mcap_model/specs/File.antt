-- The file of a history.
use Rattle.std.specs.Prelude.{◌≡◌, ℕ, zero, suc, ◌+◌, List, [], ◌∷◌, ◌++◌, length, codes, Option, Some, None}
use Rattle.mcap_wire.specs.Layout.{framed, magic}
use Rattle.rec_data.specs.Records.{header_opcode, footer_opcode, data_end_opcode, header_text, data_end_text, footer_text}
use Rattle.rec_data.specs.declared.owned.Rec.{Rec}
use Rattle.mcap_model.specs.declared.options.FileOptions.{FileOptions}
use Rattle.mcap_model.specs.Tops.{Top, top_bytes, spelled}
use Rattle.mcap_model.specs.Blocks.{Piece, block, alone, pieces_of, piece_bytes, pieces_bytes}
use Rattle.mcap_model.specs.History.{rec_top, body_of}
use Rattle.mcap_model.specs.Summary.{Noted, footer_of_offsets, summary_text}

abbrev pub library : List ℕ
library = codes "mcaprec 1"

-- the magic and the Header
unfoldable pub front : List ℕ → List ℕ
front profile = magic ++ framed header_opcode (header_text (record { profile = profile; library = library }))

unfoldable pub data_end : List ℕ
data_end = framed data_end_opcode (data_end_text 0)

-- ---- the file

-- the blocks among pieces, with their offsets, where the first piece stands at that offset
abbrev pub block_at : ℕ → Piece → List (ℕ × List Rec)
block_at at (block records) = (at, records) ∷ []
block_at at (alone r) = []

abbrev pub blocks_from : ℕ → List Piece → List (ℕ × List Rec)
blocks_from at [] = []
blocks_from at (p ∷ ps) = block_at at p ++ blocks_from (at + length (piece_bytes p)) ps

-- the records at top level among pieces, with their offsets
abbrev pub alone_at : ℕ → Piece → List (ℕ × Top)
alone_at at (block records) = []
alone_at at (alone r) = (at, rec_top r) ∷ []

abbrev pub alone_from : ℕ → List Piece → List (ℕ × Top)
alone_from at [] = []
alone_from at (p ∷ ps) = alone_at at p ++ alone_from (at + length (piece_bytes p)) ps

-- records with their offsets, where the first one stands at that offset
abbrev pub extras_from : ℕ → List Top → List (ℕ × Top)
extras_from at [] = []
extras_from at (t ∷ ts) = (at, t) ∷ extras_from (at + length (top_bytes t)) ts

-- all in front of the Data End
abbrev pub section : FileOptions → List Top → List Rec → List ℕ
section options extras history =
    front options.profile ++ (pieces_bytes (pieces_of options.chunk options.span history) ++ spelled extras)

-- What the summary of a file in chunks is made of. Of the records at top level it takes the Attachments and the
-- Metadata.
abbrev pub noted : FileOptions → List Top → List Rec → Noted
noted options extras history = record {
  records = body_of history;
  blocks = blocks_from (length (front options.profile)) (pieces_of options.chunk options.span history);
  extras = alone_from (length (front options.profile)) (pieces_of options.chunk options.span history)
      ++ extras_from
      (length (front options.profile) + length (pieces_bytes (pieces_of options.chunk options.span history))) extras;
}

-- what stands behind the Data End: without a chunk size a Footer that names no summary
abbrev pub tail_by : Option ℕ → Noted → ℕ → List ℕ
tail_by None n at = framed footer_opcode (footer_text (footer_of_offsets 0 0 0)) ++ magic
tail_by (Some size) n at = summary_text n at

-- the file of these options, of these extras and of this history
unfoldable pub file_of : FileOptions → List Top → List Rec → List ℕ
file_of options extras history =
    let before = section options extras history ++ data_end in
    before ++ tail_by options.chunk (noted options extras history) (length before)

-- pieces up to the end of the n-th block
abbrev pub until_block : ℕ → List Piece → List Piece
until_block zero pieces = []
until_block (suc n) [] = []
until_block (suc n) (block records ∷ ps) = block records ∷ until_block n ps
until_block (suc n) (alone r ∷ ps) = alone r ∷ until_block (suc n) ps

-- the file of this history up to the end of its n-th block; the magic and the Header where n is 0
abbrev pub front_of : FileOptions → List Rec → ℕ → List ℕ
front_of options history n =
    front options.profile ++ pieces_bytes (until_block n (pieces_of options.chunk options.span history))

-- a first part of the whole
abbrev pub IsPrefix : List ℕ → List ℕ → Type 0
IsPrefix some whole = (rest : List ℕ) × (some ++ rest ≡ whole)
