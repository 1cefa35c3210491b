-- A file without extras in its history has no more records than bytes.
use Rattle.std.proofs.Common.{◌≡◌, ◌≤◌, ℕ, Option, true, List, [], ◌∷◌, ◌++◌, length, sym, ap, ◌∙◌, arith}
use Rattle.std.proofs.lemmas.List.{length-append}
use Rattle.mcap_wire.proofs.Framing.{length-framed}
use Rattle.rec_data.specs.declared.owned.Rec.{Rec}
use Rattle.rec_data.specs.Owned.{rec_bytes, rec_opcode, rec_text}
use Rattle.mcap_model.specs.declared.options.FileOptions.{FileOptions}
use Rattle.mcap_model.specs.Tops.{Top, spelled}
use Rattle.mcap_model.specs.Places.{Each}
use Rattle.mcap_model.specs.History.{history_bytes, is_inner}
use Rattle.mcap_model.specs.Blocks.{Piece, block, alone, pieces_of, piece_bytes, pieces_bytes, chunk_bytes, indexes_bytes, logged_channels}
use Rattle.mcap_model.specs.File.{front, data_end, section, tail_by, noted, file_of}
use Rattle.mcap_model.specs.Recovery.{piece_records}
use Rattle.mcap_model.specs.Laws.{IsInner}
use Rattle.mcap_model.proofs.Asides.{body_whole}
use Rattle.mcap_model.proofs.Section.{held, each_held, pieces_body, block_within}

records_few : (records : List Rec) → length records ≤ length (history_bytes records)
records_few [] = omega arith
records_few (r ∷ rs) = omega (arith, records_few rs, length-framed (rec_opcode r) (rec_text r), length-append (rec_bytes r) (history_bytes rs))

piece_few : (p : Piece) → length (piece_records p) ≤ length (piece_bytes p)
piece_few (block records) = omega (arith, records_few records, block_within records, length-append (chunk_bytes records) (indexes_bytes records (logged_channels records)))
piece_few (alone r) = omega (arith, length-framed (rec_opcode r) (rec_text r))

pieces_few : (ps : List Piece) → length (held ps) ≤ length (pieces_bytes ps)
pieces_few [] = omega arith
pieces_few (p ∷ ps) = omega (arith, piece_few p, pieces_few ps, length-append (piece_records p) (held ps), length-append (piece_bytes p) (pieces_bytes ps))

pieces_hold : (size span : Option ℕ) (history : List Rec) → Each IsInner history → held (pieces_of size span history) ≡ history
pieces_hold size span history inner =
    sym (body_whole (held (pieces_of size span history)) (each_held IsInner size span history inner)) ∙ pieces_body size span history ∙ body_whole history inner

pub history_few : (options : FileOptions) (extras : List Top) (history : List Rec) → Each (λ r. is_inner r ≡ true) history → length history ≤ length (file_of options extras history)
unfolding file_of
history_few options extras history inner =
    let pieces = pieces_of options.chunk options.span history in
    let body = pieces_bytes pieces ++ spelled extras in
    let before = section options extras history ++ data_end in
    let same = ap (λ (l : List Rec). length l) (pieces_hold options.chunk options.span history inner) in
    omega (
      arith,
      same,
      pieces_few pieces,
      length-append (pieces_bytes pieces) (spelled extras),
      length-append (front options.profile) body,
      length-append (section options extras history) data_end,
      length-append before (tail_by options.chunk (noted options extras history) (length before)),
    )
