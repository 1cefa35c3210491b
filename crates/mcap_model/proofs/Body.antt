-- What stands in front of the Data End of a file that can be written.
use Rattle.std.proofs.Common.{◌≡◌, ℕ, ◌+◌, ◌^◌, ◌<◌, List, [], ◌∷◌, ◌++◌, length, take, map, refl, ap, ◌∙◌, append_assoc, arith}
use Rattle.std.specs.Prelude.{IsUtf8, filter, not, false}
use Rattle.std.specs.List.{flat_map}
use Rattle.std.proofs.lemmas.List.{append-nil, length-append}
use Rattle.std.proofs.lemmas.Grind.{flat_map-append}
use Rattle.rec_data.specs.declared.owned.Rec.{Rec}
use Rattle.mcap_model.specs.declared.options.FileOptions.{FileOptions}
use Rattle.mcap_model.specs.Places.{At, Each}
use Rattle.mcap_model.specs.Tops.{Top, top_bytes, spelled, offset_behind, flattened, flat}
use Rattle.mcap_model.specs.Fields.{IsHeader}
use Rattle.mcap_model.specs.Rules.{V10}
use Rattle.mcap_model.specs.History.{rec_top, is_inner, body_of, extras_in}
use Rattle.mcap_model.specs.Blocks.{Piece, block, alone, pieces_of, chunk_bytes, logged_channels}
use Rattle.mcap_model.specs.File.{library, noted, file_of}
use Rattle.mcap_model.specs.Laws.{IsNumberedRec, index_top, EntriesFit, CanBeWritten}
use Rattle.mcap_model.specs.ReadBack.{IsReadBack, IsExtra}
use Rattle.mcap_model.proofs.Places.{at_kept}
use Rattle.mcap_model.proofs.Lists.{each_joined, cut_flat, at_second, filter_has}
use Rattle.mcap_model.proofs.Flat.{at_mapped}
use Rattle.mcap_model.proofs.Asides.{is_aside}
use Rattle.mcap_model.proofs.Edges.{header_top, end_top, ascii}
use Rattle.mcap_model.specs.Recovery.{piece_records}
use Rattle.mcap_model.proofs.Section.{piece_tops, each_held, pieces_body, blocks_inner, PieceIsSound, IsRight, piece_flat, extra_right, piece_right, each_parts, each_flat, pieces_flat, extras_flat, block_has, block_within}
use Rattle.mcap_model.proofs.Files.{body_tops, section_tops, summary_at, summary_tops, summary_foot, written_tops, file_spelled, length-spelled_append, length-file}
use Rattle.mcap_wire.proofs.Contents.{row_shown}
use Rattle.rec_data.specs.Records.{header_kinds}

-- what is asked of records and extras where they are written, or where they are read
pub record CanStand (options : FileOptions) (extras : List Top) (history : List Rec) : Type 0 where
  pub profile : IsUtf8 options.profile
  pub profile_fits : length options.profile < 2 ^ 32
  pub records_fit : Each IsReadBack history
  pub numbered : Each IsNumberedRec history
  pub extras_meet : Each IsExtra (extras_in history ++ extras)
  pub entries_fit : (n : ℕ) (records : List Rec) → At (pieces_of options.chunk options.span history) n (block records) → EntriesFit records
  pub size_fits : length (file_of options extras history) < 2 ^ 64

pub standing : (options : FileOptions) (extras : List Top) (history : List Rec) → CanBeWritten options extras history → CanStand options extras history
standing options extras history written = record {
  profile = written.profile;
  profile_fits = written.profile_fits;
  records_fit = written.records_fit;
  numbered = written.numbered;
  extras_meet = written.extras_meet;
  entries_fit = λ n records at. let has = block_has (pieces_of options.chunk options.span history) n records at in written.entries_fit has.0 records has.1;
  size_fits = written.size_fits;
}

module _ (options : FileOptions) (extras : List Top) (history : List Rec) (written : CanStand options extras history) where
  unfoldable pub header_is : IsHeader (header_top options.profile)
  header_is = record { kind = refl; profile = options.profile; library = library; layout = row_shown header_kinds (options.profile, (library, tt)) ((written.profile_fits, written.profile), ((omega arith, ascii), tt)) }

  -- the records up to the Data End are shorter than the file
  pub section_within : offset_behind (section_tops options extras history ++ end_top ∷ []) < 2 ^ 64
  section_within =
      let tail = summary_tops options.chunk (noted options extras history) (summary_at options extras history) ++ summary_foot options.chunk (noted options extras history) (summary_at options extras history) ∷ [] in
      let all = length-file (file_of options extras history) (written_tops options extras history) (file_spelled options extras history) in
      let parts = length-spelled_append (section_tops options extras history ++ end_top ∷ []) tail in
      let same : length (spelled ((section_tops options extras history ++ end_top ∷ []) ++ tail)) ≡ length (spelled (written_tops options extras history)) = ap (λ (l : List Top). length (spelled l)) (append_assoc (section_tops options extras history) (end_top ∷ []) tail) in
      let size = written.size_fits in
      omega (arith, all, parts, same, size)

  body_within : length (spelled (body_tops options extras history)) < 2 ^ 64
  body_within =
      let room = section_within in
      omega (arith, room, length-spelled_append (section_tops options extras history) (end_top ∷ []), length-append (top_bytes (header_top options.profile)) (spelled (body_tops options extras history)))

  -- the records of a piece are shorter than the file
  pub piece_within : (n : ℕ) (p : Piece) → At (pieces_of options.chunk options.span history) n p → length (spelled (piece_tops p)) < 2 ^ 64
  piece_within n p at =
      let ps = pieces_of options.chunk options.span history in
      let cut = cut_flat piece_tops ps n p at in
      let room = body_within in
      let size : length (spelled (flat_map piece_tops ps)) ≡ length (spelled (flat_map piece_tops (take n ps) ++ (piece_tops p ++ flat_map piece_tops cut.0))) = ap (λ (l : List Top). length (spelled l)) cut.1 in
      omega (
        arith,
        room,
        size,
        length-spelled_append (flat_map piece_tops ps) extras,
        length-spelled_append (flat_map piece_tops (take n ps)) (piece_tops p ++ flat_map piece_tops cut.0),
        length-spelled_append (piece_tops p) (flat_map piece_tops cut.0),
      )

  -- the extras behind the history, and those in it
  pub extras_behind : Each IsExtra extras
  extras_behind n t at = written.extras_meet (length (extras_in history) + n) t (at_second (extras_in history) extras n t at)

  pub extras_right : Each (λ r. is_inner r ≡ false → V10 (rec_top r)) history
  extras_right n r at aside =
      let has = filter_has is_aside history n r at (ap not aside) in
      let there = at_mapped rec_top (filter is_aside history) has.0 r has.1 in
      let meets = written.extras_meet has.0 (rec_top r) (at_kept (extras_in history) extras has.0 (rec_top r) there) in
      meets.v10

  pieces_keep : (P : Rec → Type 0) → Each P history → (n : ℕ) (p : Piece) → At (pieces_of options.chunk options.span history) n p → Each P (piece_records p)
  pieces_keep P each = each_parts P piece_records (pieces_of options.chunk options.span history) (each_held P options.chunk options.span history each)

  pub pieces_sound : (n : ℕ) (p : Piece) → At (pieces_of options.chunk options.span history) n p → PieceIsSound p
  pieces_sound n (alone r) at = pieces_keep (λ r. is_inner r ≡ false → V10 (rec_top r)) extras_right n (alone r) at 0 r refl
  pieces_sound n (block records) at =
      let room = piece_within n (block records) at in
      (omega (arith, room, block_within records, length-append (chunk_bytes records) (spelled (map (index_top records) (logged_channels records)))), (let fit = written.entries_fit in fit n records at), blocks_inner options.chunk options.span history n (block records) at)

  pub pieces_back : (n : ℕ) (p : Piece) → At (pieces_of options.chunk options.span history) n p → Each IsReadBack (piece_records p)
  pieces_back = pieces_keep IsReadBack written.records_fit

  pub pieces_numbered : (n : ℕ) (p : Piece) → At (pieces_of options.chunk options.span history) n p → Each IsNumberedRec (piece_records p)
  pieces_numbered = pieces_keep IsNumberedRec written.numbered

  pub body_right : Each IsRight (body_tops options extras history)
  body_right = each_joined IsRight (flat_map piece_tops (pieces_of options.chunk options.span history)) extras
      (each_flat IsRight piece_tops (pieces_of options.chunk options.span history) (λ n p at. piece_right p (pieces_back n p at) (pieces_numbered n p at) (pieces_sound n p at)))
      (λ n t at. extra_right t (extras_behind n t at))

  -- their flat records are those of the history
  pub body_flat : flat (body_tops options extras history) ≡ map rec_top (body_of history)
  body_flat =
      let ps = pieces_of options.chunk options.span history in
      let flat_pieces = pieces_flat ps (λ n p at. piece_flat p (pieces_back n p at) (pieces_numbered n p at) (pieces_sound n p at)) in
      flat_map-append flattened (flat_map piece_tops ps) extras
      ∙ ap (λ (l : List Top). flat (flat_map piece_tops ps) ++ l) (extras_flat extras extras_behind)
      ∙ append-nil (flat (flat_map piece_tops ps)) ∙ flat_pieces ∙ ap (map rec_top) (pieces_body options.chunk options.span history)

  pub section_flat : flat (section_tops options extras history) ≡ map rec_top (body_of history)
  section_flat = body_flat
