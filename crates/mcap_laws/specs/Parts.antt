-- What repairing makes of a first part of a file that may be too long to be read.
use Rattle.std.specs.Prelude.{◌≡◌, ◌↔◌, ◌⊎◌, ℕ, ◌^◌, ◌<◌, ◌≤◌, List, [], ◌∷◌, ◌++◌, length, take, IsUtf8}
use Rattle.std.specs.List.{flat_map}
use Rattle.mcap_wire.specs.Layout.{content_limit, magic}
use Rattle.mcap_wire.specs.Limits.{file_limit}
use Rattle.rec_data.specs.declared.owned.Rec.{Rec}
use Rattle.rec_data.specs.Records.{header_text}
use Rattle.mcap_model.specs.declared.options.FileOptions.{FileOptions}
use Rattle.mcap_model.specs.declared.rules.Rule.TheVariants as rules
use Rattle.mcap_model.specs.Places.{At, Each}
use Rattle.mcap_model.specs.Tops.{Top, spelled, offset_behind}
use Rattle.mcap_model.specs.Rules.{V1}
use Rattle.mcap_model.specs.Kept.{Halts, reading_limits, at_end, grammar, beyond}
use Rattle.mcap_model.specs.History.{body_of, extras_in, without_repeats}
use Rattle.mcap_model.specs.Histories.{IdsAgree}
use Rattle.mcap_model.specs.Blocks.{Piece, pieces_of}
use Rattle.mcap_model.specs.File.{front, library, section, data_end, file_of, IsPrefix}
use Rattle.mcap_model.specs.Repaired.{Repaired}
use Rattle.mcap_model.specs.Recovery.{piece_records, offset_behind_piece}
use Rattle.mcap_model.specs.ReadBack.{IsReadBack, IsExtra}
use Rattle.mcap_model.specs.Laws.{IsNumberedRec, PieceIsShort}

-- Records and extras of whose file a first part may be read: their ids agree, the extras meet their rules, and no content up to the
-- Data End is longer than what is read. The file itself may be, and may have any number of blocks.
pub record CanBeReadInPart (options : FileOptions) (extras : List Top) (history : List Rec) : Type 0 where
  pub profile : IsUtf8 options.profile
  pub header : length (header_text (record { profile = options.profile; library = library })) ≤ content_limit
  pub records_fit : Each IsReadBack history
  pub numbered : Each IsNumberedRec history
  pub ids_agree : IdsAgree history
  pub extras_meet : Each IsExtra (extras_in history ++ extras)
  pub pieces : Each PieceIsShort (pieces_of options.chunk options.span history)
  pub extras_short : Each (λ t. length t.content ≤ content_limit) extras
  pub size_fits : length (file_of options extras history) < 2 ^ 64

-- A reading of the bytes, which keeps these records, halts where the next one is cut short; or at its head, where that declares an
-- end past what is read.
abbrev pub HaltsAtNext : List ℕ → List Top → Top → Type 0
HaltsAtNext some whole next = Halts reading_limits some whole (grammar (offset_behind whole) rules.V4)
    ⊎ ((file_limit < offset_behind (whole ++ next ∷ []))
    × Halts reading_limits some whole (beyond (offset_behind whole)))

-- What repairing makes of a first part of a file. Its whole records are the first ones of the file's up to the Data End, and its
-- reading halts after them: at the Data End if that is there, and else at the next one. It has the profile if the Header is whole
-- there; of the pieces those whose records are whole there, whether or not their Message Indexes are; and of the extras after the
-- pieces those that are whole there.
pub record PartIsRepaired (options : FileOptions) (extras : List Top) (history : List Rec) (some : List ℕ)
    : Type 0 where
  pub whole : List Top
  pub others : List Top
  pub are : section options extras history ++ data_end ≡ magic ++ spelled (whole ++ others)
  pub within : offset_behind whole ≤ length some
  pub cut : (t : Top) (more : List Top) → others ≡ t ∷ more → length some < offset_behind (whole ++ t ∷ [])
  pub complete : others ≡ [] → Halts reading_limits some whole (at_end (offset_behind whole))
  pub short : (t : Top) (more : List Top) → others ≡ t ∷ more → HaltsAtNext some whole t
  pub profile : List ℕ
  pub kept : List Top
  pub first : List Rec
  pub repaired : Repaired some profile kept first
  pub header : length (front options.profile) ≤ length some → profile ≡ options.profile
  pub no_header : length some < length (front options.profile) → profile ≡ []
  pub piece_count : ℕ
  pub first_is : first ≡ without_repeats (body_of
      (flat_map piece_records (take piece_count (pieces_of options.chunk options.span history))))
  pub pieces_are : (n : ℕ) (p : Piece) → At (pieces_of options.chunk options.span history) n p
      → (n < piece_count)
      ↔ (offset_behind_piece options (take n (pieces_of options.chunk options.span history)) p ≤ length some)
  pub extra_count : ℕ
  pub kept_is : kept ≡ extras_in
      (flat_map piece_records (take piece_count (pieces_of options.chunk options.span history)))
      ++ take extra_count extras
  pub extras_are : (n : ℕ) (t : Top) → At extras n t
      → (n < extra_count) ↔ (length (section options (take n extras ++ t ∷ []) history) ≤ length some)

-- of a first part of a file that holds the magic, and isn't too long itself, just what is whole there is kept
abbrev pub PartsAreRepaired : Type 0
PartsAreRepaired = (options : FileOptions) (some : List ℕ) (extras : List Top) (history : List Rec)
    → CanBeReadInPart options extras history → IsPrefix some (file_of options extras history) → V1 some
    → length some ≤ file_limit → PartIsRepaired options extras history some
