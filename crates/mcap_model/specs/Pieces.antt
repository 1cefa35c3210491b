-- The pieces in which a file is appended, and what stands of them where their writer stopped.
use Rattle.std.specs.Prelude.{◌≡◌, ℕ, List, [], ◌∷◌, ◌++◌, length, map, take}
use Rattle.std.specs.List.{flat_map}
use Rattle.rec_data.specs.declared.owned.Rec.{Rec}
use Rattle.mcap_model.specs.declared.options.FileOptions.{FileOptions}
use Rattle.mcap_model.specs.declared.ends.Stop.{Stop}
use Rattle.mcap_model.specs.declared.ends.Stop.TheVariants as stops
use Rattle.mcap_model.specs.Places.{At}
use Rattle.mcap_model.specs.Tops.{Top, top_bytes}
use Rattle.mcap_model.specs.Blocks.{pieces_of, piece_bytes}
use Rattle.mcap_model.specs.File.{front, data_end, section, noted, tail_by}

-- the pieces' bytes, one after the other
abbrev pub joined : List (List ℕ) → List ℕ
joined pieces = flat_map (λ piece. piece) pieces

-- the last piece of a file: the Data End and all behind it
abbrev pub back_of : FileOptions → List Top → List Rec → List ℕ
back_of options extras history = data_end
    ++ tail_by options.chunk (noted options extras history) (length (section options extras history ++ data_end))

-- What is appended of a file at once: the magic and the Header; each block, and each record of the history that stands
-- at top level; each extra behind them; and the back.
abbrev pub file_pieces : FileOptions → List Top → List Rec → List (List ℕ)
file_pieces options extras history = front options.profile
    ∷ (map piece_bytes (pieces_of options.chunk options.span history)
    ++ (map top_bytes extras ++ back_of options extras history ∷ []))

-- the whole pieces before a place
abbrev pub pieces_before : List (List ℕ) → ℕ → List ℕ
pieces_before pieces place = joined (take place pieces)

-- The writer stopped at the piece at that place. This text stands: the whole pieces before it, of so many bytes, and
-- perhaps some of the piece, but none of it unless the store failed.
pub record StoppedAt (pieces : List (List ℕ)) (place : ℕ) (stop : Stop) (text : List ℕ) (bytes : ℕ) : Type 0 where
  pub next : List ℕ
  pub at : At pieces place next
  pub some : ℕ
  pub split : text ≡ pieces_before pieces place ++ take some next
  pub unfailed : ((faults : ℕ) → stop ≡ stops.Fault faults → ⊥) → some ≡ 0
  pub size : bytes ≡ length (pieces_before pieces place)
