-- Where the parts of a file behind its Data End start.
use Rattle.std.specs.Prelude.{◌≡◌, ◌≢◌, ◌⊎◌, ◌<◌, ℕ, suc, List, take, Option, Some, None}
use Rattle.rec_data.specs.Records.{data_end_opcode}
use Rattle.rec_index.specs.Records.{summary_offset_opcode}
use Rattle.mcap_model.specs.Places.{At, Each}
use Rattle.mcap_model.specs.Tops.{Top}
use Rattle.mcap_model.specs.Rules.{HasDataEnd}
use Rattle.mcap_model.specs.Whole.{offset_of, InSummary, behind_end}
use Rattle.index_check.specs.declared.summary_places.SummaryPlaces.{SummaryPlaces}

-- the summary starts there, or there is none
abbrev pub IsStart : SummaryPlaces → ℕ → Type 0
IsStart places start = (start ≡ places.behind) ⊎ ((start ≡ 0) × (places.footer ≡ places.behind))

-- the first Summary Offset of the summary
abbrev pub IsFirstOffset : List Top → ℕ → Top → Type 0
IsFirstOffset tops k t = At tops k t × InSummary tops k × (t.op ≡ summary_offset_opcode)
    × Each (λ u. u.op ≢ summary_offset_opcode) (behind_end (take k tops))

abbrev pub FirstStands : List Top → Option ℕ → Type 0
FirstStands tops (Some offset) = (k : ℕ) × (t : Top) × IsFirstOffset tops k t × (offset ≡ offset_of tops k)
FirstStands tops None = (k : ℕ) (t : Top) → IsFirstOffset tops k t → ⊥

-- these are the places of a file, whose Footer stands at that place behind the first Data End
pub record PlacesOf (tops : List Top) (n : ℕ) (places : SummaryPlaces) : Type 0 where
  pub end : ℕ
  pub top : Top
  pub at : At tops end top
  pub kind : top.op ≡ data_end_opcode
  pub first : HasDataEnd (take end tops) → ⊥
  pub foot : Top
  pub at_foot : At tops n foot
  pub follows : end < n
  pub behind : places.behind ≡ offset_of tops (suc end)
  pub footer : places.footer ≡ offset_of tops n
  pub offset : FirstStands tops places.first_offset
