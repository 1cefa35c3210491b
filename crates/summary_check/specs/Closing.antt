-- The Footer that was cut, and the records in front of it.
use Rattle.std.specs.Prelude.{List, [], ◌∷◌, ◌++◌, ℕ, ◌+◌, ◌≤◌, length}
use Rattle.mcap_wire.specs.declared.faults.Cut.{Cut}
use Rattle.rec_data.specs.declared.footer.Footer.{Footer}
use Rattle.mcap_model.specs.Fields.{IsFooter}
use Rattle.mcap_model.specs.Plain.{cut_top}
use Rattle.summary_check.specs.declared.summary.Summary.{Summary}
use Rattle.summary_check.specs.Cutting.{AreCutBehind}

abbrev pub IsOfFooter : List ℕ → Cut → Footer → Type 0
IsOfFooter bytes foot f = IsFooter (cut_top bytes foot) f.summary_start f.summary_offset_start f.summary_crc

-- the record that was cut is none
abbrev pub NoFooter : List ℕ → Cut → Type 0
NoFooter bytes foot = (summary offsets crc : ℕ) → IsFooter (cut_top bytes foot) summary offsets crc → ⊥

-- the bytes are these records and that Footer
pub record CutWithFooter (bytes : List ℕ) (s : Summary) : Type 0 where
  pub are : AreCutBehind bytes (s.cuts.items ++ s.foot ∷ [])
  pub footer : IsOfFooter bytes s.foot s.footer
  pub room : s.foot.from + 16 ≤ length bytes
