-- A data section, the records of a summary, and a Footer, one behind the other.
use Rattle.std.specs.Prelude.{◌≡◌, ◌⊎◌, ◌<◌, ◌+◌, ◌^◌, ℕ, List, [], ◌∷◌, ◌++◌, length, true}
use Rattle.mcap_wire.specs.declared.faults.Cut.{Cut}
use Rattle.rec_data.specs.Records.{header_opcode, data_end_opcode}
use Rattle.mcap_model.specs.Places.{Each}
use Rattle.mcap_model.specs.Tops.{Top, offset_behind}
use Rattle.mcap_model.specs.Rules.{HasDataEnd, stands_in_section}
use Rattle.summary_read.specs.PartSteps.{AreInside}
use Rattle.summary_check.specs.Cutting.{ArePlaced}

abbrev pub all_of : List Top → List Top → Top → List Top
all_of tops body foot = tops ++ (body ++ foot ∷ [])

-- the last of these records is the one Data End among them
pub record EndsWithDataEnd (tops : List Top) : Type 0 where
  pub section : List Top
  pub end : Top
  pub joined : tops ≡ section ++ end ∷ []
  pub kind : end.op ≡ data_end_opcode
  pub unended : HasDataEnd section → ⊥

-- a Header, or a record that may stand behind it in a data section
abbrev pub IsFrontRecord : Top → Type 0
IsFrontRecord t = (t.op ≡ header_opcode) ⊎ (stands_in_section t.op ≡ true)

-- these bytes, in which these records were cut, stand behind a data section from that offset on
pub record Laid (tops : List Top) (bytes : List ℕ) (cuts : List Cut) (start : ℕ) : Type 0 where
  pub ended : EndsWithDataEnd tops
  pub kinds : Each IsFrontRecord tops
  pub there : start ≡ offset_behind tops
  pub inside : AreInside bytes cuts
  pub placed : ArePlaced bytes cuts
  pub fits : start + length bytes < 2 ^ 64
