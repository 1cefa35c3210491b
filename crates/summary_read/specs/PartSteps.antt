-- Records that were cut from a summary, and what is listed of them.
use Rattle.std.specs.Prelude.{◌≡◌, ℕ, ◌+◌, ◌-◌, ◌≤◌, List, length, map, Option, Some, None}
use Rattle.mcap_wire.specs.declared.faults.Cut.{Cut}
use Rattle.mcap_wire.specs.Layout.{part}
use Rattle.rec_data.specs.declared.footer.Footer.{Footer}
use Rattle.rec_data.specs.Records.{header_opcode}
use Rattle.rec_index.specs.declared.summary_statistics.Statistics.{Statistics}
use Rattle.rec_index.specs.Parsed.{statistics_fields}
use Rattle.mcap_model.specs.Places.{At, Each}
use Rattle.mcap_model.specs.Tops.{Top}
use Rattle.mcap_model.specs.Fields.{IsStatistics}
use Rattle.mcap_model.specs.Rules.{V6}
use Rattle.mcap_model.specs.Made.{top}
use Rattle.mcap_model.specs.Plain.{cut_top}
use Rattle.rec_index.specs.Records.{chunk_index_opcode}
use Rattle.summary_read.specs.Parts.{Parts, offsets_of_kind, AreListed}

-- ---- how they are held

-- a record that was cut from the summary stands in it, and its content can be read
pub record IsSummaryCut (summary : List ℕ) (op : ℕ) (c : Cut) : Type 0 where
  pub kind : c.op ≡ op
  pub head : 9 ≤ c.from
  pub begins : c.from ≤ c.to
  pub ends : c.to ≤ length summary
  pub layout : V6 (cut_top summary c)

abbrev pub AreHeld : List ℕ → ℕ → List Cut → Type 0
AreHeld summary op cuts = Each (IsSummaryCut summary op) cuts

-- the contents of records that were cut stand in the summary
abbrev pub AreInside : List ℕ → List Cut → Type 0
AreInside summary cuts = Each (λ c. (c.from ≤ c.to) × (c.to ≤ length summary)) cuts

-- the content of the record that was cut at that place
abbrev pub IsContentAt : List ℕ → List Cut → ℕ → List ℕ → Type 0
IsContentAt summary cuts i content = (c : Cut) × At cuts i c × (content ≡ part c.from c.to summary)

-- the records that were cut
abbrev pub cut_tops : List ℕ → List Cut → List Top
cut_tops summary cuts = map (cut_top summary) cuts

-- the offsets of the records that were cut from a summary which starts there: their heads have nine bytes
abbrev pub offsets_of : ℕ → List Cut → List ℕ
offsets_of start cuts = map (λ c. start + (c.from - 9)) cuts

-- the Header of that content, the Footer, and the records that were cut, listed
pub record ListsParts (header : List ℕ) (footer : Footer) (summary : List ℕ) (cuts : List Cut) (p : Parts)
    : Type 0 where
  pub header_is : p.header ≡ top header_opcode header
  pub footer_is : p.footer ≡ footer
  pub listed : AreListed (cut_tops summary cuts) p
  pub placed : p.chunk_index_offsets ≡ offsets_of_kind chunk_index_opcode footer.summary_start (cut_tops summary cuts)

-- ---- what is given of them

-- the record at that place is such a one
abbrev pub IsSuchAt : List Top → ℕ → (Top → Type 0) → Type 0
IsSuchAt tops i Is = (t : Top) × At tops i t × Is t

-- the Statistics is shown, if there is one
abbrev pub GivesStatistics : Option Top → Option Statistics → Type 0
GivesStatistics None None = Unit {0}
GivesStatistics None (Some s) = ⊥
GivesStatistics (Some t) None = ⊥
GivesStatistics (Some t) (Some s) = IsStatistics t (statistics_fields s)
