-- Whether each chunk has one Chunk Index.
use Rattle.std.specs.Prelude.{◌≡◌, ℕ, ◌<◌, List, Option, Some, None, Result, Ok, Err}
use Rattle.std.specs.List.Sorted.{IsNonDecreasingBy}
use Rattle.mcap_model.specs.Places.{At, Has}
use Rattle.mcap_model.specs.Tops.{Top}
use Rattle.mcap_model.specs.Fields.{ChunkIndexFields, IsChunkIndex}
use Rattle.indexed_replay.specs.declared.repeats.Lead.{Lead}
use Rattle.mcap_model.specs.declared.refusals.ReadingRefused.{ReadingRefused}
use Rattle.mcap_model.specs.declared.refusals.ReadingRefused.TheVariants as refusals
use Rattle.mcap_model.specs.declared.rules.Rule.TheVariants as rules

-- one of these records is a Chunk Index that leads there, and stands at the offset beside it
pub record Leads (tops : List Top) (offsets : List ℕ) (k : ℕ) (lead : Lead) : Type 0 where
  pub top : Top
  pub shown : ChunkIndexFields
  pub there : At tops k top
  pub is : IsChunkIndex top shown
  pub chunk : lead.chunk ≡ shown.offset
  pub at : At offsets k lead.at

-- these are all of them
pub record AreLeads (tops : List Top) (offsets : List ℕ) (leads : List Lead) : Type 0 where
  pub are : (lead : Lead) → Has leads lead → (k : ℕ) × Leads tops offsets k lead
  pub all : (k : ℕ) (lead : Lead) → Leads tops offsets k lead → Has leads lead

-- no two that lead to one chunk stand at different offsets
abbrev pub HaveOne : List Top → List ℕ → Type 0
HaveOne tops offsets = (j k : ℕ) (one other : Lead) → Leads tops offsets j one → Leads tops offsets k other
    → one.chunk ≡ other.chunk → one.at ≡ other.at

-- two lead to one chunk, and the later one stands at that offset
pub record HaveTwo (tops : List Top) (offsets : List ℕ) (offset : ℕ) : Type 0 where
  pub j : ℕ
  pub k : ℕ
  pub one : Lead
  pub other : Lead
  pub first : Leads tops offsets j one
  pub second : Leads tops offsets k other
  pub same : one.chunk ≡ other.chunk
  pub later : one.at < other.at
  pub is : other.at ≡ offset

-- ---- in order

abbrev pub Ascend : List Lead → Type 0
Ascend leads = IsNonDecreasingBy (λ (lead : Lead). lead.chunk) leads

-- two of them lead to one chunk, and the later one stands at that offset; or there are no such two
pub record FoundTwo (leads : List Lead) (offset : ℕ) : Type 0 where
  pub one : Lead
  pub other : Lead
  pub first : Has leads one
  pub second : Has leads other
  pub same : one.chunk ≡ other.chunk
  pub later : one.at < other.at
  pub is : other.at ≡ offset

abbrev pub FindsTwo : List Lead → Option ℕ → Type 0
FindsTwo leads (Some offset) = FoundTwo leads offset
FindsTwo leads None = (one other : Lead) → Has leads one → Has leads other → one.chunk ≡ other.chunk → one.at ≡ other.at

-- ---- what is answered

abbrev pub ApartRefused : List Top → List ℕ → ReadingRefused → Type 0
ApartRefused tops offsets (refusals.Fault faults) = ⊥
ApartRefused tops offsets (refusals.Grammar offset rule) = (rule ≡ rules.V12) × HaveTwo tops offsets offset
ApartRefused tops offsets (refusals.Compressed offset name) = ⊥
ApartRefused tops offsets (refusals.Limit offset) = ⊥
ApartRefused tops offsets refusals.Memory = Unit {0}

abbrev pub ApartJudged : List Top → List ℕ → Result Unit ReadingRefused → Type 0
ApartJudged tops offsets (Ok it) = HaveOne tops offsets
ApartJudged tops offsets (Err why) = ApartRefused tops offsets why
