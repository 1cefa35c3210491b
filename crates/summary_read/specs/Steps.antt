-- The steps of loading.
use Rattle.std.specs.Prelude.{◌≡◌, ℕ, List, Some, Result, Ok, Err, ◌⊎◌, ◌↔◌, ◌+◌, ◌-◌, ◌≤◌, [], ◌∷◌, ◌++◌, length, take, drop, Bool, true, false, Option, None, Vec, vec_len}
use Rattle.mcap_io.specs.Stores.{StoreState}
use Rattle.mcap_model.specs.declared.refusals.ReadingRefused.{ReadingRefused}
use Rattle.summary_read.specs.Loading.{PlainCause, AskedFor, IsUnsummed, IsUnloaded, IsLoadRefused}
use Rattle.mcap_io.specs.declared.outside.Failed.{Failed}
use Rattle.mcap_wire.specs.declared.faults.Cut.{Cut}
use Rattle.mcap_wire.specs.Layout.{le, content_limit}
use Rattle.mcap_wire.specs.Reading.{IsCut}
use Rattle.rec_data.specs.declared.footer.Footer.{Footer}
use Rattle.mcap_model.specs.Places.{Each}
use Rattle.mcap_model.specs.Tops.{Top, top_bytes, spelled, declared_length, StandsIn}
use Rattle.mcap_model.specs.Rules.{V1, V6}
use Rattle.mcap_model.specs.Whole.{V2, stands_in_summary}
use Rattle.mcap_model.specs.Made.{top}
use Rattle.mcap_model.specs.Plain.{cut_top}
use Rattle.mcap_model.specs.declared.refusals.ReadingRefused.TheVariants as refusals
use Rattle.mcap_model.specs.declared.refusals.IndexedRefused.{IndexedRefused}
use Rattle.mcap_model.specs.declared.refusals.IndexedRefused.TheVariants as by_index
use Rattle.mcap_model.specs.declared.rules.Rule.TheVariants as rules
use Rattle.mcap_model.specs.declared.rules.Rule.{Rule}
use Rattle.mcap_wire.specs.Limits.{file_limit}
use Rattle.rec_data.specs.Records.{header_opcode}
use Rattle.summary_read.specs.Reached.{summary_limit, RecordShowsFooter, EndsIn, HasNoSummary, BreaksFirst, DeclaresPast, FailsLoading, Passes, FailsInside, PassesInside}
use Rattle.summary_read.specs.PartSteps.{cut_tops, AreInside}
use Rattle.summary_read.specs.Parts.{IsSummaryRecord}

-- ---- the ends of a file

-- a refusal that comes of the bytes alone
abbrev pub IsOfBytes : ReadingRefused → Type 0
IsOfBytes (refusals.Fault faults) = ⊥
IsOfBytes (refusals.Grammar offset rule) = Unit {0}
IsOfBytes (refusals.Compressed offset name) = ⊥
IsOfBytes (refusals.Limit offset) = Unit {0}
IsOfBytes refusals.Memory = Unit {0}

abbrev pub IsOfEnd : IndexedRefused → Type 0
IsOfEnd (by_index.NotIndexed why) = IsUnsummed why
IsOfEnd (by_index.Refused why) = IsOfBytes why

-- bytes begin with that Footer, or with none
abbrev pub BeginsWithFooter : List ℕ → Option Footer → Type 0
BeginsWithFooter bytes (Some f) = (t : Top) × (rest : List ℕ) × (bytes ≡ top_bytes t ++ rest) × RecordShowsFooter t f
BeginsWithFooter bytes None =
    (f : Footer) (t : Top) (rest : List ℕ) → bytes ≡ top_bytes t ++ rest → RecordShowsFooter t f → ⊥

-- the Footer names a summary that can be read
pub record NamesPart (file : List ℕ) (f : Footer) : Type 0 where
  pub v2 : V2 file
  pub ends : EndsIn file f
  pub behind : 8 ≤ f.summary_start
  pub before : f.summary_start + 37 ≤ length file
  pub file_fits : length file ≤ file_limit
  pub summary_fits : length file - 37 - f.summary_start ≤ summary_limit
  pub some : HasNoSummary file → ⊥

-- why a file isn't loaded by its end, where it begins with the magic
abbrev pub EndStops : List ℕ → ReadingRefused → Type 0
EndStops file (refusals.Fault faults) = Unit {0}
EndStops file (refusals.Grammar offset rule) = (V1 file → FailsLoading file rule offset) × (HasNoSummary file → ⊥)
EndStops file (refusals.Compressed offset name) = ⊥
EndStops file (refusals.Limit offset) = Passes file offset × (HasNoSummary file → ⊥)
EndStops file refusals.Memory = Unit {0}

abbrev pub FooterJudged : List ℕ → Result Footer ReadingRefused → Type 0
FooterJudged file (Ok f) = NamesPart file f
FooterJudged file (Err why) = EndStops file why

abbrev pub EndJudged : List ℕ → Result Footer IndexedRefused → Type 0
EndJudged file (Ok f) = NamesPart file f
EndJudged file (Err (by_index.NotIndexed why)) = IsUnsummed why × HasNoSummary file
EndJudged file (Err (by_index.Refused why)) = EndStops file why

abbrev pub FooterFound : List ℕ → Result Footer IndexedRefused → Type 0
FooterFound file (Ok f) = NamesPart file f
FooterFound file (Err why) = IsLoadRefused file why

-- the file begins with the magic and the head of a Header, whose content is whole
pub record HasHead (file : List ℕ) (len : ℕ) : Type 0 where
  pub v1 : V1 file
  pub spelled_there : drop 8 file ≡ 1 ∷ (le 8 len ++ drop 17 file)
  pub within : len ≤ content_limit
  pub whole : 25 + len ≤ length file

abbrev pub FrontJudged : List ℕ → Result ℕ ReadingRefused → Type 0
FrontJudged file (Ok len) = HasHead file len
FrontJudged file (Err why) = IsUnloaded file why

-- ---- what was read of a store

-- the bytes and the length that the store tells stay, and it was asked for at most so many bytes
pub record AsksAtMost (old new : StoreState) (len : ℕ) : Type 0 where
  pub bytes : new.bytes ≡ old.bytes
  pub known : new.known ≡ old.known
  pub asked : new.asked ≤ old.asked + len

-- the Footer of a file of that length names a place in it
pub record FooterNamesPlace (len : ℕ) (f : Footer) : Type 0 where
  pub whole : 37 ≤ len
  pub behind : 8 ≤ f.summary_start
  pub before : f.summary_start + 37 ≤ len

-- where the store tells a file of that length, its end is judged
abbrev pub TellsEnd : Option (List ℕ) → ℕ → Result Footer IndexedRefused → Type 0
TellsEnd told len result = (file : List ℕ) → told ≡ Some file → length file ≡ len → EndJudged file result

abbrev pub TellsFooter : Option (List ℕ) → ℕ → Result Footer IndexedRefused → Type 0
TellsFooter told len result = (file : List ℕ) → told ≡ Some file → length file ≡ len → FooterFound file result

-- whether it begins with the magic
abbrev pub BeginsIs : List ℕ → Result Bool Failed → Type 0
BeginsIs file (Ok begins) = (begins ≡ true) ↔ V1 file
BeginsIs file (Err why) = Unit {0}

abbrev pub TellsMagic : Option (List ℕ) → ℕ → Result Bool Failed → Type 0
TellsMagic told len result = (file : List ℕ) → told ≡ Some file → length file ≡ len → BeginsIs file result

-- a rule that fails by the end is told, or the first magic isn't there
abbrev pub TellsRefused : Option (List ℕ) → ℕ → ℕ → Rule → ReadingRefused → Type 0
TellsRefused told len offset rule why = (file : List ℕ) → told ≡ Some file → length file ≡ len
    → EndStops file (refusals.Grammar offset rule) → IsUnloaded file why

-- its front
abbrev pub TellsFront : Option (List ℕ) → ℕ → Result ℕ ReadingRefused → Type 0
TellsFront told len result =
    (file : List ℕ) → told ≡ Some file → length file ≡ len → (HasNoSummary file → ⊥) → FrontJudged file result

-- so many bytes from there on, where the store tells; or it failed, or memory lacked
abbrev pub TellsPart : {Y : Type 0} → Option (List ℕ) → ℕ → ℕ → Result (Vec ℕ Y) ReadingRefused → Type 0
TellsPart told at len (Ok part) =
    (vec_len part ≡ len) × ((file : List ℕ) → told ≡ Some file → part.items ≡ take len (drop at file))
TellsPart told at len (Err (refusals.Fault faults)) = Unit {0}
TellsPart told at len (Err (refusals.Grammar offset rule)) = ⊥
TellsPart told at len (Err (refusals.Compressed offset name)) = ⊥
TellsPart told at len (Err (refusals.Limit offset)) = ⊥
TellsPart told at len (Err refusals.Memory) = Unit {0}

-- the Header stands behind the magic
pub record HasHeader (file content : List ℕ) : Type 0 where
  pub v1 : V1 file
  pub stands : StandsIn file 8 (top header_opcode content)

abbrev pub HeaderJudged : {Y : Type 0} → List ℕ → Result (Vec ℕ Y) ReadingRefused → Type 0
HeaderJudged file (Ok content) = HasHeader file content.items
HeaderJudged file (Err why) = IsUnloaded file why

abbrev pub TellsHeader : {Y : Type 0} → Option (List ℕ) → ℕ → Result (Vec ℕ Y) ReadingRefused → Type 0
TellsHeader told len result =
    (file : List ℕ) → told ≡ Some file → length file ≡ len → (HasNoSummary file → ⊥) → HeaderJudged file result

-- the magic, the head of the Header and the content that it declares were asked for
abbrev pub HeaderAsks : StoreState → StoreState → ℕ → Type 0
HeaderAsks old new len = (file : List ℕ) → old.bytes ≡ Some file → length file ≡ len → (HasNoSummary file → ⊥)
    → new.asked ≤ old.asked + 17 + declared_length (drop 8 file)

-- ---- the records of the summary

-- a record keeps the rules that are looked at, or breaks one of them
abbrev pub Judged : Top → Option Rule → Type 0
Judged t None = (stands_in_summary t.op ≡ true) × V6 t
Judged t (Some rule) = ((rule ≡ rules.V5) × (stands_in_summary t.op ≡ false)) ⊎ ((rule ≡ rules.V6) × (V6 t → ⊥))

-- the record there was cut, and may stand in a summary
pub record IsTaken (bytes : List ℕ) (at : ℕ) (c : Cut) : Type 0 where
  pub is : IsCut bytes at c
  pub kind : stands_in_summary c.op ≡ true
  pub layout : V6 (cut_top bytes c)

abbrev pub RecordCut : List ℕ → ℕ → ℕ → Result Cut ReadingRefused → Type 0
RecordCut bytes at start (Ok c) = IsTaken bytes at c
RecordCut bytes at start (Err (refusals.Fault faults)) = ⊥
RecordCut bytes at start (Err (refusals.Grammar offset rule)) = (offset ≡ start + at) × BreaksFirst (drop at bytes) rule
RecordCut bytes at start (Err (refusals.Compressed offset name)) = ⊥
RecordCut bytes at start (Err (refusals.Limit offset)) = (offset ≡ start + at) × DeclaresPast (drop at bytes)
RecordCut bytes at start (Err refusals.Memory) = ⊥

-- the records stand one behind the other, the first at the first offset, and the last ends at the other
abbrev pub InRow : ℕ → List Cut → ℕ → Type 0
InRow at [] end = at ≡ end
InRow at (c ∷ cs) end = (c.from ≡ at + 9) × InRow c.to cs end

-- so far these records were cut
pub record CutsTo (bytes : List ℕ) (at : ℕ) (cuts : List Cut) : Type 0 where
  pub within : at ≤ length bytes
  pub split : bytes ≡ spelled (cut_tops bytes cuts) ++ drop at bytes
  pub there : at ≡ length (spelled (cut_tops bytes cuts))
  pub row : InRow 0 cuts at
  pub inside : AreInside bytes cuts
  pub sound : Each IsSummaryRecord (cut_tops bytes cuts)

-- all records of the summary were cut
pub record AreCut (bytes : List ℕ) (cuts : List Cut) : Type 0 where
  pub split : bytes ≡ spelled (cut_tops bytes cuts)
  pub row : InRow 0 cuts (length bytes)
  pub inside : AreInside bytes cuts
  pub sound : Each IsSummaryRecord (cut_tops bytes cuts)

abbrev pub SummaryCut : {Y : Type 0} → List ℕ → ℕ → Result (Vec Cut Y) ReadingRefused → Type 0
SummaryCut bytes start (Ok cuts) = AreCut bytes cuts.items
SummaryCut bytes start (Err (refusals.Fault faults)) = ⊥
SummaryCut bytes start (Err (refusals.Grammar offset rule)) = FailsInside bytes start rule offset
SummaryCut bytes start (Err (refusals.Compressed offset name)) = ⊥
SummaryCut bytes start (Err (refusals.Limit offset)) = PassesInside bytes start offset
SummaryCut bytes start (Err refusals.Memory) = Unit {0}

-- ---- causes, and what is asked for

abbrev pub StepCause : {P : Type 0} → ℕ → ℕ → Result P ReadingRefused → Type 0
StepCause before now (Ok it) = now ≡ before
StepCause before now (Err why) = PlainCause before now why

abbrev pub AsksLittle : StoreState → StoreState → Type 0
AsksLittle old new = (file : List ℕ) → old.bytes ≡ Some file → AskedFor file old.asked new.asked
