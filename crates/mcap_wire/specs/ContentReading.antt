-- Which field of a record's content is the first that can't be read.
use Rattle.std.specs.Prelude.{◌≡◌, ◌⊎◌, ℕ, suc, List, [], ◌∷◌}
use Rattle.mcap_wire.specs.declared.faults.Why.{Why}
use Rattle.mcap_wire.specs.Layout.{NumberAt}
use Rattle.mcap_wire.specs.Reading.{NumberFails, TextAt, TextFails, BytesAt, BytesFail}
use Rattle.mcap_wire.specs.ArrayReading.{ArrayAt, EntriesFail, CountsAt, CountsFail}
use Rattle.mcap_wire.specs.MapReading.{PairsAt, PairsFail}
use Rattle.mcap_wire.specs.Contents.{Kind, a_count_map, a_number, a_text, a_text_map, an_array, some_bytes, Value, Values, row, AllFit, ShowsRow}

-- a field stands from one offset to another
abbrev pub FieldStands : (kind : Kind) → List ℕ → ℕ → Value kind → ℕ → Type 0
FieldStands (a_number n) content at value end = NumberAt n content at value end
FieldStands a_text content at text end = TextAt content at text end
FieldStands (some_bytes n) content at bytes end = BytesAt n content at bytes end
FieldStands a_text_map content at pairs end = PairsAt content at pairs end
FieldStands an_array content at entries end = ArrayAt 8 content at entries end
FieldStands a_count_map content at counts end = CountsAt content at counts end

-- why a field can't be read
abbrev pub FieldFails : Kind → List ℕ → ℕ → Why → Type 0
FieldFails (a_number n) content at why = NumberFails n content at why
FieldFails a_text content at why = TextFails content at why
FieldFails (some_bytes n) content at why = BytesFail n content at why
FieldFails a_text_map content at why = PairsFail content at why
FieldFails an_array content at why = EntriesFail content at why
FieldFails a_count_map content at why = CountsFail content at why

-- of the fields from an offset on, of which the first has this number, each that is in front stands whole, and this one can't be read
abbrev pub FailsFrom : List Kind → List ℕ → ℕ → ℕ → ℕ → Why → Type 0
FailsFrom [] content at number field why = ⊥
FailsFrom (kind ∷ kinds) content at number field why = ((field ≡ number) × FieldFails kind content at why)
    ⊎ ((value : Value kind) × (end : ℕ) × FieldStands kind content at value end
    × FailsFrom kinds content end (suc number) field why)

-- the first field of a content that can't be read, counted from 1, and why
abbrev pub Fails : List Kind → List ℕ → ℕ → Why → Type 0
Fails kinds content field why = FailsFrom kinds content 0 1 field why

-- what holds of each row: a row that is written is shown, a content shows one, shows none where it is refused, and is refused in one way
pub record RowReadsBack (kinds : List Kind) : Type 0 where
  pub shown : (values : Values kinds) → AllFit kinds values → ShowsRow kinds (row kinds values []) values
  pub decided : (content : List ℕ) (values others : Values kinds) → ShowsRow kinds content values
      → ShowsRow kinds content others → values ≡ others
  pub refused : (content : List ℕ) (field : ℕ) (why : Why) (values : Values kinds) → Fails kinds content field why
      → ShowsRow kinds content values → ⊥
  pub one_fault : (content : List ℕ) (field other_field : ℕ) (why other_why : Why) → Fails kinds content field why
      → Fails kinds content other_field other_why → (field ≡ other_field) × (why ≡ other_why)
