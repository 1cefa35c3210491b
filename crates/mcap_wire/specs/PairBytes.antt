-- The pairs of a map that is kept as its bytes.
use Rattle.std.specs.Prelude.{◌≡◌, ◌⊎◌, ℕ, zero, suc, ◌+◌, ◌<◌, List, [], ◌∷◌, length, take, drop, slice_index_or, ⊤, false, Result, Ok, Err, All}
use Rattle.std.specs.Ordering.{nat_cmp, is_gt}
use Rattle.std.specs.Cmp.Lexicographic.{slice_cmp}
use denote.Ref.{Bor}
use Rattle.mcap_wire.specs.declared.faults.Why.{Why}
use Rattle.mcap_wire.specs.declared.faults.Why.TheVariants.{Short, BadText, BadLength, DoubleKey}
use Rattle.mcap_wire.specs.declared.pair_bytes.Place.{Place}
use Rattle.mcap_wire.specs.declared.pair_bytes.Place.TheVariants.{New, Double, Unordered}
use Rattle.mcap_wire.specs.Reading.{TextAt, TextIsShort, TextIsBad}
use Rattle.mcap_wire.specs.Layout.{text_length, text_bytes}
use Rattle.mcap_wire.specs.Maps.{IsTextPair, KeysDiffer, IsTextMap, pair_texts}
use Rattle.mcap_wire.specs.MapReading.{a_string, HasKey, LacksKey, MapStops}

-- what stands behind the first text
abbrev pub behind_text : List ℕ → List ℕ
behind_text bytes = drop (4 + text_length bytes 0) bytes

-- the first n pairs
unfoldable pub pairs_in : ℕ → List ℕ → List (List ℕ × List ℕ)
pairs_in zero bytes = []
pairs_in (suc n) bytes =
    (text_bytes bytes 0, text_bytes (behind_text bytes) 0) ∷ pairs_in n (behind_text (behind_text bytes))

-- these bytes are n pairs, whose keys may be equal
pub record SpellsPairs (bytes : List ℕ) (n : ℕ) : Type 0 where
  pub spelled : bytes ≡ pair_texts (pairs_in n bytes)
  pub texts : All IsTextPair (pairs_in n bytes)

-- these bytes are a map of n pairs
pub record HoldsMap (bytes : List ℕ) (n : ℕ) : Type 0 where
  pub spelled : bytes ≡ pair_texts (pairs_in n bytes)
  pub is_map : IsTextMap (pairs_in n bytes)

abbrev pub CountsPairs : List ℕ → Result ℕ Why → Type 0
CountsPairs bytes (Ok n) = HoldsMap bytes n
CountsPairs bytes (Err why) = MapStops a_string a_string bytes why

-- a pair has the key of an earlier one
abbrev pub KeyTwice : List (List ℕ × List ℕ) → Type 0
KeyTwice pairs = (i : ℕ) × (i < length pairs) × HasKey (take i pairs) (slice_index_or pairs i ([], [])).0

-- the first of two faults: a key stands twice among these pairs, or their keys differ and there is another
abbrev pub IsFirstFault : List (List ℕ × List ℕ) → Why → Why → Type 0
IsFirstFault pairs why first = ((first ≡ DoubleKey) × KeyTwice pairs) ⊎ ((first ≡ why) × KeysDiffer pairs)

-- the same where a key was read behind them
abbrev pub IsFirstFaultBehind : List (List ℕ × List ℕ) → List ℕ → Why → Why → Type 0
IsFirstFaultBehind pairs key why first = ((first ≡ DoubleKey) × KeyTwice pairs)
    ⊎ (KeysDiffer pairs × (((first ≡ DoubleKey) × HasKey pairs key) ⊎ ((first ≡ why) × LacksKey pairs key)))

-- where a key stands behind these pairs
abbrev pub IsPlaceOf : List (List ℕ × List ℕ) → List ℕ → Place → Type 0
IsPlaceOf pairs key New = LacksKey pairs key
IsPlaceOf pairs key Double = HasKey pairs key
IsPlaceOf pairs key Unordered = ⊤

-- no key is above this one
abbrev pub NoneAbove : List (List ℕ × List ℕ) → List ℕ → Type 0
NoneAbove pairs largest = All (λ p. is_gt (slice_cmp nat_cmp p.0 largest) ≡ false) pairs

-- some text stands there
abbrev pub TextStands : List ℕ → ℕ → Type 0
TextStands bytes at = (text : List ℕ) × (end : ℕ) × TextAt bytes at text end

-- why a text of a pair can't be read
abbrev pub PartFails : List ℕ → ℕ → Why → Type 0
PartFails bytes at Short = ⊥
PartFails bytes at BadText = TextIsBad bytes at
PartFails bytes at BadLength = TextIsShort bytes at
PartFails bytes at DoubleKey = ⊥

abbrev pub ReadsPairText : List ℕ → ℕ → Result (Bor (List ℕ) × ℕ) Why → Type 0
ReadsPairText bytes at (Ok r) = TextAt bytes at r.0.now r.1
ReadsPairText bytes at (Err why) = PartFails bytes at why
