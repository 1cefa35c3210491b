-- What stops the reading of a map, whatever its keys and values are, and what is read of a map of texts at an offset.
use Rattle.std.specs.Prelude.{◌≡◌, ◌≢◌, ◌⊎◌, ℕ, ◌+◌, ◌^◌, ◌<◌, ◌≤◌, List, ◌++◌, length, Result, Ok, Err, All, Any}
use Rattle.std.specs.List.{flat_map}
use Rattle.mcap_wire.specs.declared.faults.Why.{Why}
use Rattle.mcap_wire.specs.declared.faults.Why.TheVariants.{Short, BadText, BadLength, DoubleKey}
use Rattle.mcap_wire.specs.Layout.{le, string, FieldAt, NumberAt, text_length, text_bytes}
use Rattle.mcap_wire.specs.Reading.{NumberFails, TextAt, TextFails, TextIsShort}
use Rattle.mcap_wire.specs.Maps.{IsText, KeysDiffer, IsTextMap, pair_texts, text_map}

-- ---- keys and values

-- what a map has for a key or for a value: a number of some bytes, or a text
pub data Plain : Type 0 where
  a_uint : ℕ → Plain
  a_string : Plain

abbrev pub PlainValue : Plain → Type 0
PlainValue (a_uint n) = ℕ
PlainValue a_string = List ℕ

-- its bytes
abbrev pub plain_text : (plain : Plain) → PlainValue plain → List ℕ
plain_text (a_uint n) value = le n value
plain_text a_string text = string text

-- the values that it can have
abbrev pub PlainFits : (plain : Plain) → PlainValue plain → Type 0
PlainFits (a_uint n) value = value < 256 ^ n
PlainFits a_string text = IsText text

-- it stands from one offset to another
abbrev pub PlainAt : (plain : Plain) → List ℕ → ℕ → PlainValue plain → ℕ → Type 0
PlainAt (a_uint n) bytes at value end = NumberAt n bytes at value end
PlainAt a_string bytes at text end = TextAt bytes at text end

-- why it can't be read
abbrev pub PlainFails : Plain → List ℕ → ℕ → Why → Type 0
PlainFails (a_uint n) bytes at why = NumberFails n bytes at why
PlainFails a_string bytes at why = TextFails bytes at why

-- an item has this key
abbrev pub HasKey : {K V : Type 0} → List (K × V) → K → Type 0
HasKey items key = Any (λ p. p.0 ≡ key) items

-- no item has this key
abbrev pub LacksKey : {K V : Type 0} → List (K × V) → K → Type 0
LacksKey items key = All (λ p. p.0 ≢ key) items

-- ---- what stops the reading of a map

abbrev pub PlainItem : Plain → Plain → Type 0
PlainItem key value = PlainValue key × PlainValue value

-- an item: its key, then its value
abbrev pub item_text : (key value : Plain) → PlainItem key value → List ℕ
item_text key value item = plain_text key item.0 ++ plain_text value item.1

abbrev pub ItemFits : (key value : Plain) → PlainItem key value → Type 0
ItemFits key value item = PlainFits key item.0 × PlainFits value item.1

-- behind these items a key can't be read, or a key that none of them has is read and the value behind it can't be
abbrev pub KeyOrValueFails : (key value : Plain) → List (PlainItem key value) → List ℕ → ℕ → Why → Type 0
KeyOrValueFails key value before bytes at why = PlainFails key bytes at why
    ⊎ ((k : PlainValue key) × (end : ℕ) × PlainAt key bytes at k end × LacksKey before k × PlainFails value bytes end why)

-- behind these items stands the key of one of them
abbrev pub KeyIsDouble : (key value : Plain) → List (PlainItem key value) → List ℕ → ℕ → Type 0
KeyIsDouble key value before bytes at = (k : PlainValue key) × (end : ℕ) × PlainAt key bytes at k end × HasKey before k

-- why the item behind these can't be read: it is cut short, a text of it is whole and isn't UTF-8, or its key stands before
abbrev pub ItemFails : (key value : Plain) → List (PlainItem key value) → List ℕ → ℕ → Why → Type 0
ItemFails key value before bytes at Short = ⊥
ItemFails key value before bytes at BadText = KeyOrValueFails key value before bytes at BadText
ItemFails key value before bytes at BadLength = KeyOrValueFails key value before bytes at Short
ItemFails key value before bytes at DoubleKey = KeyIsDouble key value before bytes at

-- some items can be read from the front, and another begins behind them and can't be
pub record MapStops (key value : Plain) (bytes : List ℕ) (why : Why) : Type 0 where
  pub before : List (PlainItem key value)
  pub at : ℕ
  pub field : FieldAt bytes 0 at (flat_map (item_text key value) before)
  pub items_fit : All (ItemFits key value) before
  pub keys_differ : KeysDiffer before
  pub begins : at < length bytes
  pub fails : ItemFails key value before bytes at why

-- the length of a map and its bytes are whole
abbrev pub MapIsWhole : List ℕ → ℕ → Type 0
MapIsWhole content at = at + 4 + text_length content at ≤ length content

-- why a map can't be read: it is cut short, or it is whole and its items stop
abbrev pub MapFails : (key value : Plain) → List ℕ → ℕ → Why → Type 0
MapFails key value content at Short = TextIsShort content at
MapFails key value content at BadText = MapIsWhole content at × MapStops key value (text_bytes content at) BadText
MapFails key value content at BadLength = MapIsWhole content at × MapStops key value (text_bytes content at) BadLength
MapFails key value content at DoubleKey = MapIsWhole content at × MapStops key value (text_bytes content at) DoubleKey

-- ---- what is read

-- a map of texts stands there
pub record PairsAt (content : List ℕ) (at : ℕ) (pairs : List (List ℕ × List ℕ)) (end : ℕ) : Type 0 where
  pub field : FieldAt content at end (text_map pairs)
  pub size : end ≡ at + 4 + length (pair_texts pairs)
  pub fits : length (pair_texts pairs) < 2 ^ 32
  pub is_map : IsTextMap pairs

-- why a map of texts can't be read
abbrev pub PairsFail : List ℕ → ℕ → Why → Type 0
PairsFail content at why = MapFails a_string a_string content at why

abbrev pub ReadsPairs : List ℕ → ℕ → Result (List (List ℕ × List ℕ) × ℕ) Why → Type 0
ReadsPairs content at (Ok r) = PairsAt content at r.0 r.1
ReadsPairs content at (Err why) = PairsFail content at why
