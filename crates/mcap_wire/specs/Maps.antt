-- Maps from texts to texts: how one lies in a file.
use Rattle.std.specs.Prelude.{◌≡◌, ◌≢◌, ℕ, ◌+◌, ◌^◌, ◌<◌, List, ◌++◌, length, IsUtf8, All, AllPairs}
use Rattle.std.specs.Cmp.Lexicographic.{slice_cmp}
use Rattle.std.specs.List.{flat_map}
use Rattle.std.specs.Ordering.{nat_cmp}
use Rattle.std.specs.declared.cmp.Ordering.TheVariants.{Less}
use Rattle.mcap_wire.specs.Layout.{le, string}

-- ---- keys and values

-- a text that a length of four bytes can stand before
pub record IsText (text : List ℕ) : Type 0 where
  pub fits : length text < 2 ^ 32
  pub utf8 : IsUtf8 text

-- no two items have one key
abbrev pub KeysDiffer : {K V : Type 0} → List (K × V) → Type 0
KeysDiffer = AllPairs (λ p q. p.0 ≢ q.0)

-- ---- pairs of texts

pub record IsTextPair (pair : List ℕ × List ℕ) : Type 0 where
  pub key : IsText pair.0
  pub value : IsText pair.1

-- a map from texts to texts
pub record IsTextMap (pairs : List (List ℕ × List ℕ)) : Type 0 where
  pub texts : All IsTextPair pairs
  pub keys_differ : KeysDiffer pairs

-- each key is below all later ones, as bytes
abbrev pub KeysAscend : List (List ℕ × List ℕ) → Type 0
KeysAscend = AllPairs (λ p q. slice_cmp nat_cmp p.0 q.0 ≡ Less)

-- ---- how they lie

-- a pair: its key, then its value
abbrev pub pair_text : List ℕ × List ℕ → List ℕ
pair_text pair = string pair.0 ++ string pair.1

-- pairs, one behind the other
abbrev pub pair_texts : List (List ℕ × List ℕ) → List ℕ
pair_texts = flat_map pair_text

-- a map: the length of its pairs in four bytes, then its pairs
abbrev pub text_map : List (List ℕ × List ℕ) → List ℕ
text_map pairs = le 4 (length (pair_texts pairs)) ++ pair_texts pairs
