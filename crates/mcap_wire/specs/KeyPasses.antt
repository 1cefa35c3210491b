-- Passes over the keys of a map, each of which takes the smallest keys above a bound into a window.
use Rattle.std.specs.Prelude.{◌≡◌, ◌≢◌, ◌⊎◌, ℕ, ◌+◌, ◌≤◌, List, length, take, Option, Some, None, Bool, true, false, All, AllPairs, Any}
use Rattle.std.specs.List.{AllWithin}
use Rattle.std.specs.Ordering.{nat_cmp, is_gt}
use Rattle.std.specs.Cmp.Lexicographic.{slice_cmp}
use Rattle.std.specs.declared.cmp.Ordering.TheVariants.{Less}
use denote.Ref.{Bor}
use Rattle.mcap_wire.specs.declared.key_passes.Window.{Window}
use Rattle.mcap_wire.specs.declared.key_passes.Pass.{Pass}
use Rattle.mcap_wire.specs.declared.key_passes.Pass.TheVariants.{Double, Last, Up}
use Rattle.mcap_wire.specs.Layout.{text_length, text_bytes}
use Rattle.mcap_wire.specs.MapReading.{HasKey}
use Rattle.mcap_wire.specs.PairBytes.{KeyTwice}

-- ---- keys at places

-- a text is whole there
pub record TextThere (bytes : List ℕ) (at : ℕ) : Type 0 where
  pub head : at + 4 ≤ length bytes
  pub whole : at + 4 + text_length bytes at ≤ length bytes

-- one key is below another
abbrev pub IsBelow : List ℕ → List ℕ → Type 0
IsBelow one other = slice_cmp nat_cmp one other ≡ Less

-- the keys at these places ascend
abbrev pub KeysGoUp : List ℕ → List ℕ → Type 0
KeysGoUp bytes places = AllPairs (λ p q. IsBelow (text_bytes bytes p) (text_bytes bytes q)) places

-- a key belongs between the keys before an index and those from it on
pub record BelongsAt (bytes places key : List ℕ) (i : ℕ) : Type 0 where
  pub within : i ≤ length places
  pub before : AllWithin (λ p. IsBelow (text_bytes bytes p) key) places 0 i
  pub behind : AllWithin (λ p. IsBelow key (text_bytes bytes p)) places i (length places)

-- where a key belongs among ascending ones; or it is one of them
abbrev pub FindsKeyPlace : List ℕ → List ℕ → List ℕ → Option ℕ → Type 0
FindsKeyPlace bytes places key (Some i) = BelongsAt bytes places key i
FindsKeyPlace bytes places key None = Any (λ p. text_bytes bytes p ≡ key) places

-- whether a key is above a bound, if there is one
abbrev pub is_above : Option (Bor (List ℕ)) → List ℕ → Bool
is_above None key = true
is_above (Some bound) key = is_gt (slice_cmp nat_cmp key bound.now)

-- ---- windows

-- how many keys a window takes
abbrev pub window_room : ℕ
window_room = 4096

-- the places in a window
abbrev pub kept_places : Window → List ℕ
kept_places w = take w.len w.places

pub record IsWindow (bytes : List ℕ) (w : Window) : Type 0 where
  pub places : length w.places ≡ window_room
  pub fits : w.len ≤ window_room
  pub full : w.passed ≡ true → w.len ≡ window_room
  pub texts : All (TextThere bytes) (kept_places w)
  pub order : KeysGoUp bytes (kept_places w)

-- a key stands in a window
abbrev pub IsHeld : List ℕ → Window → List ℕ → Type 0
IsHeld bytes w key = Any (λ p. text_bytes bytes p ≡ key) (kept_places w)

-- a key is above all in a window, which has passed by others
pub record IsBeyond (bytes : List ℕ) (w : Window) (key : List ℕ) : Type 0 where
  pub passed : w.passed ≡ true
  pub above : All (λ p. IsBelow (text_bytes bytes p) key) (kept_places w)

-- a window has the smallest of the keys of these pairs that are above a bound, each of which one of them has
pub record Sifts (bytes : List ℕ) (bound : Option (Bor (List ℕ))) (seen : List (List ℕ × List ℕ)) (w : Window)
    : Type 0 where
  pub seen_before : All (λ p. HasKey seen (text_bytes bytes p)) (kept_places w)
  pub above_bound : All (λ p. is_above bound (text_bytes bytes p) ≡ true) (kept_places w)
  pub smallest : All (λ s. is_above bound s.0 ≡ true → IsHeld bytes w s.0 ⊎ IsBeyond bytes w s.0) seen
  pub once : AllPairs (λ s t. IsHeld bytes w s.0 → s.0 ≢ t.0) seen

-- ---- passes

-- no key above one bound and not above another has a second pair
abbrev pub OnceBetween : Option (Bor (List ℕ)) → Option (Bor (List ℕ)) → List (List ℕ × List ℕ) → Type 0
OnceBetween bound top pairs = AllPairs (λ p q. is_above bound p.0 ≡ true → is_above top p.0 ≡ false → p.0 ≢ q.0) pairs

-- no key up to a bound has a second pair
abbrev pub OnceUpTo : Option (Bor (List ℕ)) → List (List ℕ × List ℕ) → Type 0
OnceUpTo bound pairs = AllPairs (λ p q. is_above bound p.0 ≡ false → p.0 ≢ q.0) pairs

abbrev pub PassShows : List (List ℕ × List ℕ) → Option (Bor (List ℕ)) → Pass → Type 0
PassShows pairs bound Double = KeyTwice pairs
PassShows pairs bound Last = AllPairs (λ p q. is_above bound p.0 ≡ true → p.0 ≢ q.0) pairs
PassShows pairs bound (Up top) =
    OnceBetween bound (Some top) pairs × HasKey pairs top.now × (is_above bound top.now ≡ true)
