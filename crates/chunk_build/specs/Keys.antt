-- Where a key stands among elements whose keys ascend.
use Rattle.std.specs.Prelude.{◌≡◌, ℕ, ◌<◌, ◌≤◌, List, length, slice_index_or, Result, Ok, Err}

-- the place of the element that has the key, or where one that has it is to stand
abbrev pub FoundKeyPlace : {A : Type 0} → (A → ℕ) → List A → ℕ → Result ℕ ℕ → Type 0
FoundKeyPlace {A} key list wanted (Ok i) = (i < length list) × ((d : A) → key (slice_index_or list i d) ≡ wanted)
FoundKeyPlace {A} key list wanted (Err i) = (i ≤ length list)
    × ((k : ℕ) (d : A) → k < i → key (slice_index_or list k d) < wanted)
    × ((k : ℕ) (d : A) → i ≤ k → k < length list → wanted < key (slice_index_or list k d))
