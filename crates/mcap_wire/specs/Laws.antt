-- What holds of the layout itself: each number, text and record can be read in one way only.
use Rattle.std.specs.Prelude.{◌≡◌, ℕ, ◌^◌, ◌<◌, List, ◌++◌, length, All}
use Rattle.mcap_wire.specs.Layout.{le, number, string, framed}

-- a number and its bytes give each other back
pub record NumbersReadBack : Type 0 where
  pub number_back : (n v : ℕ) → v < 256 ^ n → number (le n v) ≡ v
  pub size : (n v : ℕ) → length (le n v) ≡ n
  pub bytes_back : (bytes : List ℕ) → All (λ b. b < 256) bytes → le (length bytes) (number bytes) ≡ bytes

-- no text begins another
abbrev pub TextsAreApart : Type 0
TextsAreApart = (text other rest behind : List ℕ) → length text < 2 ^ 32 → length other < 2 ^ 32
    → string text ++ rest ≡ string other ++ behind → (text ≡ other) × (rest ≡ behind)

-- no record begins another
abbrev pub RecordsAreApart : Type 0
RecordsAreApart = (op code : ℕ) (content other rest behind : List ℕ) → length content < 2 ^ 64 → length other < 2 ^ 64
    → framed op content ++ rest ≡ framed code other ++ behind → (op ≡ code) × (content ≡ other) × (rest ≡ behind)
