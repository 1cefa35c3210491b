-- A line of a script by its parts.
use Rattle.std.specs.Prelude.{◌≡◌, ◌≤◌, ℕ, List, [], ◌∷◌, ◌++◌, Option, MatchOption}
use Rattle.std.specs.List.{AllZip, flat_map}
use Rattle.play_clock.specs.declared.line.Line.{Line}
use Rattle.play_clock.specs.Limits.{latest}
use Rattle.play_clock.specs.Script.{IsDigits, IsWordOf, amount, amounts_of, name_of, MomentsRise}

-- after the name and a space these bytes are the numbers of the line
pub record AreNumbers (after : List ℕ) (line : Line) : Type 0 where
  pub numbers : List (List ℕ)
  pub are : AllZip IsDigits numbers (amount 0 latest line.moment ∷ amounts_of line.kind)
  pub form : 32 ∷ after ≡ flat_map (λ (digits : List ℕ). 32 ∷ digits) numbers

abbrev pub IsNamed : List ℕ → List ℕ → Line → Type 0
IsNamed name after line = (name_of line.kind ≡ name) × AreNumbers after line

-- the line of that name with these numbers, if they are those of one
abbrev pub ReadsNumbers : List ℕ → List ℕ → Option Line → Type 0
ReadsNumbers name after found =
    MatchOption found ((line : Line) → IsNamed name after line → ⊥) (λ (line : Line). IsNamed name after line)

-- the line that the word is, if it is one
abbrev pub ReadsWord : List ℕ → Option Line → Type 0
ReadsWord word found = MatchOption found ((line : Line) → IsWordOf word line → ⊥) (λ (line : Line). IsWordOf word line)

-- just those lines may stand after these whose moment isn't before this one
pub record RiseTo (lines : List Line) (moment : ℕ) : Type 0 where
  pub may : (line : Line) → moment ≤ line.moment → MomentsRise (lines ++ line ∷ [])
  pub must : (line : Line) → MomentsRise (lines ++ line ∷ []) → moment ≤ line.moment
