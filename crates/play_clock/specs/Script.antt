-- How a script is written.
use Rattle.std.specs.Prelude.{◌≡◌, ◌≢◌, ◌≤◌, ◌<◌, ℕ, ◌+◌, Bool, ◌==◌, List, [], ◌∷◌, ◌++◌, length, codes, count_by, AllPairs}
use Rattle.std.specs.List.{AllZip, flat_map}
use Rattle.std.specs.Str.Parse.{IsNumeral, digits_value}
use Rattle.play_clock.specs.declared.line.Line.{Line}
use Rattle.play_clock.specs.declared.line.Kind.{Kind}
use Rattle.play_clock.specs.declared.line.Kind.TheVariants as kinds
use Rattle.play_clock.specs.declared.script.ScriptRefused.{ScriptRefused}
use Rattle.play_clock.specs.declared.script.ScriptRefused.TheVariants as refusals
use Rattle.play_clock.specs.Limits.{latest, script_limit, rate_limit}

-- a number, and from where to where it may lie
pub record Amount : Type 0 where
  pub least : ℕ
  pub most : ℕ
  pub number : ℕ

abbrev pub amount : ℕ → ℕ → ℕ → Amount
amount least most number = record { least = least; most = most; number = number }

-- 1 to 20 decimal digits, whose value is that number, which lies there
pub record IsDigits (word : List ℕ) (a : Amount) : Type 0 where
  pub digits : IsNumeral 10 word
  pub few : length word ≤ 20
  pub value : a.number ≡ digits_value 10 word
  pub above : a.least ≤ a.number
  pub below : a.number ≤ a.most

-- the word that a line begins with
abbrev pub name_of : Kind → List ℕ
name_of kinds.At = codes "at"
name_of kinds.Pause = codes "pause"
name_of kinds.Resume = codes "resume"
name_of (kinds.Rate p q) = codes "rate"
name_of (kinds.Seek time) = codes "seek"

-- the numbers after that of the moment
abbrev pub amounts_of : Kind → List Amount
amounts_of kinds.At = []
amounts_of kinds.Pause = []
amounts_of kinds.Resume = []
amounts_of (kinds.Rate p q) = amount 1 rate_limit p ∷ amount 1 rate_limit q ∷ []
amounts_of (kinds.Seek time) = amount 0 latest time ∷ []

-- the line without its newline: its name, its moment and its other numbers, each after one space
pub record IsWordOf (word : List ℕ) (line : Line) : Type 0 where
  pub numbers : List (List ℕ)
  pub are : AllZip IsDigits numbers (amount 0 latest line.moment ∷ amounts_of line.kind)
  pub form : word ≡ name_of line.kind ++ flat_map (λ (digits : List ℕ). 32 ∷ digits) numbers

abbrev pub ended : List ℕ → List ℕ
ended word = word ++ 10 ∷ []

-- the bytes are these lines, each with a newline after it
pub record AreLines (bytes : List ℕ) (lines : List Line) : Type 0 where
  pub words : List (List ℕ)
  pub are : AllZip IsWordOf words lines
  pub form : bytes ≡ flat_map ended words

-- no moment is before an earlier one
abbrev pub MomentsRise : List Line → Type 0
MomentsRise lines = AllPairs (λ (a b : Line). a.moment ≤ b.moment) lines

abbrev pub newlines : List ℕ → ℕ
newlines bytes = count_by (λ (b : ℕ). b == 10) bytes

-- a script of these lines
pub record IsScript (bytes : List ℕ) (lines : List Line) : Type 0 where
  pub few : newlines bytes ≤ script_limit
  pub lines_are : AreLines bytes lines
  pub rise : MomentsRise lines

-- The line of that number, counted from 1, is the first that is none or comes before the line in front of it: the bytes are lines
-- that are right, and others, with which no further line begins that may stand there.
pub record IsBadLine (bytes : List ℕ) (number : ℕ) : Type 0 where
  pub few : newlines bytes ≤ script_limit
  pub front : List ℕ
  pub after : List ℕ
  pub split : bytes ≡ front ++ after
  pub lines : List Line
  pub lines_are : AreLines front lines
  pub rise : MomentsRise lines
  pub number_is : number ≡ length lines + 1
  pub some : after ≡ [] → ⊥
  pub bad : (word rest : List ℕ) (line : Line) → after ≡ ended word ++ rest → IsWordOf word line
      → MomentsRise (lines ++ line ∷ []) → ⊥

-- Why bytes aren't read as a script. All of them are judged first: memory lacks only for the lines of one.
abbrev pub RefusesScript : List ℕ → ScriptRefused → Type 0
RefusesScript bytes (refusals.BadLine line) = IsBadLine bytes line
RefusesScript bytes refusals.TooMany = script_limit < newlines bytes
RefusesScript bytes refusals.Memory = (lines : List Line) × IsScript bytes lines
