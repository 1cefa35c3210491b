-- What of a replay is shown at each line of a script.
use Rattle.std.specs.Prelude.{◌≡◌, ◌⊎◌, ◌↔◌, ℕ, ◌+◌, ◌-◌, ◌*◌, ◌/◌, ◌≤◌, ◌<◌, Bool, true, false, not, if◌then◌else◌, List, [], ◌∷◌, ◌++◌, length, take, fold, slice_index}
use Rattle.mcap_model.specs.Places.{At, Each}
use Rattle.time_player.specs.declared.timed_lines.Stretch.{Stretch}
use Rattle.play_clock.specs.Limits.{rate_limit}
use Rattle.play_clock.specs.declared.line.Line.{Line}
use Rattle.play_clock.specs.declared.line.Kind.{Kind}
use Rattle.play_clock.specs.declared.line.Kind.TheVariants as kinds

-- ---- how the clock goes

-- whether it runs, and how far: p nanoseconds of log time in q of the moments
pub record Pace : Type 0 where
  pub runs : Bool
  pub p : ℕ
  pub q : ℕ

-- at the start it runs as the moments do
abbrev pub first_pace : Pace
first_pace = record { runs = true; p = 1; q = 1 }

-- what a line makes of it
abbrev pub paced_by : Pace → Kind → Pace
paced_by pace kinds.At = pace
paced_by pace kinds.Pause = record { runs = false; p = pace.p; q = pace.q }
paced_by pace kinds.Resume = record { runs = true; p = pace.p; q = pace.q }
paced_by pace (kinds.Rate p q) = record { runs = pace.runs; p = p; q = q }
paced_by pace (kinds.Seek time) = pace

abbrev pub pace_after : List Line → Pace
pace_after lines = fold (λ pace line. paced_by pace line.kind) first_pace lines

-- the value so much later, rounded down
abbrev pub later : Pace → ℕ → ℕ → ℕ
later pace value elapsed = if pace.runs then value + (elapsed * pace.p) / pace.q else value

-- the numbers of a rate are neither 0 nor too large
abbrev pub RateFits : Kind → Type 0
RateFits kinds.At = Unit {0}
RateFits kinds.Pause = Unit {0}
RateFits kinds.Resume = Unit {0}
RateFits (kinds.Rate p q) = (1 ≤ p) × (p ≤ rate_limit) × (1 ≤ q) × (q ≤ rate_limit)
RateFits (kinds.Seek time) = Unit {0}

abbrev pub is_at : Kind → Bool
is_at kinds.At = true
is_at kinds.Pause = false
is_at kinds.Resume = false
is_at (kinds.Rate p q) = false
is_at (kinds.Seek time) = false

abbrev pub is_seek : Kind → Bool
is_seek kinds.At = false
is_seek kinds.Pause = false
is_seek kinds.Resume = false
is_seek (kinds.Rate p q) = false
is_seek (kinds.Seek time) = true

-- ---- the value of a line: the log time that is due at it

-- a line from which on the clock is counted: the first one, a pause, a resume, a rate or a seek
abbrev pub IsTurn : List Line → Line → Type 0
IsTurn earlier line = (earlier ≡ []) ⊎ (is_at line.kind ≡ false)

-- The value of a line after those before it: what a seek says; at the first line the first log time of the replay; and else it is
-- counted from the last turn, at the pace after that.
pub data IsValue (first : ℕ) : List Line → Line → ℕ → Type 0 where
  sought : (before : List Line) (line : Line) (time : ℕ) → line.kind ≡ kinds.Seek time → IsValue first before line time
  begun : (before : List Line) (line : Line) → before ≡ [] → is_seek line.kind ≡ false
      → IsValue first before line first
  counted : (before : List Line) (line : Line) (earlier between : List Line) (turn : Line) (value : ℕ)
      → before ≡ earlier ++ turn ∷ between → IsTurn earlier turn → Each (λ (l : Line). is_at l.kind ≡ true) between
      → is_seek line.kind ≡ false → IsValue first earlier turn value
      → IsValue first before line (later (pace_after (earlier ++ turn ∷ [])) value (line.moment - turn.moment))

-- the line at that place has this value
pub record HasValue (first : ℕ) (lines : List Line) (place value : ℕ) : Type 0 where
  pub line : Line
  pub at : At lines place line
  pub is : IsValue first (take place lines) line value

-- ---- what is shown

-- after the line at that place no other seeks
abbrev pub IsSince : List Line → ℕ → Type 0
IsSince lines place = (k : ℕ) (l : Line) → place < k → At lines k l → is_seek l.kind ≡ false

-- A message of this log time is shown at a line after those before it: it is due there; it isn't before what the last seek
-- says; and since then, or from the first line on where none seeks, it wasn't due before.
pub record IsShown (first : ℕ) (before : List Line) (line : Line) (time : ℕ) : Type 0 where
  pub value : ℕ
  pub valued : IsValue first before line value
  pub due : time ≤ value
  pub sought : (k : ℕ) (l : Line) (from : ℕ) → At (before ++ line ∷ []) k l → l.kind ≡ kinds.Seek from
      → IsSince (before ++ line ∷ []) k → from ≤ time
  pub fresh : (k earlier : ℕ) → k < length before → IsSince (before ++ line ∷ []) k → HasValue first before k earlier
      → earlier < time

-- of messages with these log times just those from one place on and before another are shown at the line
pub record Plays (times : List ℕ) (before : List Line) (line : Line) (from to : ℕ) : Type 0 where
  pub order : from ≤ to
  pub within : to ≤ length times
  pub shown : (k : ℕ) → from ≤ k → k < to → IsShown (slice_index times 0) before line (slice_index times k)
  pub others : (k : ℕ) → k < length times → IsShown (slice_index times 0) before line (slice_index times k)
      → (from ≤ k) × (k < to)

-- ---- a script

-- At each line of a script just the messages of its stretch are shown, at its moment.
pub record PlaysScript (times : List ℕ) (lines : List Line) (stretches : List Stretch) : Type 0 where
  pub many : length stretches ≡ length lines
  pub moments : (k : ℕ) (line : Line) (s : Stretch) → At lines k line → At stretches k s → s.moment ≡ line.moment
  pub plays : (k : ℕ) (line : Line) (s : Stretch) → At lines k line → At stretches k s
      → Plays times (take k lines) line s.from s.to
