-- For which lines a player stands, and what a step makes of it.
use Rattle.std.specs.Prelude.{◌≡◌, ◌⊎◌, ℕ, ◌+◌, ◌-◌, ◌*◌, ◌/◌, ◌≤◌, ◌<◌, Bool, true, false, not, ◌||◌, ◌&&◌, if◌then◌else◌, List, [], ◌∷◌, ◌++◌, length, slice_index}
use Rattle.mcap_model.specs.Places.{Each}
use Rattle.play_clock.specs.declared.line.Line.{Line}
use Rattle.play_clock.specs.declared.line.Kind.{Kind}
use Rattle.play_clock.specs.declared.line.Kind.TheVariants as kinds
use Rattle.play_clock.specs.declared.player.Player.{Player}
use Rattle.play_clock.specs.Played.{Pace, first_pace, paced_by, pace_after, later, is_at, is_seek, IsTurn, IsValue, IsSince, HasValue}

abbrev pub last_moment : Player → ℕ
last_moment player = player.moment

abbrev pub pace_of : Player → Pace
pace_of player = record { runs = player.runs; p = player.p; q = player.q }

-- nothing was handed in yet
pub record IsUnplayed (times : List ℕ) (player : Player) : Type 0 where
  pub unbegun : player.begun ≡ false
  pub value : player.value ≡ slice_index times 0
  pub pace : pace_of player ≡ first_pace
  pub front : player.next ≡ 0

-- The last turn is known, with its value and moment; the value of the last line, which is the greatest since the last seek; and
-- the messages before the next one are those that aren't after it.
pub record HasPlayed (times : List ℕ) (lines : List Line) (player : Player) : Type 0 where
  pub begun : player.begun ≡ true
  pub earlier : List Line
  pub turn : Line
  pub between : List Line
  pub are : lines ≡ earlier ++ turn ∷ between
  pub is_turn : IsTurn earlier turn
  pub quiet : Each (λ (l : Line). is_at l.kind ≡ true) between
  pub start : ℕ
  pub valued : IsValue (slice_index times 0) earlier turn start
  pub value_is : player.value ≡ start
  pub since_is : player.since ≡ turn.moment
  pub pace_is : pace_of player ≡ pace_after (earlier ++ turn ∷ [])
  pub moved : player.since ≤ player.moment
  pub before : List Line
  pub last : Line
  pub ends : lines ≡ before ++ last ∷ []
  pub now : ℕ
  pub now_is : now ≡ later (pace_of player) start (player.moment - player.since)
  pub valued_last : IsValue (slice_index times 0) before last now
  pub greatest : (k value : ℕ) → IsSince lines k → HasValue (slice_index times 0) lines k value → value ≤ now
  pub within : player.next ≤ length times
  pub passed : (k : ℕ) → k < player.next → slice_index times k ≤ now
  pub ahead : (k : ℕ) → player.next ≤ k → k < length times → now < slice_index times k

abbrev pub Stands : List ℕ → List Line → Player → Type 0
Stands times lines player = ((lines ≡ []) × IsUnplayed times player) ⊎ HasPlayed times lines player

-- ---- a step

-- the first message that isn't logged before the time
pub record IsFirstFrom (times : List ℕ) (time from : ℕ) : Type 0 where
  pub within : from ≤ length times
  pub before : (k : ℕ) → k < from → slice_index times k < time
  pub after : (k : ℕ) → from ≤ k → k < length times → time ≤ slice_index times k

-- what the clock says at a moment
abbrev pub clock_at : Player → ℕ → ℕ
clock_at player moment = if player.begun && player.runs then player.value + ((moment - player.since) * player.p) / player.q else player.value

abbrev pub time_for : Player → Kind → ℕ → ℕ
time_for player kinds.At moment = clock_at player moment
time_for player kinds.Pause moment = clock_at player moment
time_for player kinds.Resume moment = clock_at player moment
time_for player (kinds.Rate p q) moment = clock_at player moment
time_for player (kinds.Seek time) moment = time

-- the value of a line
abbrev pub time_at : Player → Line → ℕ
time_at player line = time_for player line.kind line.moment

-- Where the messages begin that may be shown at a line: after those that were passed, or where a seek says.
abbrev pub IsFront : List ℕ → Player → Kind → ℕ → Type 0
IsFront times player kinds.At from = from ≡ player.next
IsFront times player kinds.Pause from = from ≡ player.next
IsFront times player kinds.Resume from = from ≡ player.next
IsFront times player (kinds.Rate p q) from = from ≡ player.next
IsFront times player (kinds.Seek time) from = IsFirstFrom times time from

-- whether a line is a turn
abbrev pub turns_clock : Player → Line → Bool
turns_clock player line = not player.begun || not (is_at line.kind)

-- the line was taken in
pub record IsTaken (old : Player) (line : Line) (time next : ℕ) (new : Player) : Type 0 where
  pub begun : new.begun ≡ true
  pub value : new.value ≡ (if turns_clock old line then time else old.value)
  pub since : new.since ≡ (if turns_clock old line then line.moment else old.since)
  pub pace : pace_of new ≡ paced_by (pace_of old) line.kind
  pub moment : new.moment ≡ line.moment
  pub next_is : new.next ≡ next
