-- A step of a player: what is shown at a line, and for which lines the player stands after it.
use Rattle.std.proofs.Common.{◌≡◌, ◌⊎◌, ◌↔◌, ℕ, zero, suc, ◌-◌, ◌+◌, ◌*◌, ◌/◌, ◌<◌, ◌≤◌, Bool, true, false, not, ◌||◌, ◌&&◌, List, [], ◌∷◌, ◌++◌, length, take, get_or, refl, sym, ap, subst, inl, inr, ◌∙◌, append_assoc, arith}
use Rattle.std.specs.Prelude.{fold, if◌then◌else◌}
use Rattle.std.proofs.lemmas.Bool.{false≢true, cases_lt}
use Rattle.std.proofs.Math.Nat.{div-mul-le_self, div-zero, zero-div, zero-mul, mul-le-mul}
use Rattle.std.proofs.lemmas.Nat.{le-div}
use Rattle.std.proofs.lemmas.List.{length-append, take-append-le}
use Rattle.std.proofs.Math.Seq.{take-append_seam}
use Rattle.mcap_model.specs.Places.{At, Each}
use Rattle.mcap_model.proofs.Places.{at_last, at_more, at_kept, at_within, at_none}
use Rattle.mcap_model.proofs.Repairs.{fold_more}
use Rattle.play_clock.specs.declared.line.Line.{Line}
use Rattle.play_clock.specs.declared.line.Kind.{Kind}
use Rattle.play_clock.specs.declared.line.Kind.TheVariants as kinds
use Rattle.play_clock.specs.declared.player.Player.{Player}
use Rattle.play_clock.specs.Times.{TimesRise}
use Rattle.play_clock.specs.Played.{Pace, first_pace, paced_by, pace_after, later, is_at, is_seek, IsTurn, IsValue, sought, begun, counted, HasValue, IsSince, IsShown, Plays}
use Rattle.play_clock.specs.Playing.{pace_of, IsUnplayed, HasPlayed, Stands, clock_at, time_for, time_at, IsFirstFrom, IsFront, turns_clock, IsTaken}
use Rattle.play_clock.proofs.Values.{IsQuiet, no_seek, values_once}

-- ---- paces

pub fold_on : {X Y : Type 0} (f : X → Y → X) (a : X) (xs ys : List Y) → fold f a (xs ++ ys) ≡ fold f (fold f a xs) ys
fold_on f a [] ys = refl
fold_on f a (x ∷ xs) ys = fold_on f (f a x) xs ys

abbrev paced : Pace → Line → Pace
paced pace line = paced_by pace line.kind

quiet_kind : (pace : Pace) (k : Kind) → is_at k ≡ true → paced_by pace k ≡ pace
quiet_kind pace kinds.At is = refl
quiet_kind pace kinds.Pause is = absurd (false≢true is)
quiet_kind pace kinds.Resume is = absurd (false≢true is)
quiet_kind pace (kinds.Rate p q) is = absurd (false≢true is)
quiet_kind pace (kinds.Seek time) is = absurd (false≢true is)

quiet_fold : (pace : Pace) (lines : List Line) → IsQuiet lines → fold paced pace lines ≡ pace
quiet_fold pace [] quiet = refl
quiet_fold pace (l ∷ ls) quiet =
    ap (λ (p : Pace). fold paced p ls) (quiet_kind pace l.kind (quiet 0 l refl))
    ∙ quiet_fold pace ls (λ n x at. quiet (suc n) x at)

-- after lines that only look it is as it was
pace_quiet : (earlier : List Line) (turn : Line) (between : List Line) → IsQuiet between → pace_after (earlier ++ turn ∷ between) ≡ pace_after (earlier ++ turn ∷ [])
pace_quiet earlier turn between quiet =
    fold_on paced first_pace earlier (turn ∷ between)
    ∙ quiet_fold (paced (fold paced first_pace earlier) turn) between quiet
    ∙ sym (fold_on paced first_pace earlier (turn ∷ []))

pace_more : (lines : List Line) (line : Line) → pace_after (lines ++ line ∷ []) ≡ paced_by (pace_after lines) line.kind
pace_more lines line = fold_on paced first_pace lines (line ∷ [])

-- the pace of a player is that after its lines
pace_there : (times : List ℕ) (lines : List Line) (player : Player) → Stands times lines player → pace_of player ≡ pace_after lines
pace_there times lines player (inl (none, it)) = it.pace ∙ ap pace_after (sym none)
pace_there times lines player (inr it) =
    it.pace_is ∙ sym (pace_quiet it.earlier it.turn it.between it.quiet) ∙ ap pace_after (sym it.are)

-- ---- times

no_move : (p q : ℕ) → (0 * p) / q ≡ 0
no_move p q = ap (λ (n : ℕ). n / q) (zero-mul p) ∙ zero-div q

div_le : (x y q : ℕ) → x ≤ y → x / q ≤ y / q
div_le x y zero le = omega (arith, div-zero x, div-zero y)
div_le x y (suc q) le = le-div (x / suc q) y (suc q) (omega arith) (omega (arith, le, div-mul-le_self x (suc q)))

move_le : (x y p q : ℕ) → x ≤ y → (x * p) / q ≤ (y * p) / q
move_le x y p q le = div_le (x * p) (y * p) q (mul-le-mul le (omega arith))

later_le : (pace : Pace) (value x y : ℕ) → x ≤ y → later pace value x ≤ later pace value y
later_le pace value x y le = by pace.runs
  where
    by : (b : Bool) → (if b then value + (x * pace.p) / pace.q else value) ≤ (if b then value + (y * pace.p) / pace.q else value)
    by true = omega (arith, move_le x y pace.p pace.q le)
    by false = omega arith

later_none : (pace : Pace) (value x : ℕ) → x ≡ 0 → later pace value x ≡ value
later_none pace value x none = ap (later pace value) none ∙ by pace.runs
  where
    by : (b : Bool) → (if b then value + (0 * pace.p) / pace.q else value) ≡ value
    by true = omega (arith, no_move pace.p pace.q)
    by false = refl

-- ---- the value of the next line

clock_begun : (player : Player) (value moment : ℕ) → player.begun ≡ true → player.value ≡ value → clock_at player moment ≡ later (pace_of player) value (moment - player.since)
clock_begun player value moment started is =
    ap (λ (b : Bool). if b && player.runs then player.value + ((moment - player.since) * player.p) / player.q else player.value) started
    ∙ ap (λ (v : ℕ). if player.runs then v + ((moment - player.since) * player.p) / player.q else v) is

clock_unbegun : (player : Player) (value moment : ℕ) → player.begun ≡ false → player.value ≡ value → clock_at player moment ≡ value
clock_unbegun player value moment unbegun is =
    ap (λ (b : Bool). if b && player.runs then player.value + ((moment - player.since) * player.p) / player.q else player.value) unbegun
    ∙ is

-- where the line doesn't seek it is what the clock says
clock_value : (times : List ℕ) (lines : List Line) (player : Player) (line : Line) → Stands times lines player → is_seek line.kind ≡ false → IsValue (get_or times 0 0) lines line (clock_at player line.moment)
clock_value times lines player line (inl (none, it)) calm =
    subst (λ (v : ℕ). IsValue (get_or times 0 0) lines line v) (sym (clock_unbegun player (get_or times 0 0) line.moment it.unbegun it.value)) (begun lines line none calm)
clock_value times lines player line (inr it) calm =
    subst (λ (v : ℕ). IsValue (get_or times 0 0) lines line v)
    (ap (λ (pace : Pace). later pace it.start (line.moment - it.turn.moment)) (sym it.pace_is)
    ∙ ap (λ (m : ℕ). later (pace_of player) it.start (line.moment - m)) (sym it.since_is)
    ∙ sym (clock_begun player it.start line.moment it.begun it.value_is))
    (counted lines line it.earlier it.between it.turn it.start it.are it.is_turn it.quiet calm it.valued)

pub next_value : (times : List ℕ) (lines : List Line) (player : Player) (line : Line) → Stands times lines player → IsValue (get_or times 0 0) lines line (time_at player line)
next_value times lines player line stands = by line.kind refl
  where
    clocked : (k : Kind) → line.kind ≡ k → is_seek k ≡ false → IsValue (get_or times 0 0) lines line (clock_at player line.moment)
    clocked k is calm = clock_value times lines player line stands (ap is_seek is ∙ calm)

    by : (k : Kind) → line.kind ≡ k → IsValue (get_or times 0 0) lines line (time_for player k line.moment)
    by kinds.At is = clocked kinds.At is refl
    by kinds.Pause is = clocked kinds.Pause is refl
    by kinds.Resume is = clocked kinds.Resume is refl
    by (kinds.Rate p q) is = clocked (kinds.Rate p q) is refl
    by (kinds.Seek time) is = sought lines line time is

time_for_calm : (player : Player) (k : Kind) (moment : ℕ) → is_seek k ≡ false → time_for player k moment ≡ clock_at player moment
time_for_calm player kinds.At moment calm = refl
time_for_calm player kinds.Pause moment calm = refl
time_for_calm player kinds.Resume moment calm = refl
time_for_calm player (kinds.Rate p q) moment calm = refl
time_for_calm player (kinds.Seek time) moment calm = absurd (false≢true (sym calm))

front_calm : (times : List ℕ) (player : Player) (k : Kind) (from : ℕ) → is_seek k ≡ false → IsFront times player k from → from ≡ player.next
front_calm times player kinds.At from calm is = is
front_calm times player kinds.Pause from calm is = is
front_calm times player kinds.Resume from calm is = is
front_calm times player (kinds.Rate p q) from calm is = is
front_calm times player (kinds.Seek time) from calm is = absurd (false≢true (sym calm))

-- ---- places of lines, with one more after them

since_front : (lines : List Line) (line : Line) (place : ℕ) → IsSince (lines ++ line ∷ []) place → IsSince lines place
since_front lines line place since k l less at = since k l less (at_kept lines (line ∷ []) k l at)

-- an earlier line isn't since a seek
seek_since : (lines : List Line) (line : Line) (time place : ℕ) → line.kind ≡ kinds.Seek time → place < length lines → IsSince (lines ++ line ∷ []) place → ⊥
seek_since lines line time place is less since = no_seek line time is (since (length lines) line less (at_last lines line []))

value_kept : (first : ℕ) (lines : List Line) (line : Line) (place value : ℕ) (l : Line) → At lines place l → IsValue first (take place (lines ++ line ∷ [])) l value → IsValue first (take place lines) l value
value_kept first lines line place value l at is =
    subst (λ (ls : List Line). IsValue first ls l value) (take-append-le place lines (line ∷ []) (let lt = at_within lines place l at in omega (arith, lt))) is

-- the value of an earlier line is the same with another line after
earlier_value : (first : ℕ) (lines : List Line) (line : Line) (place value : ℕ) → place < length lines → HasValue first (lines ++ line ∷ []) place value → HasValue first lines place value
earlier_value first lines line place value less it = elim (at_more lines line place it.line it.at) [
  | inl at ↦ record { line = it.line; at = at; is = value_kept first lines line place value it.line at it.is }
  | inr last ↦ absurd (let here = last.0 in omega (arith, less, here))
]

-- ---- what is shown

last_place : (before : List Line) (last : Line) → length (before ++ last ∷ []) ≡ suc (length before)
last_place before last = omega (arith, length-append before (last ∷ []))

-- the last of the lines is since any seek, where the next one seeks none
last_since : (before : List Line) (last line : Line) → is_seek line.kind ≡ false → IsSince ((before ++ last ∷ []) ++ line ∷ []) (length before)
last_since before last line calm k l less at = elim (at_more (before ++ last ∷ []) line k l at) [
  | inl old ↦ absurd (let lt = at_within (before ++ last ∷ []) k l old in omega (arith, lt, less, last_place before last))
  | inr here ↦ subst (λ (x : Line). is_seek x.kind ≡ false) (sym here.1) calm
]

last_has : (first : ℕ) (before : List Line) (last : Line) (value : ℕ) → IsValue first before last value → HasValue first (before ++ last ∷ []) (length before) value
last_has first before last value is = record {
  line = last;
  at = at_last before last [];
  is = subst (λ (ls : List Line). IsValue first ls last value) (sym (take-append_seam before (last ∷ []))) is;
}

pub record Ahead (times : List ℕ) (from to value : ℕ) : Type 0 where
  pub order : from ≤ to
  pub within : to ≤ length times
  pub before : (k : ℕ) → from ≤ k → k < to → get_or times k 0 ≤ value
  pub after : (k : ℕ) → to ≤ k → k < length times → value < get_or times k 0

-- before `to` lies each that is due
due_before : (times : List ℕ) (lines : List Line) (line : Line) (from to value k : ℕ) → Ahead times from to value → IsValue (get_or times 0 0) lines line value
    → k < length times → IsShown (get_or times 0 0) lines line (get_or times k 0) → k < to
due_before times lines line from to value k ahead is within shown = elim (cases_lt k to) [
  | inl less ↦ less
  | inr le ↦
      let after = ahead.after k le within in
      let same = values_once (get_or times 0 0) lines line shown.value value shown.valued is in
      let due = shown.due in
      absurd (omega (arith, after, same, due))
]

plays_seek : (times : List ℕ) (lines : List Line) (line : Line) (time from to : ℕ) → line.kind ≡ kinds.Seek time → IsFirstFrom times time from → Ahead times from to time → Plays times lines line from to
plays_seek times lines line time from to is front ahead = record {
  order = ahead.order;
  within = ahead.within;
  shown = λ k above below. record {
    value = time;
    valued = sought lines line time is;
    due = ahead.before k above below;
    sought = λ j l t at kind since. elim (at_more lines line j l at) [
      | inl old ↦ absurd (seek_since lines line time j is (at_within lines j l old) since)
      | inr here ↦
          let same = same_time l line t time kind is here.1 in
          let there = front.after k above (let w = ahead.within in omega (arith, w, below)) in
          omega (arith, same, there)
    ];
    fresh = λ j e less since has. absurd (seek_since lines line time j is less since);
  };
  others = λ k within shown. (
    above k within shown,
    due_before times lines line from to time k ahead (sought lines line time is) within shown,
  );
}
  where
    same_time : (l m : Line) (t u : ℕ) → l.kind ≡ kinds.Seek t → m.kind ≡ kinds.Seek u → l ≡ m → t ≡ u
    same_time l m t u one two same = let both : kinds.Seek t ≡ kinds.Seek u = sym one ∙ ap (λ (x : Line). x.kind) same ∙ two in cc

    none_after : IsSince (lines ++ line ∷ []) (length lines)
    none_after j l less at = absurd (let lt = at_within (lines ++ line ∷ []) j l at in omega (arith, lt, less, last_place lines line))

    above : (k : ℕ) → k < length times → IsShown (get_or times 0 0) lines line (get_or times k 0) → from ≤ k
    above k within shown = elim (cases_lt k from) [
      | inr le ↦ le
      | inl less ↦
          let early = front.before k less in
          let asked = shown.sought (length lines) line time (at_last lines line []) is none_after in
          absurd (omega (arith, early, asked))
    ]

plays_first : (times : List ℕ) (lines : List Line) (player : Player) (line : Line) (to value : ℕ) → lines ≡ [] → is_seek line.kind ≡ false → IsValue (get_or times 0 0) lines line value → Ahead times 0 to value → Plays times lines line 0 to
plays_first times lines player line to value none calm is ahead = record {
  order = ahead.order;
  within = ahead.within;
  shown = λ k above below. record {
    value = value;
    valued = is;
    due = ahead.before k above below;
    sought = λ j l t at kind since. absurd (unsought j l t at kind);
    fresh = λ j e less since has. absurd (let size : length lines ≡ 0 = ap length none in omega (arith, less, size));
  };
  others = λ k within shown. (omega arith, due_before times lines line 0 to value k ahead is within shown);
}
  where
    unsought : (j : ℕ) (l : Line) (t : ℕ) → At (lines ++ line ∷ []) j l → l.kind ≡ kinds.Seek t → ⊥
    unsought j l t at kind = elim (at_more lines line j l at) [
      | inl old ↦ at_none j l (subst (λ (ls : List Line). At ls j l) none old)
      | inr here ↦ no_seek l t kind (subst (λ (x : Line). is_seek x.kind ≡ false) (sym here.1) calm)
    ]

plays_on : (times : List ℕ) (lines : List Line) (player : Player) (line : Line) (to value : ℕ) → (it : HasPlayed times lines player) → is_seek line.kind ≡ false → IsValue (get_or times 0 0) lines line value
    → Ahead times player.next to value → Plays times lines line player.next to
plays_on times lines player line to value it calm is ahead = record {
  order = ahead.order;
  within = ahead.within;
  shown = λ k above below. record {
    value = value;
    valued = is;
    due = ahead.before k above below;
    sought = λ j l t at kind since. elim (at_more lines line j l at) [
      | inl old ↦
          let has : HasValue (get_or times 0 0) lines j t = record { line = l; at = old; is = sought (take j lines) l t kind } in
          let passed = it.greatest j t (since_front lines line j since) has in
          let new = it.ahead k above (let w = ahead.within in omega (arith, w, below)) in
          omega (arith, passed, new)
      | inr here ↦ absurd (no_seek l t kind (subst (λ (x : Line). is_seek x.kind ≡ false) (sym here.1) calm))
    ];
    fresh = λ j e less since has.
        let passed = it.greatest j e (since_front lines line j since) has in
        let new = it.ahead k above (let w = ahead.within in omega (arith, w, below)) in
        omega (arith, passed, new);
  };
  others = λ k within shown. (above k within shown, due_before times lines line player.next to value k ahead is within shown);
}
  where
    above : (k : ℕ) → k < length times → IsShown (get_or times 0 0) lines line (get_or times k 0) → player.next ≤ k
    above k within shown = elim (cases_lt k player.next) [
      | inr le ↦ le
      | inl less ↦
          let passed = it.passed k less in
          let place : length it.before < length lines = (let size = ap (λ (l : List Line). length l) it.ends in omega (arith, size, last_place it.before it.last)) in
          let since : IsSince (lines ++ line ∷ []) (length it.before) = subst (λ (ls : List Line). IsSince (ls ++ line ∷ []) (length it.before)) (sym it.ends) (last_since it.before it.last line calm) in
          let has : HasValue (get_or times 0 0) lines (length it.before) it.now = subst (λ (ls : List Line). HasValue (get_or times 0 0) ls (length it.before) it.now) (sym it.ends) (last_has (get_or times 0 0) it.before it.last it.now it.valued_last) in
          let fresh = shown.fresh (length it.before) it.now place since has in
          absurd (omega (arith, passed, fresh))
    ]

-- what a step shows
pub step_plays : (times : List ℕ) (lines : List Line) (player : Player) (line : Line) (from to : ℕ) → Stands times lines player → IsFront times player line.kind from
    → (from ≤ length times → Ahead times from to (time_at player line)) → Plays times lines line from to
step_plays times lines player line from to stands front ahead = by line.kind refl
  where
    calm_by : (k : Kind) → line.kind ≡ k → is_seek k ≡ false → Stands times lines player → Plays times lines line from to
    calm_by k is calm (inl (none, it)) =
        let calm_line : is_seek line.kind ≡ false = ap is_seek is ∙ calm in
        let here : from ≡ 0 = front_calm times player line.kind from calm_line front ∙ it.front in
        let there = ahead (omega (arith, here)) in
        subst (λ (n : ℕ). Plays times lines line n to) (sym here)
        (plays_first times lines player line to (time_at player line) none calm_line (next_value times lines player line stands)
        (subst (λ (n : ℕ). Ahead times n to (time_at player line)) here there))
    calm_by k is calm (inr it) =
        let calm_line : is_seek line.kind ≡ false = ap is_seek is ∙ calm in
        let here : from ≡ player.next = front_calm times player line.kind from calm_line front in
        let there = ahead (let w = it.within in omega (arith, here, w)) in
        subst (λ (n : ℕ). Plays times lines line n to) (sym here)
        (plays_on times lines player line to (time_at player line) it calm_line (next_value times lines player line stands)
        (subst (λ (n : ℕ). Ahead times n to (time_at player line)) here there))

    by : (k : Kind) → line.kind ≡ k → Plays times lines line from to
    by kinds.At is = calm_by kinds.At is refl stands
    by kinds.Pause is = calm_by kinds.Pause is refl stands
    by kinds.Resume is = calm_by kinds.Resume is refl stands
    by (kinds.Rate p q) is = calm_by (kinds.Rate p q) is refl stands
    by (kinds.Seek time) is =
        let first : IsFirstFrom times time from = subst (λ (k : Kind). IsFront times player k from) is front in
        let same : time_at player line ≡ time = ap (λ (k : Kind). time_for player k line.moment) is in
        plays_seek times lines line time from to is first (subst (Ahead times from to) same (ahead first.within))

-- ---- after a step

-- the value of the last line isn't above that of the next, where that doesn't seek
now_below : (times : List ℕ) (lines : List Line) (player : Player) (line : Line) → (it : HasPlayed times lines player) → player.moment ≤ line.moment → is_seek line.kind ≡ false → it.now ≤ time_at player line
now_below times lines player line it le calm =
    let is : time_at player line ≡ later (pace_of player) it.start (line.moment - player.since) = time_for_calm player line.kind line.moment calm ∙ clock_begun player it.start line.moment it.begun it.value_is in
    let grows = later_le (pace_of player) it.start (player.moment - player.since) (line.moment - player.since) (omega (arith, le)) in
    let was = it.now_is in
    omega (arith, is, grows, was)

pub kind_or : (k : Kind) → (is_seek k ≡ false) ⊎ ((time : ℕ) × (k ≡ kinds.Seek time))
kind_or kinds.At = inl refl
kind_or kinds.Pause = inl refl
kind_or kinds.Resume = inl refl
kind_or (kinds.Rate p q) = inl refl
kind_or (kinds.Seek time) = inr (time, refl)

greatest_on : (times : List ℕ) (lines : List Line) (player : Player) (line : Line) → Stands times lines player → player.moment ≤ line.moment
    → (k value : ℕ) → IsSince (lines ++ line ∷ []) k → HasValue (get_or times 0 0) (lines ++ line ∷ []) k value → value ≤ time_at player line
greatest_on times lines player line stands le k value since has = elim (at_more lines line k has.line has.at) [
  | inl old ↦ earlier stands (earlier_value (get_or times 0 0) lines line k value (at_within lines k has.line old) has) (at_within lines k has.line old)
  | inr here ↦
      let there : IsValue (get_or times 0 0) lines line value =
      subst (λ (l : Line). IsValue (get_or times 0 0) lines l value) here.1
      (subst (λ (ls : List Line). IsValue (get_or times 0 0) ls has.line value)
      (ap (λ (n : ℕ). take n (lines ++ line ∷ [])) here.0 ∙ take-append_seam lines (line ∷ [])) has.is) in
      let same = values_once (get_or times 0 0) lines line value (time_at player line) there (next_value times lines player line stands) in
      omega (arith, same)
]
  where
    earlier : Stands times lines player → HasValue (get_or times 0 0) lines k value → k < length lines → value ≤ time_at player line
    earlier (inl (none, it)) old less = absurd (let size : length lines ≡ 0 = ap length none in omega (arith, less, size))
    earlier (inr it) old less = elim (kind_or line.kind) [
      | inl calm ↦
          let was = it.greatest k value (since_front lines line k since) old in
          let below = now_below times lines player line it le calm in
          omega (arith, was, below)
      | inr (time, is) ↦ absurd (seek_since lines line time k is less since)
    ]

turn_or : (player : Player) (line : Line) → (turns_clock player line ≡ true) ⊎ ((turns_clock player line ≡ false) × (player.begun ≡ true) × (is_at line.kind ≡ true))
turn_or player line = by player.begun refl (is_at line.kind) refl
  where
    by : (b : Bool) → player.begun ≡ b → (c : Bool) → is_at line.kind ≡ c → (turns_clock player line ≡ true) ⊎ ((turns_clock player line ≡ false) × (player.begun ≡ true) × (is_at line.kind ≡ true))
    by true one true two = inr (ap (λ (b : Bool). not b || not (is_at line.kind)) one ∙ ap not two, one, two)
    by true one false two = inl (ap (λ (b : Bool). not b || not (is_at line.kind)) one ∙ ap not two)
    by false one c two = inl (ap (λ (b : Bool). not b || not (is_at line.kind)) one)

turn_line : (times : List ℕ) (lines : List Line) (player : Player) (line : Line) → Stands times lines player → turns_clock player line ≡ true → IsTurn lines line
turn_line times lines player line (inl (none, it)) turns = inl none
turn_line times lines player line (inr it) turns = inr (by (is_at line.kind) (sym (ap (λ (b : Bool). not b || not (is_at line.kind)) it.begun) ∙ turns))
  where
    by : (c : Bool) → not c ≡ true → c ≡ false
    by true e = absurd (false≢true e)
    by false e = refl

at_calm : (k : Kind) → is_at k ≡ true → is_seek k ≡ false
at_calm kinds.At is = refl
at_calm kinds.Pause is = refl
at_calm kinds.Resume is = refl
at_calm (kinds.Rate p q) is = refl
at_calm (kinds.Seek time) is = absurd (false≢true is)

pub quiet_more : (lines : List Line) (line : Line) → IsQuiet lines → is_at line.kind ≡ true → IsQuiet (lines ++ line ∷ [])
quiet_more lines line quiet is n l at = elim (at_more lines line n l at) [
  | inl old ↦ quiet n l old
  | inr here ↦ subst (λ (x : Line). is_at x.kind ≡ true) (sym here.1) is
]

-- how far the player has come
record Comes (times : List ℕ) (to value : ℕ) : Type 0 where
  pub within : to ≤ length times
  pub passed : (k : ℕ) → k < to → get_or times k 0 ≤ value
  pub ahead : (k : ℕ) → to ≤ k → k < length times → value < get_or times k 0

step_stands_by : (times : List ℕ) (lines : List Line) (player new : Player) (line : Line) (to : ℕ) → Stands times lines player → player.moment ≤ line.moment → Comes times to (time_at player line)
    → IsTaken player line (time_at player line) to new → new.since ≤ new.moment → HasPlayed times (lines ++ line ∷ []) new
step_stands_by times lines player new line to stands le comes taken moved = elim (turn_or player line) [
  | inl turns ↦ record {
    begun = taken.begun;
    earlier = lines;
    turn = line;
    between = [];
    are = refl;
    is_turn = turn_line times lines player line stands turns;
    quiet = λ n l at. absurd (at_none n l at);
    start = time_at player line;
    valued = next_value times lines player line stands;
    value_is = taken.value ∙ ap (λ (b : Bool). if b then time_at player line else player.value) turns;
    since_is = since_turn turns;
    pace_is = pace_on;
    moved = moved;
    before = lines;
    last = line;
    ends = refl;
    now = time_at player line;
    now_is = sym (later_none (pace_of new) (time_at player line) (new.moment - new.since) (let a = taken.moment in let b = since_turn turns in omega (arith, a, b)));
    valued_last = next_value times lines player line stands;
    greatest = greatest_on times lines player line stands le;
    within = subst (λ (n : ℕ). n ≤ length times) (sym taken.next_is) comes.within;
    passed = λ k less. comes.passed k (let n = taken.next_is in omega (arith, less, n));
    ahead = λ k le_k within. comes.ahead k (let n = taken.next_is in omega (arith, le_k, n)) within;
  }
  | inr (turns, started, at) ↦ on_quiet stands turns started at
]
  where
    since_turn : turns_clock player line ≡ true → new.since ≡ line.moment
    since_turn turns = taken.since ∙ ap (λ (b : Bool). if b then line.moment else player.since) turns

    pace_on : pace_of new ≡ pace_after (lines ++ line ∷ [])
    pace_on = taken.pace ∙ ap (λ (pace : Pace). paced_by pace line.kind) (pace_there times lines player stands) ∙ sym (pace_more lines line)

    on_quiet : Stands times lines player → turns_clock player line ≡ false → player.begun ≡ true → is_at line.kind ≡ true → HasPlayed times (lines ++ line ∷ []) new
    on_quiet (inl (none, it)) turns started at = absurd (false≢true (sym it.unbegun ∙ started))
    on_quiet (inr it) turns started at =
        let since : new.since ≡ player.since = taken.since ∙ ap (λ (b : Bool). if b then line.moment else player.since) turns in
        let same_pace : pace_of new ≡ pace_of player = taken.pace ∙ quiet_kind (pace_of player) line.kind at in
        record {
          begun = taken.begun;
          earlier = it.earlier;
          turn = it.turn;
          between = it.between ++ line ∷ [];
          are = ap (λ (l : List Line). l ++ line ∷ []) it.are ∙ append_assoc it.earlier (it.turn ∷ it.between) (line ∷ []);
          is_turn = it.is_turn;
          quiet = quiet_more it.between line it.quiet at;
          start = it.start;
          valued = it.valued;
          value_is = taken.value ∙ ap (λ (b : Bool). if b then time_at player line else player.value) turns ∙ it.value_is;
          since_is = since ∙ it.since_is;
          pace_is = same_pace ∙ it.pace_is;
          moved = moved;
          before = lines;
          last = line;
          ends = refl;
          now = time_at player line;
          now_is = time_for_calm player line.kind line.moment (at_calm line.kind at)
              ∙ clock_begun player it.start line.moment started it.value_is
              ∙ ap (λ (pace : Pace). later pace it.start (line.moment - player.since)) (sym same_pace)
              ∙ ap (λ (n : ℕ). later (pace_of new) it.start (line.moment - n)) (sym since)
              ∙ ap (λ (n : ℕ). later (pace_of new) it.start (n - new.since)) (sym taken.moment);
          valued_last = next_value times lines player line stands;
          greatest = greatest_on times lines player line stands le;
          within = subst (λ (n : ℕ). n ≤ length times) (sym taken.next_is) comes.within;
          passed = λ k less. comes.passed k (let n = taken.next_is in omega (arith, less, n));
          ahead = λ k le_k within. comes.ahead k (let n = taken.next_is in omega (arith, le_k, n)) within;
        }

pub step_stands : (times : List ℕ) (lines : List Line) (player new : Player) (line : Line) (from to : ℕ) → Stands times lines player → player.moment ≤ line.moment → IsFront times player line.kind from
    → (from ≤ length times → Ahead times from to (time_at player line)) → IsTaken player line (time_at player line) to new → new.since ≤ new.moment → Stands times (lines ++ line ∷ []) new
step_stands times lines player new line from to stands le front ahead taken moved = inr (step_stands_by times lines player new line to stands le comes taken moved)
  where
    calm_from : is_seek line.kind ≡ false → from ≡ player.next
    calm_from calm = front_calm times player line.kind from calm front

    -- what was passed before lies before the value of the line
    was_passed : Stands times lines player → is_seek line.kind ≡ false → (from ≤ length times) × ((k : ℕ) → k < from → get_or times k 0 ≤ time_at player line)
    was_passed (inl (none, it)) calm =
        let here = calm_from calm in
        let zero_is = it.front in
        (omega (arith, here, zero_is), λ k less. absurd (omega (arith, here, zero_is, less)))
    was_passed (inr it) calm =
        let here = calm_from calm in
        let within = it.within in
        let below = now_below times lines player line it le calm in
        (omega (arith, here, within), λ k less. let passed = it.passed k (omega (arith, here, less)) in omega (arith, passed, below))

    all : (is_seek line.kind ≡ false) ⊎ ((time : ℕ) × (line.kind ≡ kinds.Seek time)) → (from ≤ length times) × ((k : ℕ) → k < from → get_or times k 0 ≤ time_at player line)
    all (inl calm) = was_passed stands calm
    all (inr (time, is)) =
        let first : IsFirstFrom times time from = subst (λ (k : Kind). IsFront times player k from) is front in
        let same : time_at player line ≡ time = ap (λ (k : Kind). time_for player k line.moment) is in
        (first.within, λ k less. let before = first.before k less in omega (arith, before, same))

    comes : Comes times to (time_at player line)
    comes =
        let (within, passed) = all (kind_or line.kind) in
        let there = ahead within in
        record {
          within = there.within;
          passed = λ k less. elim (cases_lt k from) [
            | inl early ↦ passed k early
            | inr above ↦ there.before k above less
          ];
          ahead = there.after;
        }
