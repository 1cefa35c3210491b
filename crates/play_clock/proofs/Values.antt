-- The values of lines: each has one.
use Rattle.std.proofs.Common.{◌≡◌, ◌⊎◌, ℕ, zero, suc, ◌-◌, ◌+◌, ◌*◌, ◌/◌, ◌<◌, ◌≤◌, Bool, true, false, List, [], ◌∷◌, ◌++◌, length, take, refl, sym, ap, subst, inl, inr, ◌∙◌, arith}
use Rattle.std.proofs.lemmas.Bool.{false≢true}
use Rattle.mcap_model.specs.Places.{At, Each}
use Rattle.mcap_model.proofs.Places.{at_last, heads, tails}
use Rattle.play_clock.specs.declared.line.Line.{Line}
use Rattle.play_clock.specs.declared.line.Kind.{Kind}
use Rattle.play_clock.specs.declared.line.Kind.TheVariants as kinds
use Rattle.play_clock.specs.Played.{Pace, pace_after, later, is_at, is_seek, IsTurn, IsValue, sought, begun, counted}

abbrev pub IsQuiet : List Line → Type 0
IsQuiet lines = Each (λ (l : Line). is_at l.kind ≡ true) lines

pub no_seek : (line : Line) (time : ℕ) → line.kind ≡ kinds.Seek time → is_seek line.kind ≡ false → ⊥
no_seek line time is not_so = false≢true (sym not_so ∙ ap is_seek is)

pub one_time : (t u : ℕ) → kinds.Seek t ≡ kinds.Seek u → t ≡ u
one_time t u e = cc

pub joined_some : (xs : List Line) (a : Line) (more : List Line) → xs ++ a ∷ more ≡ [] → ⊥
joined_some [] a more e = cc
joined_some (x ∷ xs) a more e = cc

-- a turn that isn't the first line
turn_after : (x : Line) (xs : List Line) (a : Line) → IsTurn (x ∷ xs) a → is_at a.kind ≡ false
turn_after x xs a (inl none) = absurd (cc)
turn_after x xs a (inr is) = is

loud : (xs : List Line) (a : Line) (more : List Line) → IsQuiet (xs ++ a ∷ more) → is_at a.kind ≡ false → ⊥
loud xs a more quiet is = false≢true (sym is ∙ quiet (length xs) a (at_last xs a more))

pub record SameCut (xs : List Line) (a : Line) (more : List Line) (ys : List Line) (b : Line) (bs : List Line) : Type 0 where
  pub front : xs ≡ ys
  pub turn : a ≡ b
  pub back : more ≡ bs

-- lines are cut at their last turn in one way
pub turn_once : (xs : List Line) (a : Line) (more : List Line) (ys : List Line) (b : Line) (bs : List Line) → xs ++ a ∷ more ≡ ys ++ b ∷ bs
    → IsTurn xs a → IsTurn ys b → IsQuiet more → IsQuiet bs → SameCut xs a more ys b bs
turn_once [] a more [] b bs same is other quiet calm = record { front = refl; turn = heads a b more bs same; back = tails a b more bs same }
turn_once [] a more (y ∷ ys) b bs same is other quiet calm = absurd (loud ys b bs (subst IsQuiet (tails a y more (ys ++ b ∷ bs) same) quiet) (turn_after y ys b other))
turn_once (x ∷ xs) a more [] b bs same is other quiet calm = absurd (loud xs a more (subst IsQuiet (sym (tails x b (xs ++ a ∷ more) bs same)) calm) (turn_after x xs a is))
turn_once (x ∷ xs) a more (y ∷ ys) b bs same is other quiet calm =
    let first = heads x y (xs ++ a ∷ more) (ys ++ b ∷ bs) same in
    let cut = turn_once xs a more ys b bs (tails x y (xs ++ a ∷ more) (ys ++ b ∷ bs) same) (inr (turn_after x xs a is)) (inr (turn_after y ys b other)) quiet calm in
    record { front = let front = cut.front in cc; turn = cut.turn; back = cut.back }

-- ---- one value

pub record IsCounted (first : ℕ) (before : List Line) (line : Line) (value : ℕ) : Type 0 where
  pub earlier : List Line
  pub between : List Line
  pub turn : Line
  pub start : ℕ
  pub are : before ≡ earlier ++ turn ∷ between
  pub is_turn : IsTurn earlier turn
  pub quiet : IsQuiet between
  pub valued : IsValue first earlier turn start
  pub value_is : value ≡ later (pace_after (earlier ++ turn ∷ [])) start (line.moment - turn.moment)

seek_value : (first : ℕ) (before : List Line) (line : Line) (value time : ℕ) → line.kind ≡ kinds.Seek time → IsValue first before line value → value ≡ time
seek_value first before line value time is (sought b l t it) = one_time t time (sym it ∙ is)
seek_value first before line value time is (begun b l none calm) = absurd (no_seek l time is calm)
seek_value first before line value time is (counted b l earlier between turn start are is_turn quiet calm valued) = absurd (no_seek l time is calm)

first_value : (first : ℕ) (before : List Line) (line : Line) (value : ℕ) → before ≡ [] → is_seek line.kind ≡ false → IsValue first before line value → value ≡ first
first_value first before line value none calm (sought b l t it) = absurd (no_seek l t it calm)
first_value first before line value none calm (begun b l empty still) = refl
first_value first before line value none calm (counted b l earlier between turn start are is_turn quiet still valued) = absurd (joined_some earlier turn between (sym are ∙ none))

later_value : (first : ℕ) (before : List Line) (line : Line) (value : ℕ) → (before ≡ [] → ⊥) → is_seek line.kind ≡ false → IsValue first before line value → IsCounted first before line value
later_value first before line value some calm (sought b l t it) = absurd (no_seek l t it calm)
later_value first before line value some calm (begun b l empty still) = absurd (some empty)
later_value first before line value some calm (counted b l earlier between turn start are is_turn quiet still valued) =
    record { earlier = earlier; between = between; turn = turn; start = start; are = are; is_turn = is_turn; quiet = quiet; valued = valued; value_is = refl }

same_later : (xs ys : List Line) (a b line : Line) (v w : ℕ) → xs ≡ ys → a ≡ b → v ≡ w
    → later (pace_after (xs ++ a ∷ [])) v (line.moment - a.moment) ≡ later (pace_after (ys ++ b ∷ [])) w (line.moment - b.moment)
same_later xs ys a b line v w one two three =
    ap (λ (l : List Line). later (pace_after (l ++ a ∷ [])) v (line.moment - a.moment)) one
    ∙ ap (λ (l : Line). later (pace_after (ys ++ l ∷ [])) v (line.moment - l.moment)) two
    ∙ ap (λ (n : ℕ). later (pace_after (ys ++ b ∷ [])) n (line.moment - b.moment)) three

pub values_once : (first : ℕ) (before : List Line) (line : Line) (v w : ℕ) → IsValue first before line v → IsValue first before line w → v ≡ w
values_once first before line v w (sought b l t is) other = sym (seek_value first b l w t is other)
values_once first before line v w (begun b l none calm) other = sym (first_value first b l w none calm other)
values_once first before line v w (counted b l earlier between turn start are is_turn quiet calm valued) other =
    let it = later_value first b l w (λ none. joined_some earlier turn between (sym are ∙ none)) calm other in
    let cut = turn_once earlier turn between it.earlier it.turn it.between (sym are ∙ it.are) is_turn it.is_turn quiet it.quiet in
    let moved : IsValue first earlier turn it.start =
    subst (λ (x : Line). IsValue first earlier x it.start) (sym cut.turn) (subst (λ (x : List Line). IsValue first x it.turn it.start) (sym cut.front) it.valued) in
    same_later earlier it.earlier turn it.turn l start it.start cut.front cut.turn (values_once first earlier turn start it.start valued moved) ∙ sym it.value_is
