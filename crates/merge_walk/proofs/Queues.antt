-- Messages that were given, and those that are left in queues, each of which is in order.
use Rattle.std.proofs.Common.{◌≡◌, ◌⊎◌, ℕ, zero, suc, ◌+◌, List, [], ◌∷◌, ◌++◌, length, set, refl, sym, ap, subst, inl, inr, ◌∙◌, arith}
use Rattle.std.specs.Prelude.{AllPairs}
use Rattle.std.specs.List.{remove}
use Rattle.std.proofs.lemmas.Option.{same_Some}
use Rattle.mcap_model.specs.Places.{At, Has}
use Rattle.mcap_model.proofs.Places.{at_none, at_one, at_within, at_kept, at_last, at_more, at_set, at_set_same, at_set_other, pairs_more}
use Rattle.mcap_model.proofs.Lists.{at_either, at_second, pairs_at, pairs_from}
use Rattle.merge_walk.specs.declared.turns.Turn.{Turn}
use Rattle.merge_walk.specs.Cursors.{TurnBefore}
use Rattle.merge_walk.specs.Walks.{QueuesStand, GivenOrLeft}

-- ---- one element less

pub removed_has : {X : Type 0} (xs : List X) (i n : ℕ) (x : X) → At (remove xs i) n x → Has xs x
removed_has {X} [] i n x at = absurd (none i at)
  where
    none : (k : ℕ) → At (remove [] k) n x → ⊥
    none zero there = at_none n x there
    none (suc k) there = at_none n x there
removed_has (y ∷ ys) zero n x at = (suc n, at)
removed_has (y ∷ ys) (suc i) zero x at = (0, at)
removed_has (y ∷ ys) (suc i) (suc n) x at = let there = removed_has ys i n x at in (suc there.0, there.1)

pub removed_kept : {X : Type 0} (xs : List X) (i n : ℕ) (x : X) → (n ≡ i → ⊥) → At xs n x → Has (remove xs i) x
removed_kept [] i n x other at = absurd (at_none n x at)
removed_kept (y ∷ ys) zero zero x other at = absurd (other refl)
removed_kept (y ∷ ys) zero (suc n) x other at = (n, at)
removed_kept (y ∷ ys) (suc i) zero x other at = (0, at)
removed_kept (y ∷ ys) (suc i) (suc n) x other at = let there = removed_kept ys i n x (λ e. other (ap suc e)) at in (suc there.0, there.1)

-- ---- queues

-- the queue at that place has a message which comes before the first of each other queue
pub record HeadIsFirst (queues : List (List Turn)) (i : ℕ) (t : Turn) (rest : List Turn) : Type 0 where
  pub at : At queues i (t ∷ rest)
  pub first : (j : ℕ) (u : Turn) (q : List Turn) → (j ≡ i → ⊥) → At queues j (u ∷ q) → TurnBefore t u

before_trans : (a b c : Turn) → TurnBefore a b → TurnBefore b c → TurnBefore a c
before_trans a b c (inl one) (inl other) = inl (omega (arith, one, other))
before_trans a b c (inl one) (inr (e, rest)) = inl (omega (arith, one, e))
before_trans a b c (inr (e, rest)) (inl other) = inl (omega (arith, e, other))
before_trans a b c (inr (e, inl one)) (inr (f, inl other)) = inr (e ∙ f, inl (omega (arith, one, other)))
before_trans a b c (inr (e, inl one)) (inr (f, inr (g, rest))) = inr (e ∙ f, inl (omega (arith, one, g)))
before_trans a b c (inr (e, inr (g, rest))) (inr (f, inl other)) = inr (e ∙ f, inl (omega (arith, g, other)))
before_trans a b c (inr (e, inr (g, inl one))) (inr (f, inr (h, inl other))) = inr (e ∙ f, inr (g ∙ h, inl (omega (arith, one, other))))
before_trans a b c (inr (e, inr (g, inl one))) (inr (f, inr (h, inr (i, other)))) = inr (e ∙ f, inr (g ∙ h, inl (omega (arith, one, i))))
before_trans a b c (inr (e, inr (g, inr (i, one)))) (inr (f, inr (h, inl other))) = inr (e ∙ f, inr (g ∙ h, inl (omega (arith, i, other))))
before_trans a b c (inr (e, inr (g, inr (i, one)))) (inr (f, inr (h, inr (j, other)))) = inr (e ∙ f, inr (g ∙ h, inr (i ∙ j, omega (arith, one, other))))

-- what stands in a queue is its first, or behind that
at_or_behind : (q : List Turn) (k : ℕ) (u : Turn) → AllPairs TurnBefore q → At q k u → (h : Turn) × (rest : List Turn) × (q ≡ h ∷ rest) × ((u ≡ h) ⊎ TurnBefore h u)
at_or_behind [] k u pairs at = absurd (at_none k u at)
at_or_behind (h ∷ rest) zero u pairs at = (h, rest, refl, inl (sym (same_Some h u at)))
at_or_behind (h ∷ rest) (suc k) u pairs at = (h, rest, refl, inr (pairs_at TurnBefore (h ∷ rest) pairs zero (suc k) h u (omega arith) refl at))

tail_pairs : (t : Turn) (rest : List Turn) → AllPairs TurnBefore (t ∷ rest) → AllPairs TurnBefore rest
tail_pairs t rest pairs = pairs_from TurnBefore rest (λ i j x y less at_x at_y. pairs_at TurnBefore (t ∷ rest) pairs (suc i) (suc j) x y (omega (arith, less)) at_x at_y)

-- ---- the first message is given

module _ (given : List Turn) (queues : List (List Turn)) (i : ℕ) (t : Turn) (rest : List Turn) where
  -- it comes before what is left then
  before_left : QueuesStand given queues → HeadIsFirst queues i t rest → (j : ℕ) (q : List Turn) (u : Turn) → At (set queues i rest) j q → Has q u → TurnBefore t u
  before_left stands first j q u at has = elim (at_set queues i j q rest at) [
    | inl here ↦
        let pairs = stands.each i (t ∷ rest) first.at in
        let there : At rest has.0 u = subst (λ (l : List Turn). At l has.0 u) here.1 has.1 in
        pairs_at TurnBefore (t ∷ rest) pairs zero (suc has.0) t u (omega arith) refl there
    | inr other ↦
        let (h, more, is, behind) = at_or_behind q has.0 u (stands.each j q other.1) has.1 in
        let head : TurnBefore t h = first.first j h more other.0 (subst (λ (l : List Turn). At queues j l) is other.1) in
        elim behind [
          | inl same ↦ subst (TurnBefore t) (sym same) head
          | inr later ↦ before_trans t h u head later
        ]
  ]

  -- what is left then was left before
  was_left : HeadIsFirst queues i t rest → (j : ℕ) (q : List Turn) (u : Turn) → At (set queues i rest) j q → Has q u → (p : List Turn) × Has queues p × Has p u
  was_left first j q u at has = elim (at_set queues i j q rest at) [
    | inl here ↦ (t ∷ rest, (i, first.at), (suc has.0, subst (λ (l : List Turn). At l has.0 u) here.1 has.1))
    | inr other ↦ (q, (j, other.1), has)
  ]

  pub queues_on : QueuesStand given queues → HeadIsFirst queues i t rest → QueuesStand (given ++ t ∷ []) (set queues i rest)
  queues_on stands first =
      let past = stands.past in
      record {
        rise = pairs_more TurnBefore given t stands.rise (λ k g at. past g t (t ∷ rest) (k, at) (i, first.at) (0, refl));
        each = λ j q at. elim (at_set queues i j q rest at) [
          | inl here ↦ subst (AllPairs TurnBefore) (sym here.1) (tail_pairs t rest (stands.each i (t ∷ rest) first.at))
          | inr other ↦ stands.each j q other.1
        ];
        past = λ g u q has_g has_q has_u. elim (at_more given t has_g.0 g has_g.1) [
          | inl old ↦
              let (p, has_p, there) = was_left first has_q.0 q u has_q.1 has_u in
              past g u p (has_g.0, old) has_p there
          | inr new ↦ subst (λ (x : Turn). TurnBefore x u) (sym new.1) (before_left stands first has_q.0 q u has_q.1 has_u)
        ];
      }

  still_left : HeadIsFirst queues i t rest → (u : Turn) (q : List Turn) → Has queues q → Has q u → (u ≡ t) ⊎ ((p : List Turn) × Has (set queues i rest) p × Has p u)
  still_left first u q has_q has_u = by_place (same_place has_q.0 i)
    where
      same_place : (a b : ℕ) → (a ≡ b) ⊎ (a ≡ b → ⊥)
      same_place zero zero = inl refl
      same_place zero (suc b) = inr (λ e. omega (arith, e))
      same_place (suc a) zero = inr (λ e. omega (arith, e))
      same_place (suc a) (suc b) = elim (same_place a b) [
        | inl same ↦ inl (ap suc same)
        | inr other ↦ inr (λ e. other (omega (arith, e)))
      ]

      in_first : (k : ℕ) → At (t ∷ rest) k u → (u ≡ t) ⊎ ((p : List Turn) × Has (set queues i rest) p × Has p u)
      in_first zero at = inl (sym (same_Some t u at))
      in_first (suc k) at = inr (rest, (i, at_set_same queues i rest (at_within queues i (t ∷ rest) first.at)), (k, at))

      by_place : (has_q.0 ≡ i) ⊎ (has_q.0 ≡ i → ⊥) → (u ≡ t) ⊎ ((p : List Turn) × Has (set queues i rest) p × Has p u)
      by_place (inl same) =
          let here : q ≡ t ∷ rest = at_one queues i q (t ∷ rest) (subst (λ (n : ℕ). At queues n q) same has_q.1) first.at in
          in_first has_u.0 (subst (λ (l : List Turn). At l has_u.0 u) here has_u.1)
      by_place (inr other) = inr (q, (has_q.0, at_set_other queues i has_q.0 q rest other has_q.1), has_u)

  pub all_on : (all : List Turn) → GivenOrLeft all given queues → HeadIsFirst queues i t rest → GivenOrLeft all (given ++ t ∷ []) (set queues i rest)
  all_on all are first =
      let was = are.all in
      let left = are.left in
      record {
        are = λ g has. elim (at_more given t has.0 g has.1) [
          | inl old ↦ are.are g (has.0, old)
          | inr new ↦ subst (Has all) (sym new.1) (left (t ∷ rest) t (i, first.at) (0, refl))
        ];
        left = λ q u has_q has_u. let (p, has_p, there) = was_left first has_q.0 q u has_q.1 has_u in left p u has_p there;
        all = λ u has. elim (was u has) [
          | inl old ↦ inl (old.0, at_kept given (t ∷ []) old.0 u old.1)
          | inr found ↦ elim (still_left first u found.0 found.1 found.2) [
            | inl same ↦ inl (length given, subst (λ (x : Turn). At (given ++ t ∷ []) (length given) x) (sym same) (at_last given t []))
            | inr there ↦ inr there
          ]
        ];
      }

-- ---- a queue more

pub queues_more : (given : List Turn) (queues : List (List Turn)) (q : List Turn) → QueuesStand given queues → AllPairs TurnBefore q → ((g u : Turn) → Has given g → Has q u → TurnBefore g u) → QueuesStand given (queues ++ q ∷ [])
queues_more given queues q stands pairs behind =
    let past = stands.past in
    record {
      rise = stands.rise;
      each = λ j p at. elim (at_more queues q j p at) [
        | inl old ↦ stands.each j p old
        | inr new ↦ subst (AllPairs TurnBefore) (sym new.1) pairs
      ];
      past = λ g u p has_g has_p has_u. elim (at_more queues q has_p.0 p has_p.1) [
        | inl old ↦ past g u p has_g (has_p.0, old) has_u
        | inr new ↦ behind g u has_g (has_u.0, subst (λ (l : List Turn). At l has_u.0 u) new.1 has_u.1)
      ];
    }

pub all_more : (all given : List Turn) (queues : List (List Turn)) (q more : List Turn) → GivenOrLeft all given queues → ((u : Turn) → Has q u → Has more u) → ((u : Turn) → Has more u → Has q u) → GivenOrLeft (all ++ more) given (queues ++ q ∷ [])
all_more all given queues q more are there back =
    let was = are.all in
    let left = are.left in
    record {
      are = λ g has. let old = are.are g has in (old.0, at_kept all more old.0 g old.1);
      left = λ p u has_p has_u. elim (at_more queues q has_p.0 p has_p.1) [
        | inl old ↦ let x = left p u (has_p.0, old) has_u in (x.0, at_kept all more x.0 u x.1)
        | inr new ↦
            let x = there u (has_u.0, subst (λ (l : List Turn). At l has_u.0 u) new.1 has_u.1) in
            (length all + x.0, at_second all more x.0 u x.1)
      ];
      all = λ u has. elim (at_either all more has.0 u has.1) [
        | inl old ↦ elim (was u (has.0, old)) [
          | inl gone ↦ inl gone
          | inr found ↦ inr (found.0, (found.1.0, at_kept queues (q ∷ []) found.1.0 found.0 found.1.1), found.2)
        ]
        | inr new ↦ inr (q, (length queues, at_last queues q []), back u (new.0, new.2))
      ];
    }

-- ---- an empty queue less

pub queues_less : (given : List Turn) (queues : List (List Turn)) (i : ℕ) → QueuesStand given queues → QueuesStand given (remove queues i)
queues_less given queues i stands =
    let past = stands.past in
    record {
      rise = stands.rise;
      each = λ j q at. let there = removed_has queues i j q at in stands.each there.0 q there.1;
      past = λ g u q has_g has_q has_u. past g u q has_g (removed_has queues i has_q.0 q has_q.1) has_u;
    }

pub all_less : (all given : List Turn) (queues : List (List Turn)) (i : ℕ) → GivenOrLeft all given queues → At queues i [] → GivenOrLeft all given (remove queues i)
all_less all given queues i are empty =
    let was = are.all in
    let left = are.left in
    record {
      are = are.are;
      left = λ q u has_q has_u. left q u (removed_has queues i has_q.0 q has_q.1) has_u;
      all = λ u has. elim (was u has) [
        | inl gone ↦ inl gone
        | inr found ↦ inr (found.0, removed_kept queues i found.1.0 found.0 (λ same. not_empty found.0 found.2 (at_one queues i found.0 [] (subst (λ (n : ℕ). At queues n found.0) same found.1.1) empty)) found.1.1, found.2)
      ];
    }
  where
    not_empty : (q : List Turn) {u : Turn} → Has q u → q ≡ [] → ⊥
    not_empty q {u} has is = at_none has.0 u (subst (λ (l : List Turn). At l has.0 u) is has.1)

-- ---- all were given

pub all_given : (all given : List Turn) → GivenOrLeft all given [] → (u : Turn) → Has all u → Has given u
all_given all given are u has = let was = are.all in elim (was u has) [
  | inl gone ↦ gone
  | inr found ↦ absurd (at_none found.1.0 found.0 found.1.1)
]
