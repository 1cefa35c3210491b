-- The log times of one message more.
use Rattle.std.proofs.Common.{◌≡◌, ◌⊎◌, ℕ, ◌≤◌, min, max, Bool, true, false, not, ◌||◌, ◌&&◌, eqb, List, [], ◌∷◌, ◌++◌, length, refl, sym, ap, subst, inl, inr, ◌∙◌, arith}
use Rattle.std.proofs.lemmas.Bool.{both_ways, cases_lt, and_parts, and_from, eqb-true, eq-eqb}
use Rattle.mcap_model.specs.Tops.{Top}
use Rattle.mcap_model.specs.Fields.{MessageFields, IsMessage}
use Rattle.mcap_model.specs.Rules.{LogsAt, TimesAre}
use Rattle.mcap_model.proofs.Places.{at_none, at_kept, at_last, at_more}
use Rattle.mcap_model.specs.declared.times.Times.{Times}
use Rattle.mcap_model.specs.Times.{TimesOf}
use Rattle.mcap_model.proofs.Maps.{message_once}

logs_more : (inner : List Top) (t : Top) (time : ℕ) → LogsAt inner time → LogsAt (inner ++ t ∷ []) time
logs_more inner t time l = record { place = l.place; top = l.top; channel = l.channel; message = l.message; at = at_kept inner (t ∷ []) l.place l.top l.at; is = l.is; then = l.then }

logs_last : (inner : List Top) (t : Top) (channel : ℕ) (m : MessageFields) (time : ℕ) → IsMessage t channel m → m.log_time ≡ time → LogsAt (inner ++ t ∷ []) time
logs_last inner t channel m time is then = record { place = length inner; top = t; channel = channel; message = m; at = at_last inner t []; is = is; then = then }

logs_old : (inner : List Top) (t : Top) (time : ℕ) → (t.op ≡ 5 → ⊥) → LogsAt (inner ++ t ∷ []) time → LogsAt inner time
logs_old inner t time other l = elim (at_more inner t l.place l.top l.at) [
  | inl old ↦ record { place = l.place; top = l.top; channel = l.channel; message = l.message; at = old; is = l.is; then = l.then }
  | inr last ↦ let is = l.is in absurd (other (sym (ap (λ (x : Top). x.op) last.1) ∙ is.kind))
]

logs_cases : (inner : List Top) (t : Top) (channel : ℕ) (m : MessageFields) (time : ℕ) → IsMessage t channel m → LogsAt (inner ++ t ∷ []) time → LogsAt inner time ⊎ (m.log_time ≡ time)
logs_cases inner t channel m time is l = elim (at_more inner t l.place l.top l.at) [
  | inl old ↦ inl (record { place = l.place; top = l.top; channel = l.channel; message = l.message; at = old; is = l.is; then = l.then })
  | inr last ↦
      let once = message_once t channel l.channel m l.message is (subst (λ (x : Top). IsMessage x l.channel l.message) last.1 l.is) in
      inr (ap (λ (x : MessageFields). x.log_time) once.1 ∙ l.then)
]

pub times_none : (times : Times) → times.any ≡ false → TimesOf [] times
times_none times none = record {
  none = λ e time l. at_none l.place l.top l.at;
  least = λ e. absurd (both_ways times.any none e);
  greatest = λ e. absurd (both_ways times.any none e);
  within = λ e time l. absurd (both_ways times.any none e);
}

-- a record that is no Message
pub times_other : (inner : List Top) (t : Top) (times : Times) → TimesOf inner times → (t.op ≡ 5 → ⊥) → TimesOf (inner ++ t ∷ []) times
times_other inner t times was other = record {
  none = λ e time l. was.none e time (logs_old inner t time other l);
  least = λ e. logs_more inner t times.least (was.least e);
  greatest = λ e. logs_more inner t times.greatest (was.greatest e);
  within = λ e time l. was.within e time (logs_old inner t time other l);
}

-- the times with those of one message more
pub record IsWith (times : Times) (time : ℕ) (more : Times) : Type 0 where
  pub any : more.any ≡ true
  pub first_least : times.any ≡ false → more.least ≡ time
  pub first_greatest : times.any ≡ false → more.greatest ≡ time
  pub least : times.any ≡ true → more.least ≡ min times.least time
  pub greatest : times.any ≡ true → more.greatest ≡ max times.greatest time

pub times_with : (inner : List Top) (t : Top) (times more : Times) (channel : ℕ) (m : MessageFields) (time : ℕ) → TimesOf inner times → IsMessage t channel m → m.log_time ≡ time → IsWith times time more → TimesOf (inner ++ t ∷ []) more
times_with inner t times more channel m time was is then one = by times.any refl
  where
    last : LogsAt (inner ++ t ∷ []) time
    last = logs_last inner t channel m time is then

    low : times.any ≡ true → LogsAt (inner ++ t ∷ []) more.least
    low any = elim (cases_lt times.least time) [
      | inl less ↦ let same : times.least ≡ more.least = omega (arith, less, one.least any) in subst (LogsAt (inner ++ t ∷ [])) same (logs_more inner t times.least (was.least any))
      | inr less ↦ let same : time ≡ more.least = omega (arith, less, one.least any) in subst (LogsAt (inner ++ t ∷ [])) same last
    ]

    high : times.any ≡ true → LogsAt (inner ++ t ∷ []) more.greatest
    high any = elim (cases_lt times.greatest time) [
      | inl less ↦ let same : time ≡ more.greatest = omega (arith, less, one.greatest any) in subst (LogsAt (inner ++ t ∷ [])) same last
      | inr less ↦ let same : times.greatest ≡ more.greatest = omega (arith, less, one.greatest any) in subst (LogsAt (inner ++ t ∷ [])) same (logs_more inner t times.greatest (was.greatest any))
    ]

    bounds : times.any ≡ true → (x : ℕ) → LogsAt (inner ++ t ∷ []) x → (more.least ≤ x) × (x ≤ more.greatest)
    bounds any x l = elim (logs_cases inner t channel m x is l) [
      | inl old ↦ let old_bounds = was.within any x old in (omega (arith, old_bounds, one.least any), omega (arith, old_bounds, one.greatest any))
      | inr here ↦ (omega (arith, here, then, one.least any), omega (arith, here, then, one.greatest any))
    ]

    first_bounds : times.any ≡ false → (x : ℕ) → LogsAt (inner ++ t ∷ []) x → (more.least ≤ x) × (x ≤ more.greatest)
    first_bounds none x l = elim (logs_cases inner t channel m x is l) [
      | inl old ↦ absurd (was.none none x old)
      | inr here ↦ (omega (arith, here, then, one.first_least none), omega (arith, here, then, one.first_greatest none))
    ]

    by : (b : Bool) → times.any ≡ b → TimesOf (inner ++ t ∷ []) more
    by true any = record {
      none = λ e. absurd (both_ways more.any e one.any);
      least = λ e. low any;
      greatest = λ e. high any;
      within = λ e. bounds any;
    }
    by false none = record {
      none = λ e. absurd (both_ways more.any e one.any);
      least = λ e. subst (LogsAt (inner ++ t ∷ [])) (sym (one.first_least none)) last;
      greatest = λ e. subst (LogsAt (inner ++ t ∷ [])) (sym (one.first_greatest none)) last;
      within = λ e. first_bounds none;
    }

-- ---- the times of a chunk

pub times_right : (inner : List Top) (times : Times) (start end : ℕ) → TimesOf inner times → (times.any ≡ true → (times.least ≡ start) × (times.greatest ≡ end)) → TimesAre inner start end
times_right inner times start end was same time logs = by times.any refl
  where
    by : (b : Bool) → times.any ≡ b → (start ≤ time) × (time ≤ end) × LogsAt inner start × LogsAt inner end
    by true any =
        let are = same any in
        let bounds = was.within any time logs in
        (omega (arith, are, bounds), omega (arith, are, bounds), subst (LogsAt inner) are.0 (was.least any), subst (LogsAt inner) are.1 (was.greatest any))
    by false none = absurd (was.none none time logs)

pub times_wrong : (inner : List Top) (times : Times) (start end : ℕ) → TimesOf inner times → times.any ≡ true → ((times.least ≡ start) × (times.greatest ≡ end) → ⊥) → TimesAre inner start end → ⊥
times_wrong inner times start end was any other right =
    let low = right times.least (was.least any) in
    let high = right times.greatest (was.greatest any) in
    let start_in = was.within any start low.2 in
    let end_in = was.within any end low.3 in
    other (omega (arith, low.0, start_in.0), omega (arith, high.1, end_in.1))

-- ---- what the test of a chunk's times says

pub test_holds : (any : Bool) (a b c d : ℕ) → (not any || (eqb a b && eqb c d)) ≡ true → any ≡ true → (a ≡ b) × (c ≡ d)
test_holds true a b c d test any = let both = and_parts (eqb a b) (eqb c d) test in (eqb-true a b both.0, eqb-true c d both.1)
test_holds false a b c d test any = absurd (both_ways false refl any)

pub test_fails : (any : Bool) (a b c d : ℕ) → (not any || (eqb a b && eqb c d)) ≡ false → (any ≡ true) × ((a ≡ b) × (c ≡ d) → ⊥)
test_fails true a b c d test = (refl, λ same. both_ways (eqb a b && eqb c d) test (and_from (eqb a b) (eqb c d) (eq-eqb a b same.0) (eq-eqb c d same.1)))
test_fails false a b c d test = absurd (both_ways true test refl)
