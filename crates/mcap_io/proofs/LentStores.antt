-- A source that was made over a store, and read since.
use Rattle.std.proofs.Common.{◌≡◌, ◌∙◌, ℕ, ◌+◌, ◌≤◌, ap, inl, inr, arith}
use Rattle.std.proofs.lemmas.Bool.{cases_lt}
use Rattle.mcap_io.specs.Outside.{one_more}
use Rattle.mcap_io.specs.Stores.{StoreState}
use Rattle.mcap_io.specs.declared.store.Store.{Ghosts}
use Rattle.mcap_io.specs.declared.front.StoreFront.{StoreFront}
use Rattle.mcap_io.specs.StoreFronts.{WasRead}

-- Where a source was made over the store that was lent to it, and stayed so: what was read since.
pub front_read : {T Same : Type 0} (g : Ghosts T) (lent : T) (len : ℕ) (made s : StoreFront T g) → made.store.now ≡ lent → made.len ≡ len → made.faults_before ≡ (g.state lent).faults → made.asked_before ≡ (g.state lent).asked
    → Same × (s.len ≡ made.len) × (s.faults_before ≡ made.faults_before) × (s.asked_before ≡ made.asked_before) × ((g.state s.store.now).bytes ≡ (g.state made.store.now).bytes) × ((g.state s.store.now).known ≡ (g.state made.store.now).known)
    → WasRead (g.state lent) (g.state s.store.now) s.next len s.failures
front_read g lent len made s is long faults_is asked_is stays =
    let len_is : s.len ≡ len = stays.1 ∙ long in
    let faults : s.faults_before ≡ (g.state lent).faults = stays.2 ∙ faults_is in
    let asked : s.asked_before ≡ (g.state lent).asked = stays.3 ∙ asked_is in
    record {
      bytes = stays.4 ∙ ap (λ x. (g.state x).bytes) is;
      known = stays.5 ∙ ap (λ x. (g.state x).known) is;
      within = omega (arith, s.within.0, len_is);
      whole = λ none. let whole = s.whole none in (whole.0 ∙ faults, omega (arith, whole.1, asked));
      broken = λ some. let broken = s.broken some in (omega (arith, broken.0, faults), broken.1 ∙ ap one_more faults, omega (arith, broken.2, asked, len_is));
    }

-- no more was asked for than the front has
pub asks_front : (old new : StoreState) (next len failures : ℕ) → WasRead old new next len failures → new.asked ≤ old.asked + len
asks_front old new next len failures was = elim (cases_lt 0 failures) [
  | inl failed ↦ let broken = was.broken failed in broken.2
  | inr none ↦ let whole = was.whole (omega (arith, none)) in omega (arith, whole.1, was.within)
]
