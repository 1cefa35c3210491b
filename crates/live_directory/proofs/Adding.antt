-- The exchange that adds a batch keeps the rule.
use Rattle.std.proofs.Common.{◌≡◌, ℕ, ◌+◌, ◌<◌, ◌==◌, Bool, true, false, List, [], ◌∷◌, ◌++◌, length, refl, ap, sym, ◌∙◌, subst, arith, inl, length-append, Option, None}
use Rattle.std.proofs.lemmas.List.{append-nil}
use Rattle.std.proofs.lemmas.Bool.Decides.{nat_tests}
use mathlib.Core.List.{IsPrefix}
use prog.Atomic.{either}
use Rattle.logbook.specs.Pages.{Cell, cell, keeps, no_nib, step, Moves, Goes}
use Rattle.live_entry.specs.Entries.{EntriesFollow}
use Rattle.live_directory.specs.declared.front.Added.{Added}
use Rattle.live_directory.specs.Published.{end_of, entries_of}
use Rattle.live_directory.specs.Histories.{IsHistory}
use Rattle.live_directory.specs.Rules.{IsBookOf, AddsBatch}
use Rattle.live_directory.proofs.Beginnings.{prefix_whole}
use Rattle.live_directory.proofs.Histories.{history_after}

module _ {X : Type 0} (tells : X → Option (List ℕ)) where
  abbrev pub shown : List (Added X) → List (Added X)
  shown log = []

  abbrev pub moved : List (Added X) → List (Added X) → ℕ → Type 0
  moved xs ys n = Unit {0}

  pub adds_goes : (log v : List (Added X)) (e : Added X) (old : ℕ) → length v ≡ old → end_of v ≡ None → EntriesFollow tells (entries_of v ++ e.entries) → IsHistory tells log → IsPrefix v log
      → (b : Bool) → (length log == old) ≡ b
      → Goes (IsBookOf tells) shown moved 0 (v, (no_nib, None)) (λ n. either (n == old) (old + 1) n) (AddsBatch tells (step 0 old (old + 1) e) (v, (no_nib, None))) ((length log, true) ∷ (0, true) ∷ []) log
  adds_goes log v e old len may next legal pre true is =
      let here : length log ≡ old = grind (arith, nat_tests) in
      let same : v ≡ log = prefix_whole v log pre (omega arith) in
      let next' : EntriesFollow tells (entries_of log ++ e.entries) = subst (λ (w : List (Added X)). EntriesFollow tells (entries_of w ++ e.entries)) same next in
      let legal' : IsHistory tells (log ++ e ∷ []) = history_after tells log e (ap end_of (sym same) ∙ may) next' legal in
      let n : either (length log == old) (old + 1) (length log) ≡ length (log ++ e ∷ []) = rw is (omega (arith, length-append log (e ∷ []))) in (
        keeps,
        e ∷ [],
        None,
        tt,
        record { words = ap (λ (k : ℕ). (k, true) ∷ (0, true) ∷ []) n; legal = legal' },
        inl (refl, refl),
        rw is (ap (λ w. w ++ e ∷ []) (sym same), legal'),
      )
  adds_goes log v e old len may next legal pre false is =
      let all : log ++ [] ≡ log = append-nil log in
      let legal' : IsHistory tells (log ++ []) = subst (IsHistory tells) (sym all) legal in
      let n : either (length log == old) (old + 1) (length log) ≡ length (log ++ []) = rw is (ap length (sym all)) in (
        keeps,
        [],
        None,
        tt,
        record { words = ap (λ (k : ℕ). (k, true) ∷ (0, true) ∷ []) n; legal = legal' },
        inl (refl, refl),
        rw is (ap length all, legal'),
      )

  pub adds_moves : (v : List (Added X)) (e : Added X) (old : ℕ) → length v ≡ old → end_of v ≡ None → EntriesFollow tells (entries_of v ++ e.entries)
      → Moves (IsBookOf tells) shown moved 0 (v, (no_nib, None)) (λ n. either (n == old) (old + 1) n) (AddsBatch tells (step 0 old (old + 1) e) (v, (no_nib, None)))
  adds_moves v e old len may next cs log kept pre away =
      let P : List Cell → Type 0 = λ c. (0 < length c) × ((cell c 0).1 ≡ true) × Goes (IsBookOf tells) shown moved 0 (v, (no_nib, None)) (λ n. either (n == old) (old + 1) n) (AddsBatch tells (step 0 old (old + 1) e) (v, (no_nib, None))) c log in
      subst P (sym kept.words) (omega arith, refl, adds_goes log v e old len may next kept.legal pre (length log == old) refl)
