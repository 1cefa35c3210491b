-- The empty history.
use Rattle.std.proofs.Common.{◌≡◌, ℕ, zero, suc, List, [], ◌∷◌, Option, take, refl, subst, sym}
use Rattle.live_entry.proofs.Nothing.{nothing_follows}
use Rattle.live_entry.specs.Entries.{EntriesFollow}
use Rattle.live_directory.specs.declared.front.Added.{Added}
use Rattle.live_directory.specs.Published.{entries_of}
use Rattle.live_directory.specs.Histories.{IsHistory, EndsLast}

module _ {X : Type 0} (tells : X → Option (List ℕ)) where
  nothing_ends : EndsLast {X = X} []
  nothing_ends before [] end split is = refl
  nothing_ends [] (b ∷ behind) end split is = absurd (cc (split))
  nothing_ends (a ∷ before) (b ∷ behind) end split is = absurd (cc (split))

  none_taken : (n : ℕ) → take {A = Added X} n [] ≡ []
  none_taken zero = refl
  none_taken (suc n) = refl

  pub no_history : IsHistory tells []
  no_history = record {
    ends = nothing_ends;
    follow = λ n. subst (λ (h : List (Added X)). EntriesFollow tells (entries_of h)) (sym (none_taken n)) (nothing_follows tells);
  }
