-- What a reader knows and holds.
use Rattle.std.proofs.Common.{◌≡◌, ℕ, List, [], ◌∷◌, ◌++◌, length, Option, sym, ap, subst, ◌+◌, arith, length-append}
use Rattle.std.specs.Prelude.{All}
use Rattle.std.proofs.lemmas.List.Elements.{All-push}
use mathlib.Core.List.{IsPrefix}
use Rattle.live_directory.specs.declared.front.Added.{Added}
use Rattle.live_directory.specs.Histories.{IsHistory}
use Rattle.live_directory.specs.Reading.{ReaderState, unread}
use Rattle.live_directory.specs.ReaderSteps.{Learns, AreUnread}
use Rattle.live_directory.proofs.Histories.{front_grows}

module _ {X : Type 0} where
  pub learns : (tells : X → Option (List ℕ)) (before now : ReaderState X) (known : List (Added X)) → known ≡ before.known → IsPrefix known now.known → IsHistory tells now.known
      → now.entries ≡ before.entries → Learns before now
  learns tells before now known is grows history held =
      let more : IsPrefix before.known now.known = subst (λ (k : List (Added X)). IsPrefix k now.known) is grows in
      record { grows = more; rises = front_grows tells before.known now.known more history; held = held }

  -- one unread reader more
  pub unread_more : (xs ys : List (ReaderState X)) (x : ReaderState X) (n : ℕ) → AreUnread xs n → ys ≡ xs ++ x ∷ [] → x ≡ unread → AreUnread ys (n + 1)
  unread_more xs ys x n are is new =
      let every : All (λ (r : ReaderState X). r ≡ unread) (xs ++ x ∷ []) = All-push (λ (r : ReaderState X). r ≡ unread) xs x are.each new in
      let many = are.many in record {
        many = omega (arith, many, ap length is, length-append xs (x ∷ []));
        each = subst (All (λ (r : ReaderState X). r ≡ unread)) (sym is) every;
      }
