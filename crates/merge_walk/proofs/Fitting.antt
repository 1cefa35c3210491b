-- Bytes that can be those of a span, or can't.
use Rattle.std.proofs.Common.{◌≡◌, ℕ, List, [], ◌∷◌, ◌++◌, length, refl, sym, ap, subst, inl, inr, arith}
use Rattle.std.specs.Prelude.{IsPermutation}
use Rattle.std.proofs.lemmas.List.Sorted.{IsPermutation-sym, length_permutation}
use Rattle.mcap_model.specs.Places.{Has}
use Rattle.mcap_model.specs.Tops.{records_in}
use Rattle.mcap_model.proofs.Places.{at_more}
use Rattle.merge_walk.specs.declared.window.Loaded.{Loaded}
use Rattle.merge_walk.specs.Parts.{loaded_part, IsPartLoaded}
use Rattle.merge_walk.specs.declared.spans.Span.{Span}
use Rattle.mcap_scan.specs.declared.message_heads.MessageHead.{MessageHead}
use Rattle.mcap_scan.specs.Heads.{heads_in}
use Rattle.merge_walk.specs.Heads.{OffsetsRise, AreInSpan, FitsSpan}
use Rattle.merge_walk.proofs.Listed.{heads_apart}
use Rattle.merge_walk.proofs.OnTurn.{moved}

pub listed_apart : (bytes : List ℕ) (heads : List MessageHead) → heads ≡ heads_in bytes → OffsetsRise heads
listed_apart bytes heads is = subst OffsetsRise (sym is) (heads_apart 0 (records_in bytes))

none_long : (heads : List MessageHead) → length heads ≡ 0 → heads ≡ []
none_long [] is = refl
none_long (e ∷ es) is = absurd (omega (arith, is))

-- no message is there
pub unfit_empty : (span : Span) (bytes : List ℕ) (heads : List MessageHead) → IsPermutation (heads_in bytes) heads → length heads ≡ 0 → FitsSpan span bytes → ⊥
unfit_empty span bytes heads same none fits =
    let size = length_permutation (heads_in bytes) heads same in
    fits.some (none_long (heads_in bytes) (omega (arith, size, none)))

-- there are more, or fewer
pub unfit_many : (span : Span) (bytes : List ℕ) (heads : List MessageHead) → IsPermutation (heads_in bytes) heads → (length heads ≡ span.messages → ⊥) → FitsSpan span bytes → ⊥
unfit_many span bytes heads same other fits =
    let size = length_permutation (heads_in bytes) heads same in
    let many = fits.many in
    other (omega (arith, size, many))

-- one was logged at another time
pub unfit_outside : (span : Span) (bytes : List ℕ) (heads : List MessageHead) → IsPermutation (heads_in bytes) heads → (AreInSpan span heads → ⊥) → FitsSpan span bytes → ⊥
unfit_outside span bytes heads same outside fits = outside (λ n e at.
    let there = moved heads (heads_in bytes) e (IsPermutation-sym (heads_in bytes) heads same) (n, at) in
    fits.within there.0 e there.1)

-- the part that was loaded last
pub part_loaded : (loaded : List Loaded) (input at : ℕ) (bytes found : List ℕ) → (IsPartLoaded loaded input at → ⊥) → Has (loaded ++ loaded_part input at bytes ∷ []) (loaded_part input at found) → found ≡ bytes
part_loaded loaded input at bytes found unloaded has = elim (at_more loaded (loaded_part input at bytes) has.0 (loaded_part input at found) has.1) [
  | inl before ↦ absurd (unloaded (loaded_part input at found, (has.0, before), (refl, refl)))
  | inr last ↦ ap (λ (l : Loaded). l.bytes) last.1
]
