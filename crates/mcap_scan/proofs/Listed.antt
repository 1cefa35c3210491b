-- The heads that are listed of a chunk's Messages.
use Rattle.std.proofs.Common.{◌≡◌, ℕ, ◌≤◌, Bool, true, ◌&&◌, List, [], ◌∷◌, ◌++◌, length, Some, None, sym, ap, ◌∙◌, append_assoc, append-nil}
use Rattle.std.specs.Prelude.{nat_le, if◌then◌else◌}
use Rattle.std.specs.List.{flat_map}
use Rattle.std.proofs.lemmas.Bool.{eq-eqb, le-leb}
use Rattle.mcap_model.specs.declared.inner.Inner.{Inner}
use Rattle.mcap_model.specs.Tops.{Top, records_in, Placed, placed_inside}
use Rattle.mcap_model.specs.Made.{top}
use Rattle.mcap_model.specs.Walk.{inner_top, StepsOver}
use Rattle.mcap_scan.specs.declared.message_heads.MessageHead.{MessageHead}
use Rattle.mcap_scan.specs.Heads.{head_of, heads_at, HeadIs}
use Rattle.mcap_scan.specs.HeadTimes.{is_headed}

pub headed : (op : ℕ) (content : List ℕ) → op ≡ 5 → 22 ≤ length content → is_headed (top op content) ≡ true
headed op content is long = ap (λ (b : Bool). b && nat_le 22 (length content)) (eq-eqb op 5 is) ∙ le-leb 22 (length content) long

-- the heads of what a walk has in front of it
abbrev pub heads_ahead : ℕ → List ℕ → List MessageHead
heads_ahead at rest = flat_map heads_at (placed_inside 0 at (records_in rest))

abbrev placed_there : ℕ → Top → Placed
placed_there at t = record { place = record { top = 0; inner = at }; top = t }

-- that is the head of the record in front, if it has one, and those behind it
next_heads : (at at_new : ℕ) (rest rest_new : List ℕ) (inner : Inner) → StepsOver at rest at_new rest_new inner → heads_ahead at rest ≡ heads_at (placed_there inner.offset (inner_top inner)) ++ heads_ahead at_new rest_new
next_heads at at_new rest rest_new inner steps =
    ap (λ (l : List Top). flat_map heads_at (placed_inside 0 at l)) steps.first
    ∙ ap (λ (n : ℕ). heads_at (placed_there at (inner_top inner)) ++ heads_ahead n rest_new) (sym steps.behind)
    ∙ ap (λ (n : ℕ). heads_at (placed_there n (inner_top inner)) ++ heads_ahead at_new rest_new) (sym steps.offset)

pub lists_on : (all done : List MessageHead) (at at_new : ℕ) (rest rest_new : List ℕ) (inner : Inner) (head : MessageHead) → all ≡ done ++ heads_ahead at rest → StepsOver at rest at_new rest_new inner → HeadIs (inner_top inner) inner.offset (Some head)
    → all ≡ (done ++ head ∷ []) ++ heads_ahead at_new rest_new
lists_on all done at at_new rest rest_new inner head was steps is =
    let p = placed_there inner.offset (inner_top inner) in
    was
    ∙ ap (λ (l : List MessageHead). done ++ l) (next_heads at at_new rest rest_new inner steps)
    ∙ ap (λ (b : Bool). done ++ ((if b then head_of p ∷ [] else []) ++ heads_ahead at_new rest_new)) is.0
    ∙ ap (λ (h : MessageHead). done ++ (h ∷ heads_ahead at_new rest_new)) (sym is.1)
    ∙ sym (append_assoc done (head ∷ []) (heads_ahead at_new rest_new))

pub passes_on : (all done : List MessageHead) (at at_new : ℕ) (rest rest_new : List ℕ) (inner : Inner) → all ≡ done ++ heads_ahead at rest → StepsOver at rest at_new rest_new inner → HeadIs (inner_top inner) inner.offset None
    → all ≡ done ++ heads_ahead at_new rest_new
passes_on all done at at_new rest rest_new inner was steps is =
    let p = placed_there inner.offset (inner_top inner) in
    was
    ∙ ap (λ (l : List MessageHead). done ++ l) (next_heads at at_new rest rest_new inner steps)
    ∙ ap (λ (b : Bool). done ++ ((if b then head_of p ∷ [] else []) ++ heads_ahead at_new rest_new)) is

-- nothing is in front any more
pub listed : (all done : List MessageHead) (at : ℕ) (rest : List ℕ) → all ≡ done ++ heads_ahead at rest → records_in rest ≡ [] → all ≡ done
listed all done at rest was none =
    was ∙ ap (λ (l : List Top). done ++ flat_map heads_at (placed_inside 0 at l)) none ∙ append-nil done
