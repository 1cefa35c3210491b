-- An extra was kept, or nothing.
use Rattle.std.proofs.Common.{◌≡◌, ◌∙◌, ◌∷◌, [], ℕ, List, Bool, true, false, Option, refl, sym, ap, subst}
use Rattle.std.specs.Prelude.{filter, if◌then◌else◌}
use Rattle.mcap_model.specs.Tops.{Top}
use Rattle.mcap_model.specs.Made.{top}
use Rattle.mcap_model.specs.Repaired.{is_extra}
use Rattle.record_keeping.specs.Keeping.{extras_of, AddsRecords}
use Rattle.record_keeping.proofs.Keepings.{adds_none, extra_adds, keeps_same}
use Rattle.record_keeping.proofs.keeping.keep_other.Goals as goal
use denote.Ref.{Bor}

pub returns-in-Some-clause-takes : goal.returns-in-Some-clause-takes
returns-in-Some-clause-takes g c =
    subst (λ (f : Option (Bor (List ℕ))). AddsRecords g.L.LiveStore.state c.args.k.now c.args.k.now (extras_of f (top c.args.op c.args.content.now)) []) (sym c.in-Some.is)
    (adds_none g.L.LiveStore.state c.args.k.now)

pub returns-then-is_extra_kind-clause-takes : goal.returns-then-is_extra_kind-clause-takes
returns-then-is_extra_kind-clause-takes g c =
    let t = top c.args.op c.args.content.now in
    let (schemas, channels, messages, records) = c.keep_extra.ensures.same in
    let is : is_extra t ≡ true = sym c.is_extra_kind.ensures ∙ c.if-is_extra_kind.true in
    let one : t ∷ [] ≡ filter is_extra (t ∷ []) = sym (ap (λ (b : Bool). if b then t ∷ [] else []) is) in
    subst (λ (f : Option (Bor (List ℕ))). AddsRecords g.L.LiveStore.state c.args.k.now c.keep_extra.new.k (extras_of f t) []) (sym c.in-None.is)
    (subst (λ (l : List Top). AddsRecords g.L.LiveStore.state c.args.k.now c.keep_extra.new.k l []) one
    (extra_adds g.L.LiveStore.state c.args.k.now c.keep_extra.new.k t c.requires.going c.keep_extra.ensures.gathers
    (λ going. (ap (λ v. v.keys) schemas, ap (λ v. v.keys) channels, messages, records, c.keep_extra.ensures.counts going))))

pub returns-in-None-clause-takes : goal.returns-in-None-clause-takes
returns-in-None-clause-takes g c =
    let t = top c.args.op c.args.content.now in
    let is : is_extra t ≡ false = sym c.is_extra_kind.ensures ∙ c.if-is_extra_kind.false in
    let none : [] ≡ filter is_extra (t ∷ []) = sym (ap (λ (b : Bool). if b then t ∷ [] else []) is) in
    subst (λ (f : Option (Bor (List ℕ))). AddsRecords g.L.LiveStore.state c.args.k.now c.args.k.now (extras_of f t) []) (sym c.in-None.is)
    (subst (λ (l : List Top). AddsRecords g.L.LiveStore.state c.args.k.now c.args.k.now l []) none (adds_none g.L.LiveStore.state c.args.k.now))

pub returns-in-Some-clause-keeps : goal.returns-in-Some-clause-keeps
returns-in-Some-clause-keeps g c = keeps_same g.L.LiveStore.state c.args.k.now.scribe.store _ refl

pub returns-in-None-clause-keeps : goal.returns-in-None-clause-keeps
returns-in-None-clause-keeps g c = keeps_same g.L.LiveStore.state c.args.k.now.scribe.store _ refl
