-- What a call on the pass leaves of what was said of the members of the lists.
use Rattle.std.proofs.Common.{◌≡◌, ℕ, zero, suc, ◌+◌, ◌<◌, ◌≤◌, List, [], ◌∷◌, ◌++◌, length, true, false, Some, None, refl, sym, ap, subst, inl, inr, ◌∙◌, arith}
use Rattle.std.proofs.lemmas.List.{length-append}
use Rattle.std.proofs.lemmas.Option.{same_Some, none-some}
use Rattle.rec_data.specs.declared.owned.Rec.{Rec}
use Rattle.mcap_model.specs.declared.ends.End.{End}
use Rattle.mcap_model.specs.Places.{At, Has, Each}
use Rattle.mcap_model.specs.Tops.{Top}
use Rattle.mcap_model.proofs.Places.{at_none, at_more, at_within, has_kept}
use Rattle.mcap_model.proofs.Lists.{at_either}
use Rattle.record_core.specs.declared.answers.Found.{Found}
use Rattle.record_core.specs.declared.answers.CallRefused.{CallRefused}
use Rattle.record_core.specs.declared.answers.CallRefused.TheVariants as refusing
use Rattle.feed_lane.specs.declared.report.Accepted.{Accepted}
use Rattle.feed_lane.specs.declared.report.DeclaredAt.{DeclaredAt}
use Rattle.feed_lane.specs.declared.report.Refused.{Refused}
use Rattle.feed_lane.specs.Pass.{FullAt, named_by, PassState, with_places, FoundAtLeast}
use Rattle.feed_lane.specs.PassCalls.{Finds}
use Rattle.feed_lane.specs.Lanes.{DeclarationAdds, Accepts, LacksId, CauseFits, full_in, lack_in, lacks_of, InStep}
use Rattle.feed_lane.specs.Steps.{Above, Extends, IsOpen, DeclaredWithId}
use Rattle.feed_lane.specs.Causes.{goes_on}

pub false_true : false ≡ true → ⊥
false_true e = cc

pub true_false : true ≡ false → ⊥
true_false e = cc

-- ---- the end that a pass found

-- where the call found no end, the pass found none
pub open_by : (after : PassState) (found : Found) → after.found ≡ Some found → found.end ≡ None → IsOpen after
open_by after found shown none = λ other is. subst (λ (f : Found). f.end ≡ None) (same_Some _ _ (sym shown ∙ is)) none

-- it shows none
pub unended : (pass : PassState) (found : Found) (end : End) → IsOpen pass → pass.found ≡ Some found → found.end ≡ Some end → ⊥
unended pass found end none shown is = none-some _ (sym (none found shown) ∙ is)

-- ---- the numbers that a pass has seen

pub finds_above : (before : PassState) (found : Found) → Finds before found → Above before found.count
finds_above before found finds = record {
  own = finds.places;
  seen = λ m s. let later = (finds.later s.found s.shown).count in omega (arith, s.within, later);
}

-- the intake was found so, later than before
pub seen_later : (before after : PassState) (found : Found) → Finds before found → after.found ≡ Some found → (n : ℕ) → FoundAtLeast before n → FoundAtLeast after n
seen_later before after found finds shown n s = record {
  found = found;
  shown = shown;
  within = let later = (finds.later s.found s.shown).count in omega (arith, s.within, later);
}

-- ---- lists in step

pub in_step_on : {X Y : Type 0} (R S : X → Y → Type 0) (xs : List X) (ys : List Y) → ((x : X) (y : Y) → R x y → S x y) → InStep R xs ys → InStep S xs ys
in_step_on R S xs ys more was = (was.0, λ n x y at_x at_y. more x y (was.1 n x y at_x at_y))

pub in_step_joined : {X Y : Type 0} (R : X → Y → Type 0) (xs us : List X) (ys vs : List Y) → InStep R xs ys → InStep R us vs → InStep R (xs ++ us) (ys ++ vs)
in_step_joined R xs us ys vs was more = (
  omega (arith, was.0, more.0, length-append xs us, length-append ys vs),
  λ n x y at_x at_y. elim (at_either xs us n x at_x) [
    | inl one ↦ elim (at_either ys vs n y at_y) [
      | inl other ↦ was.1 n x y one other
      | inr (k, there, other) ↦ absurd (let within = at_within xs n x one in omega (arith, within, there, was.0))
    ]
    | inr (j, here, one) ↦ elim (at_either ys vs n y at_y) [
      | inl other ↦ absurd (let within = at_within ys n y other in omega (arith, within, here, was.0))
      | inr (k, there, other) ↦ more.1 j x y one (subst (λ (i : ℕ). At vs i y) (omega (arith, here, there, was.0)) other)
    ]
  ],
)

pub in_step_none : {X Y : Type 0} (R : X → Y → Type 0) → InStep R [] []
in_step_none R = (refl, λ n x y at_x at_y. absurd (at_none n x at_x))

pub in_step_one : {X Y : Type 0} (R : X → Y → Type 0) (x : X) (y : Y) → R x y → InStep R (x ∷ []) (y ∷ [])
in_step_one R x y holds = (refl, λ n a b at_a at_b. by n a b at_a at_b)
  where
    some_same : {T : Type 0} {s t : T} → Some s ≡ Some t → s ≡ t
    some_same e = cc

    by : (n : ℕ) (a : _) (b : _) → At (x ∷ []) n a → At (y ∷ []) n b → R a b
    by zero a b at_a at_b = subst (λ (u : _). R u b) (some_same at_a) (subst (R x) (some_same at_b) holds)
    by (suc n) a b at_a at_b = absurd (at_none n a at_a)

-- ---- members

pub declares_on : (records : List Top) (before after : PassState) (d : DeclaredAt) → Extends before after → DeclarationAdds records before d → DeclarationAdds records after d
declares_on records before after d extends was = record {
  source = was.source;
  on = was.on;
  content = was.content;
  describes = was.describes;
  named = extends.named (named_by d.channel was.content (d.first + d.count)) was.named;
  added = was.added;
  are = was.are;
  many = was.many;
  own = λ k pair at. extends.own pair (was.own k pair at);
}

pub accepts_on : (records : List Top) (declared : List DeclaredAt) (before after : PassState) (a : Accepted) → Extends before after → Accepts records declared before a → Accepts records declared after a
accepts_on records declared before after a extends was = record {
  source = was.source;
  message = was.message;
  top = was.top;
  at = was.at;
  is = was.is;
  small = was.small;
  by = was.by;
  listed = was.listed;
  before = was.before;
  on = was.on;
  own = extends.own _ was.own;
}

-- behind more declarations
pub accepts_listed : (records : List Top) (declared more : List DeclaredAt) (pass : PassState) (a : Accepted) → Accepts records declared pass a → Accepts records (declared ++ more) pass a
accepts_listed records declared more pass a was = record {
  source = was.source;
  message = was.message;
  top = was.top;
  at = was.at;
  is = was.is;
  small = was.small;
  by = was.by;
  listed = has_kept declared more was.by was.listed;
  before = was.before;
  on = was.on;
  own = was.own;
}

pub has_id_listed : (records : List Top) (declared more : List DeclaredAt) (source id : ℕ) → DeclaredWithId records declared source id → DeclaredWithId records (declared ++ more) source id
has_id_listed records declared more source id was = record {
  by = was.by;
  listed = has_kept declared more was.by was.listed;
  on = was.on;
  is = was.is;
}

lacks_on : (records : List Top) (before after : PassState) (index : ℕ) (refusal : CallRefused) → Extends before after → LacksId records before index refusal → LacksId records after index refusal
lacks_on records before after index refusal extends was = (was.0, was.1, was.2, extends.lacks was.0 was.3)

-- a cause behind which the lane goes on
pub cause_on : (records : List Top) (handled later : ℕ) (before after : PassState) (index : ℕ) (cause : CallRefused) → goes_on cause ≡ true → Extends before after → CauseFits records handled before index cause → CauseFits records later after index cause
cause_on records handled later before after index (refusing.Full held from to) on extends was = (extends.fulls _ was.0, subst (λ (n : ℕ). n ≤ held) (sym extends.limit) was.1, was.2)
cause_on records handled later before after index (refusing.TooLarge len) on extends was = was
cause_on records handled later before after index (refusing.Closed at) on extends was = absurd (false_true on)
cause_on records handled later before after index (refusing.Stopped at stop) on extends was = absurd (false_true on)
cause_on records handled later before after index refusing.TooManySchemas on extends was = lacks_on records before after index refusing.TooManySchemas extends was
cause_on records handled later before after index refusing.TooManyChannels on extends was = lacks_on records before after index refusing.TooManyChannels extends was
cause_on records handled later before after index (refusing.TooManyRecords count) on extends was = (was.0, extends.seen count was.1)
cause_on records handled later before after index refusing.UnknownChannel on extends was = was
cause_on records handled later before after index refusing.Memory on extends was = was

-- the pass shows the full buffer of a cause
pub full_shown : (records : List Top) (handled : ℕ) (pass : PassState) (index : ℕ) (cause : CallRefused) (n : ℕ) (full : FullAt) → CauseFits records handled pass index cause → At (full_in cause) n full → Has pass.fulls full
full_shown records handled pass index (refusing.Full held from to) zero full was at = subst (Has pass.fulls) (some_same at) was.0
  where
    some_same : {x y : FullAt} → Some x ≡ Some y → x ≡ y
    some_same e = cc
full_shown records handled pass index (refusing.Full held from to) (suc n) full was at = absurd (at_none n full at)
full_shown records handled pass index cause n full was at = absurd (at_none n full at)

-- ---- refusals for which no id was left

pub lack_index : (index : ℕ) (cause : CallRefused) (n : ℕ) (refusal : ℕ × CallRefused) → At (lack_in index cause) n refusal → refusal.0 ≡ index
lack_index index refusing.TooManySchemas n refusal at = elim (at_more [] (index, refusing.TooManySchemas) n refusal at) [
  | inl old ↦ absurd (at_none n refusal old)
  | inr last ↦ ap (λ (x : ℕ × CallRefused). x.0) last.1
]
lack_index index refusing.TooManyChannels n refusal at = elim (at_more [] (index, refusing.TooManyChannels) n refusal at) [
  | inl old ↦ absurd (at_none n refusal old)
  | inr last ↦ ap (λ (x : ℕ × CallRefused). x.0) last.1
]
lack_index index cause n refusal at = absurd (at_none n refusal at)

-- they are of messages that were refused
pub lacks_below : (refused : List Refused) (bound : ℕ) → Each (λ r. r.index < bound) refused → Each (λ (refusal : ℕ × CallRefused). refusal.0 < bound) (lacks_of refused)
lacks_below [] bound below n refusal at = absurd (at_none n refusal at)
lacks_below (r ∷ rs) bound below n refusal at = elim (at_either (lack_in r.index r.cause) (lacks_of rs) n refusal at) [
  | inl here ↦ let same = lack_index r.index r.cause n refusal here in let less = below 0 r refl in omega (arith, same, less)
  | inr (k, there, more) ↦ lacks_below rs bound (λ j x at_x. below (suc j) x at_x) k refusal more
]

-- ---- places

-- records whose places are all below one
placed_below : (first : ℕ) (rs : List Rec) (n : ℕ) → first ≤ n → Each (λ pair. pair.0 < n) (with_places first rs) → first + length rs ≤ n
placed_below first [] n le each = omega (arith, le)
placed_below first (r ∷ rs) n le each =
    let here = each 0 (first, r) refl in
    let more = placed_below (first + 1) rs n (omega (arith, here)) (λ k pair at. each (suc k) pair at) in
    omega (arith, more)

-- where each of them stands
pub placed_at : (first : ℕ) (rs : List Rec) (k : ℕ) (pair : ℕ × Rec) → At (with_places first rs) k pair → (pair.0 ≡ first + k) × (k < length rs)
placed_at first [] k pair at = absurd (at_none k pair at)
placed_at first (r ∷ rs) zero pair at = (omega (arith, ap (λ (p : ℕ × Rec). p.0) (some_same at)), omega arith)
  where
    some_same : {x y : ℕ × Rec} → Some x ≡ Some y → x ≡ y
    some_same e = cc
placed_at first (r ∷ rs) (suc k) pair at = let t = placed_at (first + 1) rs k pair at in (omega (arith, t.0), omega (arith, t.1))

pub declared_above : (records : List Top) (pass : PassState) (d : DeclaredAt) (n : ℕ) → DeclarationAdds records pass d → FoundAtLeast pass d.first → Above pass n → d.first + d.count ≤ n
declared_above records pass d n was seen above =
    let below = placed_below d.first was.added n (above.seen d.first seen) (λ k pair at. let own = was.own k pair at in above.own own.0 pair own.1) in
    omega (arith, below, was.many)

pub accepted_above : (records : List Top) (declared : List DeclaredAt) (pass : PassState) (a : Accepted) (n : ℕ) → Accepts records declared pass a → Above pass n → a.place < n
accepted_above records declared pass a n was above = above.own was.own.0 _ was.own.1
