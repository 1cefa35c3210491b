-- Whether each chunk has one Chunk Index.
use Rattle.std.proofs.Common.{◌≡◌, ◌⊎◌, ℕ, zero, suc, ◌+◌, ◌-◌, ◌<◌, ◌≤◌, Bool, true, false, List, [], ◌∷◌, ◌++◌, length, get_or, take, Some, Result, Ok, Err, cond, refl, sym, ap, subst, inl, inr, ◌∙◌, arith}
use Rattle.std.specs.Prelude.{◌≢◌, ◌==◌, Contains, IsPermutation, max}
use Rattle.std.proofs.lemmas.Bool.{cases_order, cases_eq, eq-eqb}
use Rattle.std.proofs.lemmas.List.{length-append}
use Rattle.std.proofs.lemmas.List.Sorted.{Contains-permutation, IsPermutation-sym}
use Rattle.std.proofs.lemmas.Option.{same_Some}
use Rattle.mcap_model.specs.declared.replay.Range.{Range}
use Rattle.mcap_model.specs.declared.replay.Replayed.{Replayed}
use Rattle.mcap_model.specs.Places.{At, Has}
use Rattle.mcap_model.specs.Tops.{Top, top_bytes, spelled}
use Rattle.mcap_model.specs.Fields.{ChunkIndexFields, IsChunkIndex}
use Rattle.mcap_model.specs.Whole.{offset_among}
use Rattle.mcap_model.proofs.Places.{at_none, at_within, at_one, at_read, at_more, has_kept, has_last}
use Rattle.mcap_model.proofs.Once.{chunk_index_once}
use Rattle.summary_read.specs.Parts.{Parts, IsLoaded, of_kind, offsets_of_kind}
use Rattle.indexed_replay.specs.declared.repeats.Lead.{Lead}
use Rattle.mcap_model.specs.declared.refusals.ReadingRefused.{ReadingRefused}
use Rattle.mcap_model.specs.declared.refusals.ReadingRefused.TheVariants as refusals
use Rattle.mcap_model.specs.declared.refusals.IndexedRefused.{IndexedRefused}
use Rattle.mcap_model.specs.declared.refusals.IndexedRefused.TheVariants as by_index
use Rattle.mcap_model.specs.declared.rules.Rule.TheVariants as rules
use Rattle.mcap_model.specs.declared.rules.Rule.{Rule}
use Rattle.indexed_replay.specs.Reaching.{HasChunkIndex, BreaksByIndex, second_index}
use Rattle.indexed_replay.specs.Replaying.{IsReason, RefusedReplayCause}
use Rattle.indexed_replay.specs.ReplayingSteps.{HaveOneIndex, HasOneIndex}
use Rattle.indexed_replay.specs.Apart.{Leads, AreLeads, HaveOne, HaveTwo, Ascend, FoundTwo, ApartRefused}
use Rattle.indexed_replay.proofs.Summed.{loaded_summary, summary_once, start_same}
use Rattle.indexed_replay.proofs.Playing.{are_indexed}

-- ---- a Chunk Index at a place

module _ (tops : List Top) (offsets : List ℕ) where
  pub leads_once : (j k : ℕ) (one other : Lead) → j ≡ k → Leads tops offsets j one → Leads tops offsets k other → (one.chunk ≡ other.chunk) × (one.at ≡ other.at)
  leads_once j k one other same first second =
      let tops_same : first.top ≡ second.top = at_one tops k first.top second.top (subst (λ (n : ℕ). At tops n first.top) same first.there) second.there in
      let shown_same : first.shown ≡ second.shown = chunk_index_once second.top first.shown second.shown (subst (λ (t : Top). IsChunkIndex t first.shown) tops_same first.is) second.is in (
        first.chunk ∙ ap (λ (f : ChunkIndexFields). f.offset) shown_same ∙ sym second.chunk,
        at_one offsets k one.at other.at (subst (λ (n : ℕ). At offsets n one.at) same first.at) second.at,
      )

  -- those in front of a place lead further and further behind, up to the last
  pub record RiseTo (i last : ℕ) : Type 0 where
    pub rise : (j k : ℕ) (one other : Lead) → j < k → k < i → Leads tops offsets j one → Leads tops offsets k other → one.chunk < other.chunk
    pub below : (j : ℕ) (one : Lead) → j < i → Leads tops offsets j one → one.chunk ≤ last

  pub rise_none : (last : ℕ) → RiseTo 0 last
  rise_none last = record { rise = λ j k one other less within first second. absurd (omega (arith, within)); below = λ j one within first. absurd (omega (arith, within)) }

  pub rise_more : (i last : ℕ) (lead : Lead) → RiseTo i last → Leads tops offsets i lead → (i ≡ 0) ⊎ (last < lead.chunk) → RiseTo (i + 1) lead.chunk
  rise_more i last lead was here behind = record {
    rise = λ j k one other less within first second. elim (cases_eq k i) [
      | inl own ↦
          let same = (leads_once k i other lead own second here).0 in
          elim behind [
            | inl none ↦ absurd (omega (arith, none, own, less))
            | inr more ↦ let low = was.below j one (omega (arith, less, own)) first in omega (arith, low, more, same)
          ]
      | inr before ↦ was.rise j k one other less (omega (arith, within, before)) first second
    ];
    below = λ j one within first. elim (cases_eq j i) [
      | inl own ↦ let same = (leads_once j i one lead own first here).0 in omega (arith, same)
      | inr before ↦ elim behind [
        | inl none ↦ absurd (omega (arith, none, within, before))
        | inr more ↦ let low = was.below j one (omega (arith, within, before)) first in omega (arith, low, more)
      ]
    ];
  }

  pub rise_all : (i last : ℕ) → RiseTo i last → length tops ≤ i → HaveOne tops offsets
  rise_all i last all past j k one other first second same = elim (cases_order j k) [
    | inl here ↦ (leads_once j k one other here first second).1
    | inr (inl less) ↦ let rises = all.rise j k one other less (let within = at_within tops k second.top second.there in omega (arith, within, past)) first second in absurd (omega (arith, rises, same))
    | inr (inr more) ↦ let rises = all.rise k j other one more (let within = at_within tops j first.top first.there in omega (arith, within, past)) second first in absurd (omega (arith, rises, same))
  ]

  -- those in front of a place
  pub record LeadsTo (i : ℕ) (leads : List Lead) : Type 0 where
    pub are : (lead : Lead) → Has leads lead → (k : ℕ) × Leads tops offsets k lead
    pub all : (k : ℕ) (lead : Lead) → k < i → Leads tops offsets k lead → Has leads lead

  pub leads_none : (leads : List Lead) → leads ≡ [] → LeadsTo 0 leads
  leads_none leads none = record {
    are = λ lead has. absurd (at_none has.0 lead (subst (λ (l : List Lead). At l has.0 lead) none has.1));
    all = λ k lead within there. absurd (omega (arith, within));
  }

  pub leads_more : (i : ℕ) (xs ys : List Lead) (lead : Lead) → LeadsTo i xs → Leads tops offsets i lead → ys ≡ xs ++ lead ∷ [] → LeadsTo (i + 1) ys
  leads_more i xs ys lead was here more = record {
    are = λ x has. elim (at_more xs lead has.0 x (subst (λ (l : List Lead). At l has.0 x) more has.1)) [
      | inl old ↦ was.are x (has.0, old)
      | inr last ↦ (i, subst (Leads tops offsets i) (sym last.1) here)
    ];
    all = λ k x within there. subst (λ (l : List Lead). Has l x) (sym more) (elim (cases_eq k i) [
      | inl own ↦
          let same = leads_once k i x lead own there here in
          subst (Has (xs ++ lead ∷ [])) (sym (lead_is x lead same.0 same.1)) (has_last xs lead [])
      | inr before ↦ has_kept xs (lead ∷ []) x (was.all k x (omega (arith, within, before)) there)
    ]);
  }
    where
      made : ℕ → ℕ → Lead
      made m n = record { chunk = m; at = n }

      lead_is : (a b : Lead) → a.chunk ≡ b.chunk → a.at ≡ b.at → a ≡ b
      lead_is a b one other = ap (λ (n : ℕ). made n a.at) one ∙ ap (λ (n : ℕ). made b.chunk n) other

  pub leads_all : (i : ℕ) (leads : List Lead) → LeadsTo i leads → length tops ≤ i → AreLeads tops offsets leads
  leads_all i leads all past = record {
    are = all.are;
    all = λ k lead there. all.all k lead (let within = at_within tops k there.top there.there in omega (arith, within, past)) there;
  }

-- ---- in order

contains_has : {X : Type 0} (xs : List X) (x : X) → Contains xs x → Has xs x
contains_has xs x there = (there.0, subst (λ y. At xs there.0 y) there.2 (at_read xs there.0 x there.1))

has_contains : {X : Type 0} (xs : List X) (x : X) → Has xs x → Contains xs x
has_contains xs x there = let within = at_within xs there.0 x there.1 in (there.0, within, at_one xs there.0 (get_or xs there.0 x) x (at_read xs there.0 x within) there.1)

pub has_moved : {X : Type 0} (xs ys : List X) (x : X) → IsPermutation xs ys → Has xs x → Has ys x
has_moved xs ys x moves has = contains_has ys x (Contains-permutation xs ys x moves (has_contains xs x has))

abbrev pub Agrees : Lead → Lead → Type 0
Agrees one other = one.chunk ≡ other.chunk → one.at ≡ other.at

-- those next to each other
abbrev pub AgreeTo : List Lead → ℕ → Type 0
AgreeTo leads i = (k : ℕ) (d : Lead) → k + 1 < i → Agrees (get_or leads k d) (get_or leads (k + 1) d)

far : (leads : List Lead) → Ascend leads → AgreeTo leads (length leads) → (i n : ℕ) (d : Lead) → i + n < length leads → Agrees (get_or leads i d) (get_or leads (i + n) d)
far leads ascend agree i zero d within = λ same. let is : i ≡ i + 0 = omega arith in ap (λ (k : ℕ). (get_or leads k d).at) is
far leads ascend agree i (suc n) d within = λ same.
    let low = ascend i (i + n) d (omega arith) (omega (arith, within)) in
    let high = ascend (i + n) (i + suc n) d (omega arith) within in
    let next : i + n + 1 ≡ i + suc n = omega arith in
    let before = far leads ascend agree i n d (omega (arith, within)) (omega (arith, low, high, same)) in
    let step = subst (λ (k : ℕ). Agrees (get_or leads (i + n) d) (get_or leads k d)) next (agree (i + n) d (omega (arith, within))) in
    before ∙ step (omega (arith, low, high, same))

pub all_agree : (leads : List Lead) (i : ℕ) → Ascend leads → AgreeTo leads i → length leads ≤ i → (one other : Lead) → Has leads one → Has leads other → one.chunk ≡ other.chunk → one.at ≡ other.at
all_agree leads i ascend agree past one other first second same = elim (cases_order first.0 second.0) [
  | inl here ↦ ap (λ (l : Lead). l.at) (at_one leads second.0 one other (subst (λ (n : ℕ). At leads n one) here first.1) second.1)
  | inr (inl less) ↦ by first.0 second.0 one other less first.1 second.1 same
  | inr (inr more) ↦ sym (by second.0 first.0 other one more second.1 first.1 (sym same))
]
  where
    by : (j k : ℕ) (a b : Lead) → j < k → At leads j a → At leads k b → a.chunk ≡ b.chunk → a.at ≡ b.at
    by j k a b less at_a at_b equal =
        let within = at_within leads k b at_b in
        let is : j + (k - j) ≡ k = omega (arith, less) in
        let mine : get_or leads j a ≡ a = at_one leads j (get_or leads j a) a (at_read leads j a (omega (arith, less, within))) at_a in
        let other_is : get_or leads k a ≡ b = at_one leads k (get_or leads k a) b (at_read leads k a within) at_b in
        let agrees = far leads ascend (λ n d inside. agree n d (omega (arith, inside, past))) j (k - j) a (omega (arith, less, within)) in
        let moved : Agrees a b = subst (λ (y : Lead). Agrees a y) other_is (subst (λ (x : Lead). Agrees x (get_or leads k a)) mine (subst (λ (n : ℕ). Agrees (get_or leads j a) (get_or leads n a)) is agrees)) in
        moved equal

-- two next to each other, of which none is first
pub found_two : (leads : List Lead) (i : ℕ) (one other : Lead) (at : ℕ) → At leads (i - 1) one → At leads i other → one.chunk ≡ other.chunk → one.at ≢ other.at → at ≡ max one.at other.at → FoundTwo leads at
found_two leads i one other at at_one_ at_other same apart is = elim (cases_order one.at other.at) [
  | inl equal ↦ absurd (apart equal)
  | inr (inl less) ↦ record { one = one; other = other; first = (i - 1, at_one_); second = (i, at_other); same = same; later = less; is = omega (arith, is, less) }
  | inr (inr more) ↦ record { one = other; other = one; first = (i, at_other); second = (i - 1, at_one_); same = sym same; later = more; is = omega (arith, is, more) }
]

-- ---- what it says of the file

pub two_in : (tops : List Top) (offsets : List ℕ) (leads moved : List Lead) (offset : ℕ) → AreLeads tops offsets leads → IsPermutation leads moved → FoundTwo moved offset → HaveTwo tops offsets offset
two_in tops offsets leads moved offset are moves found =
    let back = IsPermutation-sym leads moved moves in
    let (j, first) = are.are found.one (has_moved moved leads found.one back found.first) in
    let (k, second) = are.are found.other (has_moved moved leads found.other back found.second) in
    record { j = j; k = k; one = found.one; other = found.other; first = first; second = second; same = found.same; later = found.later; is = found.is }

pub one_in : (tops : List Top) (offsets : List ℕ) (leads moved : List Lead) → AreLeads tops offsets leads → IsPermutation leads moved
    → ((one other : Lead) → Has moved one → Has moved other → one.chunk ≡ other.chunk → one.at ≡ other.at) → HaveOne tops offsets
one_in tops offsets leads moved are moves agree j k one other first second same =
    agree one other (has_moved leads moved one moves (are.all j one first)) (has_moved leads moved other moves (are.all k other second)) same

-- a record of a kind is among those of it, beside its offset
kind_at : (op start : ℕ) (tops : List Top) (n : ℕ) (t : Top) → At tops n t → t.op ≡ op → (k : ℕ) × At (of_kind op tops) k t × At (offsets_of_kind op start tops) k (start + offset_among tops n)
kind_at op start [] n t at kind = absurd (at_none n t at)
kind_at op start (u ∷ us) zero t at kind =
    let same : u ≡ t = same_Some u t at in
    let here : (u.op == op) ≡ true = eq-eqb u.op op (ap (λ (x : Top). x.op) same ∙ kind) in
    let place : start ≡ start + 0 = omega arith in (
      0,
      subst (λ (b : Bool). At (cond b (u ∷ of_kind op us) (of_kind op us)) 0 t) (sym here) at,
      subst (λ (b : Bool). At (cond b (start ∷ offsets_of_kind op (start + length (top_bytes u)) us) (offsets_of_kind op (start + length (top_bytes u)) us)) 0 (start + 0)) (sym here) (ap Some place),
    )
kind_at op start (u ∷ us) (suc n) t at kind = by (u.op == op) (kind_at op (start + length (top_bytes u)) us n t at kind)
  where
    size : ℕ
    size = length (top_bytes u)

    place : start + size + offset_among us n ≡ start + offset_among (u ∷ us) (suc n)
    place = omega (arith, length-append (top_bytes u) (spelled (take n us)))

    by : (b : Bool) → (k : ℕ) × At (of_kind op us) k t × At (offsets_of_kind op (start + size) us) k (start + size + offset_among us n)
        → (k : ℕ) × At (cond b (u ∷ of_kind op us) (of_kind op us)) k t × At (cond b (start ∷ offsets_of_kind op (start + size) us) (offsets_of_kind op (start + size) us)) k (start + offset_among (u ∷ us) (suc n))
    by true (k, there, found) = (suc k, there, subst (λ (o : ℕ). At (offsets_of_kind op (start + size) us) k o) place found)
    by false (k, there, found) = (k, there, subst (λ (o : ℕ). At (offsets_of_kind op (start + size) us) k o) place found)

module _ (file : List ℕ) (p : Parts) (loaded : IsLoaded file p) where
  indexed : (k : ℕ) (lead : Lead) (l : Leads p.chunk_indexes p.chunk_index_offsets k lead) → HasChunkIndex file lead.at l.shown
  indexed k lead l =
      let listed = loaded.listed in
      are_indexed file (p.footer).summary_start loaded.tops p.chunk_indexes p.chunk_index_offsets (loaded_summary file p loaded) listed.chunk_indexes loaded.placed k l.top l.shown lead.at l.there l.is l.at

  pub apart_reason : (range : Range) (why : ReadingRefused) → ApartRefused p.chunk_indexes p.chunk_index_offsets why → IsReason file range (by_index.Refused why)
  apart_reason range (refusals.Fault faults) refused = tt
  apart_reason range (refusals.Grammar offset rule) refused =
      let two = refused.1 in
      let a = two.first in
      let b = two.second in
      let broken : BreaksByIndex file range rules.V12 (two.other).at = second_index (two.one).at (two.other).at two.later (record { one = a.shown; other = b.shown; first_there = indexed two.j two.one a; second_there = indexed two.k two.other b; same = sym a.chunk ∙ two.same ∙ b.chunk }) in
      subst (λ (r : Rule). BreaksByIndex file range r offset) (sym refused.0) (subst (λ (o : ℕ). BreaksByIndex file range rules.V12 o) two.is broken)
  apart_reason range (refusals.Compressed offset name) refused = absurd refused
  apart_reason range (refusals.Limit offset) refused = absurd refused
  apart_reason range refusals.Memory refused = tt

  -- a Chunk Index of the summary is one of those that were loaded
  led : (at : ℕ) (f : ChunkIndexFields) → HasChunkIndex file at f → (k : ℕ) × Leads p.chunk_indexes p.chunk_index_offsets k (record { chunk = f.offset; at = at })
  led at f has =
      let listed = loaded.listed in
      let own = loaded_summary file p loaded in
      let same = summary_once file has.start (p.footer).summary_start has.summary loaded.tops has.has own in
      let start : (p.footer).summary_start ≡ has.start = start_same file has.start has.summary p.footer has.has loaded.ends in
      let found = kind_at 8 (p.footer).summary_start loaded.tops has.place has.index (subst (λ (l : List Top). At l has.place has.index) same has.indexed) (let is = has.is in is.kind) in
      let among : offset_among has.summary has.place ≡ offset_among loaded.tops has.place = ap (λ (l : List Top). offset_among l has.place) same in
      let place : (p.footer).summary_start + offset_among loaded.tops has.place ≡ at = omega (arith, start, among, has.there) in (
        found.0,
        record {
          top = has.index;
          shown = f;
          there = subst (λ (l : List Top). At l found.0 has.index) (sym listed.chunk_indexes) found.1;
          is = has.is;
          chunk = refl;
          at = subst (λ (l : List ℕ). At l found.0 at) (sym loaded.placed) (subst (λ (o : ℕ). At (offsets_of_kind 8 (p.footer).summary_start loaded.tops) found.0 o) place found.2);
        },
      )

  pub one_index : HaveOne p.chunk_indexes p.chunk_index_offsets → HaveOneIndex file
  one_index have first second two =
      let (j, a) = led first two.one two.first_there in
      let (k, b) = led second two.other two.second_there in
      have j k (record { chunk = (two.one).offset; at = first }) (record { chunk = (two.other).offset; at = second }) a b two.same

  pub tells_one : (result : Result Replayed IndexedRefused) → HaveOne p.chunk_indexes p.chunk_index_offsets → HasOneIndex file result
  tells_one (Ok played) have = one_index have
  tells_one (Err why) have = tt

pub apart_cause : (tops : List Top) (offsets : List ℕ) (why : ReadingRefused) (before now : ℕ) → ApartRefused tops offsets why → now ≡ before → RefusedReplayCause before now why
apart_cause tops offsets (refusals.Fault faults) before now refused same = absurd refused
apart_cause tops offsets (refusals.Grammar offset rule) before now refused same = same
apart_cause tops offsets (refusals.Compressed offset name) before now refused same = same
apart_cause tops offsets (refusals.Limit offset) before now refused same = same
apart_cause tops offsets refusals.Memory before now refused same = same
