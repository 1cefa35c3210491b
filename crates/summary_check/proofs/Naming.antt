-- Summary Offsets of a summary, one after the other.
use Rattle.std.proofs.Common.{◌≡◌, ℕ, suc, ◌+◌, ◌-◌, ◌^◌, ◌<◌, ◌≤◌, true, List, [], ◌∷◌, ◌++◌, length, Option, Some, None, refl, sym, ap, subst, inl, inr, ◌∙◌, arith}
use Rattle.std.proofs.lemmas.Bool.{cases_lt}
use Rattle.mcap_wire.specs.declared.faults.Cut.{Cut}
use Rattle.rec_index.specs.Fields.{SummaryOffsetFields}
use Rattle.mcap_model.specs.Places.{At, Has, Each}
use Rattle.mcap_model.specs.Tops.{Top}
use Rattle.mcap_model.specs.Fields.{IsSummaryOffset}
use Rattle.mcap_model.specs.Whole.{offset_of, IsGroup, SummaryOffsetIsRight, V15}
use Rattle.mcap_model.specs.Plain.{cut_top}
use Rattle.mcap_model.proofs.Flat.{at_mapped}
use Rattle.mcap_model.proofs.ReadBack.{at_map}
use Rattle.mcap_model.proofs.Places.{at_none, at_within, at_kept, at_last, at_more, at_one, has_kept, has_last}
use Rattle.mcap_model.proofs.Lists.{at_either}
use Rattle.mcap_model.proofs.Once.{summary_offset_once}
use Rattle.summary_read.specs.PartSteps.{cut_tops}
use Rattle.summary_check.specs.Laid.{all_of, IsFrontRecord, Laid}
use Rattle.summary_check.specs.Offsets.{Spans, SpanIs, AreNamedOpcodes, OffsetTaken}
use Rattle.summary_check.proofs.Laying.{front_not, body_there, offset_cut, offset_behind_cut}
use Rattle.summary_check.proofs.Grouping.{group_first, group_there, group_offset, group_end}
use Rattle.index_check.proofs.Spotted.{offsets_rise}

-- ---- the span of the records of one opcode

pub span_first : (front : List Cut) (c : Cut) (op : ℕ) → SpanIs front op None → c.op ≡ op → Spans (front ++ c ∷ []) op c.from c.to
span_first front c op none is = record {
  first = length front;
  last = length front;
  first_cut = c;
  last_cut = c;
  at_first = at_last front c [];
  at_last = at_last front c [];
  first_is = is;
  last_is = is;
  between = λ k d at same. elim (at_more front c k d at) [
    | inl old ↦ absurd (none k d old same)
    | inr (here, _) ↦ (omega (arith, here), omega (arith, here))
  ];
  from_is = refl;
  to_is = refl;
}

pub span_more : (front : List Cut) (c : Cut) (op from to : ℕ) → Spans front op from to → c.op ≡ op → Spans (front ++ c ∷ []) op from c.to
span_more front c op from to was is = record {
  first = was.first;
  last = length front;
  first_cut = was.first_cut;
  last_cut = c;
  at_first = at_kept front (c ∷ []) was.first was.first_cut was.at_first;
  at_last = at_last front c [];
  first_is = was.first_is;
  last_is = is;
  between = λ k d at same. elim (at_more front c k d at) [
    | inl old ↦ let within = at_within front k d old in ((was.between k d old same).0, omega (arith, within))
    | inr (here, _) ↦ let within = at_within front was.first was.first_cut was.at_first in (omega (arith, here, within), omega (arith, here))
  ];
  from_is = was.from_is;
  to_is = refl;
}

span_other : (front : List Cut) (c : Cut) (op from to : ℕ) → Spans front op from to → (c.op ≡ op → ⊥) → Spans (front ++ c ∷ []) op from to
span_other front c op from to was other = record {
  first = was.first;
  last = was.last;
  first_cut = was.first_cut;
  last_cut = was.last_cut;
  at_first = at_kept front (c ∷ []) was.first was.first_cut was.at_first;
  at_last = at_kept front (c ∷ []) was.last was.last_cut was.at_last;
  first_is = was.first_is;
  last_is = was.last_is;
  between = λ k d at same. elim (at_more front c k d at) [
    | inl old ↦ was.between k d old same
    | inr (_, one) ↦ absurd (other (ap (λ (x : Cut). x.op) (sym one) ∙ same))
  ];
  from_is = was.from_is;
  to_is = was.to_is;
}

none_more : (front : List Cut) (c : Cut) (op : ℕ) → SpanIs front op None → (c.op ≡ op → ⊥) → SpanIs (front ++ c ∷ []) op None
none_more front c op none other k d at same = elim (at_more front c k d at) [
  | inl old ↦ none k d old same
  | inr (_, one) ↦ other (ap (λ (x : Cut). x.op) (sym one) ∙ same)
]

pub span_kept : (front : List Cut) (c : Cut) (op : ℕ) (span : Option (ℕ × ℕ)) → SpanIs front op span → (c.op ≡ op → ⊥) → SpanIs (front ++ c ∷ []) op span
span_kept front c op None was other = none_more front c op was other
span_kept front c op (Some span) was other = span_other front c op span.0 span.1 was other

-- ---- the group that a Summary Offset names

module _ (tops : List Top) (bytes : List ℕ) (cuts : List Cut) (start : ℕ) (foot : Top) (laid : Laid tops bytes cuts start) where
  module _ (op from to : ℕ) (s : Spans cuts op from to) where
    between : (k : ℕ) (x : Top) → At (cut_tops bytes cuts) k x → x.op ≡ op → (s.first ≤ k) × (k ≤ s.last)
    between k x at same =
        let there = at_map (cut_top bytes) cuts k x at in
        s.between k there.0 there.1 (ap (λ (t : Top). t.op) (sym there.2) ∙ same)

    pub front_fits : start + (from - 9) < 2 ^ 64
    front_fits = let inside = laid.inside s.first s.first_cut s.at_first in omega (arith, laid.fits, inside.0, inside.1, s.from_is)

    pub span_group : (offset size : ℕ) → offset ≡ start + (from - 9) → size ≡ to - (from - 9) → IsGroup (all_of tops (cut_tops bytes cuts) foot) op offset size
    span_group offset size first last =
        let c = s.first_cut in
        let d = s.last_cut in
        let placed = laid.placed s.first c s.at_first in
        group_there tops (cut_tops bytes cuts) foot laid.ended op s.first s.last (cut_top bytes c) (cut_top bytes d)
        (at_mapped (cut_top bytes) cuts s.first c s.at_first) s.first_is (at_mapped (cut_top bytes) cuts s.last d s.at_last) s.last_is between offset size
        (omega (arith, first, s.from_is, offset_cut tops bytes cuts start foot laid s.first c s.at_first))
        (omega (arith, first, last, rises, s.from_is, s.to_is, offset_behind_cut tops bytes cuts start foot laid s.last d s.at_last))
      where
        same_or_up : offset_of (all_of tops (cut_tops bytes cuts) foot) (length tops + s.first) ≤ offset_of (all_of tops (cut_tops bytes cuts) foot) (length tops + s.last)
        same_or_up = elim (cases_lt s.first s.last) [
          | inl less ↦
              let up = offsets_rise (all_of tops (cut_tops bytes cuts) foot) (length tops + s.first) (length tops + s.last) (cut_top bytes s.first_cut) (cut_top bytes s.last_cut)
              (body_there tops (cut_tops bytes cuts) foot s.first (cut_top bytes s.first_cut) (at_mapped (cut_top bytes) cuts s.first s.first_cut s.at_first))
              (body_there tops (cut_tops bytes cuts) foot s.last (cut_top bytes s.last_cut) (at_mapped (cut_top bytes) cuts s.last s.last_cut s.at_last)) (omega (arith, less)) in
              omega (arith, up)
          | inr over ↦
              let few = (s.between s.first s.first_cut s.at_first s.first_is).1 in
              let same : s.first ≡ s.last = omega (arith, over, few) in
              let equal = ap (λ (m : ℕ). offset_of (all_of tops (cut_tops bytes cuts) foot) (length tops + m)) same in
              omega (arith, equal)
        ]

        rises : from ≤ to
        rises =
            let c = s.first_cut in
            let d = s.last_cut in
            let inside = laid.inside s.last d s.at_last in
            let placed = laid.placed s.first c s.at_first in
            let placed_last = laid.placed s.last d s.at_last in
            omega (
              arith,
              same_or_up,
              offset_cut tops bytes cuts start foot laid s.first c s.at_first,
              offset_cut tops bytes cuts start foot laid s.last d s.at_last,
              placed,
              placed_last,
              inside.0,
              s.from_is,
              s.to_is,
            )

    pub group_span : (offset size : ℕ) → IsGroup (all_of tops (cut_tops bytes cuts) foot) op offset size → (offset ≡ start + (from - 9)) × (size ≡ to - (from - 9))
    group_span offset size g =
        let c = s.first_cut in
        let d = s.last_cut in
        let at_c = at_mapped (cut_top bytes) cuts s.first c s.at_first in
        let at_d = at_mapped (cut_top bytes) cuts s.last d s.at_last in
        let one = group_offset tops (cut_tops bytes cuts) foot laid.ended op s.first s.last (cut_top bytes c) (cut_top bytes d) at_c s.first_is at_d s.last_is between offset size g in
        let two = group_end tops (cut_tops bytes cuts) foot laid.ended op s.first s.last (cut_top bytes c) (cut_top bytes d) at_c s.first_is at_d s.last_is between offset size g in
        let first : offset ≡ start + (from - 9) = omega (arith, one, s.from_is, offset_cut tops bytes cuts start foot laid s.first c s.at_first) in
        (first, omega (arith, first, two, s.to_is, offset_behind_cut tops bytes cuts start foot laid s.last d s.at_last))

  pub none_named : (op offset size : ℕ) → SpanIs cuts op None → IsGroup (all_of tops (cut_tops bytes cuts) foot) op offset size → ⊥
  none_named op offset size none g =
      let (k, x, _, _, at, kind) = group_first tops (cut_tops bytes cuts) foot laid.ended op offset size g in
      let there = at_map (cut_top bytes) cuts k x at in
      none k there.0 there.1 (ap (λ (t : Top). t.op) (sym there.2) ∙ kind)

-- ---- which opcodes are named

named_back : (all : List Top) (n op : ℕ) (t : Top) → At all n t → ((offset size : ℕ) → IsSummaryOffset t op offset size → ⊥)
    → ((i offset size : ℕ) × (u : Top) × (i < suc n) × At all i u × IsSummaryOffset u op offset size) → (i offset size : ℕ) × (u : Top) × (i < n) × At all i u × IsSummaryOffset u op offset size
named_back all n op t at none (i, offset, size, u, less, at_u, is) = elim (cases_lt i n) [
  | inl under ↦ (i, offset, size, u, under, at_u, is)
  | inr over ↦
      let same : i ≡ n = omega (arith, less, over) in
      absurd (none offset size (subst (λ (x : Top). IsSummaryOffset x op offset size) (at_one all n u t (subst (λ (k : ℕ). At all k u) same at_u) at) is))
]

-- a record that is no Summary Offset
pub other_named : (all : List Top) (n : ℕ) (t : Top) (names : List ℕ) → AreNamedOpcodes all n names → At all n t → ((op offset size : ℕ) → IsSummaryOffset t op offset size → ⊥) → OffsetTaken all n t names true
other_named all n t names was at none = (
  λ op offset size is. absurd (none op offset size is),
  λ op. (
    λ has. let (i, offset, size, u, less, at_u, is) = (was op).0 has in (i, offset, size, u, omega (arith, less), at_u, is),
    λ some. (was op).1 (named_back all n op t at (none op) some),
  ),
)

-- one that names a group first
pub group_named : (all : List Top) (n op offset size : ℕ) (t : Top) (names : List ℕ) → AreNamedOpcodes all n names → At all n t → IsSummaryOffset t op offset size → (Has names op → ⊥) → IsGroup all op offset size → OffsetTaken all n t (names ++ op ∷ []) true
group_named all n op offset size t names was at is fresh group = (
  λ o a s other.
      let same = summary_offset_once t op offset size o a s is other in
      subst (λ (f : SummaryOffsetFields). SummaryOffsetIsRight all n f.op f.offset f.size) same (record {
        group = group;
        only = λ i a s u less at_u shows. fresh ((was op).1 (i, a, s, u, less, at_u, shows));
      }),
  λ o. (
    λ has. elim (at_more names op has.0 o has.1) [
      | inl old ↦ let (i, a, s, u, less, at_u, shows) = (was o).0 (has.0, old) in (i, a, s, u, omega (arith, less), at_u, shows)
      | inr (_, same) ↦ (n, offset, size, t, omega arith, at, subst (λ (m : ℕ). IsSummaryOffset t m offset size) (sym same) is)
    ],
    λ some. back o some,
  ),
)
  where
    back : (o : ℕ) → ((i a s : ℕ) × (u : Top) × (i < suc n) × At all i u × IsSummaryOffset u o a s) → Has (names ++ op ∷ []) o
    back o (i, a, s, u, less, at_u, shows) = elim (cases_lt i n) [
      | inl under ↦ has_kept names (op ∷ []) o ((was o).1 (i, a, s, u, under, at_u, shows))
      | inr over ↦
          let same : i ≡ n = omega (arith, less, over) in
          let here = subst (λ (x : Top). IsSummaryOffset x o a s) (at_one all n u t (subst (λ (k : ℕ). At all k u) same at_u) at) shows in
          let op_is = ap (λ (f : SummaryOffsetFields). f.op) (summary_offset_once t op offset size o a s is here) in
          subst (Has (names ++ op ∷ [])) op_is (has_last names op [])
    ]

pub again_named : (all : List Top) (n op offset size : ℕ) (t : Top) (names : List ℕ) → AreNamedOpcodes all n names → IsSummaryOffset t op offset size → Has names op → V15 all n t → ⊥
again_named all n op offset size t names was is has right =
    let (i, a, s, u, less, at_u, shows) = (was op).0 has in
    (right op offset size is).only i a s u less at_u shows

-- in front of the summary stands no Summary Offset
pub none_yet : (tops body : List Top) (foot : Top) → Each IsFrontRecord tops → AreNamedOpcodes (all_of tops body foot) (length tops + 0) []
none_yet tops body foot kinds op = (
  λ has. absurd (at_none has.0 op has.1),
  λ some. absurd (by some),
)
  where
    by : ((i offset size : ℕ) × (u : Top) × (i < length tops + 0) × At (all_of tops body foot) i u × IsSummaryOffset u op offset size) → ⊥
    by (i, offset, size, u, less, at, is) = elim (at_either tops (body ++ foot ∷ []) i u at) [
      | inl first ↦ front_not u 14 (kinds i u first) (λ e. omega (arith, e)) refl is.kind
      | inr (k, there, _) ↦ omega (arith, there, less)
    ]
