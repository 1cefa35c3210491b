-- Where records stand, and which of them were named.
use Rattle.std.proofs.Common.{◌≡◌, ◌⊎◌, ℕ, zero, suc, ◌+◌, ◌<◌, ◌≤◌, Bool, true, false, List, [], ◌∷◌, ◌++◌, length, get_or, take, set, refl, sym, ap, subst, inl, inr, ◌∙◌, arith}
use Rattle.std.proofs.lemmas.Bool.{both_ways, cases_lt}
use Rattle.std.proofs.lemmas.List.{length-append, take-append-le}
use Rattle.mcap_model.specs.Places.{At, Each}
use Rattle.mcap_model.specs.Tops.{Top, top_bytes, spelled, offset_behind}
use Rattle.mcap_model.specs.Whole.{offset_of}
use Rattle.mcap_model.proofs.Places.{at_within, at_one, at_kept, at_last, at_more, at_set, at_set_same, at_set_other, at_read, pairs_more}
use Rattle.mcap_model.proofs.Lists.{pairs_at, pairs_from, at_taken, cut_at}
use Rattle.mcap_model.proofs.Readings.{length-top}
use Rattle.std.proofs.lemmas.Grind.{flat_map-append}
use Rattle.std.proofs.Math.Seq.{take-append_seam}
use Rattle.index_check.specs.declared.spots.Spot.{Spot}
use Rattle.index_check.specs.declared.spots.Naming.{Naming}
use Rattle.index_check.specs.declared.spots.Naming.TheVariants as namings
use Rattle.index_check.specs.Spots.{Ascends, IsOnlySpot, spot, NamesSpot, SpotsOf, NotesOf, FitsNamed, NamedBefore, NamedBy}

-- ---- a search by halves

-- what stands in front of low is below the offset, and what stands from high on is above it
pub record Narrows (spots : List Spot) (offset low high : ℕ) : Type 0 where
  pub within : low ≤ high
  pub end : high ≤ length spots
  pub below : (k : ℕ) (s : Spot) → At spots k s → k < low → s.offset < offset
  pub above : (k : ℕ) (s : Spot) → At spots k s → high ≤ k → offset < s.offset

pub narrows_all : (spots : List Spot) (offset : ℕ) → Narrows spots offset 0 (length spots)
narrows_all spots offset = record {
  within = omega arith;
  end = omega arith;
  below = λ k s at less. absurd (omega (arith, less));
  above = λ k s at past. let within = at_within spots k s at in absurd (omega (arith, within, past));
}

pub narrows_low : (spots : List Spot) (offset low high middle : ℕ) (s : Spot) → Ascends spots → Narrows spots offset low high → At spots middle s → middle < high → s.offset < offset → Narrows spots offset (middle + 1) high
narrows_low spots offset low high middle s ascends was at less low_there = record {
  within = omega (arith, less);
  end = was.end;
  below = λ k r there before. elim (cases_lt k middle) [
    | inl front ↦ let up = pairs_at (λ (a b : Spot). a.offset < b.offset) spots ascends k middle r s front there at in omega (arith, up, low_there)
    | inr back ↦
        let same : k ≡ middle = omega (arith, back, before) in
        let one = ap (λ (x : Spot). x.offset) (at_one spots middle r s (subst (λ (n : ℕ). At spots n r) same there) at) in
        omega (arith, one, low_there)
  ];
  above = was.above;
}

pub narrows_high : (spots : List Spot) (offset low high middle : ℕ) (s : Spot) → Ascends spots → Narrows spots offset low high → At spots middle s → low ≤ middle → middle < high → offset ≤ s.offset → (s.offset ≡ offset → ⊥) → Narrows spots offset low middle
narrows_high spots offset low high middle s ascends was at from less up_to other = record {
  within = from;
  end = let end = was.end in omega (arith, less, end);
  below = was.below;
  above = λ k r there past. elim (cases_lt middle k) [
    | inl behind ↦ let up = pairs_at (λ (a b : Spot). a.offset < b.offset) spots ascends middle k s r behind at there in omega (arith, up, up_to)
    | inr back ↦
        let same : k ≡ middle = omega (arith, back, past) in
        let one = ap (λ (x : Spot). x.offset) (at_one spots middle r s (subst (λ (n : ℕ). At spots n r) same there) at) in
        omega (arith, one, up_to, other)
  ];
}

pub narrows_none : (spots : List Spot) (offset low high : ℕ) → Narrows spots offset low high → high ≤ low → (k : ℕ) (s : Spot) → At spots k s → s.offset ≡ offset → ⊥
narrows_none spots offset low high was empty k s at same = elim (cases_lt k low) [
  | inl front ↦ let less = was.below k s at front in omega (arith, less, same)
  | inr back ↦ let more = was.above k s at (omega (arith, empty, back)) in omega (arith, more, same)
]

pub is_only : (spots : List Spot) (offset place : ℕ) (s : Spot) → Ascends spots → At spots place s → s.offset ≡ offset → IsOnlySpot spots offset place
is_only spots offset place s ascends at same k r there other = elim (cases_lt k place) [
  | inl less ↦ let up = pairs_at (λ (a b : Spot). a.offset < b.offset) spots ascends k place r s less there at in absurd (omega (arith, up, same, other))
  | inr more ↦ elim (cases_lt place k) [
    | inl under ↦ let up = pairs_at (λ (a b : Spot). a.offset < b.offset) spots ascends place k s r under at there in absurd (omega (arith, up, same, other))
    | inr less ↦ omega (arith, more, less)
  ]
]

-- ---- one spot more, or one that is named

pub ascends_more : (spots : List Spot) (offset : ℕ) → Ascends spots → Each (λ s. s.offset < offset) spots → Ascends (spots ++ spot offset false ∷ [])
ascends_more spots offset ascends below = pairs_more (λ (a b : Spot). a.offset < b.offset) spots (spot offset false) ascends below

-- another spot with the same offset in the place of one
pub ascends_set : (spots : List Spot) (place : ℕ) (old new : Spot) → Ascends spots → At spots place old → new.offset ≡ old.offset → Ascends (set spots place new)
ascends_set spots place old new ascends at same = pairs_from (λ (a b : Spot). a.offset < b.offset) (set spots place new) (λ i j a b less one other.
    let (x, at_x, is_x) = was i a one in
    let (y, at_y, is_y) = was j b other in
    let up = pairs_at (λ (a b : Spot). a.offset < b.offset) spots ascends i j x y less at_x at_y in
    omega (arith, up, is_x, is_y))
  where
    was : (k : ℕ) (s : Spot) → At (set spots place new) k s → (r : Spot) × At spots k r × (r.offset ≡ s.offset)
    was k s there = elim (at_set spots place k s new there) [
      | inl (here, is) ↦ (old, subst (λ (n : ℕ). At spots n old) (sym here) at, sym same ∙ ap (λ (x : Spot). x.offset) (sym is))
      | inr (apart, kept) ↦ (s, kept, refl)
    ]

pub spot_read : (spots : List Spot) (k : ℕ) (s : Spot) → k < length spots → s ≡ get_or spots k s → At spots k s
spot_read spots k s within read = subst (At spots k) (sym read) (at_read spots k s within)

pub made_spot : (s : Spot) (offset : ℕ) (named : Bool) → s.offset ≡ offset → s.named ≡ named → s ≡ spot offset named
made_spot s offset named there is = ap (λ (n : ℕ). spot n s.named) there ∙ ap (spot offset) is

-- ---- spots of a file

-- a record in front of another starts in front of it
pub offsets_rise : (tops : List Top) (m n : ℕ) (t u : Top) → At tops m t → At tops n u → m < n → offset_of tops m < offset_of tops n
offsets_rise tops m n t u at other less =
    let front = take n tops in
    let there = at_taken tops n m t less at in
    let below = spelled_below front m t there in
    let same : take m front ≡ take m tops = taken_twice tops m n less in
    omega (arith, below, ap (λ (l : List Top). length (spelled l)) same)
  where
    spelled_below : (xs : List Top) (k : ℕ) (x : Top) → At xs k x → length (spelled (take k xs)) + 9 ≤ length (spelled xs)
    spelled_below xs k x at_x =
        let cut = cut_at xs k x at_x in
        let size = ap (λ (l : List Top). length (spelled l)) cut.1 in
        let parts = ap length (flat_map-append top_bytes (take k xs) (x ∷ cut.0)) in
        omega (arith, size, parts, length-append (spelled (take k xs)) (top_bytes x ++ spelled cut.0), length-append (top_bytes x) (spelled cut.0), length-top x)

    taken_twice : (xs : List Top) (k l : ℕ) → k < l → take k (take l xs) ≡ take k xs
    taken_twice xs zero l under = refl
    taken_twice xs (suc k) zero under = absurd (omega (arith, under))
    taken_twice [] (suc k) (suc l) under = refl
    taken_twice (x ∷ xs) (suc k) (suc l) under = ap (λ (r : List Top). x ∷ r) (taken_twice xs k l (omega (arith, under)))

pub one_place : (tops : List Top) (m n : ℕ) (t u : Top) → At tops m t → At tops n u → offset_of tops m ≡ offset_of tops n → m ≡ n
one_place tops m n t u at other same = elim (cases_lt m n) [
  | inl less ↦ let up = offsets_rise tops m n t u at other less in absurd (omega (arith, up, same))
  | inr more ↦ elim (cases_lt n m) [
    | inl under ↦ let up = offsets_rise tops n m u t other at under in absurd (omega (arith, up, same))
    | inr less ↦ omega (arith, more, less)
  ]
]

pub note_there : {N : Type 0} (notes : List N) (k : ℕ) → k < length notes → (note : N) × At notes k note
note_there [] k within = absurd (omega (arith, within))
note_there (x ∷ xs) zero within = (x, refl)
note_there (x ∷ xs) (suc k) within = note_there xs k (omega (arith, within))

module _ (Stands : Top → Type 0) (Names : Top → ℕ → Type 0) where
  before_more : (tops : List Top) (n offset : ℕ) → NamedBefore Names tops n offset → NamedBefore Names tops (suc n) offset
  before_more tops n offset (i, u, less, at, names) = (i, u, omega (arith, less), at, names)

  before_one : (tops : List Top) (n own offset : ℕ) (u : Top) → At tops n u → ((o : ℕ) → Names u o → o ≡ own) → NamedBefore Names tops (suc n) offset → NamedBefore Names tops n offset ⊎ (offset ≡ own)
  before_one tops n own offset u at once (i, v, less, there, names) = elim (cases_lt i n) [
    | inl under ↦ inl (i, v, under, there, names)
    | inr over ↦
        let same : i ≡ n = omega (arith, less, over) in
        inr (once offset (subst (λ (t : Top). Names t offset) (at_one tops n v u (subst (λ (k : ℕ). At tops k v) same there) at) names))
  ]

  -- the index at that place names an offset
  pub name_next : (tops : List Top) (n offset : ℕ) (u : Top) (old new : List Spot) (result : Naming) → NamedBy Names tops n old → At tops n u → Names u offset → ((o : ℕ) → Names u o → o ≡ offset)
      → NamesSpot old new offset result → NamedBy Names tops (suc n) new
  name_next tops n offset u old new namings.Absent was at names once is = record {
    named = λ k s there.
        let before : At old k s = subst (λ (l : List Spot). At l k s) is.1 there in
        let held = was.named k s before in (
          λ e. before_more tops n s.offset (held.0 e),
          λ b. elim (before_one tops n offset s.offset u at once b) [ inl older ↦ held.1 older | inr same ↦ absurd (is.0 k s before same) ],
        );
  }
  name_next tops n offset u old new namings.Again was at names once is = record {
    named = λ k s there.
        let before : At old k s = subst (λ (l : List Spot). At l k s) is.1 there in
        let held = was.named k s before in (
          λ e. before_more tops n s.offset (held.0 e),
          λ b. elim (before_one tops n offset s.offset u at once b) [
            | inl older ↦ held.1 older
            | inr same ↦
                let (place, own, only) = is.0 in
                let here = only k s before same in
                ap (λ (r : Spot). r.named) (at_one old place s (spot offset true) (subst (λ (m : ℕ). At old m s) here before) own)
          ],
        );
  }
  name_next tops n offset u old new (namings.First place) was at names once is = record {
    named = λ k s there. elim (at_set old place k s (spot offset true) (subst (λ (l : List Spot). At l k s) is.2 there)) [
      | inl (here, same) ↦ (
        λ e. (n, u, omega arith, at, subst (λ (o : ℕ). Names u o) (sym (ap (λ (r : Spot). r.offset) same)) names),
        λ b. ap (λ (r : Spot). r.named) same,
      )
      | inr (apart, before) ↦
          let held = was.named k s before in (
            λ e. before_more tops n s.offset (held.0 e),
            λ b. elim (before_one tops n offset s.offset u at once b) [ inl older ↦ held.1 older | inr same ↦ absurd (apart (is.1 k s before same)) ],
          )
    ];
  }

  -- a name changes no offset
  pub spots_named : (tops : List Top) (offset : ℕ) (old new : List Spot) (result : Naming) → SpotsOf Stands tops old → NamesSpot old new offset result → SpotsOf Stands tops new
  spots_named tops offset old new namings.Absent was is = subst (SpotsOf Stands tops) (sym is.1) was
  spots_named tops offset old new namings.Again was is = subst (SpotsOf Stands tops) (sym is.1) was
  spots_named tops offset old new (namings.First place) was is = subst (SpotsOf Stands tops) (sym is.2) (record {
    shown = λ k s there. elim (at_set old place k s (spot offset true) there) [
      | inl (here, same) ↦
          let first = was.shown place (spot offset false) is.0 in
          (first.0, first.1, first.2, first.3, ap (λ (r : Spot). r.offset) same ∙ first.4)
      | inr (apart, before) ↦ was.shown k s before
    ];
    rises = ascends_set old place (spot offset false) (spot offset true) was.rises is.0 refl;
    covers = λ n t at stands.
        let held = was.covers n t at stands in
        by n held.0 held.1 held.2 held.3;
  })
    where
      by : (n k : ℕ) (s : Spot) → At old k s → s.offset ≡ offset_of tops n → (j : ℕ) × (r : Spot) × At (set old place (spot offset true)) j r × (r.offset ≡ offset_of tops n)
      by n k s at there = elim (cases_lt k place) [
        | inl less ↦ (k, s, at_set_other old place k s (spot offset true) (λ e. omega (arith, e, less)) at, there)
        | inr more ↦ elim (cases_lt place k) [
          | inl under ↦ (k, s, at_set_other old place k s (spot offset true) (λ e. omega (arith, e, under)) at, there)
          | inr less ↦
              let here : k ≡ place = omega (arith, more, less) in
              let one = at_one old place s (spot offset false) (subst (λ (m : ℕ). At old m s) here at) is.0 in
              (place, spot offset true, at_set_same old place (spot offset true) (at_within old place (spot offset false) is.0), sym (ap (λ (r : Spot). r.offset) one) ∙ there)
        ]
      ]

  -- ---- notes of the records

  module _ {N : Type 0} (Notes : ℕ → Top → N → Type 0) (Fits : N → Type 0) where
    -- a record of the kind stands at the offset, its note fits, and no index in front names it
    pub record FirstFits (tops : List Top) (n offset : ℕ) : Type 0 where
      pub place : ℕ
      pub top : Top
      pub note : N
      pub at : At tops place top
      pub stands : Stands top
      pub there : offset ≡ offset_of tops place
      pub notes : Notes place top note
      pub fits : Fits note
      pub fresh : NamedBefore Names tops n offset → ⊥

    pub fits_first : (tops : List Top) (n offset : ℕ) (old new : List Spot) (notes : List N) (result : Naming) → SpotsOf Stands tops old → NotesOf Notes tops old notes → NamedBy Names tops n old
        → NamesSpot old new offset result → FitsNamed Fits notes result → FirstFits tops n offset
    fits_first tops n offset old new notes namings.Absent are noted named is fits = absurd fits
    fits_first tops n offset old new notes namings.Again are noted named is fits = absurd fits
    fits_first tops n offset old new notes (namings.First place) are noted named is (note, at_note, fits) =
        let (m, t, at, stands, there) = are.shown place (spot offset false) is.0 in
        record {
          place = m;
          top = t;
          note = note;
          at = at;
          stands = stands;
          there = there;
          notes = noted.noted place m (spot offset false) note t is.0 at_note at there;
          fits = fits;
          fresh = λ b. both_ways false refl ((named.named place (spot offset false) is.0).1 b);
        }

    pub first_fits : (tops : List Top) (n offset : ℕ) (old new : List Spot) (notes : List N) (result : Naming) → SpotsOf Stands tops old → NotesOf Notes tops old notes → NamedBy Names tops n old
        → NamesSpot old new offset result → (m : ℕ) (t : Top) → At tops m t → Stands t → offset ≡ offset_of tops m → (NamedBefore Names tops n offset → ⊥) → ((note : N) → Notes m t note → Fits note) → FitsNamed Fits notes result
    first_fits tops n offset old new notes namings.Absent are noted named is m t at stands there fresh fits =
        let (k, s, at_spot, own) = are.covers m t at stands in
        is.0 k s at_spot (own ∙ sym there)
    first_fits tops n offset old new notes namings.Again are noted named is m t at stands there fresh fits =
        let (place, at_spot, only) = is.0 in
        fresh ((named.named place (spot offset true) at_spot).0 refl)
    first_fits tops n offset old new notes (namings.First place) are noted named is m t at stands there fresh fits =
        let within = at_within old place (spot offset false) is.0 in
        let found = note_there notes place (omega (arith, noted.paired, within)) in
        (found.0, found.1, fits found.0 (noted.noted place m (spot offset false) found.0 t is.0 found.1 at there))

-- ---- one record more

offset_kept : (tops more : List Top) (n : ℕ) (t : Top) → At tops n t → offset_of (tops ++ more) n ≡ offset_of tops n
offset_kept tops more n t at = ap offset_behind (take-append-le n tops more (let within = at_within tops n t at in omega (arith, within)))

pub offset_last : (tops more : List Top) → offset_of (tops ++ more) (length tops) ≡ offset_behind tops
offset_last tops more = ap offset_behind (take-append_seam tops more)

-- a record starts in front of the end
offset_below : (tops : List Top) (n : ℕ) (t : Top) → At tops n t → offset_of tops n < offset_behind tops
offset_below tops n t at =
    let cut = cut_at tops n t at in
    let size = ap (λ (l : List Top). length (spelled l)) cut.1 in
    let parts = ap length (flat_map-append top_bytes (take n tops) (t ∷ cut.0)) in
    omega (arith, size, parts, length-append (spelled (take n tops)) (top_bytes t ++ spelled cut.0), length-append (top_bytes t) (spelled cut.0), length-top t)

-- the next record stands behind those that are kept
pub spots_below : (Stands : Top → Type 0) (tops : List Top) (offset : ℕ) (spots : List Spot) → SpotsOf Stands tops spots → offset ≡ offset_behind tops → Each (λ s. s.offset < offset) spots
spots_below Stands tops offset spots are there k s at =
    let (n, t, at_t, stands, own) = are.shown k s at in
    let below = offset_below tops n t at_t in
    omega (arith, below, own, there)

pub spots_more : (Stands : Top → Type 0) (tops : List Top) (t : Top) (offset : ℕ) (spots : List Spot) → SpotsOf Stands tops spots → Stands t → offset ≡ offset_behind tops → SpotsOf Stands (tops ++ t ∷ []) (spots ++ spot offset false ∷ [])
spots_more Stands tops t offset spots was stands there = record {
  shown = λ k s at. elim (at_more spots (spot offset false) k s at) [
    | inl old ↦
        let (n, u, at_u, stood, own) = was.shown k s old in
        (n, u, at_kept tops (t ∷ []) n u at_u, stood, own ∙ sym (offset_kept tops (t ∷ []) n u at_u))
    | inr (_, same) ↦ (length tops, t, at_last tops t [], stands, ap (λ (r : Spot). r.offset) same ∙ there ∙ sym (offset_last tops (t ∷ [])))
  ];
  rises = ascends_more spots offset was.rises (spots_below Stands tops offset spots was there);
  covers = λ n u at stood. elim (at_more tops t n u at) [
    | inl old ↦
        let (k, s, at_s, own) = was.covers n u old stood in
        (k, s, at_kept spots (spot offset false ∷ []) k s at_s, own ∙ sym (offset_kept tops (t ∷ []) n u old))
    | inr (last, _) ↦ (length spots, spot offset false, at_last spots (spot offset false) [], there ∙ sym (offset_last tops (t ∷ [])) ∙ ap (offset_of (tops ++ t ∷ [])) (sym last))
  ];
}

pub spots_other : (Stands : Top → Type 0) (tops : List Top) (t : Top) (spots : List Spot) → SpotsOf Stands tops spots → (Stands t → ⊥) → SpotsOf Stands (tops ++ t ∷ []) spots
spots_other Stands tops t spots was other = record {
  shown = λ k s at.
      let (n, u, at_u, stood, own) = was.shown k s at in
      (n, u, at_kept tops (t ∷ []) n u at_u, stood, own ∙ sym (offset_kept tops (t ∷ []) n u at_u));
  rises = was.rises;
  covers = λ n u at stood. elim (at_more tops t n u at) [
    | inl old ↦
        let (k, s, at_s, own) = was.covers n u old stood in
        (k, s, at_s, own ∙ sym (offset_kept tops (t ∷ []) n u old))
    | inr (_, same) ↦ absurd (other (subst Stands same stood))
  ];
}

-- the record of an old spot is an old record
pub old_place : (Stands : Top → Type 0) (tops : List Top) (t u : Top) (spots : List Spot) (k n : ℕ) (s : Spot) → SpotsOf Stands tops spots → At spots k s → At (tops ++ t ∷ []) n u → s.offset ≡ offset_of (tops ++ t ∷ []) n → At tops n u × (s.offset ≡ offset_of tops n)
old_place Stands tops t u spots k n s was at there own =
    let (m, v, at_v, stood, its) = was.shown k s at in
    let kept = at_kept tops (t ∷ []) m v at_v in
    let same = one_place (tops ++ t ∷ []) n m u v there kept (sym own ∙ its ∙ sym (offset_kept tops (t ∷ []) m v at_v)) in
    let one = at_one (tops ++ t ∷ []) m u v (subst (λ (i : ℕ). At (tops ++ t ∷ []) i u) same there) kept in
    (subst (λ (i : ℕ). At tops i u) (sym same) (subst (At tops m) (sym one) at_v), its ∙ ap (offset_of tops) (sym same))

pub notes_other : {N : Type 0} (Notes More : ℕ → Top → N → Type 0) (Stands : Top → Type 0) (tops : List Top) (t : Top) (spots : List Spot) (notes : List N) → SpotsOf Stands tops spots → NotesOf Notes tops spots notes
    → ((n : ℕ) (u : Top) (note : N) → At tops n u → Notes n u note → More n u note) → NotesOf More (tops ++ t ∷ []) spots notes
notes_other Notes More Stands tops t spots notes are was grows = record {
  paired = was.paired;
  noted = λ k n s note u at noted there own.
      let old = old_place Stands tops t u spots k n s are at there own in
      grows n u note old.0 (was.noted k n s note u at noted old.0 old.1);
}

pub notes_more : {N : Type 0} (Notes More : ℕ → Top → N → Type 0) (Stands : Top → Type 0) (tops : List Top) (t : Top) (offset : ℕ) (note : N) (spots : List Spot) (notes : List N) → SpotsOf Stands tops spots → NotesOf Notes tops spots notes
    → offset ≡ offset_behind tops → ((n : ℕ) (u : Top) (x : N) → At tops n u → Notes n u x → More n u x) → More (length tops) t note → NotesOf More (tops ++ t ∷ []) (spots ++ spot offset false ∷ []) (notes ++ note ∷ [])
notes_more Notes More Stands tops t offset note spots notes are was there grows new = record {
  paired = omega (arith, was.paired, length-append notes (note ∷ []), length-append spots (spot offset false ∷ []));
  noted = λ k n s x u at noted at_u own. elim (at_more spots (spot offset false) k s at) [
    | inl old ↦ elim (at_more notes note k x noted) [
      | inl old_note ↦
          let place = old_place Stands tops t u spots k n s are old at_u own in
          grows n u x place.0 (was.noted k n s x u old old_note place.0 place.1)
      | inr (last, _) ↦ let within = at_within spots k s old in absurd (omega (arith, within, last, was.paired))
    ]
    | inr (last, same) ↦ elim (at_more notes note k x noted) [
      | inl old_note ↦ let within = at_within notes k x old_note in absurd (omega (arith, within, last, was.paired))
      | inr (_, same_note) ↦
          let end = at_last tops t [] in
          let place = one_place (tops ++ t ∷ []) n (length tops) u t at_u end (sym own ∙ ap (λ (r : Spot). r.offset) same ∙ there ∙ sym (offset_last tops (t ∷ []))) in
          let one = at_one (tops ++ t ∷ []) (length tops) u t (subst (λ (i : ℕ). At (tops ++ t ∷ []) i u) place at_u) end in
          subst (λ (i : ℕ). More i u x) (sym place) (subst (λ (v : Top). More (length tops) v x) (sym one) (subst (More (length tops) t) (sym same_note) new))
    ]
  ];
}
