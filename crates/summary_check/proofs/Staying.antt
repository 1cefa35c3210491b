-- What was kept of a data section stays true of the whole file.
use Rattle.std.proofs.Common.{◌≡◌, ℕ, zero, suc, ◌+◌, ◌<◌, ◌≤◌, Bool, true, false, List, [], ◌∷◌, ◌++◌, length, drop, refl, sym, ap, subst, inl, inr, ◌∙◌, append_assoc, cond, arith}
use Rattle.std.specs.Prelude.{take_while}
use Rattle.std.proofs.lemmas.Bool.{ne_eqb}
use Rattle.std.proofs.lemmas.List.{length-append, length-drop, take-append-le, drop-append-le}
use Rattle.std.proofs.lemmas.List.Sums.{take_while-cons}
use Rattle.mcap_model.specs.Places.{At, Each}
use Rattle.mcap_model.specs.Tops.{Top, spelled, offset_behind}
use Rattle.mcap_model.specs.Valid.{Keeps}
use Rattle.mcap_model.specs.Whole.{offset_of, is_index, indexes_behind, BelongsTo, IsIndexed, V9}
use Rattle.mcap_model.proofs.Lists.{at_either}
use Rattle.mcap_model.proofs.Places.{at_within, at_one, at_kept}
use Rattle.index_check.specs.declared.spots.Spot.{Spot}
use Rattle.index_check.specs.declared.chunk_indexes.ChunkNote.{ChunkNote}
use Rattle.index_check.specs.declared.chunk_indexes.Chunks.{Chunks}
use Rattle.index_check.specs.declared.extras.Attachments.{Attachments}
use Rattle.index_check.specs.declared.extras.MetadataList.{MetadataList}
use Rattle.index_check.specs.Spots.{SpotsOf, NotesOf, NamedBefore, NamedBy}
use Rattle.index_check.specs.Chunks.{NotesChunk, ChunksOf}
use Rattle.index_check.specs.Extras.{NotesAttachment, NotesMetadata, AttachmentsOf, MetadataOf}
use Rattle.index_check.proofs.Spotted.{one_place}
use Rattle.summary_check.specs.Laid.{EndsWithDataEnd}

-- ---- places

pub offset_stays : (tops more : List Top) (n : ℕ) → n ≤ length tops → offset_of (tops ++ more) n ≡ offset_of tops n
offset_stays tops more n few = ap offset_behind (take-append-le n tops more few)

module _ (Stands : Top → Type 0) (tops more : List Top) (others : Each (λ t. Stands t → ⊥) more) where
  pub spots_stay : (spots : List Spot) → SpotsOf Stands tops spots → SpotsOf Stands (tops ++ more) spots
  spots_stay spots was = record {
    shown = λ k s at.
        let (n, t, at_t, stands, own) = was.shown k s at in
        let within = at_within tops n t at_t in
        (n, t, at_kept tops more n t at_t, stands, own ∙ sym (offset_stays tops more n (omega (arith, within))));
    rises = was.rises;
    covers = λ n t at stands. elim (at_either tops more n t at) [
      | inl first ↦
          let (k, s, at_s, own) = was.covers n t first stands in
          let within = at_within tops n t first in
          (k, s, at_s, own ∙ sym (offset_stays tops more n (omega (arith, within))))
      | inr (k, _, second) ↦ absurd (others k t second stands)
    ];
  }

  pub notes_stay : {N : Type 0} (Notes More : ℕ → Top → N → Type 0) (spots : List Spot) (notes : List N) → SpotsOf Stands tops spots → NotesOf Notes tops spots notes
      → ((n : ℕ) (t : Top) (note : N) → At tops n t → Stands t → Notes n t note → More n t note) → NotesOf More (tops ++ more) spots notes
  notes_stay Notes More spots notes are was grows = record {
    paired = was.paired;
    noted = λ k n s note t at noted there own.
        let (m, u, at_u, stands, its) = are.shown k s at in
        let within = at_within tops m u at_u in
        let kept = at_kept tops more m u at_u in
        let same : n ≡ m = one_place (tops ++ more) n m t u there kept (sym own ∙ its ∙ sym (offset_stays tops more m (omega (arith, within)))) in
        let one : t ≡ u = at_one (tops ++ more) m t u (subst (λ (i : ℕ). At (tops ++ more) i t) same there) kept in
        subst (λ (i : ℕ). More i t note) (sym same) (subst (λ (x : Top). More m x note) (sym one) (grows m u note at_u stands (was.noted k m s note u at noted at_u its)));
  }

pub named_stay : (Names : Top → ℕ → Type 0) (tops more : List Top) (spots : List Spot) → NamedBy Names tops (length tops) spots → NamedBy Names (tops ++ more) (length tops) spots
named_stay Names tops more spots was = record {
  named = λ k s at.
      let held = was.named k s at in (
        λ e. let (i, u, less, at_u, names) = held.0 e in (i, u, less, at_kept tops more i u at_u, names),
        λ some. held.1 (back s.offset some),
      );
}
  where
    back : (offset : ℕ) → NamedBefore Names (tops ++ more) (length tops) offset → NamedBefore Names tops (length tops) offset
    back offset (i, u, less, at, names) = elim (at_either tops more i u at) [
      | inl first ↦ (i, u, less, first, names)
      | inr (k, there, _) ↦ absurd (omega (arith, there, less))
    ]

-- ---- what stands behind a chunk

while_ended : (l : List Top) (end : Top) (more : List Top) → is_index end ≡ false → take_while is_index (l ++ end ∷ more) ≡ take_while is_index (l ++ end ∷ [])
while_ended [] end more none = stop end more none ∙ sym (stop end [] none)
  where
    stop : (x : Top) (xs : List Top) → is_index x ≡ false → take_while is_index (x ∷ xs) ≡ []
    stop x xs is = take_while-cons is_index x xs ∙ ap (λ (b : Bool). cond b (x ∷ take_while is_index xs) []) is
while_ended (x ∷ xs) end more none =
    take_while-cons is_index x (xs ++ end ∷ more)
    ∙ ap (λ (l : List Top). cond (is_index x) (x ∷ l) []) (while_ended xs end more none)
    ∙ sym (take_while-cons is_index x (xs ++ end ∷ []))

while_few : (l : List Top) (end : Top) → is_index end ≡ false → length (take_while is_index (l ++ end ∷ [])) ≤ length l
while_few [] end none = let size = ap length (take_while-cons is_index end [] ∙ ap (λ (b : Bool). cond b (end ∷ []) []) none) in omega (arith, size)
while_few (x ∷ xs) end none = by (is_index x) refl (while_few xs end none)
  where
    by : (b : Bool) → is_index x ≡ b → length (take_while is_index (xs ++ end ∷ [])) ≤ length xs → length (take_while is_index (x ∷ (xs ++ end ∷ []))) ≤ suc (length xs)
    by true is few = let size = ap length (take_while-cons is_index x (xs ++ end ∷ []) ∙ ap (λ (b : Bool). cond b (x ∷ take_while is_index (xs ++ end ∷ [])) []) is) in omega (arith, size, few)
    by false is few = let size = ap length (take_while-cons is_index x (xs ++ end ∷ []) ∙ ap (λ (b : Bool). cond b (x ∷ take_while is_index (xs ++ end ∷ [])) []) is) in omega (arith, size)

module _ (tops more : List Top) (ended : EndsWithDataEnd tops) where
  end_other : is_index ended.end ≡ false
  end_other = let end = ended.end in ne_eqb end.op 7 (λ e. omega (arith, e, ended.kind))

  size_of : length tops ≡ suc (length ended.section)
  size_of = omega (arith, ap length ended.joined, length-append ended.section (ended.end ∷ []))

  -- a record of another kind than the Data End stands in front of it
  in_section : (n : ℕ) (t : Top) → At tops n t → (t.op ≡ 15 → ⊥) → n < length ended.section
  in_section n t at other = elim (at_either ended.section (ended.end ∷ []) n t (subst (λ (l : List Top). At l n t) ended.joined at)) [
    | inl first ↦ at_within ended.section n t first
    | inr (k, there, second) ↦ absurd (last k second)
  ]
    where
      last : (k : ℕ) → At (ended.end ∷ []) k t → ⊥
      last zero here = let is = at_one (ended.end ∷ []) 0 ended.end t refl here in other (ap (λ (x : Top). x.op) (sym is) ∙ ended.kind)
      last (suc k) here = let within = at_within (ended.end ∷ []) (suc k) t here in omega (arith, within)

  behind_tops : (n : ℕ) → n < length ended.section → drop (suc n) tops ≡ drop (suc n) ended.section ++ ended.end ∷ []
  behind_tops n less = ap (drop (suc n)) ended.joined ∙ drop-append-le (suc n) ended.section (ended.end ∷ []) (omega (arith, less))

  pub indexes_stay : (n : ℕ) (t : Top) → At tops n t → (t.op ≡ 15 → ⊥) → indexes_behind (tops ++ more) n ≡ indexes_behind tops n
  indexes_stay n t at other =
      let less = in_section n t at other in
      let front : drop (suc n) (tops ++ more) ≡ drop (suc n) ended.section ++ ended.end ∷ more =
      drop-append-le (suc n) tops more (omega (arith, less, size_of)) ∙ ap (λ (l : List Top). l ++ more) (behind_tops n less) ∙ append_assoc (drop (suc n) ended.section) (ended.end ∷ []) more in
      ap (take_while is_index) front ∙ while_ended (drop (suc n) ended.section) ended.end more end_other ∙ ap (take_while is_index) (sym (behind_tops n less))

  pub indexes_few : (n : ℕ) (t : Top) → At tops n t → (t.op ≡ 15 → ⊥) → suc n + length (indexes_behind tops n) < length tops
  indexes_few n t at other =
      let less = in_section n t at other in
      let few = while_few (drop (suc n) ended.section) ended.end end_other in
      let same = ap (λ (l : List Top). length (take_while is_index l)) (behind_tops n less) in
      omega (arith, few, same, less, size_of, length-drop (suc n) ended.section)

  pub keeps_9 : Keeps V9 tops → (n : ℕ) (t : Top) → At tops n t → V9 (tops ++ more) n t
  keeps_9 keeps n t at =
      let within = at_within tops n t at in
      let both = keeps n t at in (
        λ seven. subst (λ (l : List Top). BelongsTo l t) (sym (take-append-le n tops more (omega (arith, within)))) (both.0 seven),
        λ six followed. indexed six (both.1 six (indexes_few n t at (λ e. omega (arith, e, six)))),
      )
    where
      indexed : t.op ≡ 6 → IsIndexed tops n t → IsIndexed (tops ++ more) n t
      indexed six was =
          let same = indexes_stay n t at (λ e. omega (arith, e, six)) in
          elim was [
            | inl none ↦ inl (same ∙ none)
            | inr each ↦ inr (λ j channel u m there is.
                let (k, i, entries, at_i, shows) = each j channel u m there is in
                (k, i, entries, subst (λ (l : List Top). At l k i) (sym same) at_i, shows))
          ]

  -- ---- chunks, attachments and metadata

  chunk_stays : (n : ℕ) (t : Top) (note : ChunkNote) → At tops n t → t.op ≡ 6 → NotesChunk tops n t note → NotesChunk (tops ++ more) n t note
  chunk_stays n t note at six was =
      let same = indexes_stay n t at (λ e. omega (arith, e, six)) in
      let few = indexes_few n t at (λ e. omega (arith, e, six)) in
      let indexes = was.indexes in
      record {
        shown = was.shown;
        is = was.is;
        plain = was.plain;
        size = was.size;
        start = was.start;
        end = was.end;
        records = was.records;
        uncompressed = was.uncompressed;
        indexes = record {
          paired = indexes.paired ∙ sym (ap length same);
          noted = λ p one u at_note at_u.
              let there = subst (λ (l : List Top). At l p u) same at_u in
              let within = at_within (indexes_behind tops n) p u there in
              let old = indexes.noted p one u at_note there in
              record {
                shown = old.shown;
                is = old.is;
                there = old.there ∙ sym (offset_stays tops more (suc n + p) (omega (arith, within, few)));
                counted = old.counted;
              };
        };
        indexes_size = was.indexes_size ∙ ap (λ (l : List Top). length (spelled l)) (sym same);
        heard = was.heard;
      }

  pub chunks_stay : (kept : Chunks) → ChunksOf tops kept → Each (λ t. t.op ≡ 6 → ⊥) more → ChunksOf (tops ++ more) kept
  chunks_stay kept was others = record {
    spots = spots_stay (λ t. t.op ≡ 6) tops more others kept.spots was.spots;
    notes = notes_stay (λ t. t.op ≡ 6) tops more others (NotesChunk tops) (NotesChunk (tops ++ more)) kept.spots kept.notes.items was.spots was.notes (λ n t note at six old. chunk_stays n t note at six old);
  }

pub attachments_stay : (tops more : List Top) (kept : Attachments) → AttachmentsOf tops kept → Each (λ t. t.op ≡ 9 → ⊥) more → AttachmentsOf (tops ++ more) kept
attachments_stay tops more kept was others = record {
  spots = spots_stay (λ t. t.op ≡ 9) tops more others kept.spots was.spots;
  notes = notes_stay (λ t. t.op ≡ 9) tops more others (λ n. NotesAttachment) (λ n. NotesAttachment) kept.spots kept.notes.items was.spots was.notes (λ n t note at nine old. old);
}

pub metadata_stay : (tops more : List Top) (kept : MetadataList) → MetadataOf tops kept → Each (λ t. t.op ≡ 12 → ⊥) more → MetadataOf (tops ++ more) kept
metadata_stay tops more kept was others = record {
  spots = spots_stay (λ t. t.op ≡ 12) tops more others kept.spots was.spots;
  notes = notes_stay (λ t. t.op ≡ 12) tops more others (λ n. NotesMetadata) (λ n. NotesMetadata) kept.spots kept.notes.items was.spots was.notes (λ n t note at twelve old. old);
}
