-- Chunks and the Message Indexes behind them, as records are added.
use Rattle.std.proofs.Common.{◌≡◌, ℕ, zero, suc, ◌+◌, ◌^◌, ◌<◌, ◌≤◌, Bool, true, false, List, [], ◌∷◌, ◌++◌, length, drop, set, cond, refl, sym, ap, subst, inl, inr, ◌∙◌, append_assoc, arith}
use Rattle.std.specs.Prelude.{take_while, ◌↔◌}
use Rattle.std.proofs.lemmas.Bool.{cases_lt, ne_eqb, eq-eqb}
use Rattle.std.proofs.lemmas.List.{append-nil, length-append, length-drop, length-set, take-append-le}
use Rattle.std.proofs.lemmas.List.Sums.{take_while-cons}
use Rattle.std.proofs.lemmas.Grind.{flat_map-append}
use Rattle.std.proofs.Math.Seq.{take-append_seam}
use Rattle.mcap_model.specs.Places.{At, Each}
use Rattle.mcap_model.specs.Tops.{Top, top_bytes, spelled, offset_behind, inner_tops}
use Rattle.mcap_model.specs.Fields.{IsMessageIndex}
use Rattle.mcap_model.specs.Whole.{offset_of, is_index, indexes_behind}
use Rattle.mcap_model.proofs.Places.{at_none, at_within, at_one, at_last, at_more, at_set}
use Rattle.mcap_model.proofs.Lists.{at_either, take_while_front, pairs_at}
use Rattle.index_check.specs.declared.chunk_indexes.IndexNote.{IndexNote}
use Rattle.index_check.specs.declared.chunk_indexes.ChunkNote.{ChunkNote}
use Rattle.index_check.specs.declared.chunk_indexes.Chunks.{Chunks}
use Rattle.index_check.specs.declared.spots.Spot.{Spot}
use Rattle.index_check.specs.Spots.{spot, SpotsOf, NotesOf}
use Rattle.index_check.specs.Chunks.{HasMessage, NotesIndexes, NotesChunk, ChunksOf, EndsWithChunk, AddsIndex}
use Rattle.index_check.proofs.Spotted.{offsets_rise, one_place, old_place, spots_more, spots_other, notes_more, notes_other}
use Rattle.index_check.proofs.Followers.{drop_seam}

-- ---- lists

while_more : {X : Type 0} (test : X → Bool) (xs : List X) (x : X) → test x ≡ false → take_while test (xs ++ x ∷ []) ≡ take_while test xs
while_more test [] x fails = take_while-cons test x [] ∙ ap (λ (b : Bool). cond b (x ∷ take_while test []) []) fails
while_more {X} test (y ∷ ys) x fails =
    take_while-cons test y (ys ++ x ∷ []) ∙ ap (λ (l : List X). cond (test y) (y ∷ l) []) (while_more test ys x fails) ∙ sym (take_while-cons test y ys)

while_stops : {X : Type 0} (test : X → Bool) (xs : List X) (x : X) (ys zs : List X) → test x ≡ false → take_while test (xs ++ x ∷ (ys ++ zs)) ≡ take_while test (xs ++ x ∷ ys)
while_stops {X} test [] x ys zs fails =
    take_while-cons test x (ys ++ zs) ∙ ap (λ (b : Bool). cond b (x ∷ take_while test (ys ++ zs)) []) fails
    ∙ sym (take_while-cons test x ys ∙ ap (λ (b : Bool). cond b (x ∷ take_while test ys) []) fails)
while_stops {X} test (w ∷ ws) x ys zs fails =
    take_while-cons test w (ws ++ x ∷ (ys ++ zs)) ∙ ap (λ (l : List X). cond (test w) (w ∷ l) []) (while_stops test ws x ys zs fails) ∙ sym (take_while-cons test w (ws ++ x ∷ ys))

while_short : {X : Type 0} (test : X → Bool) (xs : List X) → length (take_while test xs) ≤ length xs
while_short test [] = omega arith
while_short {X} test (x ∷ xs) = by (test x) refl (while_short test xs)
  where
    by : (b : Bool) → test x ≡ b → length (take_while test xs) ≤ length xs → length (take_while test (x ∷ xs)) ≤ length (x ∷ xs)
    by true is rest = let size = ap length (take_while-cons test x xs ∙ ap (λ (c : Bool). cond c (x ∷ take_while test xs) []) is) in omega (arith, size, rest)
    by false is rest = let size = ap length (take_while-cons test x xs ∙ ap (λ (c : Bool). cond c (x ∷ take_while test xs) []) is) in omega (arith, size)

drop_front : {X : Type 0} (n : ℕ) (xs ys : List X) → n ≤ length xs → drop n (xs ++ ys) ≡ drop n xs ++ ys
drop_front zero xs ys within = refl
drop_front (suc n) [] ys within = absurd (omega (arith, within))
drop_front (suc n) (x ∷ xs) ys within = drop_front n xs ys (omega (arith, within))

-- ---- the Message Indexes behind a chunk

not_index : (t : Top) → (t.op ≡ 7 → ⊥) → is_index t ≡ false
not_index t other = ne_eqb t.op 7 other

behind_other : (tops : List Top) (t : Top) (n : ℕ) → n < length tops → (t.op ≡ 7 → ⊥) → indexes_behind (tops ++ t ∷ []) n ≡ indexes_behind tops n
behind_other tops t n within other = ap (take_while is_index) (drop_front (suc n) tops (t ∷ []) (omega (arith, within))) ∙ while_more is_index (drop (suc n) tops) t (not_index t other)

-- a chunk in front of the last one
behind_earlier : (tops : List Top) (t : Top) (n : ℕ) (e : EndsWithChunk tops) → n < length e.others → indexes_behind (tops ++ t ∷ []) n ≡ indexes_behind tops n
behind_earlier tops t n e within =
    let front = drop (suc n) e.others in
    let old : drop (suc n) tops ≡ front ++ e.chunk ∷ e.earlier = ap (drop (suc n)) e.joined ∙ drop_front (suc n) e.others (e.chunk ∷ e.earlier) (omega (arith, within)) in
    let all : tops ++ t ∷ [] ≡ e.others ++ e.chunk ∷ (e.earlier ++ t ∷ []) = ap (λ (l : List Top). l ++ t ∷ []) e.joined ∙ append_assoc e.others (e.chunk ∷ e.earlier) (t ∷ []) in
    let new : drop (suc n) (tops ++ t ∷ []) ≡ front ++ e.chunk ∷ (e.earlier ++ t ∷ []) = ap (drop (suc n)) all ∙ drop_front (suc n) e.others (e.chunk ∷ (e.earlier ++ t ∷ [])) (omega (arith, within)) in
    let six = e.kind in
    ap (take_while is_index) new ∙ while_stops is_index front e.chunk e.earlier (t ∷ []) (not_index e.chunk (λ seven. omega (arith, six, seven))) ∙ sym (ap (take_while is_index) old)

-- the last chunk
behind_last : (others : List Top) (chunk : Top) (earlier : List Top) → Each (λ u. u.op ≡ 7) earlier → indexes_behind (others ++ chunk ∷ earlier) (length others) ≡ earlier
behind_last others chunk earlier indexes =
    ap (take_while is_index) (drop_seam others chunk earlier) ∙ ap (take_while is_index) (sym (append-nil earlier))
    ∙ take_while_front is_index earlier [] (λ n u at. eq-eqb u.op 7 (indexes n u at)) (λ x at. absurd (at_none 0 x at))

behind_short : (tops : List Top) (n : ℕ) → n < length tops → suc n + length (indexes_behind tops n) ≤ length tops
behind_short tops n within = let short = while_short is_index (drop (suc n) tops) in omega (arith, short, length-drop (suc n) tops, within)

offset_front : (tops : List Top) (t : Top) (n : ℕ) → n ≤ length tops → offset_of (tops ++ t ∷ []) n ≡ offset_of tops n
offset_front tops t n within = ap offset_behind (take-append-le n tops (t ∷ []) within)

-- ---- notes that stay

indexes_stay : (tops : List Top) (t : Top) (n : ℕ) (notes : List IndexNote) → n < length tops → indexes_behind (tops ++ t ∷ []) n ≡ indexes_behind tops n → NotesIndexes tops n notes → NotesIndexes (tops ++ t ∷ []) n notes
indexes_stay tops t n notes within same are = record {
  paired = are.paired ∙ ap length (sym same);
  noted = λ p note u at there.
      let old = subst (λ (l : List Top). At l p u) same there in
      let was = are.noted p note u at old in
      let inside = at_within (indexes_behind tops n) p u old in
      let short = behind_short tops n within in
      record { shown = was.shown; is = was.is; there = was.there ∙ sym (offset_front tops t (suc n + p) (omega (arith, inside, short))); counted = was.counted };
}

chunk_stays : (tops : List Top) (t : Top) (n : ℕ) (u : Top) (note : ChunkNote) → n < length tops → indexes_behind (tops ++ t ∷ []) n ≡ indexes_behind tops n → NotesChunk tops n u note → NotesChunk (tops ++ t ∷ []) n u note
chunk_stays tops t n u note within same was = record {
  shown = was.shown;
  is = was.is;
  plain = was.plain;
  size = was.size;
  start = was.start;
  end = was.end;
  records = was.records;
  uncompressed = was.uncompressed;
  indexes = indexes_stay tops t n note.indexes.items within same was.indexes;
  indexes_size = was.indexes_size ∙ ap (λ (l : List Top). length (spelled l)) (sym same);
  heard = was.heard;
}

-- ---- a chunk more

abbrev IsSix : Top → Type 0
IsSix t = t.op ≡ 6

pub chunks_more : (tops : List Top) (t : Top) (offset : ℕ) (note : ChunkNote) (kept new : Chunks) → ChunksOf tops kept → offset ≡ offset_behind tops → t.op ≡ 6 → NotesChunk (tops ++ t ∷ []) (length tops) t note
    → new.spots ≡ kept.spots ++ spot offset false ∷ [] → new.notes.items ≡ kept.notes.items ++ note ∷ [] → ChunksOf (tops ++ t ∷ []) new
chunks_more tops t offset note kept new are there six notes spots_are notes_are = record {
  spots = subst (SpotsOf IsSix (tops ++ t ∷ [])) (sym spots_are) (spots_more IsSix tops t offset kept.spots are.spots six there);
  notes = subst (λ (l : List Spot). NotesOf (NotesChunk (tops ++ t ∷ [])) (tops ++ t ∷ []) l new.notes.items) (sym spots_are)
      (subst (NotesOf (NotesChunk (tops ++ t ∷ [])) (tops ++ t ∷ []) (kept.spots ++ spot offset false ∷ [])) (sym notes_are)
      (notes_more (NotesChunk tops) (NotesChunk (tops ++ t ∷ [])) IsSix tops t offset note kept.spots kept.notes.items are.spots are.notes there
      (λ n u x at old. let within = at_within tops n u at in chunk_stays tops t n u x within (behind_other tops t n within (λ seven. omega (arith, six, seven))) old) notes));
}

-- behind a new chunk stands nothing
pub none_behind : (tops : List Top) (t : Top) → indexes_behind (tops ++ t ∷ []) (length tops) ≡ []
none_behind tops t = behind_last tops t [] (λ n u at. absurd (at_none n u at))

pub no_indexes : (tops : List Top) (t : Top) → NotesIndexes (tops ++ t ∷ []) (length tops) []
no_indexes tops t = record {
  paired = ap length (sym (none_behind tops t));
  noted = λ p note u at there. absurd (at_none p note at);
}

-- ---- another record, that is no Message Index

pub chunks_other : (tops : List Top) (t : Top) (kept : Chunks) → ChunksOf tops kept → (t.op ≡ 6 → ⊥) → (t.op ≡ 7 → ⊥) → ChunksOf (tops ++ t ∷ []) kept
chunks_other tops t kept are six seven = record {
  spots = spots_other IsSix tops t kept.spots are.spots six;
  notes = notes_other (NotesChunk tops) (NotesChunk (tops ++ t ∷ [])) IsSix tops t kept.spots kept.notes.items are.spots are.notes
      (λ n u x at old. let within = at_within tops n u at in chunk_stays tops t n u x within (behind_other tops t n within seven) old);
}

pub empty_notes : (tops : List Top) (t : Top) (notes : List IndexNote) → notes ≡ [] → NotesIndexes (tops ++ t ∷ []) (length tops) notes
empty_notes tops t notes none = subst (NotesIndexes (tops ++ t ∷ []) (length tops)) (sym none) (no_indexes tops t)

-- ---- a Message Index more

-- the note of the last chunk is the last one
last_note : (tops : List Top) (kept : Chunks) (e : EndsWithChunk tops) → ChunksOf tops kept → (k : ℕ) (s : Spot) → At kept.spots k s → s.offset ≡ offset_of tops (length e.others) → suc k ≡ length kept.spots
last_note tops kept e are k s at own = elim (cases_lt (suc k) (length kept.spots)) [
  | inl more ↦ absurd (later (there kept.spots (suc k) more))
  | inr past ↦ let within = at_within kept.spots k s at in omega (arith, within, past)
]
  where
    there : (xs : List Spot) (n : ℕ) → n < length xs → (r : Spot) × At xs n r
    there [] n within = absurd (omega (arith, within))
    there (x ∷ xs) zero within = (x, refl)
    there (x ∷ xs) (suc n) within = there xs n (omega (arith, within))

    chunk_there : At tops (length e.others) e.chunk
    chunk_there = subst (λ (l : List Top). At l (length e.others) e.chunk) (sym e.joined) (at_last e.others e.chunk e.earlier)

    later : (r : Spot) × At kept.spots (suc k) r → ⊥
    later (r, at_r) =
        let spots = are.spots in
        let up = pairs_at (λ (a b : Spot). a.offset < b.offset) kept.spots spots.rises k (suc k) s r (omega arith) at at_r in
        let (n, u, at_u, six, its) = spots.shown (suc k) r at_r in
        elim (cases_lt (length e.others) n) [
          | inl behind ↦ index_behind n u behind (subst (λ (l : List Top). At l n u) e.joined at_u) six
          | inr front ↦ elim (cases_lt n (length e.others)) [
            | inl before ↦ let less = offsets_rise tops n (length e.others) u e.chunk at_u chunk_there before in omega (arith, less, up, own, its)
            | inr upto ↦
                let same : n ≡ length e.others = omega (arith, front, upto) in
                let equal = ap (offset_of tops) same in
                omega (arith, equal, up, own, its)
          ]
        ]
      where
        index_behind : (n : ℕ) (u : Top) → length e.others < n → At (e.others ++ e.chunk ∷ e.earlier) n u → u.op ≡ 6 → ⊥
        index_behind n u behind at_u six = elim (at_either e.others (e.chunk ∷ e.earlier) n u at_u) [
          | inl first ↦ let within = at_within e.others n u first in omega (arith, within, behind)
          | inr (j, is, second) ↦ by j is second
        ]
          where
            by : (j : ℕ) → n ≡ length e.others + j → At (e.chunk ∷ e.earlier) j u → ⊥
            by zero is second = omega (arith, is, behind)
            by (suc j) is second = let seven = e.indexes j u second in omega (arith, seven, six)

-- the last chunk with one Message Index more
index_added : (tops : List Top) (t : Top) (u : Top) (e : EndsWithChunk tops) (old new : ChunkNote) (note : IndexNote) (entries : List (ℕ × ℕ)) (size : ℕ) → NotesChunk tops (length e.others) u old → AddsIndex old new note size
    → t.op ≡ 7 → IsMessageIndex t note.channel entries → note.entries ≡ length entries → note.offset ≡ offset_behind tops → size ≡ length (top_bytes t) → note.offset + size < 2 ^ 64 → NotesChunk (tops ++ t ∷ []) (length e.others) u new
index_added tops t u e old new note entries size was adds seven is counted there sized fits = record {
  shown = was.shown;
  is = was.is;
  plain = was.plain;
  size = adds.length ∙ was.size;
  start = adds.start ∙ was.start;
  end = adds.end ∙ was.end;
  records = adds.records ∙ was.records;
  uncompressed = adds.records ∙ was.uncompressed;
  heard = subst (λ (b : Bool). (b ≡ true) ↔ HasMessage (inner_tops u)) (sym adds.messages) was.heard;
  indexes = subst (NotesIndexes (tops ++ t ∷ []) (length e.others)) (sym adds.indexes) (record {
    paired = omega (arith, length-append old.indexes.items (note ∷ []), length-append e.earlier (t ∷ []), ap length now_are, ap length were, (let indexes = was.indexes in indexes.paired));
    noted = λ p x v at_x at_v. elim (at_more e.earlier t p v (subst (λ (l : List Top). At l p v) now_are at_v)) [
      | inl before ↦ elim (at_more old.indexes.items note p x at_x) [
        | inl noted ↦
            let had = was.indexes.noted p x v noted (subst (λ (l : List Top). At l p v) (sym were) before) in
            let inside = at_within e.earlier p v before in
            record { shown = had.shown; is = had.is; there = had.there ∙ sym (offset_front tops t (suc (length e.others) + p) (omega (arith, inside, long))); counted = had.counted }
        | inr (last, _) ↦ let inside = at_within e.earlier p v before in absurd (omega (arith, inside, last, ap length were, (let indexes = was.indexes in indexes.paired)))
      ]
      | inr (end, same) ↦ elim (at_more old.indexes.items note p x at_x) [
        | inl noted ↦ let inside = at_within old.indexes.items p x noted in absurd (omega (arith, inside, end, ap length were, (let indexes = was.indexes in indexes.paired)))
        | inr (_, same_note) ↦ record {
          shown = entries;
          is = subst (λ (i : IndexNote). IsMessageIndex v i.channel entries) (sym same_note) (subst (λ (w : Top). IsMessageIndex w note.channel entries) (sym same) is);
          there = ap (λ (i : IndexNote). i.offset) same_note ∙ there ∙ sym (ap (offset_of (tops ++ t ∷ [])) (place p end) ∙ ap offset_behind (take-append_seam tops (t ∷ [])));
          counted = ap (λ (i : IndexNote). i.entries) same_note ∙ counted;
        }
      ]
    ];
  });
  indexes_size =
      let had = was.indexes_size in
      let together = adds.together in
      omega (arith, had, together, sized, fits, there, ap (λ (l : List Top). length (spelled l)) were, ap (λ (l : List Top). length (spelled l)) now_are, spelled_more, spelled_all);
}
  where
    were : indexes_behind tops (length e.others) ≡ e.earlier
    were = ap (λ (l : List Top). indexes_behind l (length e.others)) e.joined ∙ behind_last e.others e.chunk e.earlier e.indexes

    joined : tops ++ t ∷ [] ≡ e.others ++ e.chunk ∷ (e.earlier ++ t ∷ [])
    joined = ap (λ (l : List Top). l ++ t ∷ []) e.joined ∙ append_assoc e.others (e.chunk ∷ e.earlier) (t ∷ [])

    each : Each (λ u. u.op ≡ 7) (e.earlier ++ t ∷ [])
    each n v at = elim (at_more e.earlier t n v at) [
      | inl before ↦ e.indexes n v before
      | inr (_, same) ↦ ap (λ (w : Top). w.op) same ∙ seven
    ]

    now_are : indexes_behind (tops ++ t ∷ []) (length e.others) ≡ e.earlier ++ t ∷ []
    now_are = ap (λ (l : List Top). indexes_behind l (length e.others)) joined ∙ behind_last e.others e.chunk (e.earlier ++ t ∷ []) each

    long : length tops ≡ length e.others + suc (length e.earlier)
    long = ap length e.joined ∙ length-append e.others (e.chunk ∷ e.earlier)

    place : (p : ℕ) → p ≡ length e.earlier → suc (length e.others) + p ≡ length tops
    place p end = omega (arith, end, long)

    spelled_more : length (spelled (e.earlier ++ t ∷ [])) ≡ length (spelled e.earlier) + length (top_bytes t)
    spelled_more = let parts = ap length (flat_map-append top_bytes e.earlier (t ∷ [])) in omega (arith, parts, length-append (spelled e.earlier) (top_bytes t ++ []), length-append (top_bytes t) [])

    spelled_all : length (spelled e.earlier) ≤ length (spelled tops)
    spelled_all =
        let all = ap (λ (l : List Top). length (spelled l)) e.joined in
        let parts = ap length (flat_map-append top_bytes e.others (e.chunk ∷ e.earlier)) in
        omega (arith, all, parts, length-append (spelled e.others) (top_bytes e.chunk ++ spelled e.earlier), length-append (top_bytes e.chunk) (spelled e.earlier))

-- there is a note, where records end with a chunk
pub none_kept : (tops : List Top) (kept : Chunks) → ChunksOf tops kept → EndsWithChunk tops → length kept.notes.items ≡ 0 → ⊥
none_kept tops kept are e none =
    let cover = are.spots.covers (length e.others) e.chunk (subst (λ (l : List Top). At l (length e.others) e.chunk) (sym e.joined) (at_last e.others e.chunk e.earlier)) e.kind in
    let within = at_within kept.spots cover.0 cover.1 cover.2 in
    omega (arith, within, are.notes.paired, none)

pub index_more : (tops : List Top) (t : Top) (place : ℕ) (old new_note : ChunkNote) (note : IndexNote) (entries : List (ℕ × ℕ)) (size : ℕ) (kept new : Chunks) → ChunksOf tops kept → EndsWithChunk tops → At kept.notes.items place old → suc place ≡ length kept.notes.items
    → AddsIndex old new_note note size → IsMessageIndex t note.channel entries → note.entries ≡ length entries → note.offset ≡ offset_behind tops → size ≡ length (top_bytes t) → note.offset + size < 2 ^ 64
    → new.spots ≡ kept.spots → new.notes.items ≡ set kept.notes.items place new_note → ChunksOf (tops ++ t ∷ []) new
index_more tops t place old new_note note entries size kept new are e at_old end adds is counted there sized fits spots_are notes_are = record {
  spots = subst (SpotsOf IsSix (tops ++ t ∷ [])) (sym spots_are) (spots_other IsSix tops t kept.spots are.spots (λ six. omega (arith, six, is.kind)));
  notes = subst (λ (l : List Spot). NotesOf (NotesChunk (tops ++ t ∷ [])) (tops ++ t ∷ []) l new.notes.items) (sym spots_are)
      (subst (NotesOf (NotesChunk (tops ++ t ∷ [])) (tops ++ t ∷ []) kept.spots) (sym notes_are) changed);
}
  where
    changed : NotesOf (NotesChunk (tops ++ t ∷ [])) (tops ++ t ∷ []) kept.spots (set kept.notes.items place new_note)
    changed = record {
      paired = length-set kept.notes.items place new_note ∙ (let notes = are.notes in notes.paired);
      noted = λ k n s x u at_s at_x at_u own.
          let back = old_place IsSix tops t u kept.spots k n s are.spots at_s at_u own in
          elim (at_set kept.notes.items place k x new_note at_x) [
            | inl (here, same) ↦
                let was = are.notes.noted k n s old u at_s (subst (λ (m : ℕ). At kept.notes.items m old) (sym here) at_old) back.0 back.1 in
                let last = last_place n u (was.is.kind) back.0 k s at_s back.1 here in
                subst (NotesChunk (tops ++ t ∷ []) n u) (sym same)
                (subst (λ (m : ℕ). NotesChunk (tops ++ t ∷ []) m u new_note) (sym last)
                (index_added tops t u e old new_note note entries size (subst (λ (m : ℕ). NotesChunk tops m u old) last was) adds is.kind is counted there sized fits))
            | inr (apart, before) ↦
                let was = are.notes.noted k n s x u at_s before back.0 back.1 in
                let within = at_within tops n u back.0 in
                chunk_stays tops t n u x within (behind_earlier tops t n e (earlier n u (was.is.kind) back.0 k s at_s back.1 apart)) was
          ];
    }
      where
        chunk_there : At tops (length e.others) e.chunk
        chunk_there = subst (λ (l : List Top). At l (length e.others) e.chunk) (sym e.joined) (at_last e.others e.chunk e.earlier)

        -- the chunk at that place is no later than the last one
        no_later : (n : ℕ) (u : Top) → u.op ≡ 6 → At tops n u → n ≤ length e.others
        no_later n u six at = elim (cases_lt (length e.others) n) [
          | inl behind ↦ elim (at_either e.others (e.chunk ∷ e.earlier) n u (subst (λ (l : List Top). At l n u) e.joined at)) [
            | inl first ↦ let within = at_within e.others n u first in absurd (omega (arith, within, behind))
            | inr (j, there_j, second) ↦ absurd (by j there_j second behind)
          ]
          | inr front ↦ front
        ]
          where
            by : (j : ℕ) → n ≡ length e.others + j → At (e.chunk ∷ e.earlier) j u → length e.others < n → ⊥
            by zero there_j second behind = omega (arith, there_j, behind)
            by (suc j) there_j second behind = let seven = e.indexes j u second in omega (arith, seven, six)

        last_place : (n : ℕ) (u : Top) → u.op ≡ 6 → At tops n u → (k : ℕ) (s : Spot) → At kept.spots k s → s.offset ≡ offset_of tops n → k ≡ place → n ≡ length e.others
        last_place n u six at k s at_s own here =
            let spots = are.spots in
            let (j, r, at_r, its) = spots.covers (length e.others) e.chunk chunk_there e.kind in
            let end_spot = last_note tops kept e are j r at_r its in
            let notes = are.notes in
            let same : j ≡ k = omega (arith, end_spot, end, here, notes.paired) in
            let one = at_one kept.spots k s r at_s (subst (λ (m : ℕ). At kept.spots m r) same at_r) in
            one_place tops n (length e.others) u e.chunk at chunk_there (sym own ∙ ap (λ (x : Spot). x.offset) one ∙ its)

        earlier : (n : ℕ) (u : Top) → u.op ≡ 6 → At tops n u → (k : ℕ) (s : Spot) → At kept.spots k s → s.offset ≡ offset_of tops n → (k ≡ place → ⊥) → n < length e.others
        earlier n u six at k s at_s own apart = elim (cases_lt n (length e.others)) [
          | inl before ↦ before
          | inr past ↦
              let upto = no_later n u six at in
              let same : n ≡ length e.others = omega (arith, upto, past) in
              let end_spot = last_note tops kept e are k s at_s (own ∙ ap (offset_of tops) same) in
              let notes = are.notes in
              absurd (apart (omega (arith, end_spot, end, notes.paired)))
        ]
