-- V9 with one record more.
use Rattle.std.proofs.Common.{◌≡◌, ◌⊎◌, ℕ, zero, suc, ◌+◌, ◌<◌, ◌≤◌, Bool, true, false, List, [], ◌∷◌, ◌++◌, length, take, drop, cond, refl, sym, ap, subst, inl, inr, ◌∙◌, append_assoc, arith}
use Rattle.std.specs.Prelude.{take_while}
use Rattle.std.proofs.lemmas.Bool.{cases_lt, eq-eqb, eqb-true}
use Rattle.std.proofs.lemmas.List.{append-nil, length-append, length-drop, take-append-le, drop-append-le}
use Rattle.std.proofs.lemmas.List.Sums.{take_while-cons}
use Rattle.std.proofs.lemmas.Option.{same_Some}
use Rattle.std.proofs.Math.Seq.{take-append_seam}
use Rattle.rec_index.specs.Records.{ShowsMessageIndex}
use Rattle.mcap_model.specs.Places.{At, Has, Each}
use Rattle.mcap_model.specs.Tops.{Top, offset_behind, inner_tops, records_in}
use Rattle.mcap_model.specs.Fields.{MessageFields, IsMessage, ChunkFields, IsChunk, IsMessageIndex}
use Rattle.mcap_model.specs.Made.{top}
use Rattle.mcap_model.specs.Whole.{is_index, indexes_behind, BelongsTo, IsIndexed, IsFollowed, V9}
use Rattle.mcap_model.specs.Valid.{Keeps}
use Rattle.mcap_model.proofs.Places.{at_none, at_within, at_kept, at_last, at_more, has_kept, has_last, last_apart}
use Rattle.mcap_model.proofs.Lists.{each_cons, each_joined, take_while_front}
use Rattle.mcap_model.proofs.Unpacking.{chunks_are_opened}
use Rattle.mcap_scan.specs.declared.message_heads.MessageHead.{MessageHead}
use Rattle.index_check.specs.Behind.{IsChunkOpen}
use Rattle.index_check.specs.Chunks.{EndsWithChunk}
use Rattle.index_check.specs.Messages.{HoldsMessages}
use Rattle.index_check.proofs.Followers.{as_index, behind_open}
use Rattle.index_check.proofs.Spotted.{offset_last}
use Rattle.file_check.specs.declared.last_chunk.LastChunk.{LastChunk}
use Rattle.file_check.specs.LastChunk.{LastOf}
use Rattle.file_check.specs.CutFiles.{IndexFails}

-- ---- lists

-- something stands behind the elements that pass the test
while_done : {X : Type 0} (test : X → Bool) (xs ys : List X) → length (take_while test xs) < length xs → take_while test (xs ++ ys) ≡ take_while test xs
while_done test [] ys less = absurd (omega (arith, less))
while_done {X} test (x ∷ xs) ys less = by (test x) refl (while_done test xs ys)
  where
    by : (b : Bool) → test x ≡ b → (length (take_while test xs) < length xs → take_while test (xs ++ ys) ≡ take_while test xs) → take_while test (x ∷ (xs ++ ys)) ≡ take_while test (x ∷ xs)
    by true is rest =
        let size = ap length (take_while-cons test x xs ∙ ap (λ (c : Bool). cond c (x ∷ take_while test xs) []) is) in
        take_while-cons test x (xs ++ ys) ∙ ap (λ (l : List X). cond (test x) (x ∷ l) []) (rest (omega (arith, size, less))) ∙ sym (take_while-cons test x xs)
    by false is rest =
        take_while-cons test x (xs ++ ys) ∙ ap (λ (c : Bool). cond c (x ∷ take_while test (xs ++ ys)) []) is
        ∙ sym (take_while-cons test x xs ∙ ap (λ (c : Bool). cond c (x ∷ take_while test xs) []) is)

-- nothing does
while_whole : {X : Type 0} (test : X → Bool) (xs : List X) → length xs ≤ length (take_while test xs) → Each (λ x. test x ≡ true) xs
while_whole test [] all = λ n x at. absurd (at_none n x at)
while_whole {X} test (x ∷ xs) all = by (test x) refl (while_whole test xs)
  where
    by : (b : Bool) → test x ≡ b → (length xs ≤ length (take_while test xs) → Each (λ y. test y ≡ true) xs) → Each (λ y. test y ≡ true) (x ∷ xs)
    by true is rest =
        let size = ap length (take_while-cons test x xs ∙ ap (λ (c : Bool). cond c (x ∷ take_while test xs) []) is) in
        each_cons (λ y. test y ≡ true) x xs is (rest (omega (arith, size, all)))
    by false is rest =
        let size = ap length (take_while-cons test x xs ∙ ap (λ (c : Bool). cond c (x ∷ take_while test xs) []) is) in
        absurd (omega (arith, size, all))

cut_drop : (tops : List Top) (n : ℕ) (t : Top) → At tops n t → tops ≡ take n tops ++ t ∷ drop (suc n) tops
cut_drop [] n t at = absurd (at_none n t at)
cut_drop (x ∷ xs) zero t at = ap (λ (u : Top). u ∷ xs) (same_Some x t at)
cut_drop (x ∷ xs) (suc n) t at = ap (λ (l : List Top). x ∷ l) (cut_drop xs n t at)

-- ---- what stands behind a chunk stays, or grows

followed_stays : (tops more : List Top) (n : ℕ) → IsFollowed tops n → indexes_behind (tops ++ more) n ≡ indexes_behind tops n
followed_stays tops more n followed =
    ap (take_while is_index) (drop-append-le (suc n) tops more (omega (arith, followed)))
    ∙ while_done is_index (drop (suc n) tops) more (omega (arith, followed, length-drop (suc n) tops))

unfollowed : (tops : List Top) (n : ℕ) → (IsFollowed tops n → ⊥) → Each (λ u. u.op ≡ 7) (drop (suc n) tops)
unfollowed tops n not = elim (cases_lt (suc n + length (indexes_behind tops n)) (length tops)) [
  | inl followed ↦ absurd (not followed)
  | inr all ↦ λ k u at. eqb-true u.op 7 (while_whole is_index (drop (suc n) tops) (omega (arith, all, length-drop (suc n) tops)) k u at)
]

-- behind one more Message Index still nothing follows
still_unfollowed : (tops : List Top) (t : Top) (n : ℕ) → n < length tops → t.op ≡ 7 → (IsFollowed tops n → ⊥) → IsFollowed (tops ++ t ∷ []) n → ⊥
still_unfollowed tops t n within seven not followed =
    let behind = drop (suc n) tops in
    let each : Each (λ u. is_index u ≡ true) (behind ++ t ∷ []) =
    each_joined (λ u. is_index u ≡ true) behind (t ∷ []) (λ k u at. eq-eqb u.op 7 (unfollowed tops n not k u at)) (each_cons (λ u. is_index u ≡ true) t [] (eq-eqb t.op 7 seven) (λ k u at. absurd (at_none k u at))) in
    let all : indexes_behind (tops ++ t ∷ []) n ≡ behind ++ t ∷ [] =
    ap (take_while is_index) (drop-append-le (suc n) tops (t ∷ []) (omega (arith, within))) ∙ ap (take_while is_index) (sym (append-nil (behind ++ t ∷ [])))
    ∙ take_while_front is_index (behind ++ t ∷ []) [] each (λ x at. absurd (at_none 0 x at)) in
    let size = ap length all in
    omega (arith, followed, size, within, length-append behind (t ∷ []), length-append tops (t ∷ []), length-drop (suc n) tops)

abbrev IndexedBy : List Top → Top → Type 0
IndexedBy indexes t = (indexes ≡ [])
    ⊎ ((j channel : ℕ) (u : Top) (m : MessageFields) → At (inner_tops t) j u → IsMessage u channel m
    → (k : ℕ) × (i : Top) × (entries : List (ℕ × ℕ)) × At indexes k i × IsMessageIndex i channel entries)

indexed_stays : (tops more : List Top) (n : ℕ) (t : Top) → IsFollowed tops n → IsIndexed tops n t → IsIndexed (tops ++ more) n t
indexed_stays tops more n t followed was = subst (λ (l : List Top). IndexedBy l t) (sym (followed_stays tops more n followed)) was

-- ---- V9

keeps_more : (tops : List Top) (t : Top) → Keeps V9 tops → (t.op ≡ 7 → BelongsTo tops t)
    → ((n : ℕ) (u : Top) → At tops n u → u.op ≡ 6 → (IsFollowed tops n → ⊥) → IsFollowed (tops ++ t ∷ []) n → IsIndexed (tops ++ t ∷ []) n u) → Keeps V9 (tops ++ t ∷ [])
keeps_more tops t keeps belongs closes n u at = elim (at_more tops t n u at) [
  | inl old ↦
      let was = keeps n u old in
      let within = at_within tops n u old in (
        λ seven. subst (λ (l : List Top). BelongsTo l u) (sym (take-append-le n tops (t ∷ []) (omega (arith, within)))) (was.0 seven),
        λ six followed. elim (cases_lt (suc n + length (indexes_behind tops n)) (length tops)) [
          | inl before ↦ indexed_stays tops (t ∷ []) n u before (was.1 six before)
          | inr past ↦ closes n u old six (λ before. omega (arith, before, past)) followed
        ],
      )
  | inr (last, same) ↦
      let front : take n (tops ++ t ∷ []) ≡ tops = ap (λ (m : ℕ). take m (tops ++ t ∷ [])) last ∙ take-append_seam tops (t ∷ []) in (
        λ seven. subst (λ (l : List Top). BelongsTo l u) (sym front) (subst (BelongsTo tops) (sym same) (belongs (sym (ap (λ (x : Top). x.op) same) ∙ seven))),
        λ six followed. absurd (omega (arith, followed, last, length-append tops (t ∷ []))),
      )
]

pub keeps_index : (tops : List Top) (t : Top) → Keeps V9 tops → t.op ≡ 7 → BelongsTo tops t → Keeps V9 (tops ++ t ∷ [])
keeps_index tops t keeps seven belongs = keeps_more tops t keeps (λ e. belongs)
    (λ n u at six not followed. absurd (still_unfollowed tops t n (at_within tops n u at) seven not followed))

-- another record behind none
pub keeps_apart : (tops : List Top) (t : Top) → Keeps V9 tops → (t.op ≡ 7 → ⊥) → (EndsWithChunk tops → ⊥) → Keeps V9 (tops ++ t ∷ [])
keeps_apart tops t keeps other none = keeps_more tops t keeps (λ e. absurd (other e))
    (λ n u at six not followed. absurd (none (record { others = take n tops; chunk = u; earlier = drop (suc n) tops; joined = cut_drop tops n u at; kind = six; indexes = unfollowed tops n not })))

-- another record behind the last chunk and its Message Indexes
pub keeps_closed : (tops : List Top) (t : Top) (messages : List MessageHead) (channels : List ℕ) (o : IsChunkOpen tops messages channels) → Keeps V9 tops → (t.op ≡ 7 → ⊥) → IsIndexed (tops ++ t ∷ []) (length o.others) o.chunk → Keeps V9 (tops ++ t ∷ [])
keeps_closed tops t messages channels o keeps other indexed = keeps_more tops t keeps (λ e. absurd (other e)) (λ n u at six not followed.
    let own = o.kind in
    let cut = cut_drop tops n u at in
    let within = at_within tops n u at in
    let same = last_apart (λ (v : Top). v.op ≡ 7) o.others (take n tops) o.chunk u o.earlier (drop (suc n) tops) (sym o.joined ∙ cut) (λ e. omega (arith, own, e)) (λ e. omega (arith, six, e)) o.indexes (unfollowed tops n not) in
    let place : length o.others ≡ n = omega (arith, within, ap length o.joined, length-append o.others (o.chunk ∷ o.earlier), ap length same.1, length-drop (suc n) tops) in
    subst (λ (m : ℕ). IsIndexed (tops ++ t ∷ []) m u) place (subst (IsIndexed (tops ++ t ∷ []) (length o.others)) same.0 indexed))

-- ---- V9 fails

pub fails_closed : (tops more : List Top) (t : Top) (messages : List MessageHead) (channels : List ℕ) (o : IsChunkOpen tops messages channels) → (t.op ≡ 7 → ⊥) → (IsIndexed (tops ++ t ∷ more) (length o.others) o.chunk → ⊥) → IndexFails (tops ++ t ∷ more) (offset_behind o.others)
fails_closed tops more t messages channels o other lacks = record {
  place = length o.others;
  top = o.chunk;
  at = at_kept tops (t ∷ more) (length o.others) o.chunk (subst (λ (l : List Top). At l (length o.others) o.chunk) (sym o.joined) (at_last o.others o.chunk o.earlier));
  there = ap offset_behind (sym front);
  breaks = λ v9. lacks (v9.1 o.kind followed);
}
  where
    front : take (length o.others) (tops ++ t ∷ more) ≡ o.others
    front =
        ap (λ (l : List Top). take (length o.others) (l ++ t ∷ more)) o.joined
        ∙ ap (take (length o.others)) (append_assoc o.others (o.chunk ∷ o.earlier) (t ∷ more))
        ∙ take-append_seam o.others (o.chunk ∷ (o.earlier ++ t ∷ more))

    followed : IsFollowed (tops ++ t ∷ more) (length o.others)
    followed =
        let behind = ap length (behind_open tops more t messages channels o other) in
        let long = ap length o.joined in
        omega (arith, behind, long, length-append o.others (o.chunk ∷ o.earlier), length-append tops (t ∷ more))

pub fails_index : (tops more : List Top) (t : Top) → t.op ≡ 7 → (BelongsTo tops t → ⊥) → IndexFails (tops ++ t ∷ more) (offset_behind tops)
fails_index tops more t seven lacks = record {
  place = length tops;
  top = t;
  at = at_last tops t more;
  there = sym (offset_last tops (t ∷ more));
  breaks = λ v9. lacks (subst (λ (l : List Top). BelongsTo l t) (take-append_seam tops (t ∷ more)) (v9.0 seven));
}

-- ---- a Message Index that belongs there stands behind a chunk

-- each Message Index among the records belongs where it stands
abbrev AllBelong : List Top → Type 0
AllBelong tops = (n : ℕ) (u : Top) → At tops n u → u.op ≡ 7 → BelongsTo (take n tops) u

front_belong : (tops front : List Top) (t : Top) → tops ≡ front ++ t ∷ [] → AllBelong tops → AllBelong front
front_belong tops front t joined all n u at seven =
    let within = at_within front n u at in
    subst (λ (l : List Top). BelongsTo l u) (ap (take n) joined ∙ take-append-le n front (t ∷ []) (omega (arith, within)))
    (all n u (subst (λ (l : List Top). At l n u) (sym joined) (at_kept front (t ∷ []) n u at)) seven)

last_belongs : (tops front : List Top) (t : Top) → tops ≡ front ++ t ∷ [] → AllBelong tops → t.op ≡ 7 → BelongsTo front t
last_belongs tops front t joined all seven =
    subst (λ (l : List Top). BelongsTo l t) (ap (take (length front)) joined ∙ take-append_seam front (t ∷ []))
    (all (length front) t (subst (λ (l : List Top). At l (length front) t) (sym joined) (at_last front t [])) seven)

ends_longer : (tops front : List Top) (t : Top) → tops ≡ front ++ t ∷ [] → t.op ≡ 7 → EndsWithChunk front → EndsWithChunk tops
ends_longer tops front t joined seven e = record {
  others = e.others;
  chunk = e.chunk;
  earlier = e.earlier ++ t ∷ [];
  joined = joined ∙ ap (λ (l : List Top). l ++ t ∷ []) e.joined ∙ append_assoc e.others (e.chunk ∷ e.earlier) (t ∷ []);
  kind = e.kind;
  indexes = each_joined (λ u. u.op ≡ 7) e.earlier (t ∷ []) e.indexes (each_cons (λ u. u.op ≡ 7) t [] seven (λ n u at. absurd (at_none n u at)));
}

ends_chunk : (fuel : ℕ) (tops : List Top) (t : Top) → length tops ≤ fuel → AllBelong tops → BelongsTo tops t → EndsWithChunk tops
ends_chunk zero tops t few all belongs = absurd (omega (arith, few, ap length belongs.follows, length-append belongs.front (belongs.neighbour ∷ [])))
ends_chunk (suc fuel) tops t few all belongs = elim belongs.is [
  | inl six ↦ record { others = belongs.front; chunk = belongs.neighbour; earlier = []; joined = belongs.follows; kind = six; indexes = λ n u at. absurd (at_none n u at) }
  | inr seven ↦
      ends_longer tops belongs.front belongs.neighbour belongs.follows seven
      (ends_chunk fuel belongs.front belongs.neighbour (omega (arith, few, ap length belongs.follows, length-append belongs.front (belongs.neighbour ∷ [])))
      (front_belong tops belongs.front belongs.neighbour belongs.follows all) (last_belongs tops belongs.front belongs.neighbour belongs.follows all seven))
]

pub ends_behind : (tops : List Top) (t : Top) → Keeps V9 tops → BelongsTo tops t → EndsWithChunk tops
ends_behind tops t keeps belongs = ends_chunk (length tops) tops t (omega arith) (λ n u at seven. (keeps n u at).0 seven) belongs

pub ends_last : (tops : List Top) (t : Top) → Keeps V9 tops → Keeps V9 (tops ++ t ∷ []) → t.op ≡ 7 → EndsWithChunk tops
ends_last tops t keeps more seven =
    ends_behind tops t keeps (subst (λ (l : List Top). BelongsTo l t) (take-append_seam tops (t ∷ [])) ((more (length tops) t (at_last tops t [])).0 seven))

-- ---- the chunk that is kept

pub ends_none : EndsWithChunk [] → ⊥
ends_none e = omega (arith, ap length e.joined, length-append e.others (e.chunk ∷ e.earlier))

pub ends_other : (tops : List Top) (t : Top) → (t.op ≡ 6 → ⊥) → (t.op ≡ 7 → ⊥) → EndsWithChunk (tops ++ t ∷ []) → ⊥
ends_other tops t six seven e =
    let kind = e.kind in
    let same = last_apart (λ (u : Top). u.op ≡ 7) tops e.others t e.chunk [] e.earlier e.joined seven (λ is. omega (arith, is, kind)) (λ n u at. absurd (at_none n u at)) e.indexes in
    six (ap (λ (u : Top). u.op) same.0 ∙ kind)

pub ends_open : (tops : List Top) (messages : List MessageHead) (channels : List ℕ) → IsChunkOpen tops messages channels → EndsWithChunk tops
ends_open tops messages channels o = record { others = o.others; chunk = o.chunk; earlier = o.earlier; joined = o.joined; kind = o.kind; indexes = o.indexes }

-- where the last record is a chunk, its Messages are held
pub open_last : (tops : List Top) (t : Top) (last : LastChunk) → LastOf (tops ++ t ∷ []) last → t.op ≡ 6 → HoldsMessages (inner_tops t) last.messages
open_last tops t last of six = by last.is_open refl
  where
    by : (b : Bool) → last.is_open ≡ b → HoldsMessages (inner_tops t) last.messages
    by true opened =
        let kept = of.kept opened in
        let o = kept.is in
        let kind = o.kind in
        let same = last_apart (λ (u : Top). u.op ≡ 7) tops o.others t o.chunk [] o.earlier o.joined (λ e. omega (arith, e, six)) (λ e. omega (arith, e, kind)) (λ n u at. absurd (at_none n u at)) o.indexes in
        subst (λ (u : Top). HoldsMessages (inner_tops u) last.messages) (sym same.0) o.holds
    by false closed = absurd (of.none closed (record { others = tops; chunk = t; earlier = []; joined = refl; kind = six; indexes = λ n u at. absurd (at_none n u at) }))

pub open_chunk : (tops : List Top) (t : Top) (f : ChunkFields) (messages : List MessageHead) (channels : List ℕ) → IsChunk t f → HoldsMessages (records_in f.records) messages → channels ≡ [] → (o : IsChunkOpen (tops ++ t ∷ []) messages channels) × (o.others ≡ tops)
open_chunk tops t f messages channels is holds none = (
  record {
    others = tops;
    chunk = t;
    earlier = [];
    joined = refl;
    kind = is.kind;
    indexes = λ n u at. absurd (at_none n u at);
    holds = subst (λ (l : List Top). HoldsMessages l messages) (sym (ap records_in (chunks_are_opened t f is))) holds;
    shown = λ n u at. absurd (at_none n u at);
    named = λ channel has. absurd (at_none has.0 channel (subst (λ (l : List ℕ). At l has.0 channel) none has.1));
  },
  refl,
)

pub open_index : (tops : List Top) (messages : List MessageHead) (channels more content : List ℕ) (channel : ℕ) (entries : List (ℕ × ℕ)) → (o : IsChunkOpen tops messages channels) → ShowsMessageIndex content channel entries → more ≡ channels ++ channel ∷ []
    → (n : IsChunkOpen (tops ++ top 7 content ∷ []) messages more) × (n.others ≡ o.others)
open_index tops messages channels more content channel entries o shows same = (
  record {
    others = o.others;
    chunk = o.chunk;
    earlier = o.earlier ++ t ∷ [];
    joined = ap (λ (l : List Top). l ++ t ∷ []) o.joined ∙ append_assoc o.others (o.chunk ∷ o.earlier) (t ∷ []);
    kind = o.kind;
    indexes = each_joined (λ u. u.op ≡ 7) o.earlier (t ∷ []) o.indexes (each_cons (λ u. u.op ≡ 7) t [] refl (λ n u at. absurd (at_none n u at)));
    holds = o.holds;
    shown = λ n u at. elim (at_more o.earlier t n u at) [
      | inl old ↦
          let was = o.shown n u old in
          (was.0, was.1, was.2, subst (λ (l : List ℕ). Has l was.0) (sym same) (has_kept channels (channel ∷ []) was.0 was.3))
      | inr (_, is) ↦ (
        channel,
        entries,
        subst (λ (v : Top). IsMessageIndex v channel entries) (sym is) (as_index content channel entries shows),
        subst (λ (l : List ℕ). Has l channel) (sym same) (has_last channels channel []),
      )
    ];
    named = λ id has.
        let there = subst (λ (l : List ℕ). Has l id) same has in
        elim (at_more channels channel there.0 id there.1) [
          | inl old ↦ let was = o.named id (there.0, old) in (was.0, was.1, has_kept o.earlier (t ∷ []) was.0 was.2, was.3)
          | inr (_, is) ↦ (t, entries, has_last o.earlier t [], subst (λ (c : ℕ). IsMessageIndex t c entries) (sym is) (as_index content channel entries shows))
        ];
  },
  refl,
)
  where
    t : Top
    t = top 7 content
