-- The summary of a fully indexed file has as many Chunk Indexes as its data section has chunks.
use Rattle.std.proofs.Common.{◌≡◌, ℕ, zero, suc, ◌+◌, ◌≤◌, Bool, true, false, cond, eqb, List, [], ◌∷◌, ◌++◌, length, get_or, take, Some, refl, sym, ap, subst, inl, inr, ◌∙◌, arith}
use Rattle.std.specs.Prelude.{◌≢◌, ◌==◌, AllPairs, filter, if◌then◌else◌}
use Rattle.std.specs.List.{AllZip}
use Rattle.std.proofs.lemmas.Bool.{both_ways, eq-eqb, eqb-true}
use Rattle.std.proofs.lemmas.Bool.Decides.{Decides-eqb}
use Rattle.std.proofs.lemmas.List.{length-append}
use Rattle.std.proofs.lemmas.List.Folds.{list_any_at}
use Rattle.std.proofs.lemmas.List.Kept.{AllPairs-filter}
use Rattle.std.proofs.lemmas.Map.Made.{length-le_from_is_member, IsDistinct-from_AllPairs}
use Rattle.std.proofs.lemmas.Option.{same_Some}
use Rattle.std.proofs.lemmas.Slice.Zip.{AllZip-long}
use Rattle.std.specs.Cmp.{nat_eq_equiv}
use Rattle.mcap_model.specs.Places.{At, Has, Each}
use Rattle.mcap_model.specs.Tops.{Top, top_bytes, spelled, is_chunk, offset_behind}
use Rattle.mcap_model.specs.Fields.{ChunkIndexFields, IsChunkIndex, StatisticsFields, IsStatistics}
use Rattle.mcap_model.specs.Rules.{HasDataEnd}
use Rattle.mcap_model.specs.Whole.{count_of, stands_in_summary, IsSection, IsDataSection}
use Rattle.mcap_model.specs.Valid.{Valid, HasIndex, FullyIndexed}
use Rattle.mcap_model.proofs.Places.{at_none, at_within, at_read, at_one, at_kept}
use Rattle.mcap_model.proofs.Lists.{at_either, take_first, take_second, each_cons, filter_passed, filter_has, pairs_at, pairs_from, pairs_cons}
use Rattle.mcap_model.proofs.Readings.{length-top}
use Rattle.mcap_model.proofs.Distinct.{any_has}
use Rattle.mcap_model.proofs.NamedTopics.{zip_front, zip_back}
use Rattle.mcap_model.proofs.Once.{chunk_index_once}
use Rattle.mcap_laws.proofs.Leading.{Ends, ends_of, summary_of, in_before, in_summary, at_dropped, ended_before}
use Rattle.summary_read.specs.Parts.{of_kind}

-- ---- numbers

-- numbers that differ and stand among others are no more than these
no_more : (xs ys : List ℕ) → AllPairs (λ a b. a ≢ b) xs → Each (Has ys) xs → length xs ≤ length ys
no_more xs ys apart among = length-le_from_is_member nat_eq_equiv xs ys (IsDistinct-from_AllPairs Decides-eqb xs apart) (λ q any.
    let (k, x, at, same) = any_has (eqb q) xs any in
    let (m, there) = among k x at in
    let within = at_within ys m x there in
    list_any_at (eqb q) ys m x within (ap (eqb q) (at_one ys m (get_or ys m x) x (at_read ys m x within) there) ∙ same))

-- ---- the offsets of chunks

-- the offsets of the chunks among records, the first of which stands at that offset
abbrev chunk_offsets : ℕ → List Top → List ℕ
chunk_offsets at [] = []
chunk_offsets at (t ∷ ts) = if is_chunk t then at ∷ chunk_offsets (at + length (top_bytes t)) ts else chunk_offsets (at + length (top_bytes t)) ts

offsets_size : (at : ℕ) (ts : List Top) → length (chunk_offsets at ts) ≡ count_of 6 ts
offsets_size at [] = refl
offsets_size at (t ∷ ts) = by (is_chunk t) (offsets_size (at + length (top_bytes t)) ts)
  where
    by : (b : Bool) → length (chunk_offsets (at + length (top_bytes t)) ts) ≡ length (filter is_chunk ts) → length (cond b (at ∷ chunk_offsets (at + length (top_bytes t)) ts) (chunk_offsets (at + length (top_bytes t)) ts)) ≡ length (cond b (t ∷ filter is_chunk ts) (filter is_chunk ts))
    by true same = ap suc same
    by false same = same

offsets_from : (at : ℕ) (ts : List Top) → Each (λ o. at ≤ o) (chunk_offsets at ts)
offsets_from at [] = λ n o none. absurd (at_none n o none)
offsets_from at (t ∷ ts) = by (is_chunk t) (λ n o there. let more = offsets_from (at + length (top_bytes t)) ts n o there in omega (arith, more))
  where
    by : (b : Bool) → Each (λ o. at ≤ o) (chunk_offsets (at + length (top_bytes t)) ts) → Each (λ o. at ≤ o) (cond b (at ∷ chunk_offsets (at + length (top_bytes t)) ts) (chunk_offsets (at + length (top_bytes t)) ts))
    by true more = each_cons (λ o. at ≤ o) at (chunk_offsets (at + length (top_bytes t)) ts) (omega arith) more
    by false more = more

offsets_apart : (at : ℕ) (ts : List Top) → AllPairs (λ a b. a ≢ b) (chunk_offsets at ts)
offsets_apart at [] = λ i j d less within. absurd (omega (arith, within))
offsets_apart at (t ∷ ts) = by (is_chunk t) (offsets_apart (at + length (top_bytes t)) ts)
  where
    by : (b : Bool) → AllPairs (λ a b. a ≢ b) (chunk_offsets (at + length (top_bytes t)) ts) → AllPairs (λ a b. a ≢ b) (cond b (at ∷ chunk_offsets (at + length (top_bytes t)) ts) (chunk_offsets (at + length (top_bytes t)) ts))
    by true more = pairs_cons (λ a b. a ≢ b) at (chunk_offsets (at + length (top_bytes t)) ts) (λ n o there same. let behind = offsets_from (at + length (top_bytes t)) ts n o there in omega (arith, behind, same, length-top t)) more
    by false more = more

offsets_has : (at : ℕ) (ts : List Top) (n : ℕ) (t : Top) → At ts n t → t.op ≡ 6 → (o : ℕ) → o ≡ at + length (spelled (take n ts)) → Has (chunk_offsets at ts) o
offsets_has at [] n t here six o is = absurd (at_none n t here)
offsets_has at (x ∷ xs) n t here six o is = by (is_chunk x) refl n here is (λ k there left. offsets_has (at + length (top_bytes x)) xs k t there six o left)
  where
    by : (b : Bool) → is_chunk x ≡ b → (n : ℕ) → At (x ∷ xs) n t → o ≡ at + length (spelled (take n (x ∷ xs))) → ((k : ℕ) → At xs k t → o ≡ at + length (top_bytes x) + length (spelled (take k xs)) → Has (chunk_offsets (at + length (top_bytes x)) xs) o)
        → Has (cond b (at ∷ chunk_offsets (at + length (top_bytes x)) xs) (chunk_offsets (at + length (top_bytes x)) xs)) o
    by true kind zero first there rest = let same : at ≡ o = omega (arith, there) in (0, ap Some same)
    by false kind zero first there rest = absurd (both_ways (is_chunk x) kind (eq-eqb x.op 6 (ap (λ (u : Top). u.op) (same_Some x t first) ∙ six)))
    by true kind (suc k) second there rest = let has = rest k second (omega (arith, there, length-append (top_bytes x) (spelled (take k xs)))) in (suc has.0, has.1)
    by false kind (suc k) second there rest = rest k second (omega (arith, there, length-append (top_bytes x) (spelled (take k xs))))

record Offset (at : ℕ) (ts : List Top) (o : ℕ) : Type 0 where
  place : ℕ
  top : Top
  here : At ts place top
  six : top.op ≡ 6
  is : o ≡ at + length (spelled (take place ts))

offsets_back : (at : ℕ) (ts : List Top) (i o : ℕ) → At (chunk_offsets at ts) i o → Offset at ts o
offsets_back at [] i o here = absurd (at_none i o here)
offsets_back at (x ∷ xs) i o here = by (is_chunk x) refl i here (λ k there. later (offsets_back (at + length (top_bytes x)) xs k o there))
  where
    later : Offset (at + length (top_bytes x)) xs o → Offset at (x ∷ xs) o
    later more = record { place = suc more.place; top = more.top; here = more.here; six = more.six; is = (let is = more.is in omega (arith, is, length-append (top_bytes x) (spelled (take more.place xs)))) }

    by : (b : Bool) → is_chunk x ≡ b → (i : ℕ) → At (cond b (at ∷ chunk_offsets (at + length (top_bytes x)) xs) (chunk_offsets (at + length (top_bytes x)) xs)) i o → ((k : ℕ) → At (chunk_offsets (at + length (top_bytes x)) xs) k o → Offset at (x ∷ xs) o) → Offset at (x ∷ xs) o
    by true kind zero first rest = let same = same_Some at o first in record { place = 0; top = x; here = refl; six = eqb-true x.op 6 kind; is = omega (arith, same) }
    by true kind (suc k) second rest = rest k second
    by false kind k second rest = rest k second

-- ---- the offsets of Chunk Indexes

-- the record shows a Chunk Index with that offset
abbrev HasOffset : Top → ℕ → Type 0
HasOffset t o = (f : ChunkIndexFields) × IsChunkIndex t f × (o ≡ f.offset)

index_offsets : (ts : List Top) → Each (λ t. (f : ChunkIndexFields) × IsChunkIndex t f) ts → (os : List ℕ) × AllZip HasOffset ts os
index_offsets [] each = ([], tt)
index_offsets (t ∷ ts) each =
    let (f, is) = each 0 t refl in
    let (os, zip) = index_offsets ts (λ n u at. each (suc n) u at) in
    (f.offset ∷ os, ((f, is, refl), zip))

-- the second is of another chunk
abbrev Differ : Top → Top → Type 0
Differ t u = (f g : ChunkIndexFields) → IsChunkIndex t f → IsChunkIndex u g → f.offset ≢ g.offset

-- ---- counts

ended_behind : (xs ys : List Top) → HasDataEnd ys → HasDataEnd (xs ++ ys)
ended_behind [] ys ended = ended
ended_behind (x ∷ xs) ys ended = inr (ended_behind xs ys ended)

module _ (file : List ℕ) (tops : List Top) (full : FullyIndexed file tops) (ended : HasDataEnd tops) where
  valid : Valid file tops
  valid = full.valid

  abbrev e : Ends tops
  e = ends_of file tops full

  -- no chunk stands behind a Data End
  none_behind : (k : ℕ) (chunk : Top) → At tops k chunk → chunk.op ≡ 6 → HasDataEnd (take k tops) → ⊥
  none_behind k chunk at six over =
      let ends = e in
      let near = at_within ends.before k chunk (in_before tops ends k chunk at (λ two. omega (arith, six, two))) in
      let size : length tops ≡ suc (length ends.before) = omega (arith, ap length ends.joined, length-append ends.before (ends.foot ∷ [])) in
      let v = valid in
      let rule = v.v5_behind in
      both_ways (stands_in_summary chunk.op) (ap stands_in_summary six) ((rule k chunk at).0 (over, omega (arith, near, size)))

  in_section : (front : List Top) → IsSection tops front → (k : ℕ) (chunk : Top) → At tops k chunk → chunk.op ≡ 6 → At front k chunk
  in_section front is k chunk at six = elim (at_either front (is.end ∷ is.behind) k chunk (subst (λ (l : List Top). At l k chunk) is.joined at)) [
    | inl first ↦ first
    | inr (j, there, second) ↦ absurd (past j there second)
  ]
    where
      past : (j : ℕ) → k ≡ length front + j → At (is.end ∷ is.behind) j chunk → ⊥
      past zero there second = omega (arith, six, is.kind, ap (λ (t : Top). t.op) (same_Some is.end chunk second))
      past (suc j) there second =
          let taken : take k tops ≡ front ++ is.end ∷ take j is.behind = ap (λ (n : ℕ). take n tops) there ∙ ap (take (length front + suc j)) is.joined ∙ take_second front (is.end ∷ is.behind) (suc j) in
          none_behind k chunk at six (subst HasDataEnd (sym taken) (ended_behind front (is.end ∷ take j is.behind) (inl is.kind)))

  -- the record of the summary at that place, in the file
  at_summary : (i : ℕ) (t : Top) → At (summary_of e) i t → (n : ℕ) → n ≡ suc e.end + i → At tops n t
  at_summary i t at n is = let ends = e in subst (λ (l : List Top). At l n t) (sym ends.joined) (at_kept ends.before (ends.foot ∷ []) n t (at_dropped ends.before (suc ends.end) i t at n is))

  indexes_differ : AllPairs Differ (of_kind 8 (summary_of e))
  indexes_differ =
      let all : AllPairs Differ tops = pairs_from Differ tops (λ i j x y less at_x at_y f g is_x is_y.
      let v = valid in
      let rule = v.v12 in
      let right = rule j y at_y g is_y in
      let only = right.only in
      only i x f less at_x is_x) in
      let some : AllPairs Differ (summary_of e) = pairs_from Differ (summary_of e) (λ i j x y less at_x at_y.
      pairs_at Differ tops all (suc e.end + i) (suc e.end + j) x y (omega (arith, less)) (at_summary i x at_x (suc e.end + i) refl) (at_summary j y at_y (suc e.end + j) refl)) in
      AllPairs-filter Differ (λ t. t.op == 8) (summary_of e) some

  index_there : (k : ℕ) (chunk : Top) (h : HasIndex tops k chunk) → Has (of_kind 8 (summary_of e)) h.top
  index_there k chunk h =
      let v = valid in
      let v3 = v.v3 in
      let v5 = v.v5 in
      let is = h.is in
      let over = ended_before (take h.place tops) h.top is.kind (v3 h.place h.top h.at) (v5 h.place h.top h.at) in
      let (i, at) = in_summary tops e h.place h.top h.at over (λ two. omega (arith, is.kind, two)) in
      filter_has (λ (t : Top). t.op == 8) (summary_of e) i h.top at (eq-eqb (h.top).op 8 is.kind)

  chunks_counted : (front : List Top) → IsSection tops front → count_of 6 front ≡ length (of_kind 8 (summary_of e))
  chunks_counted front is =
      let indexes = of_kind 8 (summary_of e) in
      let v = valid in
      let v6 = v.v6 in
      let v12 = v.v12 in
      let (os, zip) = index_offsets indexes (λ n t at.
      let ((i, at_i), eight) = filter_passed (λ (u : Top). u.op == 8) (summary_of e) n t at in
      let shows = v6 (suc e.end + i) t (at_summary i t at_i (suc e.end + i) refl) in
      let shown = shows.chunk_index in
      shown (eqb-true t.op 8 eight)) in
      let os_apart : AllPairs (λ a b. a ≢ b) os = pairs_from (λ a b. a ≢ b) os (λ i j a b less at_a at_b same.
      let (x, at_x, (f, is_f, a_is)) = zip_back HasOffset indexes os i a zip at_a in
      let (y, at_y, (g, is_g, b_is)) = zip_back HasOffset indexes os j b zip at_b in
      pairs_at Differ indexes indexes_differ i j x y less at_x at_y f g is_f is_g (sym a_is ∙ same ∙ b_is)) in
      let some_chunk : Each (Has (chunk_offsets 8 front)) os = (λ n o at.
      let (t, at_t, (f, is_f, o_is)) = zip_back HasOffset indexes os n o zip at in
      let ((i, at_i), eight) = filter_passed (λ (u : Top). u.op == 8) (summary_of e) n t at_t in
      let right = v12 (suc e.end + i) t (at_summary i t at_i (suc e.end + i) refl) f is_f in
      let of = right.is in
      let six = of.is in
      let here = in_section front is right.k right.chunk of.at six.kind in
      let front_same : take right.k tops ≡ take right.k front = ap (take right.k) is.joined ∙ take_first front (is.end ∷ is.behind) right.k right.chunk here in
      offsets_has 8 front right.k right.chunk here six.kind o (o_is ∙ of.offset ∙ ap offset_behind front_same)) in
      let some_index : Each (Has os) (chunk_offsets 8 front) = (λ n o at.
      let back = offsets_back 8 front n o at in
      let here : At tops back.place back.top = subst (λ (l : List Top). At l back.place back.top) (sym is.joined) (at_kept front (is.end ∷ is.behind) back.place back.top back.here) in
      let chunks = full.chunks in
      let h = chunks back.place back.top here back.six in
      let (g, of) = h.of in
      let (i, at_i) = index_there back.place back.top h in
      let (p, at_p, (f, is_f, p_is)) = zip_front HasOffset indexes os i h.top zip at_i in
      let front_same : take back.place tops ≡ take back.place front = ap (take back.place) is.joined ∙ take_first front (is.end ∷ is.behind) back.place back.top back.here in
      let same : p ≡ o = p_is ∙ ap (λ (x : ChunkIndexFields). x.offset) (chunk_index_once h.top f h.shown is_f h.is) ∙ of.offset ∙ ap offset_behind front_same ∙ sym back.is in
      (i, subst (λ (q : ℕ). At os i q) same at_p)) in
      omega (arith, offsets_size 8 front, AllZip-long HasOffset indexes os zip, no_more os (chunk_offsets 8 front) os_apart some_chunk, no_more (chunk_offsets 8 front) os (offsets_apart 8 front) some_index)

  -- a Statistics of the summary states as many chunks as the summary has Chunk Indexes
  pub statistics_count : (t : Top) (f : StatisticsFields) → Has (summary_of e) t → IsStatistics t f → f.chunks ≡ length (of_kind 8 (summary_of e))
  statistics_count t f (i, at) is =
      let v = valid in
      let rule = v.v14 in
      let right = rule (suc e.end + i) t (at_summary i t at (suc e.end + i) refl) f is in
      right.chunks ∙ by right.section right.is
    where
      by : (front : List Top) → IsDataSection tops front → count_of 6 front ≡ length (of_kind 8 (summary_of e))
      by front (inl is) = chunks_counted front is
      by front (inr none) = absurd (none.0 ended)
