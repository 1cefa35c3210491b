-- Where a Chunk Index leads that keeps its rule (V12).
use Rattle.std.proofs.Common.{◌≡◌, ℕ, zero, suc, ◌+◌, ◌<◌, ◌≤◌, Bool, true, List, [], ◌∷◌, ◌++◌, length, take, drop, refl, sym, ap, subst, inl, inr, ◌∙◌, append_assoc, arith}
use Rattle.std.specs.Prelude.{take_while}
use Rattle.std.specs.List.{prefix_len}
use Rattle.std.proofs.lemmas.Bool.{eqb-true}
use Rattle.std.proofs.lemmas.Grind.{flat_map-append}
use Rattle.std.proofs.lemmas.List.{length-append, length-take, take-take, take-append-drop, drop_at}
use Rattle.std.proofs.lemmas.List.Sums.{prefix_len_passes}
use Rattle.std.proofs.lemmas.Option.{same_Some, get_or_from_slice_get}
use Rattle.mcap_wire.specs.Layout.{magic}
use Rattle.mcap_model.specs.Places.{At, Has}
use Rattle.mcap_model.specs.Tops.{Top, top_bytes, spelled}
use Rattle.mcap_model.specs.Fields.{ChunkIndexFields}
use Rattle.mcap_model.specs.Whole.{offset_of, is_index, indexes_behind, IsWhole, NamesIndexes, ChunkIndexIsRight}
use Rattle.mcap_model.specs.Led.{IsThere}
use Rattle.mcap_model.proofs.Places.{at_none, at_within}
use Rattle.mcap_model.proofs.Readings.{length-top}
use Rattle.mcap_model.proofs.Lists.{cut_flat, has_taken}
use Rattle.mcap_laws.proofs.Leading.{from_there, there_same, is_there, at_dropped, named_of}
use Rattle.indexed_replay.specs.Reaching.{LacksChunk, LacksIndex, IsElsewhere, IndexesStand, IsApart}

-- ---- Message Indexes behind a chunk

-- the length of the records up to one behind a place
behind_size : (xs : List Top) (k p : ℕ) (t : Top) → At xs k t → (n : ℕ) → n ≡ suc k + p → length (spelled (take n xs)) ≡ length (spelled (take k xs)) + length (top_bytes t) + length (spelled (take p (drop (suc k) xs)))
behind_size [] k p t at n is = absurd (at_none k t at)
behind_size (x ∷ xs) k p t at zero is = absurd (omega (arith, is))
behind_size (x ∷ xs) zero p t at (suc m) is =
    let same : m ≡ p = omega (arith, is) in
    omega (arith, ap (λ (u : Top). length (top_bytes u)) (same_Some x t at), length-append (top_bytes x) (spelled (take m xs)), ap (λ (q : ℕ). length (spelled (take q xs))) same)
behind_size (x ∷ xs) (suc k) p t at (suc m) is =
    omega (arith, behind_size xs k p t at m (omega (arith, is)), length-append (top_bytes x) (spelled (take m xs)), length-append (top_bytes x) (spelled (take k xs)))

-- a front of the first ones that keep a test is a front of all
taken_while : (test : Top → Bool) (xs : List Top) (p : ℕ) (t : Top) → At (take_while test xs) p t → take p (take_while test xs) ≡ take p xs
taken_while test xs p t at =
    let n = prefix_len test xs in
    let within : p < length (take n xs) = at_within (take_while test xs) p t at in
    take-take p n xs (omega (arith, within, length-take n xs))

-- each of the first ones is a Message Index
index_among : (xs : List Top) (n : ℕ) (u : Top) → At (take_while is_index xs) n u → is_index u ≡ true
index_among xs n u at =
    let (less, here) = has_taken xs (prefix_len is_index xs) n u at in
    ap is_index (sym (get_or_from_slice_get xs n u u here)) ∙ prefix_len_passes is_index xs n u less

-- one of the Message Indexes behind the chunk at a place stands behind the chunk, and ends within their bytes
index_behind : (tops : List Top) (k : ℕ) (chunk : Top) (p : ℕ) (t : Top) → At tops k chunk → At (indexes_behind tops k) p t
    → (offset_of tops (suc k + p) ≡ offset_of tops k + length (top_bytes chunk) + length (spelled (take p (indexes_behind tops k)))) × (length (spelled (take p (indexes_behind tops k))) + 9 ≤ length (spelled (indexes_behind tops k)))
index_behind tops k chunk p t at there =
    let (more, cut) = cut_flat top_bytes (indexes_behind tops k) p t there in
    let front = spelled (take p (indexes_behind tops k)) in (
      omega (arith, behind_size tops k p chunk at (suc k + p) refl, ap (λ (l : List Top). length (spelled l)) (taken_while is_index (drop (suc k) tops) p t there)),
      omega (arith, ap length cut, length-append front (top_bytes t ++ spelled more), length-append (top_bytes t) (spelled more), length-top t),
    )

-- the Message Indexes behind a chunk up to one of them stand between both
indexes_between : (file : List ℕ) (tops : List Top) → IsWhole file tops → (k : ℕ) (chunk : Top) (p : ℕ) (t : Top) → At tops k chunk → At (indexes_behind tops k) p t → (end offset : ℕ)
    → end ≡ offset_of tops k + length (top_bytes chunk) → offset ≡ end + length (spelled (take p (indexes_behind tops k))) → IndexesStand file end offset
indexes_between file tops whole k chunk p t at there end offset ends is =
    let before = take p (indexes_behind tops k) in
    let short = whole.short in
    let taken : before ≡ take p (drop (suc k) tops) = taken_while is_index (drop (suc k) tops) p t there in
    let at_end : end ≡ offset_of tops (suc k) = omega (arith, ends, behind_size tops k 0 chunk at (suc k) (omega arith)) in
    let parts : drop end file ≡ spelled (drop (suc k) tops) ++ magic =
    ap (λ (n : ℕ). drop n file) at_end ∙ ap (drop (offset_of tops (suc k))) (whole.split ∙ split_whole) ∙ drop_at (magic ++ spelled (take (suc k) tops)) (spelled (drop (suc k) tops) ++ magic) (offset_of tops (suc k)) (length-append magic (spelled (take (suc k) tops))) in
    record {
      indexes = before;
      kinds = λ n u here. let (less, at_n) = has_taken (indexes_behind tops k) p n u here in eqb-true u.op 7 (index_among (drop (suc k) tops) n u at_n);
      short = λ n u here. let (less, at_n) = has_taken (drop (suc k) tops) p n u (subst (λ (l : List Top). At l n u) taken here) in short (suc k + n) u (at_dropped tops (suc k) n u at_n (suc k + n) refl);
      rest = spelled (drop p (drop (suc k) tops)) ++ magic;
      split = parts ∙ ap (λ (l : List Top). spelled l ++ magic) (sym (take-append-drop p (drop (suc k) tops))) ∙ ap (λ (l : List ℕ). l ++ magic) (flat_map-append top_bytes (take p (drop (suc k) tops)) (drop p (drop (suc k) tops)))
          ∙ append_assoc (spelled (take p (drop (suc k) tops))) (spelled (drop p (drop (suc k) tops))) magic
          ∙ ap (λ (l : List Top). spelled l ++ (spelled (drop p (drop (suc k) tops)) ++ magic)) (sym taken);
      there = is;
    }
  where
    split_whole : magic ++ (spelled tops ++ magic) ≡ (magic ++ spelled (take (suc k) tops)) ++ (spelled (drop (suc k) tops) ++ magic)
    split_whole =
        ap (λ (l : List Top). magic ++ (spelled l ++ magic)) (sym (take-append-drop (suc k) tops))
        ∙ ap (λ (l : List ℕ). magic ++ (l ++ magic)) (flat_map-append top_bytes (take (suc k) tops) (drop (suc k) tops))
        ∙ ap (λ (l : List ℕ). magic ++ l) (append_assoc (spelled (take (suc k) tops)) (spelled (drop (suc k) tops)) magic)
        ∙ sym (append_assoc magic (spelled (take (suc k) tops)) (spelled (drop (suc k) tops) ++ magic))

names_size : (tops : List Top) (k : ℕ) (f : ChunkIndexFields) (channel offset : ℕ) → NamesIndexes tops k f → Has {X = ℕ × ℕ} f.indexes (channel, offset) → f.indexes_size ≡ length (spelled (indexes_behind tops k))
names_size tops k f channel offset (inl none) (n, at) = absurd (at_none {X = ℕ × ℕ} n (channel, offset) (subst (λ (l : List (ℕ × ℕ)). At {X = ℕ × ℕ} l n (channel, offset)) none at))
names_size tops k f channel offset (inr all) has = all.2

-- ---- what a right Chunk Index names

module _ (file : List ℕ) (tops : List Top) (whole : IsWhole file tops) (n : ℕ) (f : ChunkIndexFields) (right : ChunkIndexIsRight tops n f) where
  pub chunk_there : IsThere file f.offset right.chunk
  chunk_there =
      let of = right.is in
      let (rest, stands) = from_there file tops right.k right.chunk whole of.at in
      let short = whole.short in
      is_there file f.offset right.chunk rest (ap (λ (o : ℕ). drop o file) of.offset ∙ stands) (short right.k right.chunk of.at)

  pub index_there : (place offset : ℕ) (t : Top) → At (indexes_behind tops right.k) place t → offset ≡ offset_of tops (suc right.k + place) → At tops (suc right.k + place) t × IsThere file offset t
  index_there place offset t at there =
      let (less, behind) = has_taken (drop (suc right.k) tops) (prefix_len is_index (drop (suc right.k) tops)) place t at in
      let here = at_dropped tops (suc right.k) place t behind (suc right.k + place) refl in
      let (rest, stands) = from_there file tops (suc right.k + place) t whole here in
      let short = whole.short in
      (here, is_there file offset t rest (ap (λ (o : ℕ). drop o file) there ∙ stands) (short (suc right.k + place) t here))

  pub some_chunk : LacksChunk file f.offset → ⊥
  some_chunk lacks = let of = right.is in lacks right.chunk right.shown chunk_there of.is

  pub some_index : (channel offset : ℕ) → Has {X = ℕ × ℕ} f.indexes (channel, offset) → LacksIndex file channel offset → ⊥
  some_index channel offset has lacks =
      let (entries, named) = named_of tops right.k f channel offset right.names has in
      lacks named.top entries (index_there named.place offset named.top named.at named.there).1 named.is

  -- where the chunk ends that stands at the offset
  ends_where : (chunk : Top) → IsThere file f.offset chunk → (end : ℕ) → end ≡ f.offset + length (top_bytes chunk) → end ≡ offset_of tops right.k + length (top_bytes right.chunk)
  ends_where chunk there end ends =
      let of = right.is in
      let own = chunk_there in
      let stands = own.stands in
      let same = there_same file f.offset right.chunk chunk stands.rest stands.there own.short there in
      let size : length (top_bytes chunk) ≡ length (top_bytes right.chunk) = ap (λ (t : Top). length (top_bytes t)) same in
      omega (arith, ends, size, of.offset)

  -- a Message Index that the map names stands behind the chunk, within the bytes that the Chunk Index states
  pub none_elsewhere : (channel offset : ℕ) → Has {X = ℕ × ℕ} f.indexes (channel, offset) → IsElsewhere file f offset → ⊥
  none_elsewhere channel offset has elsewhere =
      let of = right.is in
      let ends = elsewhere.ends in
      let end_is = ends_where ends.chunk ends.there elsewhere.end ends.is in
      let (entries, named) = named_of tops right.k f channel offset right.names has in
      let behind = index_behind tops right.k right.chunk named.place named.top of.at named.at in
      let total : f.indexes_size ≡ length (spelled (indexes_behind tops right.k)) = names_size tops right.k f channel offset right.names has in
      elim elsewhere.outside [
        | inl early ↦ omega (arith, early, end_is, named.there, behind.0)
        | inr late ↦ omega (arith, late, end_is, named.there, behind.0, behind.1, total)
      ]

  -- up to it stand Message Indexes alone
  pub none_apart : (channel offset : ℕ) → Has {X = ℕ × ℕ} f.indexes (channel, offset) → IsApart file f offset → ⊥
  none_apart channel offset has apart =
      let of = right.is in
      let ends = apart.ends in
      let end_is = ends_where ends.chunk ends.there apart.end ends.is in
      let (entries, named) = named_of tops right.k f channel offset right.names has in
      let behind = index_behind tops right.k right.chunk named.place named.top of.at named.at in
      let lies = apart.apart in
      lies (indexes_between file tops whole right.k right.chunk named.place named.top of.at named.at apart.end offset end_is (omega (arith, named.there, behind.0, end_is)))
