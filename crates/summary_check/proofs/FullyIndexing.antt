-- When a valid file is fully indexed.
use Rattle.std.proofs.Common.{◌≡◌, ℕ, zero, suc, ◌+◌, ◌-◌, ◌<◌, ◌≤◌, Bool, true, false, List, [], ◌∷◌, ◌++◌, length, take, drop, None, refl, sym, ap, subst, inl, inr, ◌∙◌, arith}
use Rattle.std.specs.Prelude.{◌↔◌, ◌≢◌, IsTrue, take_while}
use Rattle.std.proofs.Math.Bool.{cond}
use Rattle.std.proofs.lemmas.Bool.{both_ways, cases_lt, eqb-true}
use Rattle.std.proofs.lemmas.List.Sums.{take_while-cons}
use Rattle.mcap_model.specs.Places.{At, Has, Each}
use Rattle.mcap_model.specs.Tops.{Top, inner_tops, records_in}
use Rattle.mcap_model.specs.Fields.{MessageFields, IsMessage, ChunkFields, IsChunk, IsMessageIndex, ChunkIndexFields, IsChunkIndex}
use Rattle.mcap_model.specs.Rules.{V6}
use Rattle.mcap_model.specs.Whole.{offset_of, offset_among, is_index, indexes_behind, IsFollowed, IsIndexOf, IsNamed, NamesIndexes, InSummary, V12}
use Rattle.mcap_model.specs.Valid.{Valid, HasIndex, FullyIndexed}
use Rattle.mcap_model.proofs.Front.{IsTail, tail_not}
use Rattle.mcap_model.proofs.Lists.{at_either, each_cons, each_joined}
use Rattle.mcap_model.proofs.Places.{at_none, at_within, at_one, at_kept}
use Rattle.mcap_model.proofs.Unpacking.{chunks_are_opened}
use Rattle.index_check.specs.declared.chunk_indexes.Chunks.{Chunks}
use Rattle.index_check.specs.Chunks.{HasMessage, ChunksOf, ChunksNamed}
use Rattle.index_check.proofs.Spotted.{one_place, note_there}
use Rattle.mcap_wire.specs.declared.faults.Cut.{Cut}
use Rattle.mcap_model.proofs.Once.{chunk_index_once}
use Rattle.summary_read.specs.PartSteps.{cut_tops}
use Rattle.summary_read.specs.Steps.{Judged}
use Rattle.summary_check.specs.Offsets.{Spans}
use Rattle.summary_check.proofs.Onward.{op_there, tops_within}
use Rattle.summary_check.specs.Laid.{all_of, EndsWithDataEnd, IsFrontRecord}
use Rattle.summary_check.specs.FullIndex.{EmptyIsRight, EmptyRight, HasStatistics, MakesFullyIndexed}
use Rattle.summary_check.proofs.Laying.{length-all, body_there, foot_there, body_back, body_within, within_body, front_not}

-- ---- lists

-- what passes a test together with all in front of it
passes : (xs : List Top) (n : ℕ) (x : Top) → At (take_while is_index xs) n x → At xs n x × Each (λ y. is_index y ≡ true) (take (suc n) xs)
passes [] n x at = absurd (at_none n x at)
passes (y ∷ ys) n x at = by (is_index y) refl n (subst (λ (l : List Top). At l n x) (take_while-cons is_index y ys) at) (λ k there. passes ys k x there)
  where
    by : (b : Bool) → is_index y ≡ b → (n : ℕ) → At (cond b (y ∷ take_while is_index ys) []) n x → ((k : ℕ) → At (take_while is_index ys) k x → At ys k x × Each (λ z. is_index z ≡ true) (take (suc k) ys)) → At (y ∷ ys) n x × Each (λ z. is_index z ≡ true) (take (suc n) (y ∷ ys))
    by false is n there later = absurd (at_none n x there)
    by true is zero there later = (there, each_cons (λ z. is_index z ≡ true) y [] is (λ k z none. absurd (at_none k z none)))
    by true is (suc n) there later = let more = later n there in (more.0, each_cons (λ z. is_index z ≡ true) y (take (suc n) ys) is more.1)

taken : (xs : List Top) (n k : ℕ) (x : Top) → At (take n xs) k x → k < n → At (take (suc n) xs) k x
taken [] n k x at less = absurd (taken_none n at)
  where
    taken_none : (m : ℕ) → At (take m []) k x → ⊥
    taken_none zero at = at_none k x at
    taken_none (suc m) at = at_none k x at
taken (y ∷ ys) zero k x at less = absurd (at_none k x at)
taken (y ∷ ys) (suc n) zero x at less = at
taken (y ∷ ys) (suc n) (suc k) x at less = taken ys n k x at (omega (arith, less))

dropped : (xs : List Top) (n p : ℕ) (x : Top) → At (drop n xs) p x → At xs (n + p) x
dropped xs zero p x at = subst (λ (k : ℕ). At xs k x) none at
  where
    none : p ≡ 0 + p
    none = omega arith
dropped [] (suc n) p x at = absurd (at_none p x at)
dropped (y ∷ ys) (suc n) p x at = subst (λ (k : ℕ). At (y ∷ ys) k x) same (dropped ys n p x at)
  where
    same : suc (n + p) ≡ suc n + p
    same = omega arith

split_at : (xs : List Top) (n p : ℕ) (x : Top) → At xs n x → take (suc n + p) xs ≡ take n xs ++ x ∷ take p (drop (suc n) xs)
split_at [] n p x at = absurd (at_none n x at)
split_at (y ∷ ys) zero p x at = head y x at
  where
    head : (y x : Top) → At (y ∷ ys) zero x → take (1 + p) (y ∷ ys) ≡ x ∷ take p ys
    head y x at = ap (λ (n : ℕ). take n (y ∷ ys)) one ∙ ap (λ (z : Top). z ∷ take p ys) (at_one (y ∷ ys) zero y x refl at)
      where
        one : 1 + p ≡ suc p
        one = omega arith
split_at (y ∷ ys) (suc n) p x at = ap (λ (k : ℕ). take k (y ∷ ys)) same ∙ ap (λ (l : List Top). y ∷ l) (split_at ys n p x at)
  where
    same : suc (suc n) + p ≡ suc (suc n + p)
    same = omega arith

seven : (t : Top) → is_index t ≡ true → t.op ≡ 7
seven t is = eqb-true t.op 7 is

-- ---- the file

module _ (file : List ℕ) (tops body : List Top) (foot : Top) (valid : Valid file (all_of tops body foot)) (ended : EndsWithDataEnd tops) (kinds : Each IsFrontRecord tops) (judged : Each (λ t. Judged t None) body) (foot_is : foot.op ≡ 2) where
  abbrev all : List Top
  all = all_of tops body foot

  -- a Chunk Index stands between the Data End and the Footer
  index_place : (n : ℕ) (t : Top) → At all n t → t.op ≡ 8 → (k : ℕ) × (n ≡ length tops + k) × At body k t
  index_place n t at eight = elim (at_either tops (body ++ foot ∷ []) n t at) [
    | inl first ↦ absurd (front_not t 8 (kinds n t first) (λ e. omega (arith, e)) refl eight)
    | inr (m, there, second) ↦ elim (at_either body (foot ∷ []) m t second) [
      | inl here ↦ (m, there, here)
      | inr (q, past, last) ↦ absurd (last_two q last)
    ]
  ]
    where
      last_two : (q : ℕ) → At (foot ∷ []) q t → ⊥
      last_two zero at = let same = at_one (foot ∷ []) zero foot t refl at in omega (arith, ap (λ (x : Top). x.op) same, foot_is, eight)
      last_two (suc q) at = at_none q t at

  -- behind each chunk and its Message Indexes stands the Footer at the latest
  followed : (n : ℕ) (t : Top) → At all n t → t.op ≡ 6 → IsFollowed all n
  followed n t at six = elim (cases_lt (suc n + length (indexes_behind all n)) (length all)) [
    | inl less ↦ less
    | inr past ↦ absurd (too_far past)
  ]
    where
      before_last : n < length tops + length body
      before_last = elim (cases_lt n (length tops + length body)) [
        | inl less ↦ less
        | inr past ↦
            let within = at_within all n t at in
            let last : n ≡ length tops + length body = omega (arith, past, within, length-all tops body foot) in
            let same = at_one all (length tops + length body) t foot (subst (λ (k : ℕ). At all k t) last at) (foot_there tops body foot) in
            absurd (omega (arith, ap (λ (x : Top). x.op) same, foot_is, six))
      ]

      too_far : length all ≤ suc n + length (indexes_behind all n) → ⊥
      too_far past =
          let place = length tops + length body - suc n in
          let size = length-all tops body foot in
          let near : place < length (indexes_behind all n) = omega (arith, past, size, before_last) in
          let last = note_there (indexes_behind all n) place near in
          let passed = passes (drop (suc n) all) place last.0 last.1 in
          let there = dropped all (suc n) place last.0 passed.0 in
          let end : suc n + place ≡ length tops + length body = omega (arith, before_last) in
          let same = at_one all (length tops + length body) last.0 foot (subst (λ (k : ℕ). At all k last.0) end there) (foot_there tops body foot) in
          let is = passed.1 place last.0 (at_front (drop (suc n) all) place last.0 passed.0) in
          omega (arith, seven last.0 is, ap (λ (x : Top). x.op) same, foot_is)
        where
          at_front : (xs : List Top) (k : ℕ) (x : Top) → At xs k x → At (take (suc k) xs) k x
          at_front [] k x at = absurd (at_none k x at)
          at_front (y ∷ ys) zero x at = at
          at_front (y ∷ ys) (suc k) x at = at_front ys k x at

  -- a Message Index behind a chunk, of a channel with a Message in it, has entries
  has_entries : (n : ℕ) (t : Top) → At all n t → t.op ≡ 6 → (j channel : ℕ) (v : Top) (m : MessageFields) → At (inner_tops t) j v → IsMessage v channel m
      → (k : ℕ) (i : Top) (entries : List (ℕ × ℕ)) → At (indexes_behind all n) k i → IsMessageIndex i channel entries → entries ≢ []
  has_entries n t at six j channel v m at_j is_m k i entries at_k is_i none =
      let passed = passes (drop (suc n) all) k i at_k in
      let there = dropped all (suc n) k i passed.0 in
      let v9 = valid.v9 in
      let belongs = (v9 (suc n + k) i there).0 is_i.kind in
      let earlier = take k (drop (suc n) all) in
      let sevens : Each (λ u. u.op ≡ 7) earlier = λ p u at_p. seven u (passed.1 p u (taken (drop (suc n) all) k p u at_p (near p u at_p))) in
      let right = belongs.right (take n all) t earlier (split_at all n k t at) six sevens in
      let are = right.entries channel entries is_i in
      let has = are.all (m.log_time, offset_among (inner_tops t) j) (record { place = j; top = v; message = m; at = at_j; is = is_m; time = refl; offset = refl }) in
      at_none has.0 (m.log_time, offset_among (inner_tops t) j) (subst (λ (l : List (ℕ × ℕ)). At l has.0 (m.log_time, offset_among (inner_tops t) j)) none has.1)
    where
      near : (p : ℕ) (u : Top) → At (take k (drop (suc n) all)) p u → p < k
      near p u at_p = elim (cases_lt p k) [
        | inl less ↦ less
        | inr past ↦ absurd (short (drop (suc n) all) k p u past at_p)
      ]
        where
          short : (xs : List Top) (k p : ℕ) (u : Top) → k ≤ p → At (take k xs) p u → ⊥
          short xs zero p u past at = at_none p u at
          short [] (suc k) p u past at = at_none p u at
          short (y ∷ ys) (suc k) zero u past at = omega (arith, past)
          short (y ∷ ys) (suc k) (suc p) u past at = short ys k p u (omega (arith, past)) at

  -- where a map isn't empty, it names the Message Index of each channel with a Message in the chunk
  names_all : (n : ℕ) (t : Top) (f : ChunkIndexFields) → At all n t → t.op ≡ 6 → NamesIndexes all n f → EmptyIsRight f t → (j channel : ℕ) (v : Top) (m : MessageFields) → At (inner_tops t) j v → IsMessage v channel m
      → (offset : ℕ) × (entries : List (ℕ × ℕ)) × IsNamed all n channel offset entries × Has f.indexes (channel, offset)
  names_all n t f at six (inl empty) right j channel v m at_j is_m = let none = (right empty).2 in absurd (none (j, v, at_j, is_m.kind))
  names_all n t f at six (inr (first, second, size)) right j channel v m at_j is_m =
      let v9 = valid.v9 in
      elim ((v9 n t at).1 six (followed n t at six)) [
        | inl none ↦ absurd (no_map f.indexes refl none)
        | inr each ↦
            let (k, i, entries, at_k, is_i) = each j channel v m at_j is_m in
            let named : IsNamed all n channel (offset_of all (suc n + k)) entries = record { place = k; top = i; at = at_k; is = is_i; there = refl } in
            (offset_of all (suc n + k), entries, named, second channel (offset_of all (suc n + k)) entries named (has_entries n t at six j channel v m at_j is_m k i entries at_k is_i))
      ]
    where
      no_map : (l : List (ℕ × ℕ)) → f.indexes ≡ l → indexes_behind all n ≡ [] → ⊥
      no_map [] is none = let held = (right is).2 in held (j, v, at_j, is_m.kind)
      no_map (x ∷ xs) is none =
          let (entries, named) = first x.0 x.1 (zero, subst (λ (l : List (ℕ × ℕ)). At l zero (x.0, x.1)) (sym is) refl) in
          at_none named.place named.top (subst (λ (l : List Top). At l named.place named.top) none named.at)

  module _ (chunks : Chunks) (has : Bool) (kept : ChunksOf all chunks) (marked : ChunksNamed all (length tops + length body) chunks) (at_top : (has ≡ true) ↔ HasMessage tops) where
    -- ---- what is full is fully indexed

    no_message : has ≡ false → Each (λ t. t.op ≢ 5) all
    no_message none =
        each_joined (λ t. t.op ≢ 5) tops (body ++ foot ∷ []) (λ n t at five. both_ways has none (at_top.1 (n, t, at, five)))
        (each_joined (λ t. t.op ≢ 5) body (foot ∷ []) (λ n t at. let one = judged n t at in let tail : IsTail t = record { kind = one.0; v6 = one.1 } in tail_not t 5 tail refl)
        (each_cons (λ t. t.op ≢ 5) foot [] (λ e. omega (arith, e, foot_is)) (λ n t at. absurd (at_none n t at))))

    moved : (f : ChunkIndexFields) (k n : ℕ) (c t : Top) (g : ChunkFields) → IsIndexOf all f k c g → k ≡ n → c ≡ t → IsIndexOf all f n t g
    moved f k n c t g of place same = subst (λ (x : Top). IsIndexOf all f n x g) same (subst (λ (p : ℕ). IsIndexOf all f p c g) place of)

    has_index : Each (λ s. s.named ≡ true) chunks.spots → Each (EmptyRight all) body → (n : ℕ) (t : Top) → At all n t → t.op ≡ 6 → HasIndex all n t
    has_index named empties n t at six =
        let spots = kept.spots in
        let (ks, s, at_s, there) = spots.covers n t at six in
        let (i, u, less, at_u, (f, is_f, offset)) = (marked.named ks s at_s).0 (named ks s at_s) in
        let v12 = valid.v12 in
        let right = v12 i u at_u f is_f in
        let of = right.is in
        let place : right.k ≡ n = one_place all right.k n right.chunk t of.at at (sym of.offset ∙ offset ∙ there) in
        let same : right.chunk ≡ t = at_one all n right.chunk t (subst (λ (p : ℕ). At all p right.chunk) place of.at) at in
        let here = moved f right.k n right.chunk t right.shown of place same in
        let (kb, back, at_b) = index_place i u at_u is_f.kind in
        record {
          place = i;
          top = u;
          shown = f;
          at = at_u;
          is = is_f;
          of = (right.shown, here);
          names = names_all n t f at six (subst (λ (p : ℕ). NamesIndexes all p f) place right.names) (empties kb u at_b f n t right.shown is_f here);
        }

    pub full_is : MakesFullyIndexed all body chunks.spots has → FullyIndexed file all
    full_is full =
        let (k, t, at, op) = full.statistics in record {
          valid = valid;
          statistics = (length tops + k, t, body_there tops body foot k t at, body_within tops body foot ended k (at_within body k t at), op);
          no_message = no_message full.no_message;
          chunks = has_index full.named full.empties;
          empty_maps = empty_maps full.empties;
          channels = full.channels;
        }
      where
        empty_maps : Each (EmptyRight all) body → (n : ℕ) (t : Top) (f : ChunkIndexFields) → At all n t → IsChunkIndex t f → f.indexes ≡ [] → (f.start ≡ 0) × (f.end ≡ 0)
        empty_maps empties n t f at is empty =
            let (kb, back, at_b) = index_place n t at is.kind in
            let v12 = valid.v12 in
            let right = v12 n t at f is in
            let both = empties kb t at_b f right.k right.chunk right.shown is right.is empty in
            (both.0, both.1)

    -- ---- and what is fully indexed is full

    unheard : FullyIndexed file all → has ≡ false
    unheard full = by has refl
      where
        by : (b : Bool) → has ≡ b → has ≡ false
        by false is = is
        by true is =
            let (n, t, at, five) = at_top.0 is in
            let none = full.no_message in
            absurd (none n t (at_kept tops (body ++ foot ∷ []) n t at) five)

    all_named : FullyIndexed file all → Each (λ s. s.named ≡ true) chunks.spots
    all_named full k s at_s =
        let spots = kept.spots in
        let (n, t, at, six, there) = spots.shown k s at_s in
        let indexed = full.chunks in
        let index = indexed n t at six in
        let of = index.of.1 in
        let is = index.is in
        let (kb, back, at_b) = index_place index.place index.top index.at is.kind in
        let within = at_within body kb index.top at_b in
        (marked.named k s at_s).1 (index.place, index.top, omega (arith, back, within), index.at, (index.shown, index.is, of.offset ∙ sym there))

    -- a chunk names no compression
    plain : (k : ℕ) (c : Top) (g : ChunkFields) → At all k c → IsChunk c g → g.compression ≡ []
    plain k c g at is = by g.compression refl
      where
        by : (l : List ℕ) → g.compression ≡ l → g.compression ≡ []
        by [] named = named
        by (x ∷ xs) named =
            let none = valid.plain in
            absurd (none k c at (x ∷ xs) (record { shown = g; is = is; named = named; some = λ e. (let size = ap length e in omega (arith, size)) }))

    -- a Message in a chunk shows a channel
    shows : (k : ℕ) (c : Top) (g : ChunkFields) → At all k c → IsChunk c g → (j : ℕ) (v : Top) → At (inner_tops c) j v → v.op ≡ 5 → (channel : ℕ) × (m : MessageFields) × IsMessage v channel m
    shows k c g at is j v at_j five =
        let v8 = valid.v8 in
        let right = v8 k c at g is (plain k c g at is) in
        let v6 : V6 v = right.layouts j v (subst (λ (l : List ℕ). At (records_in l) j v) (chunks_are_opened c g is) at_j) in
        v6.message five

    -- of one chunk there is one Chunk Index
    same_index : (n i : ℕ) (t u : Top) (f g : ChunkIndexFields) → At all n t → At all i u → IsChunkIndex t f → IsChunkIndex u g → g.offset ≡ f.offset → g ≡ f
    same_index n i t u f g at at_u is is_u offset =
        let v12 = valid.v12 in
        elim (cases_lt i n) [
          | inl less ↦ let right = v12 n t at f is in absurd (right.only i u g less at_u is_u offset)
          | inr past ↦ elim (cases_lt n i) [
            | inl less ↦ let right = v12 i u at_u g is_u in absurd (right.only n t f less at is (sym offset))
            | inr other ↦
                let place : i ≡ n = omega (arith, past, other) in
                let same : u ≡ t = at_one all n u t (subst (λ (p : ℕ). At all p u) place at_u) at in
                chunk_index_once t g f (subst (λ (x : Top). IsChunkIndex x g) same is_u) is
          ]
        ]

    empties_right : FullyIndexed file all → Each (EmptyRight all) body
    empties_right full kb t at_b f k c g is of empty =
        let at = body_there tops body foot kb t at_b in
        let maps = full.empty_maps in
        let times = maps (length tops + kb) t f at is empty in
        let chunk = of.is in
        let indexed = full.chunks in
        let index = indexed k c of.at chunk.kind in
        let other = index.of.1 in
        let same = same_index (length tops + kb) index.place t index.top f index.shown at index.at is index.is (other.offset ∙ sym of.offset) in
        (times.0, times.1, λ held. silent index same held)
      where
        silent : (index : HasIndex all k c) → index.shown ≡ f → HasMessage (inner_tops c) → ⊥
        silent index same (j, v, at_j, five) =
            let (channel, m, is_m) = shows k c g of.at of.is j v at_j five in
            let (offset, entries, named, has) = index.names j channel v m at_j is_m in
            at_none has.0 (channel, offset) (subst (λ (l : List (ℕ × ℕ)). At l has.0 (channel, offset)) (ap (λ (x : ChunkIndexFields). x.indexes) same ∙ empty) has.1)

    pub is_full : FullyIndexed file all → MakesFullyIndexed all body chunks.spots has
    is_full full = record {
      no_message = unheard full;
      statistics = statistics full.statistics;
      named = all_named full;
      empties = empties_right full;
      channels = full.channels;
    }
      where
        statistics : (n : ℕ) × (t : Top) × At all n t × InSummary all n × (t.op ≡ 11) → HasStatistics body
        statistics (n, t, at, within, op) =
            let (k, place, less) = within_body tops body foot ended n within in
            (k, t, body_back tops body foot k t less (subst (λ (p : ℕ). At all p t) place at), op)

-- ---- tests

-- of one record
pub right_by : (all : List Top) (n : ℕ) (t : Top) (f : ChunkIndexFields) (b : Bool) → V12 all n t → IsChunkIndex t f → ((k : ℕ) (c : Top) (g : ChunkFields) → IsIndexOf all f k c g → IsTrue b ↔ EmptyIsRight f c) → IsTrue b ↔ EmptyRight all t
right_by all n t f b rule is iff =
    let right = rule f is in (
      (λ e other k c g shown of.
          let same : other ≡ f = chunk_index_once t other f shown is in
          subst (λ (x : ChunkIndexFields). EmptyIsRight x c) (sym same) ((iff k c g (subst (λ (x : ChunkIndexFields). IsIndexOf all x k c g) same of)).0 e)),
      λ each. (iff right.k right.chunk right.shown right.is).1 (each f right.k right.chunk right.shown is right.is),
    )

pub some_statistics : (bytes : List ℕ) (cuts : List Cut) (from to : ℕ) → Spans cuts 11 from to → HasStatistics (cut_tops bytes cuts)
some_statistics bytes cuts from to spans =
    let (t, at, op) = op_there bytes cuts spans.first spans.first_cut spans.at_first in
    (spans.first, t, at, op ∙ spans.first_is)

pub no_statistics : (bytes : List ℕ) (cuts : List Cut) → Each (λ c. c.op ≢ 11) cuts → HasStatistics (cut_tops bytes cuts) → ⊥
no_statistics bytes cuts none (k, t, at, op) =
    let (cut, at_cut) = note_there cuts k (tops_within bytes cuts k t at) in
    let (u, at_u, kind) = op_there bytes cuts k cut at_cut in
    let same = at_one (cut_tops bytes cuts) k u t at_u at in
    none k cut at_cut (sym kind ∙ ap (λ (x : Top). x.op) same ∙ op)
