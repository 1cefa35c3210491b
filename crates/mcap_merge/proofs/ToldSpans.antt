-- Where the spans of good records stand in their file.
use Rattle.std.proofs.Common.{◌≡◌, ◌⊎◌, ℕ, suc, ◌+◌, ◌<◌, ◌≤◌, Bool, true, false, List, [], ◌∷◌, ◌++◌, length, take, drop, cond, refl, sym, ap, subst, inl, inr, ◌∙◌, append-nil, append_assoc, Option, Some, None, arith}
use Rattle.std.specs.Prelude.{AllPairs, if◌then◌else◌}
use Rattle.std.proofs.lemmas.Bool.{cases_order, eqb-true}
use Rattle.std.proofs.lemmas.List.{drop_at, drop-drop, length-append, take_at}
use Rattle.std.proofs.lemmas.Grind.{flat_map-append}
use Rattle.mcap_wire.specs.Layout.{le, string, prefixed, magic}
use Rattle.mcap_wire.proofs.Numbers.{length-le}
use Rattle.mcap_model.specs.Places.{At, Has, Each}
use Rattle.mcap_model.specs.Tops.{Top, top_bytes, spelled, offset_behind, is_chunk, records_in, chunk_records, inner_tops, unchunked}
use Rattle.mcap_model.specs.Fields.{ChunkFields, IsChunk}
use Rattle.mcap_model.specs.Kept.{reading_limits, Fits, Good}
use Rattle.mcap_model.specs.Laws.{IsFound}
use Rattle.mcap_model.proofs.Places.{at_none, at_one, at_last}
use Rattle.mcap_model.proofs.Lists.{pairs_at, pairs_cons}
use Rattle.mcap_model.proofs.Members.{has_one}
use Rattle.mcap_model.proofs.Readings.{short_there, fits_opcode, length-top}
use Rattle.mcap_model.proofs.Unpacking.{chunks_are_opened}
use Rattle.mcap_model.proofs.Walks.{found_next, none_next}
use Rattle.mcap_model.proofs.Flat.{named_or}
use Rattle.mcap_model.proofs.PlacesApart.{pairs_joined, none_each, none_pairs}
use Rattle.merge_walk.specs.declared.spans.Span.{Span}
use Rattle.merge_walk.specs.Times.{times_of, extent_of}
use Rattle.merge_walk.specs.Surveys.{TimesSpan}
use Rattle.merge_walk.specs.Spans.{spans_made, spans_timed, spans_in_chunk, spans_alone, spans_one, spans_from, spans_of}
use Rattle.merge_walk.proofs.Telling.{spans_tell_times}
use Rattle.mcap_merge.proofs.Laid.{laid}

-- it stands behind some records which it fits
abbrev pub IsGoodTop : Top → Type 0
IsGoodTop t = (before : List Top) × Fits reading_limits before t

pub good_tops : (tops : List Top) → Good reading_limits tops → Each IsGoodTop tops
good_tops tops good n t at = (take n tops, good n t at)

is_found : (t : Top) → IsGoodTop t → IsFound t
is_found t (before, fits) = record { valid = fits_opcode reading_limits before t fits; short = short_there (offset_behind before) (length t.content) fits.within }

-- ---- the records of a chunk

-- what stands in a chunk without a compression in front of its records
chunk_head : ChunkFields → List ℕ
chunk_head g = le 8 g.start ++ (le 8 g.end ++ (le 8 g.size ++ (le 4 g.crc ++ (string [] ++ le 8 (length g.records)))))

length-chunk_head : (g : ChunkFields) → length (chunk_head g) ≡ 40
unfolding chunk_head
length-chunk_head g = simp (length-append, length-le) refl

grouped : (g : ChunkFields) (rest : List ℕ) → le 8 g.start ++ (le 8 g.end ++ (le 8 g.size ++ (le 4 g.crc ++ (string [] ++ (prefixed 8 g.records ++ rest))))) ≡ chunk_head g ++ (g.records ++ rest)
unfolding chunk_head
grouped g rest = simp append_assoc refl

chunk_split : (t : Top) (g : ChunkFields) → IsChunk t g → g.compression ≡ [] → (rest : List ℕ) × (t.content ≡ chunk_head g ++ (g.records ++ rest))
chunk_split t g is plain =
    let rest = is.layout.0 in
    let row = is.layout.1 in (
      rest,
      row.spelled_there
          ∙ ap (λ (name : List ℕ). le 8 g.start ++ (le 8 g.end ++ (le 8 g.size ++ (le 4 g.crc ++ (string name ++ (prefixed 8 g.records ++ rest)))))) plain
          ∙ grouped g rest,
    )

regroup : (head records rest behind : List ℕ) → (head ++ (records ++ rest)) ++ behind ≡ head ++ (records ++ (rest ++ behind))
regroup head records rest behind = simp append_assoc refl

-- the records of a chunk stand behind its first 49 bytes
record RecordsThere (t : Top) (records : List ℕ) : Type 0 where
  there : (behind : List ℕ) → (rest : List ℕ) × (drop 49 (top_bytes t ++ behind) ≡ records ++ rest)
  within : 49 + length records ≤ length (top_bytes t)

records_there : (t : Top) (g : ChunkFields) → IsChunk t g → g.compression ≡ [] → RecordsThere t g.records
records_there t g is plain =
    let (rest, split) = chunk_split t g is plain in
    let head = t.op ∷ (le 8 (length t.content) ++ chunk_head g) in
    let head_size : length head ≡ 49 = omega (arith, length-append (le 8 (length t.content)) (chunk_head g), length-le 8 (length t.content), length-chunk_head g) in
    let whole : top_bytes t ≡ head ++ (g.records ++ rest) =
    ap (λ (l : List ℕ). t.op ∷ (le 8 (length t.content) ++ l)) split ∙ ap (λ (l : List ℕ). t.op ∷ l) (sym (append_assoc (le 8 (length t.content)) (chunk_head g) (g.records ++ rest))) in
    record {
      there = λ behind. (
        rest ++ behind,
        ap (λ (l : List ℕ). drop 49 (l ++ behind)) whole
            ∙ ap (drop 49) (regroup head g.records rest behind)
            ∙ drop_at head (g.records ++ (rest ++ behind)) 49 head_size,
      );
      within = omega (arith, ap length whole, length-append head (g.records ++ rest), length-append g.records rest, head_size);
    }

-- ---- a span

-- the span of a record at that offset: its bytes stand in those of the record, and are the records which that is or holds
pub record SpanIs (offset : ℕ) (t : Top) (s : Span) : Type 0 where
  pub offset_is : s.offset ≡ offset
  pub times : TimesSpan (times_of (unchunked t)) s.least s.greatest s.in_order
  pub messages : s.messages ≡ length (times_of (unchunked t))
  pub inset : ℕ
  pub at : s.at ≡ offset + inset
  pub bytes : List ℕ
  pub size : s.length ≡ length bytes
  pub records : records_in bytes ≡ unchunked t
  pub there : (behind : List ℕ) → (rest : List ℕ) × (drop inset (top_bytes t ++ behind) ≡ bytes ++ rest)
  pub within : inset + length bytes ≤ length (top_bytes t)

-- an option holds nothing, or something
none_or_some : {X : Type 0} (o : Option X) → (o ≡ None) ⊎ ((x : X) × (o ≡ Some x))
none_or_some None = inl refl
none_or_some (Some x) = inr (x, refl)

-- a span of some times stands at that place, with that length
made_is : (offset at len : ℕ) (times : List ℕ) (s : Span) → Has (spans_timed offset at len times) s → (s.at ≡ at) × (s.length ≡ len)
made_is offset at len times s has = elim (none_or_some (extent_of times)) [
  | inl none ↦ absurd (at_none has.0 s (subst (λ (l : List Span). At l has.0 s) (ap (spans_made offset at len (length times)) none) has.1))
  | inr (e, some) ↦
      let there : Has (spans_made offset at len (length times) (Some e)) s = subst (λ (l : List Span). Has l s) (ap (spans_made offset at len (length times)) some) has in
      let same = has_one (record { offset = offset; at = at; length = len; messages = length times; least = e.least; greatest = e.greatest; in_order = e.in_order }) s there in
      (ap (λ (x : Span). x.at) same, ap (λ (x : Span). x.length) same)
]

none_in : records_in [] ≡ []
none_in = none_next [] refl

alone_in : (t : Top) → IsFound t → records_in (top_bytes t) ≡ t ∷ []
alone_in t found = found_next (top_bytes t) t [] (sym (append-nil (top_bytes t))) found ∙ ap (λ (l : List Top). t ∷ l) none_in

pub span_is : (offset : ℕ) (t : Top) (s : Span) → IsGoodTop t → Has (spans_one offset t) s → SpanIs offset t s
span_is offset t s good has = by (is_chunk t) refl has
  where
    told : (s.offset ≡ offset) × TimesSpan (times_of (unchunked t)) s.least s.greatest s.in_order × (s.messages ≡ length (times_of (unchunked t)))
    told = spans_tell_times offset t s has

    by : (b : Bool) → is_chunk t ≡ b → Has (if b then spans_in_chunk offset t else spans_alone offset t) s → SpanIs offset t s
    by true is made =
        let fits = good.1 in
        let v6 = fits.v6 in
        let (g, shown) = v6.chunk (eqb-true t.op 6 is) in
        let same : chunk_records t.content ≡ g.records = chunks_are_opened t g shown in
        let records = records_there t g shown (named_or t g g.compression shown refl fits.plain) in
        let there = records.there in
        let (at, size) = made_is offset (offset + 49) (length (chunk_records t.content)) (times_of (inner_tops t)) s made in
        record {
          offset_is = told.0;
          times = told.1;
          messages = told.2;
          inset = 49;
          at = at;
          bytes = g.records;
          size = size ∙ ap length same;
          records = sym (ap records_in same) ∙ sym (ap (λ (c : Bool). cond c (inner_tops t) (t ∷ [])) is);
          there = there;
          within = records.within;
        }
    by false is made =
        let (at, size) = made_is offset offset (length (top_bytes t)) (times_of (t ∷ [])) s made in
        record {
          offset_is = told.0;
          times = told.1;
          messages = told.2;
          inset = 0;
          at = (omega (arith, at));
          bytes = top_bytes t;
          size = size;
          records = alone_in t (is_found t good) ∙ sym (ap (λ (c : Bool). cond c (inner_tops t) (t ∷ [])) is);
          there = λ behind. (behind, refl);
          within = omega arith;
        }

-- ---- in the file

behind_front : (file : List ℕ) (front : List Top) (t : Top) (back : List Top) (rest : List ℕ) → file ≡ magic ++ (spelled (front ++ t ∷ back) ++ rest) → drop (offset_behind front) file ≡ top_bytes t ++ (spelled back ++ rest)
behind_front file front t back rest is =
    let cut : spelled (front ++ t ∷ back) ≡ spelled front ++ (top_bytes t ++ spelled back) = flat_map-append top_bytes front (t ∷ back) in
    let whole : file ≡ (magic ++ spelled front) ++ (top_bytes t ++ (spelled back ++ rest)) =
    is ∙ ap (λ (l : List ℕ). magic ++ (l ++ rest)) cut ∙ parted (spelled front) (top_bytes t) (spelled back) in
    ap (drop (offset_behind front)) whole ∙ drop_at (magic ++ spelled front) (top_bytes t ++ (spelled back ++ rest)) (offset_behind front) (omega (arith, length-append magic (spelled front)))
  where
    parted : (a b c : List ℕ) → magic ++ ((a ++ (b ++ c)) ++ rest) ≡ (magic ++ a) ++ (b ++ (c ++ rest))
    parted a b c = simp append_assoc refl

-- its bytes in the file are those records
pub span_told : (file : List ℕ) (front : List Top) (t : Top) (back : List Top) (rest : List ℕ) (s : Span) → file ≡ magic ++ (spelled (front ++ t ∷ back) ++ rest) → SpanIs (offset_behind front) t s
    → records_in (take s.length (drop s.at file)) ≡ unchunked t
span_told file front t back rest s split is =
    let all = is.there in
    let (more, there) = all (spelled back ++ rest) in
    let here : drop s.at file ≡ is.bytes ++ more =
    ap (λ (n : ℕ). drop n file) is.at
    ∙ sym (drop-drop is.inset (offset_behind front) file)
    ∙ ap (drop is.inset) (behind_front file front t back rest split)
    ∙ there in
    ap records_in (ap (take s.length) here ∙ take_at is.bytes more s.length (sym is.size)) ∙ is.records

-- ---- spans rise

abbrev pub SpanBefore : Span → Span → Type 0
SpanBefore s r = (s.offset < r.offset) × (s.at < r.at)

some_there : (bytes : List ℕ) (records : List Top) (least greatest : ℕ) (in_order : Bool) → records_in bytes ≡ records → TimesSpan (times_of records) least greatest in_order → 1 ≤ length bytes
some_there [] records least greatest in_order is are =
    let has = are.least_there in
    absurd (at_none has.0 least (subst (λ (l : List Top). At (times_of l) has.0 least) (sym is ∙ none_in) has.1))
some_there (b ∷ bs) records least greatest in_order is are = omega arith

-- it begins within its record
begins_within : (offset : ℕ) (t : Top) (s : Span) → SpanIs offset t s → s.at < offset + length (top_bytes t)
begins_within offset t s is =
    let some = some_there is.bytes (unchunked t) s.least s.greatest s.in_order is.records is.times in
    omega (arith, some, is.at, is.within)

made_rise : (offset at len : ℕ) (times : List ℕ) → AllPairs SpanBefore (spans_timed offset at len times)
made_rise offset at len times = elim (none_or_some (extent_of times)) [
  | inl none ↦ subst (AllPairs SpanBefore) (sym (ap (spans_made offset at len (length times)) none)) (none_pairs SpanBefore)
  | inr (e, some) ↦
      let s : Span = record { offset = offset; at = at; length = len; messages = length times; least = e.least; greatest = e.greatest; in_order = e.in_order } in
      subst (AllPairs SpanBefore) (sym (ap (spans_made offset at len (length times)) some)) (pairs_cons SpanBefore s [] (none_each (SpanBefore s)) (none_pairs SpanBefore))
]

one_rise : (offset : ℕ) (t : Top) (b : Bool) → AllPairs SpanBefore (if b then spans_in_chunk offset t else spans_alone offset t)
one_rise offset t true = made_rise offset (offset + 49) (length (chunk_records t.content)) (times_of (inner_tops t))
one_rise offset t false = made_rise offset offset (length (top_bytes t)) (times_of (t ∷ []))

-- those behind an offset
spans_above : (at : ℕ) (tops : List Top) (s : Span) → Each IsGoodTop tops → Has (spans_from at tops) s → (at ≤ s.offset) × (at ≤ s.at)
spans_above at tops s good has =
    let f = laid spans_one spans_from (λ n. refl) (λ n t ts. refl) at tops s has in
    let is = span_is (at + length (spelled f.front)) f.top s (good (length f.front) f.top (subst (λ (l : List Top). At l (length f.front) f.top) (sym f.split) (at_last f.front f.top f.back))) f.has in
    (omega (arith, is.offset_is), omega (arith, is.at))

pub spans_rise : (at : ℕ) (tops : List Top) → Each IsGoodTop tops → AllPairs SpanBefore (spans_from at tops)
spans_rise at [] good = none_pairs SpanBefore
spans_rise at (t ∷ ts) good =
    let later = at + length (top_bytes t) in
    let rest : Each IsGoodTop ts = λ n u there. good (n + 1) u (let is : n + 1 ≡ suc n = omega arith in subst (λ (k : ℕ). At (t ∷ ts) k u) (sym is) there) in
    pairs_joined SpanBefore (spans_one at t) (spans_from later ts) (one_rise at t (is_chunk t)) (spans_rise later ts rest) (λ s r has_s has_r.
    let is = span_is at t s (good 0 t refl) has_s in
    let first = begins_within at t s is in
    let above = spans_above later ts r rest has_r in
    (omega (arith, is.offset_is, above.0, length-top t), omega (arith, first, above.1)))

-- of two spans of a file one stands before the other, or they are one
pub spans_decided : (tops : List Top) (s r : Span) → Good reading_limits tops → Has (spans_of tops) s → Has (spans_of tops) r → (s ≡ r) ⊎ (SpanBefore s r ⊎ SpanBefore r s)
spans_decided tops s r good has_s has_r =
    let rise = spans_rise 8 tops (good_tops tops good) in
    elim (cases_order has_s.0 has_r.0) [
      | inl same ↦ inl (at_one (spans_of tops) has_r.0 s r (subst (λ (n : ℕ). At (spans_of tops) n s) same has_s.1) has_r.1)
      | inr (inl less) ↦ inr (inl (pairs_at SpanBefore (spans_of tops) rise has_s.0 has_r.0 s r less has_s.1 has_r.1))
      | inr (inr less) ↦ inr (inr (pairs_at SpanBefore (spans_of tops) rise has_r.0 has_s.0 r s less has_r.1 has_s.1))
    ]
