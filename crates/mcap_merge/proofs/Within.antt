-- Spans stand in their records, one behind the other.
use Rattle.std.proofs.Common.{◌≡◌, ◌⊎◌, ℕ, zero, suc, ◌+◌, ◌<◌, ◌≤◌, Bool, true, false, List, [], ◌∷◌, length, drop, Some, None, refl, sym, ap, subst, inl, inr, arith, length-append, length-take, length-drop}
use Rattle.std.specs.Prelude.{if◌then◌else◌}
use Rattle.std.specs.List.{sum_by}
use Rattle.std.proofs.lemmas.Bool.{cases_lt}
use Rattle.std.proofs.lemmas.Option.{same_Some}
use Rattle.std.proofs.lemmas.List.Sums.{sum_by-append}
use Rattle.mcap_wire.specs.Layout.{text_length, bytes_length}
use Rattle.mcap_model.specs.Places.{At, Has, Each}
use Rattle.mcap_model.specs.Tops.{Top, top_bytes, spelled, is_chunk, chunk_records, records_in, inner_tops}
use Rattle.mcap_model.specs.Kept.{reading_limits, Halts, at_end}
use Rattle.mcap_model.proofs.Places.{at_none, at_kept}
use Rattle.mcap_model.proofs.Lists.{at_either, at_second}
use Rattle.mcap_model.proofs.Readings.{length-top}
use Rattle.mcap_model.proofs.Flaws.{left_size}
use Rattle.mcap_model.proofs.Prefixes.{ends_there}
use Rattle.merge_walk.specs.declared.spans.Span.{Span}
use Rattle.merge_walk.specs.Times.{times_of, extent_of}
use Rattle.merge_walk.specs.Spans.{spans_made, spans_timed, spans_in_chunk, spans_alone, spans_one, spans_from, spans_of}

-- ---- one record

-- a span stands in the record at that offset
pub record IsInRecord (offset : ℕ) (t : Top) (s : Span) : Type 0 where
  pub at : offset ≤ s.at
  pub end : s.at + s.length ≤ offset + length (top_bytes t)

-- records that are some stand behind 40 bytes of a Chunk's content
chunk_room : (content : List ℕ) → 0 < length (chunk_records content) → 40 + length (chunk_records content) ≤ length content
unfolding chunk_records
chunk_room content some =
    let at = 32 + text_length content 28 in
    omega (arith, some, length-take (bytes_length 8 content at) (drop (at + 8) content), length-drop (at + 8) content)

record IsMade (at len : ℕ) (s : Span) : Type 0 where
  at_is : s.at ≡ at
  length_is : s.length ≡ len

only_made : (at len : ℕ) (x s : Span) → x.at ≡ at → x.length ≡ len → (n : ℕ) → At (x ∷ []) n s → IsMade at len s
only_made at len x s begins size zero there = subst (IsMade at len) (same_Some x s there) (record { at_is = begins; length_is = size })
only_made at len x s begins size (suc n) there = absurd (at_none n s there)

is_made : (offset at len : ℕ) (times : List ℕ) (s : Span) → Has (spans_timed offset at len times) s → IsMade at len s
is_made offset at len times s has = (elim (extent_of times) as (λ o. Has (spans_made offset at len (length times) o) s → IsMade at len s) [
  | None ↦ λ none. absurd (at_none none.0 s none.1)
  | Some e ↦ λ some. only_made at len (record { offset = offset; at = at; length = len; messages = length times; least = e.least; greatest = e.greatest; in_order = e.in_order }) s refl refl some.0 some.1
]) has

-- without bytes there is none
none_made : (offset at len : ℕ) (bytes : List ℕ) (s : Span) → length bytes ≡ 0 → Has (spans_timed offset at len (times_of (records_in bytes))) s → ⊥
unfolding records_in
none_made offset at len [] s none has = at_none has.0 s has.1
none_made offset at len (b ∷ bs) s none has = omega (arith, none)

in_chunk : (offset : ℕ) (t : Top) (s : Span) → Has (spans_in_chunk offset t) s → IsInRecord offset t s
in_chunk offset t s has =
    let size = length (chunk_records t.content) in
    let made = is_made offset (offset + 49) size (times_of (inner_tops t)) s has in
    elim (cases_lt 0 size) [
      | inr none ↦ absurd (none_made offset (offset + 49) size (chunk_records t.content) s (omega (arith, none)) has)
      | inl some ↦ record { at = omega (arith, made.at_is); end = omega (arith, made.at_is, made.length_is, chunk_room t.content some, length-top t) }
    ]

pub span_in : (offset : ℕ) (t : Top) (s : Span) → Has (spans_one offset t) s → IsInRecord offset t s
span_in offset t s has = by (is_chunk t) has
  where
    by : (b : Bool) → Has (if b then spans_in_chunk offset t else spans_alone offset t) s → IsInRecord offset t s
    by true there = in_chunk offset t s there
    by false there =
        let made = is_made offset offset (length (top_bytes t)) (times_of (t ∷ [])) s there in
        record { at = omega (arith, made.at_is); end = omega (arith, made.at_is, made.length_is) }

-- ---- all records

pub spans_in : (at : ℕ) (tops : List Top) (s : Span) → Has (spans_from at tops) s → s.at + s.length ≤ at + length (spelled tops)
spans_in at [] s has = absurd (at_none has.0 s has.1)
spans_in at (t ∷ ts) s has =
    let size = length-append (top_bytes t) (spelled ts) in
    elim (at_either (spans_one at t) (spans_from (at + length (top_bytes t)) ts) has.0 s has.1) [
      | inl first ↦ let there = span_in at t s (has.0, first) in omega (arith, there.end, size)
      | inr (k, is, behind) ↦ omega (arith, spans_in (at + length (top_bytes t)) ts s (k, behind), size)
    ]

-- a file that is read to its Data End has all of its spans
pub halts_within : (bytes : List ℕ) (tops : List Top) (end : ℕ) → Halts reading_limits bytes tops (at_end end) → Each (λ x. x.at + x.length ≤ length bytes) (spans_of tops)
halts_within bytes tops end halts n s at =
    let (rest, stands, ended) = ends_there bytes tops (at_end end) end halts.there refl in
    omega (arith, spans_in 8 tops s (n, at), left_size bytes tops rest stands)

-- ---- how many bytes they have together

abbrev pub spans_length : List Span → ℕ
spans_length spans = sum_by (λ x. x.length) spans

made_length : (offset at len : ℕ) (times : List ℕ) → (spans_timed offset at len times ≡ []) ⊎ ((s : Span) × (spans_timed offset at len times ≡ s ∷ []))
made_length offset at len times = elim (extent_of times) as (λ o. (spans_made offset at len (length times) o ≡ []) ⊎ ((s : Span) × (spans_made offset at len (length times) o ≡ s ∷ []))) [
  | None ↦ inl refl
  | Some e ↦ inr (record { offset = offset; at = at; length = len; messages = length times; least = e.least; greatest = e.greatest; in_order = e.in_order }, refl)
]

one_or_none : (offset : ℕ) (t : Top) → (spans_one offset t ≡ []) ⊎ ((s : Span) × (spans_one offset t ≡ s ∷ []))
one_or_none offset t = by (is_chunk t)
  where
    by : (b : Bool) → ((if b then spans_in_chunk offset t else spans_alone offset t) ≡ []) ⊎ ((s : Span) × ((if b then spans_in_chunk offset t else spans_alone offset t) ≡ s ∷ []))
    by true = made_length offset (offset + 49) (length (chunk_records t.content)) (times_of (inner_tops t))
    by false = made_length offset offset (length (top_bytes t)) (times_of (t ∷ []))

-- spans from an offset on that end within so many bytes have no more of these than stand behind that offset, or none
pub spans_apart : (at known : ℕ) (tops : List Top) → Each (λ x. x.at + x.length ≤ known) (spans_from at tops) → (at + spans_length (spans_from at tops) ≤ known) ⊎ (spans_length (spans_from at tops) ≡ 0)
spans_apart at known [] within = inr refl
spans_apart at known (t ∷ ts) within =
    let next = at + length (top_bytes t) in
    let rest = spans_apart next known ts (λ n x there. within (length (spans_one at t) + n) x (at_second (spans_one at t) (spans_from next ts) n x there)) in
    let sum = sum_by-append (λ x. x.length) (spans_one at t) (spans_from next ts) in
    elim (one_or_none at t) [
      | inl none ↦
          let no_length : spans_length (spans_one at t) ≡ 0 = ap spans_length none in
          elim rest [
            | inl fits ↦ inl (omega (arith, fits, sum, no_length))
            | inr zero_there ↦ inr (omega (arith, zero_there, sum, no_length))
          ]
      | inr (s, one) ↦
          let is : At (spans_one at t) 0 s = subst (λ (l : List Span). At l 0 s) (sym one) refl in
          let there = span_in at t s (0, is) in
          let one_length : spans_length (spans_one at t) ≡ 0 + s.length = ap spans_length one in
          let size : spans_length (spans_one at t) ≡ s.length = omega (arith, one_length) in
          let ends = within 0 s (at_kept (spans_one at t) (spans_from next ts) 0 s is) in
          elim rest [
            | inl fits ↦ inl (omega (arith, fits, sum, size, there.at, there.end))
            | inr zero_there ↦ inl (omega (arith, zero_there, sum, size, there.at, there.end, ends))
          ]
    ]
