-- Where messages stand in a file, and when they were logged, as a function of its records.
use Rattle.std.specs.Prelude.{ℕ, ◌+◌, List, ◌∷◌, [], ◌++◌, length, if◌then◌else◌, Option, Some, None}
use Rattle.mcap_model.specs.Tops.{Top, top_bytes, is_chunk, inner_tops, chunk_records}
use Rattle.merge_walk.specs.declared.spans.Span.{Span}
use Rattle.merge_walk.specs.declared.times.Extent.{Extent}
use Rattle.merge_walk.specs.Times.{times_of, extent_of}

-- the span of so many messages with that extent, if there are any
abbrev pub spans_made : ℕ → ℕ → ℕ → ℕ → Option Extent → List Span
spans_made offset at len count None = []
spans_made offset at len count (Some e) = record
    { offset = offset; at = at; length = len; messages = count; least = e.least; greatest = e.greatest; in_order = e.in_order }
    ∷ []

-- that of messages with those times
abbrev pub spans_timed : ℕ → ℕ → ℕ → List ℕ → List Span
spans_timed offset at len times = spans_made offset at len (length times) (extent_of times)

-- of a chunk that isn't compressed
abbrev pub spans_in_chunk : ℕ → Top → List Span
spans_in_chunk offset t = spans_timed offset (offset + 49) (length (chunk_records t.content)) (times_of (inner_tops t))

-- of another record
abbrev pub spans_alone : ℕ → Top → List Span
spans_alone offset t = spans_timed offset offset (length (top_bytes t)) (times_of (t ∷ []))

-- the span of the messages that the record at that offset is or holds, if there are any
abbrev pub spans_one : ℕ → Top → List Span
spans_one offset t = if is_chunk t then spans_in_chunk offset t else spans_alone offset t

-- those of records, the first of which stands at that offset
abbrev pub spans_from : ℕ → List Top → List Span
spans_from at [] = []
spans_from at (t ∷ ts) = spans_one at t ++ spans_from (at + length (top_bytes t)) ts

-- those of a file
abbrev pub spans_of : List Top → List Span
spans_of tops = spans_from 8 tops
