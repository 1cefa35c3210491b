-- What spans say of messages.
use Rattle.std.specs.Prelude.{◌≡◌, ℕ, [], length}
use Rattle.mcap_model.specs.Places.{Has}
use Rattle.mcap_model.specs.Tops.{Top, unchunked}
use Rattle.merge_walk.specs.declared.spans.Span.{Span}
use Rattle.merge_walk.specs.Times.{times_of}
use Rattle.merge_walk.specs.Surveys.{TimesSpan}
use Rattle.merge_walk.specs.Spans.{spans_one}

-- a span stands at its record's offset, its times are those of the record's messages, and it has as many
abbrev pub SpansTellTimes : Type 0
SpansTellTimes = (offset : ℕ) (t : Top) (s : Span) → Has (spans_one offset t) s
    → (s.offset ≡ offset) × TimesSpan (times_of (unchunked t)) s.least s.greatest s.in_order
    × (s.messages ≡ length (times_of (unchunked t)))

-- a record without a span is and holds no Message whose content meets its layout
abbrev pub SilentRecordsHaveNone : Type 0
SilentRecordsHaveNone = (offset : ℕ) (t : Top) → spans_one offset t ≡ [] → times_of (unchunked t) ≡ []
