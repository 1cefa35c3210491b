-- The messages in a piece.
use Rattle.std.specs.Prelude.{◌≡◌, ◌⊎◌, ℕ, ◌+◌, ◌<◌, ◌≤◌, List, [], length, AllPairs, slice_index_or}
use Rattle.mcap_model.specs.Places.{Each}
use Rattle.merge_walk.specs.declared.spans.Span.{Span}
use Rattle.mcap_scan.specs.declared.message_heads.MessageHead.{MessageHead}
use Rattle.mcap_scan.specs.Heads.{heads_in}

-- all were logged in the times of a span
abbrev pub AreInSpan : Span → List MessageHead → Type 0
AreInSpan span heads = Each (λ e. (span.least ≤ e.time) × (e.time ≤ span.greatest)) heads

-- some bytes can be those of a span: there are messages, as many as its, and all were logged in its times
pub record FitsSpan (span : Span) (bytes : List ℕ) : Type 0 where
  pub some : heads_in bytes ≡ [] → ⊥
  pub many : length (heads_in bytes) ≡ span.messages
  pub within : AreInSpan span (heads_in bytes)

-- each stands behind those in front of it
abbrev pub OffsetsRise : List MessageHead → Type 0
OffsetsRise heads = AllPairs (λ a b. a.offset < b.offset) heads

-- a message comes before another of the same piece
abbrev pub HeadBefore : MessageHead → MessageHead → Type 0
HeadBefore a b = (a.time < b.time) ⊎ ((a.time ≡ b.time) × (a.offset < b.offset))

-- each comes before the next
abbrev pub HeadsRise : List MessageHead → Type 0
HeadsRise heads = (k : ℕ) (d : MessageHead) → k + 1 < length heads
    → HeadBefore (slice_index_or heads k d) (slice_index_or heads (k + 1) d)
