use Rattle.std.proofs.Common.{ℕ, false, refl, subst}
use Rattle.std.proofs.lemmas.Bool.{both_ways}
use Rattle.rec_index.specs.Parsed.{chunk_fields}
use Rattle.mcap_model.specs.Fields.{IsChunk}
use Rattle.mcap_model.specs.Rules.{V6}
use Rattle.mcap_model.specs.Made.{top}
use Rattle.file_check.proofs.Followed.{ends_other}
use Rattle.file_check.proofs.last_chunk.LastChunk.take.Goals as goal

pub returns-then-op-ne-CHUNK : goal.returns-then-op-ne-CHUNK
returns-then-op-ne-CHUNK c = λ tops last keeps there.
    let t = top c.args.op c.args.content.now in (
      record { kept = λ e. absurd (both_ways false refl e); none = λ e. ends_other tops t c.if-op-ne-CHUNK.true c.if-op-eq-MESSAGE_INDEX.false },
      c.lacks_index.ensures.keeps c.if-lacks_index.false tops t last c.if-op-eq-MESSAGE_INDEX.false keeps,
    )

pub take_index-requires : goal.take_index-requires
take_index-requires c = subst (λ (n : ℕ). V6 (top n c.args.content.now)) c.if-op-eq-MESSAGE_INDEX.true c.requires

pub unreachable-requires : goal.unreachable-requires
unreachable-requires c = let (f, is) = c.requires.chunk c.if-op-ne-CHUNK.false in c.in-Err.ensures.none f is.layout

pub returns-in-Ok-begin : goal.returns-in-Ok-begin
returns-in-Ok-begin c = λ tops last keeps there.
    let t = top c.args.op c.args.content.now in
    let f = chunk_fields c.in-Ok.chunk in
    let is : IsChunk t f = record { kind = c.if-op-ne-CHUNK.false; layout = c.in-Ok.ensures.shown } in (
      c.in-Ok-begin.ensures tops t f is refl there,
      c.lacks_index.ensures.keeps c.if-lacks_index.false tops t last c.if-op-eq-MESSAGE_INDEX.false keeps,
    )

pub returns-then-lacks_index : goal.returns-then-lacks_index
returns-then-lacks_index c = λ tops last keeps there more.
    c.lacks_index.ensures.lacks c.if-lacks_index.true tops more (top c.args.op c.args.content.now) last c.if-op-eq-MESSAGE_INDEX.false
