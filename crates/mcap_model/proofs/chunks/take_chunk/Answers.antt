use Rattle.std.proofs.Common.{refl, sym, ◌∙◌, inr}
use Rattle.mcap_model.specs.Tops.{records_in}
use Rattle.mcap_model.proofs.Spans.{times_right, times_wrong, test_holds, test_fails}
use Rattle.mcap_model.proofs.chunks.take_chunk.Goals as goal

pub returns-then-are : goal.returns-then-are
returns-then-are c = λ before stands.
    let all = c.in-Ok.ensures before stands in
    let times = c.in-Ok.times in
    let chunk = c.args.chunk.now in (
      record {
        size = c.if-chunk.false;
        crc = c.has_crc.ensures.0 c.if-not-has_crc.false;
        framed = all.0.framed;
        kinds = all.0.kinds;
        layouts = all.0.layouts;
        times = times_right (records_in chunk.records.now) times chunk.message_start_time chunk.message_end_time all.3
            (test_holds times.any times.least chunk.message_start_time times.greatest chunk.message_end_time (sym c.are.ensures ∙ c.if-are.true));
      },
      all.1,
      all.2,
    )

pub returns-in-Ok : goal.returns-in-Ok
returns-in-Ok c = λ before stands.
    let all = c.in-Ok.ensures before stands in
    let times = c.in-Ok.times in
    let chunk = c.args.chunk.now in
    let fails = test_fails times.any times.least chunk.message_start_time times.greatest chunk.message_end_time (sym c.are.ensures ∙ c.if-are.false) in
    inr (refl, λ right. times_wrong (records_in chunk.records.now) times chunk.message_start_time chunk.message_end_time all.3 fails.0 fails.1 right.times)
