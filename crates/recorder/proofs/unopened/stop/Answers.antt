use Rattle.std.proofs.Common.{length, sym, ap, ◌∙◌}
use Rattle.feed_lane.specs.Pass.{PassState}
use Rattle.buffer_swap.specs.Posts.{Post}
use Rattle.recorder.proofs.Draining.{end_there}
use Rattle.recorder.proofs.unopened.stop.Goals as goal

pub returns-then-is_some-clause-over : goal.returns-then-is_some-clause-over
returns-then-is_some-clause-over g c =
    let (found, so, cache, count, at, end, same, stood) = c.in-Err.ensures.swapped in
    let (last, is) = end_there c.in-Err.empty.end (sym c.is_some.ensures ∙ c.if-is_some.true) in (
      last,
      record {
        found = found;
        shown = ap (λ (p : PassState). p.found) so.1;
        ended = sym end ∙ is;
        count = count ∙ ap (λ (p : Post). length p.taken) (sym same);
      },
    )
