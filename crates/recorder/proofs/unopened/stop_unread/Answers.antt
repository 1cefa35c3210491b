use Rattle.std.proofs.Common.{ap, ◌∙◌}
use Rattle.recorder.proofs.Assembling.{none_taken}
use Rattle.recorder.proofs.unopened.stop_unread.Goals as goal

pub returns-clause-none : goal.returns-clause-none
returns-clause-none g c =
    let (end, over) = c.stop.ensures.over in
    let met = c.meet.ensures.met end over in
    ap (λ m. m.0.post.taken) c.meet.ensures.drain.1 ∙ none_taken c.places_are_known.ensures _ _ _ _ _ end c.requires.fresh.known met
