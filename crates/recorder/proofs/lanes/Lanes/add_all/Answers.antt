use Rattle.std.proofs.Common.{List, length, [], ◌∷◌, ◌++◌, sym, ap, ◌∙◌, append_assoc, length-append, arith}
use Rattle.buffer_swap.specs.declared.view.View.{View}
use Rattle.recorder.proofs.lanes.Lanes.add_all.Goals as goal

pub sources-preserved : goal.sources-preserved
sources-preserved g c =
    let at = c.sources in
    let was = at.invariant in
    let x = c.in-Some.source in
    let steps = c.in-Some.ensures.steps.0 in
    let call = c.add.ensures in
    record {
      all = append_assoc at.yielded (x ∷ []) _ ∙ rw (← steps) was.all;
      left = (let left = was.left in let gone = c.in-Some.ensures.steps.1 in let short = ap length steps in omega arith);
      turn = call.turn ∙ was.turn;
      limit = ap (λ (v : View). v.pass.limit) call.hired ∙ was.limit;
      made = omega (arith, ap (λ (v : View). v.post.made) call.hired, was.made, length-append at.yielded (x ∷ []));
      known = ap (λ (v : View). v.post.known) call.hired ∙ was.known;
      closed = ap (λ (v : View). v.post.closed) call.hired ∙ was.closed;
      turns = λ n lane there. call.turns (λ k l it. was.turns k l it ∙ sym was.turn) n lane there ∙ was.turn;
      passes = call.passes _ was.limit was.passes;
      waits = λ n lane there. call.waits (λ k l it. was.waits k l it ∙ sym was.lossless) n lane there ∙ was.lossless;
      lossless = call.same.0 ∙ was.lossless;
      sources = call.sources ∙ ap (λ (l : List _). l ++ x ∷ []) was.sources;
      room = call.room ∙ was.room;
      feeds = call.same.1 ∙ was.feeds;
      reports = call.same.2 ∙ was.reports;
    }
