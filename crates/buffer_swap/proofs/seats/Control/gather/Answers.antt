use Rattle.std.proofs.Common.{rules, ap, sym, subst, ◌∙◌, List, [], length}
use Rattle.mcap_model.specs.Places.{At}
use Rattle.mcap_model.proofs.Places.{at_last}
use Rattle.buffer_swap.specs.Posts.{Gathered}
use Rattle.buffer_swap.specs.Plays.{Sat, gathered}
use Rattle.buffer_swap.proofs.Keeps.{gathers_seat, settles}
use Rattle.buffer_swap.proofs.seats.Control.gather.Goals as goal

pub join_seat-requires : goal.join_seat-requires
join_seat-requires c = (search rules, search rules, search rules, search rules, gathers_seat _ _ _ _ c.args.ended.publisher.number c.args.self.now.controls c.args.self.now.drains c.args.self.now.seated (search rules) (search rules))

pub load-requires : goal.load-requires
load-requires c = (search rules, search rules, settles _ _ _)

pub returns-clause-unclosed : goal.returns-clause-unclosed
returns-clause-unclosed c = λ still_open.
    let v = c.args.self.now.seat.me.0 in
    let joined = c.join_seat.ensures.2 in
    let all = c.load.ensures.2.1 (ap (λ (m : Sat). m.0.post.controls) joined ∙ c.args.self.now.controls) (ap (λ (m : Sat). m.0.post.closed) joined ∙ still_open) in
    let new = gathered c.args.ended.publisher.seat.me.0 in
    all (length v.post.known) new (subst (λ (l : List Gathered). At l (length v.post.known) new) (sym (ap (λ (m : Sat). m.0.post.known) joined)) (at_last v.post.known new []))
