use Rattle.std.proofs.Common.{rules, ap, subst, sym, ◌∙◌}
use Rattle.buffer_swap.specs.Posts.{first_post}
use Rattle.buffer_swap.specs.Turns.{newcomer}
use Rattle.buffer_swap.specs.Plays.{starts, drainer}
use Rattle.buffer_swap.specs.Calls.{first_limit, IsNewTurn}
use Rattle.buffer_swap.proofs.Keeps.{starts_drain}
use Rattle.buffer_swap.proofs.turn.Turn.start.Goals as goal

pub split_seat-other-requires : goal.split_seat-other-requires
split_seat-other-requires c =
    let q = subst (IsNewTurn c.args.self.now.board.table.shared.table_id) (sym c.take.ensures.value ∙ c.in-Some.is) c.requires in
    (q.0, search rules, starts_drain _ _ (ap (λ m. m.0.post.controls) q.1) (ap (λ m. m.0.post.drains) q.1) (ap (λ m. m.0.post.seated) q.1) (ap (λ m. m.0.post.started) q.1))

pub returns-clause-control : goal.returns-clause-control
returns-clause-control c =
    let is = sym c.take.ensures.value ∙ c.in-Some.is in
    let q = subst (IsNewTurn c.args.self.now.board.table.shared.table_id) is c.requires in
    ap (λ m. m.0) c.split_seat-other.ensures.2 ∙ ap (λ m. starts m.0) q.1 ∙ ap (λ o. starts (newcomer (first_limit o) first_post)) (sym is)

pub returns-clause-drain : goal.returns-clause-drain
returns-clause-drain c =
    let is = sym c.take.ensures.value ∙ c.in-Some.is in
    let q = subst (IsNewTurn c.args.self.now.board.table.shared.table_id) is c.requires in
    ap (λ m. m.0) c.split_seat-other.ensures.4 ∙ ap (λ m. drainer m.0) q.1 ∙ ap (λ o. drainer (newcomer (first_limit o) first_post)) (sym is)
