use Rattle.std.proofs.Common.{◌≤◌, sym, ap, subst, ◌∙◌, List, ◌∷◌, [], ◌++◌, ℕ}
use Rattle.atomic_table.specs.Table.{opening}
use Rattle.record_core.specs.Desk.{DeskView}
use Rattle.buffer_swap.specs.Posts.{first_post}
use Rattle.buffer_swap.specs.Turns.{KeepsTurnRule, newcomer}
use Rattle.buffer_swap.proofs.Keeps.{opens}
use Rattle.buffer_swap.proofs.seats.Board.open.Goals as goal

pub new-requires : goal.new-requires
new-requires c =
    let desk = c.args.desk in
    let items = c.in-Ok.ensures.items ∙ ap (λ (l : List DeskView). l ++ desk ∷ []) c.new-slots.ensures.items in
    let there = subst (λ (d : DeskView). KeepsTurnRule (opening (0 ∷ 0 ∷ []) (d ∷ []) (newcomer d.limit first_post))) (sym c.requires.new.1) (opens c.requires.new.0 (subst (λ (d : DeskView). 1 ≤ d.limit) c.requires.new.1 c.requires.some)) in
    let limited = subst (λ (n : ℕ). KeepsTurnRule (opening (0 ∷ 0 ∷ []) (desk ∷ []) (newcomer n first_post))) (sym c.limit-limit.ensures.limit) there in
    subst (λ (l : List DeskView). KeepsTurnRule (opening (0 ∷ 0 ∷ []) l (newcomer c.limit-limit.result first_post))) (sym items) limited
