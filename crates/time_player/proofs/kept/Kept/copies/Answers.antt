use Rattle.std.proofs.Common.{◌++◌, ◌∷◌, [], List, take, sym, ap, ◌∙◌}
use Rattle.mcap_model.specs.declared.replay.Shown.{Shown}
use Rattle.mcap_model.proofs.OneMore.{taken_more}
use Rattle.time_player.specs.Keeping.{kept_in}
use Rattle.time_player.specs.Lent.{shown_of}
use Rattle.time_player.proofs.kept.Kept.copies.Goals as goal

pub messages-preserved : goal.messages-preserved
messages-preserved c =
    let all = kept_in c.args.self.now in
    c.in-Ok-push.ensures.items
    ∙ ap (λ (l : List Shown). l ++ c.in-Ok.copy ∷ []) c.messages.invariant
    ∙ ap (λ (s : Shown). take c.messages.i all ++ s ∷ []) c.in-Ok.ensures
    ∙ sym (taken_more all c.messages.i (shown_of c.get.result) c.get.ensures)

pub messages-init : goal.messages-init
messages-init c = c.new-shown.ensures.items
