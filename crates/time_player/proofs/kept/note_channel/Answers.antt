use Rattle.std.proofs.Common.{◌++◌, ◌∷◌, [], List, sym, subst, ◌∙◌}
use Rattle.mcap_model.specs.declared.table.Declared.{Declared}
use Rattle.time_player.specs.Heads.{Represents}
use Rattle.time_player.proofs.Parts.{known_channel, new_channel}
use Rattle.time_player.proofs.kept.note_channel.Goals as goal

pub returns-in-Some : goal.returns-in-Some
returns-in-Some c = λ before s of was. let f = c.in-Some.ensures in known_channel before c.args.known.now c.args.few.now.items s was (f.0, f.1, f.2, f.3 ∙ sym of)

pub returns-in-Ok-push : goal.returns-in-Ok-push
returns-in-Ok-push c = λ before s of was.
    subst (λ (l : List Declared). Represents (before ++ s ∷ []) l c.push.new.self.items) (sym c.in-Ok.ensures.ok)
    (subst (Represents (before ++ s ∷ []) (c.args.known.now ++ record { id = c.args.head.now.channel; content = [] } ∷ [])) (sym c.in-Ok-push.ensures.items)
    (new_channel before c.args.known.now c.args.few.now.items s c.without_payload.result _ was (c.without_payload.ensures ∙ sym of) c.without_payload.ensures))
