use Rattle.std.proofs.Common.{◌∙◌}
use Rattle.time_player.proofs.Parts.{one_more}
use Rattle.time_player.proofs.kept.Kept.add.Goals as goal

pub returns-in-Ok-push : goal.returns-in-Ok-push
returns-in-Ok-push c =
    let k = c.args.self.now in
    one_more k.heads.items k.payloads.items c.args.message.now.payload.now _ c.extend_from_slice.new.self.items c.push.new.self.items k.within c.in-Ok.ensures.items c.in-Ok-push.ensures.items (c.len-from.ensures ∙ k.payloads.ok.0) (c.len.ensures ∙ c.extend_from_slice.new.self.ok.0)
