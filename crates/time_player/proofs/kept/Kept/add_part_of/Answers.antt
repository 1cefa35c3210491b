use Rattle.std.proofs.Common.{◌∙◌}
use Rattle.time_player.proofs.Parts.{one_more}
use Rattle.time_player.proofs.kept.Kept.add_part_of.Goals as goal

pub returns-in-Ok-push-clause-keeps : goal.returns-in-Ok-push-clause-keeps
returns-in-Ok-push-clause-keeps g c =
    let k = c.args.self.now in
    let a = c.in-Ok.ensures.gives in
    record {
      payload = a.part;
      is_kept = one_more k.heads.items k.payloads.items a.part _ c.add_part.new.out.items c.push.new.self.items k.within a.added c.in-Ok-push.ensures.items (c.len-from.ensures ∙ k.payloads.ok.0) (c.len.ensures ∙ c.add_part.new.out.ok.0);
      size = a.size;
      told_is = a.told_is;
    }
