use Rattle.std.proofs.Common.{◌≡◌, List, sym, subst, ◌∙◌}
use Rattle.std.specs.Prelude.{◌==◌, filter}
use Rattle.mcap_scan.specs.declared.message_heads.MessageHead.{MessageHead}
use Rattle.index_check.specs.Messages.{MessagesRise}
use Rattle.index_check.proofs.Runs.{run_still_rises}
use Rattle.index_check.proofs.chunk_messages.ChunkMessages.on_channel.Goals as goal

pub returns-clause-rises : goal.returns-clause-rises
returns-clause-rises c = run_still_rises c.deref.result.now _ c.args.channel (subst MessagesRise (sym c.deref.ensures.value) c.self.invariant) c.run_of.ensures

pub returns-clause-among : goal.returns-clause-among
returns-clause-among c =
    subst (λ (l : List MessageHead). c.run_of.result.now ≡ filter (λ heard. heard.channel == c.args.channel) l) (c.deref.ensures.value ∙ c.self.view_is) c.run_of.ensures
