use Rattle.mcap_model.specs.declared.ends.Stop.TheVariants as stops
use Rattle.record_keeping.proofs.Keepings.{keeps_same}
use Rattle.record_keeping.proofs.Inners.{message_lacks}
use Rattle.record_keeping.proofs.keeping.keep_lone_message.Goals as goal

pub returns-in-Err-clause-takes : goal.returns-in-Err-clause-takes
returns-in-Err-clause-takes g c = message_lacks g.L.LiveStore.state c.args.k.now _ c.args.content.now stops.Memory c.requires.going c.stop_for_memory.ensures.stopped.phase c.stop_for_memory.ensures.grows

pub returns-in-Err-clause-keeps : goal.returns-in-Err-clause-keeps
returns-in-Err-clause-keeps g c = keeps_same g.L.LiveStore.state c.args.k.now.scribe.store _ c.stop_for_memory.ensures.store
