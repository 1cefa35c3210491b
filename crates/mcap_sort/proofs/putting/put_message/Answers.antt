use Rattle.mcap_model.specs.declared.ends.Stop.TheVariants as stops
use Rattle.mcap_sort.proofs.Puts.{message_put, message_stopped, message_lacks}
use Rattle.mcap_sort.proofs.putting.put_message.Goals as goal

pub returns-in-Err-clause-takes : goal.returns-in-Err-clause-takes
returns-in-Err-clause-takes g c = message_stopped g.L.LiveStore.state c.args.k.now c.put_needs.new.k c.args.declared.now c.args.id c.args.content.now c.in-Err.stop c.in-Err.ensures.stopped c.in-Err.ensures.takes

pub returns-in-Err-make_room-clause-takes : goal.returns-in-Err-make_room-clause-takes
returns-in-Err-make_room-clause-takes g c =
    message_lacks g.L.LiveStore.state c.args.k.now c.put_needs.new.k _ c.args.declared.now c.args.id c.args.content.now stops.Memory c.stop_for_memory.ensures.gathers c.stop_for_memory.ensures.stopped.phase c.in-Ok.ensures.takes

pub returns-clause-takes : goal.returns-clause-takes
returns-clause-takes g c = message_put g.L.LiveStore.state c.args.k.now c.put_needs.new.k c.keep_message.new.k c.args.declared.now c.args.id c.args.content.now c.in-Ok.ensures.takes c.keep_message.ensures.takes
