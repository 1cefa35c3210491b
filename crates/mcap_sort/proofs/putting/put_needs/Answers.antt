use Rattle.std.proofs.Common.{refl}
use Rattle.rec_data.specs.Parsed.{channel_fields}
use Rattle.mcap_sort.proofs.Puts.{needs_missing, needs_put, needs_stopped}
use Rattle.mcap_sort.proofs.putting.put_needs.Goals as goal

pub returns-in-None-clause-takes : goal.returns-in-None-clause-takes
returns-in-None-clause-takes g c = needs_missing g.L.LiveStore.state c.args.k.now c.args.declared.now c.args.id c.in-None.ensures

pub returns-in-Err-clause-takes : goal.returns-in-Err-clause-takes
returns-in-Err-clause-takes g c =
    let r = c.in-Some.channel in
    let (n, d, at, same, shown) = c.in-Some.ensures in
    needs_stopped g.L.LiveStore.state c.args.k.now c.put_schema.new.k c.args.declared.now c.args.id d.content r.id (channel_fields r) c.in-Err.stop (n, d, at, same, refl) shown c.in-Err.ensures.stopped c.in-Err.ensures.takes

pub keep_channel-requires-clause-shown : goal.keep_channel-requires-clause-shown
keep_channel-requires-clause-shown g c =
    let (n, d, at, same, shown) = c.in-Some.ensures in
    (d.content, shown)

pub returns-clause-takes : goal.returns-clause-takes
returns-clause-takes g c =
    let r = c.in-Some.channel in
    let (n, d, at, same, shown) = c.in-Some.ensures in
    needs_put g.L.LiveStore.state c.args.k.now c.put_schema.new.k c.keep_channel.new.k c.args.declared.now c.args.id d.content r.id (channel_fields r) (n, d, at, same, refl) shown c.in-Ok.ensures.takes (c.keep_channel.ensures.takes d.content shown)
