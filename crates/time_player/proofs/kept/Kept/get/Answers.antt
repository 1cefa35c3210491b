use Rattle.std.proofs.Common.{◌<◌, length, ap}
use Rattle.std.proofs.lemmas.List.{length-map}
use Rattle.mcap_wire.specs.Layout.{part}
use Rattle.time_player.proofs.Parts.{shown_there}
use Rattle.time_player.proofs.kept.Kept.get.Goals as goal

pub returns : goal.returns
returns c =
    let k = c.args.self.now in
    let h = c.index-head.result.now in
    let within : c.args.i < length k.heads.items = simp length-map at c.requires in
    shown_there k.heads.items k.payloads.items c.args.i h (part h.from h.to c.deref.result.now) within c.index-head.ensures (ap (part h.from h.to) c.deref.ensures.value)
