use Rattle.std.proofs.Common.{◌≡◌, ◌∙◌, ap, take}
use Rattle.std.proofs.lemmas.List.{take_all}
use Rattle.mcap_crc.specs.Register.{register_after}
use Rattle.mcap_crc.proofs.Register.{register_after_more, register_of_nothing}
use Rattle.mcap_crc.proofs.bytewise.after.Goals as goal

pub loop-byte-init : goal.loop-byte-init
loop-byte-init c = register_of_nothing c.args.start

pub loop-byte-preserved : goal.loop-byte-preserved
loop-byte-preserved c =
    let more = register_after_more c.args.start c.args.bytes.now c.loop-byte.byte-index c.loop-byte-test.true in
    cc

pub returns : goal.returns
returns c =
    let whole : take c.loop-byte.byte-index c.args.bytes.now ≡ c.args.bytes.now = take_all c.loop-byte.byte-index c.args.bytes.now c.loop-byte-test.false in
    c.loop-byte.invariant ∙ ap (register_after c.args.start) whole
