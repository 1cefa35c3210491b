use Rattle.std.proofs.Common.{rules, ◌≡◌, ◌∙◌, ap, take, drop}
use Rattle.mcap_crc.specs.Register.{register_after}
use Rattle.mcap_crc.proofs.Register.{register_after-cut}
use Rattle.mcap_crc.proofs.sliced.after.Goals as goal

pub loop-block-preserved : goal.loop-block-preserved
loop-block-preserved c =
    let cut = register_after-cut c.loop-block.register 16 c.loop-block.rest.now in
    let block : c.in-Some.block.now ≡ take 16 c.loop-block.rest.now = c.in-Some.ensures.cases.0 in
    let tail : c.in-Some.tail.now ≡ drop 16 c.loop-block.rest.now = c.in-Some.ensures.cases.1 in
    ap (λ r. register_after r c.in-Some.tail.now) (c.after_block-register.ensures ∙ ap (register_after c.loop-block.register) block)
    ∙ ap (register_after (register_after c.loop-block.register (take 16 c.loop-block.rest.now))) tail
    ∙ cut ∙ c.loop-block.invariant

pub returns : goal.returns
returns c = search rules
