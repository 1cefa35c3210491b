use Rattle.std.proofs.Common.{◌∙◌, ap, sym, bit_xor}
use Rattle.mcap_crc.specs.Register.{register_after}
use Rattle.mcap_crc.proofs.Register.{remainder-append_bytes}
use Rattle.mcap_crc.proofs.Crc.update.Goals as goal

pub returns : goal.returns
returns c before stands =
    let bytes = c.args.bytes.now in
    ap (λ r. bit_xor r 0xFFFF_FFFF)
    (c.after.ensures ∙ ap (λ r. register_after (bit_xor r 0xFFFF_FFFF) bytes) (c.self.view_is ∙ stands))
    ∙ sym (remainder-append_bytes before bytes (λ i. (c.type_inv.bytes i).fits))
