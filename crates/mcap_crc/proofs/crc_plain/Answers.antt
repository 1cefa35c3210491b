use Rattle.std.proofs.Common.{◌∙◌, ap, sym, bit_xor}
use Rattle.mcap_crc.proofs.Register.{remainder_is}
use Rattle.mcap_crc.proofs.crc_plain.Goals as goal

pub returns : goal.returns
returns c = ap (λ r. bit_xor r 0xFFFF_FFFF) c.after.ensures ∙ sym (remainder_is c.args.bytes.now (λ i. (c.type_inv.bytes i).fits))
