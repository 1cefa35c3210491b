use Rattle.std.proofs.Common.{◌∙◌, ap, sym, bit_xor}
use Rattle.mcap_crc.specs.Remainder.{message_bits}
use Rattle.mcap_crc.proofs.Register.{remainder-append, run}
use Rattle.mcap_crc.proofs.laws.of_a_longer_message.Goals as goal

pub returns : goal.returns
returns c first second more same =
    remainder-append first more
    ∙ ap (λ r. bit_xor 0xFFFF_FFFF (run (bit_xor 0xFFFF_FFFF r) (message_bits more))) same
    ∙ sym (remainder-append second more)
