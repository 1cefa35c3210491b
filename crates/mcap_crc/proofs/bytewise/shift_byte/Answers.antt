use Rattle.std.proofs.Common.{◌≡◌, ◌/◌, ◌%◌, ◌∙◌, ap, sym, bit_and, bit_xor}
use Rattle.std.proofs.lemmas.Nat.{and_mask}
use Rattle.mcap_crc.specs.Register.{shifted_by}
use Rattle.mcap_crc.proofs.Register.{shifted_by_byte}
use Rattle.mcap_crc.proofs.bytewise.shift_byte.Goals as goal

pub returns : goal.returns
returns c =
    let r = c.args.register in
    let low : bit_and r 255 ≡ r % 256 = and_mask r 8 in
    ap (bit_xor (r / 256)) (c.entry.ensures ∙ ap (shifted_by 8) low) ∙ sym (shifted_by_byte r)
