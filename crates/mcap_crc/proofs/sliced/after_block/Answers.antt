use Rattle.std.proofs.Common.{◌≡◌, ◌<◌, ◌^◌, bit_xor, sym, ap, ◌∙◌, arith}
use Rattle.std.specs.Int.{from_le_bytes, w128}
use Rattle.std.proofs.lemmas.Nat.{xor_lt, shr_below}
use Rattle.mcap_crc.specs.Register.{shifted_by}
use Rattle.mcap_crc.proofs.Blocks.{block_parts, register_block}
use Rattle.mcap_crc.proofs.sliced.after_block.Goals as goal

pub overflow_cast-bits-4 : goal.overflow_cast-bits-4
overflow_cast-bits-4 c =
    let small : c.from.result < 2 ^ 128 = omega arith in
    record { fits = shr_below (bit_xor c.from_le_bytes.result c.from.result) 32 96 (xor_lt 128 c.from_le_bytes.result c.from.result c.from_le_bytes.type_inv small) }

pub returns : goal.returns
returns c =
    let read : c.from_le_bytes.result ≡ from_le_bytes w128 c.args.block.now = c.from_le_bytes.ensures in
    let bits : bit_xor c.from_le_bytes.result c.from.result ≡ bit_xor (from_le_bytes w128 c.args.block.now) c.args.register =
    ap (λ x. bit_xor x c.from.result) read ∙ ap (bit_xor (from_le_bytes w128 c.args.block.now)) c.from.ensures in
    rw (c.after_word.ensures, c.after_word-2.ensures, c.after_word-3.ensures, c.after_word-4.ensures)
    (sym (block_parts (bit_xor c.from_le_bytes.result c.from.result))
    ∙ ap (shifted_by 128) bits
    ∙ sym (register_block c.args.register c.args.block.now c.told-block c.fits-block))
