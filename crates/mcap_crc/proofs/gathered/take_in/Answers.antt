use Rattle.std.proofs.Common.{◌≡◌, ℕ, ◌+◌, ◌<◌, ◌∙◌, length, get_or, set, take, drop, bit_xor, ap, sym, refl, arith, rules, length-drop}
use Rattle.std.proofs.lemmas.List.{get_or-drop}
use Rattle.std.proofs.lemmas.Nat.{xor_of_8}
use Rattle.mcap_crc.specs.Register.{shifted_by, register_after}
use Rattle.mcap_crc.specs.Gather.{pending, turned}
use Rattle.mcap_crc.proofs.Register.{register_after_more, register_of_nothing}
use Rattle.mcap_crc.proofs.Gathering.{taken_in}
use Rattle.mcap_crc.proofs.gathered.take_in.Goals as goal

pub loop-i-init : goal.loop-i-init
loop-i-init c register stands =
    let same : c.args.at + 0 ≡ c.args.at = omega arith in
    ap (λ k. pending (turned k c.args.window.now)) same ∙ stands ∙ ap (shifted_by 19200) (register_of_nothing register)

pub loop-i-preserved : goal.loop-i-preserved
loop-i-preserved c register stands =
    let window = c.loop-i.window in
    let block = c.args.block.now in
    let i = c.loop-i.i in
    let at : ℕ = c.args.at + i in
    let near : ℕ = c.args.near + i in
    let middle : ℕ = c.args.middle + i in
    let far : ℕ = c.args.far + i in
    let long : length window ≡ 2400 = omega arith in
    let byte : (k : ℕ) → get_or window k 0 < 256 = λ k. search rules in
    let byte_of_block : get_or block at 0 < 256 = search rules in
    let taken : ℕ = bit_xor (bit_xor (bit_xor (bit_xor (get_or window at 0) (get_or block at 0)) (get_or window near 0)) (get_or window middle 0)) (get_or window far 0) in
    let small : taken < 256 =
    xor_of_8 _ _ (xor_of_8 _ _ (xor_of_8 _ _ (xor_of_8 _ _ (byte at) byte_of_block) (byte near)) (byte middle)) (byte far) in
    let within : i < length (drop c.args.at block) = omega (arith, length-drop c.args.at block) in
    let before : ℕ = register_after register (take i (drop c.args.at block)) in
    let more : register_after register (take (i + 1) (drop c.args.at block)) ≡ shifted_by 8 (bit_xor before (get_or block at 0)) =
    register_after_more register (drop c.args.at block) i within ∙ ap (λ b. shifted_by 8 (bit_xor before b)) (get_or-drop c.args.at block i 0) in
    let place : c.args.at + (i + 1) ≡ at + 1 = omega arith in
    ap (λ k. pending (turned k (set window at taken))) place
    ∙ taken_in before (get_or block at 0) at near middle far taken window long (omega arith) small (omega arith) (omega arith) (omega arith) refl (c.loop-i.invariant register stands)
    ∙ ap (shifted_by 19200) (sym more)
