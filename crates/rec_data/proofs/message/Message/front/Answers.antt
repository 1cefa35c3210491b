-- Each number stands behind those that were set before it, and the last ends with the array.
use Rattle.std.proofs.Common.{◌≡◌, ◌∙◌, ℕ, List, [], ◌∷◌, ◌++◌, length, ap, sym, arith, append_assoc}
use Rattle.std.proofs.lemmas.List.{take_all}
use Rattle.mcap_wire.specs.Layout.{le}
use Rattle.rec_data.proofs.message.Message.front.Goals as goal

nested : (a b c d e f : List ℕ) → ((((a ++ b) ++ c) ++ d) ++ e) ++ f ≡ a ++ (b ++ (c ++ (d ++ (e ++ f))))
nested a b c d e f =
    append_assoc (((a ++ b) ++ c) ++ d) e f
    ∙ append_assoc ((a ++ b) ++ c) d (e ++ f)
    ∙ append_assoc (a ++ b) c (d ++ (e ++ f))
    ∙ append_assoc a b (c ++ (d ++ (e ++ f)))

pub returns : goal.returns
returns c =
    let m = c.args.self.now in
    let second = c.set_u16.ensures.front ∙ ap (λ (l : List ℕ). l ++ le 2 m.channel_id) c.set_u64.ensures.front in
    let third = c.set_u32.ensures.front ∙ ap (λ (l : List ℕ). l ++ le 4 m.sequence) second in
    let fourth = c.set_u64-2.ensures.front ∙ ap (λ (l : List ℕ). l ++ le 8 m.log_time) third in
    let fifth = c.set_u64-3.ensures.front ∙ ap (λ (l : List ℕ). l ++ le 8 m.publish_time) fourth in
    let size : length c.set_u64-3.new.bytes ≡ 31 = omega (arith, c.set_u64-3.ensures.len, c.set_u64-2.ensures.len, c.set_u32.ensures.len, c.set_u16.ensures.len, c.set_u64.ensures.len) in
    sym (take_all 31 c.set_u64-3.new.bytes (omega (arith, size)))
    ∙ fifth
    ∙ nested (5 ∷ []) (le 8 c.args.len) (le 2 m.channel_id) (le 4 m.sequence) (le 8 m.log_time) (le 8 m.publish_time)
