use Rattle.std.proofs.Common.{◌≡◌, ◌∙◌, ℕ, ◌+◌, List, ◌∷◌, ◌++◌, length, ap, sym, arith, append_assoc, length-append}
use Rattle.mcap_wire.specs.Layout.{le}
use Rattle.mcap_wire.proofs.Numbers.{length-le}
use Rattle.rec_data.proofs.message.Message.frame.Goals as goal

-- the front of a record and its data, appended one behind the other
two_parts : (out a b c d e payload : List ℕ) (op : ℕ) → (out ++ (op ∷ (a ++ (b ++ (c ++ (d ++ e)))))) ++ payload ≡ out ++ (op ∷ (a ++ (b ++ (c ++ (d ++ (e ++ payload))))))
two_parts out a b c d e payload op =
    append_assoc out (op ∷ (a ++ (b ++ (c ++ (d ++ e))))) payload
    ∙ ap (λ (l : List ℕ). out ++ (op ∷ l))
    (append_assoc a (b ++ (c ++ (d ++ e))) payload
    ∙ ap (λ (l : List ℕ). a ++ l)
    (append_assoc b (c ++ (d ++ e)) payload
    ∙ ap (λ (l : List ℕ). b ++ l)
    (append_assoc c (d ++ e) payload
    ∙ ap (λ (l : List ℕ). c ++ l) (append_assoc d e payload))))

-- how long the content is
content_length : (channel sequence log publish : ℕ) (payload : List ℕ) → length (le 2 channel ++ (le 4 sequence ++ (le 8 log ++ (le 8 publish ++ payload)))) ≡ 22 + length payload
content_length channel sequence log publish payload =
    omega (
      arith,
      length-append (le 2 channel) (le 4 sequence ++ (le 8 log ++ (le 8 publish ++ payload))),
      length-append (le 4 sequence) (le 8 log ++ (le 8 publish ++ payload)),
      length-append (le 8 log) (le 8 publish ++ payload),
      length-append (le 8 publish) payload,
      length-le 2 channel,
      length-le 4 sequence,
      length-le 8 log,
      length-le 8 publish,
    )

pub returns-clause-ok : goal.returns-clause-ok
returns-clause-ok c =
    let m = c.args.self.now in
    let out = c.args.out.now.items in
    let payload = m.payload.now in
    let size : 22 + length payload ≡ length (le 2 m.channel_id ++ (le 4 m.sequence ++ (le 8 m.log_time ++ (le 8 m.publish_time ++ payload)))) = sym (content_length m.channel_id m.sequence m.log_time m.publish_time payload) in
    c.add_bytes-2.ensures.items
    ∙ ap (λ (l : List ℕ). l ++ payload) (c.add_bytes.ensures.items ∙ ap (λ (l : List ℕ). l ++ c.front.result) c.make_room.ensures.items ∙ ap (λ (l : List ℕ). out ++ l) c.front.ensures)
    ∙ two_parts out (le 8 (22 + length payload)) (le 2 m.channel_id) (le 4 m.sequence) (le 8 m.log_time) (le 8 m.publish_time) payload 5
    ∙ ap (λ (n : ℕ). out ++ (5 ∷ (le 8 n ++ (le 2 m.channel_id ++ (le 4 m.sequence ++ (le 8 m.log_time ++ (le 8 m.publish_time ++ payload))))))) size
