use Rattle.std.proofs.Common.{◌≡◌, ◌∙◌, ℕ, ◌+◌, List, [], ◌∷◌, ◌++◌, length, ap, arith, append_assoc}
use Rattle.std.proofs.lemmas.List.{append-nil}
use Rattle.mcap_wire.specs.Layout.{le, string}
use Rattle.mcap_wire.specs.Maps.{text_map}
use Rattle.rec_data.specs.Parsed.{channel_fields}
use Rattle.rec_data.specs.Records.{channel_text}
use Rattle.rec_data.proofs.OwnedLengths.{length-channel_text}
use Rattle.rec_data.proofs.channel.Channel.frame.Goals as goal

-- pieces that are appended one behind the other
appended : (out head a b c d e one two three four five six : List ℕ) → one ≡ out ++ head → two ≡ one ++ a → three ≡ two ++ b → four ≡ three ++ c → five ≡ four ++ d → six ≡ five ++ e → six ≡ out ++ (head ++ (a ++ (b ++ (c ++ (d ++ (e ++ []))))))
appended out head a b c d e one two three four five six p q r s t u =
    rw (u, t, s, r, q, p) (simp (append_assoc, append-nil))

pub returns-clause-ok : goal.returns-clause-ok
returns-clause-ok c =
    let ch = c.args.self.now in
    let out = c.args.out.now.items in
    let content = channel_text ch.id (channel_fields ch) in
    let size : 16 + length ch.topic.now + length ch.message_encoding.now + c.byte_len.result ≡ length content = omega (arith, c.byte_len.ensures, length-channel_text ch.id (channel_fields ch)) in
    appended out (4 ∷ le 8 (16 + length ch.topic.now + length ch.message_encoding.now + c.byte_len.result)) (le 2 ch.id) (le 2 ch.schema_id) (string ch.topic.now) (string ch.message_encoding.now) (text_map ch.metadata) _ _ _ _ _ _ (c.add_head.ensures.items ∙ ap (λ (l : List ℕ). l ++ (4 ∷ le 8 (16 + length ch.topic.now + length ch.message_encoding.now + c.byte_len.result))) c.make_room.ensures.items) c.add_u16.ensures.items c.add_u16-2.ensures.items c.add_text.ensures.items c.add_text-2.ensures.items c.add_pairs.ensures.items
    ∙ ap (λ (n : ℕ). out ++ (4 ∷ (le 8 n ++ content))) size
