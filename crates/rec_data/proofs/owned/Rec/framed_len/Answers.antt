use Rattle.std.proofs.Common.{◌≡◌, ◌∙◌, ℕ, ◌+◌, List, length, sym, subst, ap}
use Rattle.rec_data.specs.declared.owned.Rec.{Rec}
use Rattle.rec_data.specs.Owned.{rec_bytes, def_fields}
use Rattle.mcap_wire.specs.Maps.{pair_texts}
use Rattle.rec_data.proofs.OwnedLengths.{schema_len, channel_len, message_len, extra_len}
use Rattle.rec_data.proofs.owned.Rec.framed_len.Goals as goal

pub returns-in-Schema : goal.returns-in-Schema
returns-in-Schema c =
    let P : Rec → Type 0 = λ r. 23 + (length c.as_str.result.now + length c.as_str-in-Schema.result.now) + length c.as_slice.result.now ≡ length (rec_bytes r) in
    subst P (sym c.in-Schema.is) (schema_len c.in-Schema.id (def_fields c.in-Schema.schema) _ _ _ c.as_str.ensures.same c.as_str-in-Schema.ensures.same c.as_slice.ensures)

pub returns-in-Channel : goal.returns-in-Channel
returns-in-Channel c =
    let P : Rec → Type 0 = λ r. 25 + (length c.as_str-in-Channel.result.now + length c.as_str-in-Channel-2.result.now) + c.byte_len.result ≡ length (rec_bytes r) in
    let pairs = c.byte_len.ensures ∙ ap (λ (m : List (List ℕ × List ℕ)). length (pair_texts m)) (c.of.ensures ∙ c.as_slice-in-Channel.ensures.same) in
    subst P (sym c.in-Channel.is) (channel_len c.in-Channel.id (record { schema = c.in-Channel.schema_id; topic = c.in-Channel.topic; encoding = c.in-Channel.message_encoding; metadata = c.in-Channel.metadata }) _ _ _ c.as_str-in-Channel.ensures.same c.as_str-in-Channel-2.ensures.same pairs)

pub returns-in-Message : goal.returns-in-Message
returns-in-Message c =
    let P : Rec → Type 0 = λ r. 31 + length c.as_slice-in-Message.result.now ≡ length (rec_bytes r) in
    subst P (sym c.in-Message.is) (message_len c.in-Message.channel_id (record { sequence = c.in-Message.sequence; log_time = c.in-Message.log_time; publish_time = c.in-Message.publish_time; payload = c.in-Message.payload }) _ c.as_slice-in-Message.ensures)

pub returns-in-Extra : goal.returns-in-Extra
returns-in-Extra c =
    let P : Rec → Type 0 = λ r. 9 + length c.as_slice-in-Extra.result.now ≡ length (rec_bytes r) in
    subst P (sym c.in-Extra.is) (extra_len c.in-Extra.op c.in-Extra.content _ c.as_slice-in-Extra.ensures)
