use Rattle.std.proofs.Common.{rules, ◌≡◌, ◌∙◌, ℕ, ◌+◌, List, length, sym, subst, ap, arith, OnErr}
use Rattle.mcap_wire.specs.Maps.{pair_texts}
use Rattle.mcap_wire.specs.Writing.{LacksRoom}
use Rattle.rec_data.specs.declared.owned.Rec.{Rec}
use Rattle.rec_data.specs.Owned.{rec_bytes, def_fields}
use Rattle.rec_data.proofs.OwnedLengths.{schema_len, channel_len, message_len, extra_len}
use Rattle.rec_data.proofs.owned.Rec.frame.Goals as goal

pub returns-in-Schema-clause-full : goal.returns-in-Schema-clause-full
returns-in-Schema-clause-full c =
    let same : 23 + (length c.as_str.result.now + length c.as_str-in-Schema.result.now) + length c.as_slice.result.now ≡ length (rec_bytes c.args.self.now) =
    let P : Rec → Type 0 = λ r. 23 + (length c.as_str.result.now + length c.as_str-in-Schema.result.now) + length c.as_slice.result.now ≡ length (rec_bytes r) in
    subst P (sym c.in-Schema.is) (schema_len c.in-Schema.id (def_fields c.in-Schema.schema) _ _ _ c.as_str.ensures.same c.as_str-in-Schema.ensures.same c.as_slice.ensures)
    in
    let sum : 23 + length c.as_str.result.now + length c.as_str-in-Schema.result.now + length c.as_slice.result.now ≡ length (rec_bytes c.args.self.now) = omega (arith, same) in
    let Q : ℕ → Type 0 = λ n. OnErr c.frame.result (LacksRoom c.args.out.now n) in
    subst Q sum c.frame.ensures.full

pub returns-in-Channel-clause-full : goal.returns-in-Channel-clause-full
returns-in-Channel-clause-full c =
    let pairs : length (pair_texts c.of.result) ≡ length (pair_texts c.in-Channel.metadata) =
    ap (λ (m : List (List ℕ × List ℕ)). length (pair_texts m)) (c.of.ensures ∙ c.as_slice-in-Channel.ensures.same) in
    let same : 25 + (length c.as_str-in-Channel.result.now + length c.as_str-in-Channel-2.result.now) + length (pair_texts c.of.result) ≡ length (rec_bytes c.args.self.now) =
    let P : Rec → Type 0 = λ r. 25 + (length c.as_str-in-Channel.result.now + length c.as_str-in-Channel-2.result.now) + length (pair_texts c.of.result) ≡ length (rec_bytes r) in
    subst P (sym c.in-Channel.is) (channel_len c.in-Channel.id (record { schema = c.in-Channel.schema_id; topic = c.in-Channel.topic; encoding = c.in-Channel.message_encoding; metadata = c.in-Channel.metadata }) _ _ _ c.as_str-in-Channel.ensures.same c.as_str-in-Channel-2.ensures.same pairs)
    in
    let sum : 25 + length c.as_str-in-Channel.result.now + length c.as_str-in-Channel-2.result.now + length (pair_texts c.of.result) ≡ length (rec_bytes c.args.self.now) = omega (arith, same) in
    let Q : ℕ → Type 0 = λ n. OnErr c.frame-in-Channel.result (LacksRoom c.args.out.now n) in
    subst Q sum c.frame-in-Channel.ensures.full

pub returns-in-Message-clause-full : goal.returns-in-Message-clause-full
returns-in-Message-clause-full c =
    let same : 31 + length c.as_slice-in-Message.result.now ≡ length (rec_bytes c.args.self.now) =
    let P : Rec → Type 0 = λ r. 31 + length c.as_slice-in-Message.result.now ≡ length (rec_bytes r) in
    subst P (sym c.in-Message.is) (message_len c.in-Message.channel_id (record { sequence = c.in-Message.sequence; log_time = c.in-Message.log_time; publish_time = c.in-Message.publish_time; payload = c.in-Message.payload }) _ c.as_slice-in-Message.ensures)
    in
    let Q : ℕ → Type 0 = λ n. OnErr c.frame-in-Message.result (LacksRoom c.args.out.now n) in
    subst Q same c.frame-in-Message.ensures.full

pub returns-in-Message-clause-ok : goal.returns-in-Message-clause-ok
returns-in-Message-clause-ok c = search rules

pub returns-in-Extra-clause-full : goal.returns-in-Extra-clause-full
returns-in-Extra-clause-full c =
    let same : 9 + length c.as_slice-in-Extra.result.now ≡ length (rec_bytes c.args.self.now) =
    let P : Rec → Type 0 = λ r. 9 + length c.as_slice-in-Extra.result.now ≡ length (rec_bytes r) in
    subst P (sym c.in-Extra.is) (extra_len c.in-Extra.op c.in-Extra.content _ c.as_slice-in-Extra.ensures)
    in
    let Q : ℕ → Type 0 = λ n. OnErr c.frame_content.result (LacksRoom c.args.out.now n) in
    subst Q same c.frame_content.ensures.full
