use Rattle.std.proofs.Common.{◌≡◌, ℕ, ◌+◌, length, refl, sym, subst, arith, OnErr}
use Rattle.mcap_wire.specs.Maps.{pair_texts}
use Rattle.mcap_wire.specs.Writing.{LacksRoom}
use Rattle.rec_data.specs.Owned.{rec_bytes}
use Rattle.rec_data.proofs.OwnedLengths.{schema_len, channel_len, message_len}
use Rattle.record_cache.specs.declared.records.RecRef.{RecRef}
use Rattle.record_cache.specs.Offers.{rec_of}
use Rattle.record_cache.proofs.records.RecRef.frame.Goals as goal

pub returns-in-Schema-clause-full : goal.returns-in-Schema-clause-full
returns-in-Schema-clause-full c =
    let r = c.in-Schema.record in
    let whole : 23 + (length r.name.now + length r.encoding.now) + length r.payload.now ≡ length (rec_bytes (rec_of c.args.self.now)) =
    let W : RecRef → Type 0 = λ x. 23 + (length r.name.now + length r.encoding.now) + length r.payload.now ≡ length (rec_bytes (rec_of x)) in
    subst W (sym c.in-Schema.is) (schema_len r.id (record { name = r.name.now; encoding = r.encoding.now; payload = r.payload.now }) _ _ _ refl refl refl)
    in
    let sum : 23 + length r.name.now + length r.encoding.now + length r.payload.now ≡ length (rec_bytes (rec_of c.args.self.now)) = omega (arith, whole) in
    let Q : ℕ → Type 0 = λ k. OnErr c.frame.result (LacksRoom c.args.out.now k) in
    subst Q sum c.frame.ensures.full

pub returns-in-Channel-clause-full : goal.returns-in-Channel-clause-full
returns-in-Channel-clause-full c =
    let r = c.in-Channel.record in
    let whole : 25 + (length r.topic.now + length r.message_encoding.now) + length (pair_texts r.metadata) ≡ length (rec_bytes (rec_of c.args.self.now)) =
    let W : RecRef → Type 0 = λ x. 25 + (length r.topic.now + length r.message_encoding.now) + length (pair_texts r.metadata) ≡ length (rec_bytes (rec_of x)) in
    subst W (sym c.in-Channel.is) (channel_len r.id (record { schema = r.schema_id; topic = r.topic.now; encoding = r.message_encoding.now; metadata = r.metadata }) _ _ _ refl refl refl)
    in
    let sum : 25 + length r.topic.now + length r.message_encoding.now + length (pair_texts r.metadata) ≡ length (rec_bytes (rec_of c.args.self.now)) = omega (arith, whole) in
    let Q : ℕ → Type 0 = λ k. OnErr c.frame-in-Channel.result (LacksRoom c.args.out.now k) in
    subst Q sum c.frame-in-Channel.ensures.full

pub returns-in-Message-clause-full : goal.returns-in-Message-clause-full
returns-in-Message-clause-full c =
    let r = c.in-Message.record in
    let whole : 31 + length r.payload.now ≡ length (rec_bytes (rec_of c.args.self.now)) =
    let W : RecRef → Type 0 = λ x. 31 + length r.payload.now ≡ length (rec_bytes (rec_of x)) in
    subst W (sym c.in-Message.is) (message_len r.channel_id (record { sequence = r.sequence; log_time = r.log_time; publish_time = r.publish_time; payload = r.payload.now }) _ refl)
    in
    let Q : ℕ → Type 0 = λ k. OnErr c.frame-in-Message.result (LacksRoom c.args.out.now k) in
    subst Q whole c.frame-in-Message.ensures.full
