use Rattle.std.proofs.Common.{refl, inl, inr}
use Rattle.rec_data.specs.Parsed.{message_fields}
use Rattle.mcap_model.specs.Fields.{IsMessage}
use Rattle.mcap_model.specs.Made.{top}
use Rattle.mcap_model.proofs.Meets.{message_meets}
use Rattle.mcap_model.proofs.Agreeing.{message_agrees, message_homeless}
use Rattle.mcap_model.proofs.tables.Tables.take_message.Goals as goal

pub returns-in-Err : goal.returns-in-Err
returns-in-Err c = λ records was. inl (refl, λ v6. let s = v6.message refl in c.in-Err.ensures.none s.0 s.1 s.2.layout)

pub returns-in-Some : goal.returns-in-Some
returns-in-Some c = λ records was.
    let m = c.in-Ok.message in
    let f = message_fields m in
    let is : IsMessage (top 5 c.args.content.now) m.channel_id f = record { kind = refl; layout = c.in-Ok.ensures.shown } in
    let found = c.in-Some.ensures in
    record { channel = m.channel_id; message = f; is = is; then = refl; agrees = message_agrees records c.args.self.now (top 5 c.args.content.now) m.channel_id f was is (found.0, found.1, found.2, found.3) }

pub returns-in-None : goal.returns-in-None
returns-in-None c = λ records was.
    let m = c.in-Ok.message in
    let f = message_fields m in
    let is : IsMessage (top 5 c.args.content.now) m.channel_id f = record { kind = refl; layout = c.in-Ok.ensures.shown } in
    inr (refl, message_meets (top 5 c.args.content.now) m.channel_id f is, message_homeless records c.args.self.now (top 5 c.args.content.now) m.channel_id f was is c.in-None.ensures)
