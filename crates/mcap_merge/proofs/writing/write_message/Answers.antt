use Rattle.std.proofs.Common.{List, [], ◌∷◌, subst}
use Rattle.std.specs.Prelude.{Result, Ok, Err, OnOk}
use Rattle.rec_data.specs.declared.owned.Rec.{Rec}
use Rattle.rec_data.specs.Parsed.{message_fields}
use Rattle.mcap_model.specs.History.{message_of}
use Rattle.history_ids.specs.Ids.{ids_of, channel_id, new_records}
use Rattle.mcap_merge.specs.Uses.{added_by}
use Rattle.mcap_merge.proofs.Written.{taken, stands_on}
use Rattle.mcap_merge.proofs.writing.write_message.Goals as goal

pub returns-in-Err-clause-adds : goal.returns-in-Err-clause-adds
returns-in-Err-clause-adds g c = λ inputs history u next. c.lack.ensures.adds [] (added_by history u)

pub returns-in-Err-put_choice-clause-adds : goal.returns-in-Err-put_choice-clause-adds
returns-in-Err-put_choice-clause-adds g c = λ inputs history u next.
    let m = c.args.message.now in
    let chosen = c.in-Ok.ensures.chosen inputs next.tops history next.stands next.at next.tables_are in
    let is = taken inputs history c.args.joiner.now c.choose.new.self c.args.input.now c.args.number m.channel_id (message_fields m) u c.in-Ok.choice next chosen in
    let message = message_of (channel_id (ids_of history) u.content) u.message in
    g.P.Pen.adds_on c.args.pen.now c.put_choice.new.pen c.put_choice.new.pen [] [] (new_records (ids_of history) u.content) (message ∷ [])
    (subst (λ (l : List Rec). g.P.Pen.adds c.args.pen.now c.put_choice.new.pen [] l) is.declared_are c.in-Err-put_choice.ensures.adds)
    (g.P.Pen.adds_all c.put_choice.new.pen c.in-Err-put_choice.stop [] (message ∷ []) c.in-Err-put_choice.ensures.stopped)

pub returns-clause-adds : goal.returns-clause-adds
returns-clause-adds g c = λ inputs history u next.
    let m = c.args.message.now in
    let chosen = c.in-Ok.ensures.chosen inputs next.tops history next.stands next.at next.tables_are in
    let is = taken inputs history c.args.joiner.now c.choose.new.self c.args.input.now c.args.number m.channel_id (message_fields m) u c.in-Ok.choice next chosen in
    let message = message_of (channel_id (ids_of history) u.content) u.message in
    g.P.Pen.adds_on c.args.pen.now c.put_choice.new.pen c.put_message.new.pen [] [] (new_records (ids_of history) u.content) (message ∷ [])
    (subst (λ (l : List Rec). g.P.Pen.adds c.args.pen.now c.put_choice.new.pen [] l) is.declared_are c.in-Ok-put_choice.ensures.adds)
    (subst (λ (r : Rec). g.P.Pen.adds c.put_choice.new.pen c.put_message.new.pen [] (r ∷ [])) is.message c.put_message.ensures.adds)

always : {T E : Type 0} {Q : Type 0} (r : Result T E) → Q → OnOk r Q
always (Ok it) q = q
always (Err why) q = tt

pub returns-clause-stands : goal.returns-clause-stands
returns-clause-stands g c = always c.put_message.result (λ inputs history u next.
    let m = c.args.message.now in
    stands_on inputs history c.args.joiner.now c.choose.new.self c.args.input.now c.args.number m.channel_id (message_fields m) u c.in-Ok.choice next (c.in-Ok.ensures.chosen inputs next.tops history next.stands next.at next.tables_are))
