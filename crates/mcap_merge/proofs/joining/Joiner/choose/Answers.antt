use Rattle.std.proofs.Common.{◌+◌, ◌*◌, refl, sym, subst, arith}
use Rattle.mcap_model.specs.Places.{At}
use Rattle.mcap_model.proofs.Places.{at_read}
use Rattle.history_ids.proofs.TableIds.{id_found}
use Rattle.history_ids.specs.Tables.{ids_in}
use Rattle.history_ids.specs.Ids.{channel_place}
use Rattle.mcap_merge.proofs.ReadBack.{none_back}
use Rattle.mcap_merge.proofs.Joined.{none_place, chosen_known, chosen_found, chosen_new}
use Rattle.mcap_merge.proofs.Used.{content_used, used_given, used_lacking}
use Rattle.mcap_merge.proofs.joining.Joiner.choose.Goals as goal

pub returns-then-id-ne0-clause-chosen : goal.returns-then-id-ne0-clause-chosen
returns-then-id-ne0-clause-chosen c = λ inputs tops history stands at are.
    let j = c.args.self.now in
    let place = c.args.number * 65536 + c.args.source in
    let id = c.index-id.result.now in
    let there : At j.given.items place id = subst (At j.given.items place) (sym c.index-id.ensures) (at_read j.given.items place id c.requires.within) in
    let known = stands.known in
    chosen_known inputs tops history c.args.source j id c.requires.schemas c.channels-channels.ensures.once stands (known c.args.number c.args.source id tops (omega arith) at there (λ e. c.if-id-ne0.true e))

pub returns-in-Some-clause-chosen : goal.returns-in-Some-clause-chosen
returns-in-Some-clause-chosen c = λ inputs tops history stands at are.
    chosen_found inputs tops history c.args.self.now (record { table = c.args.self.now.table; given = _ }) c.args.number c.args.source c.in-Some.id c.in-Ok.content (omega arith) c.requires.schemas c.channels-channels.ensures.once refl refl stands at
    (c.in-Ok.ensures.is _ are) c.in-Some.ensures.found

pub give_ids-requires-clause-is_new : goal.give_ids-requires-clause-is_new
give_ids-requires-clause-is_new c =
    let t = c.args.self.now.table in
    none_place (channel_place (ids_in t) c.in-Ok.content) (id_found t c.in-Ok.content _ c.requires.schemas c.channels-channels.ensures.once c.in-None.ensures.found)

pub returns-in-Ok-give_ids-clause-chosen : goal.returns-in-Ok-give_ids-clause-chosen
returns-in-Ok-give_ids-clause-chosen c = λ inputs tops history stands at are.
    let t = c.args.self.now.table in
    let none = none_place (channel_place (ids_in t) c.in-Ok.content) (id_found t c.in-Ok.content _ c.requires.schemas c.channels-channels.ensures.once c.in-None.ensures.found) in
    let given = c.in-Ok-give_ids.ensures.given in
    chosen_new inputs tops history c.args.self.now (record { table = c.give_ids.new.table; given = _ }) c.args.number c.args.source c.number_of-id.result c.in-Ok.content c.in-Ok-give_ids.ids (omega arith) none
    given.1 given.2 c.in-Ok-give_ids.ensures.last c.number_of-id.ensures refl stands at (c.in-Ok.ensures.is _ are)

pub returns-in-Ok-give_ids-clause-used : goal.returns-in-Ok-give_ids-clause-used
returns-in-Ok-give_ids-clause-used c = λ inputs m asked was.
    used_given inputs c.args.self.now.table c.give_ids.new.table c.in-Ok.content c.in-Ok-give_ids.ids c.in-Ok-give_ids.ensures.last (content_used inputs m c.args.source c.args.input.now.tables c.in-Ok.content asked (c.in-Ok.ensures.is _ asked.tables_are)) was

pub returns-in-Err-give_ids-clause-used : goal.returns-in-Err-give_ids-clause-used
returns-in-Err-give_ids-clause-used c = λ inputs m asked was.
    let t = c.args.self.now.table in
    let none = none_place (channel_place (ids_in t) c.in-Ok.content) (id_found t c.in-Ok.content _ c.requires.schemas c.channels-channels.ensures.once c.in-None.ensures.found) in
    used_lacking inputs t c.give_ids.new.table c.in-Ok.content c.in-Err-give_ids.refused c.schemas-schemas.ensures.once c.channels-channels.ensures.once
    (omega (arith, c.schemas-schemas.ensures.count, c.schemas-schemas.ensures.few)) (omega (arith, c.channels-channels.ensures.count, c.channels-channels.ensures.few)) none c.in-Err-give_ids.ensures.given
    (content_used inputs m c.args.source c.args.input.now.tables c.in-Ok.content asked (c.in-Ok.ensures.is _ asked.tables_are)) was

pub returns-then-id-ne0-clause-back : goal.returns-then-id-ne0-clause-back
returns-then-id-ne0-clause-back c = none_back

pub returns-in-Some-clause-back : goal.returns-in-Some-clause-back
returns-in-Some-clause-back c = none_back
