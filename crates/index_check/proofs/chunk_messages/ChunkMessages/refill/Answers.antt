use Rattle.std.proofs.Common.{List, ◌++◌, sym, ap, subst, ◌∙◌, rules}
use Rattle.mcap_wire.proofs.Numbers.{AreBytes}
use Rattle.mcap_model.specs.Tops.{records_in}
use Rattle.mcap_scan.specs.declared.message_heads.MessageHead.{MessageHead}
use Rattle.mcap_scan.specs.Heads.{heads_in}
use Rattle.index_check.specs.Messages.{HoldsMessages}
use Rattle.index_check.proofs.Walked.{heads_hold}
use Rattle.index_check.proofs.Runs.{holds_moved}
use Rattle.index_check.proofs.chunk_messages.ChunkMessages.refill.Goals as goal

pub returns-clause-ok : goal.returns-clause-ok
returns-clause-ok c =
    let records = c.args.records.now in
    let small : AreBytes records = λ i. search rules in
    let listed = subst (λ (l : List MessageHead). HoldsMessages (records_in records) l) (sym (c.in-Ok.ensures ∙ ap (λ (l : List MessageHead). l ++ heads_in records) c.clear.ensures.items)) (heads_hold records small) in
    holds_moved (records_in records) c.list_heads.new.heads.items c.put_in_order.new.messages.items c.put_in_order.ensures.same listed
