use Rattle.std.proofs.Common.{◌+◌, get_or, refl, subst, rules, arith}
use Rattle.std.proofs.lemmas.List.Sorted.{answers_always}
use Rattle.mcap_scan.specs.declared.message_heads.MessageHead.{MessageHead}
use Rattle.index_check.specs.Messages.{MessagesRise}
use Rattle.index_check.proofs.Runs.{all_rise, not_less}
use Rattle.index_check.proofs.chunk_messages.put_in_order.Goals as goal

pub returns-clause-rises : goal.returns-clause-rises
returns-clause-rises c = all_rise c.sort_unstable_by_key.new.self.items (λ k d within.
    not_less (get_or c.sort_unstable_by_key.new.self.items (k + 1) d) (get_or c.sort_unstable_by_key.new.self.items k d)
    (c.sort_unstable_by_key.ensures.sorted (λ (m : MessageHead). (m.channel, m.offset)) (answers_always _ _ _ (λ f a r g h. search rules)) k d (omega arith) within))

pub returns-then-is_in_order-clause-rises : goal.returns-then-is_in_order-clause-rises
returns-then-is_in_order-clause-rises c = subst MessagesRise c.deref.ensures.value (all_rise c.deref.result.now (c.if-is_in_order.ensures refl))
