use Rattle.std.proofs.Common.{rules, arith}
use Rattle.std.proofs.lemmas.List.Sorted.{answers_always}
use Rattle.mcap_scan.specs.declared.message_heads.MessageHead.{MessageHead}
use Rattle.merge_walk.proofs.Risen.{risen}
use Rattle.merge_walk.proofs.heads.put_in_order.Goals as goal

pub returns-clause-rise : goal.returns-clause-rise
returns-clause-rise c = risen c.args.heads.now.items c.sort_unstable_by_key.new.self.items c.requires c.sort_unstable_by_key.ensures.permutation (λ k d within.
    c.sort_unstable_by_key.ensures.sorted (λ (e : MessageHead). (e.time, e.offset)) (answers_always _ _ _ (λ f a r g h. search rules)) k d (omega arith) within)
