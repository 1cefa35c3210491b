use Rattle.std.proofs.Common.{◌+◌, get_or, [], subst, rules, arith}
use Rattle.std.proofs.lemmas.List.Sorted.{answers_always, IsPermutation-map}
use Rattle.mcap_model.proofs.Replays.{not_less}
use Rattle.time_player.specs.declared.kept.Head.{Head}
use Rattle.time_player.specs.Heads.{shown_in, HeadsInOrder}
use Rattle.time_player.proofs.Parts.{shown_in_order, still_within}
use Rattle.time_player.proofs.kept.Kept.put_in_order.Goals as goal

pub returns-then-is_in_order-clause-order : goal.returns-then-is_in_order-clause-order
returns-then-is_in_order-clause-order c =
    let order : HeadsInOrder c.deref.result.now = search rules in
    shown_in_order c.args.self.now.heads.items c.args.self.now.payloads.items (subst HeadsInOrder c.deref.ensures.value order)

pub invariant_of-self : goal.invariant_of-self
invariant_of-self c = record { within = still_within c.args.self.now.heads.items c.sort_unstable_by_key.new.self.items _ c.sort_unstable_by_key.ensures.permutation c.args.self.now.within }

pub returns-clause-same : goal.returns-clause-same
returns-clause-same c = IsPermutation-map (shown_in c.args.self.now.payloads.items) c.args.self.now.heads.items c.sort_unstable_by_key.new.self.items c.sort_unstable_by_key.ensures.permutation

pub returns-clause-order : goal.returns-clause-order
returns-clause-order c =
    shown_in_order c.sort_unstable_by_key.new.self.items c.args.self.now.payloads.items
    (λ k d within.
    not_less (shown_in [] (get_or c.sort_unstable_by_key.new.self.items (k + 1) d)) (shown_in [] (get_or c.sort_unstable_by_key.new.self.items k d))
    (c.sort_unstable_by_key.ensures.sorted (λ (h : Head). (h.log_time, h.place.top, h.place.inner)) (answers_always _ _ _ (λ f a r g h. search rules)) k d (omega arith) within))
