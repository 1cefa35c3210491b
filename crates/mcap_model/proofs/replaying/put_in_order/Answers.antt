use Rattle.std.proofs.Common.{◌+◌, get_or, rules, arith}
use Rattle.std.proofs.lemmas.List.Sorted.{answers_always}
use Rattle.mcap_model.specs.declared.replay.Shown.{Shown}
use Rattle.mcap_model.proofs.Replays.{not_less}
use Rattle.mcap_model.proofs.replaying.put_in_order.Goals as goal

pub returns-clause-order : goal.returns-clause-order
returns-clause-order c = λ k d within.
    not_less (get_or c.sort_unstable_by_key.new.self.items (k + 1) d) (get_or c.sort_unstable_by_key.new.self.items k d)
    (c.sort_unstable_by_key.ensures.sorted (λ (s : Shown). (s.log_time, s.place.top, s.place.inner)) (answers_always _ _ _ (λ f a r g h. search rules)) k d (omega arith) within)
