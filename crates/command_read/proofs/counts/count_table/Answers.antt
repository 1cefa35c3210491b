use Rattle.std.proofs.Common.{◌≡◌, ℕ, ◌-◌, ◌<◌, ◌≤◌, List, length, get_or, drop, set, sym, subst, rules, arith}
use Rattle.std.proofs.lemmas.List.{length-set}
use Rattle.command_read.proofs.Places.{drop_less}
use Rattle.command_read.proofs.Counted.{HoldsCounts, none_counted, counts_more}
use Rattle.command_read.proofs.counts.count_table.Goals as goal

pub counts-init : goal.counts-init
counts-init c =
    let counts = c.args.counts.now in
    let size : length c.resize.new.self.items ≡ 65536 = search rules in
    let each : (id : ℕ) → id < 65536 → get_or c.resize.new.self.items id 0 ≡ 0 = λ id less. search rules in (
      omega (arith, c.count-i.ensures.count),
      size,
      subst (λ (n : ℕ). HoldsCounts (drop n counts) c.resize.new.self.items) (sym c.count-i.ensures.count) (none_counted counts c.resize.new.self.items size each),
    )

pub counts-preserved : goal.counts-preserved
counts-preserved c =
    let counts = c.args.counts.now in
    let table = c.counts.table.items in
    let i = c.counts.i in
    let item = c.item-id.result in
    let some = c.counts-test.true in
    let less : i - 1 ≤ length counts = omega (arith, c.counts.invariant.0) in (
      less,
      rw (length-set table item.0 item.1) c.counts.invariant.1,
      subst (λ (l : List (ℕ × ℕ)). HoldsCounts l (set table item.0 item.1)) (sym (drop_less counts i item some c.item-id.ensures))
          (counts_more (drop i counts) table item c.counts.invariant.2),
    )
