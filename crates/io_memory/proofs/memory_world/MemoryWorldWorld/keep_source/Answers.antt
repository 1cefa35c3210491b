-- The keeping is noted, and the names stand.
use Rattle.std.proofs.Common.{◌≡◌, ◌∙◌, map, Some, ap, ap₂, subst}
use Rattle.std.specs.Prelude.{is_ok}
use Rattle.mcap_io.specs.declared.outside.ObjectKind.TheVariants as kinds
use Rattle.mcap_io.specs.Outside.{Keeping}
use Rattle.mcap_io.specs.OutsideCalls.{Notes}
use Rattle.io_memory.specs.Planned.{left_of}
use Rattle.io_memory.specs.Standing.{standing, shown, shown_keeping}
use Rattle.io_memory.proofs.Noting.{keeps-source}
use Rattle.io_memory.proofs.memory_world.MemoryWorldWorld.keep_source.Goals as goal

pub returns-clause-keeps : goal.returns-clause-keeps
returns-clause-keeps c =
    let it = c.args.it in
    let left = left_of it.bytes.bytes.items it.bytes.next in
    let log' = map shown c.note.new.log.items in
    let keeping : Keeping = record { well = is_ok c.count_keeping-counted.result; faults = it.faults; left = left; asked = 0 } in
    let is : shown_keeping (record { well = c.is_ok.result; faults = c.faults-faults.result; rest = Some c.into_quiet-rest.result; asked = 0 }) ≡ keeping =
    ap₂ (λ b n. record { well = b; faults = n; left = left_of c.into_quiet-rest.result.bytes.items c.into_quiet-rest.result.next; asked = 0 }) c.is_ok.ensures.value c.faults-faults.ensures
    ∙ ap (λ s. record { well = is_ok c.count_keeping-counted.result; faults = it.faults; left = left_of s.bytes.items s.next; asked = 0 }) c.into_quiet-rest.ensures in
    let rest = c.count_keeping-counted.ensures.rest in
    keeps-source _ _ _ _ _ (record { left = left; faults = it.faults }) _ (ap (λ w. standing w.entries) rest)
    (subst (λ l. Notes l log' kinds.Source c.args.name.now keeping) (ap (λ w. map shown w.log.items) rest) (subst (Notes (map shown c.count_keeping-counted.new.self.log.items) log' kinds.Source c.args.name.now) is c.note.ensures))
