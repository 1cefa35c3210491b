-- The keeping is noted, and the names stand.
use Rattle.std.proofs.Common.{◌≡◌, ◌∙◌, map, Some, None, ap, ap₂, subst}
use Rattle.std.specs.Prelude.{is_ok}
use Rattle.mcap_io.specs.declared.outside.ObjectKind.TheVariants as kinds
use Rattle.mcap_io.specs.Outside.{Keeping}
use Rattle.mcap_io.specs.OutsideCalls.{Notes}
use Rattle.io_memory.specs.Standing.{standing, shown, shown_keeping}
use Rattle.io_memory.proofs.Noting.{keeps-store}
use Rattle.io_memory.proofs.memory_world.MemoryWorldWorld.keep_store.Goals as goal

pub returns-clause-keeps : goal.returns-clause-keeps
returns-clause-keeps c =
    let it = c.args.it in
    let log' = map shown c.note.new.log.items in
    let keeping : Keeping = record { well = is_ok c.count_keeping-counted.result; faults = it.faults; left = None; asked = it.store.asked } in
    let is : shown_keeping (record { well = c.is_ok.result; faults = c.faults-faults.result; rest = None; asked = c.asked-asked.result }) ≡ keeping =
    ap₂ (λ b n. record { well = b; faults = n; left = None; asked = c.asked-asked.result }) c.is_ok.ensures.value c.faults-faults.ensures
    ∙ ap (λ n. record { well = is_ok c.count_keeping-counted.result; faults = it.faults; left = None; asked = n }) c.asked-asked.ensures in
    let rest = c.count_keeping-counted.ensures.rest in
    keeps-store _ _ _ _ _ (record { bytes = Some it.store.bytes.items; known = it.store.known; faults = it.faults; asked = it.store.asked }) _ (ap (λ w. standing w.entries) rest)
    (subst (λ l. Notes l log' kinds.Store c.args.name.now keeping) (ap (λ w. map shown w.log.items) rest) (subst (Notes (map shown c.count_keeping-counted.new.self.log.items) log' kinds.Store c.args.name.now) is c.note.ensures))
