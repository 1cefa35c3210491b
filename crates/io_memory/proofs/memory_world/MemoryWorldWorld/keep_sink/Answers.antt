-- The keeping is noted, and the bytes stand under the name where it went well.
use Rattle.std.proofs.Common.{◌≡◌, map, Some, None, ap, ap₂, sym, subst}
use Rattle.std.specs.Prelude.{is_ok}
use Rattle.mcap_io.specs.declared.outside.ObjectKind.TheVariants as kinds
use Rattle.mcap_io.specs.Outside.{Keeping}
use Rattle.mcap_io.specs.OutsideCalls.{KeepsName, Notes}
use Rattle.io_memory.specs.Standing.{standing, shown, shown_keeping}
use Rattle.io_memory.proofs.Noting.{keeps-written}
use Rattle.io_memory.proofs.memory_world.MemoryWorldWorld.keep_sink.Goals as goal

pub returns-clause-keeps : goal.returns-clause-keeps
returns-clause-keeps c =
    let log' = map shown c.note.new.log.items in
    let keeping : Keeping = record { well = is_ok c.put_back-put.result; faults = c.args.it.faults; left = None; asked = 0 } in
    let is : shown_keeping (record { well = c.is_ok.result; faults = c.faults-faults.result; rest = None; asked = 0 }) ≡ keeping =
    ap₂ (λ b n. record { well = b; faults = n; left = None; asked = 0 }) c.is_ok.ensures.value c.faults-faults.ensures in
    let names = standing c.args.self.now.entries in
    let names' = standing c.put_back-put.new.self.entries in
    let rest = c.put_back-put.ensures.rest in
    keeps-written kinds.Sink names names' _ _ _ (Some c.args.it.bytes.items) c.args.it.faults _ (subst (λ h. KeepsName names names' c.args.name.now h c.put_back-put.result) (sym c.into_bytes.ensures) c.put_back-put.ensures.keeps)
    (subst (λ l. Notes l log' kinds.Sink c.args.name.now keeping) (ap (λ w. map shown w.log.items) rest) (subst (Notes (map shown c.put_back-put.new.self.log.items) log' kinds.Sink c.args.name.now) is c.note.ensures))
