use Rattle.std.proofs.Common.{ℕ, List, map, Vec, true, false, ap, ap₂, ◌∙◌, inl, inr}
use Rattle.io_memory.specs.declared.memory_world.MemoryWorld.{MemoryWorld}
use Rattle.mcap_io.specs.declared.outside.ObjectKind.TheVariants as kinds
use Rattle.mcap_io.specs.Outside.{opened}
use Rattle.io_memory.specs.Standing.{standing, shown}
use Rattle.io_memory.proofs.Noting.{lists_one, tells_name}
use Rattle.io_memory.proofs.memory_world.MemoryWorldWorld.store.Goals as goal

pub returns-in-Ok-open_store-clause-opens : goal.returns-in-Ok-open_store-clause-opens
returns-in-Ok-open_store-clause-opens c =
    lists_one (standing c.args.self.now.entries) (standing c.open_store.new.self.entries) c.args.self.now.log.items c.open_store.new.self.log.items c.list.new.log.items _ (opened kinds.Store c.args.name.now true)
    (ap (λ (w : MemoryWorld). standing w.entries) c.in-Ok-open_store.ensures.rest) (ap (λ (w : MemoryWorld). w.log.items) c.in-Ok-open_store.ensures.rest ∙ c.in-Ok.ensures.items) c.list.ensures
    (ap (λ (n : List ℕ). opened kinds.Store n true) c.in-Ok.ensures.name)

pub returns-in-Ok-open_store-clause-counts : goal.returns-in-Ok-open_store-clause-counts
returns-in-Ok-open_store-clause-counts c = record { inputs = ap (λ (w : MemoryWorld). w.input_faults) c.in-Ok-open_store.ensures.rest; outputs = ap (λ (w : MemoryWorld). w.output_faults) c.in-Ok-open_store.ensures.rest; watches = ap (λ (w : MemoryWorld). w.watch_faults) c.in-Ok-open_store.ensures.rest }

pub returns-in-Ok-open_store-clause-cause : goal.returns-in-Ok-open_store-clause-cause
returns-in-Ok-open_store-clause-cause c = c.in-Ok-open_store.ensures.cause

pub returns-in-Ok-open_store-clause-rest : goal.returns-in-Ok-open_store-clause-rest
returns-in-Ok-open_store-clause-rest c =
    ap (λ (w : MemoryWorld). record w { log = c.list.new.log }) c.in-Ok-open_store.ensures.rest
    ∙ ap₂ (λ (failing : Vec ℕ _) (made : ℕ). record c.args.self.now { log = c.list.new.log; faults = c.open_store.new.self.faults; openings = record { failing = failing; made = made } }) c.next_fails-fails.ensures.plan c.next_fails-fails.ensures.counted

pub returns-in-Err-Failed-clause-opens : goal.returns-in-Err-Failed-clause-opens
returns-in-Err-Failed-clause-opens c =
    lists_one (standing c.args.self.now.entries) (standing c.open_store.new.self.entries) c.args.self.now.log.items c.open_store.new.self.log.items c.list-in-Err-Failed.new.log.items _ (opened kinds.Store c.args.name.now false)
    (ap (λ (w : MemoryWorld). standing w.entries) c.in-Err-Failed.ensures.rest) (ap (λ (w : MemoryWorld). w.log.items) c.in-Err-Failed.ensures.rest ∙ c.in-Ok.ensures.items) c.list-in-Err-Failed.ensures
    (ap (λ (n : List ℕ). opened kinds.Store n false) c.in-Ok.ensures.name)

pub returns-in-Err-Failed-clause-counts : goal.returns-in-Err-Failed-clause-counts
returns-in-Err-Failed-clause-counts c = record { inputs = ap (λ (w : MemoryWorld). w.input_faults) c.in-Err-Failed.ensures.rest; outputs = ap (λ (w : MemoryWorld). w.output_faults) c.in-Err-Failed.ensures.rest; watches = ap (λ (w : MemoryWorld). w.watch_faults) c.in-Err-Failed.ensures.rest }

pub returns-in-Err-Failed-clause-cause : goal.returns-in-Err-Failed-clause-cause
returns-in-Err-Failed-clause-cause c = rw c.in-Err-Failed.field-0-is at c.in-Err-Failed.ensures.cause

pub returns-in-Err-Failed-clause-rest : goal.returns-in-Err-Failed-clause-rest
returns-in-Err-Failed-clause-rest c =
    ap (λ (w : MemoryWorld). record w { log = c.list-in-Err-Failed.new.log }) c.in-Err-Failed.ensures.rest
    ∙ ap₂ (λ (failing : Vec ℕ _) (made : ℕ). record c.args.self.now { log = c.list-in-Err-Failed.new.log; faults = c.open_store.new.self.faults; openings = record { failing = failing; made = made } }) c.next_fails-fails.ensures.plan c.next_fails-fails.ensures.counted

pub returns-in-Ok-open_store-clause-tells : goal.returns-in-Ok-open_store-clause-tells
returns-in-Ok-open_store-clause-tells c = λ told is. tells_name (standing c.args.self.now.entries) (map shown c.args.self.now.log.items) c.args.name.now c.in-Ok-open_store.store.store.bytes.items told is c.in-Ok-open_store.ensures.tells

pub returns-in-Ok-open_store-clause-unused : goal.returns-in-Ok-open_store-clause-unused
returns-in-Ok-open_store-clause-unused c = c.in-Ok-open_store.ensures.unused.0

pub returns-in-Ok-open_store-clause-plan : goal.returns-in-Ok-open_store-clause-plan
returns-in-Ok-open_store-clause-plan c = (c.in-Ok-open_store.ensures.unused.1, c.in-Ok-open_store.ensures.unused.2)

pub returns-in-Ok-open_store-clause-planned : goal.returns-in-Ok-open_store-clause-planned
returns-in-Ok-open_store-clause-planned c = λ planned. c.in-Ok-open_store.ensures.planned (c.next_fails-fails.ensures.planned.1 planned)

pub returns-in-Err-Failed-clause-planned : goal.returns-in-Err-Failed-clause-planned
returns-in-Err-Failed-clause-planned c = let planned = rw c.in-Err-Failed.field-0-is at c.in-Err-Failed.ensures.planned in elim planned [ inl fails ↦ inl (c.next_fails-fails.ensures.planned.0 fails) | inr none ↦ inr none ]
