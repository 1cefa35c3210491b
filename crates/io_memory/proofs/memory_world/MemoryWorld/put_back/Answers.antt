use Rattle.std.proofs.Common.{◌≡◌, ◌∙◌, ap, inr}
use Rattle.io_memory.specs.declared.memory_world.MemoryWorld.{MemoryWorld}
use Rattle.io_memory.proofs.memory_world.MemoryWorld.put_back.Goals as goal

pub returns-in-Ok-place-clause-keeps : goal.returns-in-Ok-place-clause-keeps
returns-in-Ok-place-clause-keeps c =
    let entries : c.count_keeping.new.self.entries ≡ c.args.self.now.entries = ap (λ (w : MemoryWorld). w.entries) c.count_keeping.ensures.rest in
    rw (← entries) (record { others = c.place.ensures.others; placed = λ held is. c.in-Ok-place.ensures.placed ∙ is })

pub returns-in-Err-place-clause-keeps : goal.returns-in-Err-place-clause-keeps
returns-in-Err-place-clause-keeps c =
    let entries : c.count_keeping.new.self.entries ≡ c.args.self.now.entries = ap (λ (w : MemoryWorld). w.entries) c.count_keeping.ensures.rest in
    rw (← entries) (record { others = c.place.ensures.others; placed = λ held is. inr c.in-Err-place.ensures.refused })
