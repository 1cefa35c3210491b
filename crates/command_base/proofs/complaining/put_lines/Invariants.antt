-- So far the complaints below the index were put.
use Rattle.std.proofs.Common.{take}
use Rattle.std.specs.List.{flat_map}
use Rattle.command_base.specs.Texts.{said}
use Rattle.command_base.specs.ComplaintTroubles.{complained}
use Rattle.command_base.specs.Putting.{PutsText}
use Rattle.command_base.proofs.complaining.put_lines.Given as goal

abbrev pub invariant-complaints : goal.invariant-complaints
invariant-complaints g l = PutsText (g.E.Sink.state l.fn.err) l.fn.waiting (g.E.Sink.state l.err) l.waiting (flat_map (λ c. said (complained c)) (take l.complaint-index l.complaints))
