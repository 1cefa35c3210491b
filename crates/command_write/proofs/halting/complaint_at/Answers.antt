-- Only the input of that number has a complaint.
use Rattle.std.proofs.Common.{drop, Option, sym, ap, ◌∙◌}
use Rattle.command_base.specs.ComplaintTroubles.{trouble_of}
use Rattle.command_base.specs.Ran.{first_halts}
use Rattle.command_write.specs.declared.halting.Halted.{Halted}
use Rattle.command_write.specs.HaltingSteps.{halted_lists}
use Rattle.command_base.proofs.DueComplaints.{halts_there, halts_elsewhere}
use Rattle.command_write.proofs.halting.complaint_at.Goals as goal

pub returns-then-halted-index : goal.returns-then-halted-index
returns-then-halted-index c = sym (ap (λ (h : Option Halted). first_halts (drop c.args.index (halted_lists h))) c.in-Some.is ∙ halts_there c.in-Some.halted.input (trouble_of c.in-Some.halted.complaint) c.args.index c.if-halted-index.true)

pub returns-in-Some : goal.returns-in-Some
returns-in-Some c = sym (ap (λ (h : Option Halted). first_halts (drop c.args.index (halted_lists h))) c.in-Some.is ∙ halts_elsewhere c.in-Some.halted.input (trouble_of c.in-Some.halted.complaint) c.args.index c.if-halted-index.false)
