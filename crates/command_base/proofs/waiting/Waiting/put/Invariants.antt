-- So far the bytes below the index were put.
use Rattle.std.proofs.Common.{take}
use Rattle.command_base.specs.Putting.{PutsText}
use Rattle.command_base.proofs.waiting.Waiting.put.Given as goal

abbrev pub invariant-text : goal.invariant-text
invariant-text g l = PutsText (g.E.Sink.state l.fn.err) l.fn.self (g.E.Sink.state l.err) l.self (take l.byte-index l.text)
