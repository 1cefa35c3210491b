-- The line of a verdict is that of its kind.
use Rattle.std.proofs.Common.{◌∙◌, ap, sym}
use Rattle.command_read.specs.Check.{verdict_line}
use Rattle.command_read.proofs.verdict.line_of_verdict.Goals as goal

pub returns-in-Indexed : goal.returns-in-Indexed
returns-in-Indexed c = c.line_of_counts.ensures ∙ sym (ap verdict_line c.in-Indexed.is)

pub returns-in-Plain : goal.returns-in-Plain
returns-in-Plain c = c.line_of_counts-in-Plain.ensures ∙ sym (ap verdict_line c.in-Plain.is)
