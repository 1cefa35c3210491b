-- The line of the file stands behind those of the feeds.
use Rattle.command_base.proofs.Behind.{prints-behind}
use Rattle.command_record.proofs.print.print_report.Goals as goal

pub returns-in-Ok : goal.returns-in-Ok
returns-in-Ok g c =
    rw (← c.deref.ensures.value, ← c.line_of_file.ensures)
    (prints-behind _ _ _ _ _ _ c.in-Ok.ensures c.print_line.ensures)
