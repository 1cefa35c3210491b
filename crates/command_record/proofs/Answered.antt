-- The text of a report that is there.
use Rattle.std.proofs.Common.{◌≡◌, ℕ, List, [], ◌∷◌, ◌++◌, Option, Some, sym, subst}
use Rattle.mcap_io.specs.Outside.{SinkState}
use Rattle.recorder.specs.declared.report.Report.{Report}
use Rattle.command_base.specs.Printing.{Tells, Takes}
use Rattle.command_record.specs.ReportTexts.{file_line, printed, feed_lines}
use Rattle.command_record.specs.Record.{report_text}

not_empty : (xs ys : List ℕ) (y : ℕ) → xs ++ y ∷ ys ≡ [] → ⊥
not_empty [] ys y e = absurd cc
not_empty (x ∷ xs) ys y e = absurd cc

-- a report has a text
report_is_said : (r : Report) → printed r ≡ [] → ⊥
unfolding file_line
report_is_said r e = not_empty (feed_lines 1 r.feeds.items) _ _ e

-- the text of a report that is there
pub takes_report : (before now : SinkState) (report : Option Report) (r : Report) → report ≡ Some r → Tells before now (printed r) → Takes before now (report_text report)
takes_report before now report r is tells =
    subst (λ (x : Option Report). Takes before now (report_text x)) (sym is) (record { tells = tells; silent = λ none. absurd (report_is_said r none) })
