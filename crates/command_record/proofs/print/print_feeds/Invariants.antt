-- So far the lines of the feeds below the index were printed.
use Rattle.std.proofs.Common.{take}
use Rattle.command_base.specs.Printing.{TellsAll}
use Rattle.command_record.specs.ReportTexts.{feed_lines}
use Rattle.command_record.proofs.print.print_feeds.Given as goal

abbrev pub invariant-feeds : goal.invariant-feeds
invariant-feeds g l = TellsAll (g.K.Sink.state l.fn.out) (g.K.Sink.state l.out) (feed_lines 1 (take l.i l.feeds))
