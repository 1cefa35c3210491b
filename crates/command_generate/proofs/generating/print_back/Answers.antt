-- What was read back was printed, and its ending is what it was.
use Rattle.std.proofs.Common.{Option, sym, ap, subst, ◌∙◌}
use Rattle.command_base.specs.Printing.{Takes}
use Rattle.command_generate.specs.Back.{Back}
use Rattle.command_generate.specs.Generating.{text_after, halts_after, is_lack_after}
use Rattle.command_generate.proofs.generating.print_back.Goals as goal

pub returns-in-Some-clause-takes : goal.returns-in-Some-clause-takes
returns-in-Some-clause-takes g c = λ file.
    subst (λ (b : Option Back). Takes (g.O.Sink.state c.args.out.now) (g.O.Sink.state c.print_reading.new.out) (text_after c.args.what.now.feeds file b)) (sym c.in-Some.is) (c.print_reading.ensures.takes file)

pub returns-in-Some-clause-halts : goal.returns-in-Some-clause-halts
returns-in-Some-clause-halts g c = λ file. c.print_reading.ensures.halts file ∙ ap (halts_after c.args.what.now.feeds file) (sym c.in-Some.is)

pub returns-in-Some-clause-lacks : goal.returns-in-Some-clause-lacks
returns-in-Some-clause-lacks g c = λ file. c.print_reading.ensures.lacks file ∙ ap (is_lack_after c.args.what.now.feeds file) (sym c.in-Some.is)
