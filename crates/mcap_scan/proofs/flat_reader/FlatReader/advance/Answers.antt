use Rattle.mcap_scan.proofs.Steps.{given_inside, due_before}
use Rattle.mcap_scan.proofs.flat_reader.FlatReader.advance.Goals as goal

pub returns-in-Some-clause-steps : goal.returns-in-Some-clause-steps
returns-in-Some-clause-steps g c = λ before tops given was.
    given_inside c.args.self.now c.next_inside.new.self c.in-Some.step before (g.S.Source.state c.args.source.now) tops given was c.in-Some.ensures

pub returns-in-Some-clause-over : goal.returns-in-Some-clause-over
returns-in-Some-clause-over g c = λ done. absurd (due_before c.args.self.now c.next_inside.new.self c.in-Some.step c.in-Some.ensures done.1)
