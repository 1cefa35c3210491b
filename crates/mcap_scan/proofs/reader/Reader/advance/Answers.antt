use Rattle.std.proofs.Common.{refl, subst}
use Rattle.mcap_scan.specs.declared.reader.Stage.{Stage}
use Rattle.mcap_scan.specs.Scanning.{StageStands}
use Rattle.mcap_scan.proofs.Scanning.{ended_so}
use Rattle.mcap_scan.proofs.reader.Reader.advance.Goals as goal

pub returns-in-Inside-clause-steps : goal.returns-in-Inside-clause-steps
returns-in-Inside-clause-steps g c = λ before tops stands.
    c.go_on.ensures.steps before tops
    (subst (λ (s : Stage). StageStands s c.args.self.now.tables c.args.self.now.offset before (g.S.Source.state c.args.source.now) tops) c.in-Inside.is stands)

pub returns-in-Ended-clause-steps : goal.returns-in-Ended-clause-steps
returns-in-Ended-clause-steps g c = λ before tops stands.
    let is = subst (λ (s : Stage). StageStands s c.args.self.now.tables c.args.self.now.offset before (g.S.Source.state c.args.source.now) tops) c.in-Ended.is stands in
    record {
      is = is;
      stage = c.in-Ended.is;
      stands = stands;
      halts = ended_so c.args.self.now.tables c.args.self.now.offset before (g.S.Source.state c.args.source.now) tops is;
    }

pub returns-in-Ended-clause-moves : goal.returns-in-Ended-clause-moves
returns-in-Ended-clause-moves g c = tt

pub returns-in-Ended-clause-over : goal.returns-in-Ended-clause-over
returns-in-Ended-clause-over g c = λ done. (refl, refl, tt)

pub returns-in-Stopped-clause-steps : goal.returns-in-Stopped-clause-steps
returns-in-Stopped-clause-steps g c = λ before tops stands.
    record {
      why = c.in-Stopped.why;
      stage = c.in-Stopped.is;
      stands = subst (λ (s : Stage). StageStands s c.args.self.now.tables c.args.self.now.offset before (g.S.Source.state c.args.source.now) tops) c.in-Stopped.is stands;
    }

pub returns-in-Stopped-clause-over : goal.returns-in-Stopped-clause-over
returns-in-Stopped-clause-over g c = λ done. (refl, refl, tt)
