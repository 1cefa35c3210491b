use Rattle.std.proofs.Common.{refl}
use Rattle.mcap_model.specs.declared.refusals.ReadingRefused.TheVariants as refusals
use Rattle.mcap_model.specs.Made.{top}
use Rattle.mcap_scan.specs.Scanning.{content_of}
use Rattle.mcap_scan.proofs.Scanning.{given_back}
use Rattle.mcap_scan.proofs.scanner.Scanner.next.Goals as goal

pub returns-in-Err-clause-steps : goal.returns-in-Err-clause-steps
returns-in-Err-clause-steps g c = λ before tops was.
    let gives = c.in-Record.ensures.steps before tops was in (
      record {
        why = refusals.Memory;
        stage = c.stop.ensures.stage;
        stands = given_back c.advance.new.self.reader before (g.S.Source.state c.advance.new.self.source) tops (top c.in-Record.op (content_of c.advance.new.self.reader)) gives.going gives.stands;
      },
      (refusals.Memory, c.stop.ensures.stage, refl),
    )

pub returns-in-Err-clause-over : goal.returns-in-Err-clause-over
returns-in-Err-clause-over g c = λ scanned. absurd (c.in-Record.ensures.over scanned).1

pub returns-in-Refused-clause-steps : goal.returns-in-Refused-clause-steps
returns-in-Refused-clause-steps g c = λ before tops was.
    let gives = c.in-Refused.ensures.steps before tops was in
    (gives, (gives.why, gives.stage, c.refusal_of.ensures gives.why gives.stage))
