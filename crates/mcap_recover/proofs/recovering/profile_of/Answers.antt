-- The first record is a Header, or it was refused.
use Rattle.std.proofs.Common.{List, ℕ, [], Err, sym, subst}
use Rattle.rec_data.specs.Records.{ShowsHeader}
use Rattle.mcap_scan.specs.declared.flat_reader.FlatStep.{FlatStep}
use Rattle.mcap_scan.specs.Walking.{FlatAdvanced}
use Rattle.record_keeping.proofs.Reading.{begun_header}
use Rattle.mcap_recover.specs.declared.answers.RecoverRefused.{RecoverRefused}
use Rattle.mcap_recover.specs.Readings.{BeginsReading}
use Rattle.mcap_recover.specs.Recovering.{HasHalted}
use Rattle.mcap_recover.proofs.Reading.{begun_lacks, none_ended, refused_begun}
use Rattle.mcap_recover.proofs.recovering.profile_of.Goals as goal

pub returns-in-Ok : goal.returns-in-Ok
returns-in-Ok c = λ before now step.
    begun_header (HasHalted before now) c.args.reader.now before now _ _ c.in-Ok.profile (subst (λ (s : FlatStep). FlatAdvanced c.args.reader.now before now [] [] s) c.in-Record.is step)
    (λ f shows. c.in-Ok.ensures.profile f (subst (λ (l : List ℕ). ShowsHeader l f) (sym c.content.ensures) shows))

pub returns-in-Some : goal.returns-in-Some
returns-in-Some c = λ before now step.
    refused_begun c.args.reader.now before now c.in-Some.why.now c.profile_behind.result (subst (λ (s : FlatStep). FlatAdvanced c.args.reader.now before now [] [] s) c.in-Refused.is step) c.in-Some.ensures c.profile_behind.ensures

pub returns-in-Err : goal.returns-in-Err
returns-in-Err c = λ before now step.
    subst (λ (r : RecoverRefused). BeginsReading before now c.args.reader.now (Err r)) (sym c.lacked.ensures)
    (begun_lacks c.args.reader.now before now _ _ (subst (λ (s : FlatStep). FlatAdvanced c.args.reader.now before now [] [] s) c.in-Record.is step)
    (λ f shows. c.in-Err.ensures.lacks f (subst (λ (l : List ℕ). ShowsHeader l f) (sym c.content.ensures) shows)))

pub returns-in-End : goal.returns-in-End
returns-in-End c = λ before now step. absurd (none_ended c.args.reader.now before now _ (subst (λ (s : FlatStep). FlatAdvanced c.args.reader.now before now [] [] s) c.in-End.is step))

pub returns-in-None : goal.returns-in-None
returns-in-None c = λ before now step.
    let refuses = subst (λ (s : FlatStep). FlatAdvanced c.args.reader.now before now [] [] s) c.in-Refused.is step in
    let it = refuses.refuses in
    absurd (c.in-None.ensures it.why it.stage)
