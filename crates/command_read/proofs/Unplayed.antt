-- What is found where a file isn't read.
use Rattle.std.proofs.Common.{◌≡◌, ℕ, Bool, true, false, not, ◌||◌, List, [], Some, None, refl, sym, inl, ap, subst, ◌∙◌}
use Rattle.std.proofs.lemmas.List.{append-nil}
use Rattle.mcap_io.specs.Outside.{SinkState, WorldState, Opening}
use Rattle.mcap_io.specs.declared.outside.ObjectKind.TheVariants as kinds
use Rattle.mcap_io.specs.declared.outside.OutsideRefused.{OutsideRefused}
use Rattle.mcap_io.specs.declared.outside.OutsideRefused.TheVariants as outside_refusals
use Rattle.mcap_model.specs.Scan.{Seen}
use Rattle.time_player.specs.Stretches.{TimedLine}
use Rattle.command_base.specs.declared.file_reading.Reading.TheVariants as readings
use Rattle.command_base.specs.ComplaintTroubles.{complained}
use Rattle.command_base.specs.Printing.{Takes}
use Rattle.command_base.specs.Ran.{Scene}
use Rattle.command_base.specs.OneFile.{Ending, was_read, halted, failing, lacked, refusal_ending, text_of, troubles_in, is_lack, NameRead}
use Rattle.command_base.specs.OneFileSteps.{HaltsWell, PrintsEnding}
use Rattle.command_base.specs.Readings.{ending_of}
use Rattle.command_base.specs.ReadingSteps.{IsRefusal}
use Rattle.command_read.specs.declared.two_files.Found.{Found}
use Rattle.command_read.specs.TwoFilesSteps.{FindsTwo, TwoRead}
use Rattle.command_read.proofs.TwoNames.{one_read}

takes_none : (s : SinkState) (text : List ℕ) → text ≡ [] → Takes s s text
takes_none s text none = subst (Takes s s) (sym none) (record {
  tells = inl (record { still = refl; adds = λ before told. told ∙ ap (λ (l : List ℕ). Some l) (sym (append-nil before)) });
  silent = λ is. refl;
})

prints_none : (s : SinkState) (ending : Ending) (broke : Bool) → IsRefusal ending → broke ≡ false → PrintsEnding s s ending broke
prints_none s (was_read text) broke is none = absurd is
prints_none s (halted trouble) broke is none = (none, refl)
prints_none s failing broke is none = (none, refl)
prints_none s lacked broke is none = (none, refl)

text_none : (ending : Ending) → IsRefusal ending → text_of ending ≡ []
text_none (was_read text) is = absurd is
text_none (halted trouble) is = refl
text_none failing is = refl
text_none lacked is = refl

-- what was found of it
pub record IsFound (found : Found) (ending : Ending) (failed : Bool) : Type 0 where
  pub file : complained found.file_halt ≡ troubles_in ending
  pub other : found.other_halt ≡ None
  pub lacks : found.lacked ≡ is_lack ending
  pub file_failed : found.file_failed ≡ failed
  pub other_failed : found.other_failed ≡ false
  pub broke : found.broke ≡ false

pub finds_unread : (file other : List ℕ) (old : Scene) (world : WorldState) (out : SinkState) (entries : List Opening) (failed : Bool) (ending : Ending) (found : Found) → out ≡ old.out → NameRead kinds.Source file old.world world entries failed
    → (ending ≡ failing → failed ≡ true) → HaltsWell ending → IsRefusal ending → IsFound found ending failed → FindsTwo file other old world out entries false ending found
finds_unread file other old world out entries failed ending found same name sure well refusal is = record {
  names = subst (λ (b : Bool). TwoRead file other old.world world entries b found.other_failed) (sym is.file_failed) (subst (λ (b : Bool). TwoRead file other old.world world entries failed b) (sym is.other_failed) (one_read file other old.world world entries failed name));
  sure = λ e. ap (λ (b : Bool). b || found.other_failed) (is.file_failed ∙ sure e);
  well = well;
  prints = subst (λ (s : SinkState). PrintsEnding s out ending found.broke) same (prints_none out ending found.broke refusal is.broke);
  takes = subst (λ (s : SinkState). Takes s out (text_of ending)) same (takes_none out (text_of ending) (text_none ending refusal));
  file_halt = is.file;
  other_halt = ap complained is.other;
  lacks = is.lacks;
}

-- ---- a file that wasn't opened

module _ (file : List ℕ) where
  abbrev pub unopened_ending : OutsideRefused → Ending
  unopened_ending why = ending_of {T = List Seen} (λ shown. []) (refusal_ending file) (readings.Unopened why)

  pub unopened_is : (why : OutsideRefused) → IsRefusal (unopened_ending why)
  unopened_is outside_refusals.Failed = tt
  unopened_is outside_refusals.Memory = tt

  pub unopened_halts : (why : OutsideRefused) → HaltsWell (unopened_ending why)
  unopened_halts outside_refusals.Failed trouble e = absurd cc
  unopened_halts outside_refusals.Memory trouble e = absurd cc

  pub unopened_none : (why : OutsideRefused) → [] ≡ troubles_in (unopened_ending why)
  unopened_none outside_refusals.Failed = refl
  unopened_none outside_refusals.Memory = refl

  pub unopened_lacks : (why : OutsideRefused) (failed : Bool) → (failed ≡ true → why ≡ outside_refusals.Failed) → (failed ≡ false → why ≡ outside_refusals.Memory) → not failed ≡ is_lack (unopened_ending why)
  unopened_lacks why true is isnt = sym (ap (λ (w : OutsideRefused). is_lack (unopened_ending w)) (is refl))
  unopened_lacks why false is isnt = sym (ap (λ (w : OutsideRefused). is_lack (unopened_ending w)) (isnt refl))

  pub unopened_alike : (why : OutsideRefused) → unopened_ending why ≡ failing → ending_of {T = List TimedLine} (λ lines. []) (refusal_ending file) (readings.Unopened why) ≡ failing
  unopened_alike outside_refusals.Failed e = refl
  unopened_alike outside_refusals.Memory e = absurd cc
