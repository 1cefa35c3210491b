-- What a generation comes to, of what its parts came to.
use Rattle.std.proofs.Common.{◌≡◌, ◌⊎◌, ◌↔◌, ◌||◌, ℕ, Bool, true, List, ◌++◌, Option, Some, None, ap, subst, ◌∙◌}
use Rattle.mcap_io.specs.Outside.{Rose, WorldState}
use Rattle.mcap_model.specs.declared.options.RecordOptions.{RecordOptions}
use Rattle.recorder.specs.declared.report.Report.{Report}
use Rattle.command_base.specs.declared.statuses.Status.{Status}
use Rattle.command_base.specs.declared.faults.Counts.{Counts}
use Rattle.command_base.specs.Texts.{Trouble, fault, output_fault, output_limit, no_memory}
use Rattle.command_base.specs.Printing.{Takes}
use Rattle.command_base.specs.Ran.{Scene, counts_in, when, Complains}
use Rattle.command_generate.specs.Back.{Back}
use Rattle.command_generate.specs.declared.making.Numbers.{Numbers}
use Rattle.command_generate.specs.Making.{sources_of, NameWritten}
use Rattle.recorder.specs.Findings.{limit_passed, lacks_memory}
use Rattle.command_generate.specs.Generating.{is_sound, ReadsBack, text_after, halts_after, is_lack_after, LackIsTold, Generates}

-- what is told of it, with these troubles of the reading back
abbrev pub told_with : List ℕ → List Trouble → Bool → Bool → Bool → Bool → List Trouble
told_with out halts blamed limited printing lacked =
    halts ++ (when blamed (fault out) ++ (when limited (output_limit out) ++ (when printing output_fault ++ when lacked no_memory)))

pub record CallsAre (options : RecordOptions) (numbers : Numbers) (out : List ℕ) (old new : Scene) (middle : WorldState) (report : Option Report) (kept : Bool) (back : Option Back) (before now : Counts) (halts : List Trouble) (blamed limited printing lacked : Bool) (status : Status) : Type 0 where
  pub before_is : before ≡ counts_in old
  pub now_is : now ≡ counts_in new
  pub written : NameWritten options (sources_of numbers) out old.world middle (record { report = report; kept = kept })
  pub reads : ReadsBack (is_sound report kept) out middle new.world back
  pub printed : Takes old.out new.out (text_after numbers.feeds out back)
  pub blame : (blamed ≡ true) ↔ (Rose before.world now.world ⊎ (Rose before.inputs now.inputs ⊎ Rose before.outputs now.outputs))
  pub print_blame : (printing ≡ true) ↔ Rose before.printing now.printing
  pub lacks : LackIsTold before now numbers.feeds out report back lacked
  pub halts_are : halts ≡ halts_after numbers.feeds out back
  pub limited_is : limited ≡ limit_passed report
  pub said : Complains (told_with out halts blamed limited printing lacked) old.err new.err status

-- a printing leaves what is told of a want of memory
pub lack_told : (before now : Counts) (feeds : ℕ) (out : List ℕ) (report : Option Report) (printed back : Option Back) (lacked : Bool) → is_lack_after feeds out printed ≡ is_lack_after feeds out back → LackIsTold before now feeds out report printed lacked → LackIsTold before now feeds out report back lacked
lack_told before now feeds out None printed back lacked same told = told
lack_told before now feeds out (Some r) printed back lacked same told = told ∙ ap (λ (b : Bool). lacks_memory r || b) same

-- what holds of the counts that were taken holds of those of both scenes
at_scenes : (P : Counts → Counts → Type 0) (before now old new : Counts) → before ≡ old → now ≡ new → P before now → P old new
at_scenes P before now old new first last holds = subst (λ (n : Counts). P old n) last (subst (λ (b : Counts). P b now) first holds)

pub generates : (options : RecordOptions) (numbers : Numbers) (out : List ℕ) (old new : Scene) (middle : WorldState) (report : Option Report) (kept : Bool) (back : Option Back) (before now : Counts) (halts : List Trouble) (blamed limited printing lacked : Bool) (status : Status)
    → CallsAre options numbers out old new middle report kept back before now halts blamed limited printing lacked status → Generates options numbers out old new report status
generates options numbers out old new middle report kept back before now halts blamed limited printing lacked status c =
    record {
      middle = middle;
      kept = kept;
      written = c.written;
      back = back;
      reads = c.reads;
      printed = c.printed;
      blamed = blamed;
      blame = at_scenes (λ b n. (blamed ≡ true) ↔ (Rose b.world n.world ⊎ (Rose b.inputs n.inputs ⊎ Rose b.outputs n.outputs))) before now (counts_in old) (counts_in new) c.before_is c.now_is c.blame;
      printing = printing;
      print_blame = at_scenes (λ b n. (printing ≡ true) ↔ Rose b.printing n.printing) before now (counts_in old) (counts_in new) c.before_is c.now_is c.print_blame;
      lacked = lacked;
      lacks = at_scenes (λ b n. LackIsTold b n numbers.feeds out report back lacked) before now (counts_in old) (counts_in new) c.before_is c.now_is c.lacks;
      said =
          subst (λ (l : List Trouble). Complains (told_with out l blamed (limit_passed report) printing lacked) old.err new.err status) c.halts_are
          (subst (λ (b : Bool). Complains (told_with out halts blamed b printing lacked) old.err new.err status) c.limited_is c.said);
    }
