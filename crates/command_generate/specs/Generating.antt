-- What a generation does: what it records and reads back, what it tells of that, and how it ends.
use Rattle.std.specs.Prelude.{◌≡◌, ◌↔◌, ◌||◌, ◌&&◌, ℕ, List, [], ◌++◌, Bool, true, false, Option, Some, None}
use Rattle.mcap_io.specs.Outside.{Rose, WorldState}
use Rattle.mcap_model.specs.declared.ends.End.{End}
use Rattle.mcap_model.specs.declared.ends.End.TheVariants as ends
use Rattle.mcap_model.specs.declared.options.RecordOptions.{RecordOptions}
use Rattle.recorder.specs.declared.report.Report.{Report}
use Rattle.command_base.specs.declared.faults.Counts.{Counts}
use Rattle.command_base.specs.declared.statuses.Status.{Status}
use Rattle.command_base.specs.Texts.{Trouble, fault, output_fault, output_limit, no_memory}
use Rattle.command_base.specs.Printing.{Takes}
use Rattle.command_base.specs.Ran.{Scene, counts_in, AnyRose, WorldRose, when, Complains}
use Rattle.command_base.specs.OneFile.{text_of, troubles_in, is_lack}
use Rattle.recorder.specs.Findings.{lacks_memory, limit_passed}
use Rattle.command_generate.specs.declared.making.Numbers.{Numbers}
use Rattle.command_generate.specs.Back.{Back, back_ending, NameReadBack}
use Rattle.command_generate.specs.Making.{sources_of, NameWritten}

-- ---- reading back

-- the writer closed its file
abbrev pub writer_closed : End → Bool
writer_closed ends.Closed = true
writer_closed (ends.Stopped stop) = false

-- the file is whole and stands under its name
abbrev pub is_sound : Option Report → Bool → Bool
is_sound None kept = false
is_sound (Some r) kept = writer_closed r.writer.end && kept

-- where it is, it is read back; else nothing more is opened
abbrev pub ReadsBack : Bool → List ℕ → WorldState → WorldState → Option Back → Type 0
ReadsBack sound out old new None = (sound ≡ false) × (new ≡ old)
ReadsBack sound out old new (Some back) = (sound ≡ true) × NameReadBack out old new back

-- the text for standard output
abbrev pub text_after : ℕ → List ℕ → Option Back → List ℕ
text_after feeds out None = []
text_after feeds out (Some back) = text_of (back_ending feeds out back.reading)

-- why the reading halted
abbrev pub halts_after : ℕ → List ℕ → Option Back → List Trouble
halts_after feeds out None = []
halts_after feeds out (Some back) = troubles_in (back_ending feeds out back.reading)

-- whether memory lacked for it
abbrev pub is_lack_after : ℕ → List ℕ → Option Back → Bool
is_lack_after feeds out None = false
is_lack_after feeds out (Some back) = is_lack (back_ending feeds out back.reading)

-- ---- the end

-- Memory lacked exactly where the report names that, or the reading back does; or where there is no report though no count rose.
abbrev pub LackIsTold : Counts → Counts → ℕ → List ℕ → Option Report → Option Back → Bool → Type 0
LackIsTold before now feeds out None back lacked = (AnyRose before now → ⊥) ↔ (lacked ≡ true)
LackIsTold before now feeds out (Some r) back lacked = lacked ≡ (lacks_memory r || is_lack_after feeds out back)

-- all troubles, in their order
abbrev pub troubles_after : ℕ → List ℕ → Option Report → Option Back → Bool → Bool → Bool → List Trouble
troubles_after feeds out report back blamed printing lacked =
    halts_after feeds out back
    ++ (when blamed (fault out)
    ++ (when (limit_passed report) (output_limit out) ++ (when printing output_fault ++ when lacked no_memory)))

-- What `gen` does.
pub record Generates (options : RecordOptions) (numbers : Numbers) (out : List ℕ) (old new : Scene)
    (report : Option Report) (status : Status) : Type 0 where
  -- the generated feeds are recorded into the output, which is kept
  pub middle : WorldState
  pub kept : Bool
  pub written : NameWritten options (sources_of numbers) out old.world middle (record { report = report; kept = kept })
  -- a file that was closed and kept is read back
  pub back : Option Back
  pub reads : ReadsBack (is_sound report kept) out middle new.world back
  -- standard output takes the line of what was read
  pub printed : Takes old.out new.out (text_after numbers.feeds out back)
  -- standard error takes the lines of the troubles, which give the status; the output is blamed exactly where a count of the world rose
  pub blamed : Bool
  pub blame : (blamed ≡ true) ↔ WorldRose old.world new.world
  pub printing : Bool
  pub print_blame : (printing ≡ true) ↔ Rose old.out.faults new.out.faults
  pub lacked : Bool
  pub lacks : LackIsTold (counts_in old) (counts_in new) numbers.feeds out report back lacked
  pub said : Complains (troubles_after numbers.feeds out report back blamed printing lacked) old.err new.err status
