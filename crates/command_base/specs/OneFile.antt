-- What a command does that reads one file and prints of it: how the reading ended, what is printed and told of that, and
-- which parts are blamed.
use Rattle.std.specs.Prelude.{◌≡◌, ◌⊎◌, ◌↔◌, ℕ, List, [], ◌∷◌, ◌++◌, Bool, true, false}
use Rattle.mcap_io.specs.Outside.{Rose, WorldState, Opening}
use Rattle.mcap_io.specs.declared.outside.ObjectKind.{ObjectKind}
use Rattle.mcap_model.specs.declared.refusals.ReadingRefused.{ReadingRefused}
use Rattle.mcap_model.specs.declared.refusals.ReadingRefused.TheVariants as refusals
use Rattle.mcap_model.specs.declared.refusals.IndexedRefused.{IndexedRefused}
use Rattle.mcap_model.specs.declared.refusals.IndexedRefused.TheVariants as indexed
use Rattle.command_base.specs.declared.faults.Counts.{Counts}
use Rattle.command_base.specs.declared.statuses.Status.{Status}
use Rattle.command_base.specs.declared.statuses.Status.TheVariants as statuses
use Rattle.command_base.specs.Printing.{TellsAll}
use Rattle.command_base.specs.Texts.{Trouble, grammar, compressed, limit, not_indexed, asked_status}
use Rattle.command_base.specs.Ran.{Scene, counts_in, AnyRose, Files, wanted, AreOpened, Leaves, CountsKept, named_when, failed_names, Findings, Ran}

-- ---- the reading

-- How the reading of a file ended: it was read, and this is printed of it; it can't be, for that trouble; its opening or its
-- object failed; or memory lacked.
pub data Ending : Type 0 where
  was_read : List ℕ → Ending
  halted : Trouble → Ending
  failing : Ending
  lacked : Ending

-- that of a reading that was refused
abbrev pub refusal_ending : List ℕ → ReadingRefused → Ending
refusal_ending file (refusals.Fault faults) = failing
refusal_ending file (refusals.Grammar n rule) = halted (grammar file n)
refusal_ending file (refusals.Compressed n name) = halted (compressed file name n)
refusal_ending file (refusals.Limit n) = halted (limit file n)
refusal_ending file refusals.Memory = lacked

-- and of one by the file's index
abbrev pub indexed_ending : List ℕ → IndexedRefused → Ending
indexed_ending file (indexed.NotIndexed why) = halted (not_indexed file why)
indexed_ending file (indexed.Refused why) = refusal_ending file why

-- the text for standard output
abbrev pub text_of : Ending → List ℕ
text_of (was_read text) = text
text_of (halted trouble) = []
text_of failing = []
text_of lacked = []

-- the trouble that it is, and whether it is a want of memory
abbrev pub troubles_in : Ending → List Trouble
troubles_in (was_read text) = []
troubles_in (halted trouble) = trouble ∷ []
troubles_in failing = []
troubles_in lacked = []

abbrev pub is_lack : Ending → Bool
is_lack (was_read text) = false
is_lack (halted trouble) = false
is_lack failing = false
is_lack lacked = true

-- what there is to tell of it besides faults
abbrev pub findings_of : Ending → Findings
findings_of ending = record { halts = troubles_in ending ∷ []; limits = []; lacked = is_lack ending }

-- the status that it asks for
abbrev pub ending_status : Ending → Status
ending_status (was_read text) = statuses.Done
ending_status (halted trouble) = asked_status trouble
ending_status failing = statuses.Fault
ending_status lacked = statuses.Memory

-- ---- the file

-- the one name, opened as an object of that kind
abbrev pub single_file : ObjectKind → List ℕ → Files
single_file kind file = record { kind = kind; inputs = file ∷ []; outputs = [] }

-- what became of the file's name: it was opened and taken back, or not, and failed or not
pub record NameRead (kind : ObjectKind) (file : List ℕ) (old new : WorldState) (entries : List Opening) (failed : Bool)
    : Type 0 where
  pub opened : AreOpened (wanted (single_file kind file)) entries
  pub leaves : Leaves old new entries
  pub counts : CountsKept old new entries
  pub names_are : failed_names entries ≡ named_when failed file ++ []
  pub cause : failed ≡ true → Rose old.faults new.faults ⊎ Rose old.input_faults new.input_faults
  pub world_told : failed ≡ false → new.faults ≡ old.faults
  pub inputs_told : failed ≡ false → new.input_faults ≡ old.input_faults
  pub outputs : new.output_faults ≡ old.output_faults

-- ---- faults

-- a count of what the command asks has risen: of the world, of its inputs, or of standard output
abbrev pub AskedRose : Counts → Counts → Type 0
AskedRose before now = Rose before.world now.world ⊎ (Rose before.inputs now.inputs ⊎ Rose before.printing now.printing)

-- ---- the command

-- What a command did to the world and to both outputs that opened the one name, and whose reading of it ended so.
pub record ReadsOne (kind : ObjectKind) (file : List ℕ) (old new : Scene) (entries : List Opening) (ending : Ending)
    (status : Status) : Type 0 where
  -- standard output takes the text, and standard error the troubles, which give the status
  pub ran : Ran (single_file kind file) old new entries (text_of ending) (findings_of ending) status
  -- the file alone is blamed, once, where a count of the world or of its inputs rose, or stands at the end of its type
  pub blamed : Bool
  pub blame : ran.failed ≡ record { inputs = blamed ∷ []; outputs = [] }
  pub cause : (blamed ≡ true)
      ↔ (Rose old.world.faults new.world.faults ⊎ Rose old.world.input_faults new.world.input_faults)
  -- a want of memory is the answer exactly where memory lacked for the reading
  pub memory : (status ≡ statuses.Memory) ↔ (ending ≡ lacked)
  -- a count that rose is answered, also one that stands at the end of its type; and a fault is the answer only to such a count
  pub rose : AskedRose (counts_in old) (counts_in new) → (status ≡ statuses.Fault) ⊎ (status ≡ statuses.Memory)
  pub faulted : status ≡ statuses.Fault → AskedRose (counts_in old) (counts_in new)
  -- unless a count rises, the file didn't fail, and the ending decides the status
  pub calm : (AnyRose (counts_in old) (counts_in new) → ⊥)
      → (failed_names entries ≡ []) × (ending ≡ failing → ⊥) × (status ≡ ending_status ending)
  -- that all was done says that the file was read without a failure, and that all of the text was taken
  pub whole : status ≡ statuses.Done
      → (failed_names entries ≡ []) × ((text : List ℕ) × (ending ≡ was_read text) × TellsAll old.out new.out text)
