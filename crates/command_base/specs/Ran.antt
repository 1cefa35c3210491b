-- What every command does: to the names of the world, to both outputs, and how it ends.
use Rattle.std.specs.Prelude.{◌≡◌, ◌⊎◌, ◌↔◌, ◌<◌, ◌+◌, ◌-◌, ◌^◌, ◌==◌, ◌||◌, not, ℕ, List, [], ◌∷◌, ◌++◌, map, drop, Bool, true, false, if◌then◌else◌, Option, Some, None}
use Rattle.std.specs.List.{flat_map}
use Rattle.mcap_io.specs.Outside.{Rose, added, SinkState, WorldState, Told, Keeping, Opening, opened, taken_back}
use Rattle.mcap_io.specs.declared.outside.ObjectKind.{ObjectKind}
use Rattle.mcap_io.specs.declared.outside.ObjectKind.TheVariants as kinds
use Rattle.mcap_model.specs.Places.{Has, Each}
use Rattle.command_base.specs.declared.faults.Counts.{Counts}
use Rattle.command_base.specs.declared.statuses.Status.{Status}
use Rattle.command_base.specs.Printing.{Takes}
use Rattle.command_base.specs.Texts.{Trouble, fault, output_fault, no_memory, said, status_of}

-- ---- what is seen

-- of the world and of both outputs
pub record Scene : Type 0 where
  pub world : WorldState
  pub out : SinkState
  pub err : SinkState

-- ---- counts of faults

-- the counts of the world, of its kept inputs and outputs, and of standard output
abbrev pub counted_faults : WorldState → SinkState → Counts
counted_faults world out =
    record { world = world.faults; inputs = world.input_faults; outputs = world.output_faults; printing = out.faults }

abbrev pub counts_in : Scene → Counts
counts_in s = counted_faults s.world s.out

-- a count of the world has risen
abbrev pub WorldRose : WorldState → WorldState → Type 0
WorldRose old new =
    Rose old.faults new.faults ⊎ (Rose old.input_faults new.input_faults ⊎ Rose old.output_faults new.output_faults)

abbrev pub AnyRose : Counts → Counts → Type 0
AnyRose before now = Rose before.world now.world ⊎ (Rose before.inputs now.inputs
    ⊎ (Rose before.outputs now.outputs ⊎ Rose before.printing now.printing))

-- no count of a world stands at the end of its type
pub record CountsOn (w : WorldState) : Type 0 where
  pub world : w.faults < 2 ^ 64 - 1
  pub inputs : w.input_faults < 2 ^ 64 - 1
  pub outputs : w.output_faults < 2 ^ 64 - 1

-- ---- openings

-- the names that a command reads and those that it writes, in the order of the words; and as what it opens its inputs
pub record Files : Type 0 where
  pub kind : ObjectKind
  pub inputs : List (List ℕ)
  pub outputs : List (List ℕ)

-- what is opened: of what, and under which name
abbrev pub Wanted : Type 0
Wanted = ObjectKind × List ℕ

-- the inputs, and then the outputs
abbrev pub wanted : Files → List Wanted
wanted files = map (λ name. (files.kind, name)) files.inputs ++ map (λ name. (kinds.Live, name)) files.outputs

-- an object that was given, and taken back under its own name
abbrev pub kept : ObjectKind → List ℕ → Keeping → Opening
kept kind name keeping = taken_back (opened kind name true) keeping

abbrev pub refused : ObjectKind → List ℕ → Opening
refused kind name = opened kind name false

-- Each was opened once, in this order, up to one that was refused: a failure has its entry, a want of memory none. What was
-- given was taken back.
abbrev pub AreOpened : List Wanted → List Opening → Type 0
AreOpened [] entries = entries ≡ []
AreOpened (first ∷ more) [] = Unit {0}
AreOpened (first ∷ more) (entry ∷ entries) = ((entry ≡ refused first.0 first.1) × (entries ≡ []))
    ⊎ ((keeping : Keeping) × (entry ≡ kept first.0 first.1 keeping) × AreOpened more entries)

-- a live store was given under that name
pub record IsGivenLive (entries : List Opening) (name : List ℕ) : Type 0 where
  pub entry : Opening
  pub there : Has entries entry
  pub live : entry.kind ≡ kinds.Live
  pub given : entry.given ≡ true
  pub named : entry.name ≡ name

-- Where the world tells, it goes on telling: these openings stand behind those before, and a name that isn't written holds
-- what it held.
abbrev pub Leaves : WorldState → WorldState → List Opening → Type 0
Leaves old new entries = (told : Told) → old.told ≡ Some told
    → (now : Told) × (new.told ≡ Some now) × (now.log ≡ told.log ++ entries)
    × ((name : List ℕ) → (IsGivenLive entries name → ⊥) → now.names name ≡ told.names name)

-- ---- faults of openings

-- how often an object that was taken back had failed
abbrev pub object_faults : Option Keeping → ℕ
object_faults None = 0
object_faults (Some keeping) = keeping.faults

-- its faults, where it is an input, or an output
abbrev pub source_faults : ObjectKind → ℕ → ℕ
source_faults kinds.Source faults = faults
source_faults kinds.Store faults = faults
source_faults kinds.Sink faults = 0
source_faults kinds.Live faults = 0

abbrev pub live_faults : ObjectKind → ℕ → ℕ
live_faults kinds.Source faults = 0
live_faults kinds.Store faults = 0
live_faults kinds.Sink faults = 0
live_faults kinds.Live faults = faults

-- of all openings
abbrev pub input_faults : List Opening → ℕ
input_faults [] = 0
input_faults (entry ∷ entries) = source_faults entry.kind (object_faults entry.kept) + input_faults entries

abbrev pub output_faults : List Opening → ℕ
output_faults [] = 0
output_faults (entry ∷ entries) = live_faults entry.kind (object_faults entry.kept) + output_faults entries

-- an opening that was refused is a failure of the world, and so is a keeping that didn't go well
abbrev pub failures_keeping : Option Keeping → ℕ
failures_keeping None = 0
failures_keeping (Some keeping) = if keeping.well then 0 else 1

abbrev pub failures_opening : Opening → ℕ
failures_opening entry = (if entry.given then 0 else 1) + failures_keeping entry.kept

abbrev pub world_faults : List Opening → ℕ
world_faults [] = 0
world_faults (entry ∷ entries) = failures_opening entry + world_faults entries

-- the world counted its own failures, and the faults of what it took back
pub record CountsKept (old new : WorldState) (entries : List Opening) : Type 0 where
  pub world : new.faults ≡ added old.faults (world_faults entries)
  pub inputs : new.input_faults ≡ added old.input_faults (input_faults entries)
  pub outputs : new.output_faults ≡ added old.output_faults (output_faults entries)

-- ---- which names are blamed

-- an object failed so often, or its keeping did
abbrev pub failed_so : Bool → ℕ → Bool
failed_so well faults = not well || not (faults == 0)

abbrev pub kept_failed : Option Keeping → Bool
kept_failed None = false
kept_failed (Some keeping) = failed_so keeping.well keeping.faults

-- the opening was refused by a failure, or its object failed, or the keeping of that did
abbrev pub has_failed : Opening → Bool
has_failed entry = not entry.given || kept_failed entry.kept

-- the name, where it is blamed
abbrev pub named_when : Bool → List ℕ → List (List ℕ)
named_when failed name = if failed then name ∷ [] else []

-- the names of those that failed
abbrev pub failed_names : List Opening → List (List ℕ)
failed_names entries = flat_map (λ entry. named_when (has_failed entry) entry.name) entries

-- which of the names of a command are blamed: of its inputs, and of its outputs, in their order; where an answer is missing,
-- the name isn't
pub record Failed : Type 0 where
  pub inputs : List Bool
  pub outputs : List Bool

-- the names that are blamed, and those behind
abbrev pub blamed_among : List (List ℕ) → List Bool → List (List ℕ) → List (List ℕ)
blamed_among [] failed behind = behind
blamed_among (name ∷ names) [] behind = behind
blamed_among (name ∷ names) (failed ∷ more) behind = named_when failed name ++ blamed_among names more behind

abbrev pub blamed_names : Files → Failed → List (List ℕ)
blamed_names files failed = blamed_among files.inputs failed.inputs (blamed_among files.outputs failed.outputs [])

-- A failure of that name shows in a count: in that of the world, or in that of what was taken back.
abbrev pub IsCaused : Files → WorldState → WorldState → List ℕ → Type 0
IsCaused files old new name = Rose old.faults new.faults
    ⊎ ((Has files.inputs name × Rose old.input_faults new.input_faults) ⊎ (Has files.outputs name × Rose old.output_faults new.output_faults))

-- The names that a fault is told of: those that failed, and no other, but where a count stands at the end of its type and so
-- can't tell. Each of them has its count, and each count that rose has its name.
pub record Blames (files : Files) (old new : WorldState) (entries : List Opening) (names : List (List ℕ)) : Type 0 where
  pub exact : CountsOn old → names ≡ failed_names entries
  pub caused : Each (IsCaused files old new) names
  pub told : CountsOn old → WorldRose old new → names ≡ [] → ⊥

-- standard output is blamed exactly where its count rose, or stands at the end of its type
abbrev pub BlamesOutput : SinkState → SinkState → Bool → Type 0
BlamesOutput old new printing = (printing ≡ true) ↔ Rose old.faults new.faults

-- ---- standard error

-- the trouble, where it is there
abbrev pub when : Bool → Trouble → List Trouble
when there trouble = if there then trouble ∷ [] else []

-- What a command found besides faults: where each of its inputs halts, what its outputs can't take, and whether memory lacked.
pub record Findings : Type 0 where
  pub halts : List (List Trouble)
  pub limits : List Trouble
  pub lacked : Bool

-- the first of the lists and of the answers, or none where there is no more
abbrev pub first_halts : List (List Trouble) → List Trouble
first_halts [] = []
first_halts (halts ∷ more) = halts

abbrev pub first_failed : List Bool → Bool
first_failed [] = false
first_failed (failed ∷ more) = failed

-- what is told of names, in their order: of each where it halts, and then that it failed; and what is told behind
abbrev pub told_of : List (List ℕ) → List (List Trouble) → List Bool → List Trouble → List Trouble
told_of [] halts failed behind = behind
told_of (name ∷ names) halts failed behind = first_halts halts
    ++ (when (first_failed failed) (fault name) ++ told_of names (drop 1 halts) (drop 1 failed) behind)

-- all troubles, in their order: those of the inputs, of the outputs, and the others
abbrev pub troubles_of : Files → Findings → Failed → Bool → List Trouble
troubles_of files found failed printing =
    told_of files.inputs found.halts failed.inputs (told_of files.outputs [] failed.outputs
    (found.limits ++ (when printing output_fault ++ when found.lacked no_memory)))

-- Standard error took the lines of these troubles, and no more; all of them, or a first part where it failed itself. They give
-- the status.
pub record Complains (due : List Trouble) (before now : SinkState) (status : Status) : Type 0 where
  pub status_is : status ≡ status_of due
  pub text : Takes before now (said due)

-- ---- a command

-- What a command did that opened these names: the entries of its openings, the text that it had for standard output, what it
-- found, and its status.
pub record Ran (files : Files) (old new : Scene) (entries : List Opening) (text : List ℕ) (found : Findings)
    (status : Status) : Type 0 where
  -- these names were opened, and nothing else
  pub opened : AreOpened (wanted files) entries
  pub leaves : Leaves old.world new.world entries
  -- all failures are counted
  pub counts : CountsKept old.world new.world entries
  -- standard output took the text, or a first part of it where it failed
  pub printed : Takes old.out new.out text
  -- standard error took the lines of the troubles, which name what failed
  pub failed : Failed
  pub blames : Blames files old.world new.world entries (blamed_names files failed)
  pub printing : Bool
  pub blames_output : BlamesOutput old.out new.out printing
  pub said : Complains (troubles_of files found failed printing) old.err new.err status
