-- What the calls on sources, sinks, stores and worlds do to what is seen of them, and when one may fail.
use Rattle.std.specs.Prelude.{◌≡◌, ◌⊎◌, ℕ, ◌+◌, ◌<◌, ◌≤◌, List, [], ◌∷◌, ◌++◌, length, take, drop, Bool, true, false, Option, Some, None, Result, Ok, Err, OnOk, OnErr, All}
use Rattle.std.specs.Option.{option_map}
use Rattle.mcap_io.specs.declared.outside.Failed.{Failed}
use Rattle.mcap_io.specs.declared.outside.ObjectKind.{ObjectKind}
use Rattle.mcap_io.specs.declared.outside.ObjectKind.TheVariants as kinds
use Rattle.mcap_io.specs.declared.outside.OutsideRefused.{OutsideRefused}
use Rattle.mcap_io.specs.declared.outside.OutsideRefused.TheVariants as outside_refusals
use Rattle.mcap_io.specs.declared.outside.AppendRefused.{AppendRefused}
use Rattle.mcap_io.specs.declared.outside.AppendRefused.TheVariants as append_refusals
use Rattle.mcap_io.specs.declared.outside.Short.{Short}
use Rattle.mcap_io.specs.Outside.{SourceState, SinkState, LiveState, Names, Keeping, Opening, Told, WorldState, added, RisesOnce, Adds, AddsPart, opened, taken_back}

-- ---- counts of faults

-- the count stands still where the call went well; where it failed it has risen by one
pub record HasCause {T : Type 0} (before now : ℕ) (result : Result T Failed) : Type 0 where
  pub later : before ≤ now
  pub still : OnOk result (now ≡ before)
  pub failed : OnErr result (RisesOnce before now)

-- the same of an opening, of an append and of the reading of a stretch: want of memory leaves the count as it was
abbrev pub OpenCause : {T : Type 0} → ℕ → ℕ → Result T OutsideRefused → Type 0
OpenCause before now (Ok it) = now ≡ before
OpenCause before now (Err outside_refusals.Failed) = RisesOnce before now
OpenCause before now (Err outside_refusals.Memory) = now ≡ before

abbrev pub AppendCause : {T : Type 0} → ℕ → ℕ → Result T AppendRefused → Type 0
AppendCause before now (Ok it) = now ≡ before
AppendCause before now (Err (append_refusals.Failed taken)) = RisesOnce before now
AppendCause before now (Err append_refusals.Memory) = now ≡ before

abbrev pub ReadCause : {T : Type 0} → ℕ → ℕ → Result T OutsideRefused → Type 0
ReadCause before now (Ok it) = now ≡ before
ReadCause before now (Err outside_refusals.Failed) = RisesOnce before now
ReadCause before now (Err outside_refusals.Memory) = now ≡ before

-- ---- sources

-- a read gives the first bytes of what was left, and none only where there was no room or nothing was left
pub record GivesFront (rest : List ℕ) (left : Option (List ℕ)) (n : ℕ) (out : List ℕ) : Type 0 where
  pub given : take n out ≡ take n rest
  pub enough : n ≤ length rest
  pub after : left ≡ Some (drop n rest)
  pub at_end : n ≡ 0 → 0 < length out → rest ≡ []

abbrev pub ReadGives : Option (List ℕ) → Option (List ℕ) → List ℕ → Result ℕ Failed → Type 0
ReadGives old new out (Ok n) = (rest : List ℕ) → old ≡ Some rest → GivesFront rest new n out
ReadGives old new out (Err why) = new ≡ old

-- a whole stretch was taken: fewer bytes than were asked for come only where no more are left
pub record TakesFront (rest : List ℕ) (left : Option (List ℕ)) (len : ℕ) (got : List ℕ) : Type 0 where
  pub given : got ≡ take len rest
  pub after : left ≡ Some (drop len rest)

-- or a first part of it was lost, in a failure or where memory lacked for the rest
abbrev pub StretchTaken : Option (List ℕ) → Option (List ℕ) → ℕ → List ℕ → Result Unit OutsideRefused → Type 0
StretchTaken old new len got (Ok it) = (rest : List ℕ) → old ≡ Some rest → TakesFront rest new len got
StretchTaken old new len got (Err why) =
    (rest : List ℕ) → old ≡ Some rest → (n : ℕ) × (n < len) × (new ≡ Some (drop n rest))

-- ---- sinks and live stores

abbrev pub Writes : Option (List ℕ) → Option (List ℕ) → List ℕ → Result ℕ Failed → Type 0
Writes old new bytes (Ok n) = Adds old new (take n bytes)
Writes old new bytes (Err why) = AddsPart old new 0 bytes

-- all of a piece was taken and the count stood still; or so many first bytes were, in writes that went well, and then
-- a write failed, which took some first bytes of the rest
abbrev pub WritesAll : SinkState → SinkState → List ℕ → Result Unit Short → Type 0
WritesAll old new bytes (Ok it) = (new.faults ≡ old.faults) × Adds old.took new.took bytes
WritesAll old new bytes (Err short) =
    RisesOnce old.faults new.faults × (short.taken < length bytes) × AddsPart old.took new.took short.taken bytes

-- what a refused append leaves: the first bytes that it says, or all as it was
abbrev pub AppendLeaves : Option (List ℕ) → Option (List ℕ) → List ℕ → AppendRefused → Type 0
AppendLeaves old new bytes (append_refusals.Failed taken) = (taken ≤ length bytes) × Adds old new (take taken bytes)
AppendLeaves old new bytes append_refusals.Memory = new ≡ old

-- ---- openings

-- the names and the log, with one more opening
abbrev pub with_opening : Told → Opening → Told
with_opening told entry = record { names = told.names; log = told.log ++ entry ∷ [] }

-- an opening is listed, unless memory lacked for it; the names hold what they held
abbrev pub Opens : {T : Type 0} → WorldState → WorldState → ObjectKind → List ℕ → Result T OutsideRefused → Type 0
Opens old new kind name (Ok it) = new.told ≡ option_map (λ told. with_opening told (opened kind name true)) old.told
Opens old new kind name (Err outside_refusals.Failed) =
    new.told ≡ option_map (λ told. with_opening told (opened kind name false)) old.told
Opens old new kind name (Err outside_refusals.Memory) = new.told ≡ old.told

-- an opening leaves the counts of what was taken back
pub record CountsStand (old new : WorldState) : Type 0 where
  pub inputs : new.input_faults ≡ old.input_faults
  pub outputs : new.output_faults ≡ old.output_faults
  pub watches : new.watch_faults ≡ old.watch_faults

-- ---- keepings

-- the entry is of an object of that kind under that name, which was given and not taken back
pub record IsOut (kind : ObjectKind) (name : List ℕ) (entry : Opening) : Type 0 where
  pub kind_is : entry.kind ≡ kind
  pub name_is : entry.name ≡ name
  pub given : entry.given ≡ true
  pub out : entry.kept ≡ None

-- none of them is
abbrev pub NoneIsOut : ObjectKind → List ℕ → List Opening → Type 0
NoneIsOut kind name entries = All (λ entry. IsOut kind name entry → ⊥) entries

-- the newest entry that an object of that kind is out of, under that name
pub record IsNewestOut (log : List Opening) (kind : ObjectKind) (name : List ℕ) (before : List Opening)
    (entry : Opening) (behind : List Opening) : Type 0 where
  pub there : log ≡ before ++ entry ∷ behind
  pub out : IsOut kind name entry
  pub newest : NoneIsOut kind name behind

-- a keeping is noted in the newest entry of such an object; where there is none, the log stays
abbrev pub Notes : List Opening → List Opening → ObjectKind → List ℕ → Keeping → Type 0
Notes old new kind name keeping = ((before behind : List Opening) × (entry : Opening)
    × IsNewestOut old kind name before entry behind × (new ≡ before ++ taken_back entry keeping ∷ behind))
    ⊎ (NoneIsOut kind name old × (new ≡ old))

-- whether a call went well
abbrev pub went_well : {T : Type 0} → Result T Failed → Bool
went_well (Ok it) = true
went_well (Err why) = false

-- ---- worlds

-- all names but one hold what they held
abbrev pub OthersSame : Names → Names → List ℕ → Type 0
OthersSame all now name = (other : List ℕ) → (other ≡ name → ⊥) → now other ≡ all other

-- what a keeping put under the name: the object's bytes; after a failure these, or what it held before
abbrev pub PlacedUnder : Names → Names → List ℕ → List ℕ → Result Unit Failed → Type 0
PlacedUnder all now name bytes (Ok it) = now name ≡ Some bytes
PlacedUnder all now name bytes (Err why) = (now name ≡ Some bytes) ⊎ (now name ≡ all name)

pub record KeepsName (all now : Names) (name : List ℕ) (held : Option (List ℕ)) (result : Result Unit Failed)
    : Type 0 where
  pub others : OthersSame all now name
  pub placed : (bytes : List ℕ) → held ≡ Some bytes → PlacedUnder all now name bytes result

-- where the world tells, it goes on telling: a source that is taken back is noted, and the names hold what they held
abbrev pub KeepsSource : WorldState → WorldState → List ℕ → SourceState → Result Unit Failed → Type 0
KeepsSource old new name it result = (told : Told) → old.told ≡ Some told
    → (now : Told) × (new.told ≡ Some now) × (now.names ≡ told.names)
    × Notes told.log now.log kinds.Source name (record
    { well = went_well result; faults = it.faults; left = it.left; asked = 0 })

-- an object of that kind, which told these bytes and had failed so often, is taken back: it is noted, and its bytes stand
-- under its name alone
abbrev pub KeepsWritten : ObjectKind → WorldState → WorldState → List ℕ → Option (List ℕ) → ℕ → Result Unit Failed
    → Type 0
KeepsWritten kind old new name bytes faults result = (told : Told) → old.told ≡ Some told
    → (now : Told) × (new.told ≡ Some now) × KeepsName told.names now.names name bytes result
    × Notes told.log now.log kind name (record { well = went_well result; faults = faults; left = None; asked = 0 })

abbrev pub KeepsSink : WorldState → WorldState → List ℕ → SinkState → Result Unit Failed → Type 0
KeepsSink old new name it result = KeepsWritten kinds.Sink old new name it.took it.faults result

abbrev pub KeepsLive : WorldState → WorldState → List ℕ → LiveState → Result Unit Failed → Type 0
KeepsLive old new name it result = KeepsWritten kinds.Live old new name it.held it.faults result

-- what a newly made store tells: nothing yet
abbrev pub TellsNothingYet : WorldState → LiveState → Type 0
TellsNothingYet world live = (told : Told) → world.told ≡ Some told → live.held ≡ Some []

-- what a newly made sink tells: it took nothing yet
abbrev pub TookNothingYet : WorldState → SinkState → Type 0
TookNothingYet world sink = (told : Told) → world.told ≡ Some told → sink.took ≡ Some []

-- a view is let go, whose faults were so many
pub record LetsViewGo (old new : WorldState) (failures : ℕ) : Type 0 where
  pub told : new.told ≡ old.told
  pub faults : new.faults ≡ old.faults
  pub inputs : new.input_faults ≡ old.input_faults
  pub outputs : new.output_faults ≡ old.output_faults
  pub watches : new.watch_faults ≡ added old.watch_faults failures
