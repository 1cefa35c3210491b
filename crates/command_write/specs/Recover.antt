-- What the recovery of a file does: to the names of the world, to both outputs, and how it ends.
use Rattle.std.specs.Prelude.{◌≡◌, ◌⊎◌, ℕ, List, [], ◌∷◌, ◌++◌, codes, decimal, length, filter, Bool, true, false, Option, Some, None, Result, Ok, Err}
use Rattle.rec_data.specs.declared.owned.Rec.{Rec}
use Rattle.mcap_io.specs.Outside.{SourceState, LiveState, WorldState, Told, Opening, TellsName}
use Rattle.mcap_io.specs.declared.outside.ObjectKind.TheVariants as kinds
use Rattle.mcap_model.specs.Tops.{Top}
use Rattle.mcap_model.specs.Rules.{V1}
use Rattle.mcap_model.specs.Kept.{Good, Halt, reading_limits, Halts}
use Rattle.mcap_model.specs.History.{is_message}
use Rattle.mcap_model.specs.Blocks.{pieces_of, blocks_in}
use Rattle.mcap_model.specs.File.{file_of, IsPrefix}
use Rattle.mcap_model.specs.Repaired.{Repairs, Repaired}
use Rattle.chunk_writer.specs.Limits.{FileHolds}
use Rattle.chunk_writer.specs.declared.tape.Written.{Written}
use Rattle.chunk_writer.specs.Stops.{StopsAt}
use Rattle.mcap_recover.specs.declared.answers.Why.{Why}
use Rattle.mcap_recover.specs.declared.answers.Why.TheVariants as whys
use Rattle.mcap_recover.specs.declared.answers.Recovered.{Recovered}
use Rattle.mcap_recover.specs.declared.answers.RecoverRefused.{RecoverRefused}
use Rattle.mcap_recover.specs.declared.answers.RecoverRefused.TheVariants as refusals
use Rattle.mcap_model.specs.declared.refusals.ReadingRefused.{ReadingRefused}
use Rattle.mcap_model.specs.declared.refusals.ReadingRefused.TheVariants as scans
use Rattle.mcap_model.specs.declared.ends.Stop.{Stop}
use Rattle.mcap_model.specs.declared.ends.Stop.TheVariants as stops
use Rattle.record_keeping.specs.NewFiles.{recovered_options, LeftAfter, IsUnbegun, AreRipe, CutShort}
use Rattle.mcap_recover.specs.Recovering.{lacks, TellsHalt, BreaksOffLeaving, recovered_making, HaltedBytes, Recovers}
use Rattle.command_base.specs.declared.statuses.Status.{Status}
use Rattle.command_base.specs.declared.statuses.Status.TheVariants as statuses
use Rattle.command_base.specs.Texts.{grammar}
use Rattle.command_base.specs.Ran.{Scene, counts_in, AnyRose, Files, kept}
use Rattle.command_write.specs.declared.recovering.Recovery.{Recovery}
use Rattle.command_write.specs.declared.recovering.Recovery.TheVariants as recoveries
use Rattle.command_base.specs.Endings.{WritingEnding, was_written, halted, limited, failing, lacked}
use Rattle.command_base.specs.Outputs.{inputs_and_output, Unreached, ReadsSomeWritesOne}

-- ---- what the output holds

-- This text was put under the name; where the keeping failed, that or what stood there.
abbrev pub IsPlaced : List ℕ → Bool → Option (List ℕ) → Option (List ℕ) → Type 0
IsPlaced text true before now = now ≡ Some text
IsPlaced text false before now = (now ≡ Some text) ⊎ (now ≡ before)

-- A reading of the bytes, which begin with the magic, keeps these records and halts there; what repairing makes of them is the file
-- that was put there, and what is answered.
pub record HoldsRecovered (chunk : ℕ) (bytes : List ℕ) (r : Recovered) (well : Bool) (before now : Option (List ℕ))
    : Type 0 where
  pub magic : V1 bytes
  pub tops : List Top
  pub halt : Halt
  pub halts : Halts reading_limits bytes tops halt
  pub told : TellsHalt r.at r.why halt
  pub profile : List ℕ
  pub extras : List Top
  pub history : List Rec
  pub repairs : Repairs tops profile extras history
  pub messages : r.messages ≡ length (filter is_message history)
  pub records : r.records ≡ length history
  pub extras_are : r.extras ≡ length extras
  -- that file is within the limits of writing
  pub within : FileHolds profile (blocks_in (pieces_of (Some chunk) None history)) (length
      (file_of (recovered_options profile chunk) extras history))
  pub placed : IsPlaced (file_of (recovered_options profile chunk) extras history) well before now

-- nothing was put there, since the bytes don't begin with the magic
abbrev pub NoMagicHolds : List ℕ → Bool → Option (List ℕ) → Option (List ℕ) → Type 0
NoMagicHolds bytes well before now = (V1 bytes → ⊥) × IsPlaced [] well before now

-- The reading broke off after these good records. The magic, the Header and all ripe blocks of what repairing makes of them were
-- put there; or nothing, where not even the Header was read, or memory lacked for its profile. It is a first part of the file that
-- repairing makes of all bytes.
pub record HoldsRipe (chunk : ℕ) (bytes : List ℕ) (left : Option (List ℕ)) (why : ReadingRefused) (well : Bool)
    (before now : Option (List ℕ)) : Type 0 where
  pub tops : List Top
  pub good : Good reading_limits tops
  pub broken : BreaksOffLeaving why bytes tops left
  pub text : List ℕ
  pub keeps : (IsUnbegun why (LeftAfter bytes left) tops × (text ≡ []))
      ⊎ (V1 bytes × AreRipe (recovered_making chunk) tops text)
  pub placed : IsPlaced text well before now
  pub part : (profile : List ℕ) (extras : List Top) (history : List Rec) → Repaired bytes profile extras history
      → IsPrefix text (file_of (recovered_options profile chunk) extras history)

-- The writer stopped at a piece of the file that repairing makes of the bytes, and of what was read of them. What it had written was
-- put there, and of the piece no more than the store took of it in a failure: all that is ripe of the records before the one at
-- hand.
pub record HoldsStopped (chunk : ℕ) (bytes : List ℕ) (left : Option (List ℕ)) (stop : Stop) (well : Bool)
    (before now : Option (List ℕ)) : Type 0 where
  pub magic : V1 bytes
  pub text : List ℕ
  pub placed : IsPlaced text well before now
  pub written : Written
  pub cut : CutShort (recovered_making chunk) (LeftAfter bytes left) (HaltedBytes bytes left) (Some []) (Some text) stop
      written
  pub stops : (profile : List ℕ) (extras : List Top) (history : List Rec) → Repaired bytes profile extras history
      → StopsAt (recovered_options profile chunk) extras history (Some []) (Some text) stop written

-- of these bytes, of which this is left, by what a recovery answered
abbrev pub RecoveryOutputHolds : ℕ → List ℕ → Option (List ℕ) → Result Recovered RecoverRefused → Bool
    → Option (List ℕ) → Option (List ℕ) → Type 0
RecoveryOutputHolds chunk bytes left (Ok r) well before now = HoldsRecovered chunk bytes r well before now
RecoveryOutputHolds chunk bytes left (Err refusals.NoMagic) well before now = NoMagicHolds bytes well before now
RecoveryOutputHolds chunk bytes left (Err (refusals.Refused why)) well before now =
    HoldsRipe chunk bytes left why well before now
RecoveryOutputHolds chunk bytes left (Err (refusals.Stopped stop)) well before now =
    HoldsStopped chunk bytes left stop well before now

-- ---- the names

-- Both were opened. The source under the one name was recovered into the store under the other, and both were taken back.
pub record BothReached (chunk : ℕ) (input out : List ℕ) (old new : WorldState) (entries : List Opening)
    (result : Result Recovered RecoverRefused) : Type 0 where
  -- as the world gave them and as it took them back, and whether that went well
  pub source : SourceState
  pub back : SourceState
  pub source_kept : Bool
  pub live : LiveState
  pub stored : LiveState
  pub live_kept : Bool
  pub recovers : Recovers chunk source back live stored result
  -- the source told the bytes under the input's name, which is there, where the world tells
  pub tells : TellsName old input source
  pub unused : source.faults ≡ 0
  pub live_unused : live.faults ≡ 0
  -- and then the output's name holds what was recovered of these bytes, some of which the source may have left
  pub file : (told now : Told) (bytes : List ℕ) → old.told ≡ Some told → new.told ≡ Some now
      → told.names input ≡ Some bytes
      → RecoveryOutputHolds chunk bytes back.left result live_kept (told.names out) (now.names out)
  pub kept_are : entries
      ≡ kept kinds.Source input (record { well = source_kept; faults = back.faults; left = back.left; asked = 0 })
      ∷ kept kinds.Live out (record { well = live_kept; faults = stored.faults; left = None; asked = 0 }) ∷ []

-- the last opening was refused: a failure has its entry, a want of memory none
abbrev pub RefusesRecovery : List Opening → Recovery → Type 0
RefusesRecovery [] recovery = recovery ≡ recoveries.Refused lacks
RefusesRecovery (entry ∷ []) recovery = ((entry.given ≡ false) × (recovery ≡ recoveries.Unopened))
    ⊎ ((entry.given ≡ true) × (recovery ≡ recoveries.Refused lacks))
RefusesRecovery (entry ∷ other ∷ more) recovery = (other.given ≡ false) × (recovery ≡ recoveries.Unopened)

abbrev pub recovery_of : Result Recovered RecoverRefused → Recovery
recovery_of (Ok r) = recoveries.Made r
recovery_of (Err why) = recoveries.Refused why

-- what became of both names
abbrev pub IsRecovery : ℕ → List ℕ → List ℕ → WorldState → WorldState → List Opening → Recovery → Type 0
IsRecovery chunk input out old new entries recovery = (RefusesRecovery entries recovery × Unreached out old new entries)
    ⊎ ((result : Result Recovered RecoverRefused) × (recovery ≡ recovery_of result) × BothReached chunk input out old new entries result)

-- ---- the line

abbrev pub why_text : Why → List ℕ
why_text whys.Complete = codes "complete"
why_text whys.Short = codes "short"
why_text whys.Grammar = codes "grammar"
why_text whys.Compressed = codes "compressed"
why_text whys.Limit = codes "limit"

-- a number behind its name
unfoldable pub number_after_name : List ℕ → ℕ → List ℕ
number_after_name name n = name ++ decimal n

-- recovered messages=M records=R extras=X at=N WHY
unfoldable pub recovered_line : Recovered → List ℕ
recovered_line r = number_after_name (codes "recovered messages=") r.messages
    ++ (number_after_name (codes " records=") r.records
    ++ (number_after_name (codes " extras=") r.extras ++ (number_after_name (codes " at=") r.at ++ (codes " " ++ (why_text r.why ++ codes "\n")))))

-- how the recovery ended: of what else a reading can be refused for none comes
abbrev pub unread_ending : ReadingRefused → WritingEnding
unread_ending (scans.Fault faults) = failing
unread_ending (scans.Grammar offset rule) = failing
unread_ending (scans.Compressed offset name) = failing
unread_ending (scans.Limit offset) = failing
unread_ending scans.Memory = lacked

abbrev pub stopped_ending : Stop → WritingEnding
stopped_ending (stops.Fault faults) = failing
stopped_ending (stops.Limit blocks bytes) = limited
stopped_ending stops.Memory = lacked

abbrev pub unrecovered_ending : List ℕ → RecoverRefused → WritingEnding
unrecovered_ending input refusals.NoMagic = halted 0 (grammar input 0)
unrecovered_ending input (refusals.Refused why) = unread_ending why
unrecovered_ending input (refusals.Stopped stop) = stopped_ending stop

abbrev pub ending_of_recovery : List ℕ → Recovery → WritingEnding
ending_of_recovery input recoveries.Unopened = failing
ending_of_recovery input (recoveries.Made r) = was_written (recovered_line r)
ending_of_recovery input (recoveries.Refused why) = unrecovered_ending input why

-- the input, opened as a source, and then the output
abbrev pub both_names : List ℕ → List ℕ → Files
both_names input out = inputs_and_output kinds.Source (input ∷ []) out

-- ---- the status

-- a fault is a count that rose, and of what else refuses a reading only want of memory comes
abbrev pub ReadingDecides : ReadingRefused → Status → Type 0
ReadingDecides (scans.Fault faults) status = ⊥
ReadingDecides (scans.Grammar offset rule) status = ⊥
ReadingDecides (scans.Compressed offset name) status = ⊥
ReadingDecides (scans.Limit offset) status = ⊥
ReadingDecides scans.Memory status = status ≡ statuses.Memory

abbrev pub RecoveryStopDecides : List ℕ → Stop → Status → Type 0
RecoveryStopDecides bytes (stops.Fault faults) status = ⊥
RecoveryStopDecides bytes (stops.Limit blocks written) status = V1 bytes × (status ≡ statuses.Limit)
RecoveryStopDecides bytes stops.Memory status = status ≡ statuses.Memory

-- Where nothing failed, the first bytes decide, but for want of memory and for the limit of the output.
abbrev pub RecoveryDecides : List ℕ → Recovery → Status → Type 0
RecoveryDecides bytes recoveries.Unopened status = ⊥
RecoveryDecides bytes (recoveries.Made r) status = V1 bytes × (status ≡ statuses.Done)
RecoveryDecides bytes (recoveries.Refused refusals.NoMagic) status = (V1 bytes → ⊥) × (status ≡ statuses.Refused)
RecoveryDecides bytes (recoveries.Refused (refusals.Refused why)) status = ReadingDecides why status
RecoveryDecides bytes (recoveries.Refused (refusals.Stopped stop)) status = RecoveryStopDecides bytes stop status

-- ---- the command

-- what `recover` does
pub record RecoversFile (chunk : ℕ) (input out : List ℕ) (old new : Scene) (status : Status) : Type 0 where
  -- the input is opened as a source, and then the output; this is what the recovery came to, and what the output holds of it
  pub entries : List Opening
  pub recovery : Recovery
  pub comes : IsRecovery chunk input out old.world new.world entries recovery
  -- standard output takes the line of what was recovered, and standard error the troubles
  pub ran : ReadsSomeWritesOne (both_names input out) old new entries (ending_of_recovery input recovery) status
  -- where the world tells, the bytes under the input's name decide, unless a count rises
  pub decided : (told : Told) (bytes : List ℕ) → old.world.told ≡ Some told → told.names input ≡ Some bytes
      → (AnyRose (counts_in old) (counts_in new) → ⊥) → RecoveryDecides bytes recovery status
