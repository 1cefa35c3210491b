-- A tape beside a drain: how far the steps of a writer have come.
use Rattle.std.specs.Prelude.{◌≡◌, ◌⊎◌, ℕ, ◌≤◌, List, [], ◌++◌, All, Option, Some, Result}
use Rattle.rec_data.specs.declared.owned.Rec.{Rec}
use Rattle.mcap_model.specs.declared.ends.End.{End}
use Rattle.mcap_model.specs.declared.ends.Stop.{Stop}
use Rattle.record_cache.specs.Buffers.{Buffer}
use Rattle.record_cache.specs.KeptRecords.{IsKept}
use Rattle.record_core.specs.Desk.{IsCause}
use Rattle.record_core.specs.declared.answers.Found.{Found}
use Rattle.live_entry.specs.declared.entry.Entry.{Entry}
use Rattle.chunk_writer.specs.declared.phase.Phase.{Phase}
use Rattle.chunk_writer.specs.declared.phase.Phase.TheVariants as phases
use Rattle.chunk_writer.specs.declared.tape.Written.{Written}
use Rattle.chunk_writer.specs.Tapes.{StopsFor}
use Rattle.feed_lane.specs.Pass.{PassState}
use Rattle.buffer_swap.specs.Posts.{Post}

abbrev pub empty_buffer : ℕ → Buffer
empty_buffer limit = record { limit = limit; records = [] }

-- The tape hasn't ended; where it stopped, that has a cause.
pub record MayWrite (phase : Phase) : Type 0 where
  pub unended : phase ≡ phases.Ended → ⊥
  pub cause : (stop : Stop) → phase ≡ phases.Stopped stop → IsCause stop

-- A tape that goes on has as many failures as it had, and one that stopped has the reason.
abbrev pub Continues : (ℕ → ℕ → Type 0) → Phase → ℕ → ℕ → Type 0
Continues limit_met phases.Going before now = now ≡ before
Continues limit_met (phases.Stopped stop) before now = StopsFor before now limit_met stop
Continues limit_met phases.Ended before now = ⊥

-- the drain stopped the intake only for what the tape stopped
abbrev pub StopsWith : Option Stop → Phase → Type 0
StopsWith halt phase = (stop : Stop) → halt ≡ Some stop → phase ≡ phases.Stopped stop

-- the drain has found that the intake ended
pub record HasFoundEnd (pass : PassState) : Type 0 where
  pub found : Found
  pub end : End
  pub shown : pass.found ≡ Some found
  pub ended : found.end ≡ Some end

-- Where the tape stopped the drain has stopped the intake for that, unless it found that the intake had ended.
abbrev pub StopsIntake : PassState → Post → Phase → Type 0
StopsIntake pass post phase = (stop : Stop) → phase ≡ phases.Stopped stop → (post.stop ≡ Some stop) ⊎ HasFoundEnd pass

-- What is seen of a tape: how it takes records and how it ends, where its own limit is met, how far it has come, how many
-- blocks and bytes it took, and how often it failed.
pub record SeenTape (T X : Type 0) : Type 1 where
  pub grows : T → T → List Rec → List (Entry X) → Type 0
  pub ends : T → T → Option (Entry X) → Written → Result Unit Stop → Type 0
  pub limit_met : T → ℕ → ℕ → Type 0
  pub phase : T → Phase
  pub numbers : T → Written
  pub failures : T → ℕ

abbrev pub seen_tape : {T X : Type 0} → (T → T → List Rec → List (Entry X) → Type 0)
    → (T → T → Option (Entry X) → Written → Result Unit Stop → Type 0) → (T → ℕ → ℕ → Type 0) → (T → Phase)
    → (T → Written) → (T → ℕ) → SeenTape T X
seen_tape grows ends limit_met phase numbers failures =
    record { grows = grows; ends = ends; limit_met = limit_met; phase = phase; numbers = numbers; failures = failures }

-- The tape, which was the first one, got the records by which what the drain took has grown, and no others, and gave these
-- entries.
pub record WritesOn {T X : Type 0} (seen : SeenTape T X) (first now : T) (before : List Rec) (post : Post)
    : Type 0 where
  pub more : List Rec
  pub entries : List (Entry X)
  pub taken : post.taken ≡ before ++ more
  pub grown : seen.grows first now more entries
  pub records : All IsKept more
  pub may : MayWrite (seen.phase now)
  pub stops : StopsWith post.stop (seen.phase now)
  pub goes : seen.phase first ≡ phases.Going
      → Continues (seen.limit_met now) (seen.phase now) (seen.failures first) (seen.failures now)
  pub kept : (stop : Stop) → seen.phase first ≡ phases.Stopped stop → now ≡ first
