-- What holds of a source where its reading was refused.
use Rattle.std.specs.Prelude.{◌≡◌, ℕ, List, Some}
use Rattle.mcap_io.specs.Outside.{SourceState, RisesOnce}
use Rattle.mcap_model.specs.Tops.{Top}
use Rattle.mcap_model.specs.Kept.{reading_limits, Good, Halt, grammar, compressed, beyond, Halts}
use Rattle.mcap_model.specs.declared.refusals.ReadingRefused.{ReadingRefused}
use Rattle.mcap_model.specs.declared.refusals.ReadingRefused.TheVariants as refusals
use Rattle.mcap_scan.specs.Sources.{HaltLeaves, FaultLeaves, MemoryLeaves}

-- The count stood still, and where the source told its bytes, a reading of them keeps just these records, halts so, and
-- leaves what is left.
pub record HaltsSo (before now : SourceState) (tops : List Top) (halt : Halt) : Type 0 where
  pub still : now.faults ≡ before.faults
  pub halts : (bytes : List ℕ) → before.left ≡ Some bytes → Halts reading_limits bytes tops halt
  pub leaves : (bytes : List ℕ) → before.left ≡ Some bytes → HaltLeaves bytes tops halt now.left

-- the source failed, and the count that is told is the one which rose by one
pub record FaultStands (faults : ℕ) (before now : SourceState) (tops : List Top) : Type 0 where
  pub rises : RisesOnce before.faults now.faults
  pub carried : faults ≡ now.faults
  pub leaves : (bytes : List ℕ) → before.left ≡ Some bytes → FaultLeaves bytes tops now.left

-- memory lacked, behind records that are good
pub record MemoryStands (before now : SourceState) (tops : List Top) : Type 0 where
  pub still : now.faults ≡ before.faults
  pub good : Good reading_limits tops
  pub leaves : (bytes : List ℕ) → before.left ≡ Some bytes → MemoryLeaves bytes tops now.left

-- what a refusal says, behind the records that were given
abbrev pub RefusalStands : ReadingRefused → SourceState → SourceState → List Top → Type 0
RefusalStands (refusals.Fault faults) before now tops = FaultStands faults before now tops
RefusalStands (refusals.Grammar offset rule) before now tops = HaltsSo before now tops (grammar offset rule)
RefusalStands (refusals.Compressed offset name) before now tops = HaltsSo before now tops (compressed offset name)
RefusalStands (refusals.Limit offset) before now tops = HaltsSo before now tops (beyond offset)
RefusalStands refusals.Memory before now tops = MemoryStands before now tops
