-- How the name of a file that is read ends, and why its reading ended.
use Rattle.std.specs.Prelude.{◌≡◌, ℕ, List, Bool, true, false}
use Rattle.mcap_io.specs.Outside.{WorldState, Opening}
use Rattle.mcap_io.specs.Stores.{StoreState}
use Rattle.mcap_io.specs.declared.outside.ObjectKind.{ObjectKind}
use Rattle.mcap_io.specs.declared.outside.OutsideRefused.{OutsideRefused}
use Rattle.mcap_io.specs.declared.outside.OutsideRefused.TheVariants as outside_refusals
use Rattle.command_base.specs.OneFile.{Ending, was_read, halted, failing, lacked, NameRead}
use Rattle.command_base.specs.OneFileSteps.{IsHalt}
use Rattle.command_base.specs.Readings.{StoreUse, store_use}

-- nothing was read: the file halted it, its object failed, or memory lacked
abbrev pub IsRefusal : Ending → Type 0
IsRefusal (was_read text) = ⊥
IsRefusal (halted trouble) = IsHalt trouble
IsRefusal failing = Unit {0}
IsRefusal lacked = Unit {0}

-- an opening was refused because the world failed
abbrev pub is_failure : OutsideRefused → Bool
is_failure outside_refusals.Failed = true
is_failure outside_refusals.Memory = false

abbrev pub use_of : StoreState → StoreUse
use_of store = store_use store.faults store.asked

-- the name's reading came to that, and ended so; and where it failed, a failure is told
pub record NameEnds (kind : ObjectKind) (file : List ℕ) (old new : WorldState) (Reads : List Opening → Type 0)
    (ending : Ending) (failed : Bool) : Type 0 where
  pub entries : List Opening
  pub reading : Reads entries
  pub name : NameRead kind file old new entries failed
  pub sure : ending ≡ failing → failed ≡ true
