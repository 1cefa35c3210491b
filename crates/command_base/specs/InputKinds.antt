-- Which objects of a world are read.
use Rattle.std.proofs.Common.{refl}
use Rattle.std.specs.Prelude.{◌≡◌, ℕ}
use Rattle.mcap_io.specs.declared.outside.ObjectKind.{ObjectKind}
use Rattle.mcap_io.specs.declared.outside.ObjectKind.TheVariants as kinds
use Rattle.command_base.specs.Ran.{source_faults, live_faults}

-- an object of an input
pub record IsInput (kind : ObjectKind) : Type 0 where
  pub inputs : (n : ℕ) → source_faults kind n ≡ n
  pub outputs : (n : ℕ) → live_faults kind n ≡ 0

pub source_input : IsInput kinds.Source
source_input = record { inputs = λ n. refl; outputs = λ n. refl }

pub store_input : IsInput kinds.Store
store_input = record { inputs = λ n. refl; outputs = λ n. refl }
