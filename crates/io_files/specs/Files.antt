-- What the objects of a world of files tell, and what their calls answer.
use Rattle.std.specs.Prelude.{◌≡◌, ℕ, List, Option, None, Result, Ok, Err}
use Rattle.io_files.specs.declared.files.Stretch.{Stretch}
use Rattle.mcap_io.specs.declared.outside.AppendRefused.{AppendRefused}
use Rattle.mcap_io.specs.declared.outside.AppendRefused.TheVariants as append_refusals
use Rattle.mcap_io.specs.declared.outside.Short.{Short}
use Rattle.mcap_io.specs.Outside.{Adds}

-- neither bytes that are left nor bytes that are held
abbrev pub nothing : Option (List ℕ)
nothing = None

-- a piece that was put stands behind the others; one that was not says how much of it was taken
abbrev pub PlacedAs : Result Unit Short → ℕ → ℕ → Result Stretch AppendRefused → Type 0
PlacedAs (Ok it) from len result = result ≡ Ok (record { from = from; len = len })
PlacedAs (Err short) from len result = result ≡ Err (append_refusals.Failed short.taken)

-- there is a file that holds what this one held, and these bytes
abbrev pub IsWritten : {F : Type 0} → (F → Option (List ℕ)) → F → List ℕ → Type 0
IsWritten {F} contents file bytes = (after : F) × Adds (contents file) (contents after) bytes
