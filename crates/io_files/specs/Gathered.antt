-- What putting a piece behind those that wait writes, and what it leaves waiting.
use Rattle.std.specs.Prelude.{◌≡◌, ℕ, ◌+◌, ◌<◌, ◌≤◌, List, ◌++◌, length, Option, Some, Result, Ok, Err}
use Rattle.mcap_io.specs.declared.outside.Short.{Short}
use Rattle.mcap_io.specs.declared.outside.AppendRefused.{AppendRefused}
use Rattle.mcap_io.specs.declared.outside.AppendRefused.TheVariants as append_refusals
use Rattle.mcap_io.specs.declared.outside.EachRefused.{EachRefused}
use Rattle.mcap_io.specs.Outside.{AddsPart}

-- what is written and what waits then are what was written, what waited and the piece; a failure writes a first part
-- of what waited and the piece, and bytes of the piece count as taken only behind all that waited
abbrev pub Puts : Option (List ℕ) → List ℕ → Option (List ℕ) → List ℕ → List ℕ → Result Unit Short → Type 0
Puts old waited new waits bytes (Ok it) = (before : List ℕ) → old ≡ Some before
    → (now : List ℕ) × (new ≡ Some now) × (now ++ waits ≡ (before ++ waited) ++ bytes)
Puts old waited new waits bytes (Err short) = (short.taken ≤ length bytes) × AddsPart old new 0 (waited ++ bytes)
    × (0 < short.taken → AddsPart old new (length waited + short.taken) (waited ++ bytes))

-- the same of an append to a store over a file
abbrev pub Stores : {T : Type 0} → Option (List ℕ) → List ℕ → Option (List ℕ) → List ℕ → List ℕ → Result T AppendRefused
    → Type 0
Stores old waited new waits bytes (Ok it) = Puts old waited new waits bytes (Ok tt)
Stores old waited new waits bytes (Err (append_refusals.Failed taken)) =
    Puts old waited new waits bytes (Err (record { taken = taken }))
Stores old waited new waits bytes (Err append_refusals.Memory) = ⊥

-- bytes that were put up to that offset and some more, where it failed then
abbrev pub StoresTo : ℕ → Option (List ℕ) → List ℕ → Option (List ℕ) → List ℕ → List ℕ → AppendRefused → Type 0
StoresTo whole old waited new waits bytes (append_refusals.Failed taken) =
    Puts old waited new waits bytes (Err (record { taken = whole + taken }))
StoresTo whole old waited new waits bytes append_refusals.Memory = ⊥

-- the same of pieces that are appended at once: of their bytes those of the whole pieces are taken, and of the next what it says
abbrev pub StoresEach : Option (List ℕ) → List ℕ → Option (List ℕ) → List ℕ → List ℕ → Result Unit EachRefused → Type 0
StoresEach old waited new waits bytes (Ok it) = Puts old waited new waits bytes (Ok tt)
StoresEach old waited new waits bytes (Err refused) = StoresTo refused.whole old waited new waits bytes refused.why
