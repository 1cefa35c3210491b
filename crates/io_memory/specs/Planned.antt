-- Which calls on an object in memory are to fail.
use Rattle.std.specs.Prelude.{◌≡◌, ◌⊎◌, ℕ, ◌+◌, ◌-◌, ◌^◌, ◌<◌, ◌==◌, min, List, ◌++◌, length, take, drop, ◌∷◌, [], find, Option, Some, None, Result, Ok, Err, Vec, vec_len, vec_capacity}
use Rattle.std.specs.Option.{option_map}
use Rattle.io_memory.specs.declared.memory.FailingWrite.{FailingWrite}
use Rattle.mcap_io.specs.declared.outside.AppendRefused.{AppendRefused}
use Rattle.mcap_io.specs.declared.outside.AppendRefused.TheVariants as append_refusals
use Rattle.mcap_io.specs.declared.outside.EachRefused.{EachRefused}
use Rattle.mcap_io.specs.declared.outside.Failed.{Failed}
use Rattle.mcap_io.specs.declared.outside.OutsideRefused.{OutsideRefused}
use Rattle.mcap_io.specs.declared.outside.OutsideRefused.TheVariants as outside_refusals
use Rattle.mcap_io.specs.Appending.{BeginsAt}

-- what is left of the bytes behind the first so many
abbrev pub left_of : List ℕ → ℕ → Option (List ℕ)
left_of bytes next = Some (drop next bytes)

-- the number of the call after this one; the last number stands
abbrev pub next_call : ℕ → ℕ
next_call call = min (call + 1) (2 ^ 64 - 1)

-- how many of so many bytes the call takes before it fails, where it is to fail
abbrev pub planned : List FailingWrite → ℕ → ℕ → Option ℕ
planned failing call len = option_map (λ w. min w.taken len) (find (λ w. w.call == call) failing)

-- a write takes all of its piece where none is to fail; one that is to fail takes what it is to take, and one that lacks
-- memory takes nothing
abbrev pub WritesAsPlanned : {Y : Type 0} → Option ℕ → Vec ℕ Y → Vec ℕ Y → List ℕ → Result ℕ Failed → Type 0
WritesAsPlanned plan old new bytes (Ok n) = (plan ≡ None) × (n ≡ length bytes)
WritesAsPlanned plan old new bytes (Err why) = ((n : ℕ) × (plan ≡ Some n) × (new.items ≡ old.items ++ take n bytes))
    ⊎ ((vec_capacity old < vec_len old + length bytes) × (new.items ≡ old.items))

-- an append fails where it is to fail, and takes what it is to take; memory may lack at any
abbrev pub AppendsAsPlanned : {T : Type 0} → Option ℕ → Result T AppendRefused → Type 0
AppendsAsPlanned plan (Ok it) = plan ≡ None
AppendsAsPlanned plan (Err (append_refusals.Failed taken)) = plan ≡ Some taken
AppendsAsPlanned plan (Err append_refusals.Memory) = Unit {0}

-- the number of the call behind those that append these pieces, each in a call of its own
abbrev pub calls_on : ℕ → List (List ℕ) → ℕ
calls_on call [] = call
calls_on call (piece ∷ pieces) = calls_on (next_call call) pieces

-- none of these calls is to fail
abbrev pub NoneFails : List FailingWrite → ℕ → List (List ℕ) → Type 0
NoneFails failing call [] = Unit {0}
NoneFails failing call (piece ∷ pieces) =
    (planned failing call (length piece) ≡ None) × NoneFails failing (next_call call) pieces

-- those before the piece that was refused aren't, and its own call is the last
pub record FailsAsPlanned (failing : List FailingWrite) (call next : ℕ) (pieces : List (List ℕ)) (refused : EachRefused)
    : Type 0 where
  pub at : BeginsAt pieces refused.whole
  pub none : NoneFails failing call at.before
  pub fails : AppendsAsPlanned {T = Unit} (planned failing (calls_on call at.before) (length at.piece))
      (Err refused.why)
  pub counted : next ≡ next_call (calls_on call at.before)

-- pieces are appended each by a call, until one is refused
abbrev pub EachAsPlanned : List FailingWrite → ℕ → ℕ → List (List ℕ) → Result Unit EachRefused → Type 0
EachAsPlanned failing call next pieces (Ok it) = NoneFails failing call pieces × (next ≡ calls_on call pieces)
EachAsPlanned failing call next pieces (Err refused) = FailsAsPlanned failing call next pieces refused

-- an opening that is to fail doesn't go well, and one fails only where it is to or where the name isn't there; memory
-- may lack at any
abbrev pub OpensAsPlanned : {T : Type 0} → Type 0 → Type 0 → Result T OutsideRefused → Type 0
OpensAsPlanned planned absent (Ok it) = planned → ⊥
OpensAsPlanned planned absent (Err outside_refusals.Failed) = planned ⊎ absent
OpensAsPlanned planned absent (Err outside_refusals.Memory) = Unit {0}
