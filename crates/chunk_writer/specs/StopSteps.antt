-- How a writer comes to stop: what an append did to its store.
use Rattle.std.specs.Prelude.{◌≡◌, ℕ, ◌≤◌, List, length, Option, Result, Ok, Err}
use Rattle.rec_data.specs.declared.owned.Rec.{Rec}
use Rattle.mcap_io.specs.declared.outside.AppendRefused.{AppendRefused}
use Rattle.mcap_io.specs.declared.outside.AppendRefused.TheVariants as append_refusals
use Rattle.mcap_io.specs.Outside.{LiveState, Adds, AddsPart}
use Rattle.mcap_model.specs.declared.options.FileOptions.{FileOptions}
use Rattle.mcap_model.specs.declared.ends.Stop.{Stop}
use Rattle.mcap_model.specs.declared.ends.Stop.TheVariants as stops
use Rattle.mcap_model.specs.Tops.{Top}
use Rattle.mcap_model.specs.File.{front}
use Rattle.live_entry.specs.Entries.{TellsPiece}
use Rattle.chunk_writer.specs.declared.tape.Written.{Written}
use Rattle.chunk_writer.specs.Stops.{StopsAt}

-- a writer stopped behind the front, whose bytes are among those that stand
pub record StopsBehind (options : FileOptions) (extras : List Top) (history : List Rec) (opened now : Option (List ℕ))
    (stop : Stop) (written : Written) : Type 0 where
  pub stops : StopsAt options extras history opened now stop written
  pub begun : length (front options.profile) ≤ written.bytes

-- What an append did to a store: the piece stands there, in its extent; or it was refused, and the store took some first
-- bytes of it where it failed, and none where memory lacked.
abbrev pub Appends : {X : Type 0} → (X → Option (List ℕ)) → (X → ℕ) → LiveState → LiveState → List ℕ → Result X Stop
    → Type 0
Appends tells size old new piece (Ok e) = Adds old.held new.held piece × (size e ≡ length piece)
    × TellsPiece (tells e) old.held piece
Appends tells size old new piece (Err (stops.Fault faults)) = AddsPart old.held new.held 0 piece
Appends tells size old new piece (Err (stops.Limit blocks bytes)) = ⊥
Appends tells size old new piece (Err stops.Memory) = new.held ≡ old.held

-- the same of what it holds alone
abbrev pub Added : Option (List ℕ) → Option (List ℕ) → List ℕ → Result Unit Stop → Type 0
Added old new piece (Ok it) = Adds old new piece
Added old new piece (Err (stops.Fault faults)) = AddsPart old new 0 piece
Added old new piece (Err (stops.Limit blocks bytes)) = ⊥
Added old new piece (Err stops.Memory) = new ≡ old

-- why it was refused, with the count of the store
abbrev pub refusal : ℕ → AppendRefused → Stop
refusal faults (append_refusals.Failed taken) = stops.Fault faults
refusal faults append_refusals.Memory = stops.Memory
