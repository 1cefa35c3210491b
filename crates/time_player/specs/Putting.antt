-- What a sink takes of a text that is gathered in pieces, and what of it waits to be written.
use Rattle.std.specs.Prelude.{◌≡◌, ℕ, List, [], ◌++◌, Result, Ok, Err}
use Rattle.mcap_io.specs.Outside.{SinkState, RisesOnce, Adds, AddsPart}
use Rattle.mcap_io.specs.declared.outside.Failed.{Failed}

-- a first part of what waited and of the text after it was written, and the rest waits
pub record PutsOn (before now : SinkState) (waited waits text : List ℕ) : Type 0 where
  pub written : List ℕ
  pub still : now.faults ≡ before.faults
  pub adds : Adds before.took now.took written
  pub whole : written ++ waits ≡ waited ++ text
  pub silent : written ≡ [] → now ≡ before

-- a write failed: the sink took a first part of both
pub record PutsPart (before now : SinkState) (waited text : List ℕ) : Type 0 where
  pub rises : RisesOnce before.faults now.faults
  pub adds : AddsPart before.took now.took 0 (waited ++ text)
  pub some : waited ++ text ≡ [] → ⊥

abbrev pub Puts : SinkState → SinkState → List ℕ → List ℕ → List ℕ → Result Unit Failed → Type 0
Puts before now waited waits text (Ok it) = PutsOn before now waited waits text
Puts before now waited waits text (Err why) = PutsPart before now waited text
