-- What printing a text leaves of it in a sink.
use Rattle.std.specs.Prelude.{◌≡◌, ◌⊎◌, ℕ, List, []}
use Rattle.mcap_io.specs.Outside.{SinkState, RisesOnce, Adds, AddsPart}

-- all of the text was taken, and no write failed
pub record TellsAll (before now : SinkState) (text : List ℕ) : Type 0 where
  pub still : now.faults ≡ before.faults
  pub adds : Adds before.took now.took text

-- a write failed, the last one: a first part of the text was taken
pub record TellsTextPart (before now : SinkState) (text : List ℕ) : Type 0 where
  pub rises : RisesOnce before.faults now.faults
  pub adds : AddsPart before.took now.took 0 text

abbrev pub Tells : SinkState → SinkState → List ℕ → Type 0
Tells before now text = TellsAll before now text ⊎ TellsTextPart before now text

-- the same, where of the empty text nothing is written
pub record Takes (before now : SinkState) (text : List ℕ) : Type 0 where
  pub tells : Tells before now text
  pub silent : text ≡ [] → now ≡ before
