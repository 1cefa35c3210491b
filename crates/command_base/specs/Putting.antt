-- What a sink takes of a text that is put together piece by piece, and what of it waits to be written.
use Rattle.std.specs.Prelude.{ℕ, List, Result, Ok, Err, ◌≡◌, ◌⊎◌, [], ◌++◌, true, false}
use Rattle.mcap_io.specs.Outside.{SinkState}
use Rattle.mcap_io.specs.declared.outside.Failed.{Failed}
use Rattle.command_base.specs.Printing.{TellsAll, TellsTextPart}
use Rattle.command_base.specs.declared.waiting.Waiting.{Waiting}

-- all of the text was taken, and of the empty one nothing was written
pub record TakesAll (before now : SinkState) (text : List ℕ) : Type 0 where
  pub all : TellsAll before now text
  pub silent : text ≡ [] → now ≡ before

-- a write failed, and there was a text for it
pub record TakesTextPart (before now : SinkState) (text : List ℕ) : Type 0 where
  pub part : TellsTextPart before now text
  pub some : text ≡ [] → ⊥

-- a first part of what waited and of the text behind it was taken, and the rest waits
pub record GoesOn (before now : SinkState) (waits left text : List ℕ) : Type 0 where
  pub taken : List ℕ
  pub takes : TakesAll before now taken
  pub waiting : taken ++ left ≡ waits ++ text

-- The text was put behind what waited, or a write failed. After one that failed nothing is written.
pub record PutsText (before : SinkState) (old : Waiting) (now : SinkState) (new : Waiting) (text : List ℕ)
    : Type 0 where
  pub puts : old.broken ≡ false → ((new.broken ≡ false) × GoesOn before now old.bytes.items new.bytes.items text)
      ⊎ ((new.broken ≡ true) × TakesTextPart before now (old.bytes.items ++ text))
  pub silent : old.broken ≡ true → (new.broken ≡ true) × (now ≡ before)

-- ---- a printing

-- what a printing tells that says whether all was taken
abbrev pub Prints : SinkState → SinkState → List ℕ → Result Unit Failed → Type 0
Prints before now text (Ok it) = TellsAll before now text
Prints before now text (Err why) = TellsTextPart before now text
