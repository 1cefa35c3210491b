-- What holds of the records of a merge, whatever the inputs are when they are read again.
use Rattle.std.specs.Prelude.{◌≡◌, ℕ, ◌≤◌, List, filter, true, AllPairs}
use Rattle.rec_data.specs.declared.owned.Rec.{Rec}
use Rattle.rec_data.specs.declared.owned.Rec.TheVariants.{Schema, Channel, Message, Extra}
use Rattle.mcap_model.specs.Places.{Each}
use Rattle.mcap_model.specs.Tops.{Top}
use Rattle.mcap_model.specs.History.{is_message, is_inner, Numbered}
use Rattle.mcap_model.specs.ReadBack.{IsReadBack, IsExtra}
use Rattle.mcap_model.specs.Merged.{StandBeforeUse}

-- a Message wasn't logged before that time
abbrev pub LoggedFrom : ℕ → Rec → Type 0
LoggedFrom time (Schema id schema) = Unit {0}
LoggedFrom time (Channel id schema topic encoding metadata) = Unit {0}
LoggedFrom time (Message channel sequence log_time publish_time payload) = time ≤ log_time
LoggedFrom time (Extra op content) = Unit {0}

-- the second Message wasn't logged before the first
abbrev pub LoggedInTurn : Rec → Rec → Type 0
LoggedInTurn (Schema id schema) r = Unit {0}
LoggedInTurn (Channel id schema topic encoding metadata) r = Unit {0}
LoggedInTurn (Message channel sequence log_time publish_time payload) r = LoggedFrom log_time r
LoggedInTurn (Extra op content) r = Unit {0}

-- they are Schemas, Channels and Messages, numbered from 1 in the order of first use, each is declared before its use and read
-- back as itself, no message was logged before one in front of it, and the extras are such
pub record IsSoundHistory (extras : List Top) (history : List Rec) : Type 0 where
  pub inner : Each (λ r. is_inner r ≡ true) history
  pub numbered : Numbered history
  pub placed : StandBeforeUse history
  pub back : Each IsReadBack history
  pub rise : AllPairs LoggedInTurn (filter is_message history)
  pub extras_meet : Each IsExtra extras
