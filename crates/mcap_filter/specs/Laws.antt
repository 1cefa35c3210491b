-- What holds of what is written, whatever the history.
use Rattle.std.specs.Prelude.{◌≡◌, ℕ, List, filter, None}
use Rattle.rec_data.specs.declared.owned.Rec.{Rec}
use Rattle.mcap_model.specs.Tops.{Top}
use Rattle.mcap_model.specs.Kept.{Good, reading_limits}
use Rattle.mcap_model.specs.History.{is_message}
use Rattle.mcap_model.specs.Repaired.{Repairs}
use Rattle.mcap_filter.specs.Picked.{Asking, asking, picked, filtered}

-- the messages that are written are those that are picked, in their order
abbrev pub MessagesAreThosePicked : Type 0
MessagesAreThosePicked = (a : Asking) (history : List Rec) → filter is_message (filtered a history) ≡ picked a history

-- all messages are asked for
abbrev pub everything : Asking
everything = asking (record { start = 0; end = None }) None

-- where all messages are asked for, all that repairing makes of good records are written, in their order
abbrev pub AllMessagesAreKept : Type 0
AllMessagesAreKept = (tops extras : List Top) (profile : List ℕ) (history : List Rec) → Good reading_limits tops
    → Repairs tops profile extras history
    → filter is_message (filtered everything history) ≡ filter is_message history
