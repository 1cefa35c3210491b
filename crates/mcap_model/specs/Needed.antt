-- Records that are written without all that stands before them in their history: each after what it needs of that.
use Rattle.std.specs.Prelude.{ℕ, List, [], ◌∷◌, ◌++◌, find, fold, Bool, false, ◌==◌, if◌then◌else◌}
use Rattle.std.specs.List.{flat_map}
use Rattle.std.specs.Option.{option_to_list}
use Rattle.rec_data.specs.declared.owned.Rec.{Rec}
use Rattle.rec_data.specs.declared.owned.Rec.TheVariants.{Schema, Channel, Message, Extra}
use Rattle.mcap_model.specs.History.{kept_with}

-- whether a record is the Schema of that id
abbrev pub is_schema_of : ℕ → Rec → Bool
is_schema_of wanted (Schema id schema) = wanted == id
is_schema_of wanted (Channel id schema topic encoding metadata) = false
is_schema_of wanted (Message channel sequence log_time publish_time payload) = false
is_schema_of wanted (Extra op content) = false

-- whether it is the Channel of that id
abbrev pub is_channel_of : ℕ → Rec → Bool
is_channel_of wanted (Schema id schema) = false
is_channel_of wanted (Channel id schema topic encoding metadata) = wanted == id
is_channel_of wanted (Message channel sequence log_time publish_time payload) = false
is_channel_of wanted (Extra op content) = false

-- the Schema of that id as the history declares it first; a Channel without one says 0
abbrev pub schema_with : List Rec → ℕ → List Rec
schema_with history id = if id == 0 then [] else option_to_list (find (is_schema_of id) history)

-- the Channel of that id as the history declares it first
abbrev pub channel_with : List Rec → ℕ → List Rec
channel_with history id = option_to_list (find (is_channel_of id) history)

-- the Schema of a Channel
abbrev pub schema_for : List Rec → Rec → List Rec
schema_for history (Schema id schema) = []
schema_for history (Channel id schema topic encoding metadata) = schema_with history schema
schema_for history (Message channel sequence log_time publish_time payload) = []
schema_for history (Extra op content) = []

-- what a Message on that channel needs of the history: its channel's Schema and its Channel
abbrev pub needs_on : List Rec → ℕ → List Rec
needs_on history channel = flat_map (schema_for history) (channel_with history channel) ++ channel_with history channel

-- what a record needs of it: a Channel its Schema, and a Message what its channel says
abbrev pub needs_of : List Rec → Rec → List Rec
needs_of history (Schema id schema) = []
needs_of history (Channel id schema topic encoding metadata) = schema_with history schema
needs_of history (Message channel sequence log_time publish_time payload) = needs_on history channel
needs_of history (Extra op content) = []

-- a record after others, and directly before it what it needs, each only where it doesn't stand among these yet
abbrev pub needed_behind : List Rec → List Rec → Rec → List Rec
needed_behind history out r = fold kept_with out (needs_of history r) ++ r ∷ []

-- The records with, directly before each Channel, its Schema, and directly before each Message, its channel's Schema and its
-- Channel, as they stand in the history, each only where it doesn't stand earlier in the result.
abbrev pub with_needs : List Rec → List Rec → List Rec
with_needs history records = fold (needed_behind history) [] records
