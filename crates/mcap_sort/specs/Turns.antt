-- The messages as they are loaded again, and what is put of them.
use Rattle.std.specs.Prelude.{◌≡◌, ℕ, List, [], ◌∷◌, ◌++◌, true}
use Rattle.std.specs.List.{AllZip}
use Rattle.rec_data.specs.declared.owned.Rec.{Rec}
use Rattle.rec_data.specs.Fields.{MessageFields}
use Rattle.rec_data.specs.Records.{ShowsMessage}
use Rattle.mcap_io.specs.Outside.{LiveState}
use Rattle.mcap_model.specs.Places.{At, Has}
use Rattle.mcap_model.specs.Tops.{Top}
use Rattle.mcap_model.specs.History.{message_of}
use Rattle.merge_walk.specs.declared.turns.Turn.{Turn}
use Rattle.merge_walk.specs.declared.walk.Walk.{Walk}
use Rattle.merge_walk.specs.Pieces.{InputBytes}
use Rattle.merge_walk.specs.Walks.{Text, turns_in, pieces_in, pieces_loaded, IsMessageAt, WalkStands, AllGiven}
use Rattle.mcap_merge.specs.declared.input.Input.{Input}
use Rattle.record_keeping.specs.declared.keeping.Keeping.{Keeping}
use Rattle.mcap_sort.specs.declared.gathering.Gathered.{Gathered}
use Rattle.mcap_sort.specs.Declaring.{Finds}
use Rattle.mcap_sort.specs.Putting.{PutsRecords}

-- what is held of the only input
abbrev pub only : Gathered → List Input
only g = g.input ∷ []

-- The Message that a turn is of: it stands among those that were loaded, and its channel has messages in what was read first.
pub record IsRecOfTurn (input : Input) (texts : List Text) (t : Turn) (r : Rec) : Type 0 where
  pub text : Text
  pub among : Has texts text
  pub has : Has (turns_in text) t
  pub top : Top
  pub there : IsMessageAt text t top
  pub channel : ℕ
  pub message : MessageFields
  pub shows : ShowsMessage top.content channel message
  pub used : At input.used.items channel true
  pub is : r ≡ message_of channel message

-- these turns were given by the walk, and their messages were put
pub record PutSoFar {L : Type 0} (seen : L → LiveState) (files : InputBytes) (g : Gathered) (w : Walk)
    (old now : Keeping L) : Type 0 where
  pub texts : List Text
  pub given : List Turn
  pub stands : WalkStands files w texts given
  pub records : List Rec
  pub are : AllZip (IsRecOfTurn g.input texts) given records
  pub puts : (history : List Rec) → Finds g.declared history → PutsRecords seen old now history records

-- all turns of a walk through the same pieces were given, and all their messages were put
pub record PutAll {L : Type 0} (seen : L → LiveState) (files : InputBytes) (g : Gathered) (start : Walk)
    (old now : Keeping L) : Type 0 where
  pub walk : Walk
  pub pieces : walk.pieces ≡ start.pieces
  pub put : PutSoFar seen files g walk old now
  pub all : AllGiven files (pieces_in walk) put.texts put.given

-- those of some turns were put, and what keeps them stands for whatever would have come after them
pub record PutSome {L : Type 0} (seen : L → LiveState) (files : InputBytes) (g : Gathered) (start : Walk)
    (old now : Keeping L) : Type 0 where
  pub walk : Walk
  pub pieces : walk.pieces ≡ start.pieces
  pub texts : List Text
  pub given : List Turn
  pub stands : WalkStands files walk texts given
  pub records : List Rec
  pub are : AllZip (IsRecOfTurn g.input texts) given records
  pub puts : (history : List Rec) → Finds g.declared history → (more : List Rec)
      → PutsRecords seen old now history (records ++ more)
