-- The messages as they are loaded again, and what is put of them.
use Rattle.std.specs.Prelude.{◌≡◌, ◌⊎◌, ℕ, List, [], ◌++◌, length, true, Option, Some, None, Result, Ok, Err}
use Rattle.std.specs.List.{AllZip}
use Rattle.rec_data.specs.declared.owned.Rec.{Rec}
use Rattle.rec_data.specs.declared.message.Message.{Message}
use Rattle.rec_data.specs.Fields.{MessageFields}
use Rattle.rec_data.specs.Parsed.{message_fields}
use Rattle.rec_data.specs.Records.{ShowsMessage}
use Rattle.mcap_io.specs.Stores.{StoreState}
use Rattle.mcap_model.specs.declared.refusals.ReadingRefused.{ReadingRefused}
use Rattle.mcap_model.specs.declared.refusals.ReadingRefused.TheVariants as readings
use Rattle.mcap_model.specs.declared.ends.Stop.{Stop}
use Rattle.mcap_model.specs.declared.ends.Stop.TheVariants as stops
use Rattle.mcap_model.specs.Places.{At, Has}
use Rattle.mcap_model.specs.Tops.{Top}
use Rattle.mcap_model.specs.Merged.{Sent, IsFrom}
use Rattle.chunk_writer.specs.Stops.{StopCause}
use Rattle.merge_walk.specs.declared.turns.Turn.{Turn}
use Rattle.merge_walk.specs.declared.turns.WalkRefused.{WalkRefused}
use Rattle.merge_walk.specs.declared.turns.WalkRefused.TheVariants as walks
use Rattle.merge_walk.specs.declared.pieces.Piece.{Piece}
use Rattle.merge_walk.specs.declared.walk.Walk.{Walk}
use Rattle.merge_walk.specs.Pieces.{InputBytes}
use Rattle.merge_walk.specs.Stores.{AllCountsStand, OneRose}
use Rattle.merge_walk.specs.Walks.{Text, turns_in, pieces_in, pieces_loaded, IsTextOf, IsMessageAt, IsWalkRefused, WalkStands, AllGiven}
use Rattle.mcap_merge.specs.declared.answers.MergeRefused.{MergeRefused}
use Rattle.mcap_merge.specs.declared.answers.MergeRefused.TheVariants as merges
use Rattle.mcap_merge.specs.declared.input.Input.{Input}
use Rattle.mcap_merge.specs.declared.joining.Joiner.{Joiner}
use Rattle.mcap_merge.specs.Uses.{Use, history_of}
use Rattle.mcap_merge.specs.Contents.{HasContent, IdsSuffice}
use Rattle.mcap_merge.specs.Joining.{JoinerStands}
use Rattle.mcap_merge.specs.Inputs.{HoldInputs}
use Rattle.mcap_merge.specs.ReadInputs.{Read, read_tops}
use Rattle.mcap_merge.specs.ReadingSteps.{IsRefusalAt}

-- ---- one message

-- a content is no Message on a channel of the input that has messages
abbrev pub IsNoMessageOn : Input → List ℕ → Type 0
IsNoMessageOn input content =
    (channel : ℕ) (m : MessageFields) → ShowsMessage content channel m → At input.used.items channel true → ⊥

-- or it is this one
abbrev pub IsMessageOn : Input → List ℕ → Option Message → Type 0
IsMessageOn input content (Some m) =
    ShowsMessage content m.channel_id (message_fields m) × At input.used.items m.channel_id true
IsMessageOn input content None = IsNoMessageOn input content

-- the record of a turn is this message, whose channel has messages, and a content, in what was read first
pub record IsUseOfTurn (inputs : List (List Top)) (texts : List Text) (t : Turn) (u : Use) : Type 0 where
  pub text : Text
  pub among : Has texts text
  pub has : Has (turns_in text) t
  pub top : Top
  pub there : IsMessageAt text t top
  pub channel : ℕ
  pub shows : ShowsMessage top.content channel u.message
  pub sent : Sent
  pub input : sent.input ≡ t.input
  pub on : sent.seen.channel ≡ channel
  pub from : IsFrom inputs sent
  pub content : HasContent inputs sent u.content

-- ---- all

-- of the inputs as they were read first, these are the uses of the turns, and so it is with them
abbrev pub UsesOf : List Input → List Text → List Turn → (List (List Top) → List Use → Type 0) → Type 0
UsesOf inputs texts given is = (reads : List Read) → HoldInputs reads inputs → IdsSuffice (read_tops reads)
    → (uses : List Use) × AllZip (IsUseOfTurn (read_tops reads) texts) given uses × is (read_tops reads) uses

-- what the stores tell, and the inputs as they were read of them
pub record Sources : Type 0 where
  pub files : InputBytes
  pub inputs : List Input

abbrev pub sources : InputBytes → List Input → Sources
sources files inputs = record { files = files; inputs = inputs }

-- so many turns were given by the walk, and their records were put
pub record PutSoFar {P : Type 0} (adds : P → P → List Top → List Rec → Type 0) (from : Sources) (w : Walk) (count : ℕ)
    (j : Joiner) (old now : P) : Type 0 where
  pub texts : List Text
  pub given : List Turn
  pub stands : WalkStands from.files w texts given
  pub size : length given ≡ count
  pub uses : UsesOf from.inputs texts given (λ all uses. JoinerStands all (history_of uses) j
      × adds old now [] (history_of uses))

-- all were given, and all their records were put
pub record PutAll {P : Type 0} (adds : P → P → List Top → List Rec → Type 0) (from : Sources) (w : Walk) (count : ℕ)
    (j : Joiner) (old now : P) : Type 0 where
  pub put : PutSoFar adds from w count j old now
  pub all : AllGiven from.files w.pieces.items put.texts put.given
  pub loaded : pieces_loaded w ≡ pieces_in w

-- of a walk through the same pieces the records of some turns were put, and the pen stands for whatever would have come
pub record PutSome {P : Type 0} (adds : P → P → List Top → List Rec → Type 0) (files : InputBytes) (inputs : List Input)
    (start : Walk) (old now : P) : Type 0 where
  pub walk : Walk
  pub pieces : walk.pieces ≡ start.pieces
  pub texts : List Text
  pub given : List Turn
  pub stands : WalkStands files walk texts given
  pub uses : UsesOf inputs texts given (λ all uses. (more : List Rec) → adds old now [] (history_of uses ++ more))

-- a record that was loaded again for one of the pieces is no Message on a channel that has messages
pub record IsOther (files : InputBytes) (pieces : List Piece) (inputs : List Input) (input offset : ℕ) : Type 0 where
  pub text : Text
  pub among : Has pieces text.piece
  pub of : IsTextOf files text.piece text
  pub turn : Turn
  pub has : Has (turns_in text) turn
  pub top : Top
  pub there : IsMessageAt text turn top
  pub held : Input
  pub at : At inputs turn.input held
  pub none : IsNoMessageOn held top.content
  pub input_is : input ≡ turn.input
  pub offset_is : offset ≡ turn.offset

-- ---- why not all

-- a piece isn't what it was: the walk through the pieces found it so, or a record of it is another
abbrev pub IsChanged : InputBytes → Walk → List Input → ℕ → ℕ → Type 0
IsChanged files start inputs input offset = ((w : Walk) × (pieces_in w ≡ pieces_in start) × IsWalkRefused files w (walks.Changed input offset))
    ⊎ IsOther files (pieces_in start) inputs input offset

-- what a merge answers, where the walk can't go on
abbrev pub IsWalkRefusal : WalkRefused → MergeRefused → Type 0
IsWalkRefusal (walks.Changed input offset) why = why ≡ merges.Changed input offset
IsWalkRefusal (walks.Refused input reading) why = IsRefusalAt input reading why

-- A change was found. The counts say what a failure was, and a stopped pen how it stands.
abbrev pub WhyNotAll : InputBytes → Walk → List Input → MergeRefused → Type 0
WhyNotAll files start inputs (merges.Halted input why) = Unit {0}
WhyNotAll files start inputs (merges.Changed input offset) = IsChanged files start inputs input offset
WhyNotAll files start inputs merges.TooManySchemas = ⊥
WhyNotAll files start inputs merges.TooManyChannels = ⊥
WhyNotAll files start inputs (merges.Stopped stop) = Unit {0}

-- what the pen stopped at: where an input wasn't read again, it was made to
abbrev pub stop_of : MergeRefused → Stop
stop_of (merges.Halted input why) = stops.Memory
stop_of (merges.Changed input offset) = stops.Memory
stop_of merges.TooManySchemas = stops.Memory
stop_of merges.TooManyChannels = stops.Memory
stop_of (merges.Stopped stop) = stop

-- an input isn't read again only where its store fails, whose count rises
abbrev pub HaltedCounts : List StoreState → List StoreState → ℕ → ReadingRefused → Type 0
HaltedCounts olds news input (readings.Fault faults) = OneRose olds news input faults
HaltedCounts olds news input (readings.Grammar offset rule) = ⊥
HaltedCounts olds news input (readings.Compressed offset name) = ⊥
HaltedCounts olds news input (readings.Limit offset) = ⊥
HaltedCounts olds news input readings.Memory = ⊥

-- The counts of the stores and of the pen: one rises, and only where its failure is what is answered. Too many ids are never the
-- reason.
abbrev pub PutCounts : {X : Type 0} → List StoreState → List StoreState → ℕ → ℕ → Result X MergeRefused → Type 0
PutCounts olds news before now (Ok it) = AllCountsStand olds news × (now ≡ before)
PutCounts olds news before now (Err (merges.Halted input why)) = HaltedCounts olds news input why × (now ≡ before)
PutCounts olds news before now (Err (merges.Changed input offset)) = AllCountsStand olds news × (now ≡ before)
PutCounts olds news before now (Err merges.TooManySchemas) = ⊥
PutCounts olds news before now (Err merges.TooManyChannels) = ⊥
PutCounts olds news before now (Err (merges.Stopped stop)) = AllCountsStand olds news × StopCause before now stop
