-- What the calls at a turn answer.
use Rattle.std.specs.Prelude.{◌≡◌, ℕ, ◌+◌, List, [], ◌++◌, length, true, OnOk, Option, Some, None, Result, Ok, Err}
use Rattle.rec_data.specs.declared.schema.SchemaDef.{SchemaDef}
use Rattle.rec_data.specs.declared.channel.ChannelDef.{ChannelDef}
use Rattle.mcap_model.specs.declared.ends.End.{End}
use Rattle.mcap_model.specs.declared.ends.End.TheVariants.{Closed, Stopped}
use Rattle.mcap_model.specs.declared.ends.Stop.{Stop}
use Rattle.mcap_model.specs.Places.{Has}
use Rattle.mcap_model.specs.History.{Numbered}
use Rattle.record_cache.specs.Buffers.{Buffer}
use Rattle.record_core.specs.Desk.{DeskView, swapped, ended, desk_end, fields_of_message, Published, DeclaredBy, SwapAnswered, EndIsSetAt}
use Rattle.history_ids.specs.Tables.{HasFewIds}
use Rattle.record_core.specs.declared.answers.Declared.{Declared}
use Rattle.record_core.specs.declared.answers.Empty.{Empty}
use Rattle.record_core.specs.declared.answers.Found.{Found}
use Rattle.record_core.specs.declared.answers.NewMessage.{NewMessage}
use Rattle.record_core.specs.declared.answers.CallRefused.{CallRefused}
use Rattle.record_core.specs.declared.answers.CallRefused.TheVariants as refusing
use Rattle.feed_lane.specs.Pass.{NamedBy, PassState}
use Rattle.feed_lane.specs.PassCalls.{with_found, IsLater, Finds, FitsDataLimit, PublishedBy, DeclaredInto}
use Rattle.atomic_table.specs.Seated.{TableId}
use Rattle.atomic_table.specs.declared.shared.Seat.{Seat}
use Rattle.buffer_swap.specs.Posts.{Post, first_post, drain_post}
use Rattle.buffer_swap.specs.Plays.{Sat, counts, frees, with_full_hand, with_name, with_lacking, hands_over, closes, stops}
use Rattle.buffer_swap.specs.Turns.{newcomer}
use Rattle.buffer_swap.specs.declared.view.View.{View}

-- ---- parts of a call

-- how a seat counts what a message added
abbrev pub counts_message : View → DeskView → Result ℕ CallRefused → View
counts_message v d (Ok place) = counts v d
counts_message v d (Err refusal) = v

-- what a pass shows as the turn is freed behind a message
abbrev pub pass_published : View → Result ℕ CallRefused → PassState
pass_published v (Ok place) = v.pass
pass_published v (Err (refusing.Full held from to)) = with_full_hand v
pass_published v (Err refusal) = v.pass

-- the seat's view as the turn is freed behind a message, and where it shows nothing of a full buffer
abbrev pub frees_published : View → DeskView → Result ℕ CallRefused → View
frees_published v d result = frees (counts_message v d result) (pass_published (counts_message v d result) result)

abbrev pub frees_behind : View → DeskView → Result ℕ CallRefused → View
frees_behind v d result = frees (counts_message v d result) (counts_message v d result).pass

abbrev pub counts_declared : View → DeskView → Result Declared CallRefused → View
counts_declared v d (Ok given) = counts v d
counts_declared v d (Err refusal) = v

abbrev pub pass_declared : View → ChannelDef → Result Declared CallRefused → PassState
pass_declared v c (Ok given) = with_name (given.channel, c) v
pass_declared v c (Err (refusing.Full held from to)) = with_full_hand v
pass_declared v c (Err refusing.TooManySchemas) = with_lacking (c, refusing.TooManySchemas) v
pass_declared v c (Err refusing.TooManyChannels) = with_lacking (c, refusing.TooManyChannels) v
pass_declared v c (Err refusal) = v.pass

-- the seat behind a turn in which a message was published
pub record PublishedInTurn (m : Sat) (message : NewMessage) (result : Result ℕ CallRefused) (n : Sat) : Type 0 where
  pub after : DeskView
  pub published : Published m.0.hand message.channel (fields_of_message message) result after
  pub is : n ≡ (frees_published m.0 after result, [])

-- the same of a declaration
pub record DeclaredInTurn (m : Sat) (c : ChannelDef) (result : Result Declared CallRefused) (n : Sat) : Type 0 where
  pub after : DeskView
  pub declared : DeclaredBy m.0.hand c result after
  pub few : HasFewIds after.ids
  pub is : n
      ≡ (frees (counts_declared m.0 after result) (pass_declared (counts_declared m.0 after result) c result), [])

-- what a drain hands over
abbrev pub hands_if : View → Result Buffer Empty → View
hands_if v (Ok full) = hands_over v (swapped v.hand)
hands_if v (Err empty) = v

pub record SwappedInTurn (m : Sat) (result : Result Buffer Empty) (n : Sat) : Type 0 where
  pub after : DeskView
  pub answered : SwapAnswered m.0.hand result after
  pub numbered : OnOk result (Numbered (m.0.post.taken ++ m.0.hand.primary))
  pub is : n ≡ (frees (hands_if m.0 result) (hands_if m.0 result).pass, [])

-- how a control closes where it found that end
abbrev pub closes_if : View → Option End → View
closes_if v None = closes v (ended v.hand Closed)
closes_if v (Some end) = v

pub record ClosedInTurn (m : Sat) (at : ℕ) (n : Sat) : Type 0 where
  pub place : EndIsSetAt (ended m.0.hand Closed) at
  pub is : n ≡ (frees (closes_if m.0 (desk_end m.0.hand)) (closes_if m.0 (desk_end m.0.hand)).pass, [])

-- how a drain stops where it found that end
abbrev pub stops_if : View → Option End → Stop → View
stops_if v None stop = stops v (ended v.hand (Stopped stop))
stops_if v (Some end) stop = v

pub record StoppedInTurn (m : Sat) (stop : Stop) (at : ℕ) (n : Sat) : Type 0 where
  pub place : EndIsSetAt (ended m.0.hand (Stopped stop)) at
  pub is : n ≡ (frees (stops_if m.0 (desk_end m.0.hand) stop) (stops_if m.0 (desk_end m.0.hand) stop).pass, [])

-- the same behind a turn that shows nothing of a full buffer
pub record TriedInTurn (m : Sat) (message : NewMessage) (result : Result ℕ CallRefused) (n : Sat) : Type 0 where
  pub after : DeskView
  pub published : Published m.0.hand message.channel (fields_of_message message) result after
  pub is : n ≡ (frees_behind m.0 after result, [])

abbrev pub pass_named : View → ChannelDef → Result Declared CallRefused → PassState
pass_named v c (Ok given) = with_name (given.channel, c) v
pass_named v c (Err refusing.TooManySchemas) = with_lacking (c, refusing.TooManySchemas) v
pass_named v c (Err refusing.TooManyChannels) = with_lacking (c, refusing.TooManyChannels) v
pass_named v c (Err refusal) = v.pass

pub record NamedInTurn (m : Sat) (c : ChannelDef) (result : Result Declared CallRefused) (n : Sat) : Type 0 where
  pub after : DeskView
  pub declared : DeclaredBy m.0.hand c result after
  pub few : HasFewIds after.ids
  pub is : n ≡ (frees (counts_declared m.0 after result) (pass_named (counts_declared m.0 after result) c result), [])

-- ---- a publisher's calls

-- the same pass, where its calls were refused for these reasons
abbrev pub reasoned : PassState → List CallRefused → PassState
reasoned p reasons = record p { reasons = reasons }

-- A message was published or refused as a pass says it. Why earlier calls were refused is no part of a seat's pass, since a
-- message that is too large is refused without a step.
abbrev pub PublishesMessage : PassState → PassState → NewMessage → Result ℕ CallRefused → Type 0
PublishesMessage before after m result = (reasons : List CallRefused)
    → (more : List CallRefused) × PublishedBy (reasoned before reasons) (reasoned after more) m result

abbrev pub DeclaresChannel : PassState → PassState → ChannelDef → Result Declared CallRefused → Type 0
DeclaresChannel before after c result = (reasons : List CallRefused)
    → (more : List CallRefused) × DeclaredInto (reasoned before reasons) (reasoned after more) c result

-- the pass has that id for a channel with this schema, or with none where this is none
abbrev pub NamesSchema : PassState → ℕ → Option SchemaDef → Type 0
NamesSchema pass id schema = (name : NamedBy) × Has pass.named name × (name.id ≡ id) × (name.content.schema ≡ schema)

-- so it is of the id that is handed in, if one is
abbrev pub MayName : PassState → Option ℕ → Option SchemaDef → Type 0
MayName pass None schema = Unit {0}
MayName pass (Some id) schema = NamesSchema pass id schema

-- the last id that a channel got, behind a declaration
abbrev pub last_of : ℕ → Result Declared CallRefused → ℕ
last_of last (Ok given) = given.channel
last_of last (Err refusal) = last

-- The pass has but looked at the intake since.
pub record LooksOn (before after : PassState) : Type 0 where
  pub same : after ≡ record before { found = after.found }
  pub later : (last : Found) → before.found ≡ Some last → (now : Found) × (after.found ≡ Some now) × IsLater last now

-- the buffer wasn't full for a message, or for a declaration
abbrev pub NotFull : Result ℕ CallRefused → Type 0
NotFull result = (held from to : ℕ) → result ≡ Err (refusing.Full held from to) → ⊥

abbrev pub NeverFull : Result Declared CallRefused → Type 0
NeverFull result = (held from to : ℕ) → result ≡ Err (refusing.Full held from to) → ⊥

-- Where the turn was another's, the pass missed it once more and shows nothing else; else it never missed it.
abbrev pub TriesBy : PassState → ℕ → PassState → ℕ → NewMessage → Option (Result ℕ CallRefused) → Type 0
TriesBy before missed after now m None = FitsDataLimit m × (now ≡ missed + 1) × (after ≡ before)
TriesBy before missed after now m (Some answer) = (now ≡ missed) × PublishesMessage before after m answer

-- ---- the drain's calls and the control's

-- how a call found the intake
abbrev pub FoundSo : PassState → PassState → Found → Type 0
FoundSo before after found = Finds before found × (after ≡ with_found before found)

-- The buffer that was taken isn't empty, and what was taken grows by its records: that is all that was accepted then, and is
-- numbered. Nothing was taken exactly where the intake was found with no more records than were taken; then the empty buffer
-- comes back. Behind the drain's stop, the end that is found is that stop.
abbrev pub SwapsTo : PassState → Post → PassState → Post → Result Buffer Empty → Type 0
SwapsTo before post after now (Ok full) = (found : Found) × FoundSo before after found × (full.limit ≡ before.limit)
    × (full.records ≡ [] → ⊥) × (now ≡ drain_post post.stop (post.taken ++ full.records))
    × (found.count ≡ length now.taken) × Numbered now.taken
    × ((stop : Stop) → post.stop ≡ Some stop → found.end ≡ Some (Stopped stop))
SwapsTo before post after now (Err empty) = (found : Found) × FoundSo before after found
    × (empty.cache ≡ record { limit = before.limit; records = [] }) × (found.count ≡ length post.taken)
    × (empty.at ≡ length post.taken) × (empty.end ≡ found.end) × (now ≡ post)
    × ((stop : Stop) → post.stop ≡ Some stop → found.end ≡ Some (Stopped stop))

-- the end was set where none was found, and its place is that of all records that were found
abbrev pub stopped_at : Option End → Stop → Post → Post
stopped_at None stop post = drain_post (Some stop) post.taken
stopped_at (Some end) stop post = post

abbrev pub closed_at : Option End → Post → Post
closed_at None post = record post { closed = true }
closed_at (Some end) post = post

pub record StopsBy (before : PassState) (post : Post) (stop : Stop) (after : PassState) (now : Post) (at : ℕ)
    : Type 0 where
  pub found : Found
  pub finds : FoundSo before after found
  pub place : at ≡ found.count
  pub stopped : now ≡ stopped_at found.end stop post

pub record ClosesBy (before : PassState) (post : Post) (after : PassState) (now : Post) (at : ℕ) : Type 0 where
  pub found : Found
  pub finds : FoundSo before after found
  pub place : at ≡ found.count
  pub closed : now ≡ closed_at found.end post

-- ---- where all is over

-- the drain took all that it found, and found that end
pub record DrainIsOver (pass : PassState) (post : Post) (end : End) : Type 0 where
  pub found : Found
  pub shown : pass.found ≡ Some found
  pub ended : found.end ≡ Some end
  pub count : found.count ≡ length post.taken

-- ---- a turn before its start

-- from how many bytes on the buffer is full, as the first seat has it
abbrev pub first_limit : Option (Seat DeskView View) → ℕ
first_limit None = 0
first_limit (Some seat) = seat.me.0.pass.limit

-- the first seat is there, and has done nothing
abbrev pub IsNewTurn : TableId → Option (Seat DeskView View) → Type 0
IsNewTurn table None = ⊥
IsNewTurn table (Some seat) = (seat.table_id ≡ table) × (seat.me ≡ (newcomer seat.me.0.pass.limit first_post, []))
