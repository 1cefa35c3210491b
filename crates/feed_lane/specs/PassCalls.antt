-- What each call on the intake adds to what a pass shows of it.
use Rattle.std.specs.Prelude.{◌≡◌, ◌⊎◌, ℕ, ◌+◌, ◌<◌, ◌≤◌, List, [], ◌∷◌, ◌++◌, length, Some, None, Result, Ok, Err}
use Rattle.mcap_wire.specs.Limits.{data_limit, declaration_limit, id_limit, record_count_limit}
use Rattle.rec_data.specs.declared.owned.Rec.{Rec}
use Rattle.rec_data.specs.declared.channel.ChannelDef.{ChannelDef}
use Rattle.mcap_model.specs.declared.ends.End.{End}
use Rattle.mcap_model.specs.declared.ends.End.TheVariants.{Closed, Stopped}
use Rattle.mcap_model.specs.Places.{Each}
use Rattle.mcap_model.specs.History.{message_of}
use Rattle.history_ids.specs.DeclarationFields.{declared_size}
use Rattle.record_core.specs.Desk.{fields_of_message}
use Rattle.record_core.specs.declared.answers.Declared.{Declared}
use Rattle.record_core.specs.declared.answers.Found.{Found}
use Rattle.record_core.specs.declared.answers.NewMessage.{NewMessage}
use Rattle.record_core.specs.declared.answers.CallRefused.{CallRefused}
use Rattle.record_core.specs.declared.answers.CallRefused.TheVariants as refusing
use Rattle.feed_lane.specs.Pass.{FullAt, filled, named_by, lack_at, PassState, with_places, full_at, AreAdded}

abbrev pub refused_full : FullAt → CallRefused
refused_full full = refusing.Full full.held full.from full.to

abbrev pub no_calls : ℕ → PassState
no_calls limit = record { own = []; named = []; fulls = []; lacks = []; reasons = []; found = None; limit = limit }

-- ---- a call

-- The intake stands later than it was found before: no number has fallen but that of the bytes held, and an end stays.
pub record IsLater (before now : Found) : Type 0 where
  pub taken : before.taken ≤ now.taken
  pub count : before.count ≤ now.count
  pub schemas : before.schemas ≤ now.schemas
  pub channels : before.channels ≤ now.channels
  pub end : (end : End) → before.end ≡ Some end → now.end ≡ Some end

-- The intake was found so, later than before: it has more records than each place that the pass had, and gave each id
-- that the pass had.
pub record Finds (before : PassState) (found : Found) : Type 0 where
  pub places : Each (λ pair. pair.0 < found.count) before.own
  pub ids : Each (λ name. (1 ≤ name.id) × (name.id ≤ found.channels)) before.named
  pub later : (last : Found) → before.found ≡ Some last → IsLater last found
  pub within : found.taken ≤ found.count

-- the pass shows the same, but for how it found the intake
abbrev pub with_found : PassState → Found → PassState
with_found before found = record before { found = Some found }

-- and but for why the call was refused
abbrev pub with_refused : PassState → Found → CallRefused → PassState
with_refused before found reason = record before { reasons = before.reasons ++ reason ∷ []; found = Some found }

-- the same without a look at the intake
abbrev pub with_reason : PassState → CallRefused → PassState
with_reason before reason = record before { reasons = before.reasons ++ reason ∷ [] }

abbrev pub with_full : PassState → Found → PassState
with_full before found = record before
    { fulls = before.fulls ++ full_at found ∷ []; reasons = before.reasons ++ refused_full (full_at found) ∷ []; found = Some found }

-- ---- publishing

abbrev pub message_record : NewMessage → Rec
message_record m = message_of m.channel (fields_of_message m)

abbrev pub with_published : PassState → Found → NewMessage → PassState
with_published before found m =
    record before { own = before.own ++ (found.count, message_record m) ∷ []; found = Some found }

-- the intake gave that id to a channel
abbrev pub IsGivenChannel : Found → ℕ → Type 0
IsGivenChannel found channel = (1 ≤ channel) × (channel ≤ found.channels)

-- the intake has a place for a record more, and its buffer has room
pub record HasPlace (before : PassState) (found : Found) : Type 0 where
  pub few : found.count < record_count_limit
  pub room : found.held < before.limit

-- the intake may take a message on that channel
pub record MayTakeMessage (before : PassState) (found : Found) (channel : ℕ) : Type 0 where
  pub finds : Finds before found
  pub unended : found.end ≡ None
  pub known : IsGivenChannel found channel
  pub place : HasPlace before found

-- the message has no more data than one may have
abbrev pub FitsDataLimit : NewMessage → Type 0
FitsDataLimit m = length m.payload.now ≤ data_limit

-- A message was accepted at a place, or refused for the first reason that held of how the intake was found. A message of too
-- much data is refused without a look at the intake. No id and no memory lacks for one.
abbrev pub PublishedBy : PassState → PassState → NewMessage → Result ℕ CallRefused → Type 0
PublishedBy before after m (Ok place) = (found : Found) × FitsDataLimit m × MayTakeMessage before found m.channel
    × (place ≡ found.count) × (after ≡ with_published before found m)
PublishedBy before after m (Err (refusing.TooLarge len)) =
    (len ≡ length m.payload.now) × (data_limit < len) × (after ≡ with_reason before (refusing.TooLarge len))
PublishedBy before after m (Err (refusing.Closed at)) = (found : Found) × FitsDataLimit m × Finds before found
    × (found.end ≡ Some Closed) × (at ≡ found.count) × (after ≡ with_refused before found (refusing.Closed at))
PublishedBy before after m (Err (refusing.Stopped at stop)) = (found : Found) × FitsDataLimit m × Finds before found
    × (found.end ≡ Some (Stopped stop)) × (at ≡ found.count)
    × (after ≡ with_refused before found (refusing.Stopped at stop))
PublishedBy before after m (Err refusing.UnknownChannel) = (found : Found) × FitsDataLimit m × Finds before found
    × (found.end ≡ None) × ((m.channel ≡ 0) ⊎ (found.channels < m.channel))
    × (after ≡ with_refused before found refusing.UnknownChannel)
PublishedBy before after m (Err (refusing.TooManyRecords count)) = (found : Found) × FitsDataLimit m
    × Finds before found × (found.end ≡ None) × IsGivenChannel found m.channel × (count ≡ found.count)
    × (record_count_limit ≤ count) × (after ≡ with_refused before found (refusing.TooManyRecords count))
PublishedBy before after m (Err (refusing.Full held from to)) = (found : Found) × FitsDataLimit m × Finds before found
    × (found.end ≡ None) × IsGivenChannel found m.channel × (found.count < record_count_limit)
    × (filled held from to ≡ full_at found) × (before.limit ≤ held) × (after ≡ with_full before found)
PublishedBy before after m (Err refusing.TooManySchemas) = ⊥
PublishedBy before after m (Err refusing.TooManyChannels) = ⊥
PublishedBy before after m (Err refusing.Memory) = ⊥

-- ---- declaring

abbrev pub with_declared : PassState → Found → ChannelDef → ℕ → List Rec → PassState
with_declared before found d channel records = record before
    { own = before.own ++ with_places found.count records; named = before.named ++ named_by channel d (found.count + length records) ∷ []; found = Some found }

abbrev pub with_lack : PassState → Found → ChannelDef → CallRefused → PassState
with_lack before found d refusal = record before
    { lacks = before.lacks ++ lack_at d refusal found.count ∷ []; reasons = before.reasons ++ refusal ∷ []; found = Some found }

-- the records of a declaration are no longer than they may be
abbrev pub IsNarrow : ChannelDef → Type 0
IsNarrow d = declared_size d ≤ declaration_limit

-- the pass got no id for this content
abbrev pub IsUnnamed : PassState → ChannelDef → Type 0
IsUnnamed before d = Each (λ name. name.content ≡ d → ⊥) before.named

-- a channel whose content is new gets the next id, and its records have a place; ids were left
pub record IsNextId (before : PassState) (found : Found) (channel : ℕ) (records : List Rec) : Type 0 where
  pub next : channel ≡ found.channels + 1
  pub some : 1 ≤ length records
  pub place : HasPlace before found
  pub channels : found.channels < id_limit
  pub schemas : length records ≡ 2 → found.schemas < id_limit

-- a channel whose content had an id gets that and adds no record
abbrev pub GetsId : PassState → Found → ℕ → List Rec → Type 0
GetsId before found channel records =
    ((records ≡ []) × IsGivenChannel found channel) ⊎ IsNextId before found channel records

-- A channel got an id and its records their places, or the declaration was refused for the first reason that held of how the
-- intake was found. Records that are too long are refused without a look at the intake. No other reason than an end refuses a
-- content for which the pass has an id; memory may lack only where none of the others is seen. Whether an id is needed for its
-- schema isn't seen here, since another may have declared that.
abbrev pub DeclaredInto : PassState → PassState → ChannelDef → Result Declared CallRefused → Type 0
DeclaredInto before after d (Ok given) = (found : Found) × (records : List Rec) × IsNarrow d × Finds before found
    × (found.end ≡ None) × (given.first ≡ found.count) × (given.count ≡ length records)
    × AreAdded d given.channel records × GetsId before found given.channel records
    × (after ≡ with_declared before found d given.channel records)
DeclaredInto before after d (Err (refusing.TooLarge len)) =
    (len ≡ declared_size d) × (declaration_limit < len) × (after ≡ with_reason before (refusing.TooLarge len))
DeclaredInto before after d (Err (refusing.Closed at)) = (found : Found) × IsNarrow d × Finds before found
    × (found.end ≡ Some Closed) × (at ≡ found.count) × (after ≡ with_refused before found (refusing.Closed at))
DeclaredInto before after d (Err (refusing.Stopped at stop)) = (found : Found) × IsNarrow d × Finds before found
    × (found.end ≡ Some (Stopped stop)) × (at ≡ found.count)
    × (after ≡ with_refused before found (refusing.Stopped at stop))
DeclaredInto before after d (Err refusing.UnknownChannel) = ⊥
DeclaredInto before after d (Err (refusing.TooManyRecords count)) = (found : Found) × IsNarrow d × Finds before found
    × (found.end ≡ None) × IsUnnamed before d × (count ≡ found.count) × (record_count_limit ≤ count)
    × (after ≡ with_refused before found (refusing.TooManyRecords count))
DeclaredInto before after d (Err (refusing.Full held from to)) = (found : Found) × IsNarrow d × Finds before found
    × (found.end ≡ None) × IsUnnamed before d × (found.count < record_count_limit)
    × (filled held from to ≡ full_at found) × (before.limit ≤ held) × (after ≡ with_full before found)
DeclaredInto before after d (Err refusing.TooManySchemas) = (found : Found) × IsNarrow d × Finds before found
    × (found.end ≡ None) × IsUnnamed before d × HasPlace before found × (found.schemas ≡ id_limit)
    × (after ≡ with_lack before found d refusing.TooManySchemas)
DeclaredInto before after d (Err refusing.TooManyChannels) = (found : Found) × IsNarrow d × Finds before found
    × (found.end ≡ None) × IsUnnamed before d × HasPlace before found × (found.channels ≡ id_limit)
    × (after ≡ with_lack before found d refusing.TooManyChannels)
DeclaredInto before after d (Err refusing.Memory) = (found : Found) × IsNarrow d × Finds before found
    × (found.end ≡ None) × IsUnnamed before d × HasPlace before found × (found.channels < id_limit)
    × (after ≡ with_found before found)
