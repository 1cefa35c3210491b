-- A lane between its steps: for which records it stands, what a call on its pass leaves to be listed, what becomes of the
-- message at hand, and what it takes of a feed, record by record.
use Rattle.std.specs.Prelude.{◌≡◌, Bool, ℕ, List, ◌+◌, ◌^◌, ◌<◌, ◌≤◌, ◌++◌, length, filter, true, false, vec_len, vec_capacity, Some, None, Result, Ok, Err, OnOk}
use Rattle.feed_lane.specs.declared.report.FeedReport.{FeedReport}
use Rattle.mcap_wire.specs.Limits.{declaration_limit}
use Rattle.rec_data.specs.declared.owned.Rec.{Rec}
use Rattle.rec_data.specs.declared.channel.ChannelDef.{ChannelDef}
use Rattle.mcap_model.specs.Places.{At, Has, Each}
use Rattle.mcap_model.specs.Tops.{Top}
use Rattle.mcap_model.specs.Made.{top}
use Rattle.mcap_model.specs.Fields.{MessageFields}
use Rattle.rec_data.specs.declared.message.Message.{Message}
use Rattle.rec_data.specs.Records.{message_opcode}
use Rattle.mcap_model.specs.Rules.{V6}
use Rattle.mcap_model.specs.Written.{is_passed_over}
use Rattle.mcap_model.specs.declared.tables.Tables.{Tables}
use Rattle.mcap_model.specs.Declarations.{TablesOf}
use Rattle.mcap_model.specs.declared.refusals.ReadingRefused.TheVariants as refusals
use Rattle.record_core.specs.declared.answers.Found.{Found}
use Rattle.record_core.specs.declared.answers.CallRefused.{CallRefused}
use Rattle.feed_lane.specs.declared.report.DeclaredAt.{DeclaredAt}
use Rattle.feed_lane.specs.declared.report.Refused.{Refused}
use Rattle.feed_lane.specs.declared.report.FeedEnd.{FeedEnd}
use Rattle.feed_lane.specs.declared.report.FeedEnd.TheVariants as feed_ends
use Rattle.feed_lane.specs.declared.lane.Lane.{Lane}
use Rattle.feed_lane.specs.declared.lane.Over.{Over}
use Rattle.feed_lane.specs.declared.lane.Over.TheVariants as overs
use Rattle.feed_lane.specs.Pass.{FullAt, NamedBy, LackAt, PassState, FoundAtLeast}
use Rattle.feed_lane.specs.Kept.{LaneIds}
use Rattle.history_ids.specs.FeedContents.{KeptStands}
use Rattle.feed_lane.specs.Sizes.{IsLength}
use Rattle.feed_lane.specs.Lanes.{ReportLists, messages, IsOn, CauseFits, IsTried, full_in, lack_in, reason_in, IsLacking, InStep, ListsFit, LaneFits}
use Rattle.feed_lane.specs.Causes.{goes_on}

-- ---- what a pass shows, call by call

-- all places of the pass are below this one, and no number that it found is above
pub record Above (pass : PassState) (n : ℕ) : Type 0 where
  pub own : Each (λ pair. pair.0 < n) pass.own
  pub seen : (m : ℕ) → FoundAtLeast pass m → m ≤ n

-- what the pass showed it shows still
pub record Extends (before after : PassState) : Type 0 where
  pub own : (pair : ℕ × Rec) → Has before.own pair → Has after.own pair
  pub named : (name : NamedBy) → Has before.named name → Has after.named name
  pub fulls : (full : FullAt) → Has before.fulls full → Has after.fulls full
  pub lacks : (lack : LackAt) → Has before.lacks lack → Has after.lacks lack
  pub limit : after.limit ≡ before.limit
  pub seen : (n : ℕ) → FoundAtLeast before n → FoundAtLeast after n

-- the pass found no end of the intake
abbrev pub IsOpen : PassState → Type 0
IsOpen pass = (found : Found) → pass.found ≡ Some found → found.end ≡ None

-- ---- a lane

-- a channel of the feed was declared, and got this id
pub record DeclaredWithId (records : List Top) (declared : List DeclaredAt) (source id : ℕ) : Type 0 where
  pub by : DeclaredAt
  pub listed : Has declared by
  pub on : IsOn records by.index source
  pub is : by.channel ≡ id

-- for each id that a channel of a feed may have, the id that it got, or 0; the schema that is kept is the feed's, and so are the
-- lengths that are too large for a declaration
pub record IdsStand (records : List Top) (declared : List DeclaredAt) (ids : LaneIds) : Type 0 where
  pub fresh : (source : ℕ) (d : DeclaredAt) → At ids.given source 0 → Has declared d → IsOn records d.index source → ⊥
  pub known : (source id : ℕ) → At ids.given source id → (id ≡ 0 → ⊥) → DeclaredWithId records declared source id
  pub kept : KeptStands records ids.kept
  pub wide : (source len : ℕ) → At ids.wide source len → declaration_limit < len → IsLength records source len

abbrev pub lists_of : Lane → ReportLists
lists_of lane = record { accepted = lane.accepted.items; declared = lane.declared.items; refused = lane.refused.items }

pub record ListsStand (records : List Top) (handled bound : ℕ) (ids : LaneIds) (lists : ReportLists) (pass : PassState)
    : Type 0 where
  pub fits : ListsFit records handled bound lists pass
  pub ids_stand : IdsStand records lists.declared ids
  pub going : Each (λ r. goes_on r.cause ≡ true) lists.refused
  pub firsts : Each (λ d. FoundAtLeast pass d.first) lists.declared
  pub tos : Each (λ full. FoundAtLeast pass full.to) pass.fulls
  pub ats : Each (λ lack. FoundAtLeast pass lack.at) pass.lacks
  pub is_open : IsOpen pass
  pub tried : Each (IsTried records lists.declared) lists.refused

-- the lane goes on, with so many messages handled
abbrev pub LaneStands : Lane → List Top → ℕ → PassState → Type 0
LaneStands lane records handled pass = ListsStand records handled handled lane.ids (lists_of lane) pass

-- the pass, which showed this before, shows with the same limit what makes that so
abbrev pub ThenShows : (PassState → Type 0) → PassState → (PassState → Type 0) → Type 0
ThenShows shows before makes = (after : PassState) × shows after × (after.limit ≡ before.limit) × makes after

-- ---- a message at hand

-- The tables are those of the records, each of which meets its layout.
pub record AreKnown (records : List Top) (tables : Tables) : Type 0 where
  pub tables_are : TablesOf records tables
  pub layouts : Each V6 records

-- that message stands at its place among the records
abbrev pub AtHand : List Top → ℕ → List ℕ → Type 0
AtHand records handled content = At (messages records) handled (top message_opcode content)

-- what a refused call leaves to be listed, for that cause
pub record RefusalLeaves (records : List Top) (handled : ℕ) (before after : PassState) (cause : CallRefused)
    : Type 0 where
  pub extends : Extends before after
  pub own : after.own ≡ before.own
  pub named : after.named ≡ before.named
  pub fulls : after.fulls ≡ before.fulls ++ full_in cause
  pub lacking : List LackAt
  pub lacks : after.lacks ≡ before.lacks ++ lacking
  pub are : InStep (IsLacking records) (lack_in handled cause) lacking
  pub reasons : after.reasons ≡ before.reasons ++ reason_in cause
  pub fits : CauseFits records (handled + 1) after handled cause
  pub above : Each (λ full. Above before full.to) (full_in cause)
  pub tos : Each (λ full. FoundAtLeast after full.to) (full_in cause)
  pub lacking_above : Each (λ lack. Above before lack.at) lacking
  pub ats : Each (λ lack. FoundAtLeast after lack.at) lacking
  pub is_open : goes_on cause ≡ true → IsOpen before → IsOpen after

-- the lane stood before the call, with declarations up to the message at hand
pub record RefusalIsDue (lane : Lane) (records : List Top) (handled : ℕ) (after : PassState) (cause : CallRefused)
    : Type 0 where
  pub before : PassState
  pub stands : ListsStand records handled (handled + 1) lane.ids (lists_of lane) before
  pub refusal : RefusalLeaves records handled before after cause
  pub some : handled < length (messages records)
  pub tried : IsTried records lane.declared.items (record { index = handled; cause = cause })

-- what the channel of the message at hand came to: an id, or the message is refused
abbrev pub ChannelFound : Lane → List Top → ℕ → ℕ → PassState → Result ℕ CallRefused → Type 0
ChannelFound lane records handled source pass (Ok id) = DeclaredWithId records lane.declared.items source id
    × ListsStand records handled (handled + 1) lane.ids (lists_of lane) pass
ChannelFound lane records handled source pass (Err cause) = RefusalIsDue lane records handled pass cause

-- the last message that was handled was refused for an end of the intake, and ends the list
abbrev pub LastEnds : ℕ → List Refused → Type 0
LastEnds handled refused = (r : Refused) × Has refused r × (r.index + 1 ≡ handled) × (goes_on r.cause ≡ false)

-- what the lists tell of a lane that is over
pub record ListsTell (records : List Top) (lists : ReportLists) (pass : PassState) : Type 0 where
  pub firsts : Each (λ d. FoundAtLeast pass d.first) lists.declared
  pub tried : Each (IsTried records lists.declared) lists.refused

-- the intake hadn't ended for the lane
pub record IntakeUnended (lists : ReportLists) (pass : PassState) : Type 0 where
  pub going : Each (λ r. goes_on r.cause ≡ true) lists.refused
  pub is_open : IsOpen pass

-- a lane that is over, for want of room or since the intake had ended
abbrev pub LaneOver : Lane → List Top → ℕ → PassState → Over → Type 0
LaneOver lane records handled pass overs.Memory = LaneFits records handled (lists_of lane) pass
    × (handled < length (messages records)) × ListsTell records (lists_of lane) pass
    × IntakeUnended (lists_of lane) pass
LaneOver lane records handled pass overs.Ended = LaneFits records (handled + 1) (lists_of lane) pass
    × LastEnds (handled + 1) lane.refused.items × ListsTell records (lists_of lane) pass

-- what the message at hand came to
abbrev pub MessageTaken : Lane → List Top → ℕ → PassState → Result Unit Over → Type 0
MessageTaken lane records handled pass (Ok it) = LaneStands lane records (handled + 1) pass
MessageTaken lane records handled pass (Err over) = LaneOver lane records handled pass over

-- what a Message shows but for its channel
abbrev pub fields_of : Message → MessageFields
fields_of m =
    record { sequence = m.sequence; log_time = m.log_time; publish_time = m.publish_time; payload = m.payload.now }

-- ---- a lane's own steps

-- there is room for one more in each list
pub record Roomy (lane : Lane) : Type 0 where
  pub accepted : length lane.accepted.items + 1 ≤ lane.accepted.capacity
  pub declared : vec_len lane.declared + 1 ≤ vec_capacity lane.declared
  pub refused : length lane.refused.items + 1 ≤ lane.refused.capacity

-- the lane lists messages, or only counts them
abbrev pub KeepsLists : Lane → Bool → Type 0
KeepsLists lane listed = (lane.accepted.kept ≡ listed) × (lane.refused.kept ≡ listed)

-- it does so as before
abbrev pub KeepsAs : Lane → Lane → Type 0
KeepsAs before now = (now.accepted.kept ≡ before.accepted.kept) × (now.refused.kept ≡ before.refused.kept)

-- ---- the records of a feed

-- the messages of the records that aren't handled yet are those of these
pub record MessagesWait (records : List Top) (handled : ℕ) (more : List Top) : Type 0 where
  pub done : List Top
  pub split : messages records ≡ done ++ messages more
  pub many : length done ≡ handled

-- what a record comes to, before which so many messages were handled and behind which these still wait
abbrev pub RecordHandled : Lane → List Top → ℕ → List Top → PassState → Result Unit Over → Type 0
RecordHandled lane records before more pass (Ok it) =
    (handled : ℕ) × (before ≤ handled) × LaneStands lane records handled pass × MessagesWait records handled more
RecordHandled lane records before more pass (Err over) =
    (handled : ℕ) × (before ≤ handled) × LaneOver lane records handled pass over

-- how many of the records are passed over
abbrev pub passed_among : List Top → ℕ
passed_among records = length (filter is_passed_over records)

-- so many were counted, where the count doesn't pass the end of its type
abbrev pub CountsUp : ℕ → ℕ → ℕ → Type 0
CountsUp before now n = before + n < 2 ^ 64 → now ≡ before + n

-- so it is of a record that was taken; where the lane is over within it, at most so many were counted
abbrev pub Counted : ℕ → ℕ → ℕ → Result Unit Over → Type 0
Counted before now n result = (before ≤ now) × (now ≤ before + n) × OnOk result (CountsUp before now n)

-- ---- ends of a feed

-- that of a lane which is over before its feed is
abbrev pub over_end : Over → FeedEnd
over_end overs.Memory = feed_ends.Refused refusals.Memory
over_end overs.Ended = feed_ends.Ended

-- ---- a report's lists

-- the report lists messages, or only counts them
abbrev pub ListsMessages : FeedReport → Bool → Type 0
ListsMessages report listed = (report.accepted.kept ≡ listed) × (report.refused.kept ≡ listed)
