-- What the lists of a feed's report say, of the records that its reading kept and of the pass of its lane.
use Rattle.std.specs.Prelude.{◌≡◌, ◌⊎◌, ℕ, ◌+◌, ◌<◌, ◌≤◌, List, [], ◌∷◌, length, filter, AllPairs, ◌==◌, Some}
use Rattle.std.specs.List.{flat_map}
use Rattle.mcap_wire.specs.Limits.{data_limit, declaration_limit, record_count_limit}
use Rattle.rec_data.specs.declared.owned.Rec.{Rec}
use Rattle.rec_data.specs.declared.channel.ChannelDef.{ChannelDef}
use Rattle.rec_data.specs.Records.{message_opcode}
use Rattle.mcap_model.specs.declared.ends.End.{End}
use Rattle.mcap_model.specs.declared.ends.End.TheVariants as ends
use Rattle.mcap_model.specs.Places.{At, Has, Each}
use Rattle.mcap_model.specs.Tops.{Top}
use Rattle.mcap_model.specs.Fields.{MessageFields, IsMessage}
use Rattle.mcap_model.specs.History.{message_of}
use Rattle.history_ids.specs.DeclarationFields.{declared_size}
use Rattle.history_ids.specs.FeedContents.{DeclaresContent}
use Rattle.record_core.specs.declared.answers.Found.{Found}
use Rattle.record_core.specs.declared.answers.CallRefused.{CallRefused}
use Rattle.record_core.specs.declared.answers.CallRefused.TheVariants as refusing
use Rattle.feed_lane.specs.declared.report.Accepted.{Accepted}
use Rattle.feed_lane.specs.declared.report.DeclaredAt.{DeclaredAt}
use Rattle.feed_lane.specs.declared.report.Refused.{Refused}
use Rattle.feed_lane.specs.Pass.{FullAt, filled, NamedBy, named_by, LackAt, PassState, FoundAtLeast, with_places, AreAdded}

-- the lists of a report
pub record ReportLists : Type 0 where
  pub accepted : List Accepted
  pub declared : List DeclaredAt
  pub refused : List Refused

-- the messages among flat records, in their order: the first one has index 0
abbrev pub messages : List Top → List Top
messages records = filter (λ t. t.op == message_opcode) records

-- the message of that index is on the feed's channel of that id
pub record IsOn (records : List Top) (index channel : ℕ) : Type 0 where
  pub top : Top
  pub message : MessageFields
  pub at : At (messages records) index top
  pub is : IsMessage top channel message

-- ---- declarations

-- a declaration for a message's channel: it got this id, and added these records
pub record DeclarationAdds (records : List Top) (pass : PassState) (d : DeclaredAt) : Type 0 where
  pub source : ℕ
  pub on : IsOn records d.index source
  pub content : ChannelDef
  pub describes : DeclaresContent records source content
  pub named : Has pass.named (named_by d.channel content (d.first + d.count))
  pub added : List Rec
  pub are : AreAdded content d.channel added
  pub many : d.count ≡ length added
  pub own : Each (Has pass.own) (with_places d.first added)

-- ---- recorded messages

-- a recorded message stands at its place, on the channel that the declaration for its channel of the feed got
pub record Accepts (records : List Top) (declared : List DeclaredAt) (pass : PassState) (a : Accepted) : Type 0 where
  pub source : ℕ
  pub message : MessageFields
  pub top : Top
  pub at : At (messages records) a.index top
  pub is : IsMessage top source message
  pub small : length message.payload ≤ data_limit
  pub by : DeclaredAt
  pub listed : Has declared by
  pub before : by.index ≤ a.index
  pub on : IsOn records by.index source
  pub own : Has pass.own (a.place, message_of by.channel message)

-- ---- refused messages

-- that message has more data than a message may have
pub record HasTooMuchData (records : List Top) (index len : ℕ) : Type 0 where
  pub source : ℕ
  pub message : MessageFields
  pub top : Top
  pub at : At (messages records) index top
  pub is : IsMessage top source message
  pub size : len ≡ length message.payload
  pub over : data_limit < len

-- a declaration of that message's channel has this content
pub record IsChannelOf (records : List Top) (index : ℕ) (content : ChannelDef) : Type 0 where
  pub source : ℕ
  pub on : IsOn records index source
  pub describes : DeclaresContent records source content

-- the records of that message's channel are longer than those of a declaration may be
abbrev pub IsWide : List Top → ℕ → ℕ → Type 0
IsWide records index len = (content : ChannelDef) × IsChannelOf records index content × (len ≡ declared_size content)
    × (declaration_limit < len)

-- no id was left for that message's channel
abbrev pub LacksId : List Top → PassState → ℕ → CallRefused → Type 0
LacksId records pass index refusal =
    (lack : LackAt) × IsChannelOf records index lack.content × (lack.cause ≡ refusal) × Has pass.lacks lack

-- The last of the handled messages was refused since the intake had ended.
pub record LastFindsEnd (handled : ℕ) (pass : PassState) (index at : ℕ) (end : End) : Type 0 where
  pub last : index + 1 ≡ handled
  pub found : Found
  pub shown : pass.found ≡ Some found
  pub ended : found.end ≡ Some end
  pub at_count : at ≡ found.count

-- what the cause of a refusal says of the message of that index, of its channel and of the pass
abbrev pub CauseFits : List Top → ℕ → PassState → ℕ → CallRefused → Type 0
CauseFits records handled pass index (refusing.Full held from to) =
    Has pass.fulls (filled held from to) × (pass.limit ≤ held) × (from ≤ to)
CauseFits records handled pass index (refusing.TooLarge len) =
    HasTooMuchData records index len ⊎ IsWide records index len
CauseFits records handled pass index (refusing.Closed at) = LastFindsEnd handled pass index at ends.Closed
CauseFits records handled pass index (refusing.Stopped at stop) = LastFindsEnd handled pass index at (ends.Stopped stop)
CauseFits records handled pass index refusing.UnknownChannel = ⊥
CauseFits records handled pass index refusing.TooManySchemas = LacksId records pass index refusing.TooManySchemas
CauseFits records handled pass index refusing.TooManyChannels = LacksId records pass index refusing.TooManyChannels
CauseFits records handled pass index (refusing.TooManyRecords count) =
    (record_count_limit ≤ count) × FoundAtLeast pass count
CauseFits records handled pass index refusing.Memory = Unit {0}

-- a declaration for that message's channel was made at the message or an earlier one
pub record IsDeclared (records : List Top) (declared : List DeclaredAt) (index : ℕ) : Type 0 where
  pub source : ℕ
  pub on : IsOn records index source
  pub by : DeclaredAt
  pub listed : Has declared by
  pub before : by.index ≤ index
  pub is_on : IsOn records by.index source

-- no declaration for that message's channel was made at the message or an earlier one
abbrev pub IsUndeclared : List Top → List DeclaredAt → ℕ → Type 0
IsUndeclared records declared index = (source : ℕ) (d : DeclaredAt) → IsOn records index source → Has declared d
    → IsOn records d.index source → index < d.index

-- A message that was refused as too large was declared a channel for, unless that is too large itself. Memory lacks only for
-- declaring a channel.
pub record IsTried (records : List Top) (declared : List DeclaredAt) (r : Refused) : Type 0 where
  pub large : (len : ℕ) → r.cause ≡ refusing.TooLarge len
      → IsWide records r.index len ⊎ IsDeclared records declared r.index
  pub lacking : r.cause ≡ refusing.Memory → IsUndeclared records declared r.index

-- where the buffer was full, if that is the cause
abbrev pub full_in : CallRefused → List FullAt
full_in (refusing.Full held from to) = filled held from to ∷ []
full_in cause = []

abbrev pub fulls_of : List Refused → List FullAt
fulls_of refused = flat_map (λ r. full_in r.cause) refused

-- the message's index and the reason for which no id was left, if that is the cause
abbrev pub lack_in : ℕ → CallRefused → List (ℕ × CallRefused)
lack_in index refusing.TooManySchemas = (index, refusing.TooManySchemas) ∷ []
lack_in index refusing.TooManyChannels = (index, refusing.TooManyChannels) ∷ []
lack_in index cause = []

abbrev pub lacks_of : List Refused → List (ℕ × CallRefused)
lacks_of refused = flat_map (λ r. lack_in r.index r.cause) refused

-- why the message was refused, unless memory lacked
abbrev pub reason_in : CallRefused → List CallRefused
reason_in refusing.Memory = []
reason_in cause = cause ∷ []

abbrev pub reasons_of : List Refused → List CallRefused
reasons_of refused = flat_map (λ r. reason_in r.cause) refused

-- what the pass shows of a declaration, and of a refusal for which no id was left
abbrev pub ShowsDeclaration : List Top → DeclaredAt → NamedBy → Type 0
ShowsDeclaration records d name =
    (name.id ≡ d.channel) × (name.count ≡ d.first + d.count) × IsChannelOf records d.index name.content

abbrev pub IsLacking : List Top → ℕ × CallRefused → LackAt → Type 0
IsLacking records refusal lack = (lack.cause ≡ refusal.1) × IsChannelOf records refusal.0 lack.content

-- the lists have as many members, and it holds of those of each place
abbrev pub InStep : {X Y : Type 0} → (X → Y → Type 0) → List X → List Y → Type 0
InStep {X} {Y} R xs ys = (length xs ≡ length ys) × ((n : ℕ) (x : X) (y : Y) → At xs n x → At ys n y → R x y)

-- Records that a message added, which stand from one place to before another, and a message that was refused when so many
-- records had been accepted: those of that message itself and of an earlier one stand before that place, and those of a later
-- one from there on.
abbrev pub InTurnWith : ℕ → ℕ → ℕ → ℕ → ℕ → Type 0
InTurnWith place index other first behind = (other ≤ index → behind ≤ place) × (index < other → place ≤ first)

-- so it is of all that was recorded and declared
pub record IsBetween (lists : ReportLists) (index place : ℕ) : Type 0 where
  pub accepted : Each (λ a. InTurnWith place index a.index a.place (a.place + 1)) lists.accepted
  pub declared : Each (λ d. InTurnWith place index d.index d.first (d.first + d.count)) lists.declared

-- so it is of a message that was refused since no id was left, and of the declaration for it
abbrev pub IsLackBetween : ReportLists → ℕ × CallRefused → LackAt → Type 0
IsLackBetween lists refusal lack = IsBetween lists refusal.0 lack.at

-- ---- all lists

-- the place is that of a recorded message or of a record that a declaration added
abbrev pub IsGiven : ReportLists → ℕ → Type 0
IsGiven lists place = ((a : Accepted) × Has lists.accepted a × (a.place ≡ place))
    ⊎ ((d : DeclaredAt) × Has lists.declared d × (d.first ≤ place) × (place < d.first + d.count))

-- the message was recorded or refused
abbrev pub IsAccountedFor : ReportLists → ℕ → Type 0
IsAccountedFor lists index = ((a : Accepted) × Has lists.accepted a × (a.index ≡ index))
    ⊎ ((r : Refused) × Has lists.refused r × (r.index ≡ index))

-- The lists fit the records and the pass, where the first `handled` messages were recorded or refused, and declarations
-- were made for messages below the bound.
pub record ListsFit (records : List Top) (handled bound : ℕ) (lists : ReportLists) (pass : PassState) : Type 0 where
  -- each list says of each of its members what it is
  pub accepts : Each (Accepts records lists.declared pass) lists.accepted
  pub declares : Each (DeclarationAdds records pass) lists.declared
  pub refuses : Each (λ r. CauseFits records handled pass r.index r.cause) lists.refused
  -- a channel of the feed is declared once
  pub once : (j k : ℕ) (d e : DeclaredAt) (source : ℕ) → At lists.declared j d → At lists.declared k e
      → IsOn records d.index source → IsOn records e.index source → j ≡ k
  -- each place that the pass got is given; it got each once
  pub given : Each (λ pair. IsGiven lists pair.0) pass.own
  pub own_rise : AllPairs (λ p q. p.0 < q.0) pass.own
  -- places rise with the index
  pub accepted_rise : AllPairs (λ a b. (a.index < b.index) × (a.place < b.place)) lists.accepted
  pub declared_rise : AllPairs (λ d e. (d.index < e.index) × (d.first + d.count ≤ e.first)) lists.declared
  pub refused_rise : AllPairs (λ r s. r.index < s.index) lists.refused
  -- A declaration's records stand behind the messages before its own, and before its own and later ones; so does the
  -- `first` of one that added none.
  pub in_turn : (j k : ℕ) (d : DeclaredAt) (a : Accepted) → At lists.declared j d → At lists.accepted k a
      → (d.index ≤ a.index → d.first + d.count ≤ a.place) × (a.index < d.index → a.place < d.first)
  -- the ids that the pass got are those of the declarations, in their order, one each
  pub named : InStep (ShowsDeclaration records) lists.declared pass.named
  -- so are the declarations that no id was left for those of the refusals for that
  pub lacks : InStep (IsLacking records) (lacks_of lists.refused) pass.lacks
  pub lacks_between : InStep (IsLackBetween lists) (lacks_of lists.refused) pass.lacks
  -- The refusals but for want of memory are those of the pass, in their order, one each: what it refused for another reason is
  -- told so, and where memory is told the pass lacked it for a declaration, or the lane itself.
  pub reasons : reasons_of lists.refused ≡ pass.reasons
  -- the refusals for a full buffer are those that the pass shows, in their order, one each, and between the places
  pub fulls : fulls_of lists.refused ≡ pass.fulls
  pub accepted_between : (j k : ℕ) (r : Refused) (a : Accepted) → At lists.refused j r → At lists.accepted k a
      → Each (λ full. InTurnWith full.to r.index a.index a.place (a.place + 1)) (full_in r.cause)
  pub declared_between : (j k : ℕ) (r : Refused) (d : DeclaredAt) → At lists.refused j r → At lists.declared k d
      → Each (λ full. InTurnWith full.to r.index d.index d.first (d.first + d.count)) (full_in r.cause)
  -- each of the first messages was recorded or refused, and no other
  pub handled_some : handled ≤ length (messages records)
  pub count : handled ≡ length lists.accepted + length lists.refused
  pub listed : (index : ℕ) → index < handled → IsAccountedFor lists index
  pub accepted_below : Each (λ a. a.index < handled) lists.accepted
  pub refused_below : Each (λ r. r.index < handled) lists.refused
  pub declared_below : Each (λ d. d.index < bound) lists.declared
  -- and none both
  pub apart : (j k : ℕ) (a : Accepted) (r : Refused) → At lists.accepted j a → At lists.refused k r → a.index ≡ r.index
      → ⊥

-- the same, of a lane that has no message at hand
abbrev pub LaneFits : List Top → ℕ → ReportLists → PassState → Type 0
LaneFits records handled lists pass = ListsFit records handled handled lists pass
