-- What the plain scan and the plain replay come to, and their steps.
use Rattle.std.specs.Prelude.{◌≡◌, ◌⊎◌, ℕ, ◌+◌, ◌<◌, ◌≤◌, List, [], ◌∷◌, ◌++◌, length, drop, filter, Bool, true, ◌&&◌, ◌==◌, nat_eq, Option, Some, None, Result, Ok, Err, AllPairs, slice_index_or}
use Rattle.std.specs.List.{list_any, AllZip}
use Rattle.std.specs.Cmp.Lexicographic.{pointwise}
use Rattle.mcap_wire.specs.declared.faults.Cut.{Cut}
use Rattle.mcap_wire.specs.declared.faults.CutFault.{CutFault}
use Rattle.mcap_wire.specs.declared.faults.CutFault.TheVariants as cut_faults
use Rattle.mcap_wire.specs.Layout.{part}
use Rattle.rec_data.specs.Records.{channel_opcode}
use Rattle.mcap_model.specs.declared.replay.Range.{Range}
use Rattle.mcap_model.specs.declared.replay.Shown.{Shown}
use Rattle.mcap_model.specs.declared.replay.Topic.{Topic}
use Rattle.mcap_model.specs.declared.replay.Replayed.{Replayed}
use Rattle.mcap_model.specs.declared.refusals.ReadingRefused.{ReadingRefused}
use Rattle.mcap_model.specs.declared.refusals.ReadingRefused.TheVariants as refusals
use Rattle.mcap_model.specs.declared.table.Declared.{Declared}
use Rattle.mcap_model.specs.declared.tables.Tables.{Tables}
use Rattle.mcap_model.specs.Places.{At, Has}
use Rattle.mcap_model.specs.Tops.{Top, Tops, Placed, top_bytes, offset_behind, flat}
use Rattle.mcap_model.specs.Fields.{IsMessage, ChannelFields, IsChannel}
use Rattle.mcap_model.specs.Rules.{HasDataEnd}
use Rattle.mcap_model.specs.Kept.{reading_limits, Fits, Good, at_end, grammar, compressed, beyond, Halts}
use Rattle.mcap_model.specs.Scan.{Seen, Scan, is_message_top, is_within}
use Rattle.mcap_model.specs.Declarations.{TablesOf}
use Rattle.mcap_model.specs.Made.{top}
use Rattle.mcap_model.specs.Showing.{Shows}
use Rattle.mcap_model.specs.declared.rules.Rule.{Rule}
use Rattle.mcap_model.specs.declared.rules.Rule.TheVariants as rules
use denote.Ref.{Bor}

-- ---- the scan

-- no two messages have the same place
abbrev pub PlacesDiffer : List Shown → Type 0
PlacesDiffer shown = AllPairs (λ s r. s.place ≡ r.place → ⊥) shown

-- the file is read to its Data End, and its messages are shown, each at a place of its own
pub record IsScanned (bytes : List ℕ) (all : Replayed) : Type 0 where
  pub tops : List Top
  pub end : ℕ
  pub messages : List Seen
  pub halts : Halts reading_limits bytes tops (at_end end)
  pub scan : Scan tops messages
  pub shows : Shows all messages
  pub differ : PlacesDiffer all.shown.items

-- the reading of the file halts before, at that offset and for that reason
abbrev pub IsRefused : List ℕ → ReadingRefused → Type 0
IsRefused bytes (refusals.Fault faults) = ⊥
IsRefused bytes (refusals.Grammar offset rule) =
    (tops : List Top) × Halts reading_limits bytes tops (grammar offset rule)
IsRefused bytes (refusals.Compressed offset name) =
    (tops : List Top) × Halts reading_limits bytes tops (compressed offset name)
IsRefused bytes (refusals.Limit offset) = (tops : List Top) × Halts reading_limits bytes tops (beyond offset)
IsRefused bytes refusals.Memory = Unit {0}

abbrev pub PlainScanned : List ℕ → Result Replayed ReadingRefused → Type 0
PlainScanned bytes (Ok all) = IsScanned bytes all
PlainScanned bytes (Err why) = IsRefused bytes why

-- ---- a record more

-- the records before that offset are good, with no Data End among them, and these are their tables
pub record ReadTo (bytes : List ℕ) (at : ℕ) (tables : Tables) (tops : List Top) : Type 0 where
  pub place : at ≡ offset_behind tops
  pub stands : Tops bytes tops (drop at bytes)
  pub good : Good reading_limits tops
  pub unended : HasDataEnd tops → ⊥
  pub tables_are : TablesOf (flat tops) tables

-- the record that was cut
abbrev pub cut_top : List ℕ → Cut → Top
cut_top bytes c = top c.op (part c.from c.to bytes)

-- the record there fits, and these are the tables with it
pub record TakesRecord (bytes : List ℕ) (at : ℕ) (tops : List Top) (tables : Tables) (c : Cut) : Type 0 where
  pub fits : Fits reading_limits tops (cut_top bytes c)
  pub split : drop at bytes ≡ top_bytes (cut_top bytes c) ++ drop c.to bytes
  pub begins : c.from ≤ c.to
  pub ends : c.to ≤ length bytes
  pub behind : c.to ≡ at + length (top_bytes (cut_top bytes c))
  pub tables_are : TablesOf (flat (tops ++ cut_top bytes c ∷ [])) tables

abbrev pub PlainRecordTaken : List ℕ → ℕ → List Top → Tables → Result Cut ReadingRefused → Type 0
PlainRecordTaken bytes at tops tables (Ok c) = TakesRecord bytes at tops tables c
PlainRecordTaken bytes at tops tables (Err why) = IsRefused bytes why

-- the rule that a record breaks which can't be cut: it is cut short, or its opcode is 0
abbrev pub uncut_rule : CutFault → Rule
uncut_rule cut_faults.Short = rules.V4
uncut_rule cut_faults.ZeroOp = rules.V5
uncut_rule (cut_faults.TooLong len) = rules.V4

-- ---- the messages of a record

-- the message at a place is shown so
pub record IsShown (p : Placed) (s : Shown) : Type 0 where
  pub place : p.place ≡ s.place
  pub is : IsMessage p.top s.channel (record
      { sequence = s.sequence; log_time = s.log_time; publish_time = s.publish_time; payload = s.payload })

-- the messages of these records are added
pub record AddsThose (records : List Placed) (old new : List Shown) : Type 0 where
  pub more : List Shown
  pub added : new ≡ old ++ more
  pub shows : AllZip IsShown (filter (λ p. is_message_top p.top) records) more

-- ---- topics

-- a channel of that id was declared with that topic
pub record HasDeclaredTopic (channels : List Declared) (id : ℕ) (topic : List ℕ) : Type 0 where
  pub place : ℕ
  pub declared : Declared
  pub shown : ChannelFields
  pub at : At channels place declared
  pub id_is : declared.id ≡ id
  pub is : IsChannel (top channel_opcode declared.content) id shown
  pub topic_is : shown.topic ≡ topic

-- what is declared are Channels, of one content for each id
pub record DeclareChannels (channels : List Declared) : Type 0 where
  pub are : (k : ℕ) (d : Declared) → At channels k d
      → (f : ChannelFields) × IsChannel (top channel_opcode d.content) d.id f
  pub apart : (j k : ℕ) (d e : Declared) → At channels j d → At channels k e → d.id ≡ e.id → d ≡ e

-- the topic of the channel of that id, which was declared, is added
abbrev pub AddsTopic : List Declared → ℕ → List Topic → List Topic → Type 0
AddsTopic channels id old new = DeclareChannels channels → ((k : ℕ) × (d : Declared) × At channels k d × (d.id ≡ id))
    → (topic : List ℕ) × HasDeclaredTopic channels id topic
    × (new ≡ old ++ (record { channel = id; topic = topic }) ∷ [])

-- one entry for each channel of the messages, in ascending order of ids, with the topic that was declared
pub record HaveTopics (channels : List Declared) (shown : List Shown) (topics : List Topic) : Type 0 where
  pub rises : AllPairs (λ t u. t.channel < u.channel) topics
  pub are : (t : Topic) → Has topics t
      → HasDeclaredTopic channels t.channel t.topic × ((s : Shown) × Has shown s × (s.channel ≡ t.channel))
  pub all : (s : Shown) → Has shown s → (topic : List ℕ) × Has topics (record { channel = s.channel; topic = topic })

-- the channel of each message was declared
abbrev pub AreDeclared : List Declared → List Shown → Type 0
AreDeclared channels shown = (s : Shown) → Has shown s → (k : ℕ) × (d : Declared) × At channels k d × (d.id ≡ s.channel)

abbrev pub AreNamed : List Declared → List Shown → List Topic → Type 0
AreNamed channels shown topics =
    DeclareChannels channels → AreDeclared channels shown → HaveTopics channels shown topics

-- ---- the replay

-- one of the messages is on that channel
abbrev pub is_used : List Shown → ℕ → Bool
is_used shown channel = list_any (λ s. s.channel == channel) shown

abbrev pub asked_topic : Option (Bor (List ℕ)) → Option (List ℕ)
asked_topic None = None
asked_topic (Some topic) = Some topic.now

-- whether the channel has the topic that is asked for, if any
abbrev pub is_named : List Topic → ℕ → Option (List ℕ) → Bool
is_named topics channel None = true
is_named topics channel (Some asked) = list_any (λ t. (t.channel == channel) && pointwise nat_eq t.topic asked) topics

-- whether the message is asked for
abbrev pub is_chosen : List Topic → Range → Option (List ℕ) → Shown → Bool
is_chosen topics range topic s = is_within range s.log_time && is_named topics s.channel topic

-- a message doesn't come behind another: by log time, then by place
abbrev pub NotBehind : Shown → Shown → Type 0
NotBehind s r = (s.log_time < r.log_time)
    ⊎ ((s.log_time ≡ r.log_time) × ((s.place.top < r.place.top) ⊎ ((s.place.top ≡ r.place.top) × (s.place.inner ≤ r.place.inner))))

-- none comes behind the next
abbrev pub InOrder : List Shown → Type 0
InOrder shown =
    (k : ℕ) (d : Shown) → k + 1 < length shown → NotBehind (slice_index_or shown k d) (slice_index_or shown (k + 1) d)
