-- A desk: what it is to its callers, what each of its calls answers, and what the call makes of it.
use Rattle.std.specs.Prelude.{◌≡◌, ℕ, ◌+◌, ◌≤◌, List, [], ◌∷◌, ◌++◌, length, nat_lt, nat_le, if◌then◌else◌, Option, Some, None, Result, Ok, Err}
use Rattle.mcap_wire.specs.Limits.{data_limit, declaration_limit, record_count_limit}
use Rattle.rec_data.specs.declared.owned.Rec.{Rec}
use Rattle.rec_data.specs.declared.channel.ChannelDef.{ChannelDef}
use Rattle.mcap_model.specs.declared.ends.End.{End}
use Rattle.mcap_model.specs.declared.ends.End.TheVariants.{Closed, Stopped}
use Rattle.mcap_model.specs.declared.ends.Stop.{Stop}
use Rattle.mcap_model.specs.declared.ends.Stop.TheVariants.{Fault, Limit, Memory}
use Rattle.mcap_model.specs.Fields.{MessageFields}
use Rattle.mcap_model.specs.History.{message_of, history_bytes}
use Rattle.history_ids.specs.Ids.{Ids, no_ids, with_ids, is_known_channel, channel_place, channel_id, new_records}
use Rattle.history_ids.specs.Tables.{told_lack}
use Rattle.record_core.specs.declared.answers.CallRefused.{CallRefused}
use Rattle.record_core.specs.declared.answers.CallRefused.TheVariants as refusing
use Rattle.record_core.specs.declared.answers.Declared.{Declared}
use Rattle.record_core.specs.declared.answers.Empty.{Empty}
use Rattle.record_core.specs.declared.answers.Found.{Found}
use Rattle.record_core.specs.declared.answers.NewMessage.{NewMessage}
use Rattle.record_cache.specs.Buffers.{Buffer}
use Rattle.history_ids.specs.DeclarationFields.{declared_size}

-- ---- the desk

-- What a desk is to its callers: how many bytes its buffer may hold before it is full, how many records were swapped
-- out, the records that the buffer holds, the end and the place at which it was set, and what has an id.
pub record DeskView : Type 0 where
  pub limit : ℕ
  pub taken : ℕ
  pub primary : List Rec
  pub end : Option (End × ℕ)
  pub ids : Ids

abbrev pub new_desk : ℕ → DeskView
new_desk limit = record { limit = limit; taken = 0; primary = []; end = None; ids = no_ids }

-- how many records were accepted
abbrev pub accepted : DeskView → ℕ
accepted d = d.taken + length d.primary

-- how many bytes the records in the buffer have
abbrev pub bytes_held : DeskView → ℕ
bytes_held d = length (history_bytes d.primary)

-- with these records more
abbrev pub with_more_records : DeskView → List Rec → DeskView
with_more_records d records = record d { primary = d.primary ++ records; ids = with_ids d.ids records }

-- with an empty buffer
abbrev pub swapped : DeskView → DeskView
swapped d = record d { taken = accepted d; primary = [] }

-- with this end, unless one stands
abbrev pub end_unless : Option (End × ℕ) → End → ℕ → Option (End × ℕ)
end_unless None end at = Some (end, at)
end_unless (Some e) end at = Some e

abbrev pub ended : DeskView → End → DeskView
ended d end = record d { end = end_unless d.end end (accepted d) }

-- ---- publishing

-- why a message is refused where nothing before these reasons refuses it
abbrev pub publish_open : DeskView → ℕ → Option CallRefused
publish_open d channel =
    if is_known_channel d.ids channel
    then (if nat_le record_count_limit (accepted d) then Some (refusing.TooManyRecords (accepted d))
    else (if nat_le d.limit (bytes_held d) then Some (refusing.Full (bytes_held d) d.taken (accepted d)) else None))
    else Some refusing.UnknownChannel

abbrev pub publish_ended : Option (End × ℕ) → DeskView → ℕ → Option CallRefused
publish_ended None d channel = publish_open d channel
publish_ended (Some (Closed, at)) d channel = Some (refusing.Closed at)
publish_ended (Some (Stopped reason, at)) d channel = Some (refusing.Stopped at reason)

-- the first reason to refuse a message with so many bytes of data
abbrev pub publish_refusal : DeskView → ℕ → ℕ → Option CallRefused
publish_refusal d channel len =
    if nat_lt data_limit len then Some (refusing.TooLarge len) else publish_ended d.end d channel

-- ---- declaring

-- why no ids are given to a new channel, as a call tells it
abbrev pub ids_refusal : Ids → ChannelDef → Option CallRefused
ids_refusal ids c = told_lack refusing.TooManySchemas refusing.TooManyChannels ids c

abbrev pub declare_new : DeskView → ChannelDef → Option CallRefused
declare_new d c =
    if nat_le record_count_limit (accepted d) then Some (refusing.TooManyRecords (accepted d))
    else (if nat_le d.limit (bytes_held d) then Some (refusing.Full (bytes_held d) d.taken (accepted d))
    else ids_refusal d.ids c)

abbrev pub declare_at : Option ℕ → DeskView → ChannelDef → Option CallRefused
declare_at (Some place) d c = None
declare_at None d c = declare_new d c

abbrev pub declare_ended : Option (End × ℕ) → DeskView → ChannelDef → Option CallRefused
declare_ended None d c = declare_at (channel_place d.ids c) d c
declare_ended (Some (Closed, at)) d c = Some (refusing.Closed at)
declare_ended (Some (Stopped reason, at)) d c = Some (refusing.Stopped at reason)

-- the first reason to refuse a declaration
abbrev pub declare_refusal : DeskView → ChannelDef → Option CallRefused
declare_refusal d c = if nat_lt declaration_limit (declared_size c) then Some (refusing.TooLarge (declared_size c))
    else declare_ended d.end d c

-- ---- what the calls answer

-- why a message may be refused: no id is given to it, and no memory needed for it
abbrev pub IsForMessage : CallRefused → Type 0
IsForMessage refusing.TooManySchemas = ⊥
IsForMessage refusing.TooManyChannels = ⊥
IsForMessage refusing.Memory = ⊥
IsForMessage refusal = Unit {0}

-- why a declaration may be refused: it names no channel by its id
abbrev pub IsForDeclaration : CallRefused → Type 0
IsForDeclaration refusing.UnknownChannel = ⊥
IsForDeclaration refusal = Unit {0}

abbrev pub fields_of_message : NewMessage → MessageFields
fields_of_message m =
    record { sequence = m.sequence; log_time = m.log_time; publish_time = m.publish_time; payload = m.payload.now }

-- A message is refused for the first reason that there is, and then nothing changes, or it is added and its place answered.
abbrev pub Published : DeskView → ℕ → MessageFields → Result ℕ CallRefused → DeskView → Type 0
Published d channel m (Ok place) after = (publish_refusal d channel (length m.payload) ≡ None) × (place ≡ accepted d)
    × (after ≡ with_more_records d (message_of channel m ∷ []))
Published d channel m (Err refusal) after = (publish_refusal d channel (length m.payload) ≡ Some refusal) × (after ≡ d)

-- The same of a declaration, which answers the channel's id and the places of the records that are added. Memory for the ids
-- of a new content may lack, only where there is no other reason, and then too nothing changes.
abbrev pub DeclaredBy : DeskView → ChannelDef → Result Declared CallRefused → DeskView → Type 0
DeclaredBy d c (Ok given) after = (declare_refusal d c ≡ None) × (given.channel ≡ channel_id d.ids c)
    × (given.first ≡ accepted d) × (given.count ≡ length (new_records d.ids c))
    × (after ≡ with_more_records d (new_records d.ids c))
DeclaredBy d c (Err refusing.Memory) after = (declare_refusal d c ≡ None) × (channel_place d.ids c ≡ None) × (after ≡ d)
DeclaredBy d c (Err refusal) after = (declare_refusal d c ≡ Some refusal) × (after ≡ d)

-- the end, if one stands
abbrev pub first_of : Option (End × ℕ) → Option End
first_of None = None
first_of (Some (end, at)) = Some end

abbrev pub desk_end : DeskView → Option End
desk_end d = first_of d.end

-- the end stands, and was set at that place
abbrev pub EndIsSetAt : DeskView → ℕ → Type 0
EndIsSetAt d at = (end : End) × (d.end ≡ Some (end, at))

-- where an end stands, nothing was accepted behind it
abbrev pub EndIsLast : DeskView → Type 0
EndIsLast d = (end : End) (at : ℕ) → d.end ≡ Some (end, at) → at ≡ accepted d

-- a stop for a fault comes behind a fault
abbrev pub IsCause : Stop → Type 0
IsCause (Fault faults) = 1 ≤ faults
IsCause (Limit blocks bytes) = Unit {0}
IsCause Memory = Unit {0}

-- the buffer that is given away, or nothing where it holds nothing
abbrev pub SwapAnswered : DeskView → Result Buffer Empty → DeskView → Type 0
SwapAnswered d (Ok full) after =
    (full ≡ record { limit = d.limit; records = d.primary }) × (d.primary ≡ [] → ⊥) × (after ≡ swapped d)
SwapAnswered d (Err empty) after = (d.primary ≡ []) × (empty.cache ≡ record { limit = d.limit; records = [] })
    × (empty.end ≡ desk_end d) × (empty.at ≡ accepted d) × (after ≡ d)

abbrev pub found_of : DeskView → Found
found_of d = record
    { taken = d.taken; count = accepted d; held = bytes_held d; schemas = length d.ids.schemas; channels = length d.ids.channels; end = desk_end d }
