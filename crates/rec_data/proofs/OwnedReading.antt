-- Bytes that are one framed record, and what its content shows.
use Rattle.std.proofs.Common.{◌≡◌, ℕ, ◌+◌, ◌-◌, ◌^◌, ◌<◌, ◌≤◌, List, [], ◌∷◌, ◌++◌, length, take, drop, slice_index, Result, Ok, Err, Option, Some, None, refl, sym, ap, subst, inl, inr, ◌∙◌, arith}
use Rattle.std.proofs.lemmas.List.{drop_at, length-drop, take_all}
use Rattle.mcap_wire.specs.Layout.{le, framed}
use Rattle.mcap_wire.specs.declared.faults.HeadFault.{HeadFault}
use Rattle.mcap_wire.specs.declared.faults.Memory.{Memory}
use Rattle.mcap_wire.specs.declared.faults.HeadFault.TheVariants.{Short, ZeroOp}
use Rattle.mcap_wire.specs.Reading.{HeadAt, HeadFails}
use Rattle.mcap_wire.proofs.Numbers.{length-le}
use Rattle.mcap_wire.proofs.Framing.{length-framed, split_number}
use Rattle.mcap_wire.proofs.Contents.{shows_decided}
use Rattle.rec_data.specs.declared.schema.SchemaDef.{SchemaDef}
use Rattle.rec_data.specs.declared.owned.Rec.{Rec}
use Rattle.rec_data.specs.declared.owned.Rec.TheVariants.{Schema, Channel, Message, Extra}
use Rattle.rec_data.specs.Fields.{SchemaFields, ChannelFields, MessageFields, AttachmentFields, MetadataFields}
use Rattle.rec_data.specs.Records.{schema_kinds, schema_values, ShowsSchema, channel_kinds, channel_values, ShowsChannel, ShowsMessage, ShowsAttachment, ShowsMetadata}
use Rattle.rec_data.specs.Owned.{def_fields, rec_opcode, rec_text, rec_bytes, IsExtraContent, RecFits, ShowsRec}
use Rattle.rec_data.specs.OwnedReading.{IsFramed, ContentRead, Unframed, FramedRead}
use Rattle.rec_data.proofs.Contents.{message_decided}

-- ---- what a content shows

-- the opcode of an extra is none of those below
pub extra_not : (op : ℕ) (content : List ℕ) (k : ℕ) → IsExtraContent op content → k < 9 → op ≡ k → ⊥
extra_not op content k (inl nine) low e = omega (arith, nine.0, low, e)
extra_not op content k (inr (inl twelve)) low e = omega (arith, twelve.0, low, e)
extra_not op content k (inr (inr high)) low e = omega (arith, high, low, e)

pub schema_refused : (content : List ℕ) → ((id : ℕ) (f : SchemaFields) → ShowsSchema content id f → ⊥) → (r : Rec) → ShowsRec 3 content r → ⊥
schema_refused content none (Schema id schema) shows = none id (def_fields schema) shows.1
schema_refused content none (Channel id schema topic encoding metadata) shows = absurd (omega (arith, shows.0))
schema_refused content none (Message channel_id sequence log_time publish_time payload) shows = absurd (omega (arith, shows.0))
schema_refused content none (Extra op bytes) shows = extra_not op bytes 3 shows.2 (omega arith) (sym shows.0)

pub channel_refused : (content : List ℕ) → ((id : ℕ) (f : ChannelFields) → ShowsChannel content id f → ⊥) → (r : Rec) → ShowsRec 4 content r → ⊥
channel_refused content none (Schema id schema) shows = absurd (omega (arith, shows.0))
channel_refused content none (Channel id schema topic encoding metadata) shows = none id (record { schema = schema; topic = topic; encoding = encoding; metadata = metadata }) shows.1
channel_refused content none (Message channel_id sequence log_time publish_time payload) shows = absurd (omega (arith, shows.0))
channel_refused content none (Extra op bytes) shows = extra_not op bytes 4 shows.2 (omega arith) (sym shows.0)

pub message_refused : (content : List ℕ) → ((id : ℕ) (f : MessageFields) → ShowsMessage content id f → ⊥) → (r : Rec) → ShowsRec 5 content r → ⊥
message_refused content none (Schema id schema) shows = absurd (omega (arith, shows.0))
message_refused content none (Channel id schema topic encoding metadata) shows = absurd (omega (arith, shows.0))
message_refused content none (Message channel_id sequence log_time publish_time payload) shows = none channel_id (record { sequence = sequence; log_time = log_time; publish_time = publish_time; payload = payload }) shows.1
message_refused content none (Extra op bytes) shows = extra_not op bytes 5 shows.2 (omega arith) (sym shows.0)

-- an Attachment, or a Metadata, whose content doesn't meet its layout
pub not_attachment : (op : ℕ) (content : List ℕ) → op ≡ 9 → ((f : AttachmentFields) → ShowsAttachment content f → ⊥) → IsExtraContent op content → ⊥
not_attachment op content nine none (inl is) = none is.1 is.2
not_attachment op content nine none (inr (inl twelve)) = omega (arith, nine, twelve.0)
not_attachment op content nine none (inr (inr high)) = omega (arith, nine, high)

pub not_metadata : (op : ℕ) (content : List ℕ) → op ≡ 12 → ((f : MetadataFields) → ShowsMetadata content f → ⊥) → IsExtraContent op content → ⊥
not_metadata op content twelve none (inl nine) = omega (arith, twelve, nine.0)
not_metadata op content twelve none (inr (inl is)) = none is.1 is.2
not_metadata op content twelve none (inr (inr high)) = omega (arith, twelve, high)

-- a content that is no extra's
pub extra_refused : (op : ℕ) (content : List ℕ) → (op ≡ 3 → ⊥) → (op ≡ 4 → ⊥) → (op ≡ 5 → ⊥) → (IsExtraContent op content → ⊥) → (r : Rec) → ShowsRec op content r → ⊥
extra_refused op content a b c none (Schema id schema) shows = a shows.0
extra_refused op content a b c none (Channel id schema topic encoding metadata) shows = b shows.0
extra_refused op content a b c none (Message channel_id sequence log_time publish_time payload) shows = c shows.0
extra_refused op content a b c none (Extra kind bytes) shows =
    none (subst (λ (o : ℕ). IsExtraContent o content) (sym shows.0) (subst (λ (l : List ℕ). IsExtraContent kind l) (sym shows.1) shows.2))

pub extra_shown : (op : ℕ) (content bytes : List ℕ) → IsExtraContent op content → bytes ≡ content → ShowsRec op content (Extra op bytes)
extra_shown op content bytes is same = (refl, sym same, subst (λ (l : List ℕ). IsExtraContent op l) (sym same) is)

-- ---- one frame

-- two frames of the same bytes are one
frames_same : (op code : ℕ) (content other : List ℕ) → framed op content ≡ framed code other → (op ≡ code) × (content ≡ other)
frames_same op code content other same = (cc, contents)
  where
    behind : (c : List ℕ) (o : ℕ) → drop 9 (framed o c) ≡ c
    behind c o = drop_at (le 8 (length c)) c 8 (length-le 8 (length c))

    contents : content ≡ other
    contents = sym (behind content op) ∙ ap (drop 9) same ∙ behind other code

-- the opcode of a record that is shown
opcode_valid : (op : ℕ) (content : List ℕ) (r : Rec) → ShowsRec op content r → op ≡ 0 → ⊥
opcode_valid op content (Schema id schema) shows e = omega (arith, shows.0, e)
opcode_valid op content (Channel id schema topic encoding metadata) shows e = omega (arith, shows.0, e)
opcode_valid op content (Message channel_id sequence log_time publish_time payload) shows e = omega (arith, shows.0, e)
opcode_valid op content (Extra kind bytes) shows e = extra_not kind bytes 0 shows.2 (omega arith) (sym shows.0 ∙ e)

-- bytes that are no frame are no record
pub not_framed : (bytes : List ℕ) → Unframed bytes None → (r : Rec) → IsFramed bytes r → ⊥
not_framed bytes none r (op, content, is, shows) = none op content (opcode_valid op content r shows) is

-- what the content shows is what the bytes are
pub found_one : (bytes : List ℕ) (op : ℕ) (content : List ℕ) (result : Result (Option Rec) Memory) → bytes ≡ framed op content → ContentRead op content result → FramedRead bytes result
found_one bytes op content (Ok (Some r)) is shows = (op, content, is, shows)
found_one bytes op content (Ok None) is none = λ r other.
    let same = frames_same other.0 op other.1 content (sym other.2 ∙ is) in
    none r (subst (λ (l : List ℕ). ShowsRec op l r) same.1 (subst (λ (o : ℕ). ShowsRec o other.1 r) same.0 other.3))
found_one bytes op content (Err lacks) is read = tt

pub found : (bytes : List ℕ) (op kind : ℕ) (content : List ℕ) (result : Result (Option Rec) Memory) → op ≡ kind → bytes ≡ framed op content → ContentRead kind content result → FramedRead bytes result
found bytes op kind content result same is read =
    found_one bytes op content result is (subst (λ (o : ℕ). ContentRead o content result) (sym same) read)

-- ---- the law

-- a record that fits is shown by its own content
pub rec_shown : (r : Rec) → RecFits r → ShowsRec (rec_opcode r) (rec_text r) r
rec_shown (Schema id schema) fits = (refl, ([], record { spelled_there = refl; fit = fits }))
rec_shown (Channel id schema topic encoding metadata) fits = (refl, ([], record { spelled_there = refl; fit = fits }))
rec_shown (Message channel_id sequence log_time publish_time payload) fits = (refl, record { spelled_there = refl; fit = fits })
rec_shown (Extra op content) fits = (refl, refl, fits)

pub rec_framed : (r : Rec) → RecFits r → IsFramed (rec_bytes r) r
rec_framed r fits = (rec_opcode r, rec_text r, refl, rec_shown r fits)

one_schema : (id other : ℕ) (s t : SchemaDef) → schema_values id (def_fields s) ≡ schema_values other (def_fields t) → Schema id s ≡ Schema other t
one_schema id other s t same = ap (λ v. Schema v.0 (record { name = v.1.0; encoding = v.1.1.0; payload = v.1.1.1.0 })) same

one_channel : (id other : ℕ) (f g : ChannelFields) → channel_values id f ≡ channel_values other g → Channel id f.schema f.topic f.encoding f.metadata ≡ Channel other g.schema g.topic g.encoding g.metadata
one_channel id other f g same = ap (λ v. Channel v.0 v.1.0 v.1.1.0 v.1.1.1.0 v.1.1.1.1.0) same

one_message : (id other : ℕ) (m n : MessageFields) → id ≡ other → m ≡ n → Message id m.sequence m.log_time m.publish_time m.payload ≡ Message other n.sequence n.log_time n.publish_time n.payload
one_message id other m n ids fields = cc

one_extra : (op kind : ℕ) (a b : List ℕ) → op ≡ kind → a ≡ b → Extra op a ≡ Extra kind b
one_extra op kind a b kinds contents = cc

-- a content of one kind shows one record
pub shown_once : (op : ℕ) (content : List ℕ) (r other : Rec) → ShowsRec op content r → ShowsRec op content other → r ≡ other
shown_once op content (Schema id s) (Schema i t) one two =
    one_schema id i s t (shows_decided schema_kinds content (schema_values id (def_fields s)) (schema_values i (def_fields t)) one.1 two.1)
shown_once op content (Schema id s) (Channel i t a b m) one two = absurd (omega (arith, one.0, two.0))
shown_once op content (Schema id s) (Message i a b c p) one two = absurd (omega (arith, one.0, two.0))
shown_once op content (Schema id s) (Extra k b) one two = absurd (extra_not k b 3 two.2 (omega arith) (sym two.0 ∙ one.0))
shown_once op content (Channel id s a b m) (Schema i t) one two = absurd (omega (arith, one.0, two.0))
shown_once op content (Channel id s a b m) (Channel i t c d n) one two =
    let f : ChannelFields = record { schema = s; topic = a; encoding = b; metadata = m } in
    let g : ChannelFields = record { schema = t; topic = c; encoding = d; metadata = n } in
    one_channel id i f g (shows_decided channel_kinds content (channel_values id f) (channel_values i g) one.1 two.1)
shown_once op content (Channel id s a b m) (Message i c d e p) one two = absurd (omega (arith, one.0, two.0))
shown_once op content (Channel id s a b m) (Extra k c) one two = absurd (extra_not k c 4 two.2 (omega arith) (sym two.0 ∙ one.0))
shown_once op content (Message id a b c p) (Schema i t) one two = absurd (omega (arith, one.0, two.0))
shown_once op content (Message id a b c p) (Channel i t d e m) one two = absurd (omega (arith, one.0, two.0))
shown_once op content (Message id a b c p) (Message i d e f q) one two =
    let m : MessageFields = record { sequence = a; log_time = b; publish_time = c; payload = p } in
    let n : MessageFields = record { sequence = d; log_time = e; publish_time = f; payload = q } in
    let same = message_decided content id i m n one.1 two.1 in
    one_message id i m n same.0 same.1
shown_once op content (Message id a b c p) (Extra k d) one two = absurd (extra_not k d 5 two.2 (omega arith) (sym two.0 ∙ one.0))
shown_once op content (Extra k a) (Schema i t) one two = absurd (extra_not k a 3 one.2 (omega arith) (sym one.0 ∙ two.0))
shown_once op content (Extra k a) (Channel i t b c m) one two = absurd (extra_not k a 4 one.2 (omega arith) (sym one.0 ∙ two.0))
shown_once op content (Extra k a) (Message i b c d p) one two = absurd (extra_not k a 5 one.2 (omega arith) (sym one.0 ∙ two.0))
shown_once op content (Extra k a) (Extra l b) one two = one_extra k l a b (sym one.0 ∙ two.0) (sym one.1 ∙ two.1)

-- bytes are one record
pub framed_decided : (bytes : List ℕ) (r other : Rec) → IsFramed bytes r → IsFramed bytes other → r ≡ other
framed_decided bytes r other (op, content, is, shows) (code, text, frame, also) =
    let same = frames_same op code content text (sym is ∙ frame) in
    shown_once op content r other shows
    (subst (λ (l : List ℕ). ShowsRec op l other) (sym same.1) (subst (λ (o : ℕ). ShowsRec o text other) (sym same.0) also))

-- ---- the head and what is behind it

first_of : (bytes : List ℕ) → 9 ≤ length bytes → bytes ≡ slice_index bytes 0 ∷ drop 1 bytes
first_of [] whole = absurd (omega (arith, whole))
first_of (b ∷ bytes) whole = refl

-- a head with the length of all that is behind it
pub frame_of : (bytes : List ℕ) (op len : ℕ) → HeadAt bytes 0 op len → len ≡ length bytes - 9 → bytes ≡ framed op (take (length bytes - 9) (drop 9 bytes))
frame_of bytes op len head all =
    let size : len ≡ length (drop 9 bytes) = all ∙ sym (length-drop 9 bytes) in
    first_of bytes head.len_there.field.ends
    ∙ ap (λ (o : ℕ). o ∷ drop 1 bytes) (sym head.opcode)
    ∙ ap (λ (l : List ℕ). op ∷ l) head.len_there.field.spelled_there
    ∙ ap (λ (n : ℕ). op ∷ (le 8 n ++ drop 9 bytes)) size
    ∙ ap (framed op) (sym (take_all (length bytes - 9) (drop 9 bytes) (omega (arith, length-drop 9 bytes))))

-- a head that can't be read
pub no_head : (bytes : List ℕ) (fault : HeadFault) → HeadFails bytes 0 fault → Unframed bytes None
no_head bytes Short fails op content valid is = absurd (omega (arith, fails, ap length is, length-framed op content))
no_head bytes ZeroOp fails op content valid is = valid (ap (λ (l : List ℕ). slice_index l 0) (sym is) ∙ fails.1)

-- another length than that of all that is behind the head
pub other_length : (bytes : List ℕ) (op len : ℕ) → length bytes < 2 ^ 64 → HeadAt bytes 0 op len → (len ≡ length bytes - 9 → ⊥) → Unframed bytes None
other_length bytes op len few head other = λ code content valid is.
    let size : length bytes ≡ 9 + length content = ap length is ∙ length-framed code content in
    let same = split_number 8 len (length content) (drop 9 bytes) content head.len_there.fits (omega (arith, size, few))
    (sym head.len_there.field.spelled_there ∙ ap (drop 1) is) in
    other (omega (arith, same.0, size))
