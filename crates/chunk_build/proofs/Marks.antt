-- What framed records are logged as.
use Rattle.std.proofs.Common.{◌≡◌, ℕ, ◌-◌, ◌≤◌, min, max, inl, inr, Bool, true, false, List, length, get_or, take, drop, Option, Some, None, refl, sym, ap, subst, ◌∙◌, arith}
use Rattle.std.specs.Prelude.{not, nat_le, ◌==◌, if◌then◌else◌}
use Rattle.std.proofs.lemmas.Bool.{both_ways}
use Rattle.std.proofs.lemmas.List.{take_rest, drop_at}
use Rattle.mcap_wire.specs.Layout.{le}
use Rattle.mcap_wire.proofs.Numbers.{length-le}
use Rattle.mcap_wire.proofs.Framing.{length-framed}
use Rattle.rec_data.specs.declared.owned.Rec.{Rec}
use Rattle.rec_data.specs.declared.owned.Rec.TheVariants.{Schema, Channel, Message, Extra}
use Rattle.rec_data.specs.Owned.{rec_opcode, rec_text, rec_bytes}
use Rattle.rec_data.specs.Records.{ShowsMessage}
use Rattle.rec_data.proofs.Contents.{message_decided, length-message_text}
use Rattle.rec_data.proofs.OwnedReading.{extra_not}
use Rattle.chunk_build.specs.declared.building.Mark.{Mark}
use Rattle.chunk_build.specs.Opened.{Opened}
use Rattle.chunk_build.specs.Building.{mark_of, IsLong, spans_with, IsOver}
use Rattle.chunk_build.specs.Chunker.{AreFramed}
use Rattle.rec_data.specs.Fields.{MessageFields}

abbrev pub some_mark : ℕ → ℕ → Option Mark
some_mark channel time = Some (record { channel = channel; time = time })

-- every record is long enough for what it is
pub rec_long : (r : Rec) → IsLong (length (rec_bytes r)) (mark_of r)
rec_long (Schema id schema) = omega (arith, length-framed 3 (rec_text (Schema id schema)))
rec_long (Channel id schema topic encoding metadata) = omega (arith, length-framed 4 (rec_text (Channel id schema topic encoding metadata)))
rec_long (Message channel sequence log_time publish_time payload) =
    omega (arith, length-framed 5 (rec_text (Message channel sequence log_time publish_time payload)), length-message_text channel (record { sequence = sequence; log_time = log_time; publish_time = publish_time; payload = payload }))
rec_long (Extra op content) = omega (arith, length-framed op content)

pub bytes_long : (bytes : List ℕ) (r : Rec) → AreFramed bytes r → IsLong (length bytes) (mark_of r)
bytes_long bytes r is = subst (λ (l : List ℕ). IsLong (length l) (mark_of r)) (sym is.spelled) (rec_long r)

pub has_head : (bytes : List ℕ) (r : Rec) → AreFramed bytes r → 9 ≤ length bytes
has_head bytes r is = let size = ap (λ (l : List ℕ). length l) is.spelled in omega (arith, size, length-framed (rec_opcode r) (rec_text r))

-- the content behind the head
pub content_is : (bytes : List ℕ) (r : Rec) → AreFramed bytes r → take (length bytes - 9) (drop 9 bytes) ≡ rec_text r
content_is bytes r is =
    let text = rec_text r in
    take_rest bytes 9
    ∙ ap (λ (l : List ℕ). drop 9 l) is.spelled
    ∙ drop_at (le 8 (length text)) text 8 (length-le 8 (length text))

pub first_is : (bytes : List ℕ) (r : Rec) → AreFramed bytes r → get_or bytes 0 0 ≡ rec_opcode r
first_is bytes r is = ap (λ (l : List ℕ). get_or l 0 0) is.spelled

-- a record that doesn't begin with the opcode of a Message is none
pub no_mark : (bytes : List ℕ) (r : Rec) → AreFramed bytes r → (get_or bytes 0 0 ≡ 5 → ⊥) → mark_of r ≡ None
no_mark bytes (Schema id schema) is other = refl
no_mark bytes (Channel id schema topic encoding metadata) is other = refl
no_mark bytes (Message channel sequence log_time publish_time payload) is other =
    absurd (other (first_is bytes (Message channel sequence log_time publish_time payload) is))
no_mark bytes (Extra op content) is other = refl

-- one that does is the Message that its content shows
pub one_mark : (bytes : List ℕ) (r : Rec) (channel : ℕ) (m : MessageFields) → AreFramed bytes r → get_or bytes 0 0 ≡ 5
    → ShowsMessage (take (length bytes - 9) (drop 9 bytes)) channel m → some_mark channel m.log_time ≡ mark_of r
one_mark bytes (Schema id schema) channel m is first shown =
    absurd (omega (arith, first, first_is bytes (Schema id schema) is))
one_mark bytes (Channel id schema topic encoding metadata) channel m is first shown =
    absurd (omega (arith, first, first_is bytes (Channel id schema topic encoding metadata) is))
one_mark bytes (Message id sequence log_time publish_time payload) channel m is first shown =
    let r = Message id sequence log_time publish_time payload in
    let n : MessageFields = record { sequence = sequence; log_time = log_time; publish_time = publish_time; payload = payload } in
    let own = subst (λ (l : List ℕ). ShowsMessage l id n) (sym (content_is bytes r is)) is.shown.1 in
    let same = message_decided (take (length bytes - 9) (drop 9 bytes)) channel id m n shown own in
    ap (λ (k : ℕ). some_mark k m.log_time) same.0 ∙ ap (λ (f : MessageFields). some_mark id f.log_time) same.1
one_mark bytes (Extra op content) channel m is first shown =
    let kind = is.shown.2 in absurd (extra_not op content 5 kind (omega arith) (sym (first_is bytes (Extra op content) is) ∙ first))

-- a Message's content shows it, where the record begins with the opcode of a Message
pub some_message : (bytes : List ℕ) (r : Rec) → AreFramed bytes r → get_or bytes 0 0 ≡ 5
    → ((channel : ℕ) (m : MessageFields) → ShowsMessage (take (length bytes - 9) (drop 9 bytes)) channel m → ⊥) → ⊥
some_message bytes (Schema id schema) is first none = omega (arith, first, first_is bytes (Schema id schema) is)
some_message bytes (Channel id schema topic encoding metadata) is first none = omega (arith, first, first_is bytes (Channel id schema topic encoding metadata) is)
some_message bytes (Message channel sequence log_time publish_time payload) is first none =
    let r = Message channel sequence log_time publish_time payload in
    let m : MessageFields = record { sequence = sequence; log_time = log_time; publish_time = publish_time; payload = payload } in
    none channel m (subst (λ (l : List ℕ). ShowsMessage l channel m) (sym (content_is bytes r is)) is.shown.1)
some_message bytes (Extra op content) is first none =
    let kind = is.shown.2 in extra_not op content 5 kind (omega arith) (sym (first_is bytes (Extra op content) is) ∙ first)

-- ---- how far the log times are apart

pub not_so : (b : Bool) → not b ≡ true → b ≡ false
not_so true is = absurd (both_ways false refl is)
not_so false is = refl

-- only the times and the number of messages count
pub near_same : (span : Option ℕ) (o p : Opened) (mark : Option Mark) (b : Bool) → p.start ≡ o.start → p.end ≡ o.end → p.messages ≡ o.messages → spans_with span o mark ≡ b → spans_with span p mark ≡ b
near_same None o p mark b start end messages is = is
near_same (Some span) o p None b start end messages is = is
near_same (Some span) o p (Some mark) b start end messages is =
    ap (λ (n : ℕ). nat_le span (max n mark.time - (if p.messages == 0 then mark.time else min p.start mark.time))) end
    ∙ ap (λ (n : ℕ). nat_le span (max o.end mark.time - (if n == 0 then mark.time else min p.start mark.time))) messages
    ∙ ap (λ (n : ℕ). nat_le span (max o.end mark.time - (if o.messages == 0 then mark.time else min n mark.time))) start ∙ is

pub over_same : (size : ℕ) (span : Option ℕ) (len : ℕ) (mark : Option Mark) (o p : Opened) → length p.bytes ≡ length o.bytes → p.start ≡ o.start → p.end ≡ o.end → p.messages ≡ o.messages → IsOver size span len mark o → IsOver size span len mark p
over_same size span len mark o p bytes start end messages (inl many) = inl (omega (arith, bytes, many))
over_same size span len mark o p bytes start end messages (inr far) = inr (near_same span o p mark true start end messages far)
