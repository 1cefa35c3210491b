-- A content shows its fields in one way, what is framed shows them, and what shows them is not refused.
use Rattle.std.proofs.Common.{◌≡◌, ℕ, ◌+◌, ◌^◌, ◌<◌, ◌≤◌, List, [], ◌∷◌, ◌++◌, length, take, drop, refl, ap, subst, inl, inr, ◌∙◌, arith}
use Rattle.std.specs.Prelude.{All, ◌↔◌, Result, Ok, Err, IfErr, OnErr}
use Rattle.std.proofs.lemmas.List.{length-append, drop_all, drop_at}
use Rattle.mcap_wire.specs.declared.faults.Why.{Why}
use Rattle.mcap_wire.specs.Layout.{le, number, string, NumberAt}
use Rattle.mcap_wire.specs.Reading.{TextAt, BytesAt}
use Rattle.mcap_wire.specs.Contents.{a_number, a_text, some_bytes, row, RowBegins}
use Rattle.mcap_wire.proofs.Numbers.{length-le}
use Rattle.mcap_wire.proofs.Contents.{begins, begins_end, begins_decided, not_refused, refused}
use Rattle.mcap_wire.proofs.Fields.{number_spelled}
use Rattle.rec_data.specs.Laws.{IsMessageContent}
use Rattle.mcap_wire.proofs.Framing.{length-string, are_bytes}
use Rattle.mcap_wire.specs.declared.faults.Bad.{Bad}
use Rattle.rec_data.specs.Fields.{HeaderFields, FooterFields, SchemaFields, MessageFields, AttachmentFields}
use Rattle.rec_data.specs.Records.{CrcStandsAt, header_kinds, header_values, header_text, ShowsHeader, footer_kinds, footer_values, footer_text, ShowsFooter, data_end_kinds, data_end_values, data_end_text, ShowsDataEnd, schema_kinds, schema_values, ShowsSchema, attachment_kinds, attachment_values, ShowsAttachment, message_kinds, message_values, message_text, ShowsMessage}
use Rattle.rec_data.specs.RecordReading.{HeaderFails, FooterFails, DataEndFails, SchemaFails, AttachmentFails, MessageFails}

-- ---- Header

pub header_none : {T : Type 0} (content : List ℕ) (r : Result T Bad) → IfErr r (λ bad. HeaderFails content bad.field bad.why) → OnErr r ((f : HeaderFields) → ShowsHeader content f → ⊥)
header_none content r fails =
    refused header_kinds content r
    (λ field why bad f shows. not_refused header_kinds content field why bad (header_values f) shows.0 shows.1)
    fails

pub length-header_text : (f : HeaderFields) → length (header_text f) ≡ 8 + length f.profile + length f.library
length-header_text f =
    omega (
      arith,
      length-append (string f.profile) (string f.library ++ []),
      length-append (string f.library) [],
      length-string f.profile,
      length-string f.library,
    )

-- ---- Footer

pub length-footer_text : (f : FooterFields) → length (footer_text f) ≡ 20
length-footer_text f = simp (length-append, length-le) (omega arith)

-- numbers that stand one behind the other are a Footer where nothing is behind them
pub footer_read : (content : List ℕ) (start mid offset_start end crc after : ℕ) → NumberAt 8 content 0 start mid → NumberAt 8 content mid offset_start end → NumberAt 4 content end crc after → length content ≤ after → ShowsFooter content (record { summary_start = start; summary_offset_start = offset_start; summary_crc = crc })
footer_read content start mid offset_start end crc after first second third nothing =
    subst (λ (rest : List ℕ). RowBegins footer_kinds content (start, (offset_start, (crc, tt))) rest) (drop_all after content nothing)
    (begins (a_number 8) _ content 0 start mid _ _ first (begins (a_number 8) _ content mid offset_start end _ _ second (begins (a_number 4) _ content end crc after _ _ third (begins_end (drop after content)))))

-- what is framed is read back
pub footer_shown : (f : FooterFields) → f.summary_start < 2 ^ 64 → f.summary_offset_start < 2 ^ 64 → f.summary_crc < 2 ^ 32 → ShowsFooter (footer_text f) f
footer_shown f start_fits offset_start_fits crc_fits = record { spelled_there = refl; fit = (start_fits, (offset_start_fits, (crc_fits, tt))) }

one_footer : (f g : FooterFields) → footer_values f ≡ footer_values g → f ≡ g
one_footer f g same = ap (λ v. record { summary_start = v.0; summary_offset_start = v.1.0; summary_crc = v.1.1.0 }) same

-- a content shows one Footer
pub footer_decided : (content : List ℕ) (f g : FooterFields) → ShowsFooter content f → ShowsFooter content g → f ≡ g
footer_decided content f g one other =
    one_footer f g (begins_decided footer_kinds content (footer_values f) (footer_values g) [] [] one other).0

pub footer_not_refused : (content : List ℕ) (field : ℕ) (why : Why) (f : FooterFields) → FooterFails content field why → ShowsFooter content f → ⊥
footer_not_refused content field why f (inl fails) shows = not_refused footer_kinds content field why fails (footer_values f) [] shows
footer_not_refused content field why f (inr more) shows = absurd (omega (arith, ap length shows.spelled_there, length-footer_text f, more.1))

-- so a refusal says that no Footer is shown
pub footer_none : {T : Type 0} (content : List ℕ) (r : Result T Bad) → IfErr r (λ bad. FooterFails content bad.field bad.why) → OnErr r ((f : FooterFields) → ShowsFooter content f → ⊥)
footer_none content (Ok value) fails = tt
footer_none content (Err bad) fails = λ f shows. footer_not_refused content bad.field bad.why f fails shows

-- ---- Data End

-- what is framed is read back
pub data_end_shown : (crc : ℕ) → crc < 2 ^ 32 → ShowsDataEnd (data_end_text crc) crc
data_end_shown crc fits = ([], record { spelled_there = refl; fit = (fits, tt) })

pub data_end_none : {T : Type 0} (content : List ℕ) (r : Result T Bad) → IfErr r (λ bad. DataEndFails content bad.field bad.why) → OnErr r ((crc : ℕ) → ShowsDataEnd content crc → ⊥)
data_end_none content r fails =
    refused data_end_kinds content r
    (λ field why bad crc shows. not_refused data_end_kinds content field why bad (data_end_values crc) shows.0 shows.1)
    fails

-- ---- Schema

pub schema_none : {T : Type 0} (content : List ℕ) (r : Result T Bad) → IfErr r (λ bad. SchemaFails content bad.field bad.why) → OnErr r ((id : ℕ) (f : SchemaFields) → ShowsSchema content id f → ⊥)
schema_none content r fails =
    refused schema_kinds content r
    (λ field why bad id f shows. not_refused schema_kinds content field why bad (schema_values id f) shows.0 shows.1)
    fails

-- ---- Message

pub message_none : {T : Type 0} (content : List ℕ) (r : Result T Bad) → IfErr r (λ bad. MessageFails content bad.field bad.why) → OnErr r ((channel_id : ℕ) (f : MessageFields) → ShowsMessage content channel_id f → ⊥)
message_none content r fails =
    refused message_kinds content r
    (λ field why bad channel_id f shows. not_refused message_kinds content field why bad (message_values channel_id f) f.payload shows)
    fails

-- numbers that stand one behind the other are a Message, whatever follows them
pub message_read : (content : List ℕ) (id a b c d : ℕ) (m : MessageFields) → NumberAt 2 content 0 id a → NumberAt 4 content a m.sequence b → NumberAt 8 content b m.log_time c → NumberAt 8 content c m.publish_time d → drop d content ≡ m.payload → ShowsMessage content id m
message_read content id a b c d m first second third fourth rest =
    subst (λ (behind : List ℕ). RowBegins message_kinds content (message_values id m) behind) rest
    (begins (a_number 2) _ content 0 id a _ _ first (begins (a_number 4) _ content a m.sequence b _ _ second (begins (a_number 8) _ content b m.log_time c _ _ third (begins (a_number 8) _ content c m.publish_time d _ _ fourth (begins_end (drop d content))))))

-- what is framed is read back
pub message_shown : (channel_id : ℕ) (m : MessageFields) → channel_id < 2 ^ 16 → m.sequence < 2 ^ 32 → m.log_time < 2 ^ 64 → m.publish_time < 2 ^ 64 → ShowsMessage (message_text channel_id m) channel_id m
message_shown channel_id m id_fits sequence_fits log_fits publish_fits =
    record { spelled_there = refl; fit = (id_fits, (sequence_fits, (log_fits, (publish_fits, tt)))) }

one_message : (id other : ℕ) (m n : MessageFields) → message_values id m ≡ message_values other n → m.payload ≡ n.payload → m ≡ n
one_message id other m n same payload =
    ap (λ v. record { sequence = v.1.0; log_time = v.1.1.0; publish_time = v.1.1.1.0; payload = m.payload }) same
    ∙ ap (λ (l : List ℕ). record { sequence = n.sequence; log_time = n.log_time; publish_time = n.publish_time; payload = l }) payload

-- a content shows one Message
pub message_decided : (content : List ℕ) (id other : ℕ) (m n : MessageFields) → ShowsMessage content id m → ShowsMessage content other n → (id ≡ other) × (m ≡ n)
message_decided content id other m n one two =
    let same = begins_decided message_kinds content (message_values id m) (message_values other n) m.payload n.payload one two in
    (ap (λ v. v.0) same.0, one_message id other m n same.0 same.1)

-- bytes that are enough for the fields of a Message are one
message_of : (content : List ℕ) → All (λ b. b < 256) content → 22 ≤ length content → IsMessageContent content
message_of content bytes long =
    let small = are_bytes content bytes in
    let id = number_spelled 2 content 0 small (omega arith) in
    let sequence = number_spelled 4 content 2 small (omega arith) in
    let log_time = number_spelled 8 content 6 small (omega arith) in
    let publish_time = number_spelled 8 content 14 small (omega arith) in (
      _,
      record {
        sequence = number (take 4 (drop 2 content));
        log_time = number (take 8 (drop 6 content));
        publish_time = number (take 8 (drop 14 content));
        payload = drop 22 content;
      },
      begins (a_number 2) _ content 0 _ 2 _ _ id (begins (a_number 4) _ content 2 _ 6 _ _ sequence
          (begins (a_number 8) _ content 6 _ 14 _ _ log_time (begins (a_number 8) _ content 14 _ 22 _ _ publish_time (begins_end (drop 22 content))))),
    )

pub length-message_text : (channel_id : ℕ) (m : MessageFields) → length (message_text channel_id m) ≡ 22 + length m.payload
length-message_text channel_id m = simp (length-append, length-le) (omega arith)

pub message_is_long : (content : List ℕ) → All (λ b. b < 256) content → IsMessageContent content ↔ (22 ≤ length content)
message_is_long content bytes = (
  λ m. omega (arith, ap length m.2.spelled_there, length-message_text m.0 m.1),
  message_of content bytes,
)

pub message_on : (content : List ℕ) (channel_id : ℕ) (m : MessageFields) (id : ℕ) → id < 2 ^ 16 → ShowsMessage content channel_id m → ShowsMessage (le 2 id ++ drop 2 content) id m
message_on content channel_id m id id_fits shows =
    let behind : drop 2 content ≡ row (a_number 4 ∷ a_number 8 ∷ a_number 8 ∷ []) (m.sequence, (m.log_time, (m.publish_time, tt))) m.payload =
    ap (drop 2) shows.spelled_there ∙ drop_at (le 2 channel_id) _ 2 (length-le 2 channel_id) in
    record { spelled_there = ap (λ (l : List ℕ). le 2 id ++ l) behind; fit = (id_fits, shows.fit.1) }

-- ---- Attachment

pub attachment_none : {T : Type 0} (content : List ℕ) (r : Result T Bad) → IfErr r (λ bad. AttachmentFails content bad.field bad.why) → OnErr r ((f : AttachmentFields) → ShowsAttachment content f → ⊥)
attachment_none content r fails =
    refused attachment_kinds content r
    (λ field why bad f shows. not_refused attachment_kinds content field why bad (attachment_values f) shows.0 shows.1)
    fails

-- fields that stand one behind the other are an Attachment
pub attachment_read : (content : List ℕ) (f : AttachmentFields) (a b c d place after : ℕ) → NumberAt 8 content 0 f.log_time a → NumberAt 8 content a f.create_time b → TextAt content b f.name c → TextAt content c f.media_type d → BytesAt 8 content d f.payload place → NumberAt 4 content place f.crc after → CrcStandsAt content place f
attachment_read content f a b c d place after first second third fourth fifth sixth = record {
  shows = (
    drop after content,
    begins (a_number 8) _ content 0 f.log_time a _ _ first (begins (a_number 8) _ content a f.create_time b _ _ second (begins a_text _ content b f.name c _ _ third (begins a_text _ content c f.media_type d _ _ fourth (begins (some_bytes 8) _ content d f.payload place _ _ fifth (begins (a_number 4) _ content place f.crc after _ _ sixth (begins_end (drop after content))))))),
  );
  behind = omega (arith, first.size, second.size, third.size, fourth.size, fifth.size);
  stands = subst (NumberAt 4 content place f.crc) sixth.size sixth;
}
