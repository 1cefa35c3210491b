-- The CRC of an Attachment.
use Rattle.std.proofs.Common.{◌≡◌, ◌⊎◌, ℕ, List, length, take, refl, sym, ap, inl, inr, ◌∙◌, arith}
use Rattle.mcap_wire.proofs.Contents.{shows_decided}
use Rattle.mcap_crc.specs.Remainder.{remainder}
use Rattle.rec_data.specs.Records.{attachment_kinds, attachment_values, ShowsAttachment}
use Rattle.rec_data.specs.RecordReading.{HasCrcAt}
use Rattle.mcap_model.specs.Fields.{AttachmentFields, IsAttachment}
use Rattle.mcap_model.specs.Rules.{V10}
use Rattle.mcap_model.specs.Made.{top}

-- one content shows one Attachment
record IsSame (f g : AttachmentFields) : Type 0 where
  name : f.name ≡ g.name
  media_type : f.media_type ≡ g.media_type
  payload : f.payload ≡ g.payload
  crc : f.crc ≡ g.crc

attachment_once : (content : List ℕ) (f g : AttachmentFields) → ShowsAttachment content f → ShowsAttachment content g → IsSame f g
attachment_once content f g one other =
    let same = shows_decided attachment_kinds content (attachment_values f) (attachment_values g) one other in
    record { name = cc same; media_type = cc same; payload = cc same; crc = cc same }

pub attachment_right : (content : List ℕ) (f : AttachmentFields) (place : ℕ) → IsAttachment (top 9 content) f → HasCrcAt content place → (f.crc ≡ 0) ⊎ (f.crc ≡ remainder (take place content)) → V10 (top 9 content)
attachment_right content f place is (a, stands) right g other kind there =
    let one = attachment_once content f g is.layout there.shows in
    let two = attachment_once content a g stands.shows there.shows in
    let same : place ≡ other = omega (arith, stands.behind, there.behind, ap length two.name, ap length two.media_type, ap length two.payload) in
    elim right [
      | inl none ↦ inl (sym one.crc ∙ none)
      | inr is_crc ↦ inr (sym one.crc ∙ is_crc ∙ ap (λ (k : ℕ). remainder (take k content)) same)
    ]

pub attachment_wrong : (content : List ℕ) (f : AttachmentFields) (place : ℕ) → IsAttachment (top 9 content) f → HasCrcAt content place → (f.crc ≡ 0 → ⊥) → (f.crc ≡ remainder (take place content) → ⊥) → V10 (top 9 content) → ⊥
attachment_wrong content f place is (a, stands) some other right =
    let two = attachment_once content f a is.layout stands.shows in
    elim (right a place refl stands) [
      | inl none ↦ some (two.crc ∙ none)
      | inr is_crc ↦ other (two.crc ∙ is_crc)
    ]
