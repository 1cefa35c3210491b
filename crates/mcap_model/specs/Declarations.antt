-- What a scanner knows of the Schemas and Channels so far, and how it judges one more record.
use Rattle.std.specs.Prelude.{◌≡◌, ◌⊎◌, ℕ, List, ◌∷◌, [], ◌++◌, Option, Some, None, Result, Ok, Err}
use Rattle.rec_data.specs.declared.channel.Channel.{Channel}
use Rattle.rec_data.specs.Records.{attachment_opcode, ShowsChannel}
use Rattle.rec_data.specs.Parsed.{channel_fields}
use Rattle.mcap_model.specs.Places.{At, Has}
use Rattle.mcap_model.specs.Tops.{Top}
use Rattle.mcap_model.specs.Fields.{IsSchema, SameChannel, IsChannel, MessageFields, IsMessage, AttachmentFields, IsAttachment}
use Rattle.mcap_model.specs.Rules.{V6, V10, Agrees}
use Rattle.mcap_model.specs.declared.table.Declared.{Declared}
use Rattle.mcap_model.specs.declared.tables.Tables.{Tables}
use Rattle.mcap_model.specs.declared.tables.Ruling.{Ruling}
use Rattle.mcap_model.specs.declared.tables.Ruling.TheVariants as rulings
use Rattle.mcap_model.specs.Made.{top}
use Rattle.mcap_model.specs.declared.rules.Rule.{Rule}
use Rattle.mcap_model.specs.declared.rules.Rule.TheVariants as rules
use denote.Ref.{Bor}
use Rattle.mcap_model.specs.WantsOfMemory.{AgreesButMetadata}

-- ---- a table

-- the content that declared an id, or that none did
abbrev pub FindsFirst : List Declared → ℕ → Option (Bor (List ℕ)) → Type 0
FindsFirst first id (Some content) = (k : ℕ) × (d : Declared) × At first k d × (d.id ≡ id) × (d.content ≡ content.now)
FindsFirst first id None = (k : ℕ) (d : Declared) → At first k d → d.id ≡ id → ⊥

-- the Channel that declared an id, or that none did
abbrev pub ViewsFirst : List Declared → ℕ → Option Channel → Type 0
ViewsFirst first id (Some channel) = (k : ℕ) × (d : Declared) × At first k d × (d.id ≡ id)
    × ShowsChannel d.content channel.id (channel_fields channel)
ViewsFirst first id None = FindsFirst first id None

abbrev pub SomeFirst : List Declared → ℕ → Type 0
SomeFirst first id = (k : ℕ) × (d : Declared) × At first k d × (d.id ≡ id)

-- These are records of one kind, each the first of its id among these records.
pub record FirstOf {F : Type 0} (op : ℕ) (Is : Top → ℕ → F → Type 0) (Same : F → F → Type 0) (records : List Top)
    (first : List Declared) : Type 0 where
  pub holds : (k : ℕ) (d : Declared) → At first k d
      → (f : F) × Is (top op d.content) d.id f × Has records (top op d.content)
  pub covers : (n id : ℕ) (t : Top) (g : F) → At records n t → Is t id g
      → (k : ℕ) × (d : Declared) × (h : F) × At first k d × (d.id ≡ id) × Is (top op d.content) id h × Same h g
  pub apart : (j k : ℕ) (d e : Declared) → At first j d → At first k e → d.id ≡ e.id → d ≡ e

-- the tables of these records
pub record TablesOf (records : List Top) (tables : Tables) : Type 0 where
  pub schemas : FirstOf 3 IsSchema (λ f g. f ≡ g) records tables.schemas
  pub channels : FirstOf 4 IsChannel SameChannel records tables.channels

-- ---- a Schema, a Channel or a Message more

-- the record breaks the rule on layouts, or the one on ids
abbrev pub BreaksFlat : List Top → Top → Rule → Type 0
BreaksFlat records t rule = ((rule ≡ rules.V6) × (V6 t → ⊥)) ⊎ ((rule ≡ rules.V7) × V6 t × (Agrees records t → ⊥))

-- Memory lacks only for a record that breaks no rule as far as that is told without memory.
abbrev pub Judges : List Top → Top → Tables → Ruling → Type 0
Judges records t tables rulings.Fits = V6 t × Agrees records t × TablesOf (records ++ t ∷ []) tables
Judges records t tables (rulings.Breaks rule) = BreaksFlat records t rule
Judges records t tables rulings.Memory = V6 t × AgreesButMetadata records t

-- a Schema or a Channel was taken behind any records of which these were the tables
abbrev pub TakesDeclaration : Tables → Tables → Top → Ruling → Type 0
TakesDeclaration old new t ruling = (records : List Top) → TablesOf records old → Judges records t new ruling

-- a Message that may stand there, and its log time
pub record IsHeard (records : List Top) (t : Top) (time : ℕ) : Type 0 where
  pub channel : ℕ
  pub message : MessageFields
  pub is : IsMessage t channel message
  pub then : message.log_time ≡ time
  pub agrees : Agrees records t

abbrev pub Hears : List Top → Top → Result ℕ Rule → Type 0
Hears records t (Ok time) = IsHeard records t time
Hears records t (Err rule) = BreaksFlat records t rule

-- ---- an Attachment

abbrev pub AttachmentJudged : List ℕ → Option Rule → Type 0
AttachmentJudged content None =
    ((f : AttachmentFields) × IsAttachment (top attachment_opcode content) f) × V10 (top attachment_opcode content)
AttachmentJudged content (Some rule) = ((rule ≡ rules.V6) × ((f : AttachmentFields) → IsAttachment (top attachment_opcode content) f → ⊥))
    ⊎ ((rule ≡ rules.V10) × (V10 (top attachment_opcode content) → ⊥))
