-- What the bytes of a record frame, and what is kept of each kind of record.
use Rattle.std.proofs.Common.{◌≡◌, ℕ, ◌+◌, Bool, true, false, List, [], ◌∷◌, ◌++◌, Option, Some, None, refl, sym, ap, subst, ◌∙◌, arith}
use Rattle.std.specs.Prelude.{filter, if◌then◌else◌}
use Rattle.std.specs.List.{AllZip, list_any}
use Rattle.std.proofs.lemmas.Bool.{ne_eqb}
use Rattle.mcap_wire.specs.Layout.{framed}
use Rattle.rec_data.specs.declared.owned.Rec.{Rec}
use Rattle.rec_data.specs.declared.owned.Rec.TheVariants.{Schema, Channel, Message, Extra}
use Rattle.rec_data.proofs.OwnedReading.{rec_shown, extra_not}
use Rattle.rec_data.specs.Records.{ShowsMessage, ShowsSchema, ShowsChannel, schema_text, channel_text}
use Rattle.mcap_io.specs.Outside.{LiveState}
use Rattle.mcap_model.specs.Tops.{Top, is_flat_kind}
use Rattle.mcap_model.specs.Fields.{SchemaFields, ChannelFields, MessageFields}
use Rattle.mcap_model.specs.declared.ends.Stop.{Stop}
use Rattle.mcap_model.specs.History.{schema_of, channel_of, message_of, declare_same}
use Rattle.mcap_model.specs.Made.{top}
use Rattle.mcap_model.specs.Repaired.{is_extra}
use Rattle.mcap_model.specs.Written.{IsRec}
use Rattle.chunk_build.specs.Chunker.{AreFramed}
use Rattle.record_keeping.specs.declared.keeping.Keeping.{Keeping}
use Rattle.chunk_writer.specs.declared.phase.Phase.TheVariants as phases
use Rattle.chunk_writer.specs.Scribes.{ScribeGrows, phase_of}
use Rattle.record_keeping.specs.Keeping.{is_declared, declared_with, counted, CountsSo, extras_of, AddsFlatRecords, AddsOneRecord, AddsRecords}
use denote.Ref.{Bor}
use Rattle.record_keeping.proofs.Keepings.{going_apart, schema_known, channel_known, message_known, adds_put, adds_left, takes_by, schema_counts, channel_counts, message_counts}

pub message_framed : (bytes content : List ℕ) (channel : ℕ) (m : MessageFields) → bytes ≡ framed 5 content → ShowsMessage content channel m → AreFramed bytes (message_of channel m)
message_framed bytes content channel m is shown = record {
  spelled = is ∙ ap (framed 5) shown.spelled_there;
  shown = rec_shown (message_of channel m) shown.fit;
}

pub schema_framed : (bytes content : List ℕ) (id : ℕ) (f : SchemaFields) → bytes ≡ framed 3 (schema_text id f) → ShowsSchema content id f → AreFramed bytes (schema_of id f)
schema_framed bytes content id f is shown = record { spelled = is; shown = rec_shown (schema_of id f) shown.1.fit }

pub channel_framed : (bytes content : List ℕ) (id : ℕ) (f : ChannelFields) → bytes ≡ framed 4 (channel_text id f) → ShowsChannel content id f → AreFramed bytes (channel_of id f)
channel_framed bytes content id f is shown = record { spelled = is; shown = rec_shown (channel_of id f) shown.1.fit }

-- ---- messages

pub message_put : {L : Type 0} (seen : L → LiveState) (old new : Keeping L) (bytes content : List ℕ) (channel : ℕ) (m : MessageFields) → ShowsMessage content channel m → phase_of old.scribe ≡ phases.Going → ScribeGrows seen old.scribe new.scribe (message_of channel m ∷ [])
    → (phase_of new.scribe ≡ phases.Going → (new.schemas.keys ≡ old.schemas.keys) × (new.channels.keys ≡ old.channels.keys) × (new.messages ≡ counted (old.messages + 1)) × (new.extras ≡ old.extras) × (new.records ≡ counted (old.records + 1)))
    → AddsFlatRecords seen old new (top 5 content ∷ [])
message_put seen old new bytes content channel m shown going grows same =
    takes_by seen old new (top 5 content) (message_of channel m) (refl, shown)
    (adds_put seen old new (message_of channel m) going (λ extras history c. message_known channel m history) grows
    (λ after extras history c. let (a, b, d, e, f) = same after in message_counts extras history channel m old new c a b d e f))

pub message_lacks : {L : Type 0} (seen : L → LiveState) (old new : Keeping L) (content : List ℕ) (stop : Stop) → phase_of old.scribe ≡ phases.Going → phase_of new.scribe ≡ phases.Stopped stop
    → ((r : Rec) → ScribeGrows seen old.scribe new.scribe (r ∷ [])) → AddsFlatRecords seen old new (top 5 content ∷ [])
message_lacks seen old new content stop going stopped grows [] zip = absurd zip
message_lacks seen old new content stop going stopped grows (Schema id schema ∷ rs) zip = absurd (omega (arith, zip.0.0))
message_lacks seen old new content stop going stopped grows (Channel id schema topic encoding metadata ∷ rs) zip = absurd (omega (arith, zip.0.0))
message_lacks seen old new content stop going stopped grows (Extra op bytes ∷ rs) zip = absurd (extra_not op bytes 5 zip.0.2 (omega arith) (sym zip.0.0))
message_lacks seen old new content stop going stopped grows (Message channel sequence log_time publish_time payload ∷ []) zip =
    let m : MessageFields = record { sequence = sequence; log_time = log_time; publish_time = publish_time; payload = payload } in
    adds_put seen old new (message_of channel m) going (λ extras history c. message_known channel m history) (grows (message_of channel m))
    (λ after extras history c. absurd (going_apart (phase_of new.scribe) stop stopped after))
message_lacks seen old new content stop going stopped grows (Message channel sequence log_time publish_time payload ∷ r ∷ rs) zip = absurd zip.1

-- ---- schemas

schema_fresh : {L : Type 0} (old : Keeping L) (id : ℕ) (f : SchemaFields) (b : Bool) → is_declared old.schemas.keys id ≡ b → (extras : List Top) (history : List Rec) → CountsSo extras history old → list_any (declare_same (schema_of id f)) history ≡ b
schema_fresh old id f b is extras history c = schema_known id f history ∙ ap (λ (ids : List ℕ). is_declared ids id) (sym c.schema_ids) ∙ is

pub schema_put : {L : Type 0} (seen : L → LiveState) (old new : Keeping L) (content : List ℕ) (id : ℕ) (f : SchemaFields) → ShowsSchema content id f → phase_of old.scribe ≡ phases.Going → is_declared old.schemas.keys id ≡ false
    → ScribeGrows seen old.scribe new.scribe (schema_of id f ∷ [])
    → (phase_of new.scribe ≡ phases.Going → (new.schemas.keys ≡ declared_with old.schemas.keys id) × (new.channels.keys ≡ old.channels.keys) × (new.messages ≡ old.messages) × (new.extras ≡ old.extras) × (new.records ≡ counted (old.records + 1)))
    → AddsFlatRecords seen old new (top 3 content ∷ [])
schema_put seen old new content id f shown going fresh grows same =
    takes_by seen old new (top 3 content) (schema_of id f) (refl, shown)
    (adds_put seen old new (schema_of id f) going (schema_fresh old id f false fresh) grows
    (λ after extras history c. let (a, b, d, e, g) = same after in schema_counts extras history id f old new c fresh a b d e g))

pub schema_left : {L : Type 0} (seen : L → LiveState) (old new : Keeping L) (content : List ℕ) (id : ℕ) (f : SchemaFields) → ShowsSchema content id f → phase_of old.scribe ≡ phases.Going → is_declared old.schemas.keys id ≡ true
    → new.scribe ≡ old.scribe → new.schemas.keys ≡ declared_with old.schemas.keys id → new.channels.keys ≡ old.channels.keys → new.messages ≡ old.messages → new.extras ≡ old.extras → new.records ≡ old.records
    → AddsFlatRecords seen old new (top 3 content ∷ [])
schema_left seen old new content id f shown going known same schemas channels messages others records =
    takes_by seen old new (top 3 content) (schema_of id f) (refl, shown)
    (adds_left seen old new (schema_of id f) going (schema_fresh old id f true known) same
    (λ extras history c. record {
      schema_ids = schemas ∙ ap (λ (b : Bool). if b then old.schemas.keys else old.schemas.keys ++ id ∷ []) known ∙ c.schema_ids;
      channel_ids = channels ∙ c.channel_ids;
      messages = messages ∙ c.messages;
      records = records ∙ c.records;
      extras_are = others ∙ c.extras_are;
      inner = c.inner;
    }))

-- ---- channels

channel_fresh : {L : Type 0} (old : Keeping L) (id : ℕ) (f : ChannelFields) (b : Bool) → is_declared old.channels.keys id ≡ b → (extras : List Top) (history : List Rec) → CountsSo extras history old → list_any (declare_same (channel_of id f)) history ≡ b
channel_fresh old id f b is extras history c = channel_known id f history ∙ ap (λ (ids : List ℕ). is_declared ids id) (sym c.channel_ids) ∙ is

pub channel_put : {L : Type 0} (seen : L → LiveState) (old new : Keeping L) (content : List ℕ) (id : ℕ) (f : ChannelFields) → ShowsChannel content id f → phase_of old.scribe ≡ phases.Going → is_declared old.channels.keys id ≡ false
    → ScribeGrows seen old.scribe new.scribe (channel_of id f ∷ [])
    → (phase_of new.scribe ≡ phases.Going → (new.channels.keys ≡ declared_with old.channels.keys id) × (new.schemas.keys ≡ old.schemas.keys) × (new.messages ≡ old.messages) × (new.extras ≡ old.extras) × (new.records ≡ counted (old.records + 1)))
    → AddsFlatRecords seen old new (top 4 content ∷ [])
channel_put seen old new content id f shown going fresh grows same =
    takes_by seen old new (top 4 content) (channel_of id f) (refl, shown)
    (adds_put seen old new (channel_of id f) going (channel_fresh old id f false fresh) grows
    (λ after extras history c. let (a, b, d, e, g) = same after in channel_counts extras history id f old new c fresh a b d e g))

pub channel_left : {L : Type 0} (seen : L → LiveState) (old new : Keeping L) (content : List ℕ) (id : ℕ) (f : ChannelFields) → ShowsChannel content id f → phase_of old.scribe ≡ phases.Going → is_declared old.channels.keys id ≡ true
    → new.scribe ≡ old.scribe → new.channels.keys ≡ declared_with old.channels.keys id → new.schemas.keys ≡ old.schemas.keys → new.messages ≡ old.messages → new.extras ≡ old.extras → new.records ≡ old.records
    → AddsFlatRecords seen old new (top 4 content ∷ [])
channel_left seen old new content id f shown going known same channels schemas messages others records =
    takes_by seen old new (top 4 content) (channel_of id f) (refl, shown)
    (adds_left seen old new (channel_of id f) going (channel_fresh old id f true known) same
    (λ extras history c. record {
      schema_ids = schemas ∙ c.schema_ids;
      channel_ids = channels ∙ ap (λ (b : Bool). if b then old.channels.keys else old.channels.keys ++ id ∷ []) known ∙ c.channel_ids;
      messages = messages ∙ c.messages;
      records = records ∙ c.records;
      extras_are = others ∙ c.extras_are;
      inner = c.inner;
    }))

-- ---- one record

-- a Schema, a Channel or a Message shows what it is taken for, and is no extra
pub one_taken : {L : Type 0} (seen : L → LiveState) (old new : Keeping L) (frame : Option (Bor (List ℕ))) (op n : ℕ) (content : List ℕ) → op ≡ n → filter is_flat_kind (top n content ∷ []) ≡ top n content ∷ [] → filter is_extra (top n content ∷ []) ≡ []
    → AddsFlatRecords seen old new (top n content ∷ []) → AddsOneRecord seen old new frame (top op content)
one_taken seen old new frame op n content is flat none takes =
    subst (λ (k : ℕ). AddsOneRecord seen old new frame (top k content)) (sym is)
    (λ records zip. subst (λ (l : List Top). AddsRecords seen old new l records) (sym (silent frame)) (takes records (subst (λ (l : List Top). AllZip IsRec l records) flat zip)))
  where
    silent : (f : Option (Bor (List ℕ))) → extras_of f (top n content) ≡ []
    silent None = none
    silent (Some bytes) = refl

none_left : (records : List Rec) → AllZip IsRec [] records → records ≡ []
none_left [] zip = refl
none_left (r ∷ rs) zip = absurd zip

-- no other kind shows anything that is kept
pub flat_none : (op : ℕ) (content : List ℕ) → (op ≡ 3 → ⊥) → (op ≡ 4 → ⊥) → (op ≡ 5 → ⊥) → filter is_flat_kind (top op content ∷ []) ≡ []
flat_none op content no3 no4 no5 = ap (λ (b : Bool). if b then top op content ∷ [] else []) (flat_not op content no3 no4 no5)
  where
    flat_not : (n : ℕ) (c : List ℕ) → (n ≡ 3 → ⊥) → (n ≡ 4 → ⊥) → (n ≡ 5 → ⊥) → is_flat_kind (top n c) ≡ false
    flat_not n c a b d = let x = ne_eqb 3 n (λ e. a (sym e)) in let y = ne_eqb 4 n (λ e. b (sym e)) in let z = ne_eqb 5 n (λ e. d (sym e)) in cc

-- of another record these are kept, which it is as an extra
pub other_taken : {L : Type 0} (seen : L → LiveState) (old new : Keeping L) (frame : Option (Bor (List ℕ))) (op : ℕ) (content : List ℕ) (kept : List Top) → (op ≡ 3 → ⊥) → (op ≡ 4 → ⊥) → (op ≡ 5 → ⊥)
    → kept ≡ extras_of frame (top op content) → AddsRecords seen old new kept [] → AddsOneRecord seen old new frame (top op content)
other_taken seen old new frame op content kept no3 no4 no5 is adds records zip =
    subst (λ (l : List Top). AddsRecords seen old new l records) is
    (subst (λ (l : List Rec). AddsRecords seen old new kept l) (sym (none_left records (subst (λ (l : List Top). AllZip IsRec l records) (flat_none op content no3 no4 no5) zip))) adds)
