-- What is kept with a record more.
use Rattle.std.proofs.Common.{◌≡◌, ℕ, ◌+◌, Bool, true, false, ◌||◌, eqb, List, [], ◌∷◌, ◌++◌, length, map, not, Some, refl, sym, ap, subst, ◌∙◌, arith}
use Rattle.std.specs.Prelude.{filter, fold, if◌then◌else◌}
use Rattle.std.specs.List.{list_any}
use Rattle.std.proofs.lemmas.List.{append-nil, map-append, length-append}
use Rattle.std.proofs.lemmas.List.Elements.{filter-append}
use Rattle.rec_data.specs.declared.owned.Rec.{Rec}
use Rattle.rec_data.specs.declared.owned.Rec.TheVariants.{Schema, Channel, Message, Extra}
use Rattle.rec_data.proofs.OwnedReading.{shown_once}
use Rattle.mcap_io.specs.Outside.{LiveState}
use Rattle.mcap_model.specs.declared.ends.Stop.{Stop}
use Rattle.mcap_model.specs.declared.options.FileOptions.{FileOptions}
use Rattle.mcap_model.specs.Places.{Each}
use Rattle.mcap_model.specs.Tops.{Top}
use Rattle.mcap_model.specs.Fields.{SchemaFields, ChannelFields, MessageFields}
use Rattle.mcap_model.specs.History.{is_schema, is_channel, is_message, is_inner, declare_same, kept_with, schema_of, channel_of, message_of}
use Rattle.mcap_model.specs.Written.{IsRec}
use Rattle.mcap_model.proofs.Places.{at_none}
use Rattle.mcap_model.proofs.Lists.{each_cons, each_joined}
use Rattle.mcap_model.proofs.Repairs.{kept_new, kept_old, fold_grows}
use Rattle.chunk_writer.specs.declared.phase.Phase.{Phase}
use Rattle.chunk_writer.specs.declared.phase.Phase.TheVariants as phases
use Rattle.chunk_writer.specs.Scribes.{WritesHistory, ScribeGrows, GathersExtra, KeepsOn, phase_of}
use Rattle.chunk_writer.proofs.Taking.{stopped_on}
use Rattle.record_keeping.specs.declared.keeping.Keeping.{Keeping}
use Rattle.record_keeping.specs.Keeping.{is_declared, declared_with, record_id, counted, CountsSo, KeepingStandsFor, AddsRecords, AddsFlatRecords}

pub going_apart : (p : Phase) (stop : Stop) → p ≡ phases.Stopped stop → p ≡ phases.Going → ⊥
going_apart p stop stopped going = cc

pub from_none : {old new more : List ℕ} → old ≡ [] → new ≡ old ++ more → new ≡ more
from_none {old} {new} {more} none is = is ∙ ap (λ (l : List ℕ). l ++ more) none

pub not_so : (b : Bool) → true ≡ not b → b ≡ false
not_so true is = absurd (let same : true ≡ false = is in cc)
not_so false is = refl

pub so : (b : Bool) → false ≡ not b → b ≡ true
so true is = refl
so false is = absurd (let same : false ≡ true = is in cc)

-- a store that wasn't touched keeps what it held
pub keeps_same : {L : Type 0} (seen : L → LiveState) (old new : L) → new ≡ old → KeepsOn (seen old).held (seen new).held
keeps_same {L} seen old new same before told = ([], ap (λ (s : L). (seen s).held) same ∙ told ∙ ap Some (sym (append-nil before)))

-- ---- what was declared before

pub schema_known : (id : ℕ) (f : SchemaFields) (history : List Rec) → list_any (declare_same (schema_of id f)) history ≡ is_declared (map record_id (filter is_schema history)) id
schema_known id f [] = refl
schema_known id f (Schema other s ∷ rs) = ap (λ (b : Bool). eqb id other || b) (schema_known id f rs)
schema_known id f (Channel other s topic encoding metadata ∷ rs) = schema_known id f rs
schema_known id f (Message channel sequence log_time publish_time payload ∷ rs) = schema_known id f rs
schema_known id f (Extra op content ∷ rs) = schema_known id f rs

pub channel_known : (id : ℕ) (f : ChannelFields) (history : List Rec) → list_any (declare_same (channel_of id f)) history ≡ is_declared (map record_id (filter is_channel history)) id
channel_known id f [] = refl
channel_known id f (Schema other s ∷ rs) = channel_known id f rs
channel_known id f (Channel other s topic encoding metadata ∷ rs) = ap (λ (b : Bool). eqb id other || b) (channel_known id f rs)
channel_known id f (Message channel sequence log_time publish_time payload ∷ rs) = channel_known id f rs
channel_known id f (Extra op content ∷ rs) = channel_known id f rs

pub message_known : (channel : ℕ) (m : MessageFields) (history : List Rec) → list_any (declare_same (message_of channel m)) history ≡ false
message_known channel m [] = refl
message_known channel m (Schema other s ∷ rs) = message_known channel m rs
message_known channel m (Channel other s topic encoding metadata ∷ rs) = message_known channel m rs
message_known channel m (Message other sequence log_time publish_time payload ∷ rs) = message_known channel m rs
message_known channel m (Extra op content ∷ rs) = message_known channel m rs

-- ---- one record

-- a new record was put
pub adds_put : {L : Type 0} (seen : L → LiveState) (old new : Keeping L) (r : Rec) → phase_of old.scribe ≡ phases.Going
    → ((extras : List Top) (history : List Rec) → CountsSo extras history old → list_any (declare_same r) history ≡ false)
    → ScribeGrows seen old.scribe new.scribe (r ∷ []) → (phase_of new.scribe ≡ phases.Going → (extras : List Top) (history : List Rec) → CountsSo extras history old → CountsSo extras (history ++ r ∷ []) new)
    → AddsRecords seen old new [] (r ∷ [])
adds_put seen old new r going fresh grows counts options extras opened history keeps =
    let c = keeps.counts going in
    subst (λ (l : List Rec). KeepingStandsFor seen options (extras ++ []) opened l new) (sym (kept_new history r (fresh extras history c)))
    (subst (λ (l : List Top). KeepingStandsFor seen options l opened (history ++ r ∷ []) new) (sym (append-nil extras)) (record {
      writes = grows options extras opened history keeps.writes;
      counts = λ after. counts after extras history c;
    }))

-- a record was left out, whose id was declared before
pub adds_left : {L : Type 0} (seen : L → LiveState) (old new : Keeping L) (r : Rec) → phase_of old.scribe ≡ phases.Going
    → ((extras : List Top) (history : List Rec) → CountsSo extras history old → list_any (declare_same r) history ≡ true)
    → new.scribe ≡ old.scribe → ((extras : List Top) (history : List Rec) → CountsSo extras history old → CountsSo extras history new) → AddsRecords seen old new [] (r ∷ [])
adds_left seen old new r going known same counts options extras opened history keeps =
    let c = keeps.counts going in
    subst (λ (l : List Rec). KeepingStandsFor seen options (extras ++ []) opened l new) (sym (kept_old history r (known extras history c)))
    (subst (λ (l : List Top). KeepingStandsFor seen options l opened history new) (sym (append-nil extras)) (record {
      writes = subst (λ s. WritesHistory seen options extras opened history s) (sym same) keeps.writes;
      counts = λ after. counts extras history c;
    }))

pub adds_none : {L : Type 0} (seen : L → LiveState) (old : Keeping L) → AddsRecords seen old old [] []
adds_none seen old options extras opened history keeps = subst (λ (l : List Top). KeepingStandsFor seen options l opened history old) (sym (append-nil extras)) keeps

-- what a record of a file shows is one
pub takes_by : {L : Type 0} (seen : L → LiveState) (old new : Keeping L) (t : Top) (r : Rec) → IsRec t r → AddsRecords seen old new [] (r ∷ []) → AddsFlatRecords seen old new (t ∷ [])
takes_by seen old new t r is adds [] zip = absurd zip
takes_by seen old new t r is adds (s ∷ []) zip = subst (λ (x : Rec). AddsRecords seen old new [] (x ∷ [])) (shown_once t.op t.content r s is zip.0) adds
takes_by seen old new t r is adds (s ∷ u ∷ us) zip = absurd zip.1

-- ---- several records

-- one that stopped stands for whatever more
pub stopped_more : {L : Type 0} (seen : L → LiveState) (options : FileOptions) (extras : List Top) (opened : LiveState) (history ss : List Rec) (k : Keeping L) (stop : Stop) → phase_of k.scribe ≡ phases.Stopped stop
    → KeepingStandsFor seen options extras opened history k → KeepingStandsFor seen options extras opened (fold kept_with history ss) k
stopped_more seen options extras opened history ss k stop stopped keeps =
    let (more, is) = fold_grows history ss in
    subst (λ (l : List Rec). KeepingStandsFor seen options extras opened l k) is (record {
      writes = (stopped_on options opened.held (seen k.scribe.store).held history more k.scribe.plan stop stopped keeps.writes.0, keeps.writes.1, keeps.writes.2);
      counts = λ going. absurd (going_apart (phase_of k.scribe) stop stopped going);
    })

-- ---- what is in a history with a record more

inner_on : (history : List Rec) (r : Rec) → Each (λ x. is_inner x ≡ true) history → is_inner r ≡ true → Each (λ x. is_inner x ≡ true) (history ++ r ∷ [])
inner_on history r each is = each_joined (λ (x : Rec). is_inner x ≡ true) history (r ∷ []) each (each_cons (λ (x : Rec). is_inner x ≡ true) r [] is (λ n x at. absurd (at_none n x at)))

-- ---- the counts with a record more

more_of : (test : Rec → Bool) (history : List Rec) (r : Rec) → test r ≡ true → filter test (history ++ r ∷ []) ≡ filter test history ++ r ∷ []
more_of test history r is = filter-append test history (r ∷ []) ∙ ap (λ (b : Bool). filter test history ++ (if b then r ∷ [] else [])) is

same_of : (test : Rec → Bool) (history : List Rec) (r : Rec) → test r ≡ false → filter test (history ++ r ∷ []) ≡ filter test history
same_of test history r is = filter-append test history (r ∷ []) ∙ ap (λ (b : Bool). filter test history ++ (if b then r ∷ [] else [])) is ∙ append-nil (filter test history)

longer : (history : List Rec) (r : Rec) → length (history ++ r ∷ []) ≡ length history + 1
longer history r = length-append history (r ∷ [])

count_on : (n before after : ℕ) → before ≡ counted n → after ≡ counted (before + 1) → after ≡ counted (n + 1)
count_on n before after one two = omega (arith, one, two)

ids_on : (ids before after : List ℕ) (id : ℕ) → before ≡ ids → is_declared before id ≡ false → after ≡ declared_with before id → after ≡ ids ++ id ∷ []
ids_on ids before after id one fresh two = two ∙ ap (λ (b : Bool). if b then before else before ++ id ∷ []) fresh ∙ ap (λ (l : List ℕ). l ++ id ∷ []) one

pub schema_counts : {L : Type 0} (extras : List Top) (history : List Rec) (id : ℕ) (f : SchemaFields) (old new : Keeping L) → CountsSo extras history old → is_declared old.schemas.keys id ≡ false
    → new.schemas.keys ≡ declared_with old.schemas.keys id → new.channels.keys ≡ old.channels.keys → new.messages ≡ old.messages → new.extras ≡ old.extras → new.records ≡ counted (old.records + 1)
    → CountsSo extras (history ++ schema_of id f ∷ []) new
schema_counts extras history id f old new c fresh schemas channels messages others records =
    let r = schema_of id f in
    record {
      schema_ids = ids_on (map record_id (filter is_schema history)) old.schemas.keys new.schemas.keys id c.schema_ids fresh schemas
          ∙ sym (map-append record_id (filter is_schema history) (r ∷ [])) ∙ ap (map record_id) (sym (more_of is_schema history r refl));
      channel_ids = channels ∙ c.channel_ids ∙ ap (map record_id) (sym (same_of is_channel history r refl));
      messages = messages ∙ c.messages ∙ ap (λ (l : List Rec). counted (length l)) (sym (same_of is_message history r refl));
      records = count_on (length history) old.records new.records c.records records ∙ ap counted (sym (longer history r));
      extras_are = others ∙ c.extras_are;
      inner = inner_on history r c.inner refl;
    }

pub channel_counts : {L : Type 0} (extras : List Top) (history : List Rec) (id : ℕ) (f : ChannelFields) (old new : Keeping L) → CountsSo extras history old → is_declared old.channels.keys id ≡ false
    → new.channels.keys ≡ declared_with old.channels.keys id → new.schemas.keys ≡ old.schemas.keys → new.messages ≡ old.messages → new.extras ≡ old.extras → new.records ≡ counted (old.records + 1)
    → CountsSo extras (history ++ channel_of id f ∷ []) new
channel_counts extras history id f old new c fresh channels schemas messages others records =
    let r = channel_of id f in
    record {
      schema_ids = schemas ∙ c.schema_ids ∙ ap (map record_id) (sym (same_of is_schema history r refl));
      channel_ids = ids_on (map record_id (filter is_channel history)) old.channels.keys new.channels.keys id c.channel_ids fresh channels
          ∙ sym (map-append record_id (filter is_channel history) (r ∷ [])) ∙ ap (map record_id) (sym (more_of is_channel history r refl));
      messages = messages ∙ c.messages ∙ ap (λ (l : List Rec). counted (length l)) (sym (same_of is_message history r refl));
      records = count_on (length history) old.records new.records c.records records ∙ ap counted (sym (longer history r));
      extras_are = others ∙ c.extras_are;
      inner = inner_on history r c.inner refl;
    }

pub message_counts : {L : Type 0} (extras : List Top) (history : List Rec) (channel : ℕ) (m : MessageFields) (old new : Keeping L) → CountsSo extras history old
    → new.schemas.keys ≡ old.schemas.keys → new.channels.keys ≡ old.channels.keys → new.messages ≡ counted (old.messages + 1) → new.extras ≡ old.extras → new.records ≡ counted (old.records + 1)
    → CountsSo extras (history ++ message_of channel m ∷ []) new
message_counts extras history channel m old new c schemas channels messages others records =
    let r = message_of channel m in
    let more = ap (λ (l : List Rec). length l) (more_of is_message history r refl) ∙ longer (filter is_message history) r in
    record {
      schema_ids = schemas ∙ c.schema_ids ∙ ap (map record_id) (sym (same_of is_schema history r refl));
      channel_ids = channels ∙ c.channel_ids ∙ ap (map record_id) (sym (same_of is_channel history r refl));
      messages = count_on (length (filter is_message history)) old.messages new.messages c.messages messages ∙ ap counted (sym more);
      records = count_on (length history) old.records new.records c.records records ∙ ap counted (sym (longer history r));
      extras_are = others ∙ c.extras_are;
      inner = inner_on history r c.inner refl;
    }

-- an extra more
pub extra_adds : {L : Type 0} (seen : L → LiveState) (old new : Keeping L) (t : Top) → phase_of old.scribe ≡ phases.Going → GathersExtra seen old.scribe new.scribe t
    → (phase_of new.scribe ≡ phases.Going → (new.schemas.keys ≡ old.schemas.keys) × (new.channels.keys ≡ old.channels.keys) × (new.messages ≡ old.messages) × (new.records ≡ old.records) × (new.extras ≡ counted (old.extras + 1)))
    → AddsRecords seen old new (t ∷ []) []
extra_adds seen old new t going gathers same options extras opened history keeps = record {
  writes = gathers options extras opened history keeps.writes;
  counts = λ after.
      let c = keeps.counts going in
      let (schemas, channels, messages, records, more) = same after in
      record {
        schema_ids = schemas ∙ c.schema_ids;
        channel_ids = channels ∙ c.channel_ids;
        messages = messages ∙ c.messages;
        records = records ∙ c.records;
        extras_are = count_on (length extras) old.extras new.extras c.extras_are more ∙ ap counted (sym (length-append extras (t ∷ [])));
        inner = c.inner;
      };
}
