-- A Message that is picked with what it needs, or left out.
use Rattle.std.proofs.Common.{◌≡◌, ◌⊎◌, ℕ, Bool, true, false, ◌&&◌, List, [], ◌∷◌, ◌++◌, Option, Some, refl, sym, ap, subst, inl, inr, ◌∙◌, append-nil, ne_eqb, eq-eqb, arith}
use Rattle.std.specs.Prelude.{fold, find, if◌then◌else◌, nat_eq, IsTrue, OnOk, Result, Ok, Err, ◌↔◌}
use Rattle.std.specs.List.{AllZip, flat_map}
use Rattle.std.specs.Cmp.Lexicographic.{pointwise, bytes_decides}
use Rattle.std.specs.Option.{option_to_list}
use Rattle.mcap_wire.specs.declared.faults.Memory.{Memory}
use Rattle.rec_data.specs.declared.owned.Rec.{Rec}
use Rattle.rec_data.specs.declared.owned.Rec.TheVariants.{Schema, Channel, Message, Extra}
use Rattle.rec_data.specs.Records.{ShowsMessage, ShowsSchema, ShowsChannel}
use Rattle.rec_data.specs.Owned.{def_fields}
use Rattle.rec_data.proofs.OwnedReading.{shown_once, extra_not}
use Rattle.mcap_io.specs.Outside.{LiveState}
use Rattle.mcap_model.specs.declared.options.FileOptions.{FileOptions}
use Rattle.mcap_model.specs.declared.ends.Stop.{Stop}
use Rattle.mcap_model.specs.declared.table.Declared.{Declared}
use Rattle.mcap_model.specs.Places.{At}
use Rattle.mcap_model.specs.Tops.{Top}
use Rattle.mcap_model.specs.Fields.{SchemaFields, ChannelFields, MessageFields}
use Rattle.mcap_model.specs.Made.{top}
use Rattle.mcap_model.specs.History.{kept_with, channel_of, message_of}
use Rattle.mcap_model.specs.Written.{IsRec}
use Rattle.mcap_model.specs.Scan.{is_within}
use Rattle.mcap_model.proofs.Repairs.{kept_new, fold_more, zip_join, zip_parts}
use Rattle.chunk_writer.specs.declared.phase.Phase.TheVariants as phases
use Rattle.chunk_writer.specs.Scribes.{phase_of}
use Rattle.record_keeping.specs.declared.keeping.Keeping.{Keeping}
use Rattle.record_keeping.specs.Keeping.{KeepingStandsFor, CountsSo, AddsRecords, AddsFlatRecords, extras_of, is_declared}
use Rattle.record_keeping.proofs.Keepings.{adds_none, message_known, channel_known, stopped_more}
use Rattle.mcap_filter.specs.declared.choices.Choices.{Choices}
use Rattle.mcap_model.specs.Needed.{is_schema_of, is_channel_of, schema_with, schema_for, needs_on}
use Rattle.mcap_filter.specs.Picked.{Asking, is_topic, is_on, is_picked, filtered}
use Rattle.mcap_filter.specs.Picking.{TableFinds, ChoicesFind, Notes, PickingStands, picking, PicksOne, IsDeclared, PutsNeeds, PutsShown, PutsChannel}
use Rattle.mcap_filter.proofs.Growing.{uses_of, with_its_needs, filtered_message}
use Rattle.mcap_filter.proofs.Standing.{stand_left, stands_filtered}
use Rattle.mcap_filter.proofs.Choosing.{one_shown, no_extra, table_other, choices_other}
use denote.Ref.{Bor}

-- ---- several records that are put

pub takes_none : {L : Type 0} (seen : L → LiveState) (k : Keeping L) → AddsFlatRecords seen k k []
takes_none seen k [] zip = adds_none seen k
takes_none seen k (s ∷ ss) zip = absurd zip

pub takes_on : {L : Type 0} (seen : L → LiveState) (old mid new : Keeping L) (us vs : List Top) → AddsFlatRecords seen old mid us → AddsFlatRecords seen mid new vs → AddsFlatRecords seen old new (us ++ vs)
takes_on seen old mid new us vs first second records zip =
    let (rs, ss, is, one, two) = zip_parts IsRec us vs records zip in
    subst (λ (l : List Rec). AddsRecords seen old new [] l) (sym is) (λ options extras opened history keeps.
    subst (λ (l : List Rec). KeepingStandsFor seen options (extras ++ []) opened l new) (sym (fold_more history rs ss))
    (subst (λ (l : List Top). KeepingStandsFor seen options l opened (fold kept_with (fold kept_with history rs) ss) new) (append-nil (extras ++ []))
    (second ss two options (extras ++ []) opened (fold kept_with history rs) (first rs one options extras opened history keeps))))

pub takes_stopped : {L : Type 0} (seen : L → LiveState) (old new : Keeping L) (us vs : List Top) (stop : Stop) → phase_of new.scribe ≡ phases.Stopped stop → AddsFlatRecords seen old new us → AddsFlatRecords seen old new (us ++ vs)
takes_stopped seen old new us vs stop stopped first records zip =
    let (rs, ss, is, one, two) = zip_parts IsRec us vs records zip in
    subst (λ (l : List Rec). AddsRecords seen old new [] l) (sym is) (λ options extras opened history keeps.
    subst (λ (l : List Rec). KeepingStandsFor seen options (extras ++ []) opened l new) (sym (fold_more history rs ss))
    (stopped_more seen options (extras ++ []) opened (fold kept_with history rs) ss new stop stopped (first rs one options extras opened history keeps)))

-- ---- one Message more

-- what is written of it was put
message_by : {L : Type 0} (seen : L → LiveState) (a : Asking) (k after : Keeping L) (c : Choices) (frame : Option (Bor (List ℕ))) (content : List ℕ) (channel : ℕ) (m : MessageFields) → phase_of k.scribe ≡ phases.Going → ShowsMessage content channel m
    → ((options : FileOptions) (extras : List Top) (opened : LiveState) (history : List Rec) → TableFinds c.schemas history → ChoicesFind a.topic c history
    → KeepingStandsFor seen options extras opened (filtered a history) k → KeepingStandsFor seen options (extras ++ []) opened (fold kept_with (filtered a history) (uses_of a history (message_of channel m))) after)
    → PicksOne seen a (picking k c) (picking after c) frame (top 5 content)
message_by seen a k after c frame content channel m going shown puts records zip options extras opened history whole stands =
    let r = message_of channel m in
    let t = top 5 content in
    let one = one_shown t r (refl, shown) records zip in
    let more : kept_with history r ≡ history ++ r ∷ [] = kept_new history r (message_known channel m history) in
    let is = filtered_message a history channel m.sequence m.log_time m.publish_time m.payload whole in
    subst (λ (l : List Rec). PickingStands seen a options (extras ++ extras_of frame t) opened (fold kept_with history l) after c) (sym one)
    (subst (λ (l : List Rec). PickingStands seen a options (extras ++ extras_of frame t) opened l after c) (sym more)
    (subst (λ (l : List Top). PickingStands seen a options (extras ++ l) opened (history ++ r ∷ []) after c) (sym (no_extra frame t refl)) (record {
      keeps = subst (λ (l : List Rec). KeepingStandsFor seen options (extras ++ []) opened l after) (sym is) (puts options extras opened history (stands.schemas going) (stands.channels going) stands.keeps);
      schemas = λ it. table_other c.schemas history r (stands.schemas going) (λ id. refl);
      channels = λ it. choices_other a.topic c history r (stands.channels going) (λ id. refl);
    })))

-- it isn't picked
pub message_left : {L : Type 0} (seen : L → LiveState) (a : Asking) (k : Keeping L) (c : Choices) (frame : Option (Bor (List ℕ))) (content : List ℕ) (channel : ℕ) (m : MessageFields) → phase_of k.scribe ≡ phases.Going → ShowsMessage content channel m
    → ((history : List Rec) → ChoicesFind a.topic c history → is_picked a history (message_of channel m) ≡ false) → PicksOne seen a (picking k c) (picking k c) frame (top 5 content)
message_left seen a k c frame content channel m going shown none =
    message_by seen a k k c frame content channel m going shown (λ options extras opened history schemas channels keeps.
    subst (λ (b : Bool). KeepingStandsFor seen options (extras ++ []) opened (fold kept_with (filtered a history) (if b then with_its_needs history (message_of channel m) else [])) k) (sym (none history channels))
    (subst (λ (l : List Top). KeepingStandsFor seen options l opened (filtered a history) k) (sym (append-nil extras)) keeps))

and_false : (a b : Bool) → b ≡ false → (a && b) ≡ false
and_false true b is = is
and_false false b is = refl

-- its time lies outside
pub untimely : (a : Asking) (history : List Rec) (channel : ℕ) (m : MessageFields) → is_within a.range m.log_time ≡ false → is_picked a history (message_of channel m) ≡ false
untimely a history channel m is = ap (λ (b : Bool). b && is_on a.topic (find (is_channel_of channel) history)) is

-- its channel isn't wanted
pub unwanted : (a : Asking) (c : Choices) (history : List Rec) (channel : ℕ) (m : MessageFields) → ChoicesFind a.topic c history → ((k : ℕ) (d : Declared) → At c.wanted k d → d.id ≡ channel → ⊥) → is_picked a history (message_of channel m) ≡ false
unwanted a c history channel m finds lacks = and_false (is_within a.range m.log_time) (is_on a.topic (find (is_channel_of channel) history)) (by (is_declared c.passed.keys channel) refl)
  where
    by : (b : Bool) → is_declared c.passed.keys channel ≡ b → is_on a.topic (find (is_channel_of channel) history) ≡ false
    by true there = let (r, found, off) = finds.passed_over channel there in ap (is_on a.topic) found ∙ off
    by false apart = ap (is_on a.topic) (finds.none channel lacks apart)

-- ---- it is picked

-- the first Channel of the history of that id, which is on a topic that is asked for
record IsWanted (a : Asking) (history : List Rec) (channel : ℕ) (content : List ℕ) : Type 0 where
  pub id : ℕ
  pub fields : ChannelFields
  pub found : find (is_channel_of channel) history ≡ Some (channel_of id fields)
  pub shown : ShowsChannel content id fields
  pub on : is_topic a.topic fields.topic ≡ true

wanted_is : (a : Asking) (c : Choices) (history : List Rec) (channel : ℕ) (content : List ℕ) → ChoicesFind a.topic c history → (k : ℕ) × (d : Declared) × At c.wanted k d × (d.id ≡ channel) × (d.content ≡ content) → IsWanted a history channel content
wanted_is a c history channel content finds (k, d, at, ids, same) =
    let (r, found, there, on) = finds.are k d at in
    by r (subst (λ (n : ℕ). find (is_channel_of n) history ≡ Some r) ids found) (subst (λ (l : List ℕ). IsRec (top 4 l) r) same there) on
  where
    by : (x : Rec) → find (is_channel_of channel) history ≡ Some x → IsRec (top 4 content) x → is_on a.topic (Some x) ≡ true → IsWanted a history channel content
    by (Schema id schema) found is on = absurd (omega (arith, is.0))
    by (Channel id schema topic encoding metadata) found is on = record {
      id = id;
      fields = record { schema = schema; topic = topic; encoding = encoding; metadata = metadata };
      found = found;
      shown = is.1;
      on = on;
    }
    by (Message other sequence log_time publish_time payload) found is on = absurd (omega (arith, is.0))
    by (Extra op bytes) found is on = absurd (extra_not op bytes 4 is.2 (omega arith) (sym is.0))

schema_declared : (table : List Declared) (history : List Rec) (id : ℕ) (declared : List Top) → TableFinds table history → IsDeclared table id declared → (rs : List Rec) × (schema_with history id ≡ rs) × AllZip IsRec declared rs
schema_declared table history id declared finds (inl (zero_id, none)) =
    ([], ap (λ (b : Bool). if b then [] else option_to_list (find (is_schema_of id) history)) (eq-eqb id 0 zero_id), subst (λ (l : List Top). AllZip IsRec l []) (sym none) tt)
schema_declared table history id declared finds (inr (some, inl (lacks, none))) = (
  [],
  ap (λ (b : Bool). if b then [] else option_to_list (find (is_schema_of id) history)) (ne_eqb id 0 some) ∙ ap option_to_list (finds.none id lacks),
  subst (λ (l : List Top). AllZip IsRec l []) (sym none) tt,
)
schema_declared table history id declared finds (inr (some, inr (k, d, at, ids, is))) =
    let (r, found, there) = finds.are k d at in (
      r ∷ [],
      ap (λ (b : Bool). if b then [] else option_to_list (find (is_schema_of id) history)) (ne_eqb id 0 some)
          ∙ ap (λ (n : ℕ). option_to_list (find (is_schema_of n) history)) (sym ids) ∙ ap option_to_list found,
      subst (λ (l : List Top). AllZip IsRec l (r ∷ [])) (sym is) (there, tt),
    )

-- what is written of it: what it needs, and itself
picked_uses : (a : Asking) (history : List Rec) (channel : ℕ) (content : List ℕ) (m : MessageFields) → IsWanted a history channel content → is_within a.range m.log_time ≡ true → uses_of a history (message_of channel m) ≡ needs_on history channel ++ message_of channel m ∷ []
picked_uses a history channel content m it timely =
    let r = message_of channel m in
    let test : is_picked a history r ≡ true =
    ap (λ (o : Option Rec). is_within a.range m.log_time && is_on a.topic o) it.found
    ∙ ap (λ (b : Bool). b && is_topic a.topic it.fields.topic) timely ∙ it.on in
    ap (λ (b : Bool). if b then with_its_needs history r else []) test

needed_is : (a : Asking) (history : List Rec) (channel : ℕ) (content : List ℕ) (it : IsWanted a history channel content) → needs_on history channel ≡ schema_with history it.fields.schema ++ channel_of it.id it.fields ∷ []
needed_is a history channel content it =
    ap (λ (o : Option Rec). flat_map (schema_for history) (option_to_list o) ++ option_to_list o) it.found
    ∙ ap (λ (l : List Rec). l ++ channel_of it.id it.fields ∷ []) (append-nil (schema_with history it.fields.schema))

-- its Channel and that one's Schema were put, and then it
pub message_picked : {L : Type 0} (seen : L → LiveState) (a : Asking) (k after : Keeping L) (c : Choices) (frame : Option (Bor (List ℕ))) (content : List ℕ) (channel : ℕ) (m : MessageFields) (chan : List ℕ) (id : ℕ) (f : ChannelFields) (declared : List Top)
    → phase_of k.scribe ≡ phases.Going → ShowsMessage content channel m → (n : ℕ) × (d : Declared) × At c.wanted n d × (d.id ≡ channel) × (d.content ≡ chan) → ShowsChannel chan id f
    → is_within a.range m.log_time ≡ true → IsDeclared c.schemas f.schema declared → AddsFlatRecords seen k after ((declared ++ top 4 chan ∷ []) ++ top 5 content ∷ [])
    → PicksOne seen a (picking k c) (picking after c) frame (top 5 content)
message_picked seen a k after c frame content channel m chan id f declared going shown known channel_shown timely needs adds =
    message_by seen a k after c frame content channel m going shown (λ options extras opened history schemas channels keeps.
    let r = message_of channel m in
    let it = wanted_is a c history channel chan channels known in
    let ch = channel_of it.id it.fields in
    let same : channel_of id f ≡ ch = shown_once 4 chan (channel_of id f) ch (refl, channel_shown) (refl, it.shown) in
    let fields : f.schema ≡ it.fields.schema = cc in
    let (ss, schema_is, zip) = schema_declared c.schemas history it.fields.schema declared schemas (subst (λ (n : ℕ). IsDeclared c.schemas n declared) fields needs) in
    let uses : uses_of a history r ≡ (ss ++ ch ∷ []) ++ r ∷ [] =
    picked_uses a history channel chan m it timely
    ∙ ap (λ (l : List Rec). l ++ r ∷ []) (needed_is a history channel chan it ∙ ap (λ (l : List Rec). l ++ ch ∷ []) schema_is) in
    let all : AllZip IsRec ((declared ++ top 4 chan ∷ []) ++ top 5 content ∷ []) ((ss ++ ch ∷ []) ++ r ∷ []) =
    zip_join IsRec (declared ++ top 4 chan ∷ []) (top 5 content ∷ []) (ss ++ ch ∷ []) (r ∷ [])
    (zip_join IsRec declared (top 4 chan ∷ []) ss (ch ∷ []) zip ((refl, it.shown), tt)) ((refl, shown), tt) in
    subst (λ (l : List Rec). KeepingStandsFor seen options (extras ++ []) opened (fold kept_with (filtered a history) l) after) (sym uses)
    (adds ((ss ++ ch ∷ []) ++ r ∷ []) all options extras opened (filtered a history) keeps))

-- its Channel was put before, and that one's Schema, so it was put alone
pub message_alone : {L : Type 0} (seen : L → LiveState) (a : Asking) (k after : Keeping L) (c : Choices) (frame : Option (Bor (List ℕ))) (content : List ℕ) (channel : ℕ) (m : MessageFields) (chan : List ℕ)
    → phase_of k.scribe ≡ phases.Going → ShowsMessage content channel m → (n : ℕ) × (d : Declared) × At c.wanted n d × (d.id ≡ channel) × (d.content ≡ chan)
    → is_within a.range m.log_time ≡ true → is_declared k.channels.keys channel ≡ true → AddsFlatRecords seen k after (top 5 content ∷ [])
    → PicksOne seen a (picking k c) (picking after c) frame (top 5 content)
message_alone seen a k after c frame content channel m chan going shown known timely there adds =
    message_by seen a k after c frame content channel m going shown (λ options extras opened history schemas channels keeps.
    let r = message_of channel m in
    let it = wanted_is a c history channel chan channels known in
    let counts : CountsSo extras (filtered a history) k = keeps.counts going in
    let stands = stands_filtered a history channel it.fields (channel_known channel it.fields (filtered a history) ∙ ap (λ (ids : List ℕ). is_declared ids channel) (sym counts.channel_ids) ∙ there) in
    let all : fold kept_with (filtered a history) (uses_of a history r) ≡ fold kept_with (filtered a history) (r ∷ []) =
    ap (fold kept_with (filtered a history)) (picked_uses a history channel chan m it timely)
    ∙ fold_more (filtered a history) (needs_on history channel) (r ∷ [])
    ∙ ap (λ (l : List Rec). fold kept_with l (r ∷ [])) (stand_left (needs_on history channel) (filtered a history) stands) in
    subst (λ (l : List Rec). KeepingStandsFor seen options (extras ++ []) opened l after) (sym all)
    (adds (r ∷ []) ((refl, shown), tt) options extras opened (filtered a history) keeps))

-- a content that is wanted shows a Channel
wanted_shows : {L : Type 0} (seen : L → LiveState) (a : Asking) (before after : Keeping L) (c : Choices) (frame : Option (Bor (List ℕ))) (content : List ℕ) (channel : ℕ) (m : MessageFields) (chan : List ℕ)
    → phase_of before.scribe ≡ phases.Going → ShowsMessage content channel m → (n : ℕ) × (d : Declared) × At c.wanted n d × (d.id ≡ channel) × (d.content ≡ chan) → ((id : ℕ) (f : ChannelFields) → ShowsChannel chan id f → ⊥)
    → PicksOne seen a (picking before c) (picking after c) frame (top 5 content)
wanted_shows seen a before after c frame content channel m chan going shown known none =
    message_by seen a before after c frame content channel m going shown (λ options extras opened history schemas channels keeps.
    let it = wanted_is a c history channel chan channels known in absurd (none it.id it.fields it.shown))

-- its Channel was put, or stood there, or it isn't one; and then it was put
pub message_put : {L : Type 0} (seen : L → LiveState) (a : Asking) (k mid after : Keeping L) (c : Choices) (frame : Option (Bor (List ℕ))) (content : List ℕ) (channel : ℕ) (m : MessageFields) (chan : List ℕ)
    → phase_of k.scribe ≡ phases.Going → ShowsMessage content channel m → (n : ℕ) × (d : Declared) × At c.wanted n d × (d.id ≡ channel) × (d.content ≡ chan) → is_within a.range m.log_time ≡ true
    → PutsChannel seen k mid c.schemas channel chan → AddsFlatRecords seen mid after (top 5 content ∷ []) → PicksOne seen a (picking k c) (picking after c) frame (top 5 content)
message_put seen a k mid after c frame content channel m chan going shown known timely (inl (there, same)) adds =
    message_alone seen a k after c frame content channel m chan going shown known timely there (subst (λ k0. AddsFlatRecords seen k0 after (top 5 content ∷ [])) same adds)
message_put seen a k mid after c frame content channel m chan going shown known timely (inr (inl put)) adds =
    let (declared, needs, puts) = put.puts in
    message_picked seen a k after c frame content channel m chan put.id put.fields declared going shown known put.shown timely needs
    (takes_on seen k mid after (declared ++ top 4 chan ∷ []) (top 5 content ∷ []) puts adds)
message_put seen a k mid after c frame content channel m chan going shown known timely (inr (inr none)) adds = wanted_shows seen a k after c frame content channel m chan going shown known none

-- the writer stopped at what it needs
pub message_stopped : {L : Type 0} (seen : L → LiveState) (a : Asking) (k after : Keeping L) (c : Choices) (frame : Option (Bor (List ℕ))) (content : List ℕ) (channel : ℕ) (m : MessageFields) (chan : List ℕ) (stop : Stop)
    → phase_of k.scribe ≡ phases.Going → ShowsMessage content channel m → (n : ℕ) × (d : Declared) × At c.wanted n d × (d.id ≡ channel) × (d.content ≡ chan) → is_within a.range m.log_time ≡ true
    → PutsChannel seen k after c.schemas channel chan → phase_of after.scribe ≡ phases.Stopped stop → PicksOne seen a (picking k c) (picking after c) frame (top 5 content)
message_stopped seen a k after c frame content channel m chan stop going shown known timely (inl (there, same)) stopped =
    absurd (let apart : phases.Going ≡ phases.Stopped stop = sym going ∙ ap (λ k0. phase_of k0.scribe) (sym same) ∙ stopped in cc)
message_stopped seen a k after c frame content channel m chan stop going shown known timely (inr (inl put)) stopped =
    let (declared, needs, puts) = put.puts in
    message_picked seen a k after c frame content channel m chan put.id put.fields declared going shown known put.shown timely needs
    (takes_stopped seen k after (declared ++ top 4 chan ∷ []) (top 5 content ∷ []) stop stopped puts)
message_stopped seen a k after c frame content channel m chan stop going shown known timely (inr (inr none)) stopped = wanted_shows seen a k after c frame content channel m chan going shown known none

-- ---- tests and tables

pub same_test : (b : Bool) (asked found : List ℕ) → IsTrue b ↔ (asked ≡ found) → b ≡ pointwise nat_eq found asked
same_test b asked found is = by b (pointwise nat_eq found asked) refl refl
  where
    by : (c d : Bool) → b ≡ c → pointwise nat_eq found asked ≡ d → b ≡ pointwise nat_eq found asked
    by true d one other = one ∙ sym ((bytes_decides found asked).1 (sym (is.0 one)))
    by false false one other = one ∙ sym other
    by false true one other = is.1 (sym ((bytes_decides found asked).0 other)) ∙ sym other

pub noted_new : (result : Result Unit Memory) (old new : List Declared) (id : ℕ) (content : List ℕ) → ((k : ℕ) (d : Declared) → At old k d → d.id ≡ id → ⊥)
    → OnOk result (new ≡ old ++ (record { id = id; content = content }) ∷ []) → OnOk result (Notes old new id content)
noted_new (Ok it) old new id content lacks is = inr (lacks, is)
noted_new (Err memory) old new id content lacks is = tt

pub declared_schema : (table : List Declared) (id : ℕ) (content : List ℕ) → ((id ≡ 0) → ⊥) → (k : ℕ) × (d : Declared) × At table k d × (d.id ≡ id) × (d.content ≡ content) → IsDeclared table id (top 3 content ∷ [])
declared_schema table id content some (k, d, at, ids, same) = inr (some, inr (k, d, at, ids, ap (λ (c : List ℕ). top 3 c ∷ []) (sym same)))

-- a content that shows no Schema is put as well as not
pub no_schema_put : {L : Type 0} (seen : L → LiveState) (k : Keeping L) (content : List ℕ) → ((id : ℕ) (f : SchemaFields) → ShowsSchema content id f → ⊥) → AddsFlatRecords seen k k (top 3 content ∷ [])
no_schema_put seen k content none [] zip = absurd zip
no_schema_put seen k content none (r ∷ rs) zip = absurd (by r zip.0)
  where
    by : (x : Rec) → IsRec (top 3 content) x → ⊥
    by (Schema id schema) is = none id (def_fields schema) is.1
    by (Channel id schema topic encoding metadata) is = omega (arith, is.0)
    by (Message channel sequence log_time publish_time payload) is = omega (arith, is.0)
    by (Extra op bytes) is = extra_not op bytes 3 is.2 (omega arith) (sym is.0)
