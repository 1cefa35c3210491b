-- The counts of one record more.
use Rattle.std.proofs.Common.{◌≡◌, ◌⊎◌, ℕ, suc, ◌+◌, ◌^◌, ◌<◌, ◌≤◌, Bool, true, false, eqb, List, [], ◌∷◌, ◌++◌, length, filter, cond, refl, sym, ap, subst, inl, inr, ◌∙◌, arith}
use Rattle.std.specs.Prelude.{◌≢◌, slice_index}
use Rattle.std.specs.List.{AllZip}
use Rattle.std.proofs.lemmas.Bool.{ne_eqb, eq-eqb, eqb-true, eqb-false}
use Rattle.std.proofs.lemmas.List.{append-nil, length-append}
use Rattle.std.proofs.lemmas.List.Elements.{filter-append}
use Rattle.mcap_model.specs.Places.{At, Has}
use Rattle.mcap_model.specs.Tops.{Top}
use Rattle.mcap_model.specs.Fields.{SchemaFields, IsSchema, ChannelFields, IsChannel, MessageFields, IsMessage}
use Rattle.mcap_model.specs.Rules.{HasSchema, HasChannel}
use Rattle.mcap_model.specs.Scan.{is_message_top}
use Rattle.mcap_model.specs.Whole.{count_of, on_channel, AreIds}
use Rattle.mcap_model.proofs.Places.{at_kept, at_last, at_more, has_kept, has_last, pairs_more}
use Rattle.mcap_model.proofs.Logging.{few_filtered}
use Rattle.mcap_model.proofs.Maps.{schema_once, shows_once}
use Rattle.mcap_model.proofs.Spans.{times_other, times_with}
use Rattle.mcap_model.proofs.OneMore.{zip_push, channel_kept, channel_either}
use Rattle.index_check.specs.Ids.{AddsOnce}
use Rattle.file_check.specs.declared.record_counts.RecordCounts.{RecordCounts}
use Rattle.file_check.specs.MessageCounts.{IsOneMore}
use Rattle.file_check.specs.RecordCounts.{CountsOf, CountsMessage}

-- ---- lists

pub filter_yes : {X : Type 0} (test : X → Bool) (xs : List X) (x : X) → test x ≡ true → filter test (xs ++ x ∷ []) ≡ filter test xs ++ x ∷ []
filter_yes {X} test xs x is = filter-append test xs (x ∷ []) ∙ ap (λ (b : Bool). filter test xs ++ cond b (x ∷ []) []) is

pub filter_no : {X : Type 0} (test : X → Bool) (xs : List X) (x : X) → test x ≡ false → filter test (xs ++ x ∷ []) ≡ filter test xs
filter_no {X} test xs x is = filter-append test xs (x ∷ []) ∙ ap (λ (b : Bool). filter test xs ++ cond b (x ∷ []) []) is ∙ append-nil (filter test xs)

pub count_same : (op : ℕ) (xs : List Top) (t : Top) → t.op ≡ op → count_of op (xs ++ t ∷ []) ≡ count_of op xs + 1
count_same op xs t is = ap length (filter_yes (λ (u : Top). eqb u.op op) xs t (eq-eqb t.op op is)) ∙ length-append (filter (λ (u : Top). eqb u.op op) xs) (t ∷ [])

pub count_other : (op : ℕ) (xs : List Top) (t : Top) → (t.op ≡ op → ⊥) → count_of op (xs ++ t ∷ []) ≡ count_of op xs
count_other op xs t other = ap length (filter_no (λ (u : Top). eqb u.op op) xs t (ne_eqb t.op op other))

zip_long : {X Y : Type 0} (R : X → Y → Type 0) (xs : List X) (ys : List Y) → AllZip R xs ys → length xs ≡ length ys
zip_long R [] [] zip = refl
zip_long R [] (z ∷ ys) zip = absurd zip
zip_long R (w ∷ xs) [] zip = absurd zip
zip_long R (w ∷ xs) (z ∷ ys) zip = ap suc (zip_long R xs ys zip.1)

-- ---- ids

pub ids_stay : (P Q : ℕ → Type 0) (ids : List ℕ) → AreIds P ids → ((id : ℕ) → P id → Q id) → ((id : ℕ) → Q id → P id) → AreIds Q ids
ids_stay P Q ids are to back = record {
  apart = are.apart;
  have = λ n id at. to id (are.have n id at);
  all = λ id has. are.all id (back id has);
}

ids_more : (P Q : ℕ → Type 0) (ids new : List ℕ) (id : ℕ) → AreIds P ids → AddsOnce ids id new → Q id → ((j : ℕ) → P j → Q j) → ((j : ℕ) → Q j → P j ⊎ (j ≡ id)) → AreIds Q new
ids_more P Q ids new id are (inl (has, same)) own to back = subst (AreIds Q) (sym same) (record {
  apart = are.apart;
  have = λ n j at. to j (are.have n j at);
  all = λ j q. elim (back j q) [ inl old ↦ are.all j old | inr is ↦ subst (Has ids) (sym is) has ];
})
ids_more P Q ids new id are (inr (fresh, same)) own to back = subst (AreIds Q) (sym same) (record {
  apart = pairs_more (λ (a b : ℕ). a ≢ b) ids id are.apart (λ k j at e. fresh (k, subst (At ids k) e at));
  have = λ n j at. elim (at_more ids id n j at) [ inl old ↦ to j (are.have n j old) | inr (_, is) ↦ subst Q (sym is) own ];
  all = λ j q. elim (back j q) [ inl old ↦ has_kept ids (id ∷ []) j (are.all j old) | inr is ↦ subst (Has (ids ++ id ∷ [])) (sym is) (has_last ids id []) ];
})

schema_kept : (records : List Top) (t : Top) (id : ℕ) → HasSchema records id → HasSchema (records ++ t ∷ []) id
schema_kept records t id has = record { place = has.place; top = has.top; shown = has.shown; at = at_kept records (t ∷ []) has.place has.top has.at; is = has.is }

schema_either : (records : List Top) (t : Top) (j : ℕ) → HasSchema (records ++ t ∷ []) j → HasSchema records j ⊎ ((f : SchemaFields) × IsSchema t j f)
schema_either records t j has = elim (at_more records t has.place has.top has.at) [
  | inl old ↦ inl (record { place = has.place; top = has.top; shown = has.shown; at = old; is = has.is })
  | inr (_, same) ↦ inr (has.shown, subst (λ (u : Top). IsSchema u j has.shown) same has.is)
]

schemas_stay : (records : List Top) (t : Top) (ids : List ℕ) → (t.op ≡ 3 → ⊥) → AreIds (HasSchema records) ids → AreIds (HasSchema (records ++ t ∷ [])) ids
schemas_stay records t ids other are = ids_stay (HasSchema records) (HasSchema (records ++ t ∷ [])) ids are (schema_kept records t)
    (λ j has. elim (schema_either records t j has) [ inl old ↦ old | inr (f, is) ↦ absurd (other is.kind) ])

channels_stay : (records : List Top) (t : Top) (ids : List ℕ) → (t.op ≡ 4 → ⊥) → AreIds (HasChannel records) ids → AreIds (HasChannel (records ++ t ∷ [])) ids
channels_stay records t ids other are = ids_stay (HasChannel records) (HasChannel (records ++ t ∷ [])) ids are (channel_kept records t)
    (λ j has. elim (channel_either records t j has) [ inl old ↦ old | inr (f, is) ↦ absurd (other is.kind) ])

-- ---- a record that is no Message

abbrev pub with_ids : RecordCounts → List ℕ → List ℕ → RecordCounts
with_ids c schemas channels = record { messages = c.messages; any = c.any; least = c.least; greatest = c.greatest; by_channel = c.by_channel; schemas = schemas; channels = channels }

silent : (records : List Top) (t : Top) (c : RecordCounts) (schemas channels : List ℕ) → CountsOf records c → (t.op ≡ 5 → ⊥) → AreIds (HasSchema (records ++ t ∷ [])) schemas → AreIds (HasChannel (records ++ t ∷ [])) channels
    → CountsOf (records ++ t ∷ []) (with_ids c schemas channels)
silent records t c schemas channels was other are_schemas are_channels = record {
  messages = was.messages ∙ sym (count_other 5 records t other);
  times = times_other records t (record { any = c.any; least = c.least; greatest = c.greatest }) was.times other;
  channels_of = was.channels_of;
  are_channels = subst (λ (l : List Top). AllZip (λ u channel. (m : MessageFields) × IsMessage u channel m) l was.channels_of) (sym (filter_no is_message_top records t (ne_eqb t.op 5 other))) was.are_channels;
  by_channel = was.by_channel;
  schemas = are_schemas;
  channels = are_channels;
}

pub counted_schema : (records : List Top) (t : Top) (c : RecordCounts) (id : ℕ) (f : SchemaFields) (schemas : List ℕ) → CountsOf records c → IsSchema t id f → AddsOnce c.schemas id schemas → CountsOf (records ++ t ∷ []) (with_ids c schemas c.channels)
counted_schema records t c id f schemas was is adds =
    let three = is.kind in
    silent records t c schemas c.channels was (λ e. omega (arith, e, three))
    (ids_more (HasSchema records) (HasSchema (records ++ t ∷ [])) c.schemas schemas id was.schemas adds
    (record { place = length records; top = t; shown = f; at = at_last records t []; is = is })
    (schema_kept records t)
    (λ j has. elim (schema_either records t j has) [ inl old ↦ inl old | inr (g, other) ↦ inr (schema_once t j id g f other is).0 ]))
    (channels_stay records t c.channels (λ e. omega (arith, e, three)) was.channels)

pub counted_channel : (records : List Top) (t : Top) (c : RecordCounts) (id : ℕ) (f : ChannelFields) (channels : List ℕ) → CountsOf records c → IsChannel t id f → AddsOnce c.channels id channels → CountsOf (records ++ t ∷ []) (with_ids c c.schemas channels)
counted_channel records t c id f channels was is adds =
    let four = is.kind in
    silent records t c c.schemas channels was (λ e. omega (arith, e, four))
    (schemas_stay records t c.schemas (λ e. omega (arith, e, four)) was.schemas)
    (ids_more (HasChannel records) (HasChannel (records ++ t ∷ [])) c.channels channels id was.channels adds
    (record { place = length records; top = t; shown = f; at = at_last records t []; is = is })
    (channel_kept records t)
    (λ j has. elim (channel_either records t j has) [ inl old ↦ inl old | inr (g, other) ↦ inr (shows_once t j id g f other is).0 ]))

-- ---- a Message

on_same : (channels : List ℕ) (channel : ℕ) → on_channel (channels ++ channel ∷ []) channel ≡ on_channel channels channel + 1
on_same channels channel = ap length (filter_yes (λ (c : ℕ). eqb c channel) channels channel (eq-eqb channel channel refl)) ∙ length-append (filter (λ (c : ℕ). eqb c channel) channels) (channel ∷ [])

on_other : (channels : List ℕ) (channel id : ℕ) → (channel ≡ id → ⊥) → on_channel (channels ++ channel ∷ []) id ≡ on_channel channels id
on_other channels channel id other = ap length (filter_no (λ (c : ℕ). eqb c id) channels channel (ne_eqb channel id other))

abbrev pub with_counts : RecordCounts → List ℕ → RecordCounts
with_counts c by_channel = record { messages = c.messages; any = c.any; least = c.least; greatest = c.greatest; by_channel = by_channel; schemas = c.schemas; channels = c.channels }

pub counted_message : (records : List Top) (t : Top) (old new : RecordCounts) (by_channel : List ℕ) (channel : ℕ) (m : MessageFields) → CountsOf records old → IsMessage t channel m → length records + 1 < 2 ^ 64
    → IsOneMore old.by_channel channel by_channel → CountsMessage (with_counts old by_channel) m.log_time new → CountsOf (records ++ t ∷ []) new
counted_message records t old new by_channel channel m was is few more hears = record {
  messages = omega (arith, hears.messages, was.messages, count_same 5 records t five, messages_few, few);
  times = times_with records t (record { any = old.any; least = old.least; greatest = old.greatest }) (record { any = new.any; least = new.least; greatest = new.greatest }) channel m m.log_time was.times is refl
      (record { any = hears.any; first_least = hears.first_least; first_greatest = hears.first_greatest; least = hears.least; greatest = hears.greatest });
  channels_of = was.channels_of ++ channel ∷ [];
  are_channels = subst (λ (l : List Top). AllZip (λ u c. (f : MessageFields) × IsMessage u c f) l (was.channels_of ++ channel ∷ [])) (sym (filter_yes is_message_top records t (eq-eqb t.op 5 five)))
      (zip_push (λ u c. (f : MessageFields) × IsMessage u c f) (filter is_message_top records) was.channels_of t channel was.are_channels (m, is));
  by_channel = λ id. ap (λ (l : List ℕ). slice_index l id) hears.by_channel ∙ by id (eqb id channel) refl;
  schemas = subst (AreIds (HasSchema (records ++ t ∷ []))) (sym hears.schemas) (schemas_stay records t old.schemas (λ e. omega (arith, e, five)) was.schemas);
  channels = subst (AreIds (HasChannel (records ++ t ∷ []))) (sym hears.channels) (channels_stay records t old.channels (λ e. omega (arith, e, five)) was.channels);
}
  where
    five : t.op ≡ 5
    five = is.kind

    messages_few : count_of 5 records ≤ length records
    messages_few = few_filtered (λ (u : Top). eqb u.op 5) records

    on_few : on_channel was.channels_of channel ≤ length records
    on_few =
        let long = zip_long (λ u c. (f : MessageFields) × IsMessage u c f) (filter is_message_top records) was.channels_of was.are_channels in
        omega (arith, few_filtered (λ (c : ℕ). eqb c channel) was.channels_of, long, few_filtered is_message_top records)

    by : (id : ℕ) (b : Bool) → eqb id channel ≡ b → slice_index by_channel id ≡ on_channel (was.channels_of ++ channel ∷ []) id
    by id true same =
        let here : id ≡ channel = eqb-true id channel same in
        let one : slice_index by_channel channel ≡ on_channel (was.channels_of ++ channel ∷ []) channel =
        omega (arith, more.more, was.by_channel channel, on_same was.channels_of channel, on_few, few) in
        ap (slice_index by_channel) here ∙ one ∙ ap (on_channel (was.channels_of ++ channel ∷ [])) (sym here)
    by id false apart =
        let other = eqb-false id channel apart in
        more.others id other ∙ was.by_channel id ∙ sym (on_other was.channels_of channel id (λ e. other (sym e)))
