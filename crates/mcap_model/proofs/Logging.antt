-- The Message Indexes that are written of records.
use Rattle.std.proofs.Common.{◌≡◌, ℕ, suc, ◌+◌, ◌*◌, ◌^◌, ◌<◌, ◌≤◌, Bool, true, false, ◌==◌, List, [], ◌∷◌, length, map, get_or, refl, arith}
use Rattle.std.specs.Prelude.{All, fold, filter, cond, nat_lt, if◌then◌else◌}
use Rattle.std.proofs.lemmas.List.{length-append, length-map}
use Rattle.mcap_wire.specs.Arrays.{EntryFits, entry_texts}
use Rattle.mcap_wire.proofs.ArrayLemmas.{length-entry_texts}
use Rattle.mcap_wire.proofs.Numbers.{length-le}
use Rattle.mcap_wire.proofs.Contents.{row_shown}
use Rattle.rec_data.specs.declared.owned.Rec.{Rec}
use Rattle.rec_data.specs.declared.owned.Rec.TheVariants.{Schema, Channel, Message, Extra}
use Rattle.rec_data.specs.Owned.{rec_text, rec_bytes}
use Rattle.rec_index.specs.Records.{message_index_kinds, message_index_values}
use Rattle.mcap_model.specs.Places.{Each}
use Rattle.mcap_model.specs.Tops.{Top}
use Rattle.mcap_model.specs.Fields.{IsMessageIndex}
use Rattle.mcap_model.specs.Rules.{V6}
use Rattle.mcap_model.specs.History.{rec_top, history_bytes}
use Rattle.mcap_model.specs.Blocks.{Logged, logged, logged_from, with_id, entries_for, index_content}
use Rattle.mcap_model.specs.Laws.{IndexesAreWritten}
use Rattle.mcap_model.specs.ReadBack.{IsReadBack}
use Rattle.mcap_model.proofs.Places.{at_none, at_read}
use Rattle.mcap_model.proofs.Readings.{length-top}
use Rattle.mcap_model.proofs.WrittenChunks.{each_map}
use Rattle.mcap_model.proofs.Flat.{each_filter}
use Rattle.mcap_model.proofs.Lists.{each_cons}

-- ---- lists

pub few_filtered : {X : Type 0} (test : X → Bool) (xs : List X) → length (filter test xs) ≤ length xs
few_filtered test [] = omega arith
few_filtered test (x ∷ xs) = by (test x) (few_filtered test xs)
  where
    by : (b : Bool) → length (filter test xs) ≤ length xs → length (cond b (x ∷ filter test xs) (filter test xs)) ≤ suc (length xs)
    by true few = omega (arith, few)
    by false few = omega (arith, few)

-- ---- the messages of some records

-- its numbers fit, and it stands before that offset
record LogFits (end : ℕ) (e : Logged) : Type 0 where
  channel : e.channel < 2 ^ 16
  time : e.time < 2 ^ 64
  before : e.offset < end

logs_fit : (at end : ℕ) (records : List Rec) → Each IsReadBack records → at + length (history_bytes records) ≤ end → Each (LogFits end) (logged_from at records)
logs_fit at end [] back room = λ n e there. absurd (at_none n e there)
logs_fit at end (Schema id s ∷ rs) back room =
    let r = Schema id s in
    logs_fit (at + length (rec_bytes r)) end rs (λ n x there. back (suc n) x there) (omega (arith, room, length-append (rec_bytes r) (history_bytes rs)))
logs_fit at end (Channel id schema topic encoding metadata ∷ rs) back room =
    let r = Channel id schema topic encoding metadata in
    logs_fit (at + length (rec_bytes r)) end rs (λ n x there. back (suc n) x there) (omega (arith, room, length-append (rec_bytes r) (history_bytes rs)))
logs_fit at end (Message channel sequence log_time publish_time payload ∷ rs) back room =
    let r = Message channel sequence log_time publish_time payload in
    let layout = (back 0 r refl).1 in
    let fit = layout.fit in
    let size = length-append (rec_bytes r) (history_bytes rs) in
    each_cons (LogFits end) (record { channel = channel; time = log_time; offset = at }) (logged_from (at + length (rec_bytes r)) rs)
    (record { channel = fit.0; time = fit.1.1.0; before = omega (arith, room, size, length-top (rec_top r)) })
    (logs_fit (at + length (rec_bytes r)) end rs (λ n x there. back (suc n) x there) (omega (arith, room, size)))
logs_fit at end (Extra op content ∷ rs) back room =
    let r = Extra op content in
    logs_fit (at + length (rec_bytes r)) end rs (λ n x there. back (suc n) x there) (omega (arith, room, length-append (rec_bytes r) (history_bytes rs)))

-- a message has more bytes than its entry
length-message : (channel sequence log_time publish_time : ℕ) (payload : List ℕ) → length (rec_text (Message channel sequence log_time publish_time payload)) ≡ 22 + length payload
length-message channel sequence log_time publish_time payload = simp (length-append, length-le) (omega arith)

logs_few : (at : ℕ) (records : List Rec) → 16 * length (logged_from at records) ≤ length (history_bytes records)
logs_few at [] = omega arith
logs_few at (Schema id s ∷ rs) =
    let r = Schema id s in omega (arith, logs_few (at + length (rec_bytes r)) rs, length-append (rec_bytes r) (history_bytes rs))
logs_few at (Channel id schema topic encoding metadata ∷ rs) =
    let r = Channel id schema topic encoding metadata in omega (arith, logs_few (at + length (rec_bytes r)) rs, length-append (rec_bytes r) (history_bytes rs))
logs_few at (Message channel sequence log_time publish_time payload ∷ rs) =
    let r = Message channel sequence log_time publish_time payload in
    omega (arith, logs_few (at + length (rec_bytes r)) rs, length-append (rec_bytes r) (history_bytes rs), length-top (rec_top r), length-message channel sequence log_time publish_time payload)
logs_few at (Extra op content ∷ rs) =
    let r = Extra op content in omega (arith, logs_few (at + length (rec_bytes r)) rs, length-append (rec_bytes r) (history_bytes rs))

-- ---- their channels

ids_with : (P : ℕ → Type 0) (ids : List ℕ) (id : ℕ) → Each P ids → P id → Each P (with_id ids id)
ids_with P [] id each one = each_cons P id [] one each
ids_with P (x ∷ xs) id each one = by (nat_lt id x) (id == x) (ids_with P xs id (λ n y at. each (suc n) y at) one)
  where
    by : (b c : Bool) → Each P (with_id xs id) → Each P (if b then id ∷ x ∷ xs else if c then x ∷ xs else x ∷ with_id xs id)
    by true c rest = each_cons P id (x ∷ xs) one each
    by false true rest = each
    by false false rest = each_cons P x (with_id xs id) (each 0 x refl) rest

ids_fold : (P : ℕ → Type 0) (ids ns : List ℕ) → Each P ids → Each P ns → Each P (fold with_id ids ns)
ids_fold P ids [] each more = each
ids_fold P ids (n ∷ ns) each more = ids_fold P (with_id ids n) ns (ids_with P ids n each (more 0 n refl)) (λ k y at. more (suc k) y at)

-- ---- the Message Indexes

entries_few : (records : List Rec) (channel : ℕ) → length (entry_texts 8 (entries_for records channel)) ≤ length (history_bytes records)
entries_few records channel =
    let mine = filter (λ (e : Logged). e.channel == channel) (logged records) in
    omega (arith, length-entry_texts 8 (entries_for records channel), length-map {B = ℕ × ℕ} mine (λ e. (e.time, e.offset)), few_filtered (λ (e : Logged). e.channel == channel) (logged records), logs_few 0 records)

pub index_short : (records : List Rec) (channel : ℕ) → length (index_content records channel) ≤ 6 + length (history_bytes records)
index_short records channel =
    let few = entries_few records channel in
    let texts = entry_texts 8 (entries_for records channel) in
    let size : length (index_content records channel) ≡ 6 + length texts = simp (length-append, length-le) (omega arith) in
    omega (arith, few, size)

pub indexes_are_written : IndexesAreWritten
indexes_are_written records back short n channel at =
    let logs = logs_fit 0 (length (history_bytes records)) records back (omega arith) in
    let mine = filter (λ (e : Logged). e.channel == channel) (logged records) in
    let fits : Each (EntryFits 8) (entries_for records channel) =
    each_map (λ (e : Logged). (e.time, e.offset)) (EntryFits 8) mine
    (each_filter (λ e. EntryFits 8 (e.time, e.offset)) (λ (e : Logged). e.channel == channel) (logged records)
    (λ k e there. let fit = logs k e there in record { first_fits = fit.time; second_fits = let before = fit.before in omega (arith, before, short) })) in
    let all : All (EntryFits 8) (entries_for records channel) = λ k d less. fits k (get_or (entries_for records channel) k d) (at_read (entries_for records channel) k d less) in
    let id_fits = ids_fold (λ id. id < 2 ^ 16) [] (map (λ (e : Logged). e.channel) (logged records)) (λ k id there. absurd (at_none k id there))
    (each_map (λ (e : Logged). e.channel) (λ id. id < 2 ^ 16) (logged records) (λ k e there. let fit = logs k e there in fit.channel)) in
    record {
      kind = refl;
      layout = row_shown message_index_kinds (message_index_values channel (entries_for records channel)) (id_fits n channel at, ((let few = entries_few records channel in omega (arith, few, short), all), tt));
    }

pub index_meets : (t : Top) (channel : ℕ) (entries : List (ℕ × ℕ)) → IsMessageIndex t channel entries → V6 t
index_meets t channel entries is = record {
  header = λ e. absurd (omega (arith, is.kind, e));
  footer = λ e. absurd (omega (arith, is.kind, e));
  schema = λ e. absurd (omega (arith, is.kind, e));
  channel = λ e. absurd (omega (arith, is.kind, e));
  message = λ e. absurd (omega (arith, is.kind, e));
  chunk = λ e. absurd (omega (arith, is.kind, e));
  message_index = λ e. (channel, entries, is);
  chunk_index = λ e. absurd (omega (arith, is.kind, e));
  attachment = λ e. absurd (omega (arith, is.kind, e));
  attachment_index = λ e. absurd (omega (arith, is.kind, e));
  statistics = λ e. absurd (omega (arith, is.kind, e));
  metadata = λ e. absurd (omega (arith, is.kind, e));
  metadata_index = λ e. absurd (omega (arith, is.kind, e));
  summary_offset = λ e. absurd (omega (arith, is.kind, e));
  data_end = λ e. absurd (omega (arith, is.kind, e));
}
