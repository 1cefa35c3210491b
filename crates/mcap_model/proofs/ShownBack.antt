-- What the records that are written of a block and of a summary show.
use Rattle.std.proofs.Common.{◌≡◌, ℕ, zero, suc, ◌+◌, ◌^◌, ◌<◌, ◌≤◌, List, [], ◌∷◌, length, take, Option, Some, refl, sym, ap, subst, ◌∙◌, arith}
use Rattle.std.specs.Prelude.{◌≢◌}
use Rattle.std.proofs.lemmas.List.{length-append}
use Rattle.mcap_wire.specs.Arrays.{EntryFits, entry_texts}
use Rattle.mcap_wire.specs.Maps.{KeysDiffer}
use Rattle.mcap_wire.proofs.Contents.{row_shown, shows_decided}
use Rattle.rec_data.specs.declared.owned.Rec.{Rec}
use Rattle.rec_index.specs.Records.{message_index_kinds, message_index_values, chunk_index_kinds, chunk_index_values, summary_offset_kinds, summary_offset_values, summary_offset_text}
use Rattle.mcap_model.specs.Places.{At, Has, Each}
use Rattle.mcap_model.specs.Fields.{IsMessageIndex, ChunkIndexFields, IsChunkIndex, IsSummaryOffset}
use Rattle.mcap_model.specs.History.{message_of, history_bytes}
use Rattle.mcap_model.specs.Blocks.{logged_channels, log_times, entries_for, index_bytes, indexes_bytes, chunk_bytes}
use Rattle.mcap_model.specs.Summary.{messages_on, index_offsets, chunk_index_content, written_index}
use Rattle.mcap_model.specs.Laws.{index_top}
use Rattle.mcap_model.specs.ReadBack.{IsReadBack}
use Rattle.mcap_model.proofs.Places.{at_none}
use Rattle.mcap_model.proofs.Readings.{top_of}
use Rattle.mcap_model.proofs.WrittenChunks.{time_fits, least_fits, greatest_fits, empty_utf8}
use Rattle.mcap_model.proofs.Lists.{pairs_at, pairs_from, all_from}
use Rattle.mcap_model.proofs.Logged.{before_within, channels_ascend, channels_fit, few_channels, entries_are, length-entries, count_entries}
use Rattle.std.proofs.lemmas.Option.{same_Some}

-- ---- a Message Index

pub index_shown : (records : List Rec) (channel : ℕ) → Each IsReadBack records → Has (logged_channels records) channel → messages_on records channel < 2 ^ 28 → length (history_bytes records) < 2 ^ 64
    → IsMessageIndex (index_top records channel) channel (entries_for records channel)
index_shown records channel back has few small = record {
  kind = refl;
  layout = row_shown message_index_kinds (message_index_values channel (entries_for records channel)) (channel_small, ((array_small, all_from (EntryFits 8) (entries_for records channel) fit), tt));
}
  where
    channel_small : channel < 256 ^ 2
    channel_small = let fit = channels_fit records back has.0 channel has.1 in omega (arith, fit)

    array_small : length (entry_texts 8 (entries_for records channel)) < 2 ^ 32
    array_small =
        let size = length-entries 8 (entries_for records channel) in
        let count = count_entries records channel in
        omega (arith, size, count, few)

    fit : Each (EntryFits 8) (entries_for records channel)
    fit n entry at =
        let (k, m, there, time, offset) = entries_are records channel entry (n, at) in
        let shown = (back k (message_of channel m) there).1 in
        let fits = shown.fit in
        let low : m.log_time < 256 ^ 8 = fits.1.1.0 in
        let within = before_within records k (message_of channel m) there in
        record { first_fits = omega (arith, low, time); second_fits = omega (arith, within, offset, small) }

pub index_shows : (records : List Rec) (own channel : ℕ) (entries : List (ℕ × ℕ)) → IsMessageIndex (index_top records own) own (entries_for records own) → IsMessageIndex (index_top records own) channel entries → (own ≡ channel) × (entries_for records own ≡ entries)
index_shows records own channel entries shown is =
    let t = index_top records own in
    let same = shows_decided message_index_kinds t.content (message_index_values own (entries_for records own)) (message_index_values channel entries) shown.layout is.layout in
    (ap (λ v. v.0) same, ap (λ v. v.1.0) same)

-- ---- the offsets of Message Indexes

pub length-offsets : (records : List Rec) (at : ℕ) (ids : List ℕ) → length (index_offsets records at ids) ≡ length ids
length-offsets records at [] = refl
length-offsets records at (id ∷ ids) = ap suc (length-offsets records (at + length (index_bytes records id)) ids)

-- the Message Index of that channel stands at that offset
pub offset_is : (records : List Rec) (at : ℕ) (ids : List ℕ) (k : ℕ) (p : ℕ × ℕ) → At (index_offsets records at ids) k p → At ids k p.0 × (p.1 ≡ at + length (indexes_bytes records (take k ids)))
offset_is records at [] k p there = absurd (at_none k p there)
offset_is records at (id ∷ ids) zero p there =
    let same = same_Some {A = ℕ × ℕ} (id, at) p there in
    (ap (λ (q : ℕ × ℕ). Some q.0) same, sym (ap (λ (q : ℕ × ℕ). q.1) same) ∙ omega arith)
offset_is records at (id ∷ ids) (suc k) p there =
    let more = offset_is records (at + length (index_bytes records id)) ids k p there in
    let offset = more.1 in
    (more.0, omega (arith, offset, length-append (index_bytes records id) (indexes_bytes records (take k ids))))

pub is_offset : (records : List Rec) (at : ℕ) (ids : List ℕ) (k id : ℕ) → At ids k id → At {X = ℕ × ℕ} (index_offsets records at ids) k (id, at + length (indexes_bytes records (take k ids)))
is_offset records at [] k id there = absurd (at_none k id there)
is_offset records at (x ∷ ids) zero id there =
    ap {B = Option (ℕ × ℕ)} (λ (n : ℕ). Some (n, at)) (same_Some x id there) ∙ ap {B = Option (ℕ × ℕ)} (λ (n : ℕ). Some (id, n)) (omega arith)
is_offset records at (x ∷ ids) (suc k) id there =
    let more = is_offset records (at + length (index_bytes records x)) ids k id there in
    let same : (at + length (index_bytes records x)) + length (indexes_bytes records (take k ids)) ≡ at + length (indexes_bytes records (take (suc k) (x ∷ ids))) = omega (arith, length-append (index_bytes records x) (indexes_bytes records (take k ids))) in
    subst (λ (n : ℕ). At {X = ℕ × ℕ} (index_offsets records (at + length (index_bytes records x)) ids) k (id, n)) same more

-- the bytes of some of them are no longer than those of all
pub some_indexes : (records : List Rec) (ids : List ℕ) (k : ℕ) → length (indexes_bytes records (take k ids)) ≤ length (indexes_bytes records ids)
some_indexes records ids zero = omega arith
some_indexes records [] (suc k) = omega arith
some_indexes records (id ∷ ids) (suc k) = let more = some_indexes records ids k in omega (arith, more, length-append (index_bytes records id) (indexes_bytes records (take k ids)), length-append (index_bytes records id) (indexes_bytes records ids))

-- ---- a Chunk Index

pub chunk_index_shown : (offset : ℕ) (records : List Rec) → Each IsReadBack records → length (history_bytes records) < 2 ^ 64 → offset + length (chunk_bytes records) + length (indexes_bytes records (logged_channels records)) < 2 ^ 64
    → IsChunkIndex (top_of 8 (chunk_index_content (offset, records))) (written_index offset records)
chunk_index_shown offset records back small room =
    let f = written_index offset records in
    let fit = λ (x : ℕ) (has : Has (log_times records) x). time_fits records x back has in
    record {
      kind = refl;
      layout = row_shown chunk_index_kinds (chunk_index_values f)
          (least_fits (log_times records) fit, (greatest_fits (log_times records) fit, (omega (arith, room), (omega (arith, room), ((map_small, all_from (EntryFits 2) (written_index offset records).indexes entry, differ), (omega (arith, room), ((omega arith, empty_utf8), (small, (small, tt)))))))));
    }
  where
    map_small : length (entry_texts 2 (index_offsets records (offset + length (chunk_bytes records)) (logged_channels records))) < 2 ^ 32
    map_small =
        let size = length-entries 2 (index_offsets records (offset + length (chunk_bytes records)) (logged_channels records)) in
        let count = length-offsets records (offset + length (chunk_bytes records)) (logged_channels records) in
        let few = few_channels records back in
        omega (arith, size, count, few)

    entry : Each (EntryFits 2) (index_offsets records (offset + length (chunk_bytes records)) (logged_channels records))
    entry n p there =
        let (id, place) = offset_is records (offset + length (chunk_bytes records)) (logged_channels records) n p there in
        let low = channels_fit records back n p.0 id in
        let some = some_indexes records (logged_channels records) n in
        record { first_fits = omega (arith, low); second_fits = omega (arith, place, some, room) }

    differ : KeysDiffer (index_offsets records (offset + length (chunk_bytes records)) (logged_channels records))
    differ = pairs_from {X = ℕ × ℕ} (λ p q. p.0 ≢ q.0) (index_offsets records (offset + length (chunk_bytes records)) (logged_channels records)) (λ i j p q less one other same.
        let first = offset_is records (offset + length (chunk_bytes records)) (logged_channels records) i p one in
        let second = offset_is records (offset + length (chunk_bytes records)) (logged_channels records) j q other in
        let up = pairs_at (λ (a b : ℕ). a < b) (logged_channels records) (channels_ascend records) i j p.0 q.0 less first.0 second.0 in
        omega (arith, up, same))

pub chunk_index_shows : (offset : ℕ) (records : List Rec) (f : ChunkIndexFields) → IsChunkIndex (top_of 8 (chunk_index_content (offset, records))) (written_index offset records) → IsChunkIndex (top_of 8 (chunk_index_content (offset, records))) f → written_index offset records ≡ f
chunk_index_shows offset records f shown is =
    let w = written_index offset records in
    let same = shows_decided chunk_index_kinds (chunk_index_content (offset, records)) (chunk_index_values w) (chunk_index_values f) shown.layout is.layout in
    ap (λ v. record { start = v.0; end = v.1.0; offset = v.1.1.0; size = v.1.1.1.0; indexes = v.1.1.1.1.0; indexes_size = v.1.1.1.1.1.0; compression = v.1.1.1.1.1.1.0; compressed = v.1.1.1.1.1.1.1.0; uncompressed = v.1.1.1.1.1.1.1.1.0 }) same

-- ---- a Summary Offset

pub summary_offset_shown : (op at size : ℕ) → op < 256 → at + size < 2 ^ 64 → IsSummaryOffset (top_of 14 (summary_offset_text (record { op = op; offset = at; size = size }))) op at size
summary_offset_shown op at size low room = record {
  kind = refl;
  layout = row_shown summary_offset_kinds (summary_offset_values (record { op = op; offset = at; size = size })) (omega (arith, low), (omega (arith, room), (omega (arith, room), tt)));
}

pub summary_offset_shows : (own_op own_at own_size op at size : ℕ) → own_op < 256 → own_at + own_size < 2 ^ 64 → IsSummaryOffset (top_of 14 (summary_offset_text (record { op = own_op; offset = own_at; size = own_size }))) op at size → (own_op ≡ op) × (own_at ≡ at) × (own_size ≡ size)
summary_offset_shows own_op own_at own_size op at size low room is =
    let shown = summary_offset_shown own_op own_at own_size low room in
    let same = shows_decided summary_offset_kinds (summary_offset_text (record { op = own_op; offset = own_at; size = own_size })) (summary_offset_values (record { op = own_op; offset = own_at; size = own_size })) (summary_offset_values (record { op = op; offset = at; size = size })) shown.layout is.layout in
    (ap (λ v. v.0) same, ap (λ v. v.1.0) same, ap (λ v. v.1.1.0) same)
