-- The last record of a buffer, and those in front of it.
use Rattle.std.proofs.Common.{◌≡◌, ℕ, suc, ◌-◌, ◌<◌, ◌≤◌, List, [], ◌∷◌, ◌++◌, length, take, drop, Option, Err, refl, sym, ap, subst, ◌∙◌, append_assoc, append-nil, arith}
use Rattle.std.proofs.Math.Seq.{take-suc, take-append_seam}
use Rattle.std.proofs.lemmas.List.{take_all, take-append-drop, map-append, length-append}
use Rattle.std.proofs.lemmas.Grind.{flat_map-append}
use Rattle.std.proofs.lemmas.Option.{get_or_from_slice_get}
use Rattle.rec_data.specs.declared.owned.Rec.{Rec}
use Rattle.rec_data.specs.Owned.{rec_bytes}
use Rattle.mcap_io.specs.Outside.{Adds}
use Rattle.mcap_io.specs.Appending.{BeginsAt, EndsAt}
use Rattle.mcap_io.proofs.Calls.{adds-adds}
use Rattle.mcap_model.specs.declared.ends.Stop.{Stop}
use Rattle.mcap_model.specs.History.{history_bytes}
use Rattle.record_cache.specs.Offers.{StartsAt, RecordAt}
use Rattle.chunk_writer.specs.Buffered.{framed_each, BeginsLast, AppendRefusedAt}
use Rattle.chunk_writer.specs.StopSteps.{Added}
use Rattle.chunk_writer.proofs.Taking.{some_left, all_put}

-- ---- pieces of first records

cut_there : (records : List Rec) (count : ℕ) → framed_each records ≡ framed_each (take count records) ++ framed_each (drop count records)
cut_there records count = ap framed_each (sym (take-append-drop count records)) ∙ map-append rec_bytes (take count records) (drop count records)

more_cut : (records : List Rec) (count : ℕ) (before : List (List ℕ)) (piece : List ℕ) (behind : List (List ℕ)) → framed_each (take count records) ≡ before ++ piece ∷ behind
    → framed_each records ≡ before ++ piece ∷ (behind ++ framed_each (drop count records))
more_cut records count before piece behind cut =
    let rest = framed_each (drop count records) in
    cut_there records count ∙ ap (λ (l : List (List ℕ)). l ++ rest) cut ∙ append_assoc before (piece ∷ behind) rest

pub begins_front : (records : List Rec) (count at : ℕ) → BeginsAt (framed_each (take count records)) at → BeginsAt (framed_each records) at
begins_front records count at b = record {
  before = b.before;
  piece = b.piece;
  behind = b.behind ++ framed_each (drop count records);
  cut = more_cut records count b.before b.piece b.behind b.cut;
  place = b.place;
}

pub ends_front : (records : List Rec) (count at end : ℕ) → EndsAt (framed_each records) at end → EndsAt (framed_each (take count records)) at end
ends_front records count at end ends = λ before piece behind cut place. ends before piece (behind ++ framed_each (drop count records)) (more_cut records count before piece behind cut) place

bytes_cut : (records : List Rec) (count : ℕ) → history_bytes records ≡ history_bytes (take count records) ++ history_bytes (drop count records)
bytes_cut records count = ap history_bytes (sym (take-append-drop count records)) ∙ flat_map-append rec_bytes (take count records) (drop count records)

pub front_bytes : (records : List Rec) (count len : ℕ) → len ≡ length (history_bytes (take count records)) → take len (history_bytes records) ≡ history_bytes (take count records)
front_bytes records count len is =
    ap (λ (n : ℕ). take n (history_bytes records)) is ∙ ap (λ (l : List ℕ). take (length (history_bytes (take count records))) l) (bytes_cut records count)
    ∙ take-append_seam (history_bytes (take count records)) (history_bytes (drop count records))

pub front_within : (records : List Rec) (count len : ℕ) → len ≡ length (history_bytes (take count records)) → len ≤ length (history_bytes records)
front_within records count len is =
    let all = ap (λ (l : List ℕ). length l) (bytes_cut records count) in
    omega (arith, is, all, length-append (history_bytes (take count records)) (history_bytes (drop count records)))

-- ---- the walk to the last record

-- the n-th record begins at the one offset, and ends at the other
pub record LastSoFar (records : List Rec) (last next : ℕ) : Type 0 where
  pub count : ℕ
  pub below : count < length records
  pub place : last ≡ length (history_bytes (take count records))
  pub behind : next ≡ length (history_bytes (take (suc count) records))

pub last_begun : (records : List Rec) (next : ℕ) (framed : List ℕ) → 1 ≤ length records → RecordAt records 0 framed next → LastSoFar records 0 next
last_begun records next framed some found = record {
  count = 0;
  below = omega (arith, some);
  place = refl;
  behind = (found 0 (omega (arith, some)) refl).behind;
}

later_below : (records : List Rec) (last next : ℕ) → (it : LastSoFar records last next) → next < length (history_bytes records) → suc it.count < length records
later_below records last next it less = some_left records next (suc it.count) (let below = it.below in omega (arith, below)) it.behind less

pub later_starts : (records : List Rec) (last next : ℕ) → LastSoFar records last next → next < length (history_bytes records) → StartsAt records next
later_starts records last next it less = (suc it.count, later_below records last next it less, it.behind)

pub last_later : (records : List Rec) (last next later : ℕ) (framed : List ℕ) → LastSoFar records last next → next < length (history_bytes records) → RecordAt records next framed later → LastSoFar records next later
last_later records last next later framed it less found =
    let below = later_below records last next it less in
    record { count = suc it.count; below = below; place = it.behind; behind = (found (suc it.count) below it.behind).behind }

pub last_done : (records : List Rec) (last next : ℕ) → LastSoFar records last next → (next < length (history_bytes records) → ⊥) → BeginsLast records last
last_done records last next it none = record {
  before = it.count;
  all = all_put records next (suc it.count) (let below = it.below in omega (arith, below)) it.behind none;
  place = it.place;
}

pub last_starts : (records : List Rec) (at : ℕ) → BeginsLast records at → StartsAt records at
last_starts records at it = (it.before, (let all = it.all in omega (arith, all)), it.place)

-- so many records stand before the last one
pub last_behind : (records : List Rec) (at count : ℕ) → BeginsLast records at → count ≡ length records → at ≡ length (history_bytes (take (count - 1) records))
last_behind records at count it same =
    let all = it.all in
    let so : it.before ≡ count - 1 = omega (arith, all, same) in
    it.place ∙ ap (λ (n : ℕ). length (history_bytes (take n records))) so

-- ---- records that were appended, and the last one

record LastCut (records : List Rec) (count : ℕ) (framed : List ℕ) : Type 0 where
  pub rec : Rec
  pub cut : records ≡ take (count - 1) records ++ rec ∷ []
  pub bytes : framed ≡ rec_bytes rec

last_cut : (records : List Rec) (at next count : ℕ) (framed : List ℕ) → BeginsLast records at → count ≡ length records → RecordAt records at framed next → LastCut records count framed
last_cut records at next count framed it same found =
    let all = it.all in
    let n = it.before in
    let less : n < length records = omega (arith, all) in
    let so : n ≡ count - 1 = omega (arith, all, same) in
    let there = found n less it.place in
    let rec = there.rec in
    let more : take (suc n) records ≡ take n records ++ rec ∷ [] =
    take-suc records n rec less ∙ ap (λ (r : Rec). take n records ++ r ∷ []) (get_or_from_slice_get records n rec rec there.stands) in
    record {
      rec = rec;
      cut = sym (take_all (suc n) records (omega (arith, all))) ∙ more ∙ ap (λ (k : ℕ). take k records ++ rec ∷ []) so;
      bytes = there.bytes;
    }

pub last_added : (old mid new : Option (List ℕ)) (records : List Rec) (at next count : ℕ) (framed : List ℕ) → BeginsLast records at → count ≡ length records → RecordAt records at framed next
    → Adds old mid (history_bytes (take (count - 1) records)) → Adds mid new framed → Adds old new (history_bytes records)
last_added old mid new records at next count framed it same found first second =
    let one = last_cut records at next count framed it same found in
    let front = take (count - 1) records in
    let split : history_bytes records ≡ history_bytes front ++ framed =
    ap history_bytes one.cut ∙ flat_map-append rec_bytes front (one.rec ∷ []) ∙ ap (λ (l : List ℕ). history_bytes front ++ l) (append-nil (rec_bytes one.rec) ∙ sym one.bytes) in
    subst (λ (l : List ℕ). Adds old new l) (sym split) (adds-adds old mid new (history_bytes front) framed first second)

-- one in front of the last was refused
pub refused_front : (old now : Option (List ℕ)) (records : List Rec) (count at : ℕ) (stop : Stop) → AppendRefusedAt old now (take count records) at stop → AppendRefusedAt old now records at stop
refused_front old now records count at stop it = record {
  before = it.before;
  rec = it.rec;
  behind = it.behind ++ drop count records;
  cut = sym (take-append-drop count records) ∙ ap (λ (l : List Rec). l ++ drop count records) it.cut ∙ append_assoc it.before (it.rec ∷ it.behind) (drop count records);
  place = it.place;
  between = it.between;
  front = it.front;
  added = it.added;
}

-- the last was refused
pub refused_last : (old mid now : Option (List ℕ)) (records : List Rec) (at next count : ℕ) (framed : List ℕ) (stop : Stop) → BeginsLast records at → count ≡ length records → RecordAt records at framed next
    → Adds old mid (history_bytes (take (count - 1) records)) → Added mid now framed (Err stop) → AppendRefusedAt old now records at stop
refused_last old mid now records at next count framed stop it same found first added =
    let one = last_cut records at next count framed it same found in
    record {
      before = take (count - 1) records;
      rec = one.rec;
      behind = [];
      cut = one.cut;
      place = last_behind records at count it same;
      between = mid;
      front = first;
      added = subst (λ (l : List ℕ). Added mid now l (Err stop)) one.bytes added;
    }
