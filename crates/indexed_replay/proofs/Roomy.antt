-- The messages of a file that is read to its Data End have no more data than the file.
use Rattle.std.proofs.Common.{◌≡◌, ℕ, zero, suc, ◌+◌, ◌≤◌, Bool, true, false, cond, List, [], ◌∷◌, ◌++◌, length, take, drop, filter, refl, ap, subst, inl, inr, arith}
use Rattle.std.specs.Prelude.{◌≢◌, AllPairs, sum_by, if◌then◌else◌}
use Rattle.std.specs.List.{AllZip}
use Rattle.std.proofs.lemmas.List.{length-append, length-take, length-drop}
use Rattle.std.proofs.lemmas.List.Sums.{sum_by-cons, sum_by-append}
use Rattle.std.proofs.lemmas.Option.{same_Some}
use Rattle.rec_data.proofs.Contents.{length-message_text}
use Rattle.mcap_wire.specs.Layout.{magic}
use Rattle.mcap_model.specs.Places.{At, Has}
use Rattle.mcap_model.specs.Tops.{Top, Placed, top_bytes, spelled, begins_record, first_top, behind_first, declared_length, first_records, records_in, chunk_records, inner_tops, is_chunk, is_flat_kind, placed_inside, placed_one, placed_from}
use Rattle.mcap_model.specs.Scan.{Seen, IsSeen, Scan, is_message_top, tops_of}
use Rattle.mcap_model.proofs.FewRecords.{chunk_short}
use Rattle.mcap_model.proofs.Places.{at_kept}
use Rattle.mcap_model.proofs.Lists.{at_either, at_second, cut_at, pairs_at, pairs_from}
use Rattle.mcap_model.proofs.Readings.{length-top}
use Rattle.mcap_laws.proofs.Leading.{indexes_lead_to_the_scan}
use Rattle.indexed_replay.specs.Reaching.{data_of}
use Rattle.indexed_replay.specs.Laws.{FullFilesHaveRoom}

-- ---- messages among others

without : (xs more : List Seen) (x y : Seen) → Has (xs ++ x ∷ more) y → x ≢ y → Has (xs ++ more) y
without xs more x y has differ = elim (at_either xs (x ∷ more) has.0 y has.1) [
  | inl there ↦ (has.0, at_kept xs more has.0 y there)
  | inr (k, is, there) ↦ by k there
]
  where
    by : (k : ℕ) → At (x ∷ more) k y → Has (xs ++ more) y
    by zero there = absurd (differ (same_Some x y there))
    by (suc k) there = (length xs + k, at_second xs more k y there)

joined : (xs ys : List Seen) → data_of (xs ++ ys) ≡ data_of xs + data_of ys
joined xs ys = sum_by-append (λ (s : Seen). length s.message.payload) xs ys

abbrev Differ : Seen → Seen → Type 0
Differ s r = s ≢ r

among : (xs ys : List Seen) → AllPairs Differ xs → ((s : Seen) → Has xs s → Has ys s) → data_of xs ≤ data_of ys
among [] ys once inside = omega arith
among (x ∷ xs) ys once inside =
    let (n, at) = inside x (0, refl) in
    let (more, all) = cut_at ys n x at in
    let front = take n ys in
    let rest = among xs (front ++ more) (pairs_from Differ xs (λ i j a b less at_a at_b. pairs_at Differ (x ∷ xs) once (suc i) (suc j) a b (omega (arith, less)) at_a at_b))
    (λ s has. without front more x s (subst (λ (l : List Seen). Has l s) all (inside s (suc has.0, has.1))) (pairs_at Differ (x ∷ xs) once 0 (suc has.0) x s (omega arith) refl has.1)) in
    omega (arith, rest, ap data_of all, joined front (x ∷ more), joined front more, sum_by-cons (λ (s : Seen). length s.message.payload) x more, sum_by-cons (λ (s : Seen). length s.message.payload) x xs)

-- ---- records

abbrev content : Placed → ℕ
content p = length p.top.content

filtered : (test : Placed → Bool) (xs : List Placed) → sum_by content (filter test xs) ≤ sum_by content xs
filtered test [] = omega arith
filtered test (x ∷ xs) = by (test x) (filtered test xs)
  where
    by : (b : Bool) → sum_by content (filter test xs) ≤ sum_by content xs → sum_by content (cond b (x ∷ filter test xs) (filter test xs)) ≤ sum_by content (x ∷ xs)
    by true rest = omega (arith, rest, sum_by-cons content x xs, sum_by-cons content x (filter test xs))
    by false rest = omega (arith, rest, sum_by-cons content x xs)

abbrev size : Top → ℕ
size t = length t.content

inside : (chunk at : ℕ) (tops : List Top) → sum_by content (placed_inside chunk at tops) ≡ sum_by size tops
inside chunk at [] = refl
inside chunk at (t ∷ ts) =
    let p : Placed = record { place = record { top = chunk; inner = at }; top = t } in
    let rest = inside chunk (at + length (top_bytes t)) ts in
    omega (arith, rest, sum_by-cons content p (placed_inside chunk (at + length (top_bytes t)) ts), sum_by-cons size t ts)

first_room : (n : ℕ) (bytes : List ℕ) → sum_by size (first_records n bytes) ≤ length bytes
first_room zero bytes = omega arith
first_room (suc n) bytes = by (begins_record bytes) (first_room n (behind_first bytes))
  where
    d : ℕ
    d = declared_length bytes

    by : (b : Bool) → sum_by size (first_records n (behind_first bytes)) ≤ length (behind_first bytes) → sum_by size (cond b (first_top bytes ∷ first_records n (behind_first bytes)) []) ≤ length bytes
    by true rest = omega (arith, rest, sum_by-cons size (first_top bytes) (first_records n (behind_first bytes)), length-take d (drop 9 bytes), length-drop 9 bytes, length-drop (9 + d) bytes)
    by false rest = omega arith

records_room : (bytes : List ℕ) → sum_by size (records_in bytes) ≤ length bytes
unfolding records_in
records_room bytes = first_room (length bytes) bytes

one_room : (at : ℕ) (t : Top) → sum_by content (placed_one at t) ≤ length (top_bytes t)
one_room at t = by (is_chunk t)
  where
    alone : Placed
    alone = record { place = record { top = at; inner = 0 }; top = t }

    by : (b : Bool) → sum_by content (filter (λ p. is_flat_kind p.top) (if b then placed_inside at 0 (inner_tops t) else alone ∷ [])) ≤ length (top_bytes t)
    by true = omega (arith, filtered (λ p. is_flat_kind p.top) (placed_inside at 0 (inner_tops t)), inside at 0 (inner_tops t), records_room (chunk_records t.content), chunk_short t.content, length-top t)
    by false = let one : sum_by content (alone ∷ []) ≡ length t.content = omega arith in omega (arith, filtered (λ p. is_flat_kind p.top) (alone ∷ []), one, length-top t)

all_room : (at : ℕ) (tops : List Top) → sum_by content (placed_from at tops) ≤ length (spelled tops)
all_room at [] = omega arith
all_room at (t ∷ ts) =
    let rest = all_room (at + length (top_bytes t)) ts in
    omega (arith, rest, one_room at t, sum_by-append content (placed_one at t) (placed_from (at + length (top_bytes t)) ts), length-append (top_bytes t) (spelled ts))

-- ---- messages

seen_room : (records : List Top) (ps : List Placed) (ms : List Seen) → AllZip (IsSeen records) ps ms → data_of ms ≤ sum_by content ps
seen_room records [] [] zip = omega arith
seen_room records [] (m ∷ ms) zip = absurd zip
seen_room records (p ∷ ps) [] zip = absurd zip
seen_room records (p ∷ ps) (m ∷ ms) zip =
    let seen = zip.0 in
    let is = seen.is in
    let layout = is.layout in
    omega (arith, seen_room records ps ms zip.1, ap length layout.spelled_there, length-message_text m.channel m.message, sum_by-cons content p ps, sum_by-cons (λ (s : Seen). length s.message.payload) m ms)

scan_room : (tops : List Top) (messages : List Seen) → Scan tops messages → data_of messages ≤ length (spelled tops)
scan_room tops messages scan =
    let records = placed_from 8 tops in
    omega (arith, seen_room (tops_of records) (filter (λ p. is_message_top p.top) records) messages scan, filtered (λ p. is_message_top p.top) records, all_room 8 tops)

pub full_files_have_room : FullFilesHaveRoom
full_files_have_room file tops end messages range offset full halts scan much =
    let same = indexes_lead_to_the_scan file tops end messages range full halts scan in
    let are = much.are in
    let few = among much.messages messages much.once (λ s has. ((same s).0 (are s has)).0) in
    let kept = halts.kept in
    let within : length (spelled tops) ≤ length file = elim kept.stands [
      | inl none ↦ let nothing : length (spelled tops) ≡ 0 = ap (λ (l : List Top). length (spelled l)) none in omega (arith, nothing)
      | inr (rest, cut) ↦ omega (arith, ap length cut.split, length-append magic (spelled tops ++ rest), length-append (spelled tops) rest)
    ] in
    omega (arith, much.past, few, scan_room tops messages scan, within)
