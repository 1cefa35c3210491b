-- The records of a buffer as pieces.
use Rattle.std.proofs.Common.{◌≡◌, ℕ, suc, ◌<◌, List, [], ◌∷◌, ◌++◌, length, take, refl, sym, ap, ◌∙◌, append-nil, length-append, arith}
use Rattle.std.specs.List.{concat}
use Rattle.std.proofs.Math.Seq.{take-append_seam}
use Rattle.std.proofs.lemmas.Grind.{flat_map-append}
use Rattle.rec_data.specs.declared.owned.Rec.{Rec}
use Rattle.rec_data.specs.Owned.{rec_bytes}
use Rattle.mcap_io.specs.Appending.{BeginsAt, EndsAt}
use Rattle.mcap_model.specs.History.{history_bytes}
use Rattle.record_cache.specs.Offers.{StartsAt, RecordAt}
use Rattle.chunk_writer.specs.Buffered.{framed_each}

-- some pieces, one, and others are some records, one, and others
pub record Uncut (records : List Rec) (before : List (List ℕ)) (piece : List ℕ) : Type 0 where
  pub front : List Rec
  pub rec : Rec
  pub behind : List Rec
  pub cut : records ≡ front ++ rec ∷ behind
  pub front_is : concat before ≡ history_bytes front
  pub piece_is : piece ≡ rec_bytes rec

pub uncut : (records : List Rec) (before : List (List ℕ)) (piece : List ℕ) (behind : List (List ℕ)) → framed_each records ≡ before ++ piece ∷ behind → Uncut records before piece
uncut [] [] piece behind same = absurd (cc)
uncut [] (b ∷ bs) piece behind same = absurd (cc)
uncut (r ∷ rs) [] piece behind same = record { front = []; rec = r; behind = rs; cut = refl; front_is = refl; piece_is = cc }
uncut (r ∷ rs) (b ∷ bs) piece behind same =
    let first : b ≡ rec_bytes r = cc in
    let others : framed_each rs ≡ bs ++ piece ∷ behind = cc in
    let later = uncut rs bs piece behind others in
    record {
      front = r ∷ later.front;
      rec = later.rec;
      behind = later.behind;
      cut = ap (λ (l : List Rec). r ∷ l) later.cut;
      front_is = ap (λ (l : List ℕ). l ++ concat bs) first ∙ ap (λ (l : List ℕ). rec_bytes r ++ l) later.front_is;
      piece_is = later.piece_is;
    }

-- ---- where a record begins and ends

-- so many records stand before it
pub front_of : (records front : List Rec) (rec : Rec) (behind : List Rec) → records ≡ front ++ rec ∷ behind → take (length front) records ≡ front
front_of records front rec behind cut = ap (λ (l : List Rec). take (length front) l) cut ∙ take-append_seam front (rec ∷ behind)

less_of : (records : List Rec) (before : List (List ℕ)) (piece : List ℕ) (it : Uncut records before piece) → length it.front < length records
less_of records before piece it = omega (arith, ap (λ (l : List Rec). length l) it.cut, length-append it.front (it.rec ∷ it.behind))

place_of : (records : List Rec) (at : ℕ) (before : List (List ℕ)) (piece : List ℕ) (it : Uncut records before piece) → at ≡ length (concat before) → at ≡ length (history_bytes (take (length it.front) records))
place_of records at before piece it place = place ∙ ap (λ (l : List ℕ). length l) it.front_is ∙ ap (λ (l : List Rec). length (history_bytes l)) (sym (front_of records it.front it.rec it.behind it.cut))

pub starts_uncut : (records : List Rec) (at : ℕ) → BeginsAt (framed_each records) at → StartsAt records at
starts_uncut records at b =
    let it = uncut records b.before b.piece b.behind b.cut in
    (length it.front, less_of records b.before b.piece it, place_of records at b.before b.piece it b.place)

with_one : (front : List Rec) (rec : Rec) (behind : List Rec) → take (suc (length front)) (front ++ rec ∷ behind) ≡ front ++ rec ∷ []
with_one [] rec behind = refl
with_one (r ∷ rs) rec behind = ap (λ (l : List Rec). r ∷ l) (with_one rs rec behind)

pub ends_uncut : (records : List Rec) (at next : ℕ) (framed : List ℕ) → RecordAt records at framed next → EndsAt (framed_each records) at next
ends_uncut records at next framed found before piece behind cut place =
    let it = uncut records before piece behind cut in
    let there = found (length it.front) (less_of records before piece it) (place_of records at before piece it place) in
    let with_it = ap (λ (l : List Rec). take (suc (length it.front)) l) it.cut ∙ with_one it.front it.rec it.behind in
    let bytes : history_bytes (it.front ++ it.rec ∷ []) ≡ history_bytes it.front ++ rec_bytes it.rec = flat_map-append rec_bytes it.front (it.rec ∷ []) ∙ ap (λ (l : List ℕ). history_bytes it.front ++ l) (append-nil (rec_bytes it.rec)) in
    let size = ap (λ (l : List Rec). length (history_bytes l)) with_it ∙ ap (λ (l : List ℕ). length l) bytes in
    let after = there.behind in
    let start = place ∙ ap (λ (l : List ℕ). length l) it.front_is in
    let long = ap (λ (l : List ℕ). length l) it.piece_is in
    omega (arith, after, size, start, long, length-append (history_bytes it.front) (rec_bytes it.rec))
