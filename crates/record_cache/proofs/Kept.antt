-- A buffer keeps its records.
use Rattle.std.proofs.Common.{◌≡◌, ◌≢◌, ℕ, zero, suc, ◌+◌, ◌-◌, ◌^◌, ◌<◌, ◌≤◌, List, [], ◌∷◌, ◌++◌, length, take, drop, Some, refl, sym, ap, subst, ◌∙◌, append_assoc, arith}
use Rattle.std.specs.Prelude.{All, slice_get, Ok, true, false}
use Rattle.std.proofs.lemmas.List.{append-nil, length-append, length-drop, length-take}
use Rattle.std.proofs.lemmas.List.Elements.{All-nil, All-cons, All-append}
use Rattle.std.proofs.lemmas.Grind.{flat_map-append}
use Rattle.std.proofs.lemmas.Option.{get_or_from_slice_get}
use Rattle.std.proofs.Math.Seq.{take-append_seam, drop-append-add}
use Rattle.mcap_wire.specs.declared.faults.Cut.{Cut}
use Rattle.mcap_wire.specs.declared.faults.CutFault.{CutFault}
use Rattle.mcap_wire.specs.Layout.{framed, part}
use Rattle.mcap_wire.specs.Reading.{IsCut, CutFails}
use Rattle.mcap_wire.proofs.Framing.{length-framed, record_not_refused, record_decided}
use Rattle.rec_data.specs.declared.owned.Rec.{Rec}
use Rattle.rec_data.specs.declared.owned.Rec.TheVariants.{Schema, Channel, Message, Extra}
use Rattle.rec_data.specs.Owned.{rec_opcode, rec_text, rec_bytes, RecFits}
use Rattle.rec_data.proofs.OwnedReading.{extra_not}
use Rattle.mcap_model.specs.History.{is_inner, history_bytes}
use Rattle.record_cache.specs.Reading.{records_shown}
use Rattle.byte_region.specs.Regions.{RegionView, empty_region}
use Rattle.record_cache.specs.Buffers.{Buffer, buffer_of, IsBuffer, HasRecordRoom}
use Rattle.record_cache.specs.KeptRecords.{IsKept}
use Rattle.record_cache.specs.Offers.{Offered, StartsAt, StandsThere}
use Rattle.record_cache.proofs.Readback.{records_read}

-- a record that is no extra may be kept where it fits and is short
pub inner_kept : (r : Rec) → is_inner r ≡ true → RecFits r → length (rec_bytes r) ≤ 33554463 → IsKept r
inner_kept r inner fits short =
    record { fits = fits; short = short; extra = λ aside. absurd (let no : true ≡ false = sym inner ∙ aside in cc) }

-- ---- no records

pub read_none : records_shown [] ≡ []
read_none = records_read [] (All-nil IsKept)

pub empty_buffer : (limit : ℕ) (items : List ℕ) → limit ≤ 1073741824 → items ≡ [] → IsBuffer limit 0 items
empty_buffer limit items small none = subst (IsBuffer limit 0) (sym none) (record {
  small = small;
  spelled = ap history_bytes (sym read_none);
  kept = subst (All IsKept) (sym read_none) (All-nil IsKept);
  counted = ap length (sym read_none);
  few = omega arith;
  room = omega arith;
})

pub empty_held : (limit : ℕ) (region : RegionView) → limit ≤ 1073741824 → region ≡ empty_region (limit + 33554463) → HasRecordRoom limit 0 region
empty_held limit region small none = record {
  buffer = empty_buffer limit region.bytes small (ap (λ (r : RegionView). r.bytes) none);
  reserved = ap (λ (r : RegionView). r.room) none;
}

pub empty_view : (limit : ℕ) (items : List ℕ) → items ≡ [] → buffer_of limit items ≡ record { limit = limit; records = [] }
empty_view limit items none = ap (λ (l : List Rec). made limit l) (ap records_shown none ∙ read_none)
  where
    made : ℕ → List Rec → Buffer
    made limit records = record { limit = limit; records = records }

-- ---- records more

pub record Grown (limit count : ℕ) (framed items : List ℕ) (records : List Rec) : Type 0 where
  pub buffer : IsBuffer limit (count + length records) items
  pub reads : records_shown items ≡ records_shown framed ++ records

pub grown : (limit count : ℕ) (framed items : List ℕ) (records : List Rec) → IsBuffer limit count framed → length framed < limit → All IsKept records
    → length (history_bytes records) ≤ 33554463 → length records ≤ length (history_bytes records) → items ≡ framed ++ history_bytes records → Grown limit count framed items records
grown limit count framed items records is below kept short some same =
    let old = records_shown framed in
    let all : All IsKept (old ++ records) = All-append IsKept old records is.kept kept in
    let spelled : items ≡ history_bytes (old ++ records) = same ∙ ap (λ (l : List ℕ). l ++ history_bytes records) is.spelled ∙ sym (flat_map-append rec_bytes old records) in
    let reads : records_shown items ≡ old ++ records = ap records_shown spelled ∙ records_read (old ++ records) all in
    let size : length items ≡ length framed + length (history_bytes records) = ap length same ∙ length-append framed (history_bytes records) in
    record {
      buffer = record {
        small = is.small;
        spelled = spelled ∙ ap history_bytes (sym reads);
        kept = subst (All IsKept) (sym reads) all;
        counted = omega (arith, is.counted, ap length reads, length-append old records);
        few = omega (arith, is.few, size, some);
        room = omega (arith, size, below, short);
      };
      reads = reads;
    }

bytes_one : (r : Rec) → rec_bytes r ≡ history_bytes (r ∷ [])
bytes_one r = sym (append-nil (rec_bytes r))

pub grown_one : (limit count : ℕ) (framed items : List ℕ) (r : Rec) → IsBuffer limit count framed → length framed < limit → IsKept r → items ≡ framed ++ rec_bytes r
    → Grown limit count framed items (r ∷ [])
grown_one limit count framed items r is below kept same =
    let size : length (history_bytes (r ∷ [])) ≡ length (rec_bytes r) = ap length (append-nil (rec_bytes r)) in
    grown limit count framed items (r ∷ []) is below (All-cons IsKept r [] kept (All-nil IsKept)) (omega (arith, size, kept.short))
    (omega (arith, size, length-framed (rec_opcode r) (rec_text r)))
    (same ∙ ap (λ (l : List ℕ). framed ++ l) (bytes_one r))

pub grown_two : (limit count : ℕ) (framed middle items : List ℕ) (r s : Rec) → IsBuffer limit count framed → length framed < limit → IsKept r → IsKept s
    → length (rec_bytes r) + length (rec_bytes s) ≤ 1048576 → middle ≡ framed ++ rec_bytes r → items ≡ middle ++ rec_bytes s → Grown limit count framed items (r ∷ s ∷ [])
grown_two limit count framed middle items r s is below kept other short same next =
    let size : length (history_bytes (r ∷ s ∷ [])) ≡ length (rec_bytes r) + length (rec_bytes s) =
    length-append (rec_bytes r) (history_bytes (s ∷ [])) ∙ ap (λ (n : ℕ). length (rec_bytes r) + n) (ap length (append-nil (rec_bytes s))) in
    grown limit count framed items (r ∷ s ∷ []) is below (All-cons IsKept r (s ∷ []) kept (All-cons IsKept s [] other (All-nil IsKept))) (omega (arith, size, short))
    (omega (arith, size, length-framed (rec_opcode r) (rec_text r)))
    (next ∙ ap (λ (l : List ℕ). l ++ rec_bytes s) same ∙ append_assoc framed (rec_bytes r) (rec_bytes s) ∙ ap (λ (l : List ℕ). framed ++ (rec_bytes r ++ l)) (bytes_one s))

pub is_offered : (b : Buffer) (limit : ℕ) (framed items : List ℕ) (records : List Rec) → buffer_of limit framed ≡ b → framed ≡ history_bytes (records_shown framed) → length framed < limit
    → records_shown items ≡ records_shown framed ++ records → Offered b records (Ok tt) (buffer_of limit items)
is_offered b limit framed items records view spelled below reads =
    subst (λ (x : Buffer). Offered x records (Ok tt) (buffer_of limit items)) view
    (omega (arith, below, ap length spelled), ap (made limit) reads)
  where
    made : ℕ → List Rec → Buffer
    made limit records = record { limit = limit; records = records }

-- ---- a record that stands there

pub record There (records : List Rec) (n : ℕ) : Type 0 where
  pub rec : Rec
  pub stands : slice_get records n ≡ Some rec
  pub rest : List ℕ
  pub parts : drop (length (history_bytes (take n records))) (history_bytes records) ≡ rec_bytes rec ++ rest
  pub behind : length (history_bytes (take (suc n) records)) ≡ length (history_bytes (take n records)) + length (rec_bytes rec)

pub there : (records : List Rec) (n : ℕ) → n < length records → There records n
there [] n lt = absurd (omega (arith, lt))
there (r ∷ rs) zero lt = record {
  rec = r;
  stands = refl;
  rest = history_bytes rs;
  parts = refl;
  behind = omega (arith, ap length (append-nil (rec_bytes r)));
}
there (r ∷ rs) (suc n) lt =
    let later = there rs n (omega (arith, lt)) in
    record {
      rec = later.rec;
      stands = later.stands;
      rest = later.rest;
      parts = dropped (rec_bytes r) (history_bytes (take n rs)) (history_bytes rs) ∙ later.parts;
      behind = omega (arith, later.behind, length-append (rec_bytes r) (history_bytes (take (suc n) rs)), length-append (rec_bytes r) (history_bytes (take n rs)));
    }
  where
    dropped : (a b c : List ℕ) → drop (length (a ++ b)) (a ++ c) ≡ drop (length b) c
    dropped a b c = ap (λ (k : ℕ). drop k (a ++ c)) (length-append a b) ∙ drop-append-add a c (length b)

some_opcode : (r : Rec) → RecFits r → rec_opcode r ≢ 0
some_opcode (Schema id s) fits e = omega (arith, e)
some_opcode (Channel id schema topic encoding metadata) fits e = omega (arith, e)
some_opcode (Message channel sequence log_time publish_time payload) fits e = omega (arith, e)
some_opcode (Extra op content) fits e = extra_not op content 0 fits (omega arith) e

pub kept_at : (records : List Rec) (n : ℕ) (r : Rec) → All IsKept records → n < length records → slice_get records n ≡ Some r → IsKept r
kept_at records n r all lt at = subst IsKept (get_or_from_slice_get records n r r at) (all n r lt)

-- what is found where a record begins, in the bytes of a buffer
pub starts_within : (limit count : ℕ) (bytes : List ℕ) (at : ℕ) → IsBuffer limit count bytes → StartsAt (records_shown bytes) at → at + 9 ≤ length bytes
starts_within limit count bytes at is starts =
    let records = records_shown bytes in
    let found = there records starts.0 starts.1 in
    let size : length (drop (length (history_bytes (take starts.0 records))) (history_bytes records)) ≡ length (rec_bytes found.rec ++ found.rest) = ap length found.parts in
    omega (
      arith,
      size,
      ap length is.spelled,
      starts.2,
      length-drop (length (history_bytes (take starts.0 records))) (history_bytes records),
      length-append (rec_bytes found.rec) found.rest,
      length-framed (rec_opcode found.rec) (rec_text found.rec),
    )

parts_at : (limit count : ℕ) (bytes : List ℕ) (at n : ℕ) (is : IsBuffer limit count bytes) (lt : n < length (records_shown bytes)) → at ≡ length (history_bytes (take n (records_shown bytes)))
    → drop at bytes ≡ rec_bytes (there (records_shown bytes) n lt).rec ++ (there (records_shown bytes) n lt).rest
parts_at limit count bytes at n is lt same =
    ap (λ (k : ℕ). drop k bytes) same ∙ ap (drop (length (history_bytes (take n (records_shown bytes))))) is.spelled ∙ (there (records_shown bytes) n lt).parts

pub starts_cut : (limit count : ℕ) (bytes : List ℕ) (at : ℕ) (fault : CutFault) → IsBuffer limit count bytes → StartsAt (records_shown bytes) at → CutFails bytes at fault → ⊥
starts_cut limit count bytes at fault is starts fails =
    let records = records_shown bytes in
    let found = there records starts.0 starts.1 in
    let kept = kept_at records starts.0 found.rec is.kept starts.1 found.stands in
    record_not_refused bytes at (rec_opcode found.rec) (rec_text found.rec) found.rest fault (some_opcode found.rec kept.fits)
    (omega (arith, kept.short, length-framed (rec_opcode found.rec) (rec_text found.rec)))
    (parts_at limit count bytes at starts.0 is starts.1 starts.2) fails

pub stands_there : (limit count : ℕ) (bytes : List ℕ) (at n : ℕ) (c : Cut) → IsBuffer limit count bytes → IsCut bytes at c → n < length (records_shown bytes)
    → at ≡ length (history_bytes (take n (records_shown bytes))) → StandsThere (records_shown bytes) n (take (c.to - at) (drop at bytes)) c.to
stands_there limit count bytes at n c is cut lt same =
    let records = records_shown bytes in
    let found = there records n lt in
    let r = found.rec in
    let kept = kept_at records n r is.kept lt found.stands in
    let parts : drop at bytes ≡ rec_bytes r ++ found.rest = parts_at limit count bytes at n is lt same in
    let small : length (rec_text r) < 2 ^ 64 = omega (arith, kept.short, length-framed (rec_opcode r) (rec_text r)) in
    let one = record_decided bytes at c (rec_opcode r) (rec_text r) found.rest cut small parts in
    let text : length (part c.from c.to bytes) ≡ length (rec_text r) = ap length one.1 in
    let whole : length (part c.from c.to bytes) ≡ c.to - c.from = omega (arith, length-take (c.to - c.from) (drop c.from bytes), length-drop c.from bytes, cut.stands.ends, cut.stands.begins) in
    let to : c.to ≡ at + length (rec_bytes r) = omega (arith, text, whole, cut.stands.head, cut.stands.begins, length-framed (rec_opcode r) (rec_text r)) in
    let size : c.to - at ≡ length (rec_bytes r) = omega (arith, to) in
    record {
      rec = r;
      stands = found.stands;
      bytes = ap (λ (k : ℕ). take k (drop at bytes)) size ∙ ap (take (length (rec_bytes r))) parts ∙ take-append_seam (rec_bytes r) found.rest;
      behind = omega (arith, to, found.behind, same);
    }
