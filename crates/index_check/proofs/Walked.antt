-- The Messages among the records of a chunk.
use Rattle.std.proofs.Common.{◌≡◌, ◌⊎◌, ℕ, zero, suc, ◌+◌, ◌<◌, ◌≤◌, Bool, true, false, List, [], ◌∷◌, ◌++◌, length, take, drop, cond, refl, sym, ap, subst, inl, inr, ◌∙◌, append_assoc, arith}
use Rattle.std.specs.Prelude.{◌≢◌, nat_le}
use Rattle.std.specs.List.{flat_map}
use Rattle.std.proofs.lemmas.Bool.{and_parts, and_from, both_ways, eqb-true, eq-eqb, leb-true, le-leb}
use Rattle.std.proofs.lemmas.List.{append-nil, length-append, take-append-le}
use Rattle.std.proofs.lemmas.Grind.{flat_map-append}
use Rattle.std.proofs.Math.Seq.{take-append_seam}
use Rattle.mcap_wire.specs.Layout.{number}
use Rattle.mcap_wire.proofs.Numbers.{AreBytes}
use Rattle.mcap_wire.proofs.Fields.{AreBytes-take, AreBytes-drop, number_spelled}
use Rattle.rec_data.proofs.Contents.{message_read}
use Rattle.mcap_model.specs.Places.{At, Has, Each}
use Rattle.mcap_model.specs.Tops.{Top, top_bytes, spelled, declared_length, first_top, behind_first, begins_record, first_records, records_in, placed_inside}
use Rattle.mcap_model.specs.Fields.{MessageFields, IsMessage}
use Rattle.mcap_model.specs.Rules.{V6}
use Rattle.mcap_model.specs.Scan.{is_message_top}
use Rattle.mcap_model.specs.Whole.{IsEntryOf, offset_among}
use Rattle.mcap_model.proofs.Places.{at_none, at_within, at_kept, at_last, at_more, has_kept, has_last, pairs_more}
use Rattle.mcap_model.proofs.Lists.{cut_flat, each_cons}
use Rattle.mcap_model.proofs.Readings.{length-top}
use Rattle.mcap_model.proofs.Maps.{message_once, message_long}
use Rattle.mcap_scan.specs.declared.message_heads.MessageHead.{MessageHead}
use Rattle.mcap_scan.specs.Heads.{channel_id_in, heads_at, heads_in}
use Rattle.mcap_scan.specs.HeadTimes.{time_in, is_headed}
use Rattle.index_check.specs.Chunks.{HasMessage}
use Rattle.index_check.specs.Entries.{entry_offset}
use Rattle.index_check.specs.Messages.{entry_of, message_at_entry, HoldsMessages}

-- ---- offsets among records

pub among_kept : (xs ys : List Top) (n : ℕ) (t : Top) → At xs n t → offset_among (xs ++ ys) n ≡ offset_among xs n
among_kept xs ys n t at = ap (λ (l : List Top). length (spelled l)) (take-append-le n xs ys (let within = at_within xs n t at in omega (arith, within)))

pub among_seam : (xs ys : List Top) → offset_among (xs ++ ys) (length xs) ≡ length (spelled xs)
among_seam xs ys = ap (λ (l : List Top). length (spelled l)) (take-append_seam xs ys)

-- a record starts nine bytes or more in front of the end
pub among_below : (xs : List Top) (n : ℕ) (t : Top) → At xs n t → offset_among xs n + 9 ≤ length (spelled xs)
among_below xs n t at =
    let cut = cut_flat top_bytes xs n t at in
    let size = ap length cut.1 in
    omega (arith, size, length-append (spelled (take n xs)) (top_bytes t ++ spelled cut.0), length-append (top_bytes t) (spelled cut.0), length-top t)

-- ---- one record more

entry_kept : (inner more : List Top) (channel : ℕ) (entry : ℕ × ℕ) → IsEntryOf inner channel entry → IsEntryOf (inner ++ more) channel entry
entry_kept inner more channel entry is = record {
  place = is.place;
  top = is.top;
  message = is.message;
  at = at_kept inner more is.place is.top is.at;
  is = is.is;
  time = is.time;
  offset = is.offset ∙ sym (among_kept inner more is.place is.top is.at);
}

entry_below : (inner : List Top) (channel : ℕ) (entry : ℕ × ℕ) → IsEntryOf inner channel entry → entry_offset entry < length (spelled inner)
entry_below inner channel entry is = let below = among_below inner is.place is.top is.at in let offset = is.offset in omega (arith, below, offset)

entry_old : (inner : List Top) (t : Top) (channel : ℕ) (entry : ℕ × ℕ) → IsEntryOf (inner ++ t ∷ []) channel entry
    → IsEntryOf inner channel entry ⊎ ((m : MessageFields) × IsMessage t channel m × (entry.0 ≡ m.log_time) × (entry.1 ≡ length (spelled inner)))
entry_old inner t channel entry is = elim (at_more inner t is.place is.top is.at) [
  | inl old ↦ inl (record {
    place = is.place;
    top = is.top;
    message = is.message;
    at = old;
    is = is.is;
    time = is.time;
    offset = is.offset ∙ among_kept inner (t ∷ []) is.place is.top old;
  })
  | inr (last, same) ↦ inr (
    is.message,
    subst (λ (u : Top). IsMessage u channel is.message) same is.is,
    is.time,
    is.offset ∙ ap (offset_among (inner ++ t ∷ [])) last ∙ among_seam inner (t ∷ []),
  )
]

-- a record that is no message
pub holds_other : (inner : List Top) (t : Top) (messages : List MessageHead) → HoldsMessages inner messages → ((channel : ℕ) (m : MessageFields) → IsMessage t channel m → ⊥) → HoldsMessages (inner ++ t ∷ []) messages
holds_other inner t messages was other = record {
  are = λ heard has. entry_kept inner (t ∷ []) heard.channel (entry_of heard) (was.are heard has);
  all = λ channel entry is. elim (entry_old inner t channel entry is) [
    | inl old ↦ was.all channel entry old
    | inr (m, shown, _, _) ↦ absurd (other channel m shown)
  ];
  once = was.once;
}

fields_same : (heard : MessageHead) (channel time offset : ℕ) → heard.channel ≡ channel → heard.time ≡ time → heard.offset ≡ offset → heard ≡ message_at_entry channel (time, offset)
fields_same heard channel time offset one two three =
    ap (λ (n : ℕ). message_at_entry n (heard.time, heard.offset)) one ∙ ap (λ (n : ℕ). message_at_entry channel (n, heard.offset)) two ∙ ap (λ (n : ℕ). message_at_entry channel (time, n)) three

-- a message
pub holds_more : (inner : List Top) (t : Top) (messages : List MessageHead) (heard : MessageHead) (m : MessageFields) → HoldsMessages inner messages → IsMessage t heard.channel m → heard.time ≡ m.log_time → heard.offset ≡ length (spelled inner)
    → HoldsMessages (inner ++ t ∷ []) (messages ++ heard ∷ [])
holds_more inner t messages heard m was is then there = record {
  are = λ x has. elim (at_more messages heard has.0 x has.1) [
    | inl old ↦ entry_kept inner (t ∷ []) x.channel (entry_of x) (was.are x (has.0, old))
    | inr (_, same) ↦ subst (λ (y : MessageHead). IsEntryOf (inner ++ t ∷ []) y.channel (entry_of y)) (sym same) (record {
      place = length inner;
      top = t;
      message = m;
      at = at_last inner t [];
      is = is;
      time = then;
      offset = there ∙ sym (among_seam inner (t ∷ []));
    })
  ];
  all = λ channel entry is_entry. elim (entry_old inner t channel entry is_entry) [
    | inl old ↦ has_kept messages (heard ∷ []) (message_at_entry channel entry) (was.all channel entry old)
    | inr (n, shown, first, second) ↦
        let one = message_once t heard.channel channel m n is shown in
        let same = fields_same heard channel entry.0 entry.1 one.0 (then ∙ ap (λ (x : MessageFields). x.log_time) one.1 ∙ sym first) (there ∙ sym second) in
        subst (Has (messages ++ heard ∷ [])) same (has_last messages heard [])
  ];
  once = pairs_more (λ (a b : MessageHead). a.offset ≢ b.offset) messages heard was.once (λ k x at. let below = entry_below inner x.channel (entry_of x) (was.are x (k, at)) in λ e. omega (arith, below, there, e));
}

-- ---- the heads that are listed

spelled_more : (xs : List Top) (t : Top) → length (spelled (xs ++ t ∷ [])) ≡ length (spelled xs) + length (top_bytes t)
spelled_more xs t =
    let size = ap length (flat_map-append top_bytes xs (t ∷ [])) in
    omega (arith, size, length-append (spelled xs) (top_bytes t ++ []), length-append (top_bytes t) [])

-- bytes that are enough for the fields of a Message are one
headed : (t : Top) → AreBytes t.content → is_headed t ≡ true → (m : MessageFields) × IsMessage t (channel_id_in t.content) m × (time_in t.content ≡ m.log_time)
headed t bytes is =
    let content = t.content in
    let both = and_parts (is_message_top t) (nat_le 22 (length content)) is in
    let long : 22 ≤ length content = leb-true 22 (length content) both.1 in
    let m : MessageFields = record { sequence = number (take 4 (drop 2 content)); log_time = time_in content; publish_time = number (take 8 (drop 14 content)); payload = drop 22 content } in (
      m,
      record {
        kind = eqb-true t.op 5 both.0;
        layout = message_read content (channel_id_in content) 2 6 14 22 m (number_spelled 2 content 0 bytes (omega (arith, long))) (number_spelled 4 content 2 bytes (omega (arith, long)))
            (number_spelled 8 content 6 bytes (omega (arith, long))) (number_spelled 8 content 14 bytes (omega (arith, long))) refl;
      },
      refl,
    )

-- others are none
unheaded : (t : Top) → is_headed t ≡ false → (channel : ℕ) (m : MessageFields) → IsMessage t channel m → ⊥
unheaded t other channel m is =
    both_ways (is_headed t) other (and_from (is_message_top t) (nat_le 22 (length t.content)) (eq-eqb t.op 5 is.kind) (le-leb 22 (length t.content) (message_long t channel m is)))

holds_head : (done : List Top) (t : Top) (messages : List MessageHead) → AreBytes t.content → HoldsMessages done messages
    → HoldsMessages (done ++ t ∷ []) (messages ++ heads_at (record { place = record { top = 0; inner = length (spelled done) }; top = t }))
holds_head done t messages bytes was = by (is_headed t) refl
  where
    head : MessageHead
    head = record { channel = channel_id_in t.content; time = time_in t.content; offset = length (spelled done) }

    by : (b : Bool) → is_headed t ≡ b → HoldsMessages (done ++ t ∷ []) (messages ++ cond b (head ∷ []) [])
    by true is = let (m, shown, time) = headed t bytes is in holds_more done t messages head m was shown time refl
    by false other = subst (HoldsMessages (done ++ t ∷ [])) (sym (append-nil messages)) (holds_other done t messages was (unheaded t other))

holds_heads : (more done : List Top) (messages : List MessageHead) → Each (λ t. AreBytes t.content) more → HoldsMessages done messages
    → HoldsMessages (done ++ more) (messages ++ flat_map heads_at (placed_inside 0 (length (spelled done)) more))
holds_heads [] done messages bytes was =
    subst (λ (l : List Top). HoldsMessages l (messages ++ [])) (sym (append-nil done)) (subst (HoldsMessages done) (sym (append-nil messages)) was)
holds_heads (t ∷ ts) done messages bytes was =
    let here = heads_at (record { place = record { top = 0; inner = length (spelled done) }; top = t }) in
    let one : HoldsMessages (done ++ t ∷ []) (messages ++ here) = holds_head done t messages (bytes 0 t refl) was in
    let rest = holds_heads ts (done ++ t ∷ []) (messages ++ here) (λ n u at. bytes (suc n) u at) one in
    subst (λ (l : List Top). HoldsMessages l (messages ++ (here ++ flat_map heads_at (placed_inside 0 (length (spelled done) + length (top_bytes t)) ts)))) (append_assoc done (t ∷ []) ts)
    (subst (HoldsMessages ((done ++ t ∷ []) ++ ts)) (append_assoc messages here (flat_map heads_at (placed_inside 0 (length (spelled done) + length (top_bytes t)) ts)))
    (subst (λ (n : ℕ). HoldsMessages ((done ++ t ∷ []) ++ ts) ((messages ++ here) ++ flat_map heads_at (placed_inside 0 n ts))) (spelled_more done t) rest))

-- the records among some bytes have bytes for their contents
records_have : (n : ℕ) (bytes : List ℕ) → AreBytes bytes → Each (λ t. AreBytes t.content) (first_records n bytes)
records_have zero bytes small = λ k t at. absurd (at_none k t at)
records_have (suc n) bytes small = by (begins_record bytes) (records_have n (behind_first bytes) (AreBytes-drop (9 + declared_length bytes) bytes small))
  where
    by : (b : Bool) → Each (λ t. AreBytes t.content) (first_records n (behind_first bytes)) → Each (λ t. AreBytes t.content) (cond b (first_top bytes ∷ first_records n (behind_first bytes)) [])
    by true rest = each_cons (λ t. AreBytes t.content) (first_top bytes) (first_records n (behind_first bytes)) (AreBytes-take (declared_length bytes) (drop 9 bytes) (AreBytes-drop 9 bytes small)) rest
    by false rest = λ k t at. absurd (at_none k t at)

records_have_bytes : (bytes : List ℕ) → AreBytes bytes → Each (λ t. AreBytes t.content) (records_in bytes)
unfolding records_in
records_have_bytes bytes small = records_have (length bytes) bytes small

holds_none : HoldsMessages [] []
holds_none = record {
  are = λ heard has. absurd (at_none has.0 heard has.1);
  all = λ channel entry is. absurd (at_none is.place is.top is.at);
  once = λ i j d less within. absurd (omega (arith, within));
}

-- the heads that are listed are the Messages among the records
pub heads_hold : (bytes : List ℕ) → AreBytes bytes → HoldsMessages (records_in bytes) (heads_in bytes)
heads_hold bytes small = holds_heads (records_in bytes) [] [] (records_have_bytes bytes small) holds_none

-- where there is one of them, one of the records is a Message
pub has_message : (records : List Top) (messages : List MessageHead) → HoldsMessages records messages → (messages ≡ [] → ⊥) → HasMessage records
has_message records [] holds some = absurd (some refl)
has_message records (m ∷ ms) holds some =
    let is = holds.are m (0, refl) in
    let shown = is.is in
    (is.place, is.top, is.at, shown.kind)

-- where there is none, none is
pub has_none : (records : List Top) (messages : List MessageHead) → Each V6 records → HoldsMessages records messages → messages ≡ [] → HasMessage records → ⊥
has_none records messages meets holds none has =
    let (n, t, at, kind) = has in
    let rules = meets n t at in
    let (channel, m, is) = rules.message kind in
    let entry : ℕ × ℕ = (m.log_time, offset_among records n) in
    let there = holds.all channel entry (record { place = n; top = t; message = m; at = at; is = is; time = refl; offset = refl }) in
    at_none there.0 (message_at_entry channel entry) (subst (λ (l : List MessageHead). At l there.0 (message_at_entry channel entry)) none there.1)
