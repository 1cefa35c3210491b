-- The messages of a block, their channels, and the entries of its Message Indexes.
use Rattle.std.proofs.Common.{◌≡◌, ◌⊎◌, ℕ, zero, suc, ◌+◌, ◌*◌, ◌^◌, ◌<◌, ◌≤◌, Bool, true, false, List, [], ◌∷◌, ◌++◌, length, take, map, Some, refl, sym, ap, subst, inl, inr, ◌∙◌, arith}
use Rattle.std.specs.Prelude.{filter, fold, AllPairs, nat_lt, ◌==◌, if◌then◌else◌}
use Rattle.std.proofs.lemmas.Bool.{cases_lt, eqb-true, eq-eqb, ltb-true, ltb-false, eqb-false}
use Rattle.std.proofs.lemmas.List.{length-append, length-map, take-map}
use Rattle.std.proofs.lemmas.Grind.{flat_map-append}
use Rattle.std.proofs.Math.Nat.{mul-suc}
use Rattle.std.proofs.lemmas.List.Kept.{AllPairs-filter}
use Rattle.mcap_wire.specs.Arrays.{entry_text, entry_texts}
use Rattle.mcap_wire.proofs.Numbers.{length-le}
use Rattle.mcap_wire.specs.Layout.{le}
use Rattle.rec_data.specs.declared.owned.Rec.{Rec}
use Rattle.rec_data.specs.declared.owned.Rec.TheVariants.{Schema, Channel, Message, Extra}
use Rattle.rec_data.specs.Owned.{rec_bytes}
use Rattle.mcap_model.specs.Places.{At, Has, Each}
use Rattle.mcap_model.specs.Tops.{Top, spelled}
use Rattle.mcap_model.specs.Fields.{MessageFields, IsMessage}
use Rattle.mcap_model.specs.History.{rec_top, message_of, history_bytes}
use Rattle.mcap_model.specs.Blocks.{Logged, logged_from, logged, with_id, logged_channels, entries_for}
use Rattle.mcap_model.specs.Summary.{messages_on}
use Rattle.mcap_model.specs.Whole.{offset_among, AreEntries}
use Rattle.mcap_model.specs.ReadBack.{IsReadBack}
use Rattle.mcap_model.proofs.Places.{at_none}
use Rattle.mcap_model.proofs.ReadBack.{at_map, message_back}
use Rattle.mcap_model.proofs.Readings.{length-top}
use Rattle.mcap_model.proofs.Histories.{message_shown}
use Rattle.mcap_model.proofs.WrittenChunks.{spelled_recs}
use Rattle.mcap_model.proofs.Lists.{cut_at, filter_passed, filter_has, pairs_at, pairs_from, pairs_cons}
use Rattle.std.proofs.lemmas.Option.{same_Some}
use Rattle.mcap_model.proofs.Flat.{at_mapped}

-- ---- messages and their offsets

abbrev pub size_before : List Rec → ℕ → ℕ
size_before records n = length (history_bytes (take n records))

pub record IsLoggedAt (start : ℕ) (records : List Rec) (e : Logged) : Type 0 where
  pub place : ℕ
  pub message : MessageFields
  pub at : At records place (message_of e.channel message)
  pub time : e.time ≡ message.log_time
  pub offset : e.offset ≡ start + size_before records place

size_more : (r : Rec) (rs : List Rec) (n : ℕ) → size_before (r ∷ rs) (suc n) ≡ length (rec_bytes r) + size_before rs n
size_more r rs n = length-append (rec_bytes r) (history_bytes (take n rs))

later : (at : ℕ) (r : Rec) (rs : List Rec) (e : Logged) → IsLoggedAt (at + length (rec_bytes r)) rs e → IsLoggedAt at (r ∷ rs) e
later at r rs e l = record {
  place = suc l.place;
  message = l.message;
  at = l.at;
  time = l.time;
  offset = omega (arith, l.offset, size_more r rs l.place);
}

pub logged_is : (at : ℕ) (records : List Rec) (k : ℕ) (e : Logged) → At (logged_from at records) k e → IsLoggedAt at records e
logged_is at [] k e there = absurd (at_none k e there)
logged_is at (Schema id s ∷ rs) k e there = later at (Schema id s) rs e (logged_is (at + length (rec_bytes (Schema id s))) rs k e there)
logged_is at (Channel id schema topic encoding metadata ∷ rs) k e there =
    let r = Channel id schema topic encoding metadata in later at r rs e (logged_is (at + length (rec_bytes r)) rs k e there)
logged_is at (Message own sequence log_time publish_time payload ∷ rs) zero e there =
    let first : Logged = record { channel = own; time = log_time; offset = at } in
    subst (IsLoggedAt at (Message own sequence log_time publish_time payload ∷ rs)) (same_Some first e there) (record {
      place = zero;
      message = record { sequence = sequence; log_time = log_time; publish_time = publish_time; payload = payload };
      at = refl;
      time = refl;
      offset = omega arith;
    })
logged_is at (Message own sequence log_time publish_time payload ∷ rs) (suc k) e there =
    let r = Message own sequence log_time publish_time payload in later at r rs e (logged_is (at + length (rec_bytes r)) rs k e there)
logged_is at (Extra op content ∷ rs) k e there = let r = Extra op content in later at r rs e (logged_is (at + length (rec_bytes r)) rs k e there)

abbrev pub logged_as : ℕ → ℕ → ℕ → Logged
logged_as channel time offset = record { channel = channel; time = time; offset = offset }

-- the offset of a record behind another
offset_more : (at : ℕ) (r : Rec) (rs : List Rec) (n channel time : ℕ) (l : List Logged) → Has l (logged_as channel time ((at + length (rec_bytes r)) + size_before rs n)) → Has l (logged_as channel time (at + size_before (r ∷ rs) (suc n)))
offset_more at r rs n channel time l has =
    let same : (at + length (rec_bytes r)) + size_before rs n ≡ at + size_before (r ∷ rs) (suc n) = omega (arith, size_more r rs n) in
    subst (λ (k : ℕ). Has l (logged_as channel time k)) same has

pub logged_has : (at : ℕ) (records : List Rec) (n channel : ℕ) (m : MessageFields) → At records n (message_of channel m) → Has (logged_from at records) (logged_as channel m.log_time (at + size_before records n))
logged_has at [] n channel m there = absurd (at_none n (message_of channel m) there)
logged_has at (r ∷ rs) zero channel m there =
    let same : at ≡ at + size_before (r ∷ rs) 0 = omega arith in
    subst (λ (x : Rec). Has (logged_from at (x ∷ rs)) (logged_as channel m.log_time (at + size_before (r ∷ rs) 0))) (sym (same_Some r (message_of channel m) there))
    (zero, ap (λ (k : ℕ). Some (logged_as channel m.log_time k)) same)
logged_has at (Schema id s ∷ rs) (suc n) channel m there =
    let r = Schema id s in offset_more at r rs n channel m.log_time (logged_from at (r ∷ rs)) (logged_has (at + length (rec_bytes r)) rs n channel m there)
logged_has at (Channel id schema topic encoding metadata ∷ rs) (suc n) channel m there =
    let r = Channel id schema topic encoding metadata in offset_more at r rs n channel m.log_time (logged_from at (r ∷ rs)) (logged_has (at + length (rec_bytes r)) rs n channel m there)
logged_has at (Message own sequence log_time publish_time payload ∷ rs) (suc n) channel m there =
    let r = Message own sequence log_time publish_time payload in
    let more = logged_has (at + length (rec_bytes r)) rs n channel m there in
    offset_more at r rs n channel m.log_time (logged_from at (r ∷ rs)) (suc more.0, more.1)
logged_has at (Extra op content ∷ rs) (suc n) channel m there =
    let r = Extra op content in offset_more at r rs n channel m.log_time (logged_from at (r ∷ rs)) (logged_has (at + length (rec_bytes r)) rs n channel m there)

-- the offsets rise
pub logged_rises : (at : ℕ) (records : List Rec) → AllPairs (λ e f. e.offset < f.offset) (logged_from at records)
logged_rises at [] = pairs_from (λ e f. e.offset < f.offset) [] (λ i j x y less there other. absurd (at_none i x there))
logged_rises at (Schema id s ∷ rs) = logged_rises (at + length (rec_bytes (Schema id s))) rs
logged_rises at (Channel id schema topic encoding metadata ∷ rs) = logged_rises (at + length (rec_bytes (Channel id schema topic encoding metadata))) rs
logged_rises at (Extra op content ∷ rs) = logged_rises (at + length (rec_bytes (Extra op content))) rs
logged_rises at (Message own sequence log_time publish_time payload ∷ rs) =
    let r = Message own sequence log_time publish_time payload in
    pairs_cons (λ e f. e.offset < f.offset) (logged_as own log_time at) (logged_from (at + length (rec_bytes r)) rs)
    (λ n e there. let l = logged_is (at + length (rec_bytes r)) rs n e there in omega (arith, l.offset, length-top (rec_top r)))
    (logged_rises (at + length (rec_bytes r)) rs)

pub before_within : (records : List Rec) (n : ℕ) (r : Rec) → At records n r → size_before records n + 9 ≤ length (history_bytes records)
before_within records n r at =
    let cut = cut_at records n r at in
    let size : length (history_bytes records) ≡ length (history_bytes (take n records) ++ history_bytes (r ∷ cut.0)) = ap (λ (l : List Rec). length (history_bytes l)) cut.1 ∙ ap length (flat_map-append rec_bytes (take n records) (r ∷ cut.0)) in
    omega (arith, size, length-append (history_bytes (take n records)) (history_bytes (r ∷ cut.0)), length-append (rec_bytes r) (history_bytes cut.0), length-top (rec_top r))

-- ---- channels

pub has_id : (xs : List ℕ) (id c : ℕ) → Has (with_id xs id) c → (c ≡ id) ⊎ Has xs c
has_id [] id c (zero, there) = inl (sym (same_Some id c there))
has_id [] id c (suc k, there) = absurd (at_none k c there)
has_id (x ∷ xs) id c has = by (nat_lt id x) (id == x) (λ more. has_id xs id c more) has
  where
    by : (a b : Bool) → (Has (with_id xs id) c → (c ≡ id) ⊎ Has xs c) → Has (if a then id ∷ x ∷ xs else if b then x ∷ xs else x ∷ with_id xs id) c → (c ≡ id) ⊎ Has (x ∷ xs) c
    by true b rest (zero, there) = inl (sym (same_Some id c there))
    by true b rest (suc k, there) = inr (k, there)
    by false true rest has = inr has
    by false false rest (zero, there) = inr (zero, there)
    by false false rest (suc k, there) = elim (rest (k, there)) [
      | inl same ↦ inl same
      | inr old ↦ inr (suc old.0, old.1)
    ]

pub id_has : (xs : List ℕ) (id c : ℕ) → (c ≡ id) ⊎ Has xs c → Has (with_id xs id) c
id_has [] id c (inl same) = (zero, ap Some (sym same))
id_has [] id c (inr old) = absurd (at_none old.0 c old.1)
id_has (x ∷ xs) id c given = by (nat_lt id x) (id == x) refl (λ more. id_has xs id c more) given
  where
    by : (a b : Bool) → (id == x) ≡ b → ((c ≡ id) ⊎ Has xs c → Has (with_id xs id) c) → (c ≡ id) ⊎ Has (x ∷ xs) c → Has (if a then id ∷ x ∷ xs else if b then x ∷ xs else x ∷ with_id xs id) c
    by true b is rest (inl same) = (zero, ap Some (sym same))
    by true b is rest (inr (k, there)) = (suc k, there)
    by false true is rest (inl same) = (zero, ap Some (sym (same ∙ eqb-true id x is)))
    by false true is rest (inr old) = old
    by false false is rest (inl same) = let more = rest (inl same) in (suc more.0, more.1)
    by false false is rest (inr (zero, there)) = (zero, there)
    by false false is rest (inr (suc k, there)) = let more = rest (inr (k, there)) in (suc more.0, more.1)

abbrev pub Ascends : List ℕ → Type 0
Ascends = AllPairs (λ a b. a < b)

none_ascend : Ascends []
none_ascend = pairs_from (λ a b. a < b) [] (λ i j x y less there other. absurd (at_none i x there))

pub with_ascends : (xs : List ℕ) (id : ℕ) → Ascends xs → Ascends (with_id xs id)
with_ascends [] id up = pairs_cons (λ a b. a < b) id [] (λ n x at. absurd (at_none n x at)) none_ascend
with_ascends (x ∷ xs) id up =
    let rest : Ascends xs = pairs_from (λ a b. a < b) xs (λ i j y z less at other. pairs_at (λ a b. a < b) (x ∷ xs) up (suc i) (suc j) y z (omega (arith, less)) at other) in
    by (nat_lt id x) (id == x) refl refl rest (with_ascends xs id rest)
  where
    above : Each (λ y. x < y) xs
    above n y at = pairs_at (λ a b. a < b) (x ∷ xs) up 0 (suc n) x y (omega arith) refl at

    first_of : id < x → Each (λ y. id < y) (x ∷ xs)
    first_of less zero y at = let same = same_Some x y at in omega (arith, less, same)
    first_of less (suc n) y at = let more = above n y at in omega (arith, less, more)

    behind : x < id → (y : ℕ) → (y ≡ id) ⊎ Has xs y → x < y
    behind less y (inl same) = omega (arith, less, same)
    behind less y (inr old) = above old.0 y old.1

    by : (a b : Bool) → nat_lt id x ≡ a → (id == x) ≡ b → Ascends xs → Ascends (with_id xs id) → Ascends (if a then id ∷ x ∷ xs else if b then x ∷ xs else x ∷ with_id xs id)
    by true b is same rest more = pairs_cons (λ p q. p < q) id (x ∷ xs) (first_of (ltb-true id x is)) up
    by false true is same rest more = up
    by false false is same rest more =
        let low = ltb-false id x is in
        let apart = eqb-false id x same in
        let less : x < id = omega (arith, low, apart) in
        pairs_cons (λ p q. p < q) x (with_id xs id) (λ n y at. behind less y (has_id xs id y (n, at))) more

fold_has : (acc ids : List ℕ) (c : ℕ) → Has (fold with_id acc ids) c → Has acc c ⊎ Has ids c
fold_has acc [] c has = inl has
fold_has acc (id ∷ ids) c has = elim (fold_has (with_id acc id) ids c has) [
  | inl old ↦ elim (has_id acc id c old) [
    | inl same ↦ inr (zero, ap Some (sym same))
    | inr older ↦ inl older
  ]
  | inr new ↦ inr (suc new.0, new.1)
]

has_fold : (acc ids : List ℕ) (c : ℕ) → Has acc c ⊎ Has ids c → Has (fold with_id acc ids) c
has_fold acc [] c (inl old) = old
has_fold acc [] c (inr new) = absurd (at_none new.0 c new.1)
has_fold acc (id ∷ ids) c (inl old) = has_fold (with_id acc id) ids c (inl (id_has acc id c (inr old)))
has_fold acc (id ∷ ids) c (inr (zero, there)) = has_fold (with_id acc id) ids c (inl (id_has acc id c (inl (sym (same_Some id c there)))))
has_fold acc (id ∷ ids) c (inr (suc k, there)) = has_fold (with_id acc id) ids c (inr (k, there))

fold_ascends : (acc ids : List ℕ) → Ascends acc → Ascends (fold with_id acc ids)
fold_ascends acc [] up = up
fold_ascends acc (id ∷ ids) up = fold_ascends (with_id acc id) ids (with_ascends acc id up)

pub channels_ascend : (records : List Rec) → Ascends (logged_channels records)
channels_ascend records = fold_ascends [] (map (λ e. e.channel) (logged records)) none_ascend

-- the channels are those of the messages
pub channel_logs : (records : List Rec) (c : ℕ) → Has (logged_channels records) c → (e : Logged) × Has (logged records) e × (e.channel ≡ c)
channel_logs records c has = elim (fold_has [] (map (λ e. e.channel) (logged records)) c has) [
  | inl none ↦ absurd (at_none none.0 c none.1)
  | inr (k, there) ↦ let (e, at, same) = at_map (λ (e : Logged). e.channel) (logged records) k c there in (e, (k, at), sym same)
]

pub logs_channel : (records : List Rec) (e : Logged) → Has (logged records) e → Has (logged_channels records) e.channel
logs_channel records e has = has_fold [] (map (λ (x : Logged). x.channel) (logged records)) e.channel (inr (has.0, at_mapped (λ (x : Logged). x.channel) (logged records) has.0 e has.1))

pub message_channel : (records : List Rec) (n channel : ℕ) (m : MessageFields) → At records n (message_of channel m) → Has (logged_channels records) channel
message_channel records n channel m at = logs_channel records (logged_as channel m.log_time (0 + size_before records n)) (logged_has 0 records n channel m at)

pub channels_fit : (records : List Rec) → Each IsReadBack records → Each (λ c. c < 2 ^ 16) (logged_channels records)
channels_fit records back n c at =
    let (e, has, same) = channel_logs records c (n, at) in
    let l = logged_is 0 records has.0 e has.1 in
    let shown = (back l.place (message_of e.channel l.message) l.at).1 in
    let fit = shown.fit in
    let small : e.channel < 256 ^ 2 = fit.0 in
    omega (arith, small, same)

-- numbers that ascend in a range are few
pub ascending_few : (low high : ℕ) (xs : List ℕ) → Ascends xs → Each (λ x. (low ≤ x) × (x < high)) xs → low ≤ high → low + length xs ≤ high
ascending_few low high [] up within less = omega (arith, less)
ascending_few low high (x ∷ xs) up within less =
    let first = within 0 x refl in
    let above : Each (λ y. (suc x ≤ y) × (y < high)) xs = λ n y at. (pairs_at (λ a b. a < b) (x ∷ xs) up 0 (suc n) x y (omega arith) refl at, (let one = within (suc n) y at in one.1)) in
    let rest : Ascends xs = pairs_from (λ a b. a < b) xs (λ i j y z under at other. pairs_at (λ a b. a < b) (x ∷ xs) up (suc i) (suc j) y z (omega (arith, under)) at other) in
    let more = ascending_few (suc x) high xs rest above first.1 in
    omega (arith, more, first.0)

pub few_channels : (records : List Rec) → Each IsReadBack records → length (logged_channels records) ≤ 65536
few_channels records back =
    let most = ascending_few 0 65536 (logged_channels records) (channels_ascend records) (λ n c at. let fit = channels_fit records back n c at in (omega arith, omega (arith, fit))) (omega arith) in
    omega (arith, most)

-- ---- entries

abbrev pub entry_of : Logged → ℕ × ℕ
entry_of e = (e.time, e.offset)

pair : ℕ → ℕ → ℕ × ℕ
pair a b = (a, b)

pub pair_same : (p : ℕ × ℕ) (a b : ℕ) → p.0 ≡ a → p.1 ≡ b → ◌≡◌ {A = ℕ × ℕ} p (a, b)
unfolding pair
pair_same p a b first second = ap (λ (n : ℕ). pair n p.1) first ∙ ap (pair a) second

pub entries_are : (records : List Rec) (channel : ℕ) (entry : ℕ × ℕ) → Has (entries_for records channel) entry → (n : ℕ) × (m : MessageFields) × At records n (message_of channel m) × (entry.0 ≡ m.log_time) × (entry.1 ≡ size_before records n)
entries_are records channel entry has =
    let (e, at, same) = at_map entry_of (filter (λ e. e.channel == channel) (logged records)) has.0 entry has.1 in
    let (is, passes) = filter_passed (λ (e : Logged). e.channel == channel) (logged records) has.0 e at in
    let l = logged_is 0 records is.0 e is.1 in
    let own = eqb-true e.channel channel passes in
    let time : entry.0 ≡ e.time = ap (λ (p : ℕ × ℕ). p.0) same in
    let offset : entry.1 ≡ e.offset = ap (λ (p : ℕ × ℕ). p.1) same in
    (l.place, l.message, subst (λ (c : ℕ). At records l.place (message_of c l.message)) own l.at, time ∙ l.time, omega (arith, offset, l.offset))

pub are_entries : (records : List Rec) (channel n : ℕ) (m : MessageFields) (entry : ℕ × ℕ) → At records n (message_of channel m) → entry.0 ≡ m.log_time → entry.1 ≡ size_before records n → Has (entries_for records channel) entry
are_entries records channel n m entry at time offset =
    let e = logged_as channel m.log_time (0 + size_before records n) in
    let has = logged_has 0 records n channel m at in
    let passed = filter_has (λ (e : Logged). e.channel == channel) (logged records) has.0 e has.1 (eq-eqb channel channel refl) in
    let there = at_mapped entry_of (filter (λ e. e.channel == channel) (logged records)) passed.0 e passed.1 in
    let same : ◌≡◌ {A = ℕ × ℕ} entry (m.log_time, 0 + size_before records n) = pair_same entry m.log_time (0 + size_before records n) time (omega (arith, offset)) in
    (passed.0, subst {A = ℕ × ℕ} (λ p. At (entries_for records channel) passed.0 p) (sym same) there)

-- each entry stands once
pub entries_once : (records : List Rec) (channel i j : ℕ) (entry : ℕ × ℕ) → At (entries_for records channel) i entry → At (entries_for records channel) j entry → i ≡ j
entries_once records channel i j entry one other =
    let kept = filter (λ e. e.channel == channel) (logged records) in
    let rises = AllPairs-filter (λ (e f : Logged). e.offset < f.offset) (λ e. e.channel == channel) (logged records) (logged_rises 0 records) in
    let (e, at_e, same_e) = at_map entry_of kept i entry one in
    let (f, at_f, same_f) = at_map entry_of kept j entry other in
    let offsets : e.offset ≡ f.offset = ap {B = ℕ} (λ (p : ℕ × ℕ). p.1) (sym same_e ∙ same_f) in
    elim (cases_lt i j) [
      | inl less ↦ let up = pairs_at (λ (e f : Logged). e.offset < f.offset) kept rises i j e f less at_e at_f in absurd (omega (arith, up, offsets))
      | inr more ↦ elim (cases_lt j i) [
        | inl under ↦ let up = pairs_at (λ (e f : Logged). e.offset < f.offset) kept rises j i f e under at_f at_e in absurd (omega (arith, up, offsets))
        | inr less ↦ omega (arith, more, less)
      ]
    ]

pub spelled_taken : (records : List Rec) (n : ℕ) → offset_among (map rec_top records) n ≡ size_before records n
spelled_taken records n = ap (λ (l : List Top). length (spelled l)) (take-map rec_top n records) ∙ ap length (spelled_recs (take n records))

-- the entries that are written are those of the channel's messages
pub written_entries : (records : List Rec) (channel : ℕ) → Each IsReadBack records → AreEntries (map rec_top records) channel (entries_for records channel)
written_entries records channel back = record {
  are = λ entry has.
      let (n, m, at, time, offset) = entries_are records channel entry has in
      record {
        place = n;
        top = rec_top (message_of channel m);
        message = m;
        at = at_mapped rec_top records n (message_of channel m) at;
        is = message_shown channel m (back n (message_of channel m) at);
        time = time;
        offset = offset ∙ sym (spelled_taken records n);
      };
  all = λ entry is.
      let (r, at, same) = at_map rec_top records is.place is.top is.at in
      let shown : IsMessage (rec_top r) channel is.message = subst (λ (t : Top). IsMessage t channel is.message) same is.is in
      let own = message_back r channel is.message (back is.place r at) shown in
      are_entries records channel is.place is.message entry (subst (λ (x : Rec). At records is.place x) own at) is.time (is.offset ∙ spelled_taken records is.place);
  once = λ i j entry one other. entries_once records channel i j entry one other;
}

pub length-entries : (n : ℕ) (entries : List (ℕ × ℕ)) → length (entry_texts n entries) ≡ (n + 8) * length entries
length-entries n [] = omega arith
length-entries n (e ∷ es) =
    let more = length-entries n es in
    let step : (n + 8) * suc (length es) ≡ (n + 8) * length es + (n + 8) = mul-suc (n + 8) (length es) in
    omega (arith, more, step, length-append (entry_text n e) (entry_texts n es), length-append (le n e.0) (le 8 e.1), length-le n e.0, length-le 8 e.1)

pub count_entries : (records : List Rec) (channel : ℕ) → length (entries_for records channel) ≡ messages_on records channel
count_entries records channel = length-map (filter (λ e. e.channel == channel) (logged records)) entry_of
