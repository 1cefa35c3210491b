-- What a replay of a fully indexed file asks for is at most its Message Indexes and its messages in the range.
use Rattle.std.proofs.Common.{◌≡◌, ℕ, zero, suc, ◌+◌, ◌-◌, ◌≤◌, Bool, true, false, cond, List, [], ◌∷◌, ◌++◌, length, take, drop, Option, None, Some, sum, refl, sym, ap, subst, inl, inr, ◌∙◌, append_assoc, arith}
use Rattle.std.specs.Prelude.{◌≢◌, ◌&&◌, nat_le, filter, sum_by, if◌then◌else◌}
use Rattle.std.proofs.lemmas.Bool.{eq-eqb}
use Rattle.std.proofs.lemmas.List.{length-append, take_at, drop_at}
use Rattle.std.proofs.lemmas.List.Sums.{sum_by-append, sum_by-cons}
use Rattle.mcap_wire.specs.Layout.{le, number, part}
use Rattle.mcap_wire.specs.Maps.{KeysDiffer}
use Rattle.mcap_wire.proofs.Numbers.{length-le, number-le}
use Rattle.mcap_model.specs.declared.replay.Range.{Range}
use Rattle.mcap_model.specs.Places.{At, Has, Each}
use Rattle.mcap_model.specs.Tops.{Top, top_bytes, spelled}
use Rattle.mcap_model.specs.Fields.{MessageFields, IsMessage, IsMessageIndex, ChunkIndexFields, IsChunkIndex}
use Rattle.mcap_model.specs.Scan.{is_within}
use Rattle.mcap_model.specs.Whole.{offset_among, IsEntryOf}
use Rattle.mcap_model.specs.Led.{IsThere, log_time_in, is_timely}
use Rattle.indexed_replay.specs.Bounds.{is_asked}
use Rattle.mcap_model.specs.Led as led
use Rattle.mcap_model.specs.Scan as plain
use Rattle.mcap_model.proofs.Places.{at_none, at_one}
use Rattle.mcap_model.proofs.Lists.{each_cons, each_joined, pairs_at, pairs_from}
use Rattle.mcap_model.proofs.Readings.{length-top}
use Rattle.mcap_model.proofs.Maps.{message_once, message_long}
use Rattle.mcap_model.proofs.Once.{message_index_once}
use Rattle.indexed_replay.specs.Costs.{message_cost, entry_cost, entries_cost, chosen_cost, own_list, spot_of, NamesCost, no_name, next_name}
use Rattle.indexed_replay.proofs.Headed.{there_begun}
use Rattle.indexed_replay.proofs.Messaging.{whole_cost}
use Rattle.indexed_replay.proofs.Weighed.{AreApart, apart_joined, weight_at, weight_is}

-- ---- fields

pub names_differ : (t : Top) (f : ChunkIndexFields) → IsChunkIndex t f → KeysDiffer f.indexes
names_differ t f is = let layout = is.layout in let row = layout.1 in let fit = row.fit in fit.1.1.1.1.0.2

log_time_is : (t : Top) (channel : ℕ) (m : MessageFields) → IsMessage t channel m → log_time_in t ≡ m.log_time
log_time_is t channel m is =
    let layout = is.layout in
    let fit = layout.fit in
    let front = le 2 channel ++ le 4 m.sequence in
    let behind = le 8 m.publish_time ++ m.payload in
    let split : t.content ≡ front ++ (le 8 m.log_time ++ behind) = layout.spelled_there ∙ sym (append_assoc (le 2 channel) (le 4 m.sequence) (le 8 m.log_time ++ behind)) in
    let size : length front ≡ 6 = omega (arith, length-append (le 2 channel) (le 4 m.sequence), length-le 2 channel, length-le 4 m.sequence) in
    ap (λ (l : List ℕ). number (part 6 14 l)) split ∙ ap (λ (l : List ℕ). number (take 8 l)) (drop_at front (le 8 m.log_time ++ behind) 6 size)
    ∙ ap number (take_at (le 8 m.log_time) behind 8 (length-le 8 m.log_time)) ∙ number-le 8 m.log_time fit.1.1.0

-- ---- messages in the range

abbrev pub asked_size : Range → (ℕ → Bool) → Top → ℕ
asked_size range chosen t = if is_asked range chosen t then length (top_bytes t) else 0

abbrev pub top_size : Top → ℕ
top_size t = length (top_bytes t)

pub spelled_size : (ts : List Top) → length (spelled ts) ≡ sum_by top_size ts
spelled_size [] = refl
spelled_size (t ∷ ts) = omega (arith, length-append (top_bytes t) (spelled ts), spelled_size ts, sum_by-cons top_size t ts)

pub asked_sum : (range : Range) (chosen : ℕ → Bool) (ts : List Top) → length (spelled (filter (is_asked range chosen) ts)) ≡ sum_by (asked_size range chosen) ts
asked_sum range chosen [] = refl
asked_sum range chosen (t ∷ ts) = by (is_asked range chosen t) (asked_sum range chosen ts) ∙ sym (sum_by-cons (asked_size range chosen) t ts)
  where
    by : (b : Bool) → length (spelled (filter (is_asked range chosen) ts)) ≡ sum_by (asked_size range chosen) ts → length (spelled (cond b (t ∷ filter (is_asked range chosen) ts) (filter (is_asked range chosen) ts))) ≡ cond b (length (top_bytes t)) 0 + sum_by (asked_size range chosen) ts
    by true same = length-append (top_bytes t) (spelled (filter (is_asked range chosen) ts)) ∙ ap (λ (n : ℕ). length (top_bytes t) + n) same
    by false same = omega (arith, same)

before_same : (time : ℕ) (end : Option ℕ) → led.is_before time end ≡ plain.is_before_end end time
before_same time None = refl
before_same time (Some end) = refl

timely_is : (range : Range) (t : Top) (channel time : ℕ) (m : MessageFields) → IsMessage t channel m → time ≡ m.log_time → is_timely range t ≡ is_within range time
timely_is range t channel time m is logs =
    let logged : log_time_in t ≡ time = log_time_is t channel m is ∙ sym logs in
    ap (λ (b : Bool). b && (nat_le range.start (log_time_in t) && led.is_before (log_time_in t) range.end)) (eq-eqb t.op 5 is.kind)
    ∙ ap (λ (n : ℕ). nat_le range.start n && led.is_before n range.end) logged
    ∙ ap (λ (b : Bool). nat_le range.start time && b) (before_same time range.end)

channel_is : (t : Top) (channel : ℕ) (m : MessageFields) → IsMessage t channel m → number (take 2 t.content) ≡ channel
channel_is t channel m is =
    let layout = is.layout in
    let fit = layout.fit in
    ap (λ (l : List ℕ). number (take 2 l)) layout.spelled_there
    ∙ ap number (take_at (le 2 channel) (le 4 m.sequence ++ (le 8 m.log_time ++ (le 8 m.publish_time ++ m.payload))) 2 (length-le 2 channel))
    ∙ number-le 2 channel fit.0

and_true : (b : Bool) → (b && true) ≡ b
and_true true = refl
and_true false = refl

asked_is : (range : Range) (chosen : ℕ → Bool) (t : Top) (channel time : ℕ) (m : MessageFields) → IsMessage t channel m → time ≡ m.log_time → chosen channel ≡ true → is_asked range chosen t ≡ is_within range time
asked_is range chosen t channel time m is logs on =
    ap (λ (b : Bool). b && chosen (number (take 2 t.content))) (timely_is range t channel time m is logs)
    ∙ ap (λ (n : ℕ). is_within range time && chosen n) (channel_is t channel m is)
    ∙ ap (λ (b : Bool). is_within range time && b) on
    ∙ and_true (is_within range time)

entry_size : (file : List ℕ) (range : Range) (chosen : ℕ → Bool) (chunk channel : ℕ) (entry : ℕ × ℕ) (t : Top) (m : MessageFields) → chosen channel ≡ true → IsMessage t channel m → entry.0 ≡ m.log_time → IsThere file (chunk + 49 + entry.1) t → entry_cost file range chunk entry ≡ asked_size range chosen t
entry_size file range chosen chunk channel entry t m on is time there =
    let begun = there_begun file (chunk + 49 + entry.1) t there in
    let size : message_cost file (chunk + 49 + entry.1) ≡ length (top_bytes t) = omega (arith, whole_cost file (chunk + 49 + entry.1) (omega (arith, begun.1, begun.3, length-top t)), begun.1, length-top t, message_long t channel m is) in
    ap (λ (b : Bool). cond b (message_cost file (chunk + 49 + entry.1)) 0) (sym (asked_is range chosen t channel entry.0 m is time on)) ∙ ap (λ (n : ℕ). cond (is_asked range chosen t) n 0) size

-- ---- entries

-- an entry leads to the message at that place
pub record LeadsHere (records : List Top) (channel : ℕ) (entries : List (ℕ × ℕ)) (j : ℕ) : Type 0 where
  pub entry : ℕ × ℕ
  pub has : Has {X = ℕ × ℕ} entries entry
  pub top : Top
  pub message : MessageFields
  pub at : At records j top
  pub is : IsMessage top channel message
  pub time : entry.0 ≡ message.log_time
  pub offset : entry.1 ≡ offset_among records j

-- the places to which entries lead whose messages cost so much
pub record Places (range : Range) (chosen : ℕ → Bool) (records : List Top) (channel : ℕ) (entries : List (ℕ × ℕ)) (cost : ℕ) : Type 0 where
  pub places : List ℕ
  pub apart : AreApart places
  pub from : Each (LeadsHere records channel entries) places
  pub few : cost ≤ sum_by (weight_at (asked_size range chosen) records) places

pair_same : (a b c d : ℕ) → a ≡ c → b ≡ d → Rattle.std.proofs.Common.◌≡◌ {A = ℕ × ℕ} (a, b) (c, d)
pair_same a b c d one two = cc

entry_once : (records : List Top) (channel j k : ℕ) (e f : ℕ × ℕ) (es fs : List (ℕ × ℕ)) (one : LeadsHere records channel es j) (other : LeadsHere records channel fs k) → one.entry ≡ e → other.entry ≡ f → j ≡ k → e ≡ f
entry_once records channel j k e f es fs one other first second same =
    let tops = at_one records k one.top other.top (subst (λ (n : ℕ). At records n one.top) same one.at) other.at in
    let once = message_once other.top channel channel one.message other.message (subst (λ (t : Top). IsMessage t channel one.message) tops one.is) other.is in
    let times : (one.entry).0 ≡ (other.entry).0 = one.time ∙ ap (λ (m : MessageFields). m.log_time) once.1 ∙ sym other.time in
    let offsets : (one.entry).1 ≡ (other.entry).1 = one.offset ∙ ap (offset_among records) same ∙ sym other.offset in
    sym first ∙ pair_same (one.entry).0 (one.entry).1 (other.entry).0 (other.entry).1 times offsets ∙ second

module _ (file : List ℕ) (range : Range) (chosen : ℕ → Bool) (chunk : ℕ) (records : List Top) (behind : (j : ℕ) (u : Top) → At records j u → IsThere file (chunk + 49 + offset_among records j) u) (channel : ℕ) where
  entry_places : chosen channel ≡ true → (es : List (ℕ × ℕ)) → ((e : ℕ × ℕ) → Has es e → IsEntryOf records channel e) → ((i j : ℕ) (e : ℕ × ℕ) → At es i e → At es j e → i ≡ j) → Places range chosen records channel es (entries_cost file range chunk es)
  entry_places on [] are once = record { places = []; apart = tt; from = λ n j none. absurd (at_none n j none); few = omega arith }
  entry_places on (e ∷ es) are once =
      let rest = entry_places on es (λ d has. are d (suc has.0, has.1)) (λ i j d one other. let same = once (suc i) (suc j) d one other in omega (arith, same)) in
      let found = are e (0, refl) in
      let here : LeadsHere records channel (e ∷ es) found.place = record { entry = e; has = (0, refl); top = found.top; message = found.message; at = found.at; is = found.is; time = found.time; offset = found.offset } in
      let from_rest = rest.from in
      let there : IsThere file (chunk + 49 + e.1) found.top = subst (λ (n : ℕ). IsThere file (chunk + 49 + n) found.top) (sym found.offset) (behind found.place found.top found.at) in
      let cost = entry_size file range chosen chunk channel e found.top found.message on found.is found.time there in
      let weight = weight_is (asked_size range chosen) records found.place found.top found.at in
      record {
        places = found.place ∷ rest.places;
        apart = (
          λ n j at same.
              let later = from_rest n j at in
              let has = later.has in
              let is = entry_once records channel found.place j e later.entry (e ∷ es) es here later refl refl same in
              let place = once 0 (suc has.0) e refl (subst (λ (d : ℕ × ℕ). At {X = ℕ × ℕ} es has.0 d) (sym is) has.1) in
              absurd (omega (arith, place)),
          rest.apart,
        );
        from = each_cons (LeadsHere records channel (e ∷ es)) found.place rest.places here (λ n j at. more (from_rest n j at));
        few = omega (arith, cost, weight, rest.few, sum_by-cons {X = ℕ × ℕ} (entry_cost file range chunk) e es, sum_by-cons (weight_at (asked_size range chosen) records) found.place rest.places);
      }
    where
      more : {j : ℕ} → LeadsHere records channel es j → LeadsHere records channel (e ∷ es) j
      more later = record { entry = later.entry; has = (let has = later.has in (suc has.0, has.1)); top = later.top; message = later.message; at = later.at; is = later.is; time = later.time; offset = later.offset }

  -- the same where the channel isn't asked for
  pub chosen_places : (es : List (ℕ × ℕ)) → ((e : ℕ × ℕ) → Has es e → IsEntryOf records channel e) → ((i j : ℕ) (e : ℕ × ℕ) → At es i e → At es j e → i ≡ j) → Places range chosen records channel es (cond (chosen channel) (entries_cost file range chunk es) 0)
  chosen_places es are once = by (chosen channel) refl
    where
      by : (b : Bool) → chosen channel ≡ b → Places range chosen records channel es (cond b (entries_cost file range chunk es) 0)
      by true on = entry_places on es are once
      by false off = record { places = []; apart = tt; from = λ n j none. absurd (at_none n j none); few = omega arith }

-- ---- the Message Indexes that are named

-- a Message Index of a channel that is named stands at that place behind the chunk
pub record ListOf (indexes : List Top) (names : List (ℕ × ℕ)) (q : ℕ) : Type 0 where
  pub name : ℕ × ℕ
  pub has : Has {X = ℕ × ℕ} names name
  pub entries : List (ℕ × ℕ)
  pub top : Top
  pub at : At indexes q top
  pub is : IsMessageIndex top name.0 entries

-- a message of such a channel stands at that place in the chunk
pub record MessageOf (records : List Top) (names : List (ℕ × ℕ)) (j : ℕ) : Type 0 where
  pub name : ℕ × ℕ
  pub has : Has {X = ℕ × ℕ} names name
  pub top : Top
  pub message : MessageFields
  pub at : At records j top
  pub is : IsMessage top name.0 message

-- what the Message Indexes that are named cost, and where they stand and their messages
pub record Spent (file : List ℕ) (range : Range) (chosen : ℕ → Bool) (chunk : ℕ) (indexes records : List Top) (names : List (ℕ × ℕ)) : Type 0 where
  pub cost : ℕ
  pub are : NamesCost file range chosen chunk names cost false
  pub lists : List ℕ
  pub lists_apart : AreApart lists
  pub lists_from : Each (ListOf indexes names) lists
  pub inner : List ℕ
  pub inner_apart : AreApart inner
  pub inner_from : Each (MessageOf records names) inner
  pub few : cost ≤ sum_by (weight_at top_size indexes) lists + sum_by (weight_at (asked_size range chosen) records) inner

abbrev KeysApart : ℕ × ℕ → ℕ × ℕ → Type 0
KeysApart x y = x.0 ≢ y.0

list_later : (indexes : List Top) (x : ℕ × ℕ) (xs : List (ℕ × ℕ)) (q : ℕ) → ListOf indexes xs q → ListOf indexes (x ∷ xs) q
list_later indexes x xs q of = record { name = of.name; has = (let has = of.has in (suc has.0, has.1)); entries = of.entries; top = of.top; at = of.at; is = of.is }

message_later : (records : List Top) (x : ℕ × ℕ) (xs : List (ℕ × ℕ)) (j : ℕ) → MessageOf records xs j → MessageOf records (x ∷ xs) j
message_later records x xs j of = record { name = of.name; has = (let has = of.has in (suc has.0, has.1)); top = of.top; message = of.message; at = of.at; is = of.is }

lists_differ : (indexes : List Top) (x : ℕ × ℕ) (xs : List (ℕ × ℕ)) (p q : ℕ) → KeysDiffer (x ∷ xs) → (one : ListOf indexes (x ∷ xs) p) → one.name ≡ x → ListOf indexes xs q → p ≢ q
lists_differ indexes x xs p q differ one first other same =
    let tops = at_one indexes q one.top other.top (subst (λ (n : ℕ). At indexes n one.top) same one.at) other.at in
    let keys : (one.name).0 ≡ (other.name).0 = (message_index_once other.top (one.name).0 (other.name).0 one.entries other.entries (subst (λ (t : Top). IsMessageIndex t (one.name).0 one.entries) tops one.is) other.is).0 in
    let has = other.has in
    let apart : x.0 ≢ (other.name).0 = pairs_at {X = ℕ × ℕ} KeysApart (x ∷ xs) differ 0 (suc has.0) x other.name (omega arith) refl has.1 in
    apart (sym (ap (λ (y : ℕ × ℕ). y.0) first) ∙ keys)

messages_differ : (records : List Top) (x : ℕ × ℕ) (xs entries : List (ℕ × ℕ)) (p q : ℕ) → KeysDiffer (x ∷ xs) → LeadsHere records x.0 entries p → MessageOf records xs q → p ≢ q
messages_differ records x xs entries p q differ one other same =
    let tops = at_one records q one.top other.top (subst (λ (n : ℕ). At records n one.top) same one.at) other.at in
    let once = message_once other.top x.0 (other.name).0 one.message other.message (subst (λ (t : Top). IsMessage t x.0 one.message) tops one.is) other.is in
    let has = other.has in
    let apart : x.0 ≢ (other.name).0 = pairs_at {X = ℕ × ℕ} KeysApart (x ∷ xs) differ 0 (suc has.0) x other.name (omega arith) refl has.1 in
    apart once.0

keys_behind : (x : ℕ × ℕ) (xs : List (ℕ × ℕ)) → KeysDiffer (x ∷ xs) → KeysDiffer xs
keys_behind x xs differ = pairs_from {X = ℕ × ℕ} KeysApart xs (λ i j y z less at_y at_z. pairs_at {X = ℕ × ℕ} KeysApart (x ∷ xs) differ (suc i) (suc j) y z (omega (arith, less)) at_y at_z)

-- what one of them costs
pub record OneSpent (file : List ℕ) (range : Range) (chosen : ℕ → Bool) (chunk : ℕ) (indexes records : List Top) (x : ℕ × ℕ) : Type 0 where
  pub place : ℕ
  pub top : Top
  pub entries : List (ℕ × ℕ)
  pub at : At indexes place top
  pub is : IsMessageIndex top x.0 entries
  pub there : IsThere file x.1 top
  pub places : Places range chosen records x.0 entries (chosen_cost file range chosen (spot_of chunk x) entries)

module _ (file : List ℕ) (range : Range) (chosen : ℕ → Bool) (chunk : ℕ) (indexes records : List Top) where
  pub spent : (names : List (ℕ × ℕ)) → KeysDiffer names → ((x : ℕ × ℕ) → Has names x → OneSpent file range chosen chunk indexes records x) → Spent file range chosen chunk indexes records names
  spent [] differ each = record { cost = 0; are = no_name; lists = []; lists_apart = tt; lists_from = λ n q none. absurd (at_none n q none); inner = []; inner_apart = tt; inner_from = λ n j none. absurd (at_none n j none); few = omega arith }
  spent (x ∷ xs) differ each =
      let rest = spent xs (keys_behind x xs differ) (λ y has. each y (suc has.0, has.1)) in
      let one = each x (0, refl) in
      let places = one.places in
      let from_one = places.from in
      let lists_from = rest.lists_from in
      let inner_from = rest.inner_from in
      let cost = length (top_bytes one.top) + chosen_cost file range chosen (spot_of chunk x) one.entries in
      let here : ListOf indexes (x ∷ xs) one.place = record { name = x; has = (0, refl); entries = one.entries; top = one.top; at = one.at; is = one.is } in
      let weight = weight_is top_size indexes one.place one.top one.at in
      record {
        cost = cost + rest.cost;
        are = next_name x xs cost rest.cost false (own_list one.top one.entries one.there one.is) rest.are;
        lists = one.place ∷ rest.lists;
        lists_apart = (λ n q at. lists_differ indexes x xs one.place q differ here refl (lists_from n q at), rest.lists_apart);
        lists_from = each_cons (ListOf indexes (x ∷ xs)) one.place rest.lists here (λ n q at. list_later indexes x xs q (lists_from n q at));
        inner = places.places ++ rest.inner;
        inner_apart = apart_joined places.places rest.inner places.apart rest.inner_apart (λ p q in_p in_q. messages_differ records x xs one.entries p q differ (from_one in_p.0 p in_p.1) (inner_from in_q.0 q in_q.1));
        inner_from = each_joined (MessageOf records (x ∷ xs)) places.places rest.inner
            (λ n j at. let leads = from_one n j at in record { name = x; has = (0, refl); top = leads.top; message = leads.message; at = leads.at; is = leads.is })
            (λ n j at. message_later records x xs j (inner_from n j at));
        few = omega (arith, weight, places.few, rest.few, sum_by-cons (weight_at top_size indexes) one.place rest.lists, sum_by-append (weight_at (asked_size range chosen) records) places.places rest.inner);
      }
