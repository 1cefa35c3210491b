-- Messages that are added, step by step.
use Rattle.std.proofs.Common.{◌≡◌, ◌⊎◌, ℕ, zero, suc, ◌+◌, ◌<◌, ◌≤◌, Bool, true, false, cond, List, [], ◌∷◌, ◌++◌, length, take, drop, refl, sym, ap, subst, inl, inr, ◌∙◌, append_assoc, arith}
use Rattle.std.specs.Prelude.{sum_by}
use Rattle.std.proofs.lemmas.Bool.{both_ways, cases_lt}
use Rattle.std.proofs.lemmas.List.{take-append-drop, append-nil}
use Rattle.std.proofs.lemmas.List.Sums.{sum_by-append}
use Rattle.std.proofs.lemmas.Option.{same_Some}
use Rattle.rec_data.specs.Fields.{MessageFields}
use Rattle.mcap_model.specs.declared.replay.Place.{Place}
use Rattle.mcap_model.specs.declared.replay.Range.{Range}
use Rattle.mcap_model.specs.declared.replay.Shown.{Shown}
use Rattle.mcap_model.specs.Places.{At, Has}
use Rattle.mcap_model.specs.Tops.{Top}
use Rattle.mcap_model.specs.Fields.{IsMessage}
use Rattle.mcap_model.specs.Scan.{InRange, is_within}
use Rattle.mcap_model.specs.Led.{IsThere, IsInChunk}
use Rattle.mcap_model.proofs.Places.{at_none, at_kept}
use Rattle.mcap_model.proofs.Lists.{at_either, at_second, has_taken, at_taken}
use Rattle.mcap_model.proofs.Maps.{message_once}
use Rattle.mcap_model.proofs.Replays.{range_decided}
use Rattle.indexed_replay.specs.declared.spots.Spot.{Spot}
use Rattle.time_player.specs.Ordering.{led_as}
use Rattle.indexed_replay.specs.Steps.{AddsEachOnce, IsLedByEntry, IsLedInRange, place_in}
use Rattle.indexed_replay.specs.Costs.{message_cost, entry_cost, entries_cost}
use Rattle.indexed_replay.specs.HoldingSteps.{Overfull}
use Rattle.indexed_replay.proofs.Headed.{there_begun}
use Rattle.indexed_replay.proofs.Once.{once_none, once_alone, once_joined}
use Rattle.indexed_replay.proofs.Filling.{over_both}

-- ---- lists

pub take_next : {X : Type 0} (xs : List X) (i : ℕ) (x : X) → At xs i x → (k : ℕ) → k ≡ suc i → take k xs ≡ take i xs ++ x ∷ []
take_next [] i x at k is = absurd (at_none i x at)
take_next (y ∷ xs) i x at zero is = absurd (omega (arith, is))
take_next {X} (y ∷ xs) zero x at (suc k) is =
    let none : k ≡ 0 = omega (arith, is) in
    ap (λ (n : ℕ). y ∷ take n xs) none ∙ ap (λ (z : X). z ∷ []) (same_Some y x at)
take_next {X} (y ∷ xs) (suc i) x at (suc k) is = ap (λ (l : List X). y ∷ l) (take_next xs i x at k (omega (arith, is)))

-- what stands among the first and one more
pub taken_or : {X : Type 0} (xs : List X) (i : ℕ) (x : X) → At xs i x → (k : ℕ) → k ≡ suc i → (y : X) → Has (take k xs) y → Has (take i xs) y ⊎ (y ≡ x)
taken_or {X} xs i x at k is y (n, there) =
    let (less, at_n) = has_taken xs k n y there in
    elim (cases_lt n i) [
      | inl before ↦ inl (n, at_taken xs i n y before at_n)
      | inr behind ↦ let same : n ≡ i = omega (arith, less, is, behind) in inr (sym (same_Some x y (sym at ∙ ap (λ (m : ℕ). Rattle.std.specs.Prelude.slice_get xs m) (sym same) ∙ at_n)))
    ]

pub taken_front : {X : Type 0} (xs : List X) (i k : ℕ) → i ≤ k → (y : X) → Has (take i xs) y → Has (take k xs) y
taken_front xs i k few y (n, there) = let (less, at_n) = has_taken xs i n y there in (n, at_taken xs k n y (omega (arith, less, few)) at_n)

pub taken_last : {X : Type 0} (xs : List X) (i k : ℕ) (x : X) → At xs i x → i < k → Has (take k xs) x
taken_last xs i k x at less = (i, at_taken xs k i x less at)

pub sum_next : {X : Type 0} (f : X → ℕ) (xs : List X) (i : ℕ) (x : X) → At xs i x → (k : ℕ) → k ≡ suc i → sum_by f (take k xs) ≡ sum_by f (take i xs) + f x
sum_next {X} f xs i x at k is =
    let one : sum_by f (x ∷ []) ≡ f x = omega arith in
    ap (sum_by f) (take_next xs i x at k is) ∙ sum_by-append f (take i xs) (x ∷ []) ∙ ap (λ (n : ℕ). sum_by f (take i xs) + n) one

pub sum_front : {X : Type 0} (f : X → ℕ) (xs : List X) (i : ℕ) → sum_by f (take i xs) ≤ sum_by f xs
sum_front f xs i = omega (arith, ap (sum_by f) (sym (take-append-drop i xs)), sum_by-append f (take i xs) (drop i xs))

-- ---- what is added

pub adds_none : (P : Shown → Type 0) (old : List Shown) → ((s : Shown) → P s → ⊥) → AddsEachOnce P old old
adds_none P old none = record { more = []; added = sym (append-nil old); are = λ s has. absurd (at_none has.0 s has.1); all = λ s is. absurd (none s is); once = once_none }

pub adds_both : (P Q R : Shown → Type 0) (old mid new : List Shown) → AddsEachOnce P old mid → AddsEachOnce Q mid new → ((s : Shown) → P s → Q s → ⊥) → ((s : Shown) → R s → P s ⊎ Q s) → ((s : Shown) → P s → R s) → ((s : Shown) → Q s → R s) → AddsEachOnce R old new
adds_both P Q R old mid new first second apart cut p q = record {
  more = first.more ++ second.more;
  added = second.added ∙ ap (λ (l : List Shown). l ++ second.more) first.added ∙ append_assoc old first.more second.more;
  are = λ s has. elim (at_either first.more second.more has.0 s has.1) [
    | inl there ↦ let f = first.are in p s (f s (has.0, there))
    | inr (k, is, there) ↦ let f = second.are in q s (f s (k, there))
  ];
  all = λ s is. elim (cut s is) [
    | inl here ↦ let f = first.all in let has = f s here in (has.0, at_kept first.more second.more has.0 s has.1)
    | inr here ↦ let f = second.all in let has = f s here in (length first.more + has.0, at_second first.more second.more has.0 s has.1)
  ];
  once = once_joined P Q first.more second.more first.are second.are first.once second.once apart;
}

pub adds_same : (P Q : Shown → Type 0) (old new : List Shown) → AddsEachOnce P old new → ((s : Shown) → P s → Q s) → ((s : Shown) → Q s → P s) → AddsEachOnce Q old new
adds_same P Q old new adds p q = record {
  more = adds.more;
  added = adds.added;
  are = λ s has. let f = adds.are in p s (f s has);
  all = λ s is. let f = adds.all in f s (q s is);
  once = adds.once;
}

-- ---- a message

pub same_there : (file : List ℕ) (at : ℕ) (t u : Top) → IsThere file at t → IsThere file at u → t ≡ u
same_there file at t u one other = sym (there_begun file at t one).2 ∙ (there_begun file at u other).2

abbrev shown_made : Place → ℕ → ℕ → ℕ → ℕ → List ℕ → Shown
shown_made place log_time publish_time channel sequence payload = record { place = place; log_time = log_time; publish_time = publish_time; channel = channel; sequence = sequence; payload = payload }

shown_by : (s r : Shown) → s.place ≡ r.place → s.channel ≡ r.channel → (led_as s).message ≡ (led_as r).message → shown_made s.place s.log_time s.publish_time s.channel s.sequence s.payload ≡ shown_made r.place r.log_time r.publish_time r.channel r.sequence r.payload
shown_by s r place channel message =
    let a : s.log_time ≡ r.log_time = ap (λ (m : MessageFields). m.log_time) message in
    let b : s.publish_time ≡ r.publish_time = ap (λ (m : MessageFields). m.publish_time) message in
    let d : s.sequence ≡ r.sequence = ap (λ (m : MessageFields). m.sequence) message in
    let e : s.payload ≡ r.payload = ap (λ (m : MessageFields). m.payload) message in
    made s.place r.place s.log_time r.log_time s.publish_time r.publish_time s.channel r.channel s.sequence r.sequence s.payload r.payload place a b channel d e
  where
    made : (p p' : Place) (a a' b b' c c' d d' : ℕ) (e e' : List ℕ) → p ≡ p' → a ≡ a' → b ≡ b' → c ≡ c' → d ≡ d' → e ≡ e' → shown_made p a b c d e ≡ shown_made p' a' b' c' d' e'
    made p p' a a' b b' c c' d d' e e' one two three four five six = cc

-- one message stands at a place of a chunk
pub in_chunk_once : (file : List ℕ) (chunk : ℕ) (s r : Shown) → s.place ≡ r.place → IsInChunk file chunk (led_as s) → IsInChunk file chunk (led_as r) → s ≡ r
in_chunk_once file chunk s r place one other =
    let inner : s.place.inner ≡ r.place.inner = ap (λ (p : Place). p.inner) place in
    let same = same_there file (chunk + 49 + r.place.inner) one.top other.top (subst (λ (n : ℕ). IsThere file (chunk + 49 + n) one.top) inner one.there) other.there in
    let once = message_once other.top s.channel r.channel (led_as s).message (led_as r).message (subst (λ (t : Top). IsMessage t s.channel (led_as s).message) same one.is) other.is in
    shown_by s r place once.0 once.1

pub adds_found : (file : List ℕ) (chunk channel : ℕ) (entry : ℕ × ℕ) (s : Shown) (old new : List Shown) → IsLedByEntry file chunk channel entry s → new ≡ old ++ s ∷ [] → AddsEachOnce (IsLedByEntry file chunk channel entry) old new
adds_found file chunk channel entry s old new is added = record {
  more = s ∷ [];
  added = added;
  are = λ r has. one r has.0 has.1;
  all = λ r other. (0, ap Rattle.std.specs.Prelude.Some (in_chunk_once file chunk s r (is.place ∙ sym other.place) is.stands other.stands));
  once = once_alone s;
}
  where
    one : (r : Shown) (n : ℕ) → At (s ∷ []) n r → IsLedByEntry file chunk channel entry r
    one r zero at = subst (λ (x : Shown). IsLedByEntry file chunk channel entry x) (same_Some s r at) is
    one r (suc n) at = absurd (at_none n r at)

-- ---- the entries of a Message Index

listed_first : (file : List ℕ) (range : Range) (spot : Spot) (entries : List (ℕ × ℕ)) (i k : ℕ) (s : Shown) → i ≤ k → IsLedInRange file range spot (take i entries) s → IsLedInRange file range spot (take k entries) s
listed_first file range spot entries i k s few is = record { entry = taken_front {X = ℕ × ℕ} entries i k few (s.log_time, s.place.inner) is.entry; in_range = is.in_range; channel_is = is.channel_is; stands = is.stands }

listed_whole : (file : List ℕ) (range : Range) (spot : Spot) (entries : List (ℕ × ℕ)) (i : ℕ) (s : Shown) → IsLedInRange file range spot (take i entries) s → IsLedInRange file range spot entries s
listed_whole file range spot entries i s is = record {
  entry = let (n, there) = is.entry in (n, (has_taken {X = ℕ × ℕ} entries i n (s.log_time, s.place.inner) there).1);
  in_range = is.in_range;
  channel_is = is.channel_is;
  stands = is.stands;
}

pair : (a b c d : ℕ) → a ≡ c → b ≡ d → Rattle.std.proofs.Common.◌≡◌ {A = ℕ × ℕ} (a, b) (c, d)
pair a b c d one two = cc

-- the entry of a message that was found
found_entry : (file : List ℕ) (chunk channel : ℕ) (e : ℕ × ℕ) (s : Shown) → IsLedByEntry file chunk channel e s → Rattle.std.proofs.Common.◌≡◌ {A = ℕ × ℕ} e (s.log_time, s.place.inner)
found_entry file chunk channel e s found = pair e.0 e.1 s.log_time s.place.inner (sym found.time) (sym (ap (λ (p : Place). p.inner) found.place))

found_listed : (file : List ℕ) (range : Range) (spot : Spot) (entries : List (ℕ × ℕ)) (i k : ℕ) (e : ℕ × ℕ) → At {X = ℕ × ℕ} entries i e → k ≡ suc i → is_within range e.0 ≡ true → (s : Shown) → IsLedByEntry file spot.chunk spot.channel e s → IsLedInRange file range spot (take k entries) s
found_listed file range spot entries i k e at is within s found = record {
  entry = subst (λ (p : ℕ × ℕ). Has {X = ℕ × ℕ} (take k entries) p) (found_entry file spot.chunk spot.channel e s found) (taken_last {X = ℕ × ℕ} entries i k e at (omega (arith, is)));
  in_range = subst (λ (n : ℕ). InRange range n) (sym found.time) ((range_decided range e.0).0 within);
  channel_is = found.channel_is;
  stands = found.stands;
}

-- where the entry doesn't stand before, its message isn't one of those before
found_apart : (file : List ℕ) (range : Range) (spot : Spot) (entries : List (ℕ × ℕ)) (i : ℕ) (e : ℕ × ℕ) → ((j : ℕ) → j < i → At {X = ℕ × ℕ} entries j e → ⊥) → (s : Shown) → IsLedInRange file range spot (take i entries) s → IsLedByEntry file spot.chunk spot.channel e s → ⊥
found_apart file range spot entries i e none s listed found =
    let (n, there) = listed.entry in
    let (less, at_n) = has_taken {X = ℕ × ℕ} entries i n (s.log_time, s.place.inner) there in
    none n less (subst (λ (p : ℕ × ℕ). At {X = ℕ × ℕ} entries n p) (sym (found_entry file spot.chunk spot.channel e s found)) at_n)

pub listed_more : (file : List ℕ) (range : Range) (spot : Spot) (entries : List (ℕ × ℕ)) (i k : ℕ) (e : ℕ × ℕ) (old mid new : List Shown) → At {X = ℕ × ℕ} entries i e → k ≡ suc i → is_within range e.0 ≡ true → ((j : ℕ) → j < i → At {X = ℕ × ℕ} entries j e → ⊥) → AddsEachOnce (IsLedInRange file range spot (take i entries)) old mid
    → AddsEachOnce (IsLedByEntry file spot.chunk spot.channel e) mid new → AddsEachOnce (IsLedInRange file range spot (take k entries)) old new
listed_more file range spot entries i k e old mid new at is within none first second =
    adds_both (IsLedInRange file range spot (take i entries)) (IsLedByEntry file spot.chunk spot.channel e) (IsLedInRange file range spot (take k entries)) old mid new first second
    (found_apart file range spot entries i e none)
    (λ s listed. elim (taken_or {X = ℕ × ℕ} entries i e at k is (s.log_time, s.place.inner) listed.entry) [
      | inl there ↦ inl (record { entry = there; in_range = listed.in_range; channel_is = listed.channel_is; stands = listed.stands })
      | inr same ↦
          let stands = listed.stands in
          inr (record {
            place = made s.place spot.chunk e.1 stands.place (ap (λ (p : ℕ × ℕ). p.1) same);
            channel_is = listed.channel_is;
            time = ap (λ (p : ℕ × ℕ). p.0) same;
            stands = stands;
          })
    ])
    (λ s listed. listed_first file range spot entries i k s (omega (arith, is)) listed)
    (found_listed file range spot entries i k e at is within)
  where
    made : (p : Place) (chunk inner : ℕ) → p.top ≡ chunk → p.inner ≡ inner → place_in p.top p.inner ≡ place_in chunk inner
    made p chunk inner top is = cc

-- of which there is no room for the last one
pub listed_over : (file : List ℕ) (range : Range) (spot : Spot) (entries : List (ℕ × ℕ)) (i : ℕ) (e : ℕ × ℕ) (old mid : List Shown) → At {X = ℕ × ℕ} entries i e → is_within range e.0 ≡ true → ((j : ℕ) → j < i → At {X = ℕ × ℕ} entries j e → ⊥)
    → AddsEachOnce (IsLedInRange file range spot (take i entries)) old mid → Overfull (IsLedByEntry file spot.chunk spot.channel e) (IsLedByEntry file spot.chunk spot.channel e) file mid → Overfull (IsLedInRange file range spot entries) (IsLedInRange file range spot entries) file old
listed_over file range spot entries i e old mid at within none first over =
    let last : (s : Shown) → IsLedByEntry file spot.chunk spot.channel e s → IsLedInRange file range spot entries s = λ s found. listed_whole file range spot entries (suc i) s (found_listed file range spot entries i (suc i) e at refl within s found) in
    over_both (IsLedInRange file range spot (take i entries)) (IsLedByEntry file spot.chunk spot.channel e) (IsLedInRange file range spot entries) (IsLedByEntry file spot.chunk spot.channel e) (IsLedInRange file range spot entries) file old mid first over
    (found_apart file range spot entries i e none)
    (λ s listed. listed_whole file range spot entries i s listed)
    last
    last

pub listed_skip : (file : List ℕ) (range : Range) (spot : Spot) (entries : List (ℕ × ℕ)) (i k : ℕ) (e : ℕ × ℕ) (old new : List Shown) → At {X = ℕ × ℕ} entries i e → k ≡ suc i → is_within range e.0 ≡ false → AddsEachOnce (IsLedInRange file range spot (take i entries)) old new
    → AddsEachOnce (IsLedInRange file range spot (take k entries)) old new
listed_skip file range spot entries i k e old new at is outside adds =
    adds_same (IsLedInRange file range spot (take i entries)) (IsLedInRange file range spot (take k entries)) old new adds
    (λ s listed. listed_first file range spot entries i k s (omega (arith, is)) listed)
    (λ s listed. elim (taken_or {X = ℕ × ℕ} entries i e at k is (s.log_time, s.place.inner) listed.entry) [
      | inl there ↦ record { entry = there; in_range = listed.in_range; channel_is = listed.channel_is; stands = listed.stands }
      | inr same ↦ absurd (both_ways (is_within range e.0) outside (ap (is_within range) (sym (ap (λ (p : ℕ × ℕ). p.0) same)) ∙ (range_decided range s.log_time).1 listed.in_range))
    ])

-- an entry that stands before too
pub listed_again : (file : List ℕ) (range : Range) (spot : Spot) (entries : List (ℕ × ℕ)) (i j k : ℕ) (e : ℕ × ℕ) (old new : List Shown) → At {X = ℕ × ℕ} entries i e → At {X = ℕ × ℕ} entries j e → j < i → k ≡ suc i
    → AddsEachOnce (IsLedInRange file range spot (take i entries)) old new → AddsEachOnce (IsLedInRange file range spot (take k entries)) old new
listed_again file range spot entries i j k e old new at before less is adds =
    adds_same (IsLedInRange file range spot (take i entries)) (IsLedInRange file range spot (take k entries)) old new adds
    (λ s listed. listed_first file range spot entries i k s (omega (arith, is)) listed)
    (λ s listed. elim (taken_or {X = ℕ × ℕ} entries i e at k is (s.log_time, s.place.inner) listed.entry) [
      | inl there ↦ record { entry = there; in_range = listed.in_range; channel_is = listed.channel_is; stands = listed.stands }
      | inr same ↦ record {
        entry = subst (λ (p : ℕ × ℕ). Has {X = ℕ × ℕ} (take i entries) p) (sym same) (taken_last {X = ℕ × ℕ} entries j i e before less);
        in_range = listed.in_range;
        channel_is = listed.channel_is;
        stands = listed.stands;
      }
    ])

pub listed_none : (file : List ℕ) (range : Range) (spot : Spot) (entries : List (ℕ × ℕ)) (old : List Shown) → AddsEachOnce (IsLedInRange file range spot (take 0 entries)) old old
listed_none file range spot entries old = adds_none (IsLedInRange file range spot (take 0 entries)) old (λ s listed. let has = listed.entry in at_none {X = ℕ × ℕ} has.0 (s.log_time, s.place.inner) has.1)

-- ---- what they cost

cost_within : (file : List ℕ) (range : Range) (chunk : ℕ) (e : ℕ × ℕ) → is_within range e.0 ≡ true → entry_cost file range chunk e ≡ message_cost file (chunk + 49 + e.1)
cost_within file range chunk e within = ap (λ (b : Bool). cond b (message_cost file (chunk + 49 + e.1)) 0) within

pub cost_next : (file : List ℕ) (range : Range) (chunk : ℕ) (entries : List (ℕ × ℕ)) (i k : ℕ) (e : ℕ × ℕ) (before mid now : ℕ) → At {X = ℕ × ℕ} entries i e → k ≡ suc i → is_within range e.0 ≡ true → mid ≤ before + entries_cost file range chunk (take i entries)
    → now ≤ mid + message_cost file (chunk + 49 + e.1) → now ≤ before + entries_cost file range chunk (take k entries)
cost_next file range chunk entries i k e before mid now at is within first more =
    omega (arith, sum_next {X = ℕ × ℕ} (entry_cost file range chunk) entries i e at k is, cost_within file range chunk e within, first, more)

pub cost_skip : (file : List ℕ) (range : Range) (chunk : ℕ) (entries : List (ℕ × ℕ)) (i k : ℕ) (e : ℕ × ℕ) (before now : ℕ) → At {X = ℕ × ℕ} entries i e → k ≡ suc i → now ≤ before + entries_cost file range chunk (take i entries)
    → now ≤ before + entries_cost file range chunk (take k entries)
cost_skip file range chunk entries i k e before now at is first = omega (arith, sum_next {X = ℕ × ℕ} (entry_cost file range chunk) entries i e at k is, first)

pub cost_all : (file : List ℕ) (range : Range) (chunk : ℕ) (entries : List (ℕ × ℕ)) (i : ℕ) (before now : ℕ) → now ≤ before + entries_cost file range chunk (take i entries) → now ≤ before + entries_cost file range chunk entries
cost_all file range chunk entries i before now first = omega (arith, sum_front {X = ℕ × ℕ} (entry_cost file range chunk) entries i, first)
