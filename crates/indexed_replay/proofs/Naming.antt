-- What the Message Indexes of a chunk add, and what they cost.
use Rattle.std.proofs.Common.{◌≡◌, ℕ, zero, suc, ◌+◌, ◌≤◌, Bool, false, Result, Ok, Err, List, [], ◌∷◌, length, take, drop, refl, sym, ap, subst, inl, inr, ◌∙◌, arith}
use Rattle.std.specs.Prelude.{◌≢◌}
use Rattle.std.proofs.lemmas.Bool.{cases_eq}
use Rattle.std.proofs.lemmas.Option.{same_Some}
use Rattle.std.specs.List.{AllZip}
use Rattle.mcap_wire.specs.Layout.{text_length}
use Rattle.mcap_model.specs.declared.replay.Range.{Range}
use Rattle.mcap_model.specs.declared.replay.Shown.{Shown}
use Rattle.mcap_wire.specs.Maps.{KeysDiffer}
use Rattle.mcap_model.specs.Places.{At, Has}
use Rattle.mcap_model.specs.Tops.{Top}
use Rattle.mcap_model.specs.Fields.{ChunkIndexFields, IsMessageIndex}
use Rattle.mcap_model.proofs.Places.{at_none}
use Rattle.mcap_model.proofs.Lists.{has_taken, pairs_at}
use Rattle.mcap_model.proofs.Once.{message_index_once}
use Rattle.mcap_model.specs.declared.refusals.ReadingRefused.{ReadingRefused}
use Rattle.mcap_model.specs.declared.refusals.ReadingRefused.TheVariants as refusals
use Rattle.mcap_model.specs.declared.refusals.IndexedRefused.{IndexedRefused}
use Rattle.mcap_model.specs.declared.refusals.IndexedRefused.TheVariants as by_index
use Rattle.mcap_model.specs.declared.rules.Rule.{Rule}
use Rattle.mcap_model.specs.declared.rules.Rule.TheVariants as rules
use Rattle.indexed_replay.specs.declared.spots.Request.{Request}
use Rattle.indexed_replay.specs.declared.spots.Spot.{Spot}
use Rattle.indexed_replay.specs.Reaching.{IsReached, ChunkEndsAt, LacksIndex, BreaksByIndex, no_chunk, at_chunk, NamesNone, AskedBeside}
use Rattle.indexed_replay.specs.Replaying.{IsReason}
use Rattle.indexed_replay.specs.Steps.{AddsEachOnce}
use Rattle.indexed_replay.specs.HoldingSteps.{OverfullAt}
use Rattle.indexed_replay.specs.Lists.{IsLedBy, IsLedOnChannel}
use Rattle.indexed_replay.specs.Costs.{ListCost, spot_of, plain_length, IsPackedAs, NamesCost, no_name, next_name, last_name, ChunkCost, empty_map, plain_chunk, compressed_chunk, lacking_chunk}
use Rattle.indexed_replay.specs.Chunks.{IsLedAmong, NameFills, ChunkRefused, ChunkAsked, FrontAsked}
use Rattle.indexed_replay.proofs.Adding.{same_there, taken_or, taken_front, taken_last, adds_none, adds_both}
use Rattle.indexed_replay.proofs.Filling.{over_both}

-- ---- lists

module _ {X Y : Type 0} (R : X → Y → Type 0) where
  pub zip_all : (xs : List X) (ys : List Y) → ((n : ℕ) (x : X) → At xs n x → (y : Y) × R x y) → (zs : List Y) × AllZip R xs zs
  zip_all [] ys each = ([], tt)
  zip_all (x ∷ xs) ys each = let more = zip_all xs ys (λ n z at. each (suc n) z at) in let one = each 0 x refl in (one.0 ∷ more.0, (one.1, more.1))

-- what is left of a list is what stands there, and the rest behind it
pub dropped : {X : Type 0} (xs : List X) (i k : ℕ) (x : X) → At xs i x → k ≡ suc i → drop i xs ≡ x ∷ drop k xs
dropped {X} xs i k x at is = by xs i at ∙ ap (λ (n : ℕ). x ∷ drop n xs) (sym is)
  where
    by : (ys : List X) (j : ℕ) → At ys j x → drop j ys ≡ x ∷ drop (suc j) ys
    by [] j at = absurd (at_none j x at)
    by (y ∷ ys) zero at = ap (λ (z : X). z ∷ ys) (same_Some y x at)
    by (y ∷ ys) (suc j) at = by ys j at

-- ---- Message Indexes that are named

pub named_none : (file : List ℕ) (request : Request) (chunk : ℕ) (indexes : List (ℕ × ℕ)) (old : List Shown) → AddsEachOnce (IsLedAmong file request chunk (take 0 indexes)) old old
named_none file request chunk indexes old = adds_none (IsLedAmong file request chunk (take 0 indexes)) old (λ s is. let has = is.there in at_none {X = ℕ × ℕ} has.0 is.named has.1)

pub named_more : (file : List ℕ) (request : Request) (chunk : ℕ) (indexes : List (ℕ × ℕ)) (i k : ℕ) (p : ℕ × ℕ) (old mid new : List Shown) → At {X = ℕ × ℕ} indexes i p → k ≡ suc i → ((s : Shown) → IsLedAmong file request chunk (take i indexes) s → IsLedBy file request (spot_of chunk p) s → ⊥) → AddsEachOnce (IsLedAmong file request chunk (take i indexes)) old mid
    → AddsEachOnce (IsLedBy file request (spot_of chunk p)) mid new → AddsEachOnce (IsLedAmong file request chunk (take k indexes)) old new
named_more file request chunk indexes i k p old mid new at is apart first second =
    adds_both (IsLedAmong file request chunk (take i indexes)) (IsLedBy file request (spot_of chunk p)) (IsLedAmong file request chunk (take k indexes)) old mid new first second
    apart
    (λ s led. elim (taken_or {X = ℕ × ℕ} indexes i p at k is led.named led.there) [
      | inl there ↦ inl (record { named = led.named; there = there; led = led.led })
      | inr same ↦ inr (subst (λ (q : ℕ × ℕ). IsLedBy file request (spot_of chunk q) s) same led.led)
    ])
    (λ s led. record { named = led.named; there = taken_front {X = ℕ × ℕ} indexes i k (omega (arith, is)) led.named led.there; led = led.led })
    (λ s led. record { named = p; there = taken_last {X = ℕ × ℕ} indexes i k p at (omega (arith, is)); led = led })

-- where the Message Index of a channel stands there, it leads to messages of that channel
pub own_channel : (file : List ℕ) (request : Request) (spot : Spot) (s : Shown) → (LacksIndex file spot.channel spot.list → ⊥) → IsLedBy file request spot s → s.channel ≡ spot.channel
own_channel file request spot s found is =
    let by = is.led in
    elim (cases_eq s.channel spot.channel) [
      | inl same ↦ same
      | inr other ↦ absurd (found (λ t entries there index.
          let same = same_there file spot.list t by.list there by.there in
          let once = message_index_once by.list spot.channel s.channel entries by.entries (subst (λ (u : Top). IsMessageIndex u spot.channel entries) same index) by.is in
          omega (arith, other, once.0)))
    ]

-- the Message Indexes of channels that differ lead to messages that differ
pub names_apart : (file : List ℕ) (request : Request) (chunk : ℕ) (indexes : List (ℕ × ℕ)) (i : ℕ) (p : ℕ × ℕ) → KeysDiffer {K = ℕ} {V = ℕ} indexes → At {X = ℕ × ℕ} indexes i p → ((named : ℕ × ℕ) → Has {X = ℕ × ℕ} (take i indexes) named → LacksIndex file named.0 named.1 → ⊥)
    → (s : Shown) → IsLedAmong file request chunk (take i indexes) s → s.channel ≡ p.0 → ⊥
names_apart file request chunk indexes i p keys at found s led channel =
    let named = led.named in
    let (n, there) = led.there in
    let (less, at_n) = has_taken {X = ℕ × ℕ} indexes i n named there in
    let own = own_channel file request (spot_of chunk named) s (found named led.there) led.led in
    pairs_at {X = ℕ × ℕ} (λ (a b : ℕ × ℕ). a.0 ≢ b.0) indexes keys n i named p less at_n at (sym own ∙ channel)

-- one more was found
pub found_more : (file : List ℕ) (indexes : List (ℕ × ℕ)) (i k : ℕ) (p : ℕ × ℕ) → At {X = ℕ × ℕ} indexes i p → k ≡ suc i → ((named : ℕ × ℕ) → Has {X = ℕ × ℕ} (take i indexes) named → LacksIndex file named.0 named.1 → ⊥) → (LacksIndex file p.0 p.1 → ⊥)
    → (named : ℕ × ℕ) → Has {X = ℕ × ℕ} (take k indexes) named → LacksIndex file named.0 named.1 → ⊥
found_more file indexes i k p at is before here named has lacks = elim (taken_or {X = ℕ × ℕ} indexes i p at k is named has) [
  | inl there ↦ before named there lacks
  | inr same ↦ here (subst (λ (q : ℕ × ℕ). LacksIndex file q.0 q.1) same lacks)
]

-- of which there is no room for those of the last one
pub names_over : (file : List ℕ) (request : Request) (f : ChunkIndexFields) (i : ℕ) (p : ℕ × ℕ) (old mid : List Shown) (why : IndexedRefused) → KeysDiffer {K = ℕ} {V = ℕ} f.indexes → At {X = ℕ × ℕ} f.indexes i p
    → ((named : ℕ × ℕ) → Has {X = ℕ × ℕ} (take i f.indexes) named → LacksIndex file named.0 named.1 → ⊥) → AddsEachOnce (IsLedAmong file request f.offset (take i f.indexes)) old mid
    → OverfullAt (IsLedOnChannel file request (spot_of f.offset p)) (IsLedOnChannel file request (spot_of f.offset p)) p.1 file mid why → NameFills file request f old why
names_over file request f i p old mid why keys at found first (is, over) = record {
  named = p;
  there = (i, at);
  fills = (
    is,
    over_both (IsLedAmong file request f.offset (take i f.indexes)) (IsLedOnChannel file request (spot_of f.offset p)) (IsLedAmong file request f.offset f.indexes) (IsLedOnChannel file request (spot_of f.offset p)) (IsLedOnChannel file request (spot_of f.offset p)) file old mid first over
        (λ s led named. names_apart file request f.offset f.indexes i p keys at found s led named.own)
        (λ s led. let (n, there) = led.there in record { named = led.named; there = (n, (has_taken {X = ℕ × ℕ} f.indexes i n led.named there).1); led = led.led })
        (λ s named. record { named = p; there = (i, at); led = named.led })
        (λ s named. named),
  );
}

pub named_empty : (file : List ℕ) (request : Request) (chunk : ℕ) (indexes : List (ℕ × ℕ)) (old : List Shown) → length indexes ≡ 0 → AddsEachOnce (IsLedAmong file request chunk indexes) old old
named_empty file request chunk [] old none = named_none file request chunk [] old
named_empty file request chunk (p ∷ indexes) old none = absurd (omega (arith, none))

pub names_none : (file : List ℕ) (request : Request) (at : ℕ) (f : ChunkIndexFields) → length f.indexes ≡ 0 → ((f.start ≡ 0) × (f.end ≡ 0) → ⊥) → IsReached file request.range at f → NamesNone file request.range f.offset
names_none file request at f none timed reached = record { at = at; index = f; reached = reached; place = refl; none = empty f.indexes none; timed = timed }
  where
    empty : (l : List (ℕ × ℕ)) → length l ≡ 0 → l ≡ []
    empty [] is = refl
    empty (p ∷ l) is = absurd (omega (arith, is))

-- ---- a chunk that is refused

pub chunk_reason : (file : List ℕ) (request : Request) (at : ℕ) (f : ChunkIndexFields) (why : ReadingRefused) → ChunkRefused file at f.offset why → IsReached file request.range at f → IsReason file request.range (by_index.Refused why)
chunk_reason file request at f (refusals.Fault faults) refused reached = tt
chunk_reason file request at f (refusals.Grammar offset rule) (twelve, here, lacks) reached =
    subst (λ (r : Rule). BreaksByIndex file request.range r offset) (sym twelve) (subst (λ (o : ℕ). BreaksByIndex file request.range rules.V12 o) (sym here) (no_chunk at f reached lacks))
chunk_reason file request at f (refusals.Compressed offset name) (here, packed) reached = record { at = at; index = f; reached = reached; place = sym here; chunk = packed.chunk; there = subst (λ (o : ℕ). Rattle.mcap_model.specs.Led.IsThere file o packed.chunk) (sym here) packed.there; packed = packed.packed }
chunk_reason file request at f (refusals.Limit offset) (here, past) reached = at_chunk at f offset reached (sym here) past
chunk_reason file request at f refusals.Memory refused reached = tt

-- ---- what is asked for

-- the first of those that are named costs so much; and where it is there, the others behind it
pub record OneName (file : List ℕ) (range : Range) (chosen : ℕ → Bool) (chunk : ℕ) (named : ℕ × ℕ) (others : List (ℕ × ℕ)) (all : ℕ × Bool) : Type 0 where
  pub cost : ℕ
  pub is : ListCost file range chosen (spot_of chunk named) cost
  pub within : cost ≤ all.0
  pub behind : (LacksIndex file named.0 named.1 → ⊥) → (rest : ℕ) × NamesCost file range chosen chunk others rest all.1 × (cost + rest ≤ all.0)

pub one_name : (file : List ℕ) (range : Range) (chosen : ℕ → Bool) (chunk : ℕ) (named : ℕ × ℕ) (others : List (ℕ × ℕ)) (all : ℕ) (ends : Bool) → NamesCost file range chosen chunk (named ∷ others) all ends → OneName file range chosen chunk named others (all, ends)
one_name file range chosen chunk named others all ends (next_name x xs cost rest last is more) = record { cost = cost; is = is; within = omega arith; behind = λ found. (rest, more, omega arith) }
one_name file range chosen chunk named others all ends (last_name x xs cost is lacks) = record { cost = cost; is = is; within = omega arith; behind = λ found. absurd (found lacks) }

-- behind none of them a replay ends
pub no_name_ends : (file : List ℕ) (range : Range) (chosen : ℕ → Bool) (chunk : ℕ) (names : List (ℕ × ℕ)) (cost : ℕ) (ends : Bool) → length names ≡ 0 → NamesCost file range chosen chunk names cost ends → ends ≡ false
no_name_ends file range chosen chunk names cost ends none no_name = refl
no_name_ends file range chosen chunk names cost ends none (next_name named others own rest more is are) = absurd (omega (arith, none))
no_name_ends file range chosen chunk names cost ends none (last_name named others own is lacks) = absurd (omega (arith, none))

no_names : (names : List (ℕ × ℕ)) → length names ≡ 0 → Rattle.std.proofs.Common.◌≡◌ {A = List (ℕ × ℕ)} names []
no_names [] none = refl
no_names (x ∷ xs) none = absurd (omega (arith, none))

pub empty_goes_on : (file : List ℕ) (range : Range) (chosen : ℕ → Bool) (f : ChunkIndexFields) (cost : ℕ) (ends : Bool) → length f.indexes ≡ 0 → ChunkCost file range chosen f cost ends → ends ≡ false
empty_goes_on file range chosen f cost ends none (empty_map is) = refl
empty_goes_on file range chosen f cost ends none (plain_chunk end names last stands are) = no_name_ends file range chosen f.offset f.indexes names last none are
empty_goes_on file range chosen f cost ends none (compressed_chunk size some is) = absurd (some (no_names f.indexes none))
empty_goes_on file range chosen f cost ends none (lacking_chunk some no_end no_pack) = absurd (some (no_names f.indexes none))

-- no chunk is packed and isn't
plain_once : (file : List ℕ) (at end size : ℕ) → ChunkEndsAt file at end → IsPackedAs file at size → ⊥
plain_once file at end size ends is =
    let same = same_there file at ends.chunk is.chunk ends.there is.there in
    let some = is.some in
    some (sym is.named ∙ sym (ap (λ (t : Top). text_length t.content 28) same) ∙ ends.unpacked)

-- what was asked for of a chunk's front is within what it costs
pub front_enough : (file : List ℕ) (range : Range) (chosen : ℕ → Bool) (f : ChunkIndexFields) (cost : ℕ) (ends : Bool) (before now : ℕ) → (length f.indexes ≡ 0 → ⊥) → ChunkCost file range chosen f cost ends → FrontAsked file f.offset before now → now ≤ before + cost
front_enough file range chosen f cost ends before now some (empty_map is) asked = absurd (some (ap (λ (l : List (ℕ × ℕ)). length l) is))
front_enough file range chosen f cost ends before now some (plain_chunk end names last stands are) asked = let few = asked.plain in omega (arith, few (λ size is. plain_once file f.offset end size stands is))
front_enough file range chosen f cost ends before now some (compressed_chunk size more is) asked = let few = asked.packed in few size is
front_enough file range chosen f cost ends before now some (lacking_chunk more no_end no_pack) asked = let few = asked.plain in few no_pack

-- what was asked for of a chunk's front, and then of its Message Indexes
asked_chunk : (file : List ℕ) (request : Request) (at : ℕ) (f : ChunkIndexFields) (names : ℕ) (ends : Bool) (before mid now : ℕ) (result : Result Unit IndexedRefused) → mid ≤ before + plain_length → ChunkAsked file request at f (names, ends) (mid, now) result → ChunkAsked file request at f (plain_length + names, ends) (before, now) result
asked_chunk file request at f names ends before mid now (Ok it) first more = (omega (arith, first, more.0), more.1)
asked_chunk file request at f names ends before mid now (Err why) first more = λ knows reached. let (beside, is, few) = more knows reached in (beside, is, omega (arith, first, few))

pub names_enough : (file : List ℕ) (request : Request) (chosen : ℕ → Bool) (at : ℕ) (f : ChunkIndexFields) (end cost : ℕ) (ends : Bool) (before mid now : ℕ) (result : Result Unit IndexedRefused) → (length f.indexes ≡ 0 → ⊥) → ChunkEndsAt file f.offset end → FrontAsked file f.offset before mid
    → ((names : ℕ) (last : Bool) → NamesCost file request.range chosen f.offset f.indexes names last → ChunkAsked file request at f (names, last) (mid, now) result) → ChunkCost file request.range chosen f cost ends → ChunkAsked file request at f (cost, ends) (before, now) result
names_enough file request chosen at f end cost ends before mid now result some stands asked more (empty_map is) = absurd (some (ap (λ (l : List (ℕ × ℕ)). length l) is))
names_enough file request chosen at f end cost ends before mid now result some stands asked more (plain_chunk other names last there are) =
    let few = asked.plain in
    asked_chunk file request at f names last before mid now result (few (λ size is. plain_once file f.offset end size stands is)) (more names last are)
names_enough file request chosen at f end cost ends before mid now result some stands asked more (compressed_chunk size nonempty is) = absurd (plain_once file f.offset end size stands is)
names_enough file request chosen at f end cost ends before mid now result some stands asked more (lacking_chunk nonempty no_end no_pack) = absurd (no_end end stands)

-- the same of one among several
pub asked_among : (file : List ℕ) (range : Range) (before mid now last all rest : ℕ) → mid + rest ≤ before + all → last ≤ rest → AskedBeside file range mid now last → AskedBeside file range before now all
asked_among file range before mid now last all rest first within (beside, is, few) = (beside, is, omega (arith, first, within, few))
