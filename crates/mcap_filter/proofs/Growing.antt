-- What is written of a history that grows.
use Rattle.std.proofs.Common.{◌≡◌, ℕ, suc, ◌+◌, ◌*◌, ◌≤◌, Bool, true, false, ◌||◌, ◌&&◌, List, [], ◌∷◌, ◌++◌, length, Option, Some, None, refl, sym, ap, ◌∙◌, append-nil, append_assoc, arith}
use Rattle.std.specs.Prelude.{filter, fold, find, is_some, if◌then◌else◌, eqb}
use Rattle.std.specs.List.{list_any, flat_map}
use Rattle.std.specs.Option.{option_to_list}
use Rattle.std.proofs.lemmas.List.{length-append}
use Rattle.std.proofs.lemmas.Grind.{flat_map-append}
use Rattle.rec_data.specs.declared.owned.Rec.{Rec}
use Rattle.rec_data.specs.declared.owned.Rec.TheVariants.{Schema, Channel, Message, Extra}
use Rattle.mcap_model.specs.Places.{Each}
use Rattle.mcap_model.specs.Fields.{MessageFields}
use Rattle.mcap_model.specs.History.{declare_same, kept_with, without_repeats}
use Rattle.mcap_model.specs.Scan.{is_within}
use Rattle.mcap_model.proofs.Repairs.{fold_more, fold_grows, kept_new}
use Rattle.record_keeping.proofs.Keepings.{message_known}
use Rattle.record_keeping.proofs.Files.{kept_few}
use Rattle.mcap_model.specs.Needed.{is_schema_of, is_channel_of, schema_with, schema_for, needs_on, needs_of, needed_behind}
use Rattle.mcap_filter.specs.Picked.{Asking, is_on, is_picked, filtered}
use Rattle.mcap_filter.specs.Picking.{is_complete, Complete}
use Rattle.mcap_filter.proofs.Finding.{find_kept, find_apart, find_there, some_is}

-- a record after what it needs
abbrev pub with_its_needs : List Rec → Rec → List Rec
with_its_needs history r = needs_of history r ++ r ∷ []

-- what is written of one record
abbrev pub uses_of : Asking → List Rec → Rec → List Rec
uses_of a history r = if is_picked a history r then with_its_needs history r else []

-- ---- what is written, as a row of records that are kept

-- no message declares an id, so it is put whatever stands before it
message_behind : (history out : List Rec) (channel sequence log_time publish_time : ℕ) (payload : List ℕ)
    → let r = Message channel sequence log_time publish_time payload in needed_behind history out r ≡ fold kept_with out (with_its_needs history r)
message_behind history out channel sequence log_time publish_time payload =
    let r = Message channel sequence log_time publish_time payload in
    let m : MessageFields = record { sequence = sequence; log_time = log_time; publish_time = publish_time; payload = payload } in
    let before = fold kept_with out (needs_on history channel) in
    sym (kept_new before r (message_known channel m before)) ∙ sym (fold_more out (needs_on history channel) (r ∷ []))

filtered_from : (a : Asking) (history out rs : List Rec) → fold (needed_behind history) out (filter (is_picked a history) rs) ≡ fold kept_with out (flat_map (uses_of a history) rs)
filtered_from a history out [] = refl
filtered_from a history out (Schema id schema ∷ rs) = filtered_from a history out rs
filtered_from a history out (Channel id schema topic encoding metadata ∷ rs) = filtered_from a history out rs
filtered_from a history out (Extra op content ∷ rs) = filtered_from a history out rs
filtered_from a history out (Message channel sequence log_time publish_time payload ∷ rs) =
    by (is_picked a history (Message channel sequence log_time publish_time payload)) (λ before. filtered_from a history before rs)
  where
    by : (b : Bool) → ((before : List Rec) → fold (needed_behind history) before (filter (is_picked a history) rs) ≡ fold kept_with before (flat_map (uses_of a history) rs))
        → let r = Message channel sequence log_time publish_time payload in fold (needed_behind history) out (if b then r ∷ filter (is_picked a history) rs else filter (is_picked a history) rs)
        ≡ fold kept_with out ((if b then with_its_needs history r else []) ++ flat_map (uses_of a history) rs)
    by true rest =
        let r = Message channel sequence log_time publish_time payload in
        rest (needed_behind history out r)
        ∙ ap (λ (l : List Rec). fold kept_with l (flat_map (uses_of a history) rs)) (message_behind history out channel sequence log_time publish_time payload)
        ∙ sym (fold_more out (with_its_needs history r) (flat_map (uses_of a history) rs))
    by false rest = rest out

pub filtered_is : (a : Asking) (history : List Rec) → filtered a history ≡ without_repeats (flat_map (uses_of a history) history)
filtered_is a history = filtered_from a history [] history

-- ---- needs that stay

schema_kept : (history more : List Rec) (id : ℕ) → (eqb id 0 || is_some (find (is_schema_of id) history)) ≡ true → schema_with (history ++ more) id ≡ schema_with history id
schema_kept history more id some = by (eqb id 0) some
  where
    by : (b : Bool) → (b || is_some (find (is_schema_of id) history)) ≡ true → (if b then [] else option_to_list (find (is_schema_of id) (history ++ more))) ≡ (if b then [] else option_to_list (find (is_schema_of id) history))
    by true there = refl
    by false there = ap option_to_list (find_kept (is_schema_of id) history more there)

schema_for_kept : (history more : List Rec) (c : Rec) → is_complete history c ≡ true → schema_for (history ++ more) c ≡ schema_for history c
schema_for_kept history more (Schema id schema) whole = refl
schema_for_kept history more (Channel id schema topic encoding metadata) whole = schema_kept history more schema whole
schema_for_kept history more (Message channel sequence log_time publish_time payload) whole = refl
schema_for_kept history more (Extra op content) whole = refl

needs_kept : (history more : List Rec) (id : ℕ) → Complete history → is_some (find (is_channel_of id) history) ≡ true → needs_on (history ++ more) id ≡ needs_on history id
needs_kept history more id whole some =
    let (c, is) = some_is (find (is_channel_of id) history) some in
    let (n, at, test) = find_there (is_channel_of id) history c is in
    ap (λ (o : Option Rec). flat_map (schema_for (history ++ more)) (option_to_list o) ++ option_to_list o) (find_kept (is_channel_of id) history more some ∙ is)
    ∙ ap (λ (l : List Rec). (l ++ []) ++ c ∷ []) (schema_for_kept history more c (whole n c at))
    ∙ sym (ap (λ (o : Option Rec). flat_map (schema_for history) (option_to_list o) ++ option_to_list o) is)

uses_kept : (a : Asking) (history more : List Rec) (r : Rec) → Complete history → is_complete history r ≡ true → uses_of a (history ++ more) r ≡ uses_of a history r
uses_kept a history more (Schema id schema) whole some = refl
uses_kept a history more (Channel id schema topic encoding metadata) whole some = refl
uses_kept a history more (Extra op content) whole some = refl
uses_kept a history more (Message channel sequence log_time publish_time payload) whole some =
    let r = Message channel sequence log_time publish_time payload in
    ap (λ (o : Option Rec). if is_within a.range log_time && is_on a.topic o then needs_on (history ++ more) channel ++ r ∷ [] else []) (find_kept (is_channel_of channel) history more some)
    ∙ ap (λ (l : List Rec). if is_picked a history r then l ++ r ∷ [] else []) (needs_kept history more channel whole some)

all_kept : (a : Asking) (history more : List Rec) (rs : List Rec) → Complete history → Each (λ (r : Rec). is_complete history r ≡ true) rs
    → flat_map (uses_of a (history ++ more)) rs ≡ flat_map (uses_of a history) rs
all_kept a history more [] whole each = refl
all_kept a history more (r ∷ rs) whole each =
    ap (λ (l : List Rec). l ++ flat_map (uses_of a (history ++ more)) rs) (uses_kept a history more r whole (each 0 r refl))
    ∙ ap (λ (l : List Rec). uses_of a history r ++ l) (all_kept a history more rs whole (λ n x at. each (suc n) x at))

-- ---- what is written

-- with further records
pub filtered_more : (a : Asking) (history more : List Rec) → Complete history → filtered a (history ++ more) ≡ fold kept_with (filtered a history) (flat_map (uses_of a (history ++ more)) more)
filtered_more a history more whole =
    filtered_is a (history ++ more)
    ∙ ap without_repeats (flat_map-append (uses_of a (history ++ more)) history more
    ∙ ap (λ (l : List Rec). l ++ flat_map (uses_of a (history ++ more)) more) (all_kept a history more history whole whole))
    ∙ fold_more [] (flat_map (uses_of a history) history) (flat_map (uses_of a (history ++ more)) more)
    ∙ ap (λ (l : List Rec). fold kept_with l (flat_map (uses_of a (history ++ more)) more)) (sym (filtered_is a history))

pub filtered_grows : (a : Asking) (history more : List Rec) → Complete history → (behind : List Rec) × (filtered a (history ++ more) ≡ filtered a history ++ behind)
filtered_grows a history more whole =
    let (behind, is) = fold_grows (filtered a history) (flat_map (uses_of a (history ++ more)) more) in
    (behind, filtered_more a history more whole ∙ sym is)

-- with a declaration more
pub filtered_declared : (a : Asking) (history : List Rec) (r : Rec) → Complete history → is_picked a (history ++ r ∷ []) r ≡ false → filtered a (history ++ r ∷ []) ≡ filtered a history
filtered_declared a history r whole none =
    filtered_more a history (r ∷ []) whole
    ∙ ap (λ (b : Bool). fold kept_with (filtered a history) ((if b then with_its_needs (history ++ r ∷ []) r else []) ++ [])) none

-- ---- a Message more

schema_apart : (history : List Rec) (r : Rec) (id : ℕ) → is_schema_of id r ≡ false → schema_with (history ++ r ∷ []) id ≡ schema_with history id
schema_apart history r id other = ap (λ (o : Option Rec). if eqb id 0 then [] else option_to_list o) (find_apart (is_schema_of id) history r other)

schema_for_apart : (history : List Rec) (r c : Rec) → ((id : ℕ) → is_schema_of id r ≡ false) → schema_for (history ++ r ∷ []) c ≡ schema_for history c
schema_for_apart history r (Schema id schema) other = refl
schema_for_apart history r (Channel id schema topic encoding metadata) other = schema_apart history r schema (other schema)
schema_for_apart history r (Message channel sequence log_time publish_time payload) other = refl
schema_for_apart history r (Extra op content) other = refl

all_apart : (history : List Rec) (r : Rec) (cs : List Rec) → ((id : ℕ) → is_schema_of id r ≡ false) → flat_map (schema_for (history ++ r ∷ [])) cs ≡ flat_map (schema_for history) cs
all_apart history r [] other = refl
all_apart history r (c ∷ cs) other =
    ap (λ (l : List Rec). l ++ flat_map (schema_for (history ++ r ∷ [])) cs) (schema_for_apart history r c other)
    ∙ ap (λ (l : List Rec). schema_for history c ++ l) (all_apart history r cs other)

message_uses : (a : Asking) (history : List Rec) (channel sequence log_time publish_time : ℕ) (payload : List ℕ)
    → let r = Message channel sequence log_time publish_time payload in uses_of a (history ++ r ∷ []) r ≡ uses_of a history r
message_uses a history channel sequence log_time publish_time payload =
    let r = Message channel sequence log_time publish_time payload in
    let found = find_apart (is_channel_of channel) history r refl in
    let needed : needs_on (history ++ r ∷ []) channel ≡ needs_on history channel =
    ap (λ (o : Option Rec). flat_map (schema_for (history ++ r ∷ [])) (option_to_list o) ++ option_to_list o) found
    ∙ ap (λ (l : List Rec). l ++ option_to_list (find (is_channel_of channel) history)) (all_apart history r (option_to_list (find (is_channel_of channel) history)) (λ id. refl)) in
    ap (λ (o : Option Rec). if is_within a.range log_time && is_on a.topic o then needs_on (history ++ r ∷ []) channel ++ r ∷ [] else []) found
    ∙ ap (λ (l : List Rec). if is_picked a history r then l ++ r ∷ [] else []) needed

pub filtered_message : (a : Asking) (history : List Rec) (channel sequence log_time publish_time : ℕ) (payload : List ℕ) → Complete history
    → let r = Message channel sequence log_time publish_time payload in filtered a (history ++ r ∷ []) ≡ fold kept_with (filtered a history) (uses_of a history r)
filtered_message a history channel sequence log_time publish_time payload whole =
    let r = Message channel sequence log_time publish_time payload in
    filtered_more a history (r ∷ []) whole
    ∙ ap (fold kept_with (filtered a history)) (append-nil (uses_of a (history ++ r ∷ []) r) ∙ message_uses a history channel sequence log_time publish_time payload)

-- ---- how many records are written

one_few : (o : Option Rec) → length (option_to_list o) ≤ 1
one_few None = omega arith
one_few (Some x) = omega arith

schema_few : (history : List Rec) (id : ℕ) → length (schema_with history id) ≤ 1
schema_few history id = by (eqb id 0)
  where
    by : (b : Bool) → length (if b then [] else option_to_list (find (is_schema_of id) history)) ≤ 1
    by true = omega arith
    by false = one_few (find (is_schema_of id) history)

schema_for_few : (history : List Rec) (c : Rec) → length (schema_for history c) ≤ 1
schema_for_few history (Schema id schema) = omega arith
schema_for_few history (Channel id schema topic encoding metadata) = schema_few history schema
schema_for_few history (Message channel sequence log_time publish_time payload) = omega arith
schema_for_few history (Extra op content) = omega arith

needs_few : (history : List Rec) (id : ℕ) → length (needs_on history id) ≤ 2
needs_few history id = by (find (is_channel_of id) history)
  where
    by : (o : Option Rec) → length (flat_map (schema_for history) (option_to_list o) ++ option_to_list o) ≤ 2
    by None = omega arith
    by (Some c) = omega (arith, schema_for_few history c, length-append (schema_for history c) [], length-append (schema_for history c ++ []) (c ∷ []))

uses_few : (a : Asking) (history : List Rec) (r : Rec) → length (uses_of a history r) ≤ 3
uses_few a history (Schema id schema) = omega arith
uses_few a history (Channel id schema topic encoding metadata) = omega arith
uses_few a history (Extra op content) = omega arith
uses_few a history (Message channel sequence log_time publish_time payload) = by (is_picked a history (Message channel sequence log_time publish_time payload))
  where
    by : (b : Bool) → length (if b then needs_on history channel ++ Message channel sequence log_time publish_time payload ∷ [] else []) ≤ 3
    by true = omega (arith, needs_few history channel, length-append (needs_on history channel) (Message channel sequence log_time publish_time payload ∷ []))
    by false = omega arith

all_few : (a : Asking) (history rs : List Rec) → length (flat_map (uses_of a history) rs) ≤ 3 * length rs
all_few a history [] = omega arith
all_few a history (r ∷ rs) =
    omega (arith, all_few a history rs, uses_few a history r, length-append (uses_of a history r) (flat_map (uses_of a history) rs))

pub filtered_few : (a : Asking) (history : List Rec) → length (filtered a history) ≤ 3 * length history
filtered_few a history =
    omega (arith, ap (λ (l : List Rec). length l) (filtered_is a history), kept_few [] (flat_map (uses_of a history) history), all_few a history history)
