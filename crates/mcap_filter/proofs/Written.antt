-- The messages of what is written.
use Rattle.std.proofs.Common.{◌≡◌, ℕ, suc, ◌≤◌, Bool, true, false, ◌&&◌, List, [], ◌∷◌, ◌++◌, Option, Some, None, refl, sym, ap, ◌∙◌, append-nil, append_assoc, cond, arith}
use Rattle.std.specs.Prelude.{filter, fold, find, is_some, nat_le, if◌then◌else◌, eqb}
use Rattle.std.specs.List.{list_any, flat_map}
use Rattle.std.specs.Option.{option_to_list}
use Rattle.std.proofs.lemmas.Bool.{false≢true, le-leb}
use Rattle.std.proofs.lemmas.List.Elements.{filter-append}
use Rattle.rec_data.specs.declared.owned.Rec.{Rec}
use Rattle.rec_data.specs.declared.owned.Rec.TheVariants.{Schema, Channel, Message, Extra}
use Rattle.mcap_model.specs.Places.{Each}
use Rattle.mcap_model.specs.Fields.{MessageFields}
use Rattle.mcap_model.specs.History.{declare_same, kept_with, is_message}
use Rattle.mcap_model.proofs.Repairs.{kept_new}
use Rattle.record_keeping.proofs.Keepings.{message_known}
use Rattle.mcap_model.specs.Needed.{is_schema_of, is_channel_of, schema_with, schema_for, needs_on}
use Rattle.mcap_filter.specs.Picked.{Asking, is_on, is_picked, picked}
use Rattle.mcap_filter.specs.Picking.{is_complete}
use Rattle.mcap_filter.specs.Laws.{MessagesAreThosePicked, everything, AllMessagesAreKept}
use Rattle.mcap_filter.proofs.Finding.{find_there}
use Rattle.mcap_filter.proofs.Growing.{uses_of, filtered_is}
use Rattle.mcap_filter.proofs.Completing.{complete_whole}

-- no message declares an id
messages_one : (history : List Rec) (r : Rec) → filter is_message (kept_with history r) ≡ filter is_message history ++ filter is_message (r ∷ [])
messages_one history (Schema id schema) = by (list_any (declare_same (Schema id schema)) history)
  where
    by : (b : Bool) → filter is_message (if b then history else history ++ Schema id schema ∷ []) ≡ filter is_message history ++ []
    by true = sym (append-nil (filter is_message history))
    by false = filter-append is_message history (Schema id schema ∷ [])
messages_one history (Channel id schema topic encoding metadata) = by (list_any (declare_same (Channel id schema topic encoding metadata)) history)
  where
    by : (b : Bool) → filter is_message (if b then history else history ++ Channel id schema topic encoding metadata ∷ []) ≡ filter is_message history ++ []
    by true = sym (append-nil (filter is_message history))
    by false = filter-append is_message history (Channel id schema topic encoding metadata ∷ [])
messages_one history (Extra op content) = by (list_any (declare_same (Extra op content)) history)
  where
    by : (b : Bool) → filter is_message (if b then history else history ++ Extra op content ∷ []) ≡ filter is_message history ++ []
    by true = sym (append-nil (filter is_message history))
    by false = filter-append is_message history (Extra op content ∷ [])
messages_one history (Message channel sequence log_time publish_time payload) =
    let r = Message channel sequence log_time publish_time payload in
    let m : MessageFields = record { sequence = sequence; log_time = log_time; publish_time = publish_time; payload = payload } in
    ap (λ (l : List Rec). filter is_message l) (kept_new history r (message_known channel m history)) ∙ filter-append is_message history (r ∷ [])

messages_kept : (history rs : List Rec) → filter is_message (fold kept_with history rs) ≡ filter is_message history ++ filter is_message rs
messages_kept history [] = sym (append-nil (filter is_message history))
messages_kept history (r ∷ rs) =
    messages_kept (kept_with history r) rs
    ∙ ap (λ (l : List Rec). l ++ filter is_message rs) (messages_one history r)
    ∙ append_assoc (filter is_message history) (filter is_message (r ∷ [])) (filter is_message rs)
    ∙ ap (λ (l : List Rec). filter is_message history ++ l) (sym (filter-append is_message (r ∷ []) rs))

-- what is needed is no message
schema_none : (history : List Rec) (id : ℕ) → filter is_message (schema_with history id) ≡ []
schema_none history id = by (eqb id 0) (find (is_schema_of id) history) refl
  where
    by : (b : Bool) (o : Option Rec) → find (is_schema_of id) history ≡ o → filter is_message (if b then [] else option_to_list o) ≡ []
    by true o is = refl
    by false None is = refl
    by false (Some (Schema i s)) is = refl
    by false (Some (Channel i s topic encoding metadata)) is = refl
    by false (Some (Extra op content)) is = refl
    by false (Some (Message c sequence log_time publish_time payload)) is = let (n, at, test) = find_there (is_schema_of id) history (Message c sequence log_time publish_time payload) is in absurd (false≢true test)

schema_for_none : (history : List Rec) (c : Rec) → filter is_message (schema_for history c) ≡ []
schema_for_none history (Schema id schema) = refl
schema_for_none history (Channel id schema topic encoding metadata) = schema_none history schema
schema_for_none history (Message channel sequence log_time publish_time payload) = refl
schema_for_none history (Extra op content) = refl

needs_none : (history : List Rec) (id : ℕ) → filter is_message (needs_on history id) ≡ []
needs_none history id = by (find (is_channel_of id) history) refl
  where
    found : (c : Rec) → filter is_message (c ∷ []) ≡ [] → filter is_message ((schema_for history c ++ []) ++ c ∷ []) ≡ []
    found c none =
        filter-append is_message (schema_for history c ++ []) (c ∷ [])
        ∙ ap (λ (l : List Rec). filter is_message l ++ filter is_message (c ∷ [])) (append-nil (schema_for history c))
        ∙ ap (λ (l : List Rec). l ++ filter is_message (c ∷ [])) (schema_for_none history c) ∙ none

    by : (o : Option Rec) → find (is_channel_of id) history ≡ o → filter is_message (flat_map (schema_for history) (option_to_list o) ++ option_to_list o) ≡ []
    by None is = refl
    by (Some (Schema i s)) is = found (Schema i s) refl
    by (Some (Channel i s topic encoding metadata)) is = found (Channel i s topic encoding metadata) refl
    by (Some (Extra op content)) is = found (Extra op content) refl
    by (Some (Message c sequence log_time publish_time payload)) is = let (n, at, test) = find_there (is_channel_of id) history (Message c sequence log_time publish_time payload) is in absurd (false≢true test)

messages_of : (a : Asking) (history rs : List Rec) → filter is_message (flat_map (uses_of a history) rs) ≡ filter (is_picked a history) rs
messages_of a history [] = refl
messages_of a history (Schema id schema ∷ rs) = messages_of a history rs
messages_of a history (Channel id schema topic encoding metadata ∷ rs) = messages_of a history rs
messages_of a history (Extra op content ∷ rs) = messages_of a history rs
messages_of a history (Message channel sequence log_time publish_time payload ∷ rs) = by (is_picked a history (Message channel sequence log_time publish_time payload)) (messages_of a history rs)
  where
    by : (b : Bool) → filter is_message (flat_map (uses_of a history) rs) ≡ filter (is_picked a history) rs → let r = Message channel sequence log_time publish_time payload in
        filter is_message ((if b then needs_on history channel ++ r ∷ [] else []) ++ flat_map (uses_of a history) rs) ≡ (if b then r ∷ filter (is_picked a history) rs else filter (is_picked a history) rs)
    by true rest =
        let r = Message channel sequence log_time publish_time payload in
        filter-append is_message (needs_on history channel ++ r ∷ []) (flat_map (uses_of a history) rs)
        ∙ ap (λ (l : List Rec). l ++ filter is_message (flat_map (uses_of a history) rs)) (filter-append is_message (needs_on history channel) (r ∷ []) ∙ ap (λ (l : List Rec). l ++ r ∷ []) (needs_none history channel))
        ∙ ap (λ (l : List Rec). r ∷ l) rest
    by false rest = rest

pub messages_picked : MessagesAreThosePicked
messages_picked a history =
    ap (λ (l : List Rec). filter is_message l) (filtered_is a history)
    ∙ messages_kept [] (flat_map (uses_of a history) history)
    ∙ messages_of a history history

-- ---- all messages are asked for

found_on : (history : List Rec) (channel : ℕ) (o : Option Rec) → find (is_channel_of channel) history ≡ o → is_some o ≡ true → is_on None o ≡ true
found_on history channel None is some = absurd (false≢true some)
found_on history channel (Some (Schema id s)) is some = let (n, at, test) = find_there (is_channel_of channel) history (Schema id s) is in absurd (false≢true test)
found_on history channel (Some (Channel id s topic encoding metadata)) is some = refl
found_on history channel (Some (Message c sequence log_time publish_time payload)) is some = let (n, at, test) = find_there (is_channel_of channel) history (Message c sequence log_time publish_time payload) is in absurd (false≢true test)
found_on history channel (Some (Extra op content)) is some = let (n, at, test) = find_there (is_channel_of channel) history (Extra op content) is in absurd (false≢true test)

-- each message lies in the range that is all times
in_all_times : (channel sequence log_time publish_time : ℕ) (payload : List ℕ) (history : List Rec) → is_some (find (is_channel_of channel) history) ≡ true → is_picked everything history (Message channel sequence log_time publish_time payload) ≡ true
in_all_times channel sequence log_time publish_time payload history some =
    let within : nat_le 0 log_time ≡ true = le-leb 0 log_time (omega arith) in
    ap (λ (b : Bool). (b && true) && is_on None (find (is_channel_of channel) history)) within ∙ found_on history channel (find (is_channel_of channel) history) refl some

all_picked : (history rs : List Rec) → Each (λ (r : Rec). is_complete history r ≡ true) rs → filter (is_picked everything history) rs ≡ filter is_message rs
all_picked history [] each = refl
all_picked history (Schema id s ∷ rs) each = all_picked history rs (λ n r at. each (suc n) r at)
all_picked history (Channel id s topic encoding metadata ∷ rs) each = all_picked history rs (λ n r at. each (suc n) r at)
all_picked history (Extra op content ∷ rs) each = all_picked history rs (λ n r at. each (suc n) r at)
all_picked history (Message channel sequence log_time publish_time payload ∷ rs) each =
    let r = Message channel sequence log_time publish_time payload in
    ap (λ (b : Bool). cond b (r ∷ filter (is_picked everything history) rs) (filter (is_picked everything history) rs)) (in_all_times channel sequence log_time publish_time payload history (each 0 r refl))
    ∙ ap (λ (l : List Rec). r ∷ l) (all_picked history rs (λ n x at. each (suc n) x at))

pub all_are_kept : AllMessagesAreKept
all_are_kept tops extras profile history good repairs = messages_picked everything history ∙ all_picked history history (complete_whole tops extras profile history good repairs)
