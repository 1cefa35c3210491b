-- The messages of what is written.
use Rattle.std.proofs.Common.{◌≡◌, ℕ, zero, suc, Bool, true, false, List, [], ◌∷◌, ◌++◌, map, Option, Some, None, refl, sym, ap, subst, ◌∙◌, append-nil, append_assoc}
use Rattle.std.specs.Prelude.{filter, fold, find, eqb, AllPairs, if◌then◌else◌}
use Rattle.std.specs.List.{flat_map, list_any}
use Rattle.std.specs.Option.{option_to_list}
use Rattle.std.proofs.lemmas.List.Elements.{filter-append}
use Rattle.rec_data.specs.declared.owned.Rec.{Rec}
use Rattle.rec_data.specs.declared.owned.Rec.TheVariants.{Schema, Channel, Message, Extra}
use Rattle.mcap_model.specs.Places.{At, Has, Each}
use Rattle.mcap_model.specs.Scan.{Seen, ComesBefore, IsAsked, Replay}
use Rattle.mcap_model.specs.History.{is_message, declare_same, kept_with}
use Rattle.mcap_model.proofs.Lists.{each_joined}
use Rattle.mcap_model.proofs.Places.{at_none}
use Rattle.mcap_model.specs.Needed.{is_schema_of, is_channel_of, schema_with, channel_with, schema_for, needs_on, needs_of, needed_behind, with_needs}
use Rattle.mcap_sort.specs.Sorted.{all_times, message_seen}
use Rattle.mcap_sort.proofs.Finding.{find_there}
use Rattle.mcap_sort.proofs.Told.{asked_all}

abbrev Silent : Rec → Type 0
Silent r = is_message r ≡ false

schema_silent : (id : ℕ) (r : Rec) → is_schema_of id r ≡ true → Silent r
schema_silent id (Schema i s) is = refl
schema_silent id (Channel i s topic encoding metadata) is = refl
schema_silent id (Message channel sequence log_time publish_time payload) is = sym is
schema_silent id (Extra op content) is = refl

channel_silent : (id : ℕ) (r : Rec) → is_channel_of id r ≡ true → Silent r
channel_silent id (Schema i s) is = refl
channel_silent id (Channel i s topic encoding metadata) is = refl
channel_silent id (Message channel sequence log_time publish_time payload) is = sym is
channel_silent id (Extra op content) is = refl

none_silent : Each Silent []
none_silent n r at = absurd (at_none n r at)

one_silent : (r : Rec) → Silent r → Each Silent (r ∷ [])
one_silent r is zero x at = let same : r ≡ x = cc in subst Silent same is
one_silent r is (suc n) x at = absurd (at_none n x at)

found_silent : (p : Rec → Bool) (history : List Rec) → ((r : Rec) → p r ≡ true → Silent r) → Each Silent (option_to_list (find p history))
found_silent p history each = by (find p history) refl
  where
    by : (o : Option Rec) → find p history ≡ o → Each Silent (option_to_list o)
    by None is = none_silent
    by (Some x) is = one_silent x (each x (find_there p history x is).2)

schema_with_silent : (history : List Rec) (id : ℕ) → Each Silent (schema_with history id)
schema_with_silent history id = by (eqb id 0)
  where
    by : (b : Bool) → Each Silent (if b then [] else option_to_list (find (is_schema_of id) history))
    by true = none_silent
    by false = found_silent (is_schema_of id) history (schema_silent id)

schema_for_silent : (history : List Rec) (c : Rec) → Each Silent (schema_for history c)
schema_for_silent history (Schema i s) = none_silent
schema_for_silent history (Channel i s topic encoding metadata) = schema_with_silent history s
schema_for_silent history (Message channel sequence log_time publish_time payload) = none_silent
schema_for_silent history (Extra op content) = none_silent

all_silent : (history cs : List Rec) → Each Silent (flat_map (schema_for history) cs)
all_silent history [] = none_silent
all_silent history (c ∷ cs) = each_joined Silent (schema_for history c) (flat_map (schema_for history) cs) (schema_for_silent history c) (all_silent history cs)

needs_silent : (history : List Rec) (r : Rec) → Each Silent (needs_of history r)
needs_silent history (Schema i s) = none_silent
needs_silent history (Channel i s topic encoding metadata) = schema_with_silent history s
needs_silent history (Message channel sequence log_time publish_time payload) =
    each_joined Silent (flat_map (schema_for history) (channel_with history channel)) (channel_with history channel) (all_silent history (channel_with history channel)) (found_silent (is_channel_of channel) history (channel_silent channel))
needs_silent history (Extra op content) = none_silent

silent_kept : (out : List Rec) (x : Rec) → Silent x → filter is_message (kept_with out x) ≡ filter is_message out
silent_kept out x is = by (list_any (declare_same x) out)
  where
    by : (b : Bool) → filter is_message (if b then out else out ++ x ∷ []) ≡ filter is_message out
    by true = refl
    by false = filter-append is_message out (x ∷ []) ∙ ap (λ (b : Bool). filter is_message out ++ (if b then x ∷ [] else [])) is ∙ append-nil (filter is_message out)

silent_fold : (out xs : List Rec) → Each Silent xs → filter is_message (fold kept_with out xs) ≡ filter is_message out
silent_fold out [] each = refl
silent_fold out (x ∷ xs) each = silent_fold (kept_with out x) xs (λ n y at. each (suc n) y at) ∙ silent_kept out x (each 0 x refl)

messages_fold : (history out rs : List Rec) → Each (λ r. is_message r ≡ true) rs → filter is_message (fold (needed_behind history) out rs) ≡ filter is_message out ++ rs
messages_fold history out [] each = sym (append-nil (filter is_message out))
messages_fold history out (r ∷ rs) each =
    let mid = fold kept_with out (needs_of history r) in
    messages_fold history (needed_behind history out r) rs (λ n x at. each (suc n) x at)
    ∙ ap (λ (l : List Rec). l ++ rs) (filter-append is_message mid (r ∷ []) ∙ ap (λ (b : Bool). filter is_message mid ++ (if b then r ∷ [] else [])) (each 0 r refl) ∙ ap (λ (l : List Rec). l ++ r ∷ []) (silent_fold out (needs_of history r) (needs_silent history r)))
    ∙ append_assoc (filter is_message out) (r ∷ []) rs

seen_messages : (shown : List Seen) → Each (λ r. is_message r ≡ true) (map message_seen shown)
seen_messages [] n r at = absurd (at_none n r at)
seen_messages (s ∷ ss) zero r at = let same : message_seen s ≡ r = cc in subst (λ (x : Rec). is_message x ≡ true) same refl
seen_messages (s ∷ ss) (suc n) r at = seen_messages ss n r at

-- the messages of what is written with their needs are these
pub messages_seen : (history : List Rec) (shown : List Seen) → filter is_message (with_needs history (map message_seen shown)) ≡ map message_seen shown
messages_seen history shown = messages_fold history [] (map message_seen shown) (seen_messages shown)

-- messages that rise are their own replay
pub replay_same : (messages : List Seen) → AllPairs ComesBefore messages → Replay all_times None messages messages
replay_same messages rise = record { rises = rise; are = λ s has. (has, asked_all s); all = λ s has asked. has }
