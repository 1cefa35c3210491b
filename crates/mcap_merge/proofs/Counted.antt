-- How many messages and records a history has.
use Rattle.std.proofs.Common.{◌≡◌, ℕ, suc, ◌+◌, true, false, List, [], ◌∷◌, ◌++◌, length, map, fold, refl, ap, ◌∙◌, arith}
use Rattle.std.specs.Prelude.{filter, min, ◌-◌, ◌^◌}
use Rattle.std.proofs.lemmas.Bool.{both_ways}
use Rattle.std.proofs.lemmas.List.{length-map, length-append}
use Rattle.std.proofs.lemmas.List.Elements.{filter-append}
use Rattle.rec_data.specs.declared.owned.Rec.{Rec}
use Rattle.rec_data.specs.declared.owned.Rec.TheVariants.{Schema, Channel, Message, Extra}
use Rattle.mcap_model.specs.Places.{Each}
use Rattle.mcap_model.specs.History.{message_of, is_message, is_inner}
use Rattle.history_ids.specs.Ids.{Ids, ids_of, schemas_in, channels_in, channel_place, channel_id, new_records}
use Rattle.history_ids.specs.DeclarationFields.{fields_of_schema}
use Rattle.history_ids.specs.Tables.{content_in, ids_in}
use Rattle.mcap_merge.specs.declared.answers.Merged.{Merged}
use Rattle.mcap_merge.specs.declared.joining.Joiner.{Joiner}
use Rattle.mcap_merge.specs.Uses.{Use, added_by, with_use, history_of}
use Rattle.mcap_merge.specs.Putting.{CountsMerged}
use Rattle.mcap_merge.proofs.Merging.{no_message, inner_all}

rest_inner : (r : Rec) (rs : List Rec) → Each (λ x. is_inner x ≡ true) (r ∷ rs) → Each (λ x. is_inner x ≡ true) rs
rest_inner r rs inner n x at = inner (suc n) x at

-- a history without extras is its Schemas, its Channels and its Messages
kinds_counted : (history : List Rec) → Each (λ r. is_inner r ≡ true) history → length history ≡ length (filter is_message history) + (length (schemas_in history) + length (channels_in history))
kinds_counted [] inner = refl
kinds_counted (Schema id schema ∷ rs) inner = omega (arith, kinds_counted rs (rest_inner (Schema id schema) rs inner))
kinds_counted (Channel id schema topic encoding metadata ∷ rs) inner = omega (arith, kinds_counted rs (rest_inner (Channel id schema topic encoding metadata) rs inner))
kinds_counted (Message channel sequence log_time publish_time payload ∷ rs) inner = omega (arith, kinds_counted rs (rest_inner (Message channel sequence log_time publish_time payload) rs inner))
kinds_counted (Extra op content ∷ rs) inner = absurd (both_ways false refl (inner 0 (Extra op content) refl))

-- the table has as many contents as the history
declared_are : (j : Joiner) (history : List Rec) → ids_in j.table ≡ ids_of history → length j.table.schemas + length j.table.channels ≡ length (schemas_in history) + length (channels_in history)
declared_are j history same =
    let schemas : length (map fields_of_schema j.table.schemas) ≡ length (schemas_in history) = ap (λ (i : Ids). length i.schemas) same in
    let channels : length (map (content_in (map fields_of_schema j.table.schemas)) j.table.channels) ≡ length (channels_in history) = ap (λ (i : Ids). length i.channels) same in
    omega (arith, schemas, channels, length-map j.table.schemas fields_of_schema, length-map j.table.channels (content_in (map fields_of_schema j.table.schemas)))

-- ---- each use is a message

one_message : (h : List Rec) (u : Use) → length (filter is_message (with_use h u)) ≡ length (filter is_message h) + 1
one_message h u =
    let ids = ids_of h in
    let new = new_records ids u.content in
    let last : List Rec = message_of (channel_id ids u.content) u.message ∷ [] in
    let kept : filter is_message (with_use h u) ≡ filter is_message h ++ last =
    filter-append is_message h (added_by h u)
    ∙ ap (λ (l : List Rec). filter is_message h ++ l) (filter-append is_message new last ∙ ap (λ (l : List Rec). l ++ last) (no_message ids u.content (channel_place ids u.content))) in
    ap (λ (l : List Rec). length l) kept ∙ length-append (filter is_message h) last

messages_from : (h : List Rec) (uses : List Use) → length (filter is_message (fold with_use h uses)) ≡ length (filter is_message h) + length uses
messages_from h [] = omega arith
messages_from h (u ∷ us) = omega (arith, messages_from (with_use h u) us, one_message h u)

-- so many messages were put, for which the joiner gave these ids
pub counts : (j : Joiner) (uses : List Use) (m : Merged) (declared : ℕ) → ids_in j.table ≡ ids_of (history_of uses) → declared ≡ length j.table.schemas + length j.table.channels → m.messages ≡ length uses → m.records ≡ min (m.messages + declared) (2 ^ 64 - 1) → CountsMerged (history_of uses) m
counts j uses m declared same is messages records =
    let history = history_of uses in
    let from : length (filter is_message history) ≡ 0 + length uses = messages_from [] uses in
    let put : length (filter is_message history) ≡ length uses = omega (arith, from) in
    let all : m.messages + declared ≡ length history = omega (arith, put, messages, is, declared_are j history same, kinds_counted history (inner_all uses)) in
    record { messages = omega (arith, put, messages); records = records ∙ ap (λ (n : ℕ). min n (2 ^ 64 - 1)) all }
