-- The messages that are picked are those of the scan that are asked for.
use Rattle.std.proofs.Common.{◌≡◌, ℕ, suc, Bool, true, false, ◌&&◌, List, [], ◌∷◌, Option, Some, refl, sym, ap, subst, inr, ◌∙◌, cond}
use Rattle.std.specs.Prelude.{filter, find, is_some}
use Rattle.std.specs.List.{AllZip}
use Rattle.std.proofs.lemmas.Bool.{both_ways, eqb-true, eq-eqb}
use Rattle.std.proofs.lemmas.Option.{same_Some}
use Rattle.rec_data.specs.declared.owned.Rec.{Rec}
use Rattle.rec_data.specs.declared.owned.Rec.TheVariants.{Schema, Channel, Message, Extra}
use Rattle.rec_data.proofs.OwnedReading.{shown_once}
use Rattle.mcap_model.specs.Places.{Each}
use Rattle.mcap_model.specs.Tops.{Top, placed, flat}
use Rattle.mcap_model.specs.Fields.{ChannelFields}
use Rattle.mcap_model.specs.Kept.{Good, reading_limits}
use Rattle.mcap_model.specs.Scan.{Seen, HasTopic, is_message_top, tops_of, is_within}
use Rattle.mcap_model.specs.History.{channel_of, is_message}
use Rattle.mcap_model.specs.Laws.{HoldsSeen}
use Rattle.mcap_model.specs.Needed.{is_channel_of}
use Rattle.mcap_model.specs.Repaired.{Repairs}
use Rattle.mcap_model.specs.Written.{IsRec}
use Rattle.mcap_model.proofs.NamedTopics.{zip_front, known_all}
use Rattle.mcap_model.proofs.Flat.{good_lists_agree, placed_tops, topic_once}
use Rattle.mcap_filter.specs.Picked.{Asking, is_topic, is_on, is_picked}
use Rattle.mcap_filter.specs.FilteredHistories.{is_seen_asked, PickedAreAsked}
use Rattle.mcap_filter.proofs.Finding.{find_there, finds, finds_kept, some_is, channel_listed}
use Rattle.mcap_filter.proofs.Completing.{complete_whole}
use Rattle.mcap_filter.proofs.FirstOfIds.{filtered_first}
use Rattle.mcap_filter.proofs.HistoriesStand.{repaired_is}

-- ---- the first Channel has the topic of the scan

-- the first Channel of an id in the history, which is on that topic
record IsFirstOn (history : List Rec) (channel : ℕ) (topic : List ℕ) : Type 0 where
  fields : ChannelFields
  found : find (is_channel_of channel) history ≡ Some (channel_of channel fields)
  topic_is : fields.topic ≡ topic

-- a Channel that the records hold is found in what repairing makes of them
is_found : (tops extras : List Top) (profile : List ℕ) (history : List Rec) (channel : ℕ) (topic : List ℕ) → Repairs tops profile extras history → HasTopic (flat tops) channel topic → is_some (find (is_channel_of channel) history) ≡ true
is_found tops extras profile history channel topic repairs has =
    let (r, at, is) = zip_front IsRec (flat tops) repairs.flattened has.place has.top repairs.are_flattened has.at in
    let shown = has.is in
    let same : r ≡ channel_of channel has.shown = shown_once has.top.op has.top.content r (channel_of channel has.shown) is (shown.kind, shown.layout) in
    let there = finds (is_channel_of channel) repairs.flattened has.place r at (ap (is_channel_of channel) same ∙ eq-eqb channel channel refl) in
    subst (λ (l : List Rec). is_some (find (is_channel_of channel) l) ≡ true) (sym repairs.history_is)
    (finds_kept (is_channel_of channel) (λ x rs. channel_listed channel x rs) [] repairs.flattened (inr there))

first_on : (tops extras : List Top) (profile : List ℕ) (history : List Rec) (channel : ℕ) (topic : List ℕ) → Good reading_limits tops → Repairs tops profile extras history → HasTopic (flat tops) channel topic → IsFirstOn history channel topic
first_on tops extras profile history channel topic good repairs has =
    let (c, is) = some_is (find (is_channel_of channel) history) (is_found tops extras profile history channel topic repairs has) in by c is
  where
    by : (c : Rec) → find (is_channel_of channel) history ≡ Some c → IsFirstOn history channel topic
    by (Channel i s name encoding metadata) is =
        let c = Channel i s name encoding metadata in
        let f : ChannelFields = record { schema = s; topic = name; encoding = encoding; metadata = metadata } in
        let (n, at, test) = find_there (is_channel_of channel) history c is in
        let ids : channel ≡ i = eqb-true channel i test in
        let (m, u, there, shows) = repaired_is tops extras profile history c repairs (n, at) in
        let own : HasTopic (flat tops) channel name =
        subst (λ (k : ℕ). HasTopic (flat tops) k name) (sym ids) (record { place = m; top = u; shown = f; at = there; is = record { kind = shows.0; layout = shows.1 }; topic_is = refl }) in
        record {
          fields = f;
          found = is ∙ ap (λ (k : ℕ). Some (channel_of k f)) (sym ids);
          topic_is = topic_once (flat tops) channel name topic (good_lists_agree reading_limits tops good).1 own has;
        }
    by (Schema i s) is = let (n, at, test) = find_there (is_channel_of channel) history (Schema i s) is in absurd (both_ways false refl test)
    by (Message c sequence log_time publish_time payload) is = let (n, at, test) = find_there (is_channel_of channel) history (Message c sequence log_time publish_time payload) is in absurd (both_ways false refl test)
    by (Extra op content) is = let (n, at, test) = find_there (is_channel_of channel) history (Extra op content) is in absurd (both_ways false refl test)

-- ---- what is picked of a history with such messages

-- each message's first Channel is on its topic
abbrev AreOn : List Rec → List Seen → Type 0
AreOn history messages = Each (λ s. IsFirstOn history s.channel s.topic) messages

asked_so : (a : Asking) (history : List Rec) (r : Rec) (s : Seen) → HoldsSeen r s → IsFirstOn history s.channel s.topic → is_picked a history r ≡ is_seen_asked a s
asked_so a history r s holds first =
    ap (is_picked a history) holds
    ∙ ap (λ (o : Option Rec). is_within a.range s.message.log_time && is_on a.topic o) first.found
    ∙ ap (λ (t : List ℕ). is_within a.range s.message.log_time && is_topic a.topic t) first.topic_is

picked_zip : (a : Asking) (history rs : List Rec) (messages : List Seen) → AllZip HoldsSeen (filter is_message rs) messages → AreOn history messages → AllZip HoldsSeen (filter (is_picked a history) rs) (filter (is_seen_asked a) messages)
picked_zip a history [] [] zip on = tt
picked_zip a history [] (s ∷ ss) zip on = absurd zip
picked_zip a history (Schema id schema ∷ rs) messages zip on = picked_zip a history rs messages zip on
picked_zip a history (Channel id schema topic encoding metadata ∷ rs) messages zip on = picked_zip a history rs messages zip on
picked_zip a history (Extra op content ∷ rs) messages zip on = picked_zip a history rs messages zip on
picked_zip a history (Message channel sequence log_time publish_time payload ∷ rs) [] zip on = absurd zip
picked_zip a history (Message channel sequence log_time publish_time payload ∷ rs) (s ∷ ss) zip on =
    let r = Message channel sequence log_time publish_time payload in
    by (is_picked a history r) (is_seen_asked a s) (asked_so a history r s zip.0 (on 0 s refl)) zip.0 (picked_zip a history rs ss zip.1 (λ n x at. on (suc n) x at))
  where
    by : (b c : Bool) → b ≡ c → HoldsSeen (Message channel sequence log_time publish_time payload) s → AllZip HoldsSeen (filter (is_picked a history) rs) (filter (is_seen_asked a) ss)
        → AllZip HoldsSeen (cond b (Message channel sequence log_time publish_time payload ∷ filter (is_picked a history) rs) (filter (is_picked a history) rs)) (cond c (s ∷ filter (is_seen_asked a) ss) (filter (is_seen_asked a) ss))
    by true true same holds rest = (holds, rest)
    by false false same holds rest = rest
    by true false same holds rest = absurd (both_ways true (same) refl)
    by false true same holds rest = absurd (both_ways false refl same)

abbrev fields_in : ChannelFields → Rec → ChannelFields
fields_in other (Schema id s) = other
fields_in other (Channel id schema topic encoding metadata) = record { schema = schema; topic = topic; encoding = encoding; metadata = metadata }
fields_in other (Message channel sequence log_time publish_time payload) = other
fields_in other (Extra op content) = other

pub picked_are_asked : PickedAreAsked
picked_are_asked a tops extras profile history messages good repairs scan holds =
    let records : tops_of (placed tops) ≡ flat tops = placed_tops 8 tops in
    let known = known_all (tops_of (placed tops)) (filter (λ p. is_message_top p.top) (placed tops)) messages scan in
    let on : AreOn history messages = λ n s at. first_on tops extras profile history s.channel s.topic good repairs (subst (λ (l : List Top). HasTopic l s.channel s.topic) records (known s (n, at))) in
    let are = filtered_first a history (complete_whole tops extras profile history good repairs) in
    record {
      are = picked_zip a history history messages holds on;
      topics = λ s f has there.
          let first = on has.0 s has.1 in
          let found : find (is_channel_of s.channel) history ≡ Some (channel_of s.channel f) = are.firsts there.0 (channel_of s.channel f) there.1 in
          let same : f ≡ first.fields = ap (fields_in f) (same_Some (channel_of s.channel f) (channel_of s.channel first.fields) (sym found ∙ first.found)) in
          ap (λ (g : ChannelFields). g.topic) same ∙ first.topic_is;
    }
