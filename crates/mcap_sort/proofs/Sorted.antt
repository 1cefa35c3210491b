-- What a sort comes to.
use Rattle.std.proofs.Common.{◌≡◌, ◌⊎◌, ℕ, zero, suc, ◌+◌, ◌<◌, ◌≤◌, Bool, true, false, List, [], ◌∷◌, ◌++◌, length, map, take, drop, Option, Some, None, refl, sym, ap, subst, inl, inr, ◌∙◌, append-nil, cond, arith, eq-eqb}
use Rattle.std.specs.Prelude.{filter, fold, find, is_some, eqb, min, ◌-◌, ◌^◌, Result, Ok, Err, AllPairs, IsPermutation, if◌then◌else◌}
use Rattle.std.specs.List.{AllZip, flat_map}
use Rattle.std.specs.Option.{option_to_list}
use Rattle.rec_data.specs.declared.owned.Rec.{Rec}
use Rattle.rec_data.specs.declared.owned.Rec.TheVariants.{Schema, Channel, Message, Extra}
use Rattle.rec_data.proofs.OwnedReading.{shown_once}
use Rattle.mcap_io.specs.Outside.{LiveState}
use Rattle.mcap_io.specs.Stores.{StoreState}
use Rattle.mcap_model.specs.declared.options.FileOptions.{FileOptions}
use Rattle.mcap_model.specs.declared.ends.Stop.{Stop}
use Rattle.mcap_model.specs.Places.{At, Has, Each}
use Rattle.mcap_model.specs.Tops.{Top, flat, placed, Placed}
use Rattle.mcap_model.specs.WalkedRecords.{walked}
use Rattle.mcap_model.specs.Kept.{Good, reading_limits}
use Rattle.mcap_model.specs.Scan.{Seen, Scan, IsSeen, tops_of, is_message_top, ComesBefore, Replay}
use Rattle.mcap_model.specs.History.{is_inner, kept_with, declare_same, without_repeats, channel_of, message_of}
use Rattle.mcap_model.specs.Written.{IsRec, AreFlatRecords}
use Rattle.mcap_model.specs.Repaired.{Repairs}
use Rattle.mcap_model.specs.ReadBack.{IsExtra}
use Rattle.mcap_model.proofs.Flat.{placed_tops}
use Rattle.mcap_model.proofs.Lists.{pairs_at, pairs_from, each_joined}
use Rattle.mcap_model.proofs.OneMore.{each_last}
use Rattle.mcap_model.proofs.NamedTopics.{zip_front, zip_back, unmapped}
use Rattle.mcap_model.proofs.Places.{at_none}
use Rattle.mcap_scan.proofs.Walked.{walked_v6}
use Rattle.mcap_scan.specs.HeadTimes.{time_in}
use Rattle.merge_walk.specs.declared.turns.Turn.{Turn}
use Rattle.merge_walk.specs.Cursors.{TurnBefore}
use Rattle.mcap_merge.specs.declared.input.Input.{Input}
use Rattle.mcap_merge.specs.declared.input.Extra.{Extra as Held}
use Rattle.mcap_merge.specs.Inputs.{HoldsInput, extra_top, extra_tops}
use Rattle.mcap_merge.specs.ReadInputs.{Read}
use Rattle.mcap_merge.specs.Sound.{LoggedInTurn}
use Rattle.merge_walk.specs.Walks.{Text}
use Rattle.mcap_merge.proofs.Sound.{time_shown}
use Rattle.record_keeping.proofs.Given.{recs_ahead, flat_given}
use Rattle.mcap_model.specs.Needed.{is_schema_of, is_channel_of, schema_with, channel_with, schema_for, needs_on, needs_of, needed_behind, with_needs}
use Rattle.mcap_sort.specs.Sorted.{all_times, message_seen}
use Rattle.mcap_sort.specs.Turns.{IsRecOfTurn}
use Rattle.mcap_sort.specs.Sorting.{IsOnDeclared, AreInTime}
use Rattle.mcap_sort.proofs.Finding.{finds, finds_kept, find_there, some_is, channel_listed, kept_from}

-- ---- the records of a good list

-- what its Schemas, Channels and Messages show
pub recs_file : (tops : List Top) → Good reading_limits tops → (rs : List Rec) × AreFlatRecords tops rs
recs_file tops good =
    let (rs, zip) = recs_ahead (walked tops) (walked_v6 tops good) in
    (rs, subst (λ (l : List Top). AllZip IsRec l rs) (sym (flat_given tops [] (walked tops) refl)) zip)

-- ---- a channel that has messages is declared

channel_there : (us : List Top) (rs : List Rec) (n channel : ℕ) (u : Top) (r : Rec) → AllZip IsRec us rs → At rs n r → is_channel_of channel r ≡ true → (c : Rec) × (find (is_channel_of channel) (without_repeats rs) ≡ Some c)
channel_there us rs n channel u r zip at is =
    some_is (find (is_channel_of channel) (without_repeats rs))
    (finds_kept (is_channel_of channel) (λ x history. channel_listed channel x history) [] rs (inr (finds (is_channel_of channel) rs n r at is)))

pub used_declared : (r : Read) (input : Input) (rs : List Rec) (channel : ℕ) → HoldsInput r input → AreFlatRecords r.tops rs → At input.used.items channel true → (c : Rec) × (find (is_channel_of channel) (without_repeats rs) ≡ Some c)
used_declared r input rs channel holds zip marked =
    let are = holds.used_are.are in
    let (m, has, on) = are channel marked in
    let (p, at_p, seen) = zip_back (IsSeen (tops_of (placed r.tops))) (filter (λ (q : Placed). is_message_top q.top) (placed r.tops)) r.messages has.0 m holds.scan has.1 in
    let known = seen.known in
    let there : At (flat r.tops) known.place known.top = subst (λ (l : List Top). At l known.place known.top) (placed_tops 8 r.tops) known.at in
    let (rec, at, is) = zip_front IsRec (flat r.tops) rs known.place known.top zip there in
    let shown = known.is in
    let same : rec ≡ channel_of m.channel known.shown = shown_once known.top.op known.top.content rec (channel_of m.channel known.shown) is (shown.kind, shown.layout) in
    let declares : is_channel_of m.channel rec ≡ true = ap (is_channel_of m.channel) same ∙ eq-eqb m.channel m.channel refl in
    subst (λ (n : ℕ). (c : Rec) × (find (is_channel_of n) (without_repeats rs) ≡ Some c)) on (channel_there (flat r.tops) rs known.place m.channel known.top rec zip at declares)

-- ---- the messages of turns are in time

rec_declared : (r : Read) (input : Input) (rs : List Rec) (texts : List Text) (t : Turn) (rec : Rec) → HoldsInput r input → AreFlatRecords r.tops rs → IsRecOfTurn input texts t rec → IsOnDeclared (without_repeats rs) rec
rec_declared r input rs texts t rec holds zip is = subst (IsOnDeclared (without_repeats rs)) (sym is.is) (used_declared r input rs is.channel holds zip is.used)

recs_rise : (input : Input) (texts : List Text) (t u : Turn) (a b : Rec) → TurnBefore t u → IsRecOfTurn input texts t a → IsRecOfTurn input texts u b → LoggedInTurn a b
recs_rise input texts t u a b before one other =
    let first : t.log_time ≡ one.message.log_time = one.there.time ∙ time_shown one.top.content one.channel one.message one.shows in
    let second : u.log_time ≡ other.message.log_time = other.there.time ∙ time_shown other.top.content other.channel other.message other.shows in
    let less : t.log_time ≤ u.log_time = elim before [ inl less ↦ omega (arith, less) | inr (same, more) ↦ omega (arith, same) ] in
    let rise : one.message.log_time ≤ other.message.log_time = omega (arith, first, second, less) in
    subst (λ (x : Rec). LoggedInTurn x b) (sym one.is) (subst (λ (x : Rec). LoggedInTurn (message_of one.channel one.message) x) (sym other.is) rise)

pub are_in_time : (r : Read) (input : Input) (rs : List Rec) (texts : List Text) (given : List Turn) (records : List Rec) → HoldsInput r input → AreFlatRecords r.tops rs → AllPairs TurnBefore given → AllZip (IsRecOfTurn input texts) given records → AreInTime (without_repeats rs) records
are_in_time r input rs texts given records holds zip rise are = record {
  declared = λ n x at. let (t, at_t, is) = zip_back (IsRecOfTurn input texts) given records n x are at in rec_declared r input rs texts t x holds zip is;
  rise = pairs_from LoggedInTurn records (λ i j a b less at_a at_b.
      let (t, at_t, one) = zip_back (IsRecOfTurn input texts) given records i a are at_a in
      let (u, at_u, other) = zip_back (IsRecOfTurn input texts) given records j b are at_b in
      recs_rise input texts t u a b (pairs_at TurnBefore given rise i j t u less at_t at_u) one other);
}

-- ---- what is written stands in blocks

abbrev Inner : Rec → Type 0
Inner r = is_inner r ≡ true

schema_inner : (id : ℕ) (r : Rec) → is_schema_of id r ≡ true → Inner r
schema_inner id (Schema i s) is = refl
schema_inner id (Channel i s topic encoding metadata) is = refl
schema_inner id (Message channel sequence log_time publish_time payload) is = refl
schema_inner id (Extra op content) is = is

channel_inner : (id : ℕ) (r : Rec) → is_channel_of id r ≡ true → Inner r
channel_inner id (Schema i s) is = refl
channel_inner id (Channel i s topic encoding metadata) is = refl
channel_inner id (Message channel sequence log_time publish_time payload) is = refl
channel_inner id (Extra op content) is = is

none_inner : Each Inner []
none_inner n r at = absurd (at_none n r at)

one_inner : (r : Rec) → Inner r → Each Inner (r ∷ [])
one_inner r is zero x at = let same : r ≡ x = cc in subst Inner same is
one_inner r is (suc n) x at = absurd (at_none n x at)

found_inner : (p : Rec → Bool) (history : List Rec) → ((r : Rec) → p r ≡ true → Inner r) → Each Inner (option_to_list (find p history))
found_inner p history each = by (find p history) refl
  where
    by : (o : Option Rec) → find p history ≡ o → Each Inner (option_to_list o)
    by None is = none_inner
    by (Some x) is = one_inner x (each x (find_there p history x is).2)

schema_with_inner : (history : List Rec) (id : ℕ) → Each Inner (schema_with history id)
schema_with_inner history id = by (eqb id 0)
  where
    by : (b : Bool) → Each Inner (if b then [] else option_to_list (find (is_schema_of id) history))
    by true = none_inner
    by false = found_inner (is_schema_of id) history (schema_inner id)

schema_for_inner : (history : List Rec) (c : Rec) → Each Inner (schema_for history c)
schema_for_inner history (Schema i s) = none_inner
schema_for_inner history (Channel i s topic encoding metadata) = schema_with_inner history s
schema_for_inner history (Message channel sequence log_time publish_time payload) = none_inner
schema_for_inner history (Extra op content) = none_inner

all_inner : (history cs : List Rec) → Each Inner (flat_map (schema_for history) cs)
all_inner history [] = none_inner
all_inner history (c ∷ cs) = each_joined Inner (schema_for history c) (flat_map (schema_for history) cs) (schema_for_inner history c) (all_inner history cs)

needs_inner : (history : List Rec) (r : Rec) → Each Inner (needs_of history r)
needs_inner history (Schema i s) = none_inner
needs_inner history (Channel i s topic encoding metadata) = schema_with_inner history s
needs_inner history (Message channel sequence log_time publish_time payload) =
    each_joined Inner (flat_map (schema_for history) (channel_with history channel)) (channel_with history channel) (all_inner history (channel_with history channel)) (found_inner (is_channel_of channel) history (channel_inner channel))
needs_inner history (Extra op content) = none_inner

on_inner : (history : List Rec) (r : Rec) → IsOnDeclared history r → Inner r
on_inner history (Schema i s) is = refl
on_inner history (Channel i s topic encoding metadata) is = refl
on_inner history (Message channel sequence log_time publish_time payload) is = refl
on_inner history (Extra op content) is = absurd is

written_inner : (history out rs : List Rec) → Each Inner out → Each Inner rs → Each Inner (fold (needed_behind history) out rs)
written_inner history out [] each others = each
written_inner history out (r ∷ rs) each others =
    written_inner history (needed_behind history out r) rs
    (each_last Inner (fold kept_with out (needs_of history r)) r (kept_from Inner out (needs_of history r) each (needs_inner history r)) (others 0 r refl)) (λ n x at. others (suc n) x at)

pub sorted_inner : (history records : List Rec) → Each (IsOnDeclared history) records → Each Inner (with_needs history records)
sorted_inner history records declared = written_inner history [] records none_inner (λ n r at. on_inner history r (declared n r at))

-- ---- a replay is in time

seen_declared : (r : Read) (input : Input) (rs : List Rec) (s : Seen) → HoldsInput r input → AreFlatRecords r.tops rs → Has r.messages s → IsOnDeclared (without_repeats rs) (message_seen s)
seen_declared r input rs s holds zip has = let all = holds.used_are.all in used_declared r input rs s.channel holds zip (all s has)

pub replayed_in_time : (r : Read) (input : Input) (rs : List Rec) (shown : List Seen) → HoldsInput r input → AreFlatRecords r.tops rs → Replay all_times None r.messages shown → AreInTime (without_repeats rs) (map message_seen shown)
replayed_in_time r input rs shown holds zip replay = record {
  declared = λ n x at.
      let (s, at_s, same) = unmapped message_seen shown n x at in
      let are = replay.are in
      subst (IsOnDeclared (without_repeats rs)) same (seen_declared r input rs s holds zip (are s (n, at_s)).0);
  rise = pairs_from LoggedInTurn (map message_seen shown) (λ i j a b less at_a at_b.
      let (s, at_s, one) = unmapped message_seen shown i a at_a in
      let (u, at_u, other) = unmapped message_seen shown j b at_b in
      let before = pairs_at ComesBefore shown replay.rises i j s u less at_s at_u in
      let rise : s.message.log_time ≤ u.message.log_time = elim before [ inl more ↦ omega (arith, more) | inr (same, place) ↦ omega (arith, same) ] in
      subst (λ (x : Rec). LoggedInTurn x b) one (subst (λ (x : Rec). LoggedInTurn (message_seen s) x) other rise));
}
