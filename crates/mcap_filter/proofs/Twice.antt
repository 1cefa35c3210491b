-- To filter what was filtered is to filter once.
use Rattle.std.proofs.Common.{◌≡◌, ℕ, suc, Bool, true, false, ◌&&◌, ◌||◌, List, [], ◌∷◌, ◌++◌, take, Option, Some, None, refl, sym, ap, subst, ◌∙◌, cond}
use Rattle.std.specs.Prelude.{filter, fold, find, is_some, if◌then◌else◌, eqb}
use Rattle.std.specs.List.{flat_map}
use Rattle.std.specs.Option.{option_to_list}
use Rattle.std.proofs.lemmas.Bool.{both_ways, eqb-true, and_parts}
use Rattle.rec_data.specs.declared.owned.Rec.{Rec}
use Rattle.rec_data.specs.declared.owned.Rec.TheVariants.{Schema, Channel, Message, Extra}
use Rattle.mcap_model.specs.Places.{At, Has, Each}
use Rattle.mcap_model.specs.History.{is_message, kept_with}
use Rattle.mcap_model.specs.Needed.{is_schema_of, is_channel_of, schema_with, schema_for, needs_on, needed_behind, with_needs}
use Rattle.mcap_model.specs.Scan.{is_within}
use Rattle.mcap_model.proofs.Asides.{filter_twice}
use Rattle.mcap_model.proofs.Lists.{cut_at, filter_passed, filter_has}
use Rattle.mcap_filter.specs.Picked.{Asking, is_on, is_picked, picked, filtered}
use Rattle.mcap_filter.specs.Picking.{Complete}
use Rattle.mcap_filter.specs.FilteredHistories.{AsksForBoth, FilteredTwiceIsOnce}
use Rattle.mcap_filter.proofs.Finding.{find_kept, find_there, some_is}
use Rattle.mcap_filter.proofs.Completing.{complete_whole}
use Rattle.mcap_filter.proofs.FirstOfIds.{IsFirst, AreFirst, filtered_first, picked_message}
use Rattle.mcap_filter.proofs.Written.{messages_picked}

-- ---- what is found in what was written is what is found in the history

schema_first : (history out : List Rec) (id : ℕ) → Each (IsFirst history) out → is_some (find (is_schema_of id) out) ≡ true → find (is_schema_of id) out ≡ find (is_schema_of id) history
schema_first history out id firsts there = let (r, is) = some_is (find (is_schema_of id) out) there in by r is
  where
    by : (r : Rec) → find (is_schema_of id) out ≡ Some r → find (is_schema_of id) out ≡ find (is_schema_of id) history
    by (Schema i s) is =
        let (n, at, test) = find_there (is_schema_of id) out (Schema i s) is in
        is ∙ sym (subst (λ (k : ℕ). find (is_schema_of k) history ≡ Some (Schema i s)) (sym (eqb-true id i test)) (firsts n (Schema i s) at))
    by (Channel i s topic encoding metadata) is = let (n, at, test) = find_there (is_schema_of id) out (Channel i s topic encoding metadata) is in absurd (both_ways false refl test)
    by (Message c sequence log_time publish_time payload) is = let (n, at, test) = find_there (is_schema_of id) out (Message c sequence log_time publish_time payload) is in absurd (both_ways false refl test)
    by (Extra op content) is = let (n, at, test) = find_there (is_schema_of id) out (Extra op content) is in absurd (both_ways false refl test)

channel_first : (history out : List Rec) (id : ℕ) → Each (IsFirst history) out → is_some (find (is_channel_of id) out) ≡ true → find (is_channel_of id) out ≡ find (is_channel_of id) history
channel_first history out id firsts there = let (r, is) = some_is (find (is_channel_of id) out) there in by r is
  where
    by : (r : Rec) → find (is_channel_of id) out ≡ Some r → find (is_channel_of id) out ≡ find (is_channel_of id) history
    by (Channel i s topic encoding metadata) is =
        let c = Channel i s topic encoding metadata in
        let (n, at, test) = find_there (is_channel_of id) out c is in
        is ∙ sym (subst (λ (k : ℕ). find (is_channel_of k) history ≡ Some c) (sym (eqb-true id i test)) (firsts n c at))
    by (Schema i s) is = let (n, at, test) = find_there (is_channel_of id) out (Schema i s) is in absurd (both_ways false refl test)
    by (Message c sequence log_time publish_time payload) is = let (n, at, test) = find_there (is_channel_of id) out (Message c sequence log_time publish_time payload) is in absurd (both_ways false refl test)
    by (Extra op content) is = let (n, at, test) = find_there (is_channel_of id) out (Extra op content) is in absurd (both_ways false refl test)

-- what stands before a record stands among all
found_on : (p : Rec → Bool) (out : List Rec) (n : ℕ) (r : Rec) → At out n r → is_some (find p (take n out)) ≡ true → is_some (find p out) ≡ true
found_on p out n r at there =
    let (more, is) = cut_at out n r at in
    ap (λ (l : List Rec). is_some (find p l)) is ∙ ap is_some (find_kept p (take n out) (r ∷ more) there) ∙ there

-- ---- needs

module _ (history out : List Rec) (are : AreFirst history out) where
  schema_same : (n i s : ℕ) (topic encoding : List ℕ) (metadata : List (List ℕ × List ℕ)) → At out n (Channel i s topic encoding metadata) → schema_with out s ≡ schema_with history s
  schema_same n i s topic encoding metadata at = by (eqb s 0) (are.named n (Channel i s topic encoding metadata) at)
    where
      by : (b : Bool) → (b || is_some (find (is_schema_of s) (take n out))) ≡ true → (if b then [] else option_to_list (find (is_schema_of s) out)) ≡ (if b then [] else option_to_list (find (is_schema_of s) history))
      by true there = refl
      by false there = ap option_to_list (schema_first history out s are.firsts (found_on (is_schema_of s) out n (Channel i s topic encoding metadata) at there))

  schema_for_same : (n : ℕ) (c : Rec) → At out n c → schema_for out c ≡ schema_for history c
  schema_for_same n (Schema i s) at = refl
  schema_for_same n (Channel i s topic encoding metadata) at = schema_same n i s topic encoding metadata at
  schema_for_same n (Message c sequence log_time publish_time payload) at = refl
  schema_for_same n (Extra op content) at = refl

  -- a Message that stands there has the same needs of both
  channel_there : (n channel sequence log_time publish_time : ℕ) (payload : List ℕ) → At out n (Message channel sequence log_time publish_time payload) → is_some (find (is_channel_of channel) out) ≡ true
  channel_there n channel sequence log_time publish_time payload at =
      let r = Message channel sequence log_time publish_time payload in found_on (is_channel_of channel) out n r at (are.named n r at)

  needs_same : (channel : ℕ) → is_some (find (is_channel_of channel) out) ≡ true → needs_on out channel ≡ needs_on history channel
  needs_same channel there =
      let (c, is) = some_is (find (is_channel_of channel) out) there in
      let (n, at, test) = find_there (is_channel_of channel) out c is in
      let same = channel_first history out channel are.firsts there in
      ap (λ (o : Option Rec). flat_map (schema_for out) (option_to_list o) ++ option_to_list o) is
      ∙ ap (λ (l : List Rec). (l ++ []) ++ c ∷ []) (schema_for_same n c at)
      ∙ sym (ap (λ (o : Option Rec). flat_map (schema_for history) (option_to_list o) ++ option_to_list o) (sym same ∙ is))

  behind_same : (before : List Rec) (r : Rec) → is_message r ≡ true → Has out r → needed_behind out before r ≡ needed_behind history before r
  behind_same before (Schema i s) message has = absurd (both_ways false refl message)
  behind_same before (Channel i s topic encoding metadata) message has = absurd (both_ways false refl message)
  behind_same before (Extra op content) message has = absurd (both_ways false refl message)
  behind_same before (Message channel sequence log_time publish_time payload) message has =
      let r = Message channel sequence log_time publish_time payload in
      ap (λ (l : List Rec). fold kept_with before l ++ r ∷ []) (needs_same channel (channel_there has.0 channel sequence log_time publish_time payload has.1))

  all_same : (before rs : List Rec) → Each (λ r. is_message r ≡ true) rs → Each (Has out) rs → fold (needed_behind out) before rs ≡ fold (needed_behind history) before rs
  all_same before [] messages has = refl
  all_same before (r ∷ rs) messages has =
      ap (λ (l : List Rec). fold (needed_behind out) l rs) (behind_same before r (messages 0 r refl) (has 0 r refl))
      ∙ all_same (needed_behind history before r) rs (λ n x at. messages (suc n) x at) (λ n x at. has (suc n) x at)

-- ---- what is picked

-- what is asked for of a Channel by both
on_both : (one other both : Asking) (o : Option Rec) → AsksForBoth one other both → is_on both.topic o ≡ (is_on one.topic o && is_on other.topic o)
on_both one other both None asks = refl
on_both one other both (Some (Schema i s)) asks = refl
on_both one other both (Some (Channel i s topic encoding metadata)) asks = asks.topics topic
on_both one other both (Some (Message c sequence log_time publish_time payload)) asks = refl
on_both one other both (Some (Extra op content)) asks = refl

four : (a b c d : Bool) → ((a && b) && (c && d)) ≡ ((a && c) && (b && d))
four true true c d = refl
four true false true d = refl
four true false false d = refl
four false b c d = refl

both_picked : (one other both : Asking) (history : List Rec) (r : Rec) → AsksForBoth one other both → is_picked both history r ≡ (is_picked one history r && is_picked other history r)
both_picked one other both history (Schema i s) asks = refl
both_picked one other both history (Channel i s topic encoding metadata) asks = refl
both_picked one other both history (Extra op content) asks = refl
both_picked one other both history (Message channel sequence log_time publish_time payload) asks =
    let o = find (is_channel_of channel) history in
    ap (λ (b : Bool). b && is_on both.topic o) (asks.times log_time)
    ∙ ap (λ (b : Bool). (is_within one.range log_time && is_within other.range log_time) && b) (on_both one other both o asks)
    ∙ four (is_within one.range log_time) (is_within other.range log_time) (is_on one.topic o) (is_on other.topic o)

-- of a Message that stands in what was written
picked_same : (a : Asking) (history out : List Rec) (r : Rec) → AreFirst history out → Has out r → is_picked a out r ≡ is_picked a history r
picked_same a history out (Schema i s) are has = refl
picked_same a history out (Channel i s topic encoding metadata) are has = refl
picked_same a history out (Extra op content) are has = refl
picked_same a history out (Message channel sequence log_time publish_time payload) are has =
    ap (λ (o : Option Rec). is_within a.range log_time && is_on a.topic o)
    (channel_first history out channel are.firsts (channel_there history out are has.0 channel sequence log_time publish_time payload has.1))

module _ (one other both : Asking) (history : List Rec) (asks : AsksForBoth one other both) (whole : Complete history) where
  abbrev out : List Rec
  out = filtered one history

  are : AreFirst history out
  are = filtered_first one history whole

  -- what was picked stands there
  stands : (r : Rec) → Has history r → is_picked one history r ≡ true → Has out r
  stands r has test =
      let there = filter_has (is_picked one history) history has.0 r has.1 test in
      let message = subst (λ (l : List Rec). Has l r) (sym (messages_picked one history)) there in
      let passed = filter_passed is_message out message.0 r message.1 in
      passed.0

  picked_again : (rs : List Rec) → Each (Has history) rs → filter (is_picked other out) (filter (is_picked one history) rs) ≡ filter (is_picked both history) rs
  picked_again [] has = refl
  picked_again (r ∷ rs) has = by (is_picked one history r) refl (picked_again rs (λ n x at. has (suc n) x at))
    where
      by : (b : Bool) → is_picked one history r ≡ b → filter (is_picked other out) (filter (is_picked one history) rs) ≡ filter (is_picked both history) rs
          → filter (is_picked other out) (cond b (r ∷ filter (is_picked one history) rs) (filter (is_picked one history) rs)) ≡ filter (is_picked both history) (r ∷ rs)
      by true test rest =
          let same : is_picked both history r ≡ is_picked other out r =
          both_picked one other both history r asks ∙ ap (λ (b : Bool). b && is_picked other history r) test ∙ sym (picked_same other history out r are (stands r (has 0 r refl) test)) in
          ap (λ (l : List Rec). cond (is_picked other out r) (r ∷ l) l) rest
          ∙ ap (λ (b : Bool). cond b (r ∷ filter (is_picked both history) rs) (filter (is_picked both history) rs)) (sym same)
      by false test rest =
          let none : is_picked both history r ≡ false = both_picked one other both history r asks ∙ ap (λ (b : Bool). b && is_picked other history r) test in
          rest ∙ ap (λ (b : Bool). cond b (r ∷ filter (is_picked both history) rs) (filter (is_picked both history) rs)) (sym none)

  picked_once : picked other out ≡ picked both history
  picked_once =
      sym (filter_twice (is_picked other out) is_message out (λ r test. picked_message other out r test))
      ∙ ap (filter (is_picked other out)) (messages_picked one history)
      ∙ picked_again history (λ n r at. (n, at))

  there : Each (Has out) (picked both history)
  there n r at =
      let passed = filter_passed (is_picked both history) history n r at in
      stands r passed.0 (and_parts (is_picked one history r) (is_picked other history r) (sym (both_picked one other both history r asks) ∙ passed.1)).0

  messages : Each (λ r. is_message r ≡ true) (picked both history)
  messages n r at = picked_message both history r (filter_passed (is_picked both history) history n r at).1

  pub once : filtered other out ≡ filtered both history
  once = ap (with_needs out) picked_once ∙ all_same history out are [] (picked both history) messages there

pub filtered_twice_is_once : FilteredTwiceIsOnce
filtered_twice_is_once one other both tops extras profile history asks good repairs =
    once one other both history asks (complete_whole tops extras profile history good repairs)
