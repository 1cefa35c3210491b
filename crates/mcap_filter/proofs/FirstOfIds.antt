-- What is written of a history in which each record names what stands: its declarations are the first of their ids there, and what
-- each of its records names stands before it.
use Rattle.std.proofs.Common.{◌≡◌, ℕ, suc, Bool, true, false, ◌||◌, List, [], ◌∷◌, ◌++◌, Option, Some, None, refl, sym, ap, subst, inl, inr, ◌∙◌, append-nil, append_assoc}
use Rattle.std.specs.Prelude.{fold, filter, find, is_some, if◌then◌else◌, eqb}
use Rattle.std.specs.List.{list_any, flat_map}
use Rattle.std.specs.Option.{option_to_list}
use Rattle.std.proofs.lemmas.Bool.{false≢true, eqb-true, or_left, or_right}
use Rattle.rec_data.specs.declared.owned.Rec.{Rec}
use Rattle.rec_data.specs.declared.owned.Rec.TheVariants.{Schema, Channel, Message, Extra}
use Rattle.mcap_model.specs.Places.{Has, Each, EachBehind}
use Rattle.mcap_model.specs.History.{is_message, declare_same, kept_with, without_repeats}
use Rattle.mcap_model.specs.Needed.{is_schema_of, is_channel_of, schema_with, schema_for, needs_on, needed_behind}
use Rattle.mcap_model.proofs.Places.{at_none, at_more, each_more, each_at}
use Rattle.mcap_model.proofs.Lists.{filter_passed}
use Rattle.mcap_model.proofs.Repairs.{kept_new, fold_more}
use Rattle.mcap_filter.specs.Picked.{Asking, is_picked, filtered}
use Rattle.mcap_filter.specs.Picking.{is_complete, Complete}
use Rattle.mcap_filter.proofs.Finding.{find_there, finds_kept, some_is, schema_listed, channel_listed}
use Rattle.mcap_filter.proofs.Growing.{uses_of, filtered_is}

-- ---- records that are the first of their ids

-- a declaration is the first of its id in the history, and a Message stands there
abbrev pub IsFirst : List Rec → Rec → Type 0
IsFirst history (Schema id schema) = find (is_schema_of id) history ≡ Some (Schema id schema)
IsFirst history (Channel id schema topic encoding metadata) =
    find (is_channel_of id) history ≡ Some (Channel id schema topic encoding metadata)
IsFirst history (Message channel sequence log_time publish_time payload) =
    Has history (Message channel sequence log_time publish_time payload)
IsFirst history (Extra op content) = ⊥

-- so it stands there
pub first_there : (history : List Rec) (r : Rec) → IsFirst history r → Has history r
first_there history (Schema id schema) first = let (n, at, test) = find_there (is_schema_of id) history (Schema id schema) first in (n, at)
first_there history (Channel id schema topic encoding metadata) first = let (n, at, test) = find_there (is_channel_of id) history (Channel id schema topic encoding metadata) first in (n, at)
first_there history (Message channel sequence log_time publish_time payload) first = first
first_there history (Extra op content) first = absurd first

-- what is found first is the first
pub found_schema : (history : List Rec) (id : ℕ) (r : Rec) → find (is_schema_of id) history ≡ Some r → IsFirst history r
found_schema history id (Schema i schema) is =
    let (n, at, test) = find_there (is_schema_of id) history (Schema i schema) is in
    subst (λ (k : ℕ). find (is_schema_of k) history ≡ Some (Schema i schema)) (eqb-true id i test) is
found_schema history id (Channel i schema topic encoding metadata) is =
    let (n, at, test) = find_there (is_schema_of id) history (Channel i schema topic encoding metadata) is in absurd (false≢true test)
found_schema history id (Message channel sequence log_time publish_time payload) is =
    let (n, at, test) = find_there (is_schema_of id) history (Message channel sequence log_time publish_time payload) is in absurd (false≢true test)
found_schema history id (Extra op content) is =
    let (n, at, test) = find_there (is_schema_of id) history (Extra op content) is in absurd (false≢true test)

pub found_channel : (history : List Rec) (id : ℕ) (r : Rec) → find (is_channel_of id) history ≡ Some r → IsFirst history r
found_channel history id (Schema i schema) is =
    let (n, at, test) = find_there (is_channel_of id) history (Schema i schema) is in absurd (false≢true test)
found_channel history id (Channel i schema topic encoding metadata) is =
    let (n, at, test) = find_there (is_channel_of id) history (Channel i schema topic encoding metadata) is in
    subst (λ (k : ℕ). find (is_channel_of k) history ≡ Some (Channel i schema topic encoding metadata)) (eqb-true id i test) is
found_channel history id (Message channel sequence log_time publish_time payload) is =
    let (n, at, test) = find_there (is_channel_of id) history (Message channel sequence log_time publish_time payload) is in absurd (false≢true test)
found_channel history id (Extra op content) is =
    let (n, at, test) = find_there (is_channel_of id) history (Extra op content) is in absurd (false≢true test)

-- Some records are the first of their ids in the history, and what each names stands before it.
pub record AreFirst (history out : List Rec) : Type 0 where
  pub firsts : Each (IsFirst history) out
  pub named : EachBehind (λ before r. is_complete before r ≡ true) out

none_first : (history : List Rec) → AreFirst history []
none_first history = record { firsts = λ n r at. absurd (at_none n r at); named = λ n r at. absurd (at_none n r at) }

first_more : (history out : List Rec) (r : Rec) → AreFirst history out → IsFirst history r → is_complete out r ≡ true → AreFirst history (out ++ r ∷ [])
first_more history out r was first named = record {
  firsts = λ n x at. elim (at_more out r n x at) [
    | inl old ↦ was.firsts n x old
    | inr here ↦ subst (IsFirst history) (sym here.1) first
  ];
  named = each_more (λ before x. is_complete before x ≡ true) out r was.named named;
}

first_kept : (history out : List Rec) (r : Rec) → AreFirst history out → IsFirst history r → is_complete out r ≡ true → AreFirst history (kept_with out r)
first_kept history out r was first named = by (list_any (declare_same r) out)
  where
    by : (b : Bool) → AreFirst history (if b then out else out ++ r ∷ [])
    by true = was
    by false = first_more history out r was first named

-- ---- a Message with what it needs

-- records that are the first, among which a Channel's Schema stands, if it has one
record HasItsSchema (history out : List Rec) (id : ℕ) : Type 0 where
  are : AreFirst history out
  there : (eqb id 0 || is_some (find (is_schema_of id) out)) ≡ true

put_schema : (history out : List Rec) (id : ℕ) → AreFirst history out → (eqb id 0 || is_some (find (is_schema_of id) history)) ≡ true → HasItsSchema history (fold kept_with out (schema_with history id)) id
put_schema history out id was some = by (eqb id 0) (find (is_schema_of id) history) refl refl some
  where
    put : (x : Rec) → find (is_schema_of id) history ≡ Some x → HasItsSchema history (kept_with out x) id
    put (Schema i s) is =
        let (n, at, test) = find_there (is_schema_of id) history (Schema i s) is in
        record {
          are = first_kept history out (Schema i s) was (found_schema history id (Schema i s) is) refl;
          there = or_right (eqb id 0) (is_some (find (is_schema_of id) (kept_with out (Schema i s))))
              (finds_kept (is_schema_of id) (λ r rs. schema_listed id r rs) out (Schema i s ∷ []) (inr (ap (λ (b : Bool). is_some (if b then Some (Schema i s) else None)) test)));
        }
    put (Channel i s topic encoding metadata) is = let (n, at, test) = find_there (is_schema_of id) history (Channel i s topic encoding metadata) is in absurd (false≢true test)
    put (Message channel sequence log_time publish_time payload) is =
        let (n, at, test) = find_there (is_schema_of id) history (Message channel sequence log_time publish_time payload) is in absurd (false≢true test)
    put (Extra op content) is = let (n, at, test) = find_there (is_schema_of id) history (Extra op content) is in absurd (false≢true test)

    by : (b : Bool) (o : Option Rec) → eqb id 0 ≡ b → find (is_schema_of id) history ≡ o → (b || is_some o) ≡ true
        → HasItsSchema history (fold kept_with out (if b then [] else option_to_list o)) id
    by true o none is there = record { are = was; there = or_left (eqb id 0) (is_some (find (is_schema_of id) out)) none }
    by false None other is there = absurd (false≢true there)
    by false (Some x) other is there = put x is

-- records that are the first, among which the Channel of an id stands
record HasItsChannel (history out : List Rec) (id : ℕ) : Type 0 where
  are : AreFirst history out
  there : is_some (find (is_channel_of id) out) ≡ true

put_needs : (history out : List Rec) (id : ℕ) → AreFirst history out → Complete history → is_some (find (is_channel_of id) history) ≡ true → HasItsChannel history (fold kept_with out (needs_on history id)) id
put_needs history out id was whole some = let (c, is) = some_is (find (is_channel_of id) history) some in by c is
  where
    -- what it needs where it is found
    needs : (c : Rec) → find (is_channel_of id) history ≡ Some c → needs_on history id ≡ schema_for history c ++ c ∷ []
    needs c is =
        ap (λ (o : Option Rec). flat_map (schema_for history) (option_to_list o) ++ option_to_list o) is
        ∙ ap (λ (l : List Rec). l ++ c ∷ []) (append-nil (schema_for history c))

    by : (c : Rec) → find (is_channel_of id) history ≡ Some c → HasItsChannel history (fold kept_with out (needs_on history id)) id
    by (Channel i s topic encoding metadata) is =
        let c = Channel i s topic encoding metadata in
        let (n, at, test) = find_there (is_channel_of id) history c is in
        let before = put_schema history out s was (whole n c at) in
        let mid = fold kept_with out (schema_with history s) in
        subst (λ (l : List Rec). HasItsChannel history l id) (sym (ap (fold kept_with out) (needs c is) ∙ fold_more out (schema_with history s) (c ∷ []))) (record {
          are = first_kept history mid c before.are (found_channel history id c is) before.there;
          there = finds_kept (is_channel_of id) (λ r rs. channel_listed id r rs) mid (c ∷ []) (inr (ap (λ (b : Bool). is_some (if b then Some c else None)) test));
        })
    by (Schema i s) is = let (n, at, test) = find_there (is_channel_of id) history (Schema i s) is in absurd (false≢true test)
    by (Message channel sequence log_time publish_time payload) is =
        let (n, at, test) = find_there (is_channel_of id) history (Message channel sequence log_time publish_time payload) is in absurd (false≢true test)
    by (Extra op content) is = let (n, at, test) = find_there (is_channel_of id) history (Extra op content) is in absurd (false≢true test)

put_message : (history out : List Rec) (r : Rec) → is_message r ≡ true → AreFirst history out → Complete history → Has history r → AreFirst history (needed_behind history out r)
put_message history out (Schema i s) message was whole has = absurd (false≢true message)
put_message history out (Channel i s topic encoding metadata) message was whole has = absurd (false≢true message)
put_message history out (Extra op content) message was whole has = absurd (false≢true message)
put_message history out (Message channel sequence log_time publish_time payload) message was whole has =
    let r = Message channel sequence log_time publish_time payload in
    let before = put_needs history out channel was whole (whole has.0 r has.1) in
    first_more history (fold kept_with out (needs_on history channel)) r before.are has before.there

put_messages : (history out rs : List Rec) → Each (λ (r : Rec). is_message r ≡ true) rs → AreFirst history out → Complete history → Each (Has history) rs → AreFirst history (fold (needed_behind history) out rs)
put_messages history out [] messages was whole has = was
put_messages history out (r ∷ rs) messages was whole has =
    put_messages history (needed_behind history out r) rs (λ n x at. messages (suc n) x at) (put_message history out r (messages 0 r refl) was whole (has 0 r refl)) whole (λ n x at. has (suc n) x at)

-- ---- what is written

-- what is picked is a Message
pub picked_message : (a : Asking) (history : List Rec) (r : Rec) → is_picked a history r ≡ true → is_message r ≡ true
picked_message a history (Schema id schema) is = absurd (false≢true is)
picked_message a history (Channel id schema topic encoding metadata) is = absurd (false≢true is)
picked_message a history (Extra op content) is = absurd (false≢true is)
picked_message a history (Message channel sequence log_time publish_time payload) is = refl

pub filtered_first : (a : Asking) (history : List Rec) → Complete history → AreFirst history (filtered a history)
filtered_first a history whole =
    put_messages history [] (filter (is_picked a history) history)
    (λ n r at. let passed = filter_passed (is_picked a history) history n r at in picked_message a history r passed.1)
    (none_first history) whole
    (λ n r at. let passed = filter_passed (is_picked a history) history n r at in passed.0)

-- ---- no id is declared twice

abbrev IsNew : List Rec → Rec → Type 0
IsNew before r = list_any (declare_same r) before ≡ false

new_kept : (out : List Rec) (r : Rec) → EachBehind IsNew out → EachBehind IsNew (kept_with out r)
new_kept out r was = by (list_any (declare_same r) out) refl
  where
    by : (b : Bool) → list_any (declare_same r) out ≡ b → EachBehind IsNew (if b then out else out ++ r ∷ [])
    by true old = was
    by false new = each_more IsNew out r was new

new_fold : (out rs : List Rec) → EachBehind IsNew out → EachBehind IsNew (fold kept_with out rs)
new_fold out [] was = was
new_fold out (r ∷ rs) was = new_fold (kept_with out r) rs (new_kept out r was)

all_new : (done rs : List Rec) → EachBehind IsNew (done ++ rs) → fold kept_with done rs ≡ done ++ rs
all_new done [] new = sym (append-nil done)
all_new done (r ∷ rs) new =
    let joined : done ++ r ∷ rs ≡ (done ++ r ∷ []) ++ rs = sym (append_assoc done (r ∷ []) rs) in
    ap (λ (l : List Rec). fold kept_with l rs) (kept_new done r (each_at IsNew done r rs new)) ∙ all_new (done ++ r ∷ []) rs (subst (EachBehind IsNew) joined new) ∙ sym joined

-- without repeats there are none
pub once_kept : (rs : List Rec) → without_repeats (without_repeats rs) ≡ without_repeats rs
once_kept rs = all_new [] (without_repeats rs) (new_fold [] rs (λ n r at. absurd (at_none n r at)))

pub filtered_once : (a : Asking) (history : List Rec) → without_repeats (filtered a history) ≡ filtered a history
filtered_once a history = ap without_repeats (filtered_is a history) ∙ once_kept (flat_map (uses_of a history) history) ∙ sym (filtered_is a history)
