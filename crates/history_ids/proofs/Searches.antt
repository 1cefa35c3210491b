-- Contents that are found in a list, and contents of a history.
use Rattle.std.proofs.Common.{◌≡◌, ℕ, zero, suc, ◌+◌, Bool, true, false, ◌&&◌, List, [], ◌∷◌, ◌++◌, length, Some, None, refl, sym, ap, subst, ◌∙◌, arith}
use Rattle.std.specs.Prelude.{position, bytes_eq, take, cond, ◌==◌}
use Rattle.std.specs.List.{position_from}
use Rattle.std.specs.Cmp.Lexicographic.{pointwise, pointwise_decides, bytes_decides}
use Rattle.std.proofs.lemmas.Bool.{and_parts, and_from, eqb-true, both_ways}
use Rattle.std.proofs.lemmas.Iterator.Adapters.{position_from-zero}
use Rattle.std.proofs.lemmas.Grind.{flat_map-append}
use Rattle.rec_data.specs.declared.owned.Rec.{Rec}
use Rattle.rec_data.specs.declared.owned.Rec.TheVariants.{Schema, Channel, Message, Extra}
use Rattle.mcap_model.specs.Places.{At}
use Rattle.mcap_model.specs.Fields.{SchemaFields, ChannelFields}
use Rattle.mcap_model.specs.History.{schema_of, channel_of, schema_count, channel_count}
use Rattle.mcap_model.proofs.Places.{at_none}
use Rattle.history_ids.specs.Ids.{schema_in, schemas_in, channel_in, channels_in, same_schema, same_pair, same_channel}
use Rattle.mcap_model.proofs.Maps.{fields_one}
use Rattle.std.proofs.lemmas.Option.{same_Some}

-- ---- what a search finds

module _ {X : Type 0} (p : X → Bool) where
  pub record Finds (xs : List X) (k : ℕ) : Type 0 where
    pub element : X
    pub at : At xs k element
    pub passes : p element ≡ true

  here_or_later : (x : X) (xs : List X) (i k : ℕ) (b : Bool) → p x ≡ b → cond b (Some i) (position_from p (i + 1) xs) ≡ Some k
      → (position_from p (i + 1) xs ≡ Some k → (j : ℕ) × (k ≡ i + 1 + j) × Finds xs j) → (j : ℕ) × (k ≡ i + j) × Finds (x ∷ xs) j
  here_or_later x xs i k true is e more = (0, omega (arith, same_Some i k e), record { element = x; at = refl; passes = is })
  here_or_later x xs i k false is e more =
      let later = more e in
      let there = later.2 in
      (suc later.0, omega (arith, later.1), record { element = there.element; at = there.at; passes = there.passes })

  none_some : (k : ℕ) → None ≡ Some k → ⊥
  none_some k e = cc

  found_from : (xs : List X) (i k : ℕ) → position_from p i xs ≡ Some k → (j : ℕ) × (k ≡ i + j) × Finds xs j
  found_from [] i k e = absurd (none_some k e)
  found_from (x ∷ xs) i k e = here_or_later x xs i k (p x) refl e (found_from xs (i + 1) k)

  fails_here : (y : X) (xs : List X) (i : ℕ) (b : Bool) → p y ≡ b → cond b (Some i) (position_from p (i + 1) xs) ≡ None
      → (position_from p (i + 1) xs ≡ None → (j : ℕ) (x : X) → At xs j x → p x ≡ true → ⊥) → (j : ℕ) (x : X) → At (y ∷ xs) j x → p x ≡ true → ⊥
  fails_here y xs i true is e more j x at passes = none_some i (sym e)
  fails_here y xs i false is e more zero x at passes = both_ways (p y) is (ap p (same_Some y x at) ∙ passes)
  fails_here y xs i false is e more (suc j) x at passes = more e j x at passes

  none_from : (xs : List X) (i : ℕ) → position_from p i xs ≡ None → (j : ℕ) (x : X) → At xs j x → p x ≡ true → ⊥
  none_from [] i e j x at passes = at_none j x at
  none_from (y ∷ xs) i e j x at passes = fails_here y xs i (p y) refl e (none_from xs (i + 1)) j x at passes

  pub found : (xs : List X) (k : ℕ) → position p xs ≡ Some k → Finds xs k
  found xs k e =
      let there = found_from xs 0 k (sym (position_from-zero p xs) ∙ e) in
      subst (Finds xs) (let same : there.0 ≡ k = omega (arith, there.1) in same) there.2

  pub not_found : (xs : List X) → position p xs ≡ None → (j : ℕ) (x : X) → At xs j x → p x ≡ true → ⊥
  not_found xs e = none_from xs 0 (sym (position_from-zero p xs) ∙ e)

-- ---- tests of contents

bytes_same : (a b : List ℕ) → bytes_eq a b ≡ true → a ≡ b
bytes_same a b e = (bytes_decides a b).0 e

bytes_own : (a : List ℕ) → bytes_eq a a ≡ true
bytes_own a = (bytes_decides a a).1 refl

abbrev pair : List ℕ → List ℕ → List ℕ × List ℕ
pair a b = (a, b)

pair_made : (a b c d : List ℕ) → a ≡ b → c ≡ d → pair a c ≡ pair b d
pair_made a b c d e f = cc

pair_by : (p q : List ℕ × List ℕ) → same_pair p q ≡ true → p ≡ q
pair_by p q e =
    let both = and_parts (bytes_eq p.0 q.0) (bytes_eq p.1 q.1) e in
    pair_made p.0 q.0 p.1 q.1 (bytes_same p.0 q.0 both.0) (bytes_same p.1 q.1 both.1)

pair_decides : (p q : List ℕ × List ℕ) → (same_pair p q ≡ true → p ≡ q) × (p ≡ q → same_pair p q ≡ true)
pair_decides p q = (pair_by p q, λ e. subst (λ (r : List ℕ × List ℕ). same_pair p r ≡ true) e (and_from (bytes_eq p.0 p.0) (bytes_eq p.1 p.1) (bytes_own p.0) (bytes_own p.1)))

pub schema_own : (f : SchemaFields) → same_schema f f ≡ true
schema_own f = and_from (bytes_eq f.name f.name) (bytes_eq f.encoding f.encoding && bytes_eq f.payload f.payload) (bytes_own f.name)
    (and_from (bytes_eq f.encoding f.encoding) (bytes_eq f.payload f.payload) (bytes_own f.encoding) (bytes_own f.payload))

abbrev made : List ℕ → List ℕ → List ℕ → SchemaFields
made name encoding payload = record { name = name; encoding = encoding; payload = payload }

made_same : (a b c d e f : List ℕ) → a ≡ b → c ≡ d → e ≡ f → made a c e ≡ made b d f
made_same a b c d e f name encoding payload = cc

pub schema_same : (f g : SchemaFields) → same_schema f g ≡ true → f ≡ g
schema_same f g e =
    let first = and_parts (bytes_eq f.name g.name) (bytes_eq f.encoding g.encoding && bytes_eq f.payload g.payload) e in
    let second = and_parts (bytes_eq f.encoding g.encoding) (bytes_eq f.payload g.payload) first.1 in
    made_same f.name g.name f.encoding g.encoding f.payload g.payload (bytes_same f.name g.name first.0) (bytes_same f.encoding g.encoding second.0) (bytes_same f.payload g.payload second.1)

pub channel_own : (f : ChannelFields) → same_channel f f ≡ true
channel_own f =
    let maps = (pointwise_decides pair_decides f.metadata f.metadata).1 refl in
    and_from (f.schema == f.schema) (bytes_eq f.topic f.topic && (bytes_eq f.encoding f.encoding && pointwise same_pair f.metadata f.metadata)) (id_own f.schema)
    (and_from (bytes_eq f.topic f.topic) (bytes_eq f.encoding f.encoding && pointwise same_pair f.metadata f.metadata) (bytes_own f.topic)
    (and_from (bytes_eq f.encoding f.encoding) (pointwise same_pair f.metadata f.metadata) (bytes_own f.encoding) maps))
  where
    id_own : (n : ℕ) → (n == n) ≡ true
    id_own n = grind arith

pub channel_same : (f g : ChannelFields) → same_channel f g ≡ true → f ≡ g
channel_same f g e =
    let one = and_parts (f.schema == g.schema) (bytes_eq f.topic g.topic && (bytes_eq f.encoding g.encoding && pointwise same_pair f.metadata g.metadata)) e in
    let two = and_parts (bytes_eq f.topic g.topic) (bytes_eq f.encoding g.encoding && pointwise same_pair f.metadata g.metadata) one.1 in
    let three = and_parts (bytes_eq f.encoding g.encoding) (pointwise same_pair f.metadata g.metadata) two.1 in
    fields_one f g (eqb-true f.schema g.schema one.0) (bytes_same f.topic g.topic two.0) (bytes_same f.encoding g.encoding three.0)
    ((pointwise_decides pair_decides f.metadata g.metadata).0 three.1)

-- ---- contents of a history

pub schemas_counted : (history : List Rec) → schema_count history ≡ length (schemas_in history)
schemas_counted [] = refl
schemas_counted (Schema id s ∷ rs) = ap suc (schemas_counted rs)
schemas_counted (Channel id schema topic encoding metadata ∷ rs) = schemas_counted rs
schemas_counted (Message channel sequence log_time publish_time payload ∷ rs) = schemas_counted rs
schemas_counted (Extra op content ∷ rs) = schemas_counted rs

pub channels_counted : (history : List Rec) → channel_count history ≡ length (channels_in history)
channels_counted [] = refl
channels_counted (Schema id s ∷ rs) = channels_counted rs
channels_counted (Channel id schema topic encoding metadata ∷ rs) = ap suc (channels_counted rs)
channels_counted (Message channel sequence log_time publish_time payload ∷ rs) = channels_counted rs
channels_counted (Extra op content ∷ rs) = channels_counted rs

pub schemas_more : (xs ys : List Rec) → schemas_in (xs ++ ys) ≡ schemas_in xs ++ schemas_in ys
schemas_more xs ys = flat_map-append schema_in xs ys

pub channels_more : (xs ys : List Rec) → channels_in (xs ++ ys) ≡ channels_in xs ++ channels_in ys
channels_more xs ys = flat_map-append channel_in xs ys

-- the Schema that has this content stands behind as many as there are contents before it
pub schema_there : (history : List Rec) (k : ℕ) (f : SchemaFields) → At (schemas_in history) k f → (n : ℕ) × (id : ℕ) × At history n (schema_of id f) × (schema_count (take n history) ≡ k)
schema_there [] k f at = absurd (at_none k f at)
schema_there (Schema id s ∷ rs) zero f at = (0, id, ap (λ (g : SchemaFields). Some (schema_of id g)) (same_Some (made s.name s.encoding s.payload) f at), refl)
schema_there (Schema id s ∷ rs) (suc k) f at = let more = schema_there rs k f at in (suc more.0, more.1, more.2, ap suc more.3)
schema_there (Channel id schema topic encoding metadata ∷ rs) k f at = let more = schema_there rs k f at in (suc more.0, more.1, more.2, more.3)
schema_there (Message channel sequence log_time publish_time payload ∷ rs) k f at = let more = schema_there rs k f at in (suc more.0, more.1, more.2, more.3)
schema_there (Extra op content ∷ rs) k f at = let more = schema_there rs k f at in (suc more.0, more.1, more.2, more.3)

pub channel_there : (history : List Rec) (k : ℕ) (f : ChannelFields) → At (channels_in history) k f → (n : ℕ) × (id : ℕ) × At history n (channel_of id f) × (channel_count (take n history) ≡ k)
channel_there [] k f at = absurd (at_none k f at)
channel_there (Schema id s ∷ rs) k f at = let more = channel_there rs k f at in (suc more.0, more.1, more.2, more.3)
channel_there (Channel id schema topic encoding metadata ∷ rs) zero f at = (0, id, ap (λ (g : ChannelFields). Some (channel_of id g)) (same_Some (record { schema = schema; topic = topic; encoding = encoding; metadata = metadata }) f at), refl)
channel_there (Channel id schema topic encoding metadata ∷ rs) (suc k) f at = let more = channel_there rs k f at in (suc more.0, more.1, more.2, ap suc more.3)
channel_there (Message channel sequence log_time publish_time payload ∷ rs) k f at = let more = channel_there rs k f at in (suc more.0, more.1, more.2, more.3)
channel_there (Extra op content ∷ rs) k f at = let more = channel_there rs k f at in (suc more.0, more.1, more.2, more.3)

-- the content of a Schema stands among the contents
pub schema_content : (history : List Rec) (n id : ℕ) (f : SchemaFields) → At history n (schema_of id f) → (k : ℕ) × At (schemas_in history) k f
schema_content [] n id f at = absurd (at_none n (schema_of id f) at)
schema_content (r ∷ rs) zero id f at = (0, subst (λ (x : Rec). At (schema_in x ++ schemas_in rs) 0 f) (sym (same_Some r (schema_of id f) at)) refl)
schema_content (Schema other s ∷ rs) (suc n) id f at = let more = schema_content rs n id f at in (suc more.0, more.1)
schema_content (Channel other schema topic encoding metadata ∷ rs) (suc n) id f at = schema_content rs n id f at
schema_content (Message channel sequence log_time publish_time payload ∷ rs) (suc n) id f at = schema_content rs n id f at
schema_content (Extra op content ∷ rs) (suc n) id f at = schema_content rs n id f at

pub channel_content : (history : List Rec) (n id : ℕ) (f : ChannelFields) → At history n (channel_of id f) → (k : ℕ) × At (channels_in history) k f
channel_content [] n id f at = absurd (at_none n (channel_of id f) at)
channel_content (r ∷ rs) zero id f at = (0, subst (λ (x : Rec). At (channel_in x ++ channels_in rs) 0 f) (sym (same_Some r (channel_of id f) at)) refl)
channel_content (Schema other s ∷ rs) (suc n) id f at = channel_content rs n id f at
channel_content (Channel other schema topic encoding metadata ∷ rs) (suc n) id f at = let more = channel_content rs n id f at in (suc more.0, more.1)
channel_content (Message channel sequence log_time publish_time payload ∷ rs) (suc n) id f at = channel_content rs n id f at
channel_content (Extra op content ∷ rs) (suc n) id f at = channel_content rs n id f at
