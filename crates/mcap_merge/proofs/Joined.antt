-- Which id a channel of an input gets behind a history.
use Rattle.std.proofs.Common.{◌≡◌, ◌⊎◌, ℕ, zero, suc, ◌+◌, ◌-◌, ◌*◌, ◌<◌, List, [], ◌∷◌, ◌++◌, length, set, Option, Some, None, refl, sym, ap, subst, inl, inr, ◌∙◌, append-nil, arith}
use Rattle.mcap_model.specs.Places.{At}
use Rattle.mcap_model.specs.Tops.{Top, flat}
use Rattle.mcap_model.specs.Fields.{SchemaFields, ChannelFields, MessageFields}
use Rattle.mcap_model.specs.History.{message_of}
use Rattle.mcap_model.proofs.Places.{at_none, at_kept, at_last, at_one}
use Rattle.rec_data.specs.declared.owned.Rec.{Rec}
use Rattle.rec_data.specs.declared.schema.SchemaDef.{SchemaDef}
use Rattle.rec_data.specs.declared.channel.ChannelDef.{ChannelDef}
use Rattle.id_table.specs.Ids as tables
use Rattle.id_table.specs.Given.{HasId, Lacks, EachOnce, Offers, Declares, with_given}
use Rattle.id_table.specs.declared.given.Given.{Given}
use Rattle.id_table.specs.declared.given.Given.TheVariants.{Known, New}
use Rattle.id_table.specs.declared.given.GivenIds.{GivenIds}
use Rattle.history_ids.specs.Ids.{Ids, ids_of, with_ids, schemas_in, channels_in, channel_place, channel_id, id_at, new_at, new_records}
use Rattle.history_ids.specs.Tables.{ids_in, HasSchemas, IsIdAt, GivesIds, id_given}
use Rattle.history_ids.proofs.Searches.{schemas_more, channels_more}
use Rattle.history_ids.proofs.TableIds.{id_found, channel_missed}
use Rattle.history_ids.proofs.Giving.{given_id, given_records}
use Rattle.mcap_merge.specs.declared.joining.Joiner.{Joiner}
use Rattle.mcap_model.specs.Merged.{IsContent}
use Rattle.mcap_merge.specs.Joining.{HasMergedId, JoinerStands, IsChosen}

-- ---- ids of histories

abbrev made : List SchemaFields → List ChannelFields → Ids
made schemas channels = record { schemas = schemas; channels = channels }

pub ids_more : (history records : List Rec) → ids_of (history ++ records) ≡ with_ids (ids_of history) records
ids_more history records =
    ap (λ (s : List SchemaFields). made s (channels_in (history ++ records))) (schemas_more history records) ∙ ap (made (schemas_in history ++ schemas_in records)) (channels_more history records)

-- a message has no content
pub ids_behind : (history : List Rec) (channel : ℕ) (m : MessageFields) → ids_of (history ++ message_of channel m ∷ []) ≡ ids_of history
ids_behind history channel m =
    ids_more history (message_of channel m ∷ []) ∙ ap (λ (s : List SchemaFields). made s (channels_in history ++ [])) (append-nil (schemas_in history)) ∙ ap (made (schemas_in history)) (append-nil (channels_in history))

-- ---- places of contents

pub none_place : (place : Option ℕ) → IsIdAt place None → place ≡ None
none_place None is = refl
none_place (Some k) is = absurd is

record IsKnown (ids : Ids) (d : ChannelDef) (id : ℕ) : Type 0 where
  pub id_is : id ≡ channel_id ids d
  pub none : new_records ids d ≡ []

known_place : (ids : Ids) (d : ChannelDef) (place : Option ℕ) (id : ℕ) → channel_place ids d ≡ place → IsIdAt place (Some id) → IsKnown ids d id
known_place ids d None id e is = absurd is
known_place ids d (Some k) id e is = record {
  id_is = is ∙ sym (ap (λ (o : Option ℕ). id_at o (length ids.channels)) e);
  none = ap (λ (o : Option ℕ). new_at o ids d) e;
}

-- ---- the ids that are noted

module _ (xs : List ℕ) (i : ℕ) (y : ℕ) where
  pub set_either : (n x : ℕ) → At (set xs i y) n x → ((n ≡ i) × (x ≡ y)) ⊎ At xs n x
  set_either n x at = by xs i n at
    where
      by : (zs : List ℕ) (k m : ℕ) → At (set zs k y) m x → ((m ≡ k) × (x ≡ y)) ⊎ At zs m x
      by [] k m there = absurd (at_none m x there)
      by (z ∷ zs) zero zero there = inl (refl, at_one (y ∷ zs) zero x y there refl)
      by (z ∷ zs) zero (suc m) there = inr there
      by (z ∷ zs) (suc k) zero there = inr there
      by (z ∷ zs) (suc k) (suc m) there = elim (by zs k m there) [
        | inl same ↦ inl (ap suc same.0, same.1)
        | inr old ↦ inr old
      ]

-- an id more is noted
pub stands_set : (inputs : List (List Top)) (history later : List Rec) (j k : Joiner) (number source id : ℕ) (tops : List Top) (d : ChannelDef) → source < 65536 → ids_in k.table ≡ ids_of later
    → ((e : ChannelDef) (i : ℕ) → HasId j.table.channels e i → HasId k.table.channels e i) → At inputs number tops → IsContent (flat tops) source d → HasId k.table.channels d id
    → k.given.items ≡ set j.given.items (number * 65536 + source) id → JoinerStands inputs history j → JoinerStands inputs later k
stands_set inputs history later j k number source id tops d short are keeps at is has noted stands = record {
  ids_are = are;
  known = λ n s i others small there given some.
      elim (set_either j.given.items (number * 65536 + source) id (n * 65536 + s) i (subst (λ (l : List ℕ). At l (n * 65536 + s) i) noted given)) [
        | inl (place, same) ↦
            let one : n ≡ number = omega (arith, place, small, short) in
            let two : s ≡ source = omega (arith, place, small, short) in
            let here : others ≡ tops = at_one inputs number others tops (subst (λ (m : ℕ). At inputs m others) one there) at in
            (d, subst (λ (l : List Top). IsContent (flat l) s d) (sym here) (subst (λ (m : ℕ). IsContent (flat tops) m d) (sym two) is), subst (HasId k.table.channels d) (sym same) has)
        | inr old ↦
            let known = stands.known in
            let was = known n s i others small there old some in
            (was.0, was.1, keeps was.0 i was.2)
      ];
}

-- the same behind a message
pub stands_behind : (inputs : List (List Top)) (history : List Rec) (j : Joiner) (channel : ℕ) (m : MessageFields) → JoinerStands inputs history j → JoinerStands inputs (history ++ message_of channel m ∷ []) j
stands_behind inputs history j channel m stands = record {
  ids_are = stands.ids_are ∙ sym (ids_behind history channel m);
  known = stands.known;
}

-- ---- what is chosen

-- a content that has an id
pub chosen_known : (inputs : List (List Top)) (tops : List Top) (history : List Rec) (source : ℕ) (j : Joiner) (id : ℕ) → HasSchemas j.table → EachOnce j.table.channels → JoinerStands inputs history j → HasMergedId tops j source id
    → IsChosen inputs tops history source j (record { id = id; declared = None })
chosen_known inputs tops history source j id schemas once stands (d, is, has) =
    let found : IsIdAt (channel_place (ids_in j.table) d) (Some id) = id_found j.table d (Some id) schemas once has in
    let known = subst (λ (ids : Ids). IsKnown ids d id) stands.ids_are (known_place (ids_in j.table) d (channel_place (ids_in j.table) d) id refl found) in
    record {
      content = d;
      is = is;
      id_is = known.id_is;
      declared = sym known.none;
      stands = subst (λ (l : List Rec). JoinerStands inputs l j) (sym (ap (λ (l : List Rec). history ++ l) known.none ∙ append-nil history)) stands;
    }

-- one whose id is noted now
pub chosen_found : (inputs : List (List Top)) (tops : List Top) (history : List Rec) (j k : Joiner) (number source id : ℕ) (d : ChannelDef) → source < 65536 → HasSchemas j.table → EachOnce j.table.channels → k.table ≡ j.table
    → k.given.items ≡ set j.given.items (number * 65536 + source) id → JoinerStands inputs history j → At inputs number tops → IsContent (flat tops) source d → HasId j.table.channels d id
    → IsChosen inputs tops history source k (record { id = id; declared = None })
chosen_found inputs tops history j k number source id d short schemas once same noted stands at is has =
    let has_now : HasId k.table.channels d id = subst (λ (t : tables.IdContents). HasId t.channels d id) (sym same) has in
    let now : JoinerStands inputs history k = stands_set inputs history history j k number source id tops d short (ap ids_in same ∙ stands.ids_are) (λ e i had. subst (λ (t : tables.IdContents). HasId t.channels e i) (sym same) had) at is has_now noted stands in
    chosen_known inputs tops history source k id (subst HasSchemas (sym same) schemas) (subst (λ (t : tables.IdContents). EachOnce t.channels) (sym same) once) now (d, is, has_now)

gives_id : (xs ys : List ChannelDef) (d : ChannelDef) (g : Given) → Lacks xs d → Offers xs d g → ys ≡ with_given xs d g → HasId ys d (id_given g)
gives_id xs ys d (Known id) lacks is same = absurd (lacks (id - 1) is.1)
gives_id xs ys d (New id) lacks is same =
    let place : length xs ≡ id - 1 = omega (arith, is.1) in
    (omega (arith, is.1), subst (λ (n : ℕ). At ys n d) place (subst (λ (l : List ChannelDef). At l (length xs) d) (sym same) (at_last xs d [])))

keeps_id : (xs ys : List ChannelDef) (d e : ChannelDef) (g : Given) (i : ℕ) → ys ≡ with_given xs d g → HasId xs e i → HasId ys e i
keeps_id xs ys d e (Known id) i same has = subst (λ (l : List ChannelDef). HasId l e i) (sym same) has
keeps_id xs ys d e (New id) i same has = subst (λ (l : List ChannelDef). HasId l e i) (sym same) (has.0, at_kept xs (d ∷ []) (i - 1) e has.1)

-- one that is new
pub chosen_new : (inputs : List (List Top)) (tops : List Top) (history : List Rec) (j k : Joiner) (number source id : ℕ) (d : ChannelDef) (ids : GivenIds) → source < 65536 → channel_place (ids_in j.table) d ≡ None
    → GivesIds (ids_in j.table) d ids → ids_in k.table ≡ with_ids (ids_in j.table) (new_records (ids_in j.table) d) → Declares j.table d ids k.table → id ≡ id_given ids.channel
    → k.given.items ≡ set j.given.items (number * 65536 + source) id → JoinerStands inputs history j → At inputs number tops → IsContent (flat tops) source d
    → IsChosen inputs tops history source k (record { id = id; declared = Some (record { content = d; ids = ids }) })
chosen_new inputs tops history j k number source id d ids short none gives after declares id_is noted stands at is =
    let lacks : Lacks j.table.channels d = channel_missed j.table d none in
    let has : HasId k.table.channels d id = subst (HasId k.table.channels d) (sym id_is) (gives_id j.table.channels k.table.channels d ids.channel lacks declares.channel declares.channels) in
    let later = history ++ new_records (ids_of history) d in
    let are : ids_in k.table ≡ ids_of later =
    after ∙ ap (λ (x : Ids). with_ids x (new_records x d)) stands.ids_are ∙ sym (ids_more history (new_records (ids_of history) d)) in
    record {
      content = d;
      is = is;
      id_is = id_is ∙ given_id (ids_in j.table) d ids none gives ∙ ap (λ (x : Ids). channel_id x d) stands.ids_are;
      declared = given_records (ids_in j.table) d ids none gives ∙ ap (λ (x : Ids). new_records x d) stands.ids_are;
      stands = stands_set inputs history later j k number source id tops d short are (λ e i had. keeps_id j.table.channels k.table.channels d e ids.channel i declares.channels had) at is has noted stands;
    }

-- nothing is noted at first
pub stands_none : (inputs : List (List Top)) (j : Joiner) → j.table.schemas ≡ [] → j.table.channels ≡ [] → ((k id : ℕ) → At j.given.items k id → id ≡ 0) → JoinerStands inputs [] j
stands_none inputs j schemas channels zeros = record {
  ids_are = no_ids j.table.schemas j.table.channels schemas channels;
  known = λ n s i tops small there given some. absurd (some (zeros (n * 65536 + s) i given));
}
  where
    no_ids : (s : List SchemaDef) (c : List ChannelDef) → s ≡ [] → c ≡ [] → ids_in (record { schemas = s; channels = c }) ≡ ids_of []
    no_ids s c one other = ap (λ (x : List SchemaDef). ids_in (record { schemas = x; channels = c })) one ∙ ap (λ (x : List ChannelDef). ids_in (record { schemas = []; channels = x })) other
