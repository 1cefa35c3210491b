-- What a pass showed of a history is so of a longer one.
use Rattle.std.proofs.Common.{◌≡◌, ◌⊎◌, ℕ, zero, suc, ◌+◌, ◌-◌, ◌<◌, ◌≤◌, List, [], ◌∷◌, ◌++◌, length, take, drop, Option, Some, None, sym, ap, subst, inl, inr, ◌∙◌, append-nil, length-append, arith}
use Rattle.std.proofs.lemmas.List.{length-drop, drop-append-le, take-append-drop, take-append-le}
use Rattle.rec_data.specs.declared.owned.Rec.{Rec}
use Rattle.rec_data.specs.declared.schema.SchemaDef.{SchemaDef}
use Rattle.rec_data.specs.declared.channel.ChannelDef.{ChannelDef}
use Rattle.mcap_model.specs.Places.{At, Has}
use Rattle.mcap_model.specs.Fields.{SchemaFields, ChannelFields}
use Rattle.mcap_model.specs.History.{schema_of, channel_of, schema_count, channel_count, history_bytes}
use Rattle.mcap_model.proofs.Places.{at_none, at_more, has_kept}
use Rattle.mcap_model.proofs.Lists.{at_either}
use Rattle.history_ids.specs.Ids.{schemas_in, channels_in}
use Rattle.history_ids.specs.DeclarationFields.{fields_of_schema, fields_with}
use Rattle.record_core.specs.declared.answers.Found.{Found}
use Rattle.record_core.specs.declared.answers.CallRefused.{CallRefused}
use Rattle.record_core.specs.declared.answers.CallRefused.TheVariants as refusing
use Rattle.history_ids.proofs.Searches.{schemas_counted, channels_counted, schemas_more, channels_more, schema_content, channel_content}
use Rattle.feed_lane.specs.Pass.{FullAt, full_at, NamedBy, LackAt, with_places}
use Rattle.buffer_swap.specs.Shown.{SchemaStands, ChannelStands, NameStands, LacksSchema, LacksChannelId, IdsLack, IdsLackAt, HadRoom, HeldThere, FoundThere}
use Rattle.buffer_swap.specs.ShownSteps.{Spares}

-- ---- places

pub placed_more : (place : ℕ) (rs more : List Rec) → with_places place (rs ++ more) ≡ with_places place rs ++ with_places (place + length rs) more
placed_more place [] more = ap (λ (n : ℕ). with_places n more) (omega arith)
placed_more place (r ∷ rs) more =
    ap (λ (l : List (ℕ × Rec)). (place, r) ∷ l) (placed_more (place + 1) rs more)
    ∙ ap (λ (n : ℕ). (place, r) ∷ (with_places (place + 1) rs ++ with_places n more)) (let same : place + 1 + length rs ≡ place + length (r ∷ rs) = omega arith in same)

some_same : {x y : ℕ × Rec} → Some x ≡ Some y → x ≡ y
some_same e = cc

-- each record has its place, and each place its record
pub placed_at : (first : ℕ) (rs : List Rec) (k : ℕ) (pair : ℕ × Rec) → At (with_places first rs) k pair → (pair.0 ≡ first + k) × At rs k pair.1 × (k < length rs)
placed_at first [] k pair at = absurd (at_none k pair at)
placed_at first (r ∷ rs) zero pair at =
    let same = some_same at in
    (omega (arith, ap (λ (p : ℕ × Rec). p.0) same), ap (λ (p : ℕ × Rec). Some p.1) same, omega arith)
placed_at first (r ∷ rs) (suc k) pair at = let t = placed_at (first + 1) rs k pair at in (omega (arith, t.0), t.1, omega (arith, t.2))

pub placed_there : (first : ℕ) (rs : List Rec) (k : ℕ) (r : Rec) → At rs k r → At (with_places first rs) k (first + k, r)
placed_there first [] k r at = absurd (at_none k r at)
placed_there first (x ∷ rs) zero r at = let same : first ≡ first + 0 = omega arith in cc
placed_there first (x ∷ rs) (suc k) r at =
    let same : first + 1 + k ≡ first + suc k = omega arith in
    subst (λ (n : ℕ). At (with_places (first + 1) rs) k (n, r)) same (placed_there (first + 1) rs k r at)

-- ---- ids

has_either : (xs ys : List Rec) (r : Rec) → Has (xs ++ ys) r → Has xs r ⊎ Has ys r
has_either xs ys r (n, at) = elim (at_either xs ys n r at) [
  | inl before ↦ inl (n, before)
  | inr behind ↦ inr (behind.0, behind.2)
]

no_schema : (more : List Rec) (id : ℕ) (f : SchemaFields) → schemas_in more ≡ [] → Has more (schema_of id f) → ⊥
no_schema more id f none (n, at) =
    let there = schema_content more n id f at in
    at_none there.0 f (subst (λ (l : List SchemaFields). At l there.0 f) none there.1)

no_channel : (more : List Rec) (id : ℕ) (f : ChannelFields) → channels_in more ≡ [] → Has more (channel_of id f) → ⊥
no_channel more id f none (n, at) =
    let there = channel_content more n id f at in
    at_none there.0 f (subst (λ (l : List ChannelFields). At l there.0 f) none there.1)

schema_before : (history more : List Rec) (id : ℕ) (f : SchemaFields) → schemas_in more ≡ [] → Has (history ++ more) (schema_of id f) → Has history (schema_of id f)
schema_before history more id f none has = elim (has_either history more (schema_of id f) has) [
  | inl before ↦ before
  | inr behind ↦ absurd (no_schema more id f none behind)
]

channel_before : (history more : List Rec) (id : ℕ) (f : ChannelFields) → channels_in more ≡ [] → Has (history ++ more) (channel_of id f) → Has history (channel_of id f)
channel_before history more id f none has = elim (has_either history more (channel_of id f) has) [
  | inl before ↦ before
  | inr behind ↦ absurd (no_channel more id f none behind)
]

same_schemas : (history more : List Rec) → schemas_in more ≡ [] → schema_count (history ++ more) ≡ schema_count history
same_schemas history more none =
    schemas_counted (history ++ more)
    ∙ ap length (schemas_more history more ∙ ap (λ (l : List SchemaFields). schemas_in history ++ l) none ∙ append-nil (schemas_in history))
    ∙ sym (schemas_counted history)

same_channels : (history more : List Rec) → channels_in more ≡ [] → channel_count (history ++ more) ≡ channel_count history
same_channels history more none =
    channels_counted (history ++ more)
    ∙ ap length (channels_more history more ∙ ap (λ (l : List ChannelFields). channels_in history ++ l) none ∙ append-nil (channels_in history))
    ∙ sym (channels_counted history)

-- ---- channels that stand, and that lack an id

pub schema_stands_on : (history more : List Rec) (id : ℕ) (schema : Option SchemaDef) → SchemaStands history id schema → SchemaStands (history ++ more) id schema
schema_stands_on history more id None stands = stands
schema_stands_on history more id (Some s) stands = has_kept history more (schema_of id (fields_of_schema s)) stands

pub channel_stands_on : (history more : List Rec) (id : ℕ) (d : ChannelDef) → ChannelStands history id d → ChannelStands (history ++ more) id d
channel_stands_on history more id d stands = record {
  schema = stands.schema;
  has = has_kept history more (channel_of id (fields_with d stands.schema)) stands.has;
  schema_stands = schema_stands_on history more stands.schema d.schema stands.schema_stands;
}

pub name_stands_on : (history more : List Rec) (name : NamedBy) → NameStands history name → NameStands (history ++ more) name
name_stands_on history more name there = record {
  within = omega (arith, there.within, length-append history more);
  stands = subst (λ (l : List Rec). ChannelStands l name.id name.content) (sym (take-append-le name.count history more there.within)) there.stands;
}

-- it stands in the whole history
pub name_stands : (history : List Rec) (name : NamedBy) → NameStands history name → ChannelStands history name.id name.content
name_stands history name there =
    subst (λ (l : List Rec). ChannelStands l name.id name.content) (take-append-drop name.count history) (channel_stands_on (take name.count history) (drop name.count history) name.id name.content there.stands)

schema_stood : (history more : List Rec) (id : ℕ) (schema : Option SchemaDef) → schemas_in more ≡ [] → SchemaStands (history ++ more) id schema → SchemaStands history id schema
schema_stood history more id None none stands = stands
schema_stood history more id (Some s) none stands = schema_before history more id (fields_of_schema s) none stands

lacks_schema_on : (history more : List Rec) (schema : Option SchemaDef) → Spares history more → LacksSchema history schema → LacksSchema (history ++ more) schema
lacks_schema_on history more None spares lacks = lacks
lacks_schema_on history more (Some s) spares lacks =
    let none = spares.schemas lacks.0 in
    (same_schemas history more none ∙ lacks.0, λ id has. lacks.1 id (schema_before history more id (fields_of_schema s) none has))

lacks_channel_on : (history more : List Rec) (d : ChannelDef) → Spares history more → LacksChannelId history d → LacksChannelId (history ++ more) d
lacks_channel_on history more d spares lacks =
    let none = spares.channels lacks.0 in (
      same_channels history more none.1 ∙ lacks.0,
      λ id stands. lacks.1 id (record {
        schema = stands.schema;
        has = channel_before history more id (fields_with d stands.schema) none.1 stands.has;
        schema_stands = schema_stood history more stands.schema d.schema none.0 stands.schema_stands;
      }),
    )

lacked_schema : (history more : List Rec) (schema : Option SchemaDef) → schemas_in more ≡ [] → LacksSchema (history ++ more) schema → LacksSchema history schema
lacked_schema history more None none lacks = lacks
lacked_schema history more (Some s) none lacks =
    (sym (same_schemas history more none) ∙ lacks.0, λ id has. lacks.1 id (has_kept history more (schema_of id (fields_of_schema s)) has))

pub lacks_on : (history more : List Rec) (d : ChannelDef) (refusal : CallRefused) → Spares history more → IdsLack history d refusal → IdsLack (history ++ more) d refusal
lacks_on history more d refusing.TooManySchemas spares lacks = lacks_schema_on history more d.schema spares lacks
lacks_on history more d refusing.TooManyChannels spares lacks =
    (lacks_channel_on history more d spares lacks.0, λ there. lacks.1 (lacked_schema history more d.schema (spares.channels lacks.0.0).0 there))
lacks_on history more d refusal spares lacks = lacks

pub lacks_at_on : (history more : List Rec) (lack : LackAt) → Spares history more → IdsLackAt history lack → IdsLackAt (history ++ more) lack
lacks_at_on history more lack spares lacks = record {
  within = omega (arith, lacks.within, length-append history more);
  there = subst (λ (l : List Rec). IdsLack l lack.content lack.cause) (sym (take-append-le lack.at history more lacks.within)) lacks.there;
  still = lacks_on history more lack.content lack.cause spares lacks.still;
}

-- ---- full buffers

pub held_there_on : (limit : ℕ) (history more : List Rec) (swaps : List ℕ) (full : FullAt) → HeldThere limit history swaps full → HeldThere limit (history ++ more) swaps full
held_there_on limit history more swaps full there =
    let n = full.to - full.from in
    let front : drop full.from (history ++ more) ≡ drop full.from history ++ more = drop-append-le full.from history more (omega (arith, there.order, there.within)) in
    let room : n ≤ length (drop full.from history) = omega (arith, length-drop full.from history, there.within) in
    let same : take n (drop full.from (history ++ more)) ≡ take n (drop full.from history) =
    ap (take n) front ∙ take-append-le n (drop full.from history) more room in
    record {
      order = there.order;
      within = omega (arith, there.within, length-append history more);
      held = there.held ∙ ap (λ (l : List Rec). length (history_bytes l)) (sym same);
      begun = there.begun;
      unswapped = there.unswapped;
      room = subst (HadRoom limit) (sym same) there.room;
    }

-- behind one more that was handed over, at the end of the history
pub held_there_handed : (limit : ℕ) (history : List Rec) (swaps : List ℕ) (at : ℕ) (full : FullAt) → length history ≤ at → HeldThere limit history swaps full → HeldThere limit history (swaps ++ at ∷ []) full
held_there_handed limit history swaps at full end there = record {
  order = there.order;
  within = there.within;
  held = there.held;
  begun = has_kept (0 ∷ swaps) (at ∷ []) full.from there.begun;
  unswapped = λ n s here. elim (at_more swaps at n s here) [
    | inl old ↦ there.unswapped n s old
    | inr last ↦ inr (omega (arith, last.1, end, there.within))
  ];
  room = there.room;
}

-- ---- how the desk was found

pub found_there_on : (limit : ℕ) (history more : List Rec) (swaps : List ℕ) (found : Found) → FoundThere limit history swaps found → FoundThere limit (history ++ more) swaps found
found_there_on limit history more swaps found there =
    let same : take found.count (history ++ more) ≡ take found.count history = take-append-le found.count history more there.held.within in
    record {
      held = held_there_on limit history more swaps (full_at found) there.held;
      schemas = there.schemas ∙ ap schema_count (sym same);
      channels = there.channels ∙ ap channel_count (sym same);
    }

pub found_there_handed : (limit : ℕ) (history : List Rec) (swaps : List ℕ) (at : ℕ) (found : Found) → length history ≤ at → FoundThere limit history swaps found → FoundThere limit history (swaps ++ at ∷ []) found
found_there_handed limit history swaps at found end there = record {
  held = held_there_handed limit history swaps at (full_at found) end there.held;
  schemas = there.schemas;
  channels = there.channels;
}
