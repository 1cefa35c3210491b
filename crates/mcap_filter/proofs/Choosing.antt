-- Declarations that are noted, and what else changes nothing of what is written.
use Rattle.std.proofs.Common.{◌≡◌, ◌⊎◌, ℕ, Bool, true, false, ◌||◌, List, [], ◌∷◌, ◌++◌, length, Option, Some, None, refl, sym, ap, subst, inl, inr, ◌∙◌, append-nil, cond, eq-eqb}
use Rattle.std.specs.Prelude.{filter, fold, find, is_some, if◌then◌else◌, eqb}
use Rattle.std.specs.List.{AllZip, list_any}
use Rattle.std.proofs.lemmas.Bool.{eqb-true, false≢true}
use Rattle.rec_data.specs.declared.owned.Rec.{Rec}
use Rattle.rec_data.specs.Records.{ShowsSchema, ShowsChannel}
use Rattle.rec_data.proofs.OwnedReading.{shown_once}
use Rattle.mcap_io.specs.Outside.{LiveState}
use Rattle.mcap_model.specs.declared.options.FileOptions.{FileOptions}
use Rattle.mcap_model.specs.declared.ends.Stop.{Stop}
use Rattle.mcap_model.specs.declared.table.Declared.{Declared}
use Rattle.mcap_model.specs.Places.{At}
use Rattle.mcap_model.specs.Tops.{Top, is_flat_kind}
use Rattle.mcap_model.specs.Fields.{SchemaFields, ChannelFields}
use Rattle.mcap_model.specs.Made.{top}
use Rattle.mcap_model.specs.History.{declare_same, kept_with, schema_of, channel_of}
use Rattle.mcap_model.specs.Written.{IsRec}
use Rattle.mcap_model.specs.Repaired.{is_extra}
use Rattle.mcap_model.proofs.Places.{at_more, at_kept, at_last}
use Rattle.mcap_model.proofs.Repairs.{kept_new, kept_old}
use Rattle.chunk_writer.specs.declared.phase.Phase.TheVariants as phases
use Rattle.chunk_writer.specs.Scribes.{GathersExtra, phase_of}
use Rattle.record_keeping.specs.declared.keeping.Keeping.{Keeping}
use Rattle.record_keeping.specs.Keeping.{KeepingStandsFor, AddsRecords, extras_of, is_declared, declared_with}
use Rattle.record_keeping.proofs.Keepings.{going_apart}
use Rattle.mcap_filter.specs.declared.choices.Choices.{Choices}
use Rattle.mcap_model.specs.Needed.{is_schema_of, is_channel_of}
use Rattle.mcap_filter.specs.Picked.{Asking, is_topic, is_on, filtered}
use Rattle.mcap_filter.specs.Picking.{Complete, TableFinds, ChoicesFind, Notes, Chosen, Chooses, PickingStands, Picking, picking, PicksOne}
use Rattle.mcap_filter.proofs.Finding.{find_kept, find_behind, find_apart, schema_listed, channel_listed}
use Rattle.mcap_filter.proofs.Growing.{filtered_declared}
use denote.Ref.{Bor}

-- ---- tables

-- a record that is no Schema
pub table_other : (table : List Declared) (history : List Rec) (r : Rec) → TableFinds table history → ((id : ℕ) → is_schema_of id r ≡ false) → TableFinds table (history ++ r ∷ [])
table_other table history r was other = record {
  are = λ k d at. let (x, is, shown) = was.are k d at in (x, find_apart (is_schema_of d.id) history r (other d.id) ∙ is, shown);
  none = λ id lacks. find_apart (is_schema_of id) history r (other id) ∙ was.none id lacks;
}

-- a new Schema
table_new : (table : List Declared) (history : List Rec) (content : List ℕ) (id : ℕ) (f : SchemaFields) → TableFinds table history → ShowsSchema content id f → ((k : ℕ) (e : Declared) → At table k e → e.id ≡ id → ⊥)
    → TableFinds (table ++ (record { id = id; content = content }) ∷ []) (history ++ schema_of id f ∷ [])
table_new table history content id f was shown lacks = record {
  are = λ k e at. elim (at_more table d k e at) [
    | inl old ↦ let (x, is, there) = was.are k e old in (x, find_kept (is_schema_of e.id) history (r ∷ []) (ap is_some is) ∙ is, there)
    | inr here ↦
        (r, subst (λ (x : Declared). find (is_schema_of x.id) (history ++ r ∷ []) ≡ Some r) (sym here.1) found, subst (λ (x : Declared). IsRec (top 3 x.content) r) (sym here.1) (refl, shown))
  ];
  none = λ other missing. by other missing (eqb other id) refl;
}
  where
    d : Declared
    d = record { id = id; content = content }

    r : Rec
    r = schema_of id f

    found : find (is_schema_of id) (history ++ r ∷ []) ≡ Some r
    found = find_behind (is_schema_of id) history (r ∷ []) (was.none id lacks) ∙ ap (λ (b : Bool). cond b (Some r) None) (eq-eqb id id refl)

    by : (other : ℕ) → ((k : ℕ) (e : Declared) → At (table ++ d ∷ []) k e → e.id ≡ other → ⊥) → (b : Bool) → eqb other id ≡ b → find (is_schema_of other) (history ++ r ∷ []) ≡ None
    by other missing true test = absurd (missing (length table) d (at_last table d []) (sym (eqb-true other id test)))
    by other missing false test = find_apart (is_schema_of other) history r test ∙ was.none other (λ k e at. missing k e (at_kept table (d ∷ []) k e at))

-- a record that is no Channel
pub choices_other : (asked : Option (List ℕ)) (c : Choices) (history : List Rec) (r : Rec) → ChoicesFind asked c history → ((id : ℕ) → is_channel_of id r ≡ false) → ChoicesFind asked c (history ++ r ∷ [])
choices_other asked c history r was other = record {
  are = λ k d at. let (x, is, shown, on) = was.are k d at in (x, find_apart (is_channel_of d.id) history r (other d.id) ∙ is, shown, on);
  passed_over = λ id there. let (x, is, off) = was.passed_over id there in (x, find_apart (is_channel_of id) history r (other id) ∙ is, off);
  none = λ id lacks apart. find_apart (is_channel_of id) history r (other id) ∙ was.none id lacks apart;
}

-- the same choices
same_choices : (asked : Option (List ℕ)) (old new : Choices) (history : List Rec) → new.wanted ≡ old.wanted → new.passed.keys ≡ old.passed.keys → ChoicesFind asked old history → ChoicesFind asked new history
same_choices asked old new history wanted passed was = record {
  are = λ k d at. was.are k d (subst (λ (l : List Declared). At l k d) wanted at);
  passed_over = λ id there. was.passed_over id (subst (λ (l : List ℕ). is_declared l id ≡ true) passed there);
  none = λ id lacks apart. was.none id (λ k d at. lacks k d (subst (λ (l : List Declared). At l k d) (sym wanted) at)) (subst (λ (l : List ℕ). is_declared l id ≡ false) passed apart);
}

-- a new Channel that is wanted
choices_wanted : (asked : Option (List ℕ)) (old new : Choices) (history : List Rec) (content : List ℕ) (id : ℕ) (f : ChannelFields) → ChoicesFind asked old history → ShowsChannel content id f → ((k : ℕ) (e : Declared) → At old.wanted k e → e.id ≡ id → ⊥)
    → is_declared old.passed.keys id ≡ false → is_topic asked f.topic ≡ true → new.wanted ≡ old.wanted ++ (record { id = id; content = content }) ∷ [] → new.passed.keys ≡ old.passed.keys → ChoicesFind asked new (history ++ channel_of id f ∷ [])
choices_wanted asked old new history content id f was shown lacks apart on wanted passed = record {
  are = λ k e at. elim (at_more old.wanted d k e (subst (λ (l : List Declared). At l k e) wanted at)) [
    | inl before ↦ let (x, is, there, picked) = was.are k e before in (x, find_kept (is_channel_of e.id) history (r ∷ []) (ap is_some is) ∙ is, there, picked)
    | inr here ↦ (
      r,
      subst (λ (x : Declared). find (is_channel_of x.id) (history ++ r ∷ []) ≡ Some r) (sym here.1) found,
      subst (λ (x : Declared). IsRec (top 4 x.content) r) (sym here.1) (refl, shown),
      on,
    )
  ];
  passed_over = λ other there.
      let (x, is, off) = was.passed_over other (subst (λ (l : List ℕ). is_declared l other ≡ true) passed there) in
      (x, find_kept (is_channel_of other) history (r ∷ []) (ap is_some is) ∙ is, off);
  none = λ other missing away. by other (λ k e at. missing k e (subst (λ (l : List Declared). At l k e) (sym wanted) at)) (subst (λ (l : List ℕ). is_declared l other ≡ false) passed away) (eqb other id) refl;
}
  where
    d : Declared
    d = record { id = id; content = content }

    r : Rec
    r = channel_of id f

    found : find (is_channel_of id) (history ++ r ∷ []) ≡ Some r
    found = find_behind (is_channel_of id) history (r ∷ []) (was.none id lacks apart) ∙ ap (λ (b : Bool). cond b (Some r) None) (eq-eqb id id refl)

    by : (other : ℕ) → ((k : ℕ) (e : Declared) → At (old.wanted ++ d ∷ []) k e → e.id ≡ other → ⊥) → is_declared old.passed.keys other ≡ false → (b : Bool) → eqb other id ≡ b → find (is_channel_of other) (history ++ r ∷ []) ≡ None
    by other missing away true test = absurd (missing (length old.wanted) d (at_last old.wanted d []) (sym (eqb-true other id test)))
    by other missing away false test = find_apart (is_channel_of other) history r test ∙ was.none other (λ k e at. missing k e (at_kept old.wanted (d ∷ []) k e at)) away

-- whether an id is among some with one more
declared_more : (ids : List ℕ) (id other : ℕ) (b : Bool) → eqb other id ≡ b → is_declared (ids ++ id ∷ []) other ≡ (b || is_declared ids other)
declared_more [] id other b test = ap (λ (c : Bool). c || false) test
declared_more (i ∷ ids) id other b test = by (eqb other i) b (declared_more ids id other b test)
  where
    by : (c d : Bool) → is_declared (ids ++ id ∷ []) other ≡ (d || is_declared ids other) → (c || is_declared (ids ++ id ∷ []) other) ≡ (d || (c || is_declared ids other))
    by true true rest = refl
    by true false rest = refl
    by false true rest = rest
    by false false rest = rest

-- a new Channel that is passed over
choices_passed : (asked : Option (List ℕ)) (old new : Choices) (history : List Rec) (content : List ℕ) (id : ℕ) (f : ChannelFields) → ChoicesFind asked old history → ((k : ℕ) (e : Declared) → At old.wanted k e → e.id ≡ id → ⊥)
    → is_declared old.passed.keys id ≡ false → is_topic asked f.topic ≡ false → new.wanted ≡ old.wanted → new.passed.keys ≡ old.passed.keys ++ id ∷ [] → ChoicesFind asked new (history ++ channel_of id f ∷ [])
choices_passed asked old new history content id f was lacks apart off wanted passed = record {
  are = λ k e at.
      let (x, is, there, picked) = was.are k e (subst (λ (l : List Declared). At l k e) wanted at) in
      (x, find_kept (is_channel_of e.id) history (r ∷ []) (ap is_some is) ∙ is, there, picked);
  passed_over = λ other there. over other (eqb other id) refl (subst (λ (l : List ℕ). is_declared l other ≡ true) passed there);
  none = λ other missing away. by other (λ k e at. missing k e (subst (λ (l : List Declared). At l k e) (sym wanted) at)) (subst (λ (l : List ℕ). is_declared l other ≡ false) passed away) (eqb other id) refl;
}
  where
    r : Rec
    r = channel_of id f

    found : find (is_channel_of id) (history ++ r ∷ []) ≡ Some r
    found = find_behind (is_channel_of id) history (r ∷ []) (was.none id lacks apart) ∙ ap (λ (b : Bool). cond b (Some r) None) (eq-eqb id id refl)

    over : (other : ℕ) (b : Bool) → eqb other id ≡ b → is_declared (old.passed.keys ++ id ∷ []) other ≡ true → (x : Rec) × (find (is_channel_of other) (history ++ r ∷ []) ≡ Some x) × (is_on asked (Some x) ≡ false)
    over other true test there = (r, subst (λ (n : ℕ). find (is_channel_of n) (history ++ r ∷ []) ≡ Some r) (sym (eqb-true other id test)) found, off)
    over other false test there =
        let (x, is, away) = was.passed_over other (sym (declared_more old.passed.keys id other false test) ∙ there) in
        (x, find_kept (is_channel_of other) history (r ∷ []) (ap is_some is) ∙ is, away)

    by : (other : ℕ) → ((k : ℕ) (e : Declared) → At old.wanted k e → e.id ≡ other → ⊥) → is_declared (old.passed.keys ++ id ∷ []) other ≡ false → (b : Bool) → eqb other id ≡ b → find (is_channel_of other) (history ++ r ∷ []) ≡ None
    by other missing away true test = absurd (false≢true (sym away ∙ declared_more old.passed.keys id other true test))
    by other missing away false test = find_apart (is_channel_of other) history r test ∙ was.none other missing (sym (declared_more old.passed.keys id other false test) ∙ away)

-- ---- the keeping stays

-- it stopped, and stands for the same
stopped_same : {L : Type 0} (seen : L → LiveState) (options : FileOptions) (extras others : List Top) (opened : LiveState) (history : List Rec) (old new : Keeping L) (t : Top) (stop : Stop)
    → GathersExtra seen old.scribe new.scribe t → phase_of new.scribe ≡ phases.Stopped stop → KeepingStandsFor seen options extras opened history old → KeepingStandsFor seen options others opened history new
stopped_same seen options extras others opened history old new t stop gathers stopped keeps =
    let w = gathers options extras opened history keeps.writes in
    record {
      writes = (w.0, λ going. absurd (going_apart (phase_of new.scribe) stop stopped going), λ going. absurd (going_apart (phase_of new.scribe) stop stopped going));
      counts = λ going. absurd (going_apart (phase_of new.scribe) stop stopped going);
    }

keeps_same : {L : Type 0} (seen : L → LiveState) (options : FileOptions) (extras : List Top) (opened : LiveState) (history : List Rec) (k : Keeping L) → KeepingStandsFor seen options extras opened history k → KeepingStandsFor seen options (extras ++ []) opened history k
keeps_same seen options extras opened history k keeps = subst (λ (l : List Top). KeepingStandsFor seen options l opened history k) (sym (append-nil extras)) keeps

-- what is shown of a content is one record
pub one_shown : (t : Top) (r : Rec) → IsRec t r → (rs : List Rec) → AllZip IsRec (t ∷ []) rs → rs ≡ r ∷ []
one_shown t r is [] zip = absurd zip
one_shown t r is (s ∷ []) zip = ap (λ (x : Rec). x ∷ []) (shown_once t.op t.content s r zip.0 is)
one_shown t r is (s ∷ u ∷ us) zip = absurd zip.1

-- a record that isn't an extra at top level isn't one inside a chunk
pub no_extra : (frame : Option (Bor (List ℕ))) (t : Top) → filter is_extra (t ∷ []) ≡ [] → extras_of frame t ≡ []
no_extra None t none = none
no_extra (Some bytes) t none = refl

-- ---- a declaration

-- the history with a record that may declare an id again
abbrev pub IsKept : List Rec → Rec → Type 0
IsKept history r = (kept_with history r ≡ history) ⊎ (kept_with history r ≡ history ++ r ∷ [])

kept_or : (history : List Rec) (r : Rec) → IsKept history r
kept_or history r = by (list_any (declare_same r) history) refl
  where
    by : (b : Bool) → list_any (declare_same r) history ≡ b → IsKept history r
    by true is = inl (kept_old history r is)
    by false is = inr (kept_new history r is)

filtered_kept : (a : Asking) (history : List Rec) (r : Rec) → (filtered a (history ++ r ∷ []) ≡ filtered a history) → filtered a (kept_with history r) ≡ filtered a history
filtered_kept a history r same = elim (kept_or history r) [ inl old ↦ ap (filtered a) old | inr new ↦ ap (filtered a) new ∙ same ]

-- it was noted
declared_noted : {L : Type 0} (seen : L → LiveState) (a : Asking) (k : Keeping L) (old new : Choices) (frame : Option (Bor (List ℕ))) (t : Top) (r : Rec) → phase_of k.scribe ≡ phases.Going → IsRec t r
    → filter is_flat_kind (t ∷ []) ≡ t ∷ [] → filter is_extra (t ∷ []) ≡ [] → ((history : List Rec) → Complete history → filtered a (history ++ r ∷ []) ≡ filtered a history)
    → ((history : List Rec) → TableFinds old.schemas history → ChoicesFind a.topic old history → TableFinds new.schemas (kept_with history r) × ChoicesFind a.topic new (kept_with history r))
    → PicksOne seen a (picking k old) (picking k new) frame t
declared_noted seen a k old new frame t r going is flat_is extra_is same tables records zip options extras opened history whole stands =
    let one = one_shown t r is records (subst (λ (l : List Top). AllZip IsRec l records) flat_is zip) in
    let (schemas, channels) = tables history (stands.schemas going) (stands.channels going) in
    subst (λ (l : List Rec). PickingStands seen a options (extras ++ extras_of frame t) opened (fold kept_with history l) k new) (sym one)
    (subst (λ (l : List Top). PickingStands seen a options (extras ++ l) opened (kept_with history r) k new) (sym (no_extra frame t extra_is)) (record {
      keeps = subst (λ (l : List Rec). KeepingStandsFor seen options (extras ++ []) opened l k) (sym (filtered_kept a history r (same history whole))) (keeps_same seen options extras opened (filtered a history) k stands.keeps);
      schemas = λ it. schemas;
      channels = λ it. channels;
    }))

-- memory lacked for it
declared_stopped : {L : Type 0} (seen : L → LiveState) (a : Asking) (k after : Keeping L) (old new : Choices) (frame : Option (Bor (List ℕ))) (t : Top) (r : Rec) (stop : Stop) → IsRec t r
    → filter is_flat_kind (t ∷ []) ≡ t ∷ [] → ((history : List Rec) → Complete history → filtered a (history ++ r ∷ []) ≡ filtered a history)
    → GathersExtra seen k.scribe after.scribe t → phase_of after.scribe ≡ phases.Stopped stop → PicksOne seen a (picking k old) (picking after new) frame t
declared_stopped seen a k after old new frame t r stop is flat_is same gathers stopped records zip options extras opened history whole stands =
    let one = one_shown t r is records (subst (λ (l : List Top). AllZip IsRec l records) flat_is zip) in
    subst (λ (l : List Rec). PickingStands seen a options (extras ++ extras_of frame t) opened (fold kept_with history l) after new) (sym one) (record {
      keeps = subst (λ (l : List Rec). KeepingStandsFor seen options (extras ++ extras_of frame t) opened l after) (sym (filtered_kept a history r (same history whole)))
          (stopped_same seen options extras (extras ++ extras_of frame t) opened (filtered a history) k after t stop gathers stopped stands.keeps);
      schemas = λ going. absurd (going_apart (phase_of after.scribe) stop stopped going);
      channels = λ going. absurd (going_apart (phase_of after.scribe) stop stopped going);
    })

-- ---- a Schema

schema_tables : (asked : Option (List ℕ)) (old new : Choices) (content : List ℕ) (id : ℕ) (f : SchemaFields) → ShowsSchema content id f → Notes old.schemas new.schemas id content → new.wanted ≡ old.wanted → new.passed.keys ≡ old.passed.keys
    → (history : List Rec) → TableFinds old.schemas history → ChoicesFind asked old history → TableFinds new.schemas (kept_with history (schema_of id f)) × ChoicesFind asked new (kept_with history (schema_of id f))
schema_tables asked old new content id f shown (inl (known, same)) wanted passed history schemas channels =
    let r = schema_of id f in
    let (k, d, at, ids) = known in
    let (x, found, there) = schemas.are k d at in
    let listed : list_any (declare_same r) history ≡ true =
    schema_listed id r history (eq-eqb id id refl) ∙ ap (λ (n : ℕ). is_some (find (is_schema_of n) history)) (sym ids) ∙ ap is_some found in
    let is = kept_old history r listed in (
      subst (TableFinds new.schemas) (sym is) (subst (λ (t : List Declared). TableFinds t history) (sym same) schemas),
      subst (ChoicesFind asked new) (sym is) (same_choices asked old new history wanted passed channels),
    )
schema_tables asked old new content id f shown (inr (lacks, more)) wanted passed history schemas channels =
    let r = schema_of id f in
    let listed : list_any (declare_same r) history ≡ false = schema_listed id r history (eq-eqb id id refl) ∙ ap is_some (schemas.none id lacks) in
    let is = kept_new history r listed in (
      subst (TableFinds new.schemas) (sym is) (subst (λ (t : List Declared). TableFinds t (history ++ r ∷ [])) (sym more) (table_new old.schemas history content id f schemas shown lacks)),
      subst (ChoicesFind asked new) (sym is) (choices_other asked new history r (same_choices asked old new history wanted passed channels) (λ other. refl)),
    )

pub schema_noted : {L : Type 0} (seen : L → LiveState) (a : Asking) (k : Keeping L) (old new : Choices) (frame : Option (Bor (List ℕ))) (content : List ℕ) (id : ℕ) (f : SchemaFields) → phase_of k.scribe ≡ phases.Going → ShowsSchema content id f
    → Notes old.schemas new.schemas id content → new.wanted ≡ old.wanted → new.passed.keys ≡ old.passed.keys → PicksOne seen a (picking k old) (picking k new) frame (top 3 content)
schema_noted seen a k old new frame content id f going shown notes wanted passed =
    declared_noted seen a k old new frame (top 3 content) (schema_of id f) going (refl, shown) refl refl
    (λ history whole. filtered_declared a history (schema_of id f) whole refl)
    (schema_tables a.topic old new content id f shown notes wanted passed)

pub schema_stopped : {L : Type 0} (seen : L → LiveState) (a : Asking) (k after : Keeping L) (old new : Choices) (frame : Option (Bor (List ℕ))) (content : List ℕ) (id : ℕ) (f : SchemaFields) (stop : Stop) → ShowsSchema content id f
    → ((t : Top) → GathersExtra seen k.scribe after.scribe t) → phase_of after.scribe ≡ phases.Stopped stop → PicksOne seen a (picking k old) (picking after new) frame (top 3 content)
schema_stopped seen a k after old new frame content id f stop shown gathers stopped =
    declared_stopped seen a k after old new frame (top 3 content) (schema_of id f) stop (refl, shown) refl
    (λ history whole. filtered_declared a history (schema_of id f) whole refl) (gathers (top 3 content)) stopped

-- ---- a Channel

channel_known_so : (history : List Rec) (id : ℕ) (f : ChannelFields) (x : Rec) → find (is_channel_of id) history ≡ Some x → kept_with history (channel_of id f) ≡ history
channel_known_so history id f x found =
    let r = channel_of id f in
    kept_old history r (channel_listed id r history (eq-eqb id id refl) ∙ ap is_some found)

channel_new_so : (history : List Rec) (id : ℕ) (f : ChannelFields) → find (is_channel_of id) history ≡ None → kept_with history (channel_of id f) ≡ history ++ channel_of id f ∷ []
channel_new_so history id f none =
    let r = channel_of id f in
    kept_new history r (channel_listed id r history (eq-eqb id id refl) ∙ ap is_some none)

channel_tables : (asked : Option (List ℕ)) (old new : Choices) (content : List ℕ) (id : ℕ) (f : ChannelFields) → ShowsChannel content id f → Chooses asked old new id content f.topic
    → (history : List Rec) → TableFinds old.schemas history → ChoicesFind asked old history → TableFinds new.schemas (kept_with history (channel_of id f)) × ChoicesFind asked new (kept_with history (channel_of id f))
channel_tables asked old new content id f shown (others, chosen) history schemas channels = by chosen
  where
    r : Rec
    r = channel_of id f

    known : (x : Rec) → find (is_channel_of id) history ≡ Some x → new.wanted ≡ old.wanted → new.passed.keys ≡ old.passed.keys → TableFinds new.schemas (kept_with history r) × ChoicesFind asked new (kept_with history r)
    known x found wanted passed =
        let is = channel_known_so history id f x found in (
          subst (TableFinds new.schemas) (sym is) (subst (λ (t : List Declared). TableFinds t history) (sym others) schemas),
          subst (ChoicesFind asked new) (sym is) (same_choices asked old new history wanted passed channels),
        )

    fresh : find (is_channel_of id) history ≡ None → ChoicesFind asked new (history ++ r ∷ []) → TableFinds new.schemas (kept_with history r) × ChoicesFind asked new (kept_with history r)
    fresh none finds =
        let is = channel_new_so history id f none in (
          subst (TableFinds new.schemas) (sym is) (subst (λ (t : List Declared). TableFinds t (history ++ r ∷ [])) (sym others) (table_other old.schemas history r schemas (λ other. refl))),
          subst (ChoicesFind asked new) (sym is) finds,
        )

    over : ((k : ℕ) (d : Declared) → At old.wanted k d → d.id ≡ id → ⊥) → is_topic asked f.topic ≡ false → new.wanted ≡ old.wanted → new.passed.keys ≡ declared_with old.passed.keys id → (b : Bool) → is_declared old.passed.keys id ≡ b
        → TableFinds new.schemas (kept_with history r) × ChoicesFind asked new (kept_with history r)
    over lacks off wanted passed true there =
        let (x, found, away) = channels.passed_over id there in
        known x found wanted (passed ∙ ap (λ (b : Bool). if b then old.passed.keys else old.passed.keys ++ id ∷ []) there)
    over lacks off wanted passed false apart =
        fresh (channels.none id lacks apart) (choices_passed asked old new history content id f channels lacks apart off wanted (passed ∙ ap (λ (b : Bool). if b then old.passed.keys else old.passed.keys ++ id ∷ []) apart))

    by : Chosen asked old new id content f.topic → TableFinds new.schemas (kept_with history r) × ChoicesFind asked new (kept_with history r)
    by (inl ((k, d, at, ids), wanted, passed)) =
        let (x, found, there, on) = channels.are k d at in
        known x (subst (λ (n : ℕ). find (is_channel_of n) history ≡ Some x) ids found) wanted passed
    by (inr (lacks, inl (on, there, wanted, passed))) = let (x, found, away) = channels.passed_over id there in known x found wanted passed
    by (inr (lacks, inr (inl (on, apart, wanted, passed)))) = fresh (channels.none id lacks apart) (choices_wanted asked old new history content id f channels shown lacks apart on wanted passed)
    by (inr (lacks, inr (inr (off, wanted, passed)))) = over lacks off wanted passed (is_declared old.passed.keys id) refl

pub channel_noted : {L : Type 0} (seen : L → LiveState) (a : Asking) (k : Keeping L) (old new : Choices) (frame : Option (Bor (List ℕ))) (content : List ℕ) (id : ℕ) (f : ChannelFields) → phase_of k.scribe ≡ phases.Going → ShowsChannel content id f
    → Chooses a.topic old new id content f.topic → PicksOne seen a (picking k old) (picking k new) frame (top 4 content)
channel_noted seen a k old new frame content id f going shown chooses =
    declared_noted seen a k old new frame (top 4 content) (channel_of id f) going (refl, shown) refl refl
    (λ history whole. filtered_declared a history (channel_of id f) whole refl)
    (channel_tables a.topic old new content id f shown chooses)

pub channel_stopped : {L : Type 0} (seen : L → LiveState) (a : Asking) (k after : Keeping L) (old new : Choices) (frame : Option (Bor (List ℕ))) (content : List ℕ) (id : ℕ) (f : ChannelFields) (stop : Stop) → ShowsChannel content id f
    → ((t : Top) → GathersExtra seen k.scribe after.scribe t) → phase_of after.scribe ≡ phases.Stopped stop → PicksOne seen a (picking k old) (picking after new) frame (top 4 content)
channel_stopped seen a k after old new frame content id f stop shown gathers stopped =
    declared_stopped seen a k after old new frame (top 4 content) (channel_of id f) stop (refl, shown) refl
    (λ history whole. filtered_declared a history (channel_of id f) whole refl) (gathers (top 4 content)) stopped

-- ---- another record

none_left : (rs : List Rec) → AllZip IsRec [] rs → rs ≡ []
none_left [] it = refl
none_left (s ∷ ss) it = absurd it

-- it shows none that is picked, and is kept where it is an extra
pub other_picked : {L : Type 0} (seen : L → LiveState) (a : Asking) (k after : Keeping L) (c : Choices) (frame : Option (Bor (List ℕ))) (t : Top) → filter is_flat_kind (t ∷ []) ≡ [] → phase_of k.scribe ≡ phases.Going
    → AddsRecords seen k after (extras_of frame t) [] → PicksOne seen a (picking k c) (picking after c) frame t
other_picked seen a k after c frame t none going adds records zip options extras opened history whole stands =
    let empty = none_left records (subst (λ (l : List Top). AllZip IsRec l records) none zip) in
    subst (λ (l : List Rec). PickingStands seen a options (extras ++ extras_of frame t) opened (fold kept_with history l) after c) (sym empty) (record {
      keeps = adds options extras opened (filtered a history) stands.keeps;
      schemas = λ it. stands.schemas going;
      channels = λ it. stands.channels going;
    })
