-- Declarations that are noted.
use Rattle.std.proofs.Common.{◌≡◌, ◌⊎◌, ℕ, zero, suc, Bool, true, false, List, [], ◌∷◌, ◌++◌, length, Some, None, refl, sym, ap, subst, inl, inr, ◌∙◌, cond, eq-eqb}
use Rattle.std.specs.Prelude.{filter, fold, find, is_some, Result, Ok, Err, OnOk}
use Rattle.std.specs.List.{AllZip, list_any}
use Rattle.std.proofs.lemmas.Bool.{eqb-true}
use Rattle.std.proofs.lemmas.List.Elements.{filter-append}
use Rattle.mcap_wire.specs.declared.faults.Memory.{Memory}
use Rattle.rec_data.specs.declared.owned.Rec.{Rec}
use Rattle.rec_data.specs.declared.owned.Rec.TheVariants.{Schema, Channel, Message, Extra}
use Rattle.rec_data.specs.Records.{ShowsSchema, ShowsChannel}
use Rattle.rec_data.proofs.OwnedReading.{shown_once}
use Rattle.mcap_model.specs.declared.table.Declared.{Declared}
use Rattle.mcap_model.specs.declared.tables.Tables.{Tables}
use Rattle.mcap_model.specs.Places.{At}
use Rattle.mcap_model.specs.Tops.{Top, is_flat_kind, unchunked, flattened, flat}
use Rattle.mcap_model.specs.Fields.{SchemaFields, ChannelFields}
use Rattle.mcap_model.specs.Made.{top}
use Rattle.mcap_model.specs.History.{declare_same, kept_with, without_repeats, schema_of, channel_of}
use Rattle.mcap_model.specs.Written.{IsRec}
use Rattle.mcap_model.proofs.Flat.{flat_more}
use Rattle.mcap_model.proofs.Places.{at_more, at_kept, at_last, at_none}
use Rattle.mcap_model.proofs.Repairs.{kept_new, kept_old, zip_parts, fold_more}
use Rattle.mcap_model.specs.Needed.{is_schema_of, is_channel_of}
use Rattle.mcap_sort.specs.Declaring.{TableFinds, Finds, Notes, NotesAll, NotesFile}
use Rattle.mcap_sort.proofs.Finding.{find_kept, find_behind, find_apart, schema_listed, channel_listed}

-- ---- tables

-- a record of another kind or id
table_other : (op : ℕ) (declares : ℕ → Rec → Bool) (table : List Declared) (history : List Rec) (r : Rec) → TableFinds op declares table history → ((id : ℕ) → declares id r ≡ false) → TableFinds op declares table (history ++ r ∷ [])
table_other op declares table history r was other = record {
  are = λ k d at. let (x, is, shown) = was.are k d at in (x, find_apart (declares d.id) history r (other d.id) ∙ is, shown);
  none = λ id lacks. find_apart (declares id) history r (other id) ∙ was.none id lacks;
}

-- a new declaration
table_new : (op : ℕ) (declares : ℕ → Rec → Bool) (table : List Declared) (history : List Rec) (d : Declared) (r : Rec) → TableFinds op declares table history → IsRec (top op d.content) r → declares d.id r ≡ true
    → ((id : ℕ) → declares id r ≡ true → id ≡ d.id) → ((k : ℕ) (e : Declared) → At table k e → e.id ≡ d.id → ⊥) → TableFinds op declares (table ++ d ∷ []) (history ++ r ∷ [])
table_new op declares table history d r was shown declared once lacks = record {
  are = λ k e at. elim (at_more table d k e at) [
    | inl old ↦ let (x, is, there) = was.are k e old in (x, find_kept (declares e.id) history (r ∷ []) (ap is_some is) ∙ is, there)
    | inr here ↦
        (r, subst (λ (x : Declared). find (declares x.id) (history ++ r ∷ []) ≡ Some r) (sym here.1) found, subst (λ (x : Declared). IsRec (top op x.content) r) (sym here.1) shown)
  ];
  none = λ id missing. by id missing (declares id r) refl;
}
  where
    found : find (declares d.id) (history ++ r ∷ []) ≡ Some r
    found = find_behind (declares d.id) history (r ∷ []) (was.none d.id lacks) ∙ ap (λ (b : Bool). cond b (Some r) None) declared

    by : (id : ℕ) → ((k : ℕ) (e : Declared) → At (table ++ d ∷ []) k e → e.id ≡ id → ⊥) → (b : Bool) → declares id r ≡ b → find (declares id) (history ++ r ∷ []) ≡ None
    by id missing true test = absurd (missing (length table) d (at_last table d []) (sym (once id test)))
    by id missing false test = find_apart (declares id) history r test ∙ was.none id (λ k e at. missing k e (at_kept table (d ∷ []) k e at))

kept_or : (history : List Rec) (r : Rec) → (kept_with history r ≡ history) ⊎ (kept_with history r ≡ history ++ r ∷ [])
kept_or history r = by (list_any (declare_same r) history) refl
  where
    by : (b : Bool) → list_any (declare_same r) history ≡ b → (kept_with history r ≡ history) ⊎ (kept_with history r ≡ history ++ r ∷ [])
    by true is = inl (kept_old history r is)
    by false is = inr (kept_new history r is)

-- ---- one record

-- what is shown of a content is one record
one_shown : (t : Top) (r : Rec) → IsRec t r → (rs : List Rec) → AllZip IsRec (t ∷ []) rs → rs ≡ r ∷ []
one_shown t r is [] zip = absurd zip
one_shown t r is (s ∷ []) zip = ap (λ (x : Rec). x ∷ []) (shown_once t.op t.content s r zip.0 is)
one_shown t r is (s ∷ u ∷ us) zip = absurd zip.1

notes_one : (old new : Tables) (t : Top) (r : Rec) → IsRec t r → filter is_flat_kind (t ∷ []) ≡ t ∷ [] → ((history : List Rec) → Finds old history → Finds new (kept_with history r)) → NotesAll old new (t ∷ [])
notes_one old new t r is flat_is finds history records zip was =
    let one = one_shown t r is records (subst (λ (l : List Top). AllZip IsRec l records) flat_is zip) in
    subst (λ (l : List Rec). Finds new (fold kept_with history l)) (sym one) (finds history was)

-- a content that shows none
pub notes_absurd : (old new : Tables) (t : Top) → filter is_flat_kind (t ∷ []) ≡ t ∷ [] → ((r : Rec) → IsRec t r → ⊥) → NotesAll old new (t ∷ [])
notes_absurd old new t flat_is none history records zip was = absurd (by records (subst (λ (l : List Top). AllZip IsRec l records) flat_is zip))
  where
    by : (rs : List Rec) → AllZip IsRec (t ∷ []) rs → ⊥
    by [] it = it
    by (s ∷ ss) it = none s it.0

-- ---- a Schema

schema_tables : (old new : Tables) (content : List ℕ) (id : ℕ) (f : SchemaFields) → ShowsSchema content id f → Notes old.schemas new.schemas id content → new.channels ≡ old.channels
    → (history : List Rec) → Finds old history → Finds new (kept_with history (schema_of id f))
schema_tables old new content id f shown (inl (known, same)) others history was =
    let r = schema_of id f in
    let (k, d, at, ids) = known in
    let (x, found, there) = was.schemas.are k d at in
    let listed : list_any (declare_same r) history ≡ true =
    schema_listed id r history (eq-eqb id id refl) ∙ ap (λ (n : ℕ). is_some (find (is_schema_of n) history)) (sym ids) ∙ ap is_some found in
    subst (λ (l : List Rec). Finds new l) (sym (kept_old history r listed)) (record {
      schemas = subst (λ (t : List Declared). TableFinds 3 is_schema_of t history) (sym same) was.schemas;
      channels = subst (λ (t : List Declared). TableFinds 4 is_channel_of t history) (sym others) was.channels;
    })
schema_tables old new content id f shown (inr (lacks, more)) others history was =
    let r = schema_of id f in
    let d : Declared = record { id = id; content = content } in
    let listed : list_any (declare_same r) history ≡ false = schema_listed id r history (eq-eqb id id refl) ∙ ap is_some (was.schemas.none id lacks) in
    subst (λ (l : List Rec). Finds new l) (sym (kept_new history r listed)) (record {
      schemas = subst (λ (t : List Declared). TableFinds 3 is_schema_of t (history ++ r ∷ [])) (sym more)
          (table_new 3 is_schema_of old.schemas history d r was.schemas (refl, shown) (eq-eqb id id refl) (λ other test. eqb-true other id test) lacks);
      channels = subst (λ (t : List Declared). TableFinds 4 is_channel_of t (history ++ r ∷ [])) (sym others)
          (table_other 4 is_channel_of old.channels history r was.channels (λ other. refl));
    })

pub schema_noted : (old new : Tables) (content : List ℕ) (id : ℕ) (f : SchemaFields) → ShowsSchema content id f → Notes old.schemas new.schemas id content → new.channels ≡ old.channels → NotesAll old new (top 3 content ∷ [])
schema_noted old new content id f shown notes others = notes_one old new (top 3 content) (schema_of id f) (refl, shown) refl (schema_tables old new content id f shown notes others)

-- ---- a Channel

channel_tables : (old new : Tables) (content : List ℕ) (id : ℕ) (f : ChannelFields) → ShowsChannel content id f → Notes old.channels new.channels id content → new.schemas ≡ old.schemas
    → (history : List Rec) → Finds old history → Finds new (kept_with history (channel_of id f))
channel_tables old new content id f shown (inl (known, same)) others history was =
    let r = channel_of id f in
    let (k, d, at, ids) = known in
    let (x, found, there) = was.channels.are k d at in
    let listed : list_any (declare_same r) history ≡ true =
    channel_listed id r history (eq-eqb id id refl) ∙ ap (λ (n : ℕ). is_some (find (is_channel_of n) history)) (sym ids) ∙ ap is_some found in
    subst (λ (l : List Rec). Finds new l) (sym (kept_old history r listed)) (record {
      schemas = subst (λ (t : List Declared). TableFinds 3 is_schema_of t history) (sym others) was.schemas;
      channels = subst (λ (t : List Declared). TableFinds 4 is_channel_of t history) (sym same) was.channels;
    })
channel_tables old new content id f shown (inr (lacks, more)) others history was =
    let r = channel_of id f in
    let d : Declared = record { id = id; content = content } in
    let listed : list_any (declare_same r) history ≡ false = channel_listed id r history (eq-eqb id id refl) ∙ ap is_some (was.channels.none id lacks) in
    subst (λ (l : List Rec). Finds new l) (sym (kept_new history r listed)) (record {
      schemas = subst (λ (t : List Declared). TableFinds 3 is_schema_of t (history ++ r ∷ [])) (sym others)
          (table_other 3 is_schema_of old.schemas history r was.schemas (λ other. refl));
      channels = subst (λ (t : List Declared). TableFinds 4 is_channel_of t (history ++ r ∷ [])) (sym more)
          (table_new 4 is_channel_of old.channels history d r was.channels (refl, shown) (eq-eqb id id refl) (λ other test. eqb-true other id test) lacks);
    })

pub channel_noted : (old new : Tables) (content : List ℕ) (id : ℕ) (f : ChannelFields) → ShowsChannel content id f → Notes old.channels new.channels id content → new.schemas ≡ old.schemas → NotesAll old new (top 4 content ∷ [])
channel_noted old new content id f shown notes others = notes_one old new (top 4 content) (channel_of id f) (refl, shown) refl (channel_tables old new content id f shown notes others)

-- ---- another record

-- a record that declares nothing
silent_kept : (tables : Tables) (history : List Rec) (r : Rec) → ((id : ℕ) → is_schema_of id r ≡ false) → ((id : ℕ) → is_channel_of id r ≡ false) → Finds tables history → Finds tables (kept_with history r)
silent_kept tables history r no_schema no_channel was = elim (kept_or history r) [
  | inl old ↦ subst (λ (l : List Rec). Finds tables l) (sym old) was
  | inr new ↦ subst (λ (l : List Rec). Finds tables l) (sym new) (record {
    schemas = table_other 3 is_schema_of tables.schemas history r was.schemas no_schema;
    channels = table_other 4 is_channel_of tables.channels history r was.channels no_channel;
  })
]

silent : (tables : Tables) (t : Top) (history : List Rec) (r : Rec) → (t.op ≡ 3 → ⊥) → (t.op ≡ 4 → ⊥) → IsRec t r → Finds tables history → Finds tables (kept_with history r)
silent tables t history (Schema id schema) three four is was = absurd (three is.0)
silent tables t history (Channel id schema topic encoding metadata) three four is was = absurd (four is.0)
silent tables t history (Message channel sequence log_time publish_time payload) three four is was = silent_kept tables history (Message channel sequence log_time publish_time payload) (λ id. refl) (λ id. refl) was
silent tables t history (Extra op content) three four is was = silent_kept tables history (Extra op content) (λ id. refl) (λ id. refl) was

silent_all : (tables : Tables) (t : Top) → (t.op ≡ 3 → ⊥) → (t.op ≡ 4 → ⊥) → (us : List Top) → ((n : ℕ) (u : Top) → At us n u → u ≡ t) → (history rs : List Rec) → AllZip IsRec us rs → Finds tables history → Finds tables (fold kept_with history rs)
silent_all tables t three four [] same history [] zip was = was
silent_all tables t three four [] same history (r ∷ rs) zip was = absurd zip
silent_all tables t three four (u ∷ us) same history [] zip was = absurd zip
silent_all tables t three four (u ∷ us) same history (r ∷ rs) zip was =
    silent_all tables t three four us (λ n v at. same (suc n) v at) (kept_with history r) rs zip.1
    (silent tables t history r three four (subst (λ (v : Top). IsRec v r) (same 0 u refl) zip.0) was)

pub other_noted : (tables : Tables) (t : Top) → (t.op ≡ 3 → ⊥) → (t.op ≡ 4 → ⊥) → NotesAll tables tables (t ∷ [])
other_noted tables t three four history records zip was = by (is_flat_kind t) zip
  where
    by : (b : Bool) → AllZip IsRec (cond b (t ∷ []) []) records → Finds tables (fold kept_with history records)
    by true it = silent_all tables t three four (t ∷ []) (λ n u at. one n u at) history records it was
      where
        one : (n : ℕ) (u : Top) → At (t ∷ []) n u → u ≡ t
        one zero u at = cc
        one (suc n) u at = absurd (at_none n u at)
    by false it = silent_all tables t three four [] (λ n u at. absurd (at_none n u at)) history records it was

-- ---- several records

pub notes_none : (tables : Tables) → NotesAll tables tables []
notes_none tables history [] zip was = was
notes_none tables history (r ∷ rs) zip was = absurd zip

pub notes_on : (a b c : Tables) (xs ys : List Top) → NotesAll a b xs → NotesAll b c ys → NotesAll a c (xs ++ ys)
notes_on a b c xs ys one two history records zip was =
    let (rs, ss, is, first, second) = zip_parts IsRec (filter is_flat_kind xs) (filter is_flat_kind ys) records (subst (λ (l : List Top). AllZip IsRec l records) (filter-append is_flat_kind xs ys) zip) in
    subst (λ (l : List Rec). Finds c l) (sym (ap (fold kept_with history) is ∙ fold_more history rs ss))
    (two (fold kept_with history rs) ss second (one history rs first was))

-- ---- a file

pub file_begins : (tables : Tables) → tables.schemas ≡ [] → tables.channels ≡ [] → NotesFile [] tables
file_begins tables schemas channels (r ∷ rs) zip = absurd zip
file_begins tables schemas channels [] zip = record {
  schemas = subst (λ (t : List Declared). TableFinds 3 is_schema_of t []) (sym schemas) (record { are = λ k d at. absurd (at_none k d at); none = λ id lacks. refl });
  channels = subst (λ (t : List Declared). TableFinds 4 is_channel_of t []) (sym channels) (record { are = λ k d at. absurd (at_none k d at); none = λ id lacks. refl });
}

pub file_on : (old new : Tables) (tops : List Top) (t : Top) → NotesFile tops old → NotesAll old new (unchunked t) → NotesFile (tops ++ t ∷ []) new
file_on old new tops t was notes records zip =
    let (rs, ss, is, first, second) = zip_parts IsRec (flat tops) (flattened t) records (subst (λ (l : List Top). AllZip IsRec l records) (flat_more tops t) zip) in
    subst (λ (l : List Rec). Finds new l) (sym (ap without_repeats is ∙ fold_more [] rs ss)) (notes (without_repeats rs) ss second (was rs first))

-- ---- contents that show none

pub noted_new : (result : Result Unit Memory) (old new : List Declared) (id : ℕ) (content : List ℕ) → ((k : ℕ) (d : Declared) → At old k d → d.id ≡ id → ⊥) → OnOk result (new ≡ old ++ (record { id = id; content = content }) ∷ []) → OnOk result (Notes old new id content)
noted_new (Ok it) old new id content lacks is = inr (lacks, is)
noted_new (Err memory) old new id content lacks is = tt
