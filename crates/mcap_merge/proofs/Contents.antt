-- A channel of an input has one content.
use Rattle.std.proofs.Common.{◌≡◌, ℕ, List, Option, Some, None, refl, sym, ap, subst, ◌∙◌}
use Rattle.std.specs.Prelude.{IsPermutation}
use Rattle.std.proofs.lemmas.List.Sorted.{IsPermutation-sym, IsPermutation-trans}
use Rattle.rec_data.specs.declared.schema.SchemaDef.{SchemaDef}
use Rattle.rec_data.specs.declared.channel.ChannelDef.{ChannelDef}
use Rattle.rec_data.specs.Owned.{def_fields}
use Rattle.mcap_model.specs.Places.{At}
use Rattle.mcap_model.specs.Tops.{Top}
use Rattle.mcap_model.specs.Made.{top}
use Rattle.mcap_model.specs.Fields.{SchemaFields, IsSchema, ChannelFields, SameChannel, IsChannel}
use Rattle.mcap_model.specs.Written.{SourceShows}
use Rattle.mcap_model.specs.declared.table.Declared.{Declared}
use Rattle.mcap_model.specs.declared.tables.Tables.{Tables}
use Rattle.mcap_model.specs.Declarations.{TablesOf}
use Rattle.mcap_model.proofs.Maps.{sorted_same, schema_once, shows_once, same_trans}
use Rattle.mcap_model.specs.Merged.{SchemaContent, IsContent}

abbrev Pair : Type 0
Pair = List ℕ × List ℕ

same_back : (f g : ChannelFields) → SameChannel f g → SameChannel g f
same_back f g same = record { schema = sym same.schema; topic = sym same.topic; encoding = sym same.encoding; metadata = IsPermutation-sym f.metadata g.metadata same.metadata }

-- the channel's fields are shown in one way
pub channel_once : (records : List Top) (tables : Tables) (channel : ℕ) (f g : ChannelFields) → TablesOf records tables → SourceShows records channel f → SourceShows records channel g → SameChannel f g
channel_once records tables channel f g are one other =
    let firsts = are.channels in
    let (j, d, h, at_d, id_d, is_d, same_d) = firsts.covers one.place channel one.top f one.at one.is in
    let (k, e, i, at_e, id_e, is_e, same_e) = firsts.covers other.place channel other.top g other.at other.is in
    let same : d ≡ e = firsts.apart j k d e at_d at_e (id_d ∙ sym id_e) in
    let there : IsChannel (top 4 d.content) channel i = subst (λ (x : Declared). IsChannel (top 4 x.content) channel i) (sym same) is_e in
    let equal : h ≡ i = (shows_once (top 4 d.content) channel channel h i is_d there).1 in
    same_trans f h g (same_back h f same_d) (subst (λ (x : ChannelFields). SameChannel x g) (sym equal) same_e)

-- and so are its schema's
pub schema_shown_once : (records : List Top) (tables : Tables) (id : ℕ) (f g : SchemaFields) (n m : ℕ) (t u : Top) → TablesOf records tables → At records n t → IsSchema t id f → At records m u → IsSchema u id g → f ≡ g
schema_shown_once records tables id f g n m t u are at_t is_t at_u is_u =
    let firsts = are.schemas in
    let (j, d, h, at_d, id_d, is_d, same_d) = firsts.covers n id t f at_t is_t in
    let (k, e, i, at_e, id_e, is_e, same_e) = firsts.covers m id u g at_u is_u in
    let same : d ≡ e = firsts.apart j k d e at_d at_e (id_d ∙ sym id_e) in
    let there : IsSchema (top 3 d.content) id i = subst (λ (x : Declared). IsSchema (top 3 x.content) id i) (sym same) is_e in
    let equal : h ≡ i = (schema_once (top 3 d.content) id id h i is_d there).1 in
    sym same_d ∙ equal ∙ same_e

abbrev schema_made : SchemaFields → SchemaDef
schema_made f = record { name = f.name; encoding = f.encoding; payload = f.payload }

schemas_once : (records : List Top) (tables : Tables) (id : ℕ) (one other : Option SchemaDef) → TablesOf records tables → SchemaContent records id one → SchemaContent records id other → one ≡ other
schemas_once records tables id None None are a b = refl
schemas_once records tables id None (Some s) are a (n, t, at, is) = absurd (is.some a)
schemas_once records tables id (Some s) None are (n, t, at, is) b = absurd (is.some b)
schemas_once records tables id (Some s) (Some r) are (n, t, at_t, is_t) (m, u, at_u, is_u) =
    let same : def_fields s ≡ def_fields r = schema_shown_once records tables id (def_fields s) (def_fields r) n m t u are at_t is_t at_u is_u in
    ap (λ (f : SchemaFields). Some (schema_made f)) same

abbrev content : List ℕ → List ℕ → List Pair → Option SchemaDef → ChannelDef
content topic encoding metadata schema = record { topic = topic; message_encoding = encoding; metadata = metadata; schema = schema }

content_by : (a b c d : List ℕ) (m n : List Pair) (s r : Option SchemaDef) → a ≡ b → c ≡ d → m ≡ n → s ≡ r → content a c m s ≡ content b d n r
content_by a b c d m n s r one two three four = cc

pub content_once : (records : List Top) (tables : Tables) (channel : ℕ) (d e : ChannelDef) → TablesOf records tables → IsContent records channel d → IsContent records channel e → d ≡ e
content_once records tables channel d e are one other =
    let same = channel_once records tables channel one.shown other.shown are one.known other.known in
    let moved : IsPermutation d.metadata e.metadata =
    IsPermutation-trans d.metadata one.shown.metadata e.metadata (IsPermutation-sym one.shown.metadata d.metadata one.metadata)
    (IsPermutation-trans one.shown.metadata other.shown.metadata e.metadata same.metadata other.metadata) in
    let schema : SchemaContent records one.shown.schema e.schema = subst (λ (n : ℕ). SchemaContent records n e.schema) (sym same.schema) other.schema in
    content_by d.topic e.topic d.message_encoding e.message_encoding d.metadata e.metadata d.schema e.schema (one.topic ∙ same.topic ∙ sym other.topic) (one.encoding ∙ same.encoding ∙ sym other.encoding)
    (sorted_same d.metadata e.metadata one.order other.order moved) (schemas_once records tables one.shown.schema d.schema e.schema are one.schema schema)
