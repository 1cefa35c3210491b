-- The ids that tables of declarations have.
use Rattle.std.proofs.Common.{◌≡◌, ℕ, suc, List, [], ◌∷◌, length, map, refl, sym, ap, subst, ◌∙◌, arith}
use Rattle.std.specs.Prelude.{◌≢◌, AllPairs}
use Rattle.mcap_model.specs.Places.{At}
use Rattle.mcap_model.specs.Tops.{Top, flat}
use Rattle.mcap_model.specs.Fields.{SchemaFields, IsSchema, IsChannel, SameChannel}
use Rattle.mcap_model.specs.Rules.{HasSchema, HasChannel}
use Rattle.mcap_model.specs.Declarations.{FirstOf, TablesOf}
use Rattle.mcap_model.specs.Whole.{IsDataSection, AreIds}
use Rattle.mcap_model.specs.Made.{top}
use Rattle.mcap_model.specs.declared.table.Declared.{Declared}
use Rattle.mcap_model.specs.declared.tables.Tables.{Tables}
use Rattle.mcap_model.proofs.Flat.{at_mapped}
use Rattle.mcap_model.proofs.Lists.{pairs_from}
use Rattle.mcap_model.proofs.ReadBack.{at_map}
use Rattle.index_check.specs.declared.tally.Tally.{Tally}
use Rattle.index_check.specs.Tally.{TallyOf}

abbrev pub AreApart : List Declared → Type 0
AreApart first = (j k : ℕ) (d e : Declared) → At first j d → At first k e → d.id ≡ e.id → j ≡ k

abbrev ids_of : List Declared → List ℕ
ids_of first = map (λ d. d.id) first

apart_ids : (first : List Declared) → AreApart first → AllPairs (λ a b. a ≢ b) (ids_of first)
apart_ids first apart = pairs_from (λ (a b : ℕ). a ≢ b) (ids_of first) (λ i j a b less at other same.
    let d = at_map (λ (x : Declared). x.id) first i a at in
    let e = at_map (λ (x : Declared). x.id) first j b other in
    let one = apart i j d.0 e.0 d.1 e.1 (sym d.2 ∙ same ∙ e.2) in
    omega (arith, one, less))

schema_ids : (records : List Top) (first : List Declared) → FirstOf 3 IsSchema (λ (f : SchemaFields) (g : SchemaFields). f ≡ g) records first → AreApart first → AreIds (HasSchema records) (ids_of first)
schema_ids records first are apart = record {
  apart = apart_ids first apart;
  have = λ n id at.
      let d = at_map (λ (x : Declared). x.id) first n id at in
      let (f, is, has) = are.holds n d.0 d.1 in
      record { place = has.0; top = top 3 d.0.content; shown = f; at = has.1; is = subst (λ (i : ℕ). IsSchema (top 3 d.0.content) i f) (sym d.2) is };
  all = λ id has.
      let c = are.covers has.place id has.top has.shown has.at has.is in
      (c.0, subst (At (ids_of first) c.0) c.4 (at_mapped (λ (x : Declared). x.id) first c.0 c.1 c.3));
}

channel_ids : (records : List Top) (first : List Declared) → FirstOf 4 IsChannel SameChannel records first → AreApart first → AreIds (HasChannel records) (ids_of first)
channel_ids records first are apart = record {
  apart = apart_ids first apart;
  have = λ n id at.
      let d = at_map (λ (x : Declared). x.id) first n id at in
      let (f, is, has) = are.holds n d.0 d.1 in
      record { place = has.0; top = top 4 d.0.content; shown = f; at = has.1; is = subst (λ (i : ℕ). IsChannel (top 4 d.0.content) i f) (sym d.2) is };
  all = λ id has.
      let c = are.covers has.place id has.top has.shown has.at has.is in
      (c.0, subst (At (ids_of first) c.0) c.4 (at_mapped (λ (x : Declared). x.id) first c.0 c.1 c.3));
}

count_ids : (first : List Declared) → length (ids_of first) ≡ length first
count_ids [] = refl
count_ids (d ∷ ds) = ap suc (count_ids ds)

pub tally_whole : (tops section all : List Top) (old : Tally) (tables : Tables) (of_schemas of_channels : ℕ) → TallyOf tops section old → IsDataSection all section → TablesOf (flat all) tables → AreApart tables.schemas → AreApart tables.channels
    → of_schemas ≡ length tables.schemas → of_channels ≡ length tables.channels
    → TallyOf all section (record old { schemas = record { in_section = old.schemas.in_section; in_file = of_schemas }; channels = record { in_section = old.channels.in_section; in_file = of_channels } })
tally_whole tops section all old tables of_schemas of_channels was is are schemas_apart channels_apart schemas_are channels_are =
    let schemas = was.schemas in
    let channels = was.channels in
    record {
      is = is;
      messages = was.messages;
      attachments = was.attachments;
      metadata = was.metadata;
      chunks = was.chunks;
      times = was.times;
      channels_of = was.channels_of;
      are_channels = was.are_channels;
      counts = was.counts;
      schemas = record {
        low = schemas.low;
        high = ids_of tables.schemas;
        are_low = schemas.are_low;
        are_high = schema_ids (flat all) tables.schemas are.schemas schemas_apart;
        in_section = schemas.in_section;
        in_file = schemas_are ∙ sym (count_ids tables.schemas);
      };
      channels = record {
        low = channels.low;
        high = ids_of tables.channels;
        are_low = channels.are_low;
        are_high = channel_ids (flat all) tables.channels are.channels channels_apart;
        in_section = channels.in_section;
        in_file = channels_are ∙ sym (count_ids tables.channels);
      };
    }
