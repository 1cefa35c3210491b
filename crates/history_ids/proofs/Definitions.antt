-- A channel of a feed as it is declared.
use Rattle.std.proofs.Common.{◌≡◌, ℕ, ◌<◌, ◌^◌, List, length, refl, sym, subst, ◌∙◌}
use Rattle.std.specs.Prelude.{IsPermutation}
use Rattle.std.proofs.lemmas.List.Concat.{length-flat_map}
use Rattle.std.proofs.lemmas.List.Sorted.{sum_by-IsPermutation}
use Rattle.mcap_wire.specs.Maps.{pair_text, pair_texts}
use Rattle.rec_data.specs.Records.{ShowsSchema, ShowsChannel}
use Rattle.mcap_model.specs.Places.{At}
use Rattle.mcap_model.specs.Tops.{Top}
use Rattle.mcap_model.specs.Made.{top}
use Rattle.mcap_model.specs.Fields.{SchemaFields, IsSchema, ChannelFields, IsChannel}
use Rattle.mcap_model.specs.Written.{SourceShows}
use Rattle.mcap_model.specs.declared.table.Declared.{Declared}
use Rattle.mcap_model.specs.declared.tables.Tables.{Tables}
use Rattle.mcap_model.specs.Declarations.{TablesOf}
use Rattle.mcap_model.proofs.Maps.{schema_id, shows_once}
use Rattle.history_ids.specs.FeedContents.{ShowsDef}

abbrev Pair : Type 0
Pair = List ℕ × List ℕ

-- ---- lengths

abbrev pub schema_made : List ℕ → List ℕ → List ℕ → SchemaFields
schema_made name encoding payload = record { name = name; encoding = encoding; payload = payload }

abbrev pub channel_made : ℕ → List ℕ → List ℕ → List Pair → ChannelFields
channel_made schema topic encoding metadata = record { schema = schema; topic = topic; encoding = encoding; metadata = metadata }

pub schema_lengths : (content : List ℕ) (id : ℕ) (name encoding payload : List ℕ) → ShowsSchema content id (schema_made name encoding payload) → (length name < 2 ^ 32) × (length encoding < 2 ^ 32) × (length payload < 2 ^ 32)
schema_lengths content id name encoding payload shows = let fit = shows.1.fit in (fit.1.0.0, fit.1.1.0.0, fit.1.1.1.0)

pub channel_lengths : (content : List ℕ) (id schema : ℕ) (topic encoding : List ℕ) (metadata : List Pair) → ShowsChannel content id (channel_made schema topic encoding metadata) → (length topic < 2 ^ 32) × (length encoding < 2 ^ 32) × (length (pair_texts metadata) < 2 ^ 32)
channel_lengths content id schema topic encoding metadata shows = let fit = shows.1.fit in (fit.1.1.0.0, fit.1.1.1.0.0, fit.1.1.1.1.0.0)

-- a map has as many bytes in any order
pub pairs_length : (pairs sorted : List Pair) → IsPermutation pairs sorted → length (pair_texts sorted) ≡ length (pair_texts pairs)
pairs_length pairs sorted same =
    length-flat_map pair_text sorted ∙ sum_by-IsPermutation (λ (p : Pair). length (pair_text p)) pairs sorted same ∙ sym (length-flat_map pair_text pairs)

-- ---- what the tables' contents show

-- the content that a table has for an id
abbrev pub IsFirst : List Declared → ℕ → List ℕ → Type 0
IsFirst first id content = (k : ℕ) × (d : Declared) × At first k d × (d.id ≡ id) × (d.content ≡ content)

pub shows_def : (records : List Top) (tables : Tables) (id other : ℕ) (content name encoding payload : List ℕ) → TablesOf records tables → IsFirst tables.schemas id content → ShowsSchema content other (schema_made name encoding payload)
    → ShowsDef records id (record { name = name; encoding = encoding; payload = payload })
shows_def records tables id other content name encoding payload are (k, d, at, same, here) shows =
    let held = are.schemas.holds k d at in
    let was : IsSchema (top 3 content) d.id held.0 = subst (λ (l : List ℕ). IsSchema (top 3 l) d.id held.0) here held.1 in
    let one : d.id ≡ other = schema_id content d.id other held.0 (schema_made name encoding payload) was shows in
    record {
      place = held.2.0;
      top = top 3 content;
      at = subst (λ (l : List ℕ). At records held.2.0 (top 3 l)) here held.2.1;
      is = subst (λ (n : ℕ). IsSchema (top 3 content) n (schema_made name encoding payload)) (sym one ∙ same) (record { kind = refl; layout = shows; some = λ none. was.some (one ∙ none) });
    }

pub source_shows : (records : List Top) (tables : Tables) (source other schema : ℕ) (content topic encoding : List ℕ) (metadata : List Pair) → TablesOf records tables → IsFirst tables.channels source content → ShowsChannel content other (channel_made schema topic encoding metadata)
    → SourceShows records source (channel_made schema topic encoding metadata)
source_shows records tables source other schema content topic encoding metadata are (k, d, at, same, here) shows =
    let held = are.channels.holds k d at in
    let shown = channel_made schema topic encoding metadata in
    let was : IsChannel (top 4 content) d.id held.0 = subst (λ (l : List ℕ). IsChannel (top 4 l) d.id held.0) here held.1 in
    let is : IsChannel (top 4 content) other shown = record { kind = refl; layout = shows } in
    let one : other ≡ d.id = (shows_once (top 4 content) other d.id shown held.0 is was).0 in
    record {
      place = held.2.0;
      top = top 4 content;
      at = subst (λ (l : List ℕ). At records held.2.0 (top 4 l)) here held.2.1;
      is = subst (λ (n : ℕ). IsChannel (top 4 content) n shown) (one ∙ same) is;
    }
