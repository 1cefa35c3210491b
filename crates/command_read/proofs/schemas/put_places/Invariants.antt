use Rattle.std.proofs.Common.{ℕ, List, ◌∷◌, take}
use Rattle.std.specs.List.{AllZip, flat_map}
use Rattle.json.specs.Token.{begin_array}
use Rattle.json.specs.Tree.{json_tokens}
use Rattle.rec_data.specs.Fields.{SchemaFields}
use Rattle.mcap_model.specs.Fields.{IsSchema}
use Rattle.command_read.specs.Json.{schema_value}
use Rattle.command_read.specs.Writing.{AddsTokens, ShownAt}
use Rattle.command_read.proofs.schemas.put_places.Given as goal

abbrev pub invariant-places : goal.invariant-places
invariant-places l = (shown : List (ℕ × SchemaFields)) × AllZip (ShownAt IsSchema l.loaded.schemas) (take l.i l.places) shown
    × AddsTokens l.fn.out l.out (begin_array ∷ flat_map (λ s. json_tokens (schema_value s)) shown)
