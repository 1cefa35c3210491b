use Rattle.std.proofs.Common.{ℕ, List, ◌∷◌, take}
use Rattle.std.specs.List.{AllZip, flat_map}
use Rattle.json.specs.Token.{begin_array}
use Rattle.json.specs.Tree.{json_tokens}
use Rattle.rec_data.specs.Fields.{ChannelFields}
use Rattle.mcap_model.specs.Fields.{IsChannel}
use Rattle.command_read.specs.IdTables.{IsCountTable}
use Rattle.command_read.specs.Json.{channel_value}
use Rattle.command_read.specs.Writing.{AddsTokens, ShownAt}
use Rattle.command_read.proofs.channels.put_places.Given as goal

abbrev pub invariant-places : goal.invariant-places
invariant-places l = (shown : List (ℕ × ChannelFields)) × AllZip (ShownAt IsChannel l.loaded.channels) (take l.i l.places) shown
    × ((counts : List (ℕ × ℕ)) → IsCountTable counts l.table → AddsTokens l.fn.out l.out (begin_array ∷ flat_map (λ c. json_tokens (channel_value counts c)) shown))
