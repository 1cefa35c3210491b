use Rattle.std.proofs.Common.{◌≡◌, ℕ, List, ◌∷◌, ◌++◌, map}
use Rattle.std.specs.List.{flat_map}
use Rattle.json.specs.Json.{string}
use Rattle.json.specs.Token.{begin_array}
use Rattle.json.specs.Tree.{json_tokens}
use Rattle.command_read.specs.Writing.{AddsTokens}
use Rattle.command_read.proofs.names.put_all.Given as goal

abbrev pub invariant-names : goal.invariant-names
invariant-names l = (done : List (List ℕ)) × (map (λ n. n.now) l.names.keys ≡ done ++ map (λ n. n.now) l.name-iterator)
    × AddsTokens l.fn.out l.out (begin_array ∷ flat_map (λ n. json_tokens (string n)) done)
