use Rattle.std.proofs.Common.{◌≡◌, ℕ, ◌∷◌, [], ◌++◌, List, map, sym, subst}
use Rattle.std.proofs.lemmas.Map.Iter.{rest_more, rest_all}
use Rattle.std.specs.Map.Iter.{deref}
use Rattle.json.specs.Json.{string}
use Rattle.json.specs.Token.{begin_array}
use Rattle.json.specs.Tree.{json_tokens}
use Rattle.command_read.specs.Json.{names_value}
use Rattle.command_read.specs.Writing.{AddsTokens}
use Rattle.command_read.proofs.Added.{adds_more, array_ends}
use Rattle.command_read.proofs.Named.{Key, name_of, next_name, last_name}
use Rattle.command_read.proofs.names.put_all.Goals as goal

pub names-preserved : goal.names-preserved
names-preserved c =
    let (done, is, adds) = c.names.invariant in
    let key : Key = c.in-Some.name.now in
    let more : c.names.name-iterator ≡ key ∷ c.next.new.self = rest_more deref c.names.name-iterator c.next.new.self c.next.result c.in-Some.name c.in-Some.is c.next.ensures.steps in (
      done ++ key.now ∷ [],
      next_name (map name_of c.args.names.now.keys) done c.names.name-iterator c.next.new.self key is more,
      adds_more (λ n. json_tokens (string n)) c.args.out.now c.names.out c.put_string.new.out begin_array done key.now adds c.in-Ok.ensures,
    )

pub returns : goal.returns
returns c =
    let (done, is, adds) = c.names.invariant in
    let none : c.names.name-iterator ≡ [] = rest_all deref c.names.name-iterator c.next.new.self c.next.result c.in-None.is c.next.ensures.steps in
    let all = last_name (map name_of c.args.names.now.keys) done c.names.name-iterator is none in
    subst (λ (l : List (List ℕ)). AddsTokens c.args.out.now c.close_array.new.out (json_tokens (names_value l))) (sym all)
    (array_ends string c.args.out.now c.names.out c.close_array.new.out done adds c.in_ok-close_array.ensures)
