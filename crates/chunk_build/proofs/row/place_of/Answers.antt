use Rattle.std.proofs.Common.{rules}
use Rattle.std.proofs.lemmas.List.Sorted.{answers_always}
use Rattle.chunk_build.specs.declared.row.Row.{Row}
use Rattle.chunk_build.proofs.Keys.{found_key}
use Rattle.chunk_build.proofs.row.place_of.Goals as goal

-- the closure gives a row's channel
pub returns : goal.returns
returns c =
    let facts = c.binary_search_by_key.ensures in
    let by_key = facts.position (λ (row : Row). row.channel) (answers_always _ _ _ (λ f a r g called. search rules)) in
    found_key (λ (row : Row). row.channel) c.args.rows.now c.requires c.args.channel _ facts.bound by_key
