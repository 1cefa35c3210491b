use Rattle.std.proofs.Common.{refl}
use Rattle.std.proofs.lemmas.Bool.{both_ways}
use Rattle.index_check.proofs.Followers.{indexed_none, indexed_all, on_indexed}
use Rattle.index_check.proofs.behind.has_indexes.Goals as goal

pub returns-then-is_empty : goal.returns-then-is_empty
returns-then-is_empty c = λ before after t o other. (
  λ e. indexed_none before after t c.args.messages.now c.args.channels.now o other (c.is_empty.ensures.0 c.if-is_empty.true),
  λ indexed. refl,
)

pub returns : goal.returns
returns c = λ before after t o other. (
  λ e. indexed_all before after t c.args.messages.now c.args.channels.now o other (c.are_on.ensures.0 e),
  λ indexed. c.are_on.ensures.1 (on_indexed before after t c.args.messages.now c.args.channels.now o other (λ none. both_ways c.is_empty.result c.if-is_empty.false (c.is_empty.ensures.1 none)) indexed),
)
