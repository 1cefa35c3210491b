use Rattle.std.proofs.Common.{◌∙◌, ◌++◌, ◌∷◌, [], List, ap, sym, arith}
use Rattle.std.proofs.lemmas.List.FromFn.{map-range_with_len_more}
use Rattle.mcap_io.specs.Outside.{SourceState}
use Rattle.command_generate.specs.Making.{generated_source}
use Rattle.command_generate.proofs.making.make_feeds.Goals as goal

pub feeds-preserved : goal.feeds-preserved
feeds-preserved c =
    c.in-Ok.ensures
    ∙ ap (λ (l : List SourceState). l ++ generated_source c.args.numbers c.feeds.feed ∷ []) c.feeds.invariant
    ∙ sym (map-range_with_len_more (generated_source c.args.numbers) 0 c.feeds.feed c.feeds.feed (omega arith))
