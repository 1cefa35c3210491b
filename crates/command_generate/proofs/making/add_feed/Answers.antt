use Rattle.std.proofs.Common.{◌∙◌, ◌++◌, ◌∷◌, [], map, ap}
use Rattle.std.proofs.lemmas.List.{map-append}
use Rattle.mcap_io.specs.Outside.{SourceState}
use Rattle.command_generate.specs.contracts.feed.GeneratedFeedSource.TheImpl as it
use Rattle.command_generate.proofs.making.add_feed.Goals as goal

pub returns-in-Ok-push : goal.returns-in-Ok-push
returns-in-Ok-push c =
    ap (map it.ghosts.state) c.in-Ok-push.ensures.items
    ∙ map-append it.ghosts.state c.args.feeds.now.items (c.in-Ok.made ∷ [])
    ∙ ap (λ (s : SourceState). map it.ghosts.state c.args.feeds.now.items ++ s ∷ []) c.in-Ok.ensures
