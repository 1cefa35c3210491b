-- One view more was let go.
use Rattle.std.proofs.Common.{◌≡◌, ◌∙◌, ◌++◌, ◌∷◌, [], rules, map, ap}
use Rattle.std.proofs.lemmas.List.{map-append}
use Rattle.command_record.proofs.KeptSinks.{views_none, views_more, views_all}
use Rattle.command_record.proofs.sinks.keep_views.Goals as goal

pub views-init : goal.views-init
views-init g c = record { gone = views_none (g.W.World.state c.args.world.now) (map g.W.Live.View.LiveView.failures c.args.views.items) }

pub views-preserved : goal.views-preserved
views-preserved g c =
    let failures = g.W.Live.View.LiveView.failures in
    let items : c.views.views.items ≡ c.pop.new.self.items ++ c.in-Some.view ∷ [] = search rules in
    let counts : map failures c.views.views.items ≡ map failures c.pop.new.self.items ++ failures c.in-Some.view ∷ [] = ap (map failures) items ∙ map-append failures c.pop.new.self.items (c.in-Some.view ∷ []) in
    record {
      gone = views_more (g.W.World.state c.args.world.now) (g.W.World.state c.views.world) (g.W.World.state c.keep_view.new.self) (map failures c.args.views.items) (map failures c.views.views.items) (map failures c.pop.new.self.items) (failures c.in-Some.view)
          c.views.invariant.gone counts c.keep_view.ensures;
    }

pub returns : goal.returns
returns g c =
    let failures = g.W.Live.View.LiveView.failures in
    let none : c.views.views.items ≡ [] = search rules in
    views_all (g.W.World.state c.args.world.now) (g.W.World.state c.views.world) (map failures c.args.views.items) (map failures c.views.views.items) c.views.invariant.gone (ap (map failures) none)
