-- A sink that was given is one more.
use Rattle.std.proofs.Common.{rules, ◌≡◌, ◌+◌, ℕ, List, take, map, subst, sym, ap, ◌∙◌, ◌++◌, ◌∷◌, []}
use Rattle.std.proofs.lemmas.List.{take_more}
use Rattle.std.proofs.lemmas.List.{map-append}
use Rattle.command_record.specs.SinkSteps.{SinksOpened}
use Rattle.command_record.proofs.KeptSinks.{one_sink_opened}
use Rattle.command_record.proofs.sinks.open_sinks.Goals as goal

pub names-preserved : goal.names-preserved
names-preserved g c =
    let w0 = g.W.World.state c.args.world.now in
    let w2 = g.W.World.state c.sink.new.self in
    let state = g.W.Sink.Sink.state in
    let n = c.as_str.result.now in
    let names = c.args.names.now in
    let i = c.names.name-index in
    let more : take i names ++ n ∷ [] ≡ take (i + 1) names =
    ap (λ (x : List ℕ). take i names ++ x ∷ []) (c.as_str.ensures.same ∙ c.name-item.is) ∙ sym (take_more names i c.name-item.result c.names-test.true) in
    let states : map state c.names.sinks.items ++ state c.in-Ok.sink ∷ [] ≡ map state c.push_reserved.new.self.items =
    sym (map-append state c.names.sinks.items (c.in-Ok.sink ∷ [])) ∙ ap (map state) (sym c.push_reserved.ensures.items) in
    record {
      opened = subst (SinksOpened w0 w2 (take (c.names.name-index + 1) c.args.names.now)) states (subst (λ (l : List (List ℕ)). SinksOpened w0 w2 l (map state c.names.sinks.items ++ state c.in-Ok.sink ∷ [])) more
          (one_sink_opened w0 (g.W.World.state c.names.world) w2 (take c.names.name-index c.args.names.now) (map state c.names.sinks.items) n (state c.in-Ok.sink) c.names.invariant.opened c.in-Ok.ensures.opens c.in-Ok.ensures.counts c.in-Ok.ensures.cause c.in-Ok.ensures.tells c.in-Ok.ensures.unused));
      count = search rules;
      room = search rules;
    }
