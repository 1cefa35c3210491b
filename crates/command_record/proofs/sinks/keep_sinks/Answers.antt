-- One sink more was kept.
use Rattle.std.proofs.Common.{◌≡◌, ◌∙◌, ◌++◌, ◌∷◌, ◌<◌, [], rules, map, length, get_or, sym, ap, subst, ℕ, List, ◌+◌, vec_len, length-append, arith}
use Rattle.std.proofs.lemmas.List.{length-map, map-append}
use Rattle.command_record.specs.SinkSteps.{OneSinkKept}
use Rattle.command_record.proofs.KeptSinks.{SinksSoFar, sinks_none, sinks_more}
use Rattle.command_record.proofs.sinks.keep_sinks.Goals as goal

pub sinks-init : goal.sinks-init
sinks-init g c =
    let state = g.W.Sink.Sink.state in
    record {
      kept = sinks_none (g.W.World.state c.args.world.now) c.args.names.now (map state c.args.sinks.items) c.args.failed.now.items (length-map c.args.sinks.items state ∙ search rules) c.requires.none;
      count = search rules;
      room = search rules;
    }

pub sinks-preserved : goal.sinks-preserved
sinks-preserved g c =
    let state = g.W.Sink.Sink.state in
    let left = c.sinks.sinks.items in
    let items : left ≡ c.pop.new.self.items ++ c.in-Some.sink ∷ [] = search rules in
    let states : map state left ≡ map state c.pop.new.self.items ++ state c.in-Some.sink ∷ [] = ap (map state) items ∙ map-append state c.pop.new.self.items (c.in-Some.sink ∷ []) in
    let long : length left ≡ length c.pop.new.self.items + 1 = ap length items ∙ length-append c.pop.new.self.items (c.in-Some.sink ∷ []) in
    let same : length (map state c.pop.new.self.items) ≡ length c.pop.new.self.items = length-map c.pop.new.self.items state in
    let count : length left + vec_len c.sinks.failed ≡ length c.args.names.now = search rules in
    let within : length (map state c.pop.new.self.items) < length c.args.names.now = omega (arith, long, same, count) in
    let at_end : c.len.result ≡ length c.pop.new.self.items = search rules in
    let index : c.len.result ≡ length (map state c.pop.new.self.items) = at_end ∙ sym same in
    let name : c.as_str.result.now ≡ get_or c.args.names.now (length (map state c.pop.new.self.items)) c.index-names-len.result =
    c.as_str.ensures.same ∙ c.index-names-len.is ∙ ap (λ (n : ℕ). get_or c.args.names.now n c.index-names-len.result) index in
    let kept : OneSinkKept (g.W.World.state c.sinks.world) (g.W.World.state c.keep_sink-sink_failed.new.world) (get_or c.args.names.now (length (map state c.pop.new.self.items)) c.index-names-len.result) (state c.in-Some.sink) c.keep_sink-sink_failed.result =
    subst (λ (f : List ℕ). OneSinkKept (g.W.World.state c.sinks.world) (g.W.World.state c.keep_sink-sink_failed.new.world) f (state c.in-Some.sink) c.keep_sink-sink_failed.result) name c.keep_sink-sink_failed.ensures in
    record {
      kept = subst (λ l. SinksSoFar (g.W.World.state c.args.world.now) (g.W.World.state c.keep_sink-sink_failed.new.world) c.args.names.now (map state c.args.sinks.items) (map state c.pop.new.self.items) l) (sym c.push_reserved.ensures.items)
          (sinks_more (g.W.World.state c.args.world.now) (g.W.World.state c.sinks.world) (g.W.World.state c.keep_sink-sink_failed.new.world) c.args.names.now (map state c.args.sinks.items) (map state left) (map state c.pop.new.self.items) (state c.in-Some.sink) c.sinks.failed.items c.keep_sink-sink_failed.result c.index-names-len.result
          c.sinks.invariant.kept states within kept);
      count = search rules;
      room = search rules;
    }
