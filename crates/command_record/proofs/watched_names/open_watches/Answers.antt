-- The watch files were given, or one of them wasn't.
use Rattle.std.proofs.Common.{◌≡◌, refl, sym, ap, subst, ◌∙◌, ◌∷◌, [], List, ℕ, Bool, length, map, take, rules}
use Rattle.std.specs.Prelude.{Vec}
use Rattle.std.proofs.lemmas.List.{length-map}
use Rattle.mcap_io.specs.OutsideCalls.{went_well}
use Rattle.mcap_io.specs.declared.outside.ObjectKind.TheVariants as kinds
use Rattle.mcap_model.specs.Places.{At}
use Rattle.mcap_model.proofs.Places.{at_kept}
use Rattle.mcap_model.proofs.Lists.{cut_at}
use Rattle.command_base.specs.Ran.{failed_so}
use Rattle.command_base.specs.InputsSteps.{source_keeping}
use Rattle.command_base.proofs.SomeInputs.{kept_states}
use Rattle.command_record.specs.SinkSteps.{SinksKept}
use Rattle.command_record.proofs.Runs.{refusal_of}
use Rattle.command_record.proofs.KeptSinks.{no_view}
use Rattle.command_record.proofs.Beside.{AllSeen, sink_refused, names_once, out_apart}
use Rattle.command_record.proofs.WatchedRuns.{sink_refused_so}
use Rattle.command_record.proofs.watched_names.open_watches.Goals as goal

pub returns-in-Ok-clause-recorded : goal.returns-in-Ok-clause-recorded
returns-in-Ok-clause-recorded g c = λ before opened. c.record_beside.ensures.recorded before (g.W.World.state c.args.world.now) opened c.in-Ok.ensures.all

pub returns-in-Err-clause-recorded : goal.returns-in-Err-clause-recorded
returns-in-Err-clause-recorded g c = λ before opened.
    let world_state = g.W.World.state in
    let sources = map g.W.Source.Source.state c.args.rooms.sources.items in
    let sinks = c.open_sinks.new.sinks.items in
    let states = map g.W.Sink.Sink.state sinks in
    let live = g.W.Live.LiveStore.state c.args.live in
    let out = c.args.out.now in
    let watches = c.args.watch_names.now in
    let w5 = world_state c.open_sinks.new.world in
    let w6 = world_state c.keep_sinks.new.world in
    let why = c.in-Err.why in
    let refuses = c.in-Err.ensures.some in
    let at_end : c.len.result ≡ length sinks = search rules in
    let many : c.len.result ≡ length states = at_end ∙ sym (length-map sinks g.W.Sink.Sink.state) in
    let kept : SinksKept w5 w6 (take (length states) watches) states c.keep_sinks.new.failed.items =
    subst (λ (n : ℕ). SinksKept w5 w6 (take n watches) states c.keep_sinks.new.failed.items) many c.keep_sinks.ensures.kept in
    let (cut, split) = cut_at watches (length states) refuses.name refuses.next in
    let front : (n : ℕ) (name : List ℕ) → At (take (length states) watches) n name → At watches n name =
    λ n name at. subst (λ (l : List (List ℕ)). At l n name) (sym split) (at_kept (take (length states) watches) (refuses.name ∷ cut) n name at) in
    let seen : AllSeen out c.args.feeds.now (take (length states) watches) = record {
      w0 = before;
      w2 = world_state c.args.world.now;
      w3 = refuses.between;
      w4 = w5;
      w5 = w5;
      w6 = w6;
      w7 = world_state c.keep_inputs.new.world;
      w8 = world_state c.keep_live-live_kept.new.self;
      ss = sources;
      ss_now = sources;
      live = live;
      live_now = live;
      ks = states;
      ks_now = states;
      behind = refusal_of kinds.Sink refuses.name why;
      views = [];
      flags = c.keep_inputs.new.failed.items;
      sink_flags = c.keep_sinks.new.failed.items;
      live_kept = c.keep_live-live_kept.result;
      opens = opened;
      opens_sinks = refuses.first;
      refuses = sink_refused refuses.name refuses.between w5 why refuses.refuses refuses.stands refuses.cause;
      lets_go = no_view w5;
      keeps_sinks = kept;
      keeps = kept_states g.W.Source.Source.state kinds.Source source_keeping w6 (world_state c.keep_inputs.new.world) c.args.feeds.now c.args.rooms.sources.items c.keep_inputs.new.failed.items c.keep_inputs.ensures.kept;
      keeps_out = c.keep_live-live_kept.ensures.keeps;
      inputs_now = c.keep_live-live_kept.ensures.input_faults;
      outputs_now = c.keep_live-live_kept.ensures.output_faults;
      watches_now = c.keep_live-live_kept.ensures.watch_faults;
      cause_out = c.keep_live-live_kept.ensures.cause;
      once = λ m n name first second. names_once out watches c.requires.apart m n name (front m name first) (front n name second);
      others = λ has. out_apart out watches c.requires.apart (has.0, front has.0 out has.1);
    } in
    sink_refused_so c.args.options.now c.args.range out watches c.args.feeds.now (take (length states) watches) (refuses.name ∷ cut) seen c.requires.apart split
    c.unwatched.result refuses.name cut why c.is_failed.result refl refl c.is_failed.ensures.failed c.is_failed.ensures.memory refl refl refl refl c.unwatched.ensures.report c.unwatched.ensures.watches
    (ap (λ (v : Vec Bool _). v.items) c.unwatched.ensures.failed.0)
    (c.unwatched.ensures.failed.1 ∙ c.has_failed-out_failed.ensures ∙ ap (failed_so (went_well c.keep_live-live_kept.result)) c.faults-live_faults.ensures)
    (ap (λ (v : Vec Bool _). v.items) c.unwatched.ensures.failed.2 ∙ c.add_refused.ensures)
