-- The recording and the keepings come to what a recording with watchers does to the world.
use Rattle.std.proofs.Common.{◌≡◌, ℕ, List, refl, sym, ap, ◌∙◌, [], ◌∷◌, length, map, vec_len, rules, arith}
use Rattle.std.proofs.lemmas.List.{append-nil, length-map}
use Rattle.mcap_io.specs.OutsideCalls.{went_well}
use Rattle.mcap_io.specs.declared.outside.ObjectKind.TheVariants as kinds
use Rattle.command_base.specs.Ran.{failed_so}
use Rattle.command_base.specs.InputsSteps.{source_keeping}
use Rattle.command_record.specs.Watched.{with_ends}
use Rattle.command_base.proofs.SomeInputs.{zip_long, kept_states}
use Rattle.command_record.proofs.Beside.{AllSeen, nothing_refused, names_once, out_apart}
use Rattle.command_record.proofs.WatchedRuns.{watchers_long, no_total, all_watched}
use Rattle.command_record.proofs.watched_names.record_beside.Goals as goal

-- without names there are no sinks
none_long : {X : Type 0} (names : List (List ℕ)) (xs : List X) → names ≡ [] → length xs ≡ length names → xs ≡ []
none_long names [] none many = refl
none_long names (x ∷ xs) none many = absurd (let none_there = ap length none in omega (arith, many, none_there))

pub record_watched-report-requires-clause-plain : goal.record_watched-report-requires-clause-plain
record_watched-report-requires-clause-plain g c κs within = λ plain.
    let first : vec_len c.args.rooms.sinks ≡ length c.args.rooms.sinks.items = search rules in
    none_long c.args.watch_names.now c.args.rooms.sinks.items (c.requires.plain plain) (sym first ∙ c.requires.many_sinks)

pub keep_sinks-requires-clause-many : goal.keep_sinks-requires-clause-many
keep_sinks-requires-clause-many g c κs within =
    let state = g.W.Sink.Sink.state in
    let done = c.record_watched-report in
    let long : length (map state done.result.watchers.items) ≡ length (map state c.args.rooms.sinks.items) =
    watchers_long (map state c.args.rooms.sinks.items) (map state done.result.watchers.items) done.result.report (λ none. ap (map state) (done.ensures.refused none).2) (λ r here. let it = done.ensures.recorded r here in (it.watches, it.are.before_are, it.are.now_are)) in
    let first : vec_len c.args.rooms.sinks ≡ length c.args.rooms.sinks.items = search rules in
    let last : vec_len done.result.watchers ≡ length done.result.watchers.items = search rules in
    last ∙ sym (length-map done.result.watchers.items state) ∙ long ∙ length-map c.args.rooms.sinks.items state ∙ sym first ∙ c.requires.many_sinks

pub keep_sinks-requires-clause-room : goal.keep_sinks-requires-clause-room
keep_sinks-requires-clause-room g c κs within =
    let many = keep_sinks-requires-clause-many g c κs within in
    omega (arith, many, c.requires.sink_room)

pub keep_inputs-requires-clause-many : goal.keep_inputs-requires-clause-many
keep_inputs-requires-clause-many g c κs within =
    let long : length c.args.rooms.sources.items ≡ length c.record_watched-report.result.feeds.items = zip_long _ _ _ c.record_watched-report.ensures.stays in
    let first : vec_len c.args.rooms.sources ≡ length c.args.rooms.sources.items = search rules in
    let last : vec_len c.record_watched-report.result.feeds ≡ length c.record_watched-report.result.feeds.items = search rules in
    last ∙ sym long ∙ sym first ∙ c.requires.many

pub keep_inputs-requires-clause-room : goal.keep_inputs-requires-clause-room
keep_inputs-requires-clause-room g c κs within =
    let many = keep_inputs-requires-clause-many g c κs within in
    omega (arith, many, c.requires.room)

pub returns-clause-recorded : goal.returns-clause-recorded
returns-clause-recorded g c = λ before between opened sinks_opened.
    let source_state = g.W.Source.Source.state in
    let sink_state = g.W.Sink.Sink.state in
    let live_state = g.W.Live.LiveStore.state in
    let world_state = g.W.World.state in
    let failures = g.W.Live.View.LiveView.failures in
    let done = c.record_watched-report in
    let out = c.args.out.now in
    let feeds = c.args.feeds.now in
    let watches = c.args.watch_names.now in
    let seen : AllSeen out feeds watches = record {
      w0 = before;
      w2 = between;
      w3 = world_state c.args.world.now;
      w4 = world_state c.args.world.now;
      w5 = world_state c.keep_views.new.world;
      w6 = world_state c.keep_sinks.new.world;
      w7 = world_state c.keep_inputs.new.world;
      w8 = world_state c.keep_live-live_kept.new.self;
      ss = map source_state c.args.rooms.sources.items;
      ss_now = map source_state done.result.feeds.items;
      live = live_state c.args.live;
      live_now = live_state done.result.live;
      ks = map sink_state c.args.rooms.sinks.items;
      ks_now = map sink_state done.result.watchers.items;
      behind = [];
      views = map failures done.result.views.items;
      flags = c.keep_inputs.new.failed.items;
      sink_flags = c.keep_sinks.new.failed.items;
      live_kept = c.keep_live-live_kept.result;
      opens = opened;
      opens_sinks = sinks_opened;
      refuses = nothing_refused (world_state c.args.world.now);
      lets_go = c.keep_views.ensures;
      keeps_sinks = c.keep_sinks.ensures.kept;
      keeps = kept_states source_state kinds.Source source_keeping (world_state c.keep_sinks.new.world) (world_state c.keep_inputs.new.world) feeds done.result.feeds.items c.keep_inputs.new.failed.items c.keep_inputs.ensures.kept;
      keeps_out = c.keep_live-live_kept.ensures.keeps;
      inputs_now = c.keep_live-live_kept.ensures.input_faults;
      outputs_now = c.keep_live-live_kept.ensures.output_faults;
      watches_now = c.keep_live-live_kept.ensures.watch_faults;
      cause_out = c.keep_live-live_kept.ensures.cause;
      once = names_once out watches c.requires.apart;
      others = out_apart out watches c.requires.apart;
    } in
    all_watched c.args.options.now c.args.range out watches feeds watches [] seen c.requires.apart (sym (append-nil watches)) (λ e. g.W.Live.Extent.Extent.tells e)
    (record { report = done.result.report; sealed = done.result.sealed; watches = done.result.watches; feeds_failed = c.keep_inputs.new.failed; out_failed = c.has_failed.result; watches_failed = c.add_ends.new.failed }) refl refl refl
    (c.has_failed.ensures ∙ ap (failed_so (went_well c.keep_live-live_kept.result)) c.faults-live_faults.ensures)
    (c.add_ends.ensures ∙ ap (with_ends c.keep_sinks.new.failed.items) c.deref.ensures.value)
    (λ none. let same = done.ensures.refused none in (ap (map source_state) same.0, ap live_state same.1, ap (map sink_state) same.2, no_total failures done.result.views.items same.3, same.4))
    c.requires.plain done.ensures.recorded c.watch_files_are_told.ensures
