-- What the openings, the recording and the keepings of all names come to, where watchers write.
use Rattle.std.proofs.Common.{◌≡◌, ◌⊎◌, ℕ, zero, suc, ◌+◌, ◌^◌, ◌<◌, ◌≤◌, Bool, true, false, List, [], ◌∷◌, ◌++◌, length, map, take, append_assoc, length-append, Option, Some, None, Result, Ok, Err, refl, sym, ap, subst, inl, inr, ◌∙◌, arith}
use Rattle.std.specs.List.{AllZip, list_any, sum}
use Rattle.std.proofs.lemmas.Bool.{both_ways, false≢true}
use Rattle.std.proofs.lemmas.List.{append-nil, map-append, length-map}
use Rattle.std.proofs.lemmas.Option.{same_Some}
use Rattle.mcap_io.specs.Outside.{Opening, Told, SourceState, SinkState, LiveState, WorldState, TellsName}
use Rattle.mcap_io.specs.OutsideCalls.{went_well}
use Rattle.mcap_io.specs.declared.outside.ObjectKind.{ObjectKind}
use Rattle.mcap_io.specs.declared.outside.ObjectKind.TheVariants as kinds
use Rattle.mcap_io.specs.declared.outside.OutsideRefused.{OutsideRefused}
use Rattle.mcap_io.specs.declared.outside.OutsideRefused.TheVariants as outside_refusals
use Rattle.mcap_model.specs.declared.ends.End.{End}
use Rattle.mcap_model.specs.declared.ends.Stop.{Stop}
use Rattle.mcap_model.specs.declared.ends.Stop.TheVariants as stops
use Rattle.mcap_model.specs.declared.replay.Range.{Range}
use Rattle.mcap_model.specs.Places.{At, Has, Each}
use Rattle.mcap_model.proofs.Places.{at_none, at_within, at_kept, at_last}
use Rattle.mcap_model.proofs.Lists.{at_either, at_second, take_second, each_cons}
use Rattle.live_directory.specs.declared.front.Added.{Added}
use Rattle.live_directory.specs.Published.{entries_of, end_of}
use Rattle.chunk_writer.specs.Stops.{Cause}
use Rattle.mcap_model.specs.declared.options.RecordOptions.{RecordOptions}
use Rattle.recorder.specs.declared.report.Report.{Report}
use Rattle.recorder.specs.Recorded.{Sides, sides, Recorded, AreFeeds, AreReadable}
use Rattle.live_watcher.specs.declared.report.WatchReport.{WatchReport}
use Rattle.live_watcher.specs.declared.report.WatchEnd.{WatchEnd}
use Rattle.live_watcher.specs.declared.report.WatchEnd.TheVariants as watch_ends
use Rattle.live_recording.specs.Watched.{Watch}
use Rattle.live_recording.specs.WatchedSteps.{RecordedWatched, WatchFilesAreTold}
use Rattle.live_recording.specs.Files.{IsWatchedFile}
use Rattle.command_words.specs.Commands.{NamesDiffer}
use Rattle.command_base.specs.Ran.{Wanted, wanted, has_failed, failed_so, failed_names, named_when, object_faults, output_faults, world_faults, AreOpened, IsGivenLive}
use Rattle.command_base.proofs.Counting.{not_risen}
use Rattle.command_base.specs.Outputs.{inputs_and_output, some_failed, LeftUnderName}
use Rattle.command_record.specs.declared.watched_names.WatchedOutcome.{WatchedOutcome}
use Rattle.command_record.specs.Record.{FeedKept, feed_entry, feed_names_kept, back_sources}
use Rattle.command_base.specs.InputsSteps.{flags_with}
use Rattle.command_record.specs.Sinks.{SinkKept, sink_entry, sink_names, back_sinks, sink_faults, watch_faults}
use Rattle.command_record.specs.Watched.{requested, reported_with, wanted_names, IsWrittenBeside, EndsSo, view_faults, is_flaw, with_ends, watch_flags, ReportedBeside, UnreportedBeside}
use Rattle.command_record.specs.WatchedSteps.{NamesWatched}
use Rattle.command_record.proofs.Sources.{feeds_tell, feeds_unused}
use Rattle.command_record.proofs.Held.{Holds, holds, placed_holds, placed_nothing}
use Rattle.command_record.proofs.Flags.{some_more, AreKind, rest_kind}
use Rattle.command_record.proofs.Runs.{NamesUnrecorded, world_faults-append, input_faults-append, output_faults-append, sources_write_nothing, unused_count_nothing, each_both, each_none, each_alone, are_sources, left_all, opened_all, none_some, map_kept, names_same, or_nothing, has_there, refusal_of}
use Rattle.command_record.proofs.Beside.{watch_faults-append, sinks_read_nothing, sinks_write_nothing, feeds_watch_nothing, unused_sinks_count, are_sinks, opened_sinks, names_once, out_apart, AllSeen, seen_feeds, seen_sinks, store, sinks_behind, seen_entries, told_since, names_since, nothing_yet, sinks_yet, world_since, inputs_since, outputs_since, watches_since}
use Rattle.live_watcher.proofs.Steps.{untold_lift}
use Rattle.command_record.proofs.WatchEnds.{ended_so, ends_nothing, ends_why, ends_first, ends_second, some_has_sink, sinks_have, sinks_total, sinks_watched, fault_shows, faults_show, views_told, views_hold, asked_for, ended, unflawed}

-- ---- no watch file was reached

-- a live store of the openings of a recording has the output's name
live_named : (out : List ℕ) (feeds : List (List ℕ)) (entries : List Opening) → AreOpened (wanted (inputs_and_output kinds.Source feeds out)) entries → (n : ℕ) (e : Opening) → At entries n e → e.kind ≡ kinds.Live → e.name ≡ out
live_named out feeds [] opens n e at kind = absurd (at_none n e at)
live_named out [] (x ∷ xs) (inl (is, none)) zero e at kind = ap (λ (o : Opening). o.name) (sym (same_Some x e at) ∙ is)
live_named out [] (x ∷ xs) (inl (is, none)) (suc n) e at kind = absurd (at_none n e (subst (λ (l : List Opening). At l n e) none at))
live_named out [] (x ∷ xs) (inr (keeping, is, none)) zero e at kind = ap (λ (o : Opening). o.name) (sym (same_Some x e at) ∙ is)
live_named out [] (x ∷ xs) (inr (keeping, is, none)) (suc n) e at kind = absurd (at_none n e (subst (λ (l : List Opening). At l n e) none at))
live_named out (f ∷ fs) (x ∷ xs) (inl (is, none)) zero e at kind = absurd (let other : kinds.Live ≡ kinds.Source = sym kind ∙ ap (λ (o : Opening). o.kind) (sym (same_Some x e at) ∙ is) in cc)
live_named out (f ∷ fs) (x ∷ xs) (inl (is, none)) (suc n) e at kind = absurd (at_none n e (subst (λ (l : List Opening). At l n e) none at))
live_named out (f ∷ fs) (x ∷ xs) (inr (keeping, is, rest)) zero e at kind = absurd (let other : kinds.Live ≡ kinds.Source = sym kind ∙ ap (λ (o : Opening). o.kind) (sym (same_Some x e at) ∙ is) in cc)
live_named out (f ∷ fs) (x ∷ xs) (inr (keeping, is, rest)) (suc n) e at kind = live_named out fs xs rest n e at kind

none_opened : (A : Type 0) (x : Opening) (xs : List Opening) → x ∷ xs ≡ [] → A
none_opened A x xs is = absurd cc

opened_more : (ws more : List Wanted) (entries : List Opening) → AreOpened ws entries → AreOpened (ws ++ more) entries
opened_more [] [] entries opens = opens
opened_more [] (w ∷ more) [] opens = tt
opened_more [] (w ∷ more) (x ∷ xs) opens = none_opened _ x xs opens
opened_more (w ∷ ws) more [] opens = tt
opened_more (w ∷ ws) more (x ∷ xs) (inl is) = inl is
opened_more (w ∷ ws) more (x ∷ xs) (inr (keeping, is, rest)) = inr (keeping, is, opened_more ws more xs rest)

watch_nothing : (kind : ObjectKind) (xs : List Opening) → ((n : ℕ) → sink_faults kind n ≡ 0) → AreKind kind xs → watch_faults xs ≡ 0
watch_nothing kind [] none are = refl
watch_nothing kind (x ∷ xs) none are =
    let more = watch_nothing kind xs none (rest_kind kind x xs are) in
    let first : sink_faults x.kind (object_faults x.kept) ≡ 0 = ap (λ (k : ObjectKind). sink_faults k (object_faults x.kept)) (are 0 x refl) ∙ none (object_faults x.kept) in
    omega (arith, more, first)

-- where the output or a feed wasn't given, no watch file was reached
pub unreached : (options : RecordOptions) (range : Range) (out : List ℕ) (watches feeds : List (List ℕ)) (w0 w3 : WorldState) (outcome : WatchedOutcome) → NamesDiffer out watches → NamesUnrecorded out feeds w0 w3 outcome
    → w3.watch_faults ≡ w0.watch_faults → w0.watch_faults < 2 ^ 64 → outcome.watches.items ≡ [] → outcome.watches_failed.items ≡ [] → NamesWatched (requested options range out watches feeds) w0 w3 outcome
unreached options range out watches feeds w0 w3 outcome apart made still fits no_reports no_flags =
    let first = watch_nothing kinds.Source made.inputs (λ n. refl) made.sources in
    let second = watch_nothing kinds.Live made.outputs (λ n. refl) made.stores in
    let no_faults : watch_faults made.entries ≡ 0 = omega (arith, ap watch_faults made.parts, watch_faults-append made.inputs made.outputs, first, second) in
    let not_written : (name : List ℕ) → Has watches name → IsGivenLive made.entries name → ⊥ = λ name has is.
    out_apart out watches apart (subst (Has watches) (sym is.named ∙ live_named out feeds made.entries made.opened is.there.0 is.entry is.there.1 is.live) has) in
    record {
      entries = made.entries;
      opened = opened_more (wanted (inputs_and_output kinds.Source feeds out)) (map (λ (name : List ℕ). (kinds.Sink, name)) watches) made.entries made.opened;
      leaves = λ told here. let l = made.leaves told here in (l.0, l.1, l.2, λ name unwritten. l.3 name (λ is. unwritten (record { entry = is.entry; there = is.there; written = inl is.live; given = is.given; named = is.named })));
      failures = 0;
      counts = record { kept = made.counts; watches = omega (arith, still, fits, no_faults) };
      reported = λ r here. absurd (none_some r (sym made.none ∙ here));
      unreported = λ is. record {
        same = made.unreported;
        sinks = no_faults;
        views = refl;
        watch_files = λ told now here here_now n name at.
            let l = made.leaves told here in
            inl (ap (λ (t : Told). t.names name) (same_Some now l.0 (sym here_now ∙ l.1)) ∙ l.3 name (not_written name (n, at)));
      };
      none = λ is. no_reports;
      spares = made.spares;
      inputs = made.inputs;
      outputs = made.outputs;
      sinks = [];
      few = made.few;
      few_sinks = omega arith;
      parts = made.parts ∙ ap (λ (l : List Opening). made.inputs ++ l) (sym (append-nil made.outputs));
      sources = made.sources;
      stores = made.stores;
      writers = each_none (λ (entry : Opening). entry.kind ≡ kinds.Sink);
      sinks_named = refl;
      feeds_failed = made.feeds_failed;
      out_failed = made.out_failed;
      watches_failed = no_flags;
      failed = ap failed_names (sym made.parts) ∙ made.failed;
      watch_cause = λ is. absurd (both_ways false refl (ap some_failed (sym no_flags) ∙ is));
      watch_told = λ on rose. not_risen _ w0.watch_faults w3.watch_faults on still rose;
    }

-- ---- lists

not_left : (told : Told) (xs : List Opening) → Each (λ (e : Opening). e.kind ≡ kinds.Source → ⊥) xs → Each (LeftUnderName told) xs
not_left told xs other n e at feed keeping is = absurd (other n e at (ap (λ (o : Opening). o.kind) is))

sinks_other : (xs : List Opening) → AreKind kinds.Sink xs → Each (λ (e : Opening). e.kind ≡ kinds.Source → ⊥) xs
sinks_other xs are n e at is = let other : kinds.Sink ≡ kinds.Source = sym (are n e at) ∙ is in absurd cc

abbrev some_state : SinkState → Option SinkState
some_state s = Some s

back_at : (ks : List SinkKept) (n : ℕ) (k : SinkKept) → At ks n k → At (back_sinks ks) n k.back
back_at [] n k at = absurd (at_none n k at)
back_at (x ∷ ks) zero k at = ap (λ (y : SinkKept). some_state y.back) (same_Some x k at)
back_at (x ∷ ks) (suc n) k at = back_at ks n k at

-- a sink that was kept has the name
kept_named : (ks : List SinkKept) (n : ℕ) (name : List ℕ) → At (sink_names ks) n name → (k : SinkKept) × At ks n k × (k.name ≡ name)
kept_named [] n name at = absurd (at_none n name at)
kept_named (x ∷ ks) zero name at = (x, refl, same_Some x.name name at)
kept_named (x ∷ ks) (suc n) name at = kept_named ks n name at

entry_at : (ks : List SinkKept) (n : ℕ) (k : SinkKept) → At ks n k → At (map sink_entry ks) n (sink_entry k)
entry_at [] n k at = absurd (at_none n k at)
entry_at (x ∷ ks) zero k at = ap (λ (y : SinkKept). some_entry (sink_entry y)) (same_Some x k at)
  where
    some_entry : Opening → Option Opening
    some_entry e = Some e
entry_at (x ∷ ks) (suc n) k at = entry_at ks n k at

each_of : {X Y : Type 0} (f : X → Y) (P : Y → Type 0) (xs : List X) → Each P (map f xs) → Each (λ (x : X). P (f x)) xs
each_of f P [] each n x at = absurd (at_none n x at)
each_of f P (y ∷ xs) each zero x at = subst (λ z. P (f z)) (same_Some y x at) (each 0 (f y) refl)
each_of f P (y ∷ xs) each (suc n) x at = each_of f P xs (λ k z there. each (suc k) z there) n x at

entry_names : (ks : List SinkKept) → map (λ (entry : Opening). entry.name) (map sink_entry ks) ≡ sink_names ks
entry_names [] = refl
entry_names (k ∷ ks) = ap (λ (l : List (List ℕ)). k.name ∷ l) (entry_names ks)

map_sinks : (ks : List SinkKept) → map has_failed (map sink_entry ks) ≡ map (λ (k : SinkKept). has_failed (sink_entry k)) ks
map_sinks [] = refl
map_sinks (k ∷ ks) = ap (λ (l : List Bool). has_failed (sink_entry k) ∷ l) (map_sinks ks)

-- ---- a watch file that was refused

refused_opens : (why : OutsideRefused) (name : List ℕ) (cut : List (List ℕ)) → AreOpened (map (λ (n : List ℕ). (kinds.Sink, n)) (name ∷ cut)) (refusal_of kinds.Sink name why)
refused_opens outside_refusals.Failed name cut = inl (refl, refl)
refused_opens outside_refusals.Memory name cut = tt

refused_few : (why : OutsideRefused) (name : List ℕ) → length (refusal_of kinds.Sink name why) ≤ 1
refused_few outside_refusals.Failed name = omega arith
refused_few outside_refusals.Memory name = omega arith

refused_names : (why : OutsideRefused) (name : List ℕ) (cut : List (List ℕ)) → map (λ (entry : Opening). entry.name) (refusal_of kinds.Sink name why) ≡ take (length (refusal_of kinds.Sink name why)) (name ∷ cut)
refused_names outside_refusals.Failed name cut = refl
refused_names outside_refusals.Memory name cut = refl

refused_flags : (flags : List Bool) (why : OutsideRefused) (failed : Bool) (name : List ℕ) → (failed ≡ true → why ≡ outside_refusals.Failed) → (failed ≡ false → why ≡ outside_refusals.Memory) → flags_with flags failed ≡ flags ++ map has_failed (refusal_of kinds.Sink name why)
refused_flags flags outside_refusals.Failed true name a b = refl
refused_flags flags outside_refusals.Failed false name a b = absurd (let e = b refl in cc)
refused_flags flags outside_refusals.Memory true name a b = absurd (let e = a refl in cc)
refused_flags flags outside_refusals.Memory false name a b = sym (append-nil flags)

-- ---- what was recorded

abbrev moved : (options : RecordOptions) (before : Sides) (l m : List SourceState) (live : LiveState) (r : Report) → l ≡ m → Recorded options before (sides l live) r → Recorded options before (sides m live) r
moved options before l m live r same it = record {
  history = it.history;
  feeds = it.feeds;
  are = subst (λ (x : List SourceState). AreFeeds it.feeds before.sources x r.feeds.items) same it.are;
  assembled = it.assembled;
  unfull = it.unfull;
  kept = it.kept;
  writer = it.writer;
}

cause_later : {X : Type 0} (before now : ℕ) (result : Result X Stop) → Cause before now result → before ≤ now
cause_later before now (Ok it) cause = omega (arith, cause)
cause_later before now (Err (stops.Fault faults)) cause = cause.0.later
cause_later before now (Err (stops.Limit blocks bytes)) cause = omega (arith, cause)
cause_later before now (Err stops.Memory) cause = omega (arith, cause)

-- without watchers none is told as unsealed
sealed_for_none : {A : Type 0} (s : Bool) (ks : List SinkState) → (s ≡ false → (ks ≡ [] → ⊥) × A) → ks ≡ [] → s ≡ true
sealed_for_none true ks unsealed none = refl
sealed_for_none false ks unsealed none = absurd ((unsealed refl).0 none)

-- where there are watchers the directory was sealed with an end
sealed_end : {X : Type 0} (note : List (Added X)) (end : End) (ks : List SinkState) → (ks ≡ []) ⊎ (end_of note ≡ Some end) → (ks ≡ [] → ⊥) → (e : End) × (end_of note ≡ Some e)
sealed_end note end ks (inl none) some = absurd (some none)
sealed_end note end ks (inr is) some = (end, is)

none_named : (watches names more : List (List ℕ)) → watches ≡ names ++ more → watches ≡ [] → names ≡ []
none_named watches [] more split none = refl
none_named watches (name ∷ names) more split none = absurd (let same : name ∷ names ++ more ≡ [] = sym split ∙ none in cc)

none_given : (names : List (List ℕ)) (ks : List SinkState) → names ≡ [] → length ks ≡ length names → ks ≡ []
none_given names [] none many = refl
none_given names (k ∷ ks) none many = absurd (let long = ap length none in omega (arith, many, long))

before_some : (ws : List Watch) (n : ℕ) (w : Watch) → At ws n w → map (λ (x : Watch). x.before) ws ≡ [] → ⊥
before_some [] n w at is = at_none n w at
before_some (x ∷ ws) n w at is = cc

sealed_so : (live viewed : LiveState) (sealed : Bool) (w : Watch) (e : WatchEnd) → EndsSo live viewed sealed w e → sealed ≡ true → e ≡ watch_ends.Unsealed → ⊥
sealed_so live viewed sealed w e ends is un = both_ways sealed (subst (EndsSo live viewed sealed w) un ends).1 is

-- as many sinks came back as were handed in
pub watchers_long : (before now : List SinkState) (report : Option Report) → (report ≡ None → now ≡ before)
    → ((r : Report) → report ≡ Some r → (ws : List Watch) × (before ≡ map (λ (w : Watch). w.before) ws) × (now ≡ map (λ (w : Watch). w.now) ws)) → length now ≡ length before
watchers_long before now None same made = ap length (same refl)
watchers_long before now (Some r) same made =
    let (ws, first, last) = made r refl in
    ap length last ∙ length-map ws (λ (w : Watch). w.now) ∙ sym (length-map ws (λ (w : Watch). w.before)) ∙ sym (ap length first)

-- no views have no faults
pub no_total : {V : Type 0} (failures : V → ℕ) (views : List V) → views ≡ [] → sum (map failures views) ≡ 0
no_total failures [] is = refl
no_total failures (v ∷ views) is = absurd cc

-- ---- the output and watch files were reached

module _ (options : RecordOptions) (range : Range) (out : List ℕ) (watches feeds names more : List (List ℕ)) (b : AllSeen out feeds names) (apart : NamesDiffer out watches) (split : watches ≡ names ++ more) where
  abbrev fs : List FeedKept
  fs = seen_feeds out feeds names b

  abbrev sinks : List SinkKept
  sinks = seen_sinks out feeds names b

  abbrev file : Opening
  file = store out feeds names b

  abbrev behind : List Opening
  behind = sinks_behind out feeds names b

  abbrev all : List Opening
  all = seen_entries out feeds names b

  writers_are : AreKind kinds.Sink behind
  writers_are = each_both (λ (entry : Opening). entry.kind ≡ kinds.Sink) (map sink_entry sinks) b.behind (are_sinks sinks) b.refuses.writers

  file_there : Has all file
  file_there = (length (map feed_entry fs), at_last (map feed_entry fs) file behind)

  sink_there : (name : List ℕ) → Has names name → IsWrittenBeside all name
  sink_there name (n, at) =
      let (k, there, is) = kept_named sinks n name (subst (λ (l : List (List ℕ)). At l n name) b.keeps_sinks.names_are at) in
      record {
        entry = sink_entry k;
        there = (length (map feed_entry fs) + suc n, at_second (map feed_entry fs) (file ∷ behind) (suc n) (sink_entry k) (at_kept (map sink_entry sinks) b.behind n (sink_entry k) (entry_at sinks n k there)));
        written = inr refl;
        given = refl;
        named = is;
      }

  abbrev Why : WatchedOutcome → Type 0
  Why outcome = some_failed outcome.watches_failed.items ≡ true → (1 ≤ world_faults behind) ⊎ ((1 ≤ b.live_now.faults) ⊎ (1 ≤ watch_faults behind + sum b.views))

  abbrev Tells : WatchedOutcome → Type 0
  Tells outcome = 1 ≤ watch_faults behind + sum b.views → some_failed outcome.watches_failed.items ≡ true

  seen_watched : (outcome : WatchedOutcome) → outcome.feeds_failed.items ≡ b.flags → outcome.out_failed ≡ failed_so (went_well b.live_kept) b.live_now.faults → outcome.watches_failed.items ≡ watch_flags behind outcome.watches.items
      → AreOpened (map (λ (name : List ℕ). (kinds.Sink, name)) watches) behind → length behind ≤ length watches → map (λ (entry : Opening). entry.name) behind ≡ take (length behind) watches
      → ((r : Report) → outcome.report ≡ Some r → ReportedBeside (requested options range out watches feeds) b.w0 b.w8 all (sum b.views) (reported_with r outcome.sealed outcome.watches.items))
      → (outcome.report ≡ None → UnreportedBeside out watches b.w0 b.w8 all (sum b.views)) → (outcome.report ≡ None → outcome.watches.items ≡ []) → Why outcome → Tells outcome
      → NamesWatched (requested options range out watches feeds) b.w0 b.w8 outcome
  seen_watched outcome flags_are out_is watch_flags_are opens few named reported unreported none why tells =
      let sink_list : List Wanted = map (λ (name : List ℕ). (kinds.Sink, name)) watches in
      let feed_list : List Wanted = map (λ (name : List ℕ). (kinds.Source, name)) (feed_names_kept fs) in
      let all_are : feed_list ++ (kinds.Live, out) ∷ sink_list ≡ wanted_names out watches feeds =
      sym (append_assoc feed_list ((kinds.Live, out) ∷ []) sink_list) ∙ ap (λ (l : List (List ℕ)). wanted_names out watches l) (sym b.keeps.names_are) in
      let world : world_faults all ≡ world_faults (map feed_entry fs) + world_faults (file ∷ behind) = world_faults-append (map feed_entry fs) (file ∷ behind) in
      let outputs : output_faults all ≡ output_faults (map feed_entry fs) + output_faults (file ∷ behind) = output_faults-append (map feed_entry fs) (file ∷ behind) in
      let faults : watch_faults all ≡ watch_faults (map feed_entry fs) + watch_faults (file ∷ behind) = watch_faults-append (map feed_entry fs) (file ∷ behind) in
      let no_faults = feeds_watch_nothing fs in
      record {
        entries = all;
        opened = subst (λ (l : List Wanted). AreOpened l all) all_are (opened_all fs ((kinds.Live, out) ∷ sink_list) (file ∷ behind) (inr (record { well = went_well b.live_kept; faults = b.live_now.faults; left = None; asked = 0 }, refl, opens)));
        leaves = λ told here.
            let t = told_since out feeds names b told here in (
              t.0,
              t.1,
              t.2,
              λ name unwritten. t.3.same name (λ is. unwritten (record { entry = file; there = file_there; written = inl refl; given = refl; named = sym is })) (λ has. unwritten (sink_there name has)),
            );
        failures = sum b.views;
        counts = record { kept = record { world = world_since out feeds names b; inputs = inputs_since out feeds names b; outputs = outputs_since out feeds names b }; watches = watches_since out feeds names b };
        reported = reported;
        unreported = unreported;
        none = none;
        spares = λ told now here here_now feed has missing. has_there b.w0 told feeds b.ss has.0 feed (now.names out ≡ told.names out) here (feeds_tell b.w0 b.opens.between feeds b.ss b.opens.feeds_opened) has.1 missing;
        inputs = map feed_entry fs;
        outputs = file ∷ [];
        sinks = behind;
        few = omega (arith, length-map fs feed_entry, length-map fs (λ (k : FeedKept). k.name), ap length b.keeps.names_are);
        few_sinks = few;
        parts = refl;
        sources = are_sources fs;
        stores = each_alone (λ (entry : Opening). entry.kind ≡ kinds.Live) file refl;
        writers = writers_are;
        sinks_named = named;
        feeds_failed = flags_are ∙ b.keeps.failed_are ∙ sym (map_kept fs);
        out_failed = out_is ∙ or_nothing (failed_so (went_well b.live_kept) b.live_now.faults);
        watches_failed = watch_flags_are;
        failed = names_same out feeds [] fs (file ∷ []) [] outcome.out_failed outcome.feeds_failed.items (b.keeps.names_are ∙ sym (append-nil (feed_names_kept fs))) (flags_are ∙ b.keeps.failed_are ∙ sym (map_kept fs) ∙ sym (append-nil (map has_failed (map feed_entry fs))))
            (ap (λ (x : Bool). named_when x out ++ []) (sym out_is));
        watch_cause = λ is. elim (why is) [
          | inl some ↦ inl (omega (arith, world_since out feeds names b, world, some, b.opens.fits.world))
          | inr (inl some) ↦ inr (inl (omega (arith, outputs_since out feeds names b, outputs, some, b.opens.fits.outputs)))
          | inr (inr some) ↦ inr (inr (omega (arith, watches_since out feeds names b, faults, some, b.opens.fits.watches)))
        ];
        watch_told = λ on rose. tells (omega (arith, on, rose, watches_since out feeds names b, faults, no_faults));
      }

  -- ---- nothing was recorded

  seen_unreported : b.ss_now ≡ b.ss → b.live_now ≡ b.live → b.ks_now ≡ b.ks → sum b.views ≡ 0 → UnreportedBeside out watches b.w0 b.w8 all (sum b.views)
  seen_unreported sources lives sinks_same no_views =
      let back_are : b.ss ≡ back_sources fs = sym sources ∙ b.keeps.backs_are in
      let back_sinks_are : b.ks ≡ back_sinks sinks = sym sinks_same ∙ b.keeps_sinks.sinks_are in
      let no_inputs = unused_count_nothing fs (subst (Each (λ (s : SourceState). s.faults ≡ 0)) back_are (feeds_unused b.w0 b.opens.between feeds b.ss b.opens.feeds_opened)) in
      let no_faults = unused_sinks_count sinks (subst (Each (λ (s : SinkState). s.faults ≡ 0)) back_sinks_are b.opens_sinks.unused) in
      record {
        same = record {
          inputs = omega (arith, input_faults-append (map feed_entry fs) (file ∷ behind), input_faults-append (map sink_entry sinks) b.behind, no_inputs, sinks_read_nothing sinks, b.refuses.inputs);
          outputs = omega (arith, output_faults-append (map feed_entry fs) (file ∷ behind), output_faults-append (map sink_entry sinks) b.behind, sources_write_nothing fs, sinks_write_nothing sinks, b.refuses.outputs, ap (λ (l : LiveState). l.faults) lives, b.opens.unused);
          left = λ told here. each_both (LeftUnderName told) (map feed_entry fs) (file ∷ behind) (left_all b.w0 told fs here (subst (λ (l : List SourceState). AllZip (TellsName b.w0) (feed_names_kept fs) l) back_are (subst (λ (l : List (List ℕ)). AllZip (TellsName b.w0) l b.ss) b.keeps.names_are (feeds_tell b.w0 b.opens.between feeds b.ss b.opens.feeds_opened))))
              (not_left told (file ∷ behind) (each_cons (λ (e : Opening). e.kind ≡ kinds.Source → ⊥) file behind (λ kind. absurd (let other : kinds.Live ≡ kinds.Source = kind in cc)) (sinks_other behind writers_are)));
          file = λ told now here here_now. placed_nothing told.names now.names out b.live_kept ((names_since out feeds names b told now here here_now).output [] (ap (λ (l : LiveState). l.held) lives ∙ nothing_yet out feeds names b told here));
        };
        sinks = omega (arith, watch_faults-append (map feed_entry fs) (file ∷ behind), watch_faults-append (map sink_entry sinks) b.behind, feeds_watch_nothing fs, no_faults, b.refuses.watches);
        views = no_views;
        watch_files = λ told now here here_now n name at.
            let held = names_since out feeds names b told now here here_now in
            elim (at_either names more n name (subst (λ (l : List (List ℕ)). At l n name) split at)) [
              | inl first ↦
                  let (k, there, is) = kept_named sinks n name (subst (λ (l : List (List ℕ)). At l n name) b.keeps_sinks.names_are first) in
                  let took : k.back.took ≡ Some [] = subst (Each (λ (s : SinkState). s.took ≡ Some [])) back_sinks_are (sinks_yet out feeds names b told here) n k.back (back_at sinks n k there) in
                  subst (λ (x : List ℕ). (now.names x ≡ told.names x) ⊎ (now.names x ≡ Some [])) is (elim (held.watch_files n k there [] took) [
                    | inl holds_nothing ↦ inr holds_nothing
                    | inr (ill, as_before) ↦ inl as_before
                  ])
              | inr (k, place, second) ↦ inl (held.same name (λ is. out_apart out watches apart (subst (Has watches) is (n, at)))
                  (λ has. let twice = names_once out watches apart n has.0 name at (subst (λ (l : List (List ℕ)). At l has.0 name) (sym split) (at_kept names more has.0 name has.1)) in absurd (omega (arith, place, twice, at_within names has.0 name has.1))))
            ];
      }

  -- ---- how the watch files' entries follow the names

  watches_split : watches ≡ sink_names sinks ++ more
  watches_split = split ∙ ap (λ (l : List (List ℕ)). l ++ more) b.keeps_sinks.names_are

  opens_behind : AreOpened (map (λ (name : List ℕ). (kinds.Sink, name)) more) b.behind → AreOpened (map (λ (name : List ℕ). (kinds.Sink, name)) watches) behind
  opens_behind opens =
      let lists : map (λ (name : List ℕ). (kinds.Sink, name)) (sink_names sinks) ++ map (λ (name : List ℕ). (kinds.Sink, name)) more ≡ map (λ (name : List ℕ). (kinds.Sink, name)) watches =
      sym (map-append (λ (name : List ℕ). (kinds.Sink, name)) (sink_names sinks) more) ∙ ap (map (λ (name : List ℕ). (kinds.Sink, name))) (sym watches_split) in
      subst (λ (l : List Wanted). AreOpened l behind) lists (opened_sinks sinks (map (λ (name : List ℕ). (kinds.Sink, name)) more) b.behind opens)

  long_behind : length behind ≡ length (sink_names sinks) + length b.behind
  long_behind = length-append (map sink_entry sinks) b.behind ∙ ap (λ (n : ℕ). n + length b.behind) (length-map sinks sink_entry ∙ sym (length-map sinks (λ (k : SinkKept). k.name)))

  few_behind : length b.behind ≤ length more → length behind ≤ length watches
  few_behind few = omega (arith, few, long_behind, ap length watches_split, length-append (sink_names sinks) more)

  names_behind : map (λ (entry : Opening). entry.name) b.behind ≡ take (length b.behind) more → map (λ (entry : Opening). entry.name) behind ≡ take (length behind) watches
  names_behind named =
      map-append (λ (entry : Opening). entry.name) (map sink_entry sinks) b.behind
      ∙ ap (λ (l : List (List ℕ)). l ++ map (λ (entry : Opening). entry.name) b.behind) (entry_names sinks)
      ∙ ap (λ (l : List (List ℕ)). sink_names sinks ++ l) named
      ∙ sym (take_second (sink_names sinks) more (length b.behind))
      ∙ ap (λ (n : ℕ). take n (sink_names sinks ++ more)) (sym long_behind)
      ∙ ap (λ (l : List (List ℕ)). take (length behind) l) (sym watches_split)

  flags_behind : map has_failed behind ≡ b.sink_flags ++ map has_failed b.behind
  flags_behind = map-append has_failed (map sink_entry sinks) b.behind ∙ ap (λ (l : List Bool). l ++ map has_failed b.behind) (map_sinks sinks ∙ sym b.keeps_sinks.failed_are)

  -- where no watcher has a report, the entries alone tell
  why_unreported : (outcome : WatchedOutcome) → outcome.watches_failed.items ≡ watch_flags behind outcome.watches.items → outcome.watches.items ≡ [] → Why outcome
  why_unreported outcome flags_are none is =
      let plain : outcome.watches_failed.items ≡ map has_failed behind = flags_are ∙ ap (λ (l : List WatchReport). watch_flags behind l) none ∙ ends_nothing (map has_failed behind) in
      elim (some_has_sink behind writers_are (ap some_failed (sym plain) ∙ is)) [
        | inl world ↦ inl world
        | inr faults ↦ inr (inr (omega (arith, faults)))
      ]

  tells_unreported : (outcome : WatchedOutcome) → outcome.watches_failed.items ≡ watch_flags behind outcome.watches.items → sum b.views ≡ 0 → Tells outcome
  tells_unreported outcome flags_are none some =
      ap some_failed flags_are ∙ ends_first (map has_failed behind) outcome.watches.items (sinks_have behind writers_are (omega (arith, some, none)))

  -- ---- a watch file wasn't given

  pub sink_refused_so : (outcome : WatchedOutcome) (name : List ℕ) (cut : List (List ℕ)) (why : OutsideRefused) (failed : Bool) → more ≡ name ∷ cut → b.behind ≡ refusal_of kinds.Sink name why → (failed ≡ true → why ≡ outside_refusals.Failed) → (failed ≡ false → why ≡ outside_refusals.Memory)
      → b.ss_now ≡ b.ss → b.live_now ≡ b.live → b.ks_now ≡ b.ks → sum b.views ≡ 0
      → outcome.report ≡ None → outcome.watches.items ≡ [] → outcome.feeds_failed.items ≡ b.flags → outcome.out_failed ≡ failed_so (went_well b.live_kept) b.live_now.faults → outcome.watches_failed.items ≡ flags_with b.sink_flags failed
      → NamesWatched (requested options range out watches feeds) b.w0 b.w8 outcome
  sink_refused_so outcome name cut why failed more_is behind_is is_failed is_memory sources lives sinks_same no_views none no_reports flags_are out_is watch_flags_are =
      let refusal : flags_with b.sink_flags failed ≡ b.sink_flags ++ map has_failed b.behind = refused_flags b.sink_flags why failed name is_failed is_memory ∙ ap (λ (l : List Opening). b.sink_flags ++ map has_failed l) (sym behind_is) in
      let all_flags : outcome.watches_failed.items ≡ watch_flags behind outcome.watches.items =
      watch_flags_are ∙ refusal ∙ sym flags_behind ∙ sym (ends_nothing (map has_failed behind)) ∙ ap (λ (l : List WatchReport). watch_flags behind l) (sym no_reports) in
      seen_watched outcome flags_are out_is all_flags
      (opens_behind (subst (λ (l : List (List ℕ)). AreOpened (map (λ (n : List ℕ). (kinds.Sink, n)) l) b.behind) (sym more_is) (subst (AreOpened (map (λ (n : List ℕ). (kinds.Sink, n)) (name ∷ cut))) (sym behind_is) (refused_opens why name cut))))
      (few_behind (omega (arith, ap length more_is, ap length behind_is, refused_few why name)))
      (names_behind (ap (map (λ (entry : Opening). entry.name)) behind_is ∙ refused_names why name cut ∙ ap (λ (l : List Opening). take (length l) (name ∷ cut)) (sym behind_is) ∙ ap (take (length b.behind)) (sym more_is)))
      (λ r here. absurd (none_some r (sym none ∙ here)))
      (λ is. seen_unreported sources lives sinks_same no_views)
      (λ is. no_reports)
      (why_unreported outcome all_flags no_reports)
      (tells_unreported outcome all_flags no_views)

  -- ---- all was recorded

  abbrev Watched : {X : Type 0} → (X → Option (List ℕ)) → Report → List WatchReport → Bool → Type 0
  Watched tells r reports sealed = RecordedWatched tells options range (sides b.ss b.live) (sides b.ss_now b.live_now) r (record { handed = b.ks; sinks = b.ks_now; views = b.views; reports = reports; sealed = sealed })

  ends_are : {X : Type 0} (tells : X → Option (List ℕ)) (r : Report) (reports : List WatchReport) (sealed : Bool) (it : Watched tells r reports sealed) → Each (λ (w : Watch). EndsSo b.live it.viewed sealed w w.report.end) it.watches
  ends_are tells r reports sealed it n w at =
      ended tells range b.live it.viewed sealed w it.note (λ is. sealed_end it.note r.writer.end b.ks (it.sealed is) (λ none. before_some it.watches n w at (sym it.are.before_are ∙ none))) (λ is. (it.unsealed is).1)
      (asked_for b.live it.watches it.viewed it.asked n w at) (it.each n w at)

  unused_before : {X : Type 0} (tells : X → Option (List ℕ)) (r : Report) (reports : List WatchReport) (sealed : Bool) (it : Watched tells r reports sealed) → Each (λ (w : Watch). w.before.faults ≡ 0) it.watches
  unused_before tells r reports sealed it = each_of (λ (w : Watch). w.before) (λ (s : SinkState). s.faults ≡ 0) it.watches (subst (Each (λ (s : SinkState). s.faults ≡ 0)) it.are.before_are b.opens_sinks.unused)

  totals_are : {X : Type 0} (tells : X → Option (List ℕ)) (r : Report) (reports : List WatchReport) (sealed : Bool) (it : Watched tells r reports sealed)
      → sinks_total (map (λ (w : Watch). w.now) it.watches) + view_faults it.watches ≡ watch_faults (map sink_entry sinks) + sum b.views
  totals_are tells r reports sealed it =
      let one : sinks_total (map (λ (w : Watch). w.now) it.watches) ≡ sinks_total (back_sinks sinks) = ap sinks_total (sym it.are.now_are ∙ b.keeps_sinks.sinks_are) in
      let two : sum b.views ≡ view_faults it.watches = ap sum it.are.views_are in
      omega (arith, one, two, sinks_watched sinks)

  store_rose : {X : Type 0} (tells : X → Option (List ℕ)) (r : Report) (reports : List WatchReport) (sealed : Bool) (it : Watched tells r reports sealed) → 1 ≤ it.viewed.faults → 1 ≤ b.live_now.faults
  store_rose tells r reports sealed it some = let later = cause_later it.viewed.faults b.live_now.faults _ it.recorded.writer.cause in omega (arith, some, later)

  -- where the store told what it held, the blocks' extents tell, so that no watcher found a flaw
  unflawed_by : {X : Type 0} (tells : X → Option (List ℕ)) (r : Report) (reports : List WatchReport) (sealed : Bool) (it : Watched tells r reports sealed) (told : Told) → b.w0.told ≡ Some told
      → Each (λ (w : Watch). is_flaw w.report.end ≡ false) it.watches
  unflawed_by {X} tells r reports sealed it told here n w at =
      let shows = it.shows (λ none. before_some it.watches n w at (sym it.are.before_are ∙ none)) in
      let (stored, stores) = shows.blocks_are.tell [] (views_hold b.live it.watches it.viewed it.asked ∙ nothing_yet out feeds names b told here) in
      unflawed tells range b.live it.viewed sealed w it.note (λ untold. untold_lift tells (entries_of it.note) shows.given shows.first untold stored stores) (asked_for b.live it.watches it.viewed it.asked n w at) (it.each n w at)

  seen_reported : {X : Type 0} (tells : X → Option (List ℕ)) (r : Report) (reports : List WatchReport) (sealed : Bool) (it : Watched tells r reports sealed) → more ≡ [] → b.behind ≡ []
      → ((told : Told) → b.w0.told ≡ Some told → AreReadable options.file → Each (IsWatchedFile options.file range it.recorded.history r.writer sealed) it.watches)
      → ReportedBeside (requested options range out watches feeds) b.w0 b.w8 all (sum b.views) (reported_with r sealed reports)
  seen_reported tells r reports sealed it whole none texts =
      let there = moved options (sides b.ss it.viewed) b.ss_now (back_sources fs) b.live_now r b.keeps.backs_are it.recorded in
      let ends = ends_are tells r reports sealed it in
      let total = totals_are tells r reports sealed it in
      let faults : watch_faults all ≡ watch_faults (map feed_entry fs) + (watch_faults (map sink_entry sinks) + watch_faults b.behind) = omega (arith, watch_faults-append (map feed_entry fs) (file ∷ behind), watch_faults-append (map sink_entry sinks) b.behind) in
      record {
        given = b.ss;
        kept_feeds = fs;
        names_are = b.keeps.names_are;
        live = b.live;
        viewed = it.viewed;
        live_now = b.live_now;
        live_kept = went_well b.live_kept;
        recorded = there;
        tells = (feeds_tell b.w0 b.opens.between feeds b.ss b.opens.feeds_opened);
        unused = (feeds_unused b.w0 b.opens.between feeds b.ss b.opens.feeds_opened);
        live_unused = b.opens.unused;
        kept_sinks = sinks;
        watches_are = watches_split ∙ ap (λ (l : List (List ℕ)). sink_names sinks ++ l) whole ∙ append-nil (sink_names sinks);
        seen = it.watches;
        asked = it.asked;
        sinks_are = sym it.are.now_are ∙ b.keeps_sinks.sinks_are;
        reports_are = it.are.reports_are;
        failures_are = ap sum it.are.views_are;
        sinks_unused = unused_before tells r reports sealed it;
        sinks_empty = λ told here. each_of (λ (w : Watch). w.before) (λ (s : SinkState). s.took ≡ Some []) it.watches (subst (Each (λ (s : SinkState). s.took ≡ Some [])) it.are.before_are (sinks_yet out feeds names b told here));
        ends = ends;
        unwatched = λ none. sealed_for_none sealed b.ks it.unsealed (none_given names b.ks (none_named watches names more split none) b.opens_sinks.many);
        sealed_ends = λ is n w at un. sealed_so b.live it.viewed sealed w w.report.end (ends n w at) is un;
        fault_cause = λ n w at is. elim (fault_shows b.live it.viewed sealed it.watches (unused_before tells r reports sealed it) ends n w at is) [
          | inl viewed ↦ inl (omega (arith, store_rose tells r reports sealed it viewed, outputs_since out feeds names b, output_faults-append (map feed_entry fs) (file ∷ behind), b.opens.fits.outputs))
          | inr watch ↦ inr (omega (arith, watch, total, faults, watches_since out feeds names b, b.opens.fits.watches))
        ];
        file = λ told now here here_now.
            let held = nothing_yet out feeds names b told here in
            let h : Holds options.file there.history r.writer b.live_now.held = holds options.file it.viewed.held b.live_now.held there.history r.writer there.writer.wrote there.writer.begun (views_hold b.live it.watches it.viewed it.asked ∙ held) in
            placed_holds options.file told.names now.names out there.history r.writer b.live_now.held b.live_kept h ((names_since out feeds names b told now here here_now).output h.text h.is);
        placed = λ told now here here_now. (names_since out feeds names b told now here here_now).watch_files;
        texts = texts;
        forms = it.forms;
        unflawed = λ told here. unflawed_by tells r reports sealed it told here;
        kept_are = ap (λ (l : List Opening). map feed_entry fs ++ file ∷ l) (ap (λ (l : List Opening). map sink_entry sinks ++ l) none ∙ append-nil (map sink_entry sinks));
      }

  why_reported : {X : Type 0} (tells : X → Option (List ℕ)) (r : Report) (sealed : Bool) (outcome : WatchedOutcome) → Watched tells r outcome.watches.items sealed → outcome.watches_failed.items ≡ watch_flags behind outcome.watches.items → Why outcome
  why_reported tells r sealed outcome it flags_are is =
      let total = totals_are tells r outcome.watches.items sealed it in
      let parts = watch_faults-append (map sink_entry sinks) b.behind in
      elim (ends_why (map has_failed behind) outcome.watches.items (ap some_failed (sym flags_are) ∙ is)) [
        | inl entries ↦ elim (some_has_sink behind writers_are entries) [
          | inl world ↦ inl world
          | inr faults ↦ inr (inr (omega (arith, faults)))
        ]
        | inr reports ↦ elim (faults_show b.live it.viewed sealed it.watches (unused_before tells r outcome.watches.items sealed it) (ends_are tells r outcome.watches.items sealed it) (ap (list_any ended_so) (sym it.are.reports_are) ∙ reports)) [
          | inl viewed ↦ inr (inl (store_rose tells r outcome.watches.items sealed it viewed))
          | inr watch ↦ inr (inr (omega (arith, watch, total, parts)))
        ]
      ]

  tells_reported : {X : Type 0} (tells : X → Option (List ℕ)) (r : Report) (sealed : Bool) (outcome : WatchedOutcome) → Watched tells r outcome.watches.items sealed → outcome.watches_failed.items ≡ watch_flags behind outcome.watches.items → b.behind ≡ [] → Tells outcome
  tells_reported tells r sealed outcome it flags_are none some = ap some_failed flags_are ∙ elim (some_more (watch_faults behind) (sum b.views) some) [
    | inl faults ↦ ends_first (map has_failed behind) outcome.watches.items (sinks_have behind writers_are faults)
    | inr views ↦
        let long : length (map has_failed behind) ≡ length outcome.watches.items = length-map behind has_failed ∙ ap (λ (l : List Opening). length (map sink_entry sinks ++ l)) none ∙ ap length (append-nil (map sink_entry sinks)) ∙ length-map sinks sink_entry ∙ sym (length-map sinks (λ (k : SinkKept). k.back))
        ∙ ap length (sym b.keeps_sinks.sinks_are ∙ it.are.now_are) ∙ length-map it.watches (λ (w : Watch). w.now) ∙ sym (length-map it.watches (λ (w : Watch). w.report)) ∙ ap length (sym it.are.reports_are) in
        let faults : 1 ≤ view_faults it.watches = subst (λ (n : ℕ). 1 ≤ n) (ap sum it.are.views_are) views in
        ends_second (map has_failed behind) outcome.watches.items long (ap (list_any ended_so) it.are.reports_are ∙ views_told b.live it.viewed sealed it.watches (ends_are tells r outcome.watches.items sealed it) faults)
  ]

  all_flags : (outcome : WatchedOutcome) → outcome.watches_failed.items ≡ with_ends b.sink_flags outcome.watches.items → b.behind ≡ [] → outcome.watches_failed.items ≡ watch_flags behind outcome.watches.items
  all_flags outcome are none = are ∙ ap (λ (l : List Bool). with_ends l outcome.watches.items) (sym (append-nil b.sink_flags) ∙ ap (λ (l : List Opening). b.sink_flags ++ map has_failed l) (sym none) ∙ sym flags_behind)

  all_by : {X : Type 0} (tells : X → Option (List ℕ)) (outcome : WatchedOutcome) (report : Option Report) → outcome.report ≡ report → more ≡ [] → b.behind ≡ [] → outcome.feeds_failed.items ≡ b.flags → outcome.out_failed ≡ failed_so (went_well b.live_kept) b.live_now.faults
      → outcome.watches_failed.items ≡ with_ends b.sink_flags outcome.watches.items
      → (report ≡ None → (b.ss_now ≡ b.ss) × (b.live_now ≡ b.live) × (b.ks_now ≡ b.ks) × (sum b.views ≡ 0) × (outcome.watches.items ≡ []))
      → ((r : Report) → report ≡ Some r → (it : Watched tells r outcome.watches.items outcome.sealed)
      × ((told : Told) → b.w0.told ≡ Some told → AreReadable options.file → Each (IsWatchedFile options.file range it.recorded.history r.writer outcome.sealed) it.watches))
      → NamesWatched (requested options range out watches feeds) b.w0 b.w8 outcome
  all_by tells outcome None is whole none flags_are out_is ends_added same made =
      let (sources, lives, sinks_same, no_views, no_reports) = same refl in
      let flags = all_flags outcome ends_added none in
      seen_watched outcome flags_are out_is flags
      (opens_behind (subst (λ (l : List (List ℕ)). AreOpened (map (λ (n : List ℕ). (kinds.Sink, n)) l) b.behind) (sym whole) none))
      (few_behind (omega (arith, ap length none)))
      (names_behind (ap (map (λ (entry : Opening). entry.name)) none ∙ ap (λ (l : List Opening). take (length l) more) (sym none)))
      (λ r here. absurd (none_some r (sym is ∙ here)))
      (λ here. seen_unreported sources lives sinks_same no_views)
      (λ here. no_reports)
      (why_unreported outcome flags no_reports)
      (tells_unreported outcome flags no_views)
  all_by tells outcome (Some r) is whole none flags_are out_is ends_added same made =
      let (it, texts) = made r refl in
      let flags = all_flags outcome ends_added none in
      seen_watched outcome flags_are out_is flags
      (opens_behind (subst (λ (l : List (List ℕ)). AreOpened (map (λ (n : List ℕ). (kinds.Sink, n)) l) b.behind) (sym whole) none))
      (few_behind (omega (arith, ap length none)))
      (names_behind (ap (map (λ (entry : Opening). entry.name)) none ∙ ap (λ (l : List Opening). take (length l) more) (sym none)))
      (λ s here. subst (λ (x : Report). ReportedBeside (requested options range out watches feeds) b.w0 b.w8 all (sum b.views) (reported_with x outcome.sealed outcome.watches.items)) (same_Some r s (sym is ∙ here)) (seen_reported tells r outcome.watches.items outcome.sealed it whole none texts))
      (λ here. absurd (none_some r (sym here ∙ is)))
      (λ here. absurd (none_some r (sym here ∙ is)))
      (why_reported tells r outcome.sealed outcome it flags)
      (tells_reported tells r outcome.sealed outcome it flags none)

  -- a file without chunks has no watchers
  texts_by : {X : Type 0} (tells : X → Option (List ℕ)) (r : Report) (reports : List WatchReport) (sealed : Bool) (it : Watched tells r reports sealed) → (options.file.chunk ≡ None → watches ≡ []) → WatchFilesAreTold tells
      → (chunk : Option ℕ) → options.file.chunk ≡ chunk → (told : Told) → b.w0.told ≡ Some told → AreReadable options.file → Each (IsWatchedFile options.file range it.recorded.history r.writer sealed) it.watches
  texts_by tells r reports sealed it plain law None is told there readable n w at =
      absurd (before_some it.watches n w at (sym it.are.before_are ∙ none_given names b.ks (none_named watches names more split (plain is)) b.opens_sinks.many))
  texts_by tells r reports sealed it plain law (Some size) is told there readable n w at =
      law options range (sides b.ss b.live) (sides b.ss_now b.live_now) r (record { handed = b.ks; sinks = b.ks_now; views = b.views; reports = reports; sealed = sealed }) it readable size is [] (nothing_yet out feeds names b told there) n w at

  -- of what the recording told, where the world tells too
  pub all_watched : {X : Type 0} (tells : X → Option (List ℕ)) (outcome : WatchedOutcome) → more ≡ [] → b.behind ≡ [] → outcome.feeds_failed.items ≡ b.flags → outcome.out_failed ≡ failed_so (went_well b.live_kept) b.live_now.faults
      → outcome.watches_failed.items ≡ with_ends b.sink_flags outcome.watches.items
      → (outcome.report ≡ None → (b.ss_now ≡ b.ss) × (b.live_now ≡ b.live) × (b.ks_now ≡ b.ks) × (sum b.views ≡ 0) × (outcome.watches.items ≡ []))
      → (options.file.chunk ≡ None → watches ≡ []) → ((r : Report) → outcome.report ≡ Some r → Watched tells r outcome.watches.items outcome.sealed) → WatchFilesAreTold tells
      → NamesWatched (requested options range out watches feeds) b.w0 b.w8 outcome
  all_watched tells outcome whole none flags_are out_is ends_added same plain made law =
      all_by tells outcome outcome.report refl whole none flags_are out_is ends_added same (λ r here.
      let it = made r here in
      (it, texts_by tells r outcome.watches.items outcome.sealed it plain law options.file.chunk refl))
