-- A recording without watchers writes its output as every command does that reads some files and writes one.
use Rattle.std.proofs.Common.{◌≡◌, ◌⊎◌, ℕ, zero, suc, ◌^◌, ◌-◌, ◌<◌, ◌≤◌, Bool, true, false, cond, not, ◌||◌, List, [], ◌∷◌, ◌++◌, length, map, Option, Some, None, refl, sym, ap, subst, inl, inr, ◌∙◌, arith}
use Rattle.std.specs.Prelude.{◌↔◌}
use Rattle.std.specs.List.{list_any}
use Rattle.std.proofs.lemmas.Bool.{both_ways, false_from_ne_true}
use Rattle.std.proofs.lemmas.List.{append-nil}
use Rattle.std.proofs.lemmas.Option.{same_Some}
use Rattle.mcap_io.specs.Outside.{Rose, added, Opening}
use Rattle.mcap_io.specs.declared.outside.ObjectKind.TheVariants as kinds
use Rattle.mcap_model.specs.Places.{At}
use Rattle.mcap_model.proofs.Places.{at_none}
use Rattle.mcap_model.specs.declared.options.RecordOptions.{RecordOptions}
use Rattle.mcap_model.specs.declared.replay.Range.{Range}
use Rattle.recorder.specs.declared.report.Report.{Report}
use Rattle.recorder.specs.Findings.{lacks_memory}
use Rattle.live_watcher.specs.declared.report.WatchReport.{WatchReport}
use Rattle.live_recording.specs.Watched.{Watch, AsksViews}
use Rattle.command_base.specs.declared.statuses.Status.{Status}
use Rattle.command_base.specs.declared.statuses.Status.TheVariants as statuses
use Rattle.command_base.specs.Printing.{TellsAll}
use Rattle.command_base.specs.Texts.{status_of}
use Rattle.command_base.specs.Ran.{Wanted, wanted, Scene, counts_in, AnyRose, CountsOn, AreOpened, Leaves, IsCaused, Blames, Complains, has_failed, failed_names, blamed_names, named_when, troubles_of}
use Rattle.command_base.specs.Endings.{WritingEnding, all_halts, writing_findings, writing_status, status_besides, IsWritingDone}
use Rattle.command_base.specs.Outputs.{inputs_and_output, failed_of, some_failed, Causes, WritesOutput}
use Rattle.command_base.proofs.Blamed.{each_one}
use Rattle.command_base.proofs.BlamedNames.{each_blamed, some_blamed, none_behind}
use Rattle.command_base.proofs.EndingStatuses.{status_where, due_status, besides_apart, done_halts_none}
use Rattle.command_record.specs.Record.{reports_in, report_lack, fails_in, ending_of_recording}
use Rattle.command_record.specs.Sinks.{SinkKept, sink_names, back_sinks}
use Rattle.command_record.specs.Watched.{requested, watch_flags}
use Rattle.command_record.specs.WatchedAnswer.{watched_counts_in, AnyCountRose, AllCountsOn, is_memory_watch, Blamed, LackIsToldBeside, RecordsSo}
use Rattle.command_record.specs.Unwatched.{IsUnwatchedRecording, UnwatchedRecordings}
use Rattle.command_record.proofs.Halts.{ends_long, ends_halt}
use Rattle.command_record.proofs.Flags.{any_flag, or_first, or_second}

-- ---- lists

none_long : {X : Type 0} (xs : List X) → length xs ≤ 0 → xs ≡ []
none_long [] few = refl
none_long (x ∷ xs) few = absurd (omega (arith, few))

none_of_names : (ks : List SinkKept) → [] ≡ sink_names ks → ks ≡ []
none_of_names [] is = refl
none_of_names (k ∷ ks) is = absurd cc

none_of_states : (ws : List Watch) → map (λ (w : Watch). w.now) ws ≡ [] → ws ≡ []
none_of_states [] is = refl
none_of_states (w ∷ ws) is = absurd cc

flags_none : (xs : List Opening) (reports : List WatchReport) → watch_flags xs reports ≡ [] → xs ≡ []
flags_none [] reports is = refl
flags_none (x ∷ xs) [] is = absurd cc
flags_none (x ∷ xs) (w ∷ ws) is = absurd cc

not_failed : (xs : List Opening) → list_any has_failed xs ≡ false → failed_names xs ≡ []
not_failed [] none = refl
not_failed (x ∷ xs) none =
    let first = false_from_ne_true (has_failed x) (λ is. both_ways (list_any has_failed (x ∷ xs)) none (or_first (has_failed x) (list_any has_failed xs) is)) in
    let later = false_from_ne_true (list_any has_failed xs) (λ is. both_ways (list_any has_failed (x ∷ xs)) none (or_second (has_failed x) (list_any has_failed xs) is)) in
    ap (λ (f : Bool). named_when f x.name ++ failed_names xs) first ∙ not_failed xs later

-- no sink was opened
no_sink : (out : List ℕ) (feeds : List (List ℕ)) (entries : List Opening) → AreOpened (wanted (inputs_and_output kinds.Source feeds out)) entries → (n : ℕ) (e : Opening) → At entries n e → e.kind ≡ kinds.Sink → ⊥
no_sink out feeds [] opens n e at kind = at_none n e at
no_sink out [] (x ∷ xs) (inl (is, none)) zero e at kind = let other : kinds.Sink ≡ kinds.Live = sym kind ∙ ap (λ (o : Opening). o.kind) (sym (same_Some x e at) ∙ is) in absurd cc
no_sink out [] (x ∷ xs) (inl (is, none)) (suc n) e at kind = at_none n e (subst (λ (l : List Opening). At l n e) none at)
no_sink out [] (x ∷ xs) (inr (keeping, is, none)) zero e at kind = let other : kinds.Sink ≡ kinds.Live = sym kind ∙ ap (λ (o : Opening). o.kind) (sym (same_Some x e at) ∙ is) in absurd cc
no_sink out [] (x ∷ xs) (inr (keeping, is, none)) (suc n) e at kind = at_none n e (subst (λ (l : List Opening). At l n e) none at)
no_sink out (f ∷ fs) (x ∷ xs) (inl (is, none)) zero e at kind = let other : kinds.Sink ≡ kinds.Source = sym kind ∙ ap (λ (o : Opening). o.kind) (sym (same_Some x e at) ∙ is) in absurd cc
no_sink out (f ∷ fs) (x ∷ xs) (inl (is, none)) (suc n) e at kind = at_none n e (subst (λ (l : List Opening). At l n e) none at)
no_sink out (f ∷ fs) (x ∷ xs) (inr (keeping, is, rest)) zero e at kind = let other : kinds.Sink ≡ kinds.Source = sym kind ∙ ap (λ (o : Opening). o.kind) (sym (same_Some x e at) ∙ is) in absurd cc
no_sink out (f ∷ fs) (x ∷ xs) (inr (keeping, is, rest)) (suc n) e at kind = no_sink out fs xs rest n e at kind

-- ---- the status

fault_where : (lacks some : Bool) (s : Status) → (s ≡ statuses.Fault → ⊥) → status_where lacks some s ≡ statuses.Fault → some ≡ true
fault_where true some s other e = absurd cc
fault_where false true s other e = refl
fault_where false false s other e = absurd (other e)

memory_where : (lacks some : Bool) (s : Status) → (s ≡ statuses.Memory → ⊥) → status_where lacks some s ≡ statuses.Memory → lacks ≡ true
memory_where true some s other e = refl
memory_where false true s other e = absurd cc
memory_where false false s other e = absurd (other e)

fault_or : (lacks some : Bool) (s answer : Status) → some ≡ true → answer ≡ status_where lacks some s → (answer ≡ statuses.Fault) ⊎ (answer ≡ statuses.Memory)
fault_or true some s answer risen is = inr is
fault_or false true s answer risen is = inl is
fault_or false false s answer risen is = absurd cc

lacking_where : (lacks some : Bool) (s : Status) → lacks ≡ true → status_where lacks some s ≡ statuses.Memory
lacking_where true some s is = refl
lacking_where false some s is = absurd cc

calm_where : (lacks fails : Bool) (s : Status) → (fails ≡ true → ⊥) → status_where lacks false s ≡ cond lacks statuses.Memory (cond fails statuses.Fault s)
calm_where true fails s well = refl
calm_where false true s well = absurd (well refl)
calm_where false false s well = refl

record DoneWhere (lacks some passes : Bool) (s : Status) : Type 0 where
  memory : lacks ≡ false
  well : some ≡ false
  within : passes ≡ false
  own : s ≡ statuses.Done

done_where : (lacks some passes : Bool) (s : Status) → status_where lacks some (cond passes statuses.Limit s) ≡ statuses.Done → DoneWhere lacks some passes s
done_where true some passes s e = absurd cc
done_where false true passes s e = absurd cc
done_where false false true s e = absurd cc
done_where false false false s e = record { memory = refl; well = refl; within = refl; own = e }

-- ---- parts

some_of : (f o p : Bool) → (f ≡ true) ⊎ ((o ≡ true) ⊎ (p ≡ true)) → (f || (o || p)) ≡ true
some_of true o p some = refl
some_of false true p some = refl
some_of false false true some = refl
some_of false false false some = elim some [ inl e ↦ cc | inr others ↦ elim others [ inl e ↦ cc | inr e ↦ cc ] ]

which : (f o p : Bool) → (f || (o || p)) ≡ true → (f ≡ true) ⊎ ((o ≡ true) ⊎ (p ≡ true))
which true o p some = inl refl
which false true p some = inr (inl refl)
which false false true some = inr (inr refl)
which false false false some = absurd cc

none_of : (f o p : Bool) → (f || (o || p)) ≡ false → (f ≡ false) × (o ≡ false) × (p ≡ false)
none_of true o p none = absurd cc
none_of false true p none = absurd cc
none_of false false true none = absurd cc
none_of false false false none = (refl, refl, refl)

out_named : (out : List ℕ) (b : Bool) → b ≡ true → named_when b out ++ [] ≡ [] → ⊥
out_named out true is none = absurd cc
out_named out false is none = absurd cc

not_some : (some lacked : Bool) → (some ≡ true → lacked ≡ true → ⊥) → ((some ≡ true → ⊥) → lacked ≡ true) → lacked ≡ not some
not_some true true apart other = absurd (apart refl refl)
not_some true false apart other = refl
not_some false lacked apart other = other (λ is. cc)

or_nothing : (a sealed c : Bool) → sealed ≡ true → c ≡ false → (a || (not sealed || c)) ≡ a
or_nothing true sealed c is none = refl
or_nothing false true true is none = absurd cc
or_nothing false true false is none = refl
or_nothing false false c is none = absurd cc

fails_some : (report : Option Report) (some : Bool) → fails_in report some ≡ true → some ≡ true
fails_some None some is = is
fails_some (Some r) some is = absurd cc

-- ---- the whole

module _ (options : RecordOptions) (range : Range) (out : List ℕ) (feeds : List (List ℕ)) (old new : Scene) (report : Option Report) (sealed : Bool) (reports : List WatchReport) (status : Status) (it : RecordsSo (requested options range out [] feeds) old new report sealed reports status) where
  abbrev b : Blamed
  b = it.blamed

  abbrev some : Bool
  some = some_failed b.feeds || (b.out || it.printing)

  abbrev ending : WritingEnding
  ending = ending_of_recording feeds report some

  none_blamed : some_failed b.watches ≡ true → ⊥
  none_blamed is = both_ways (some_failed b.watches) (ap some_failed (none_long b.watches it.exact.few_watches)) is

  rose_alone : AnyCountRose (watched_counts_in [] old) (watched_counts_in [] new) → AnyRose (counts_in old) (counts_in new)
  rose_alone (inl rose) = rose
  rose_alone (inr rose) = absurd (omega (arith, rose))

  part_rose : (some_failed b.feeds ≡ true) ⊎ ((b.out ≡ true) ⊎ (it.printing ≡ true)) → AnyRose (counts_in old) (counts_in new)
  part_rose parts = elim parts [
    | inl e ↦ elim (it.causes.feed_cause e) [ inl world ↦ inl world | inr read ↦ inr (inl read) ]
    | inr (inl e) ↦ elim (it.causes.out_cause e) [ inl world ↦ inl world | inr outputs ↦ inr (inr (inl outputs)) ]
    | inr (inr e) ↦ inr (inr (inr (it.blames_output.0 e)))
  ]

  rose_part : AnyRose (counts_in old) (counts_in new) → (some_failed b.feeds ≡ true) ⊎ ((b.out ≡ true) ⊎ (it.printing ≡ true))
  rose_part risen = elim risen [
    | inl world ↦ elim (it.causes.world_told world) [ inl e ↦ inl e | inr (inl e) ↦ inr (inl e) | inr (inr e) ↦ absurd (none_blamed e) ]
    | inr (inl read) ↦ inl (it.causes.inputs_told read)
    | inr (inr (inl outputs)) ↦ inr (inl (it.causes.outputs_told outputs))
    | inr (inr (inr printing)) ↦ inr (inr (it.blames_output.1 printing))
  ]

  some_rose : (some ≡ true) ↔ AnyRose (counts_in old) (counts_in new)
  some_rose = (λ is. part_rose (which (some_failed b.feeds) b.out it.printing is), λ risen. some_of (some_failed b.feeds) b.out it.printing (rose_part risen))

  sinks_are : (r : Report) (is : report ≡ Some r) → (it.reported r is).kept_sinks ≡ []
  sinks_are r is = none_of_names (it.reported r is).kept_sinks (it.reported r is).watches_are

  seen_are : (r : Report) (is : report ≡ Some r) → (it.reported r is).seen ≡ []
  seen_are r is = none_of_states (it.reported r is).seen ((it.reported r is).sinks_are ∙ ap back_sinks (sinks_are r is))

  viewed_is : (r : Report) (is : report ≡ Some r) → (it.reported r is).viewed ≡ (it.reported r is).live
  viewed_is r is = subst (λ (l : List Watch). AsksViews (it.reported r is).live l (it.reported r is).viewed) (seen_are r is) (it.reported r is).asked

  lacks_in : (there : Option Report) → report ≡ there → it.lacked ≡ report_lack there some
  lacks_in None is =
      let told : (AnyCountRose (watched_counts_in [] old) (watched_counts_in [] new) → ⊥) ↔ (it.lacked ≡ true) = subst (λ (x : Option Report). LackIsToldBeside (watched_counts_in [] old) (watched_counts_in [] new) x sealed reports it.lacked) is it.lacks in
      not_some some it.lacked (λ on lacks. told.1 lacks (inl (some_rose.0 on))) (λ off. told.0 (λ risen. off (some_rose.1 (rose_alone risen))))
  lacks_in (Some r) is =
      let told = subst (λ (x : Option Report). LackIsToldBeside (watched_counts_in [] old) (watched_counts_in [] new) x sealed reports it.lacked) is it.lacks in
      let none : reports ≡ [] = (it.reported r is).reports_are ∙ ap (map (λ (w : Watch). w.report)) (seen_are r is) in
      told ∙ or_nothing (lacks_memory r) sealed _ ((it.reported r is).unwatched refl) (ap (list_any (λ (w : WatchReport). is_memory_watch w.end)) none)

  lacked_is : it.lacked ≡ report_lack report some
  lacked_is = lacks_in report refl

  told : Complains (troubles_of (inputs_and_output kinds.Source feeds out) (writing_findings (inputs_and_output kinds.Source feeds out) ending) (failed_of b.feeds b.out) it.printing) old.err new.err status
  told = subst (λ (l : Bool). Complains (troubles_of (inputs_and_output kinds.Source feeds out) (record { halts = ending.halts; limits = (writing_findings (inputs_and_output kinds.Source feeds out) ending).limits; lacked = l }) (failed_of b.feeds b.out) it.printing) old.err new.err status) lacked_is it.said

  answer_is : status ≡ status_where ending.lacks_memory some (status_besides ending)
  answer_is = told.status_is ∙ due_status out feeds ending.halts b.feeds b.out ending.passes_limit it.printing ending.lacks_memory (ends_long feeds (reports_in report)) (ends_halt feeds (reports_in report)) it.exact.few_feeds

  opens : AreOpened (wanted (inputs_and_output kinds.Source feeds out)) it.entries
  opens = subst (λ (l : List Wanted). AreOpened l it.entries) (append-nil (wanted (inputs_and_output kinds.Source feeds out))) it.opened

  leaves : Leaves old.world new.world it.entries
  leaves told here =
      let left = it.leaves told here in (
        left.0,
        left.1,
        left.2,
        λ name unwritten. left.3 name (λ is. elim is.written [
          | inl live ↦ unwritten (record { entry = is.entry; there = is.there; live = live; given = is.given; named = is.named })
          | inr sink ↦ no_sink out feeds it.entries opens is.there.0 is.entry is.there.1 sink
        ]),
      )

  -- ---- where nothing is blamed

  counts_on : (AnyRose (counts_in old) (counts_in new) → ⊥) → AllCountsOn [] old.world
  counts_on quiet = record {
    seen = record {
      world = below old.world.faults new.world.faults _ it.counts.kept.world (λ rose. quiet (inl rose));
      inputs = below old.world.input_faults new.world.input_faults _ it.counts.kept.inputs (λ rose. quiet (inr (inl rose)));
      outputs = below old.world.output_faults new.world.output_faults _ it.counts.kept.outputs (λ rose. quiet (inr (inr (inl rose))));
    };
    watching = omega arith;
  }
    where
      below : (before now faults : ℕ) → now ≡ added before faults → (Rose before now → ⊥) → before < 2 ^ 64 - 1
      below before now faults is quiet = omega (arith, is, quiet)

  unnamed : some ≡ false → failed_names it.entries ≡ []
  unnamed none =
      let (first, second, third) = none_of (some_failed b.feeds) b.out it.printing none in
      let on = counts_on (λ risen. both_ways some none (some_rose.1 risen)) in
      let sinks : it.exact.sinks ≡ [] = flags_none it.exact.sinks reports (sym (it.exact.watches_are on) ∙ none_long b.watches it.exact.few_watches) in
      let parts : it.entries ≡ it.exact.inputs ++ it.exact.outputs = it.exact.parts ∙ ap (λ (l : List Opening). it.exact.inputs ++ (it.exact.outputs ++ l)) sinks ∙ ap (λ (l : List Opening). it.exact.inputs ++ l) (append-nil it.exact.outputs) in
      let inputs = sym (any_flag it.exact.inputs) ∙ ap some_failed (sym (it.exact.feeds_are on)) ∙ first in
      let outputs = sym (it.exact.out_is on) ∙ second in
      ap failed_names parts ∙ not_failed (it.exact.inputs ++ it.exact.outputs) (any_both it.exact.inputs it.exact.outputs inputs outputs)
    where
      any_both : (xs ys : List Opening) → list_any has_failed xs ≡ false → list_any has_failed ys ≡ false → list_any has_failed (xs ++ ys) ≡ false
      any_both [] ys first second = second
      any_both (x ∷ xs) ys first second =
          let head = false_from_ne_true (has_failed x) (λ is. both_ways (list_any has_failed (x ∷ xs)) first (or_first (has_failed x) (list_any has_failed xs) is)) in
          let tail = false_from_ne_true (list_any has_failed xs) (λ is. both_ways (list_any has_failed (x ∷ xs)) first (or_second (has_failed x) (list_any has_failed xs) is)) in
          ap (λ (f : Bool). f || list_any has_failed (xs ++ ys)) head ∙ any_both xs ys tail second

  well : ending.fails ≡ true → some ≡ true
  well is = fails_some report some is

  calm : (AnyRose (counts_in old) (counts_in new) → ⊥) → (failed_names it.entries ≡ []) × (ending.fails ≡ true → ⊥) × (status ≡ writing_status ending)
  calm quiet =
      let none : some ≡ false = false_from_ne_true some (λ is. quiet (some_rose.0 is)) in
      let unfailing : ending.fails ≡ true → ⊥ = λ is. both_ways some none (well is) in
      (unnamed none, unfailing, answer_is ∙ ap (λ (p : Bool). status_where ending.lacks_memory p (status_besides ending)) none ∙ calm_where ending.lacks_memory ending.fails (status_besides ending) unfailing)

  whole : status ≡ statuses.Done → (failed_names it.entries ≡ []) × IsWritingDone ending × TellsAll old.out new.out ending.text
  whole done =
      let all = done_where ending.lacks_memory some ending.passes_limit (status_of (all_halts ending.halts)) (sym answer_is ∙ done) in
      let (first, second, third) = none_of (some_failed b.feeds) b.out it.printing all.well in
      let taken : TellsAll old.out new.out ending.text = elim it.printed.tells [
        | inl tells ↦ tells
        | inr part ↦ absurd (both_ways it.printing third (it.blames_output.1 (omega (arith, part.rises.once))))
      ] in (
        unnamed all.well,
        record {
          read = done_halts_none (all_halts ending.halts) (ends_halt feeds (reports_in report)) all.own;
          within = all.within;
          memory = all.memory;
          well = false_from_ne_true ending.fails (λ is. both_ways some all.well (well is));
        },
        taken,
      )

  -- ---- the names that are blamed

  alone_named : CountsOn old.world → blamed_names (inputs_and_output kinds.Source feeds out) (failed_of b.feeds b.out) ≡ failed_names it.entries
  alone_named seen =
      let on : AllCountsOn [] old.world = record { seen = seen; watching = omega arith } in
      let sinks : it.exact.sinks ≡ [] = flags_none it.exact.sinks reports (sym (it.exact.watches_are on) ∙ none_long b.watches it.exact.few_watches) in
      let parts : it.entries ≡ it.exact.inputs ++ it.exact.outputs = it.exact.parts ∙ ap (λ (l : List Opening). it.exact.inputs ++ (it.exact.outputs ++ l)) sinks ∙ ap (λ (l : List Opening). it.exact.inputs ++ l) (append-nil it.exact.outputs) in
      sym (it.exact.named on) ∙ sym (ap failed_names parts)

  blames : Blames (inputs_and_output kinds.Source feeds out) old.world new.world it.entries (blamed_names (inputs_and_output kinds.Source feeds out) (failed_of b.feeds b.out))
  blames = record {
    exact = alone_named;
    caused = each_blamed (IsCaused (inputs_and_output kinds.Source feeds out) old.world new.world) feeds b.feeds (named_when b.out out ++ [])
        (λ name failed has. elim (it.causes.feed_cause failed) [ inl world ↦ inl world | inr read ↦ inr (inl (has, read)) ])
        (each_one (IsCaused (inputs_and_output kinds.Source feeds out) old.world new.world) b.out out (λ is. elim (it.causes.out_cause is) [ inl world ↦ inl world | inr outputs ↦ inr (inr ((0, refl), outputs)) ]));
    told = λ on risen none.
        let input_told : some_failed b.feeds ≡ true → ⊥ = λ failed. some_blamed feeds b.feeds (named_when b.out out ++ []) it.exact.few_feeds failed none in
        let out_told : b.out ≡ true → ⊥ = λ failed. out_named out b.out failed (none_behind feeds b.feeds (named_when b.out out ++ []) none) in
        elim risen [
          | inl world ↦ elim (it.causes.world_told world) [ inl failed ↦ input_told failed | inr (inl failed) ↦ out_told failed | inr (inr failed) ↦ none_blamed failed ]
          | inr (inl read) ↦ input_told (it.causes.inputs_told read)
          | inr (inr outputs) ↦ out_told (it.causes.outputs_told outputs)
        ];
  }

  causes : Causes (counts_in old) (counts_in new) b.feeds b.out
  causes = record {
    input_cause = it.causes.feed_cause;
    out_cause = it.causes.out_cause;
    inputs_told = it.causes.inputs_told;
    outputs_told = it.causes.outputs_told;
    world_told = λ rose. elim (it.causes.world_told rose) [ inl e ↦ inl e | inr (inl e) ↦ inr e | inr (inr e) ↦ absurd (none_blamed e) ];
  }

  writes : WritesOutput (inputs_and_output kinds.Source feeds out) old new it.entries (ending_of_recording feeds report) status
  writes = record {
    some = some;
    some_rose = some_rose;
    ran = record {
      ran = record {
        opened = opens;
        leaves = leaves;
        counts = it.counts.kept;
        printed = it.printed;
        failed = failed_of b.feeds b.out;
        blames = blames;
        printing = it.printing;
        blames_output = it.blames_output;
        said = told;
      };
      inputs_blamed = b.feeds;
      out_blamed = b.out;
      blame = refl;
      causes = causes;
      memory = (
        λ is. memory_where ending.lacks_memory some (status_besides ending) (λ e. besides_apart ending.passes_limit (all_halts ending.halts) statuses.Memory (ends_halt feeds (reports_in report)) e (inr refl)) (sym answer_is ∙ is),
        λ is. answer_is ∙ lacking_where ending.lacks_memory some (status_besides ending) is,
      );
      rose = λ risen. fault_or ending.lacks_memory some (status_besides ending) status (some_rose.1 risen) answer_is;
      faulted = λ is. some_rose.0 (fault_where ending.lacks_memory some (status_besides ending) (λ e. besides_apart ending.passes_limit (all_halts ending.halts) statuses.Fault (ends_halt feeds (reports_in report)) e (inl refl)) (sym answer_is ∙ is));
      calm = calm;
      whole = whole;
    };
  }

  alone : IsUnwatchedRecording options range out feeds old new it
  unfolding writes
  alone = record {
    wrote = writes;
    lacked = lacked_is;
    unviewed = viewed_is;
    no_sinks = sinks_are;
    rose = rose_alone;
  }

pub unwatched_recordings : UnwatchedRecordings
unwatched_recordings options range out feeds old new report sealed reports status it = alone options range out feeds old new report sealed reports status it
