-- From the parts of a recording with watchers to what the program promises of it.
use Rattle.std.proofs.Common.{◌≡◌, ◌⊎◌, ℕ, ◌^◌, ◌<◌, ◌≤◌, suc, length, Bool, true, false, cond, ◌||◌, not, map, List, [], ◌∷◌, Option, Some, None, refl, sym, ap, subst, inl, inr, ◌∙◌, arith}
use Rattle.std.specs.List.{list_any, AllZip}
use Rattle.std.proofs.lemmas.Bool.{both_ways, false_from_ne_true}
use Rattle.std.proofs.lemmas.Option.{same_Some, none-some}
use Rattle.std.proofs.lemmas.List.{length-map}
use Rattle.mcap_io.specs.Outside.{Rose, WorldState, SinkState, Told, Opening, added}
use Rattle.mcap_model.specs.declared.replay.Range.{Range}
use Rattle.mcap_model.specs.Places.{At, Each}
use Rattle.mcap_model.proofs.Places.{at_within}
use Rattle.mcap_model.specs.Kept.{Halt}
use Rattle.mcap_model.specs.declared.options.RecordOptions.{RecordOptions}
use Rattle.recorder.specs.declared.report.Report.{Report}
use Rattle.recorder.specs.Lanes.{AreMessagesListed}
use Rattle.feed_lane.specs.declared.report.FeedReport.{FeedReport}
use Rattle.feed_lane.specs.Steps.{ListsMessages}
use Rattle.live_watcher.specs.declared.report.WatchEnd.{WatchEnd}
use Rattle.live_watcher.specs.declared.report.WatchEnd.TheVariants as watch_ends
use Rattle.live_watcher.specs.declared.report.WatchReport.{WatchReport}
use Rattle.live_recording.specs.Watched.{Watch}
use Rattle.command_base.specs.Printing.{Takes}
use Rattle.command_base.specs.declared.statuses.Status.{Status}
use Rattle.command_base.specs.declared.statuses.Status.TheVariants as statuses
use Rattle.command_base.specs.Texts.{halt_status}
use Rattle.command_base.specs.Ran.{Scene, Complains, has_failed, blamed_names, input_faults, output_faults}
use Rattle.command_record.specs.declared.recording.RecordingReport.{RecordingReport}
use Rattle.command_record.specs.RecordSteps.{AreListed, IsReportOf}
use Rattle.command_record.specs.declared.watched_names.WatchedOutcome.{WatchedOutcome}
use Rattle.command_record.specs.declared.watched_answer.WatchedCounts.{WatchedCounts}
use Rattle.command_record.specs.declared.watched_answer.WatchedFailures.{WatchedFailures}
use Rattle.recorder.specs.Findings.{limit_passed, passes_limit, lacks_memory}
use Rattle.command_record.specs.Record.{feed_entry, live_entry, reports_in, worst, report_text, FeedHalts}
use Rattle.mcap_io.specs.declared.outside.ObjectKind.TheVariants as kinds
use Rattle.command_base.specs.Outputs.{inputs_and_output, failed_of, some_failed}
use Rattle.command_base.specs.OutputSteps.{flags_of}
use Rattle.command_record.specs.Sinks.{SinkKept, sink_entry}
use Rattle.command_record.specs.Watched.{Requested, named, requested, reported_with, CountsBeside, ReportedBeside, is_watch_fault, is_flaw}
use Rattle.command_record.specs.WatchedSteps.{NamesWatched, some_flaw, watch_flags_of, blamed_in, AnyPartFailed, WatchedPartsShow, LacksMemoryBeside, AnswersBeside}
use Rattle.command_record.specs.WatchedAnswer.{watched_counts_in, AnyCountRose, is_memory_watch, lacks_beside, LackIsToldBeside, BlamesExactly, ends_status_beside, EndsBeside, watched_troubles, RecordsAllBeside, RecordsSo, Records}
use Rattle.command_record.proofs.Runs.{input_faults-append, output_faults-append}
use Rattle.command_base.proofs.BlamedNames.{flags_long}
use Rattle.command_record.proofs.Flags.{every_caused}
use Rattle.command_record.proofs.Parts.{on_or_off, shown_same}
use Rattle.command_record.proofs.Statuses.{where_lacked, where_enough}
use Rattle.command_record.proofs.Whole.{Read, as_many, ends_decided, all_recorded, any_at, map_long, at_map, sources_write_nothing, unlimited, unlimited_status, limit_kept, undone_memory, undone_fault}
use Rattle.command_record.proofs.WatchedFlags.{watch_flags_long, blamed_long, counted_rose, rose_some, ShowingBeside}
use Rattle.command_record.proofs.WatchedStatuses.{any_part, watched_status, worst_unflawed, none_flawed}

-- ---- what was read

sinks_give_nothing : (ks : List SinkKept) → input_faults (map sink_entry ks) ≡ 0
sinks_give_nothing [] = refl
sinks_give_nothing (k ∷ ks) = let more = sinks_give_nothing ks in omega (arith, more)

sinks_count_apart : (ks : List SinkKept) → output_faults (map sink_entry ks) ≡ 0
sinks_count_apart [] = refl
sinks_count_apart (k ∷ ks) = let more = sinks_count_apart ks in omega (arith, more)

read_beside : (options : RecordOptions) (range : Range) (out : List ℕ) (watches feeds : List (List ℕ)) (old new : WorldState) (entries : List Opening) (failures : ℕ) (r : Report) (sealed : Bool) (reports : List WatchReport)
    → ReportedBeside (requested options range out watches feeds) old new entries failures (reported_with r sealed reports) → CountsBeside old new entries failures → Read options feeds old new r
read_beside options range out watches feeds old new entries failures r sealed reports is counts =
    let sinks = map sink_entry is.kept_sinks in
    let sources = map feed_entry is.kept_feeds in
    let store = live_entry out is.live_now is.live_kept in
    record {
      given = is.given;
      kept_feeds = is.kept_feeds;
      live = is.viewed;
      live_now = is.live_now;
      recorded = is.recorded;
      tells = is.tells;
      unused = is.unused;
      inputs =
          let all = counts.kept.inputs ∙ ap (λ (es : List Opening). added old.input_faults (input_faults es)) is.kept_are in
          omega (arith, all, input_faults-append sources (store ∷ sinks), sinks_give_nothing is.kept_sinks);
      outputs =
          let all = counts.kept.outputs ∙ ap (λ (es : List Opening). added old.output_faults (output_faults es)) is.kept_are in
          omega (arith, all, output_faults-append sources (store ∷ sinks), sources_write_nothing is.kept_feeds, sinks_count_apart is.kept_sinks);
    }

-- as many reports as watchers
as_many_watches : (options : RecordOptions) (range : Range) (out : List ℕ) (watches feeds : List (List ℕ)) (old new : WorldState) (entries : List Opening) (failures : ℕ) (r : Report) (sealed : Bool) (reports : List WatchReport)
    → ReportedBeside (requested options range out watches feeds) old new entries failures (reported_with r sealed reports) → length reports ≡ length watches
as_many_watches options range out watches feeds old new entries failures r sealed reports is =
    ap length is.reports_are ∙ map_long (λ (w : Watch). w.report) is.seen ∙ sym (map_long (λ (w : Watch). w.now) is.seen) ∙ ap length is.sinks_are
    ∙ map_long (λ (k : SinkKept). k.back) is.kept_sinks ∙ sym (map_long (λ (k : SinkKept). k.name) is.kept_sinks) ∙ sym (ap length is.watches_are)

module _ (options : RecordOptions) (range : Range) (out : List ℕ) (watches feeds : List (List ℕ)) (old new : WorldState) (outcome : WatchedOutcome) (made : NamesWatched (requested options range out watches feeds) old new outcome)
    (inputs_fit : old.input_faults < 2 ^ 64) (outputs_fit : old.output_faults < 2 ^ 64) where
  read_in : (r : Report) → outcome.report ≡ Some r → Read options feeds old new r
  read_in r here = read_beside options range out watches feeds old new made.entries made.failures r outcome.sealed outcome.watches.items (made.reported r here) made.counts

  few_reports : (report : Option Report) → outcome.report ≡ report → length (reports_in report) ≤ length feeds
  few_reports None here = omega arith
  few_reports (Some r) here = omega (arith, as_many options feeds old new r (read_in r here) inputs_fit outputs_fit)

  few_watched : (report : Option Report) → outcome.report ≡ report → length outcome.watches.items ≤ length watches
  few_watched None here = omega (arith, ap length (made.none here))
  few_watched (Some r) here = omega (arith, as_many_watches options range out watches feeds old new made.entries made.failures r outcome.sealed outcome.watches.items (made.reported r here))

-- ---- what failed

module _ (before now : WatchedCounts) (watches feeds : List (List ℕ)) (outcome : WatchedOutcome) (failed : WatchedFailures) (many_watches : Rose before.watches now.watches → 1 ≤ length watches) (many : 1 ≤ length feeds) (shows : WatchedPartsShow before now watches feeds outcome failed) where
  feed_rose : (failed.parts.every_input ≡ true) ⊎ (some_failed failed.parts.inputs.now ≡ true) → AnyCountRose before now
  feed_rose some = elim (shows.causes.feed_cause (every_caused feeds failed.parts some many)) [ inl world ↦ inl (inl world) | inr inputs ↦ inl (inr (inl inputs)) ]

  watch_rose : some_failed (watch_flags_of watches failed) ≡ true → AnyCountRose before now
  watch_rose some = elim (shows.causes.watch_cause some) [ inl world ↦ inl (inl world) | inr (inl outputs) ↦ inl (inr (inr (inl outputs))) | inr (inr sinks) ↦ inr sinks ]

  out_rose : failed.parts.out ≡ true → AnyCountRose before now
  out_rose some = elim (shows.causes.out_cause some) [ inl world ↦ inl (inl world) | inr outputs ↦ inl (inr (inr (inl outputs))) ]

  printing_rose : failed.parts.printing ≡ true → AnyCountRose before now
  printing_rose some = inl (inr (inr (inr (shows.printing.0 some))))

  -- a part that failed has a count
  part_rose : AnyPartFailed failed → AnyCountRose before now
  part_rose some = elim some [
    | inl (inl every) ↦ feed_rose (inl every)
    | inl (inr (inl feed)) ↦ feed_rose (inr feed)
    | inl (inr (inr (inl own))) ↦ out_rose own
    | inl (inr (inr (inr own))) ↦ printing_rose own
    | inr (inl every) ↦ inr (shows.every every)
    | inr (inr one) ↦ elim (on_or_off failed.every_watch) [
      | inl every ↦ inr (shows.every every)
      | inr off ↦ watch_rose (ap some_failed (shown_same watches failed.every_watch failed.watches.now off) ∙ one)
    ]
  ]

  lacks : (report : Option Report) (sealed : Bool) (reports : List WatchReport) (lacked : Bool) → LacksMemoryBeside report sealed reports failed lacked → LackIsToldBeside before now report sealed reports lacked
  lacks None sealed reports lacked lacking = (λ quiet. lacking.0 (λ some. quiet (part_rose some)), λ is risen. lacking.1 is (shows.any risen))
  lacks (Some r) sealed reports lacked lacking = lacking

  -- ---- the status

  abbrev parts : Bool
  parts = any_part (flags_of feeds failed.parts) failed.parts.out (watch_flags_of watches failed) failed.parts.printing

  rise : AnyCountRose before now → parts ≡ true
  rise risen =
      let flags = some_failed (flags_of feeds failed.parts) in
      let sinks = some_failed (watch_flags_of watches failed) in
      elim risen [
        | inl (inl world) ↦ elim (shows.causes.world_told world) [
          | inl some ↦ some_of flags failed.parts.out sinks failed.parts.printing (inl some)
          | inr (inl some) ↦ some_of flags failed.parts.out sinks failed.parts.printing (inr (inl some))
          | inr (inr some) ↦ some_of flags failed.parts.out sinks failed.parts.printing (inr (inr (inl some)))
        ]
        | inl (inr (inl inputs)) ↦ some_of flags failed.parts.out sinks failed.parts.printing (inl (shows.causes.inputs_told inputs))
        | inl (inr (inr (inl outputs))) ↦ some_of flags failed.parts.out sinks failed.parts.printing (inr (inl (shows.causes.outputs_told outputs)))
        | inl (inr (inr (inr printing))) ↦ some_of flags failed.parts.out sinks failed.parts.printing (inr (inr (inr (shows.printing.1 printing))))
        | inr count ↦ some_of flags failed.parts.out sinks failed.parts.printing (inr (inr (inl (shows.causes.watches_told count))))
      ]
    where
      some_of : (a b c d : Bool) → (a ≡ true) ⊎ ((b ≡ true) ⊎ ((c ≡ true) ⊎ (d ≡ true))) → (a || (b || (c || d))) ≡ true
      some_of true b c d some = refl
      some_of false true c d some = refl
      some_of false false true d some = refl
      some_of false false false true some = refl
      some_of false false false false (inl is) = absurd cc
      some_of false false false false (inr (inl is)) = absurd cc
      some_of false false false false (inr (inr (inl is))) = absurd cc
      some_of false false false false (inr (inr (inr is))) = absurd cc

  fall : (AnyCountRose before now → ⊥) → parts ≡ false
  fall quiet =
      none_of (some_failed (flags_of feeds failed.parts)) failed.parts.out (some_failed (watch_flags_of watches failed)) failed.parts.printing
      (λ some. elim (shows.causes.feed_cause some) [ inl world ↦ quiet (inl (inl world)) | inr inputs ↦ quiet (inl (inr (inl inputs))) ])
      (λ some. quiet (out_rose some)) (λ some. quiet (watch_rose some)) (λ some. quiet (printing_rose some))
    where
      none_of : (a b c d : Bool) → (a ≡ true → ⊥) → (b ≡ true → ⊥) → (c ≡ true → ⊥) → (d ≡ true → ⊥) → (a || (b || (c || d))) ≡ false
      none_of true b c d first second third fourth = absurd (first refl)
      none_of false true c d first second third fourth = absurd (second refl)
      none_of false false true d first second third fourth = absurd (third refl)
      none_of false false false true first second third fourth = absurd (fourth refl)
      none_of false false false false first second third fourth = refl

  ended : (out : List ℕ) (err err_now : SinkState) (answer : Status) → length (reports_in outcome.report) ≤ length feeds → length outcome.watches.items ≤ length watches → length (flags_of feeds failed.parts) ≤ length feeds → length (watch_flags_of watches failed) ≤ length watches
      → (a : AnswersBeside (named out watches feeds) outcome failed err err_now answer) → EndsBeside before now outcome.report outcome.watches.items a.lacked answer
  ended out err err_now answer few few_ends few_flags few_sinks a =
      let rest = cond (limit_passed outcome.report) statuses.Limit (ends_status_beside (reports_in outcome.report) outcome.watches.items) in
      let told = cond parts statuses.Fault rest in
      let status : answer ≡ cond a.lacked statuses.Memory told = a.told.status_is ∙ watched_status out watches feeds outcome.report outcome.watches.items (blamed_in watches feeds failed) failed.parts.printing a.lacked few few_ends few_flags few_sinks in
      record {
        memory = where_lacked a.lacked told answer status;
        rose = λ enough risen. where_enough a.lacked told answer status enough ∙ ap (λ (b : Bool). cond b statuses.Fault rest) (rise risen);
        calm = λ enough quiet r here.
            where_enough a.lacked told answer status enough
            ∙ ap (λ (b : Bool). cond b statuses.Fault rest) (fall quiet)
            ∙ ap (λ (x : Option Report). cond (limit_passed x) statuses.Limit (ends_status_beside (reports_in x) outcome.watches.items)) here;
      }

-- ---- all was done

enough_memory : (before now : WatchedCounts) (report : Option Report) (reports : List WatchReport) (lacked : Bool) (answer : Status) → EndsBeside before now report reports lacked answer → answer ≡ statuses.Done → lacked ≡ false
enough_memory before now report reports lacked answer came is = false_from_ne_true lacked (λ lacks. undone_memory answer (came.memory lacks) is)

calm : (before now : WatchedCounts) (report : Option Report) (reports : List WatchReport) (lacked : Bool) (answer : Status) → EndsBeside before now report reports lacked answer → answer ≡ statuses.Done → AnyCountRose before now → ⊥
calm before now report reports lacked answer came is risen =
    undone_fault answer (came.rose (enough_memory before now report reports lacked answer came is) risen) is

-- nothing lacked, so that for none of the three memory did
none_lacks : (a sealed c : Bool) → (a || (not sealed || c)) ≡ false → (a ≡ false) × ((sealed ≡ true) × (c ≡ false))
none_lacks true sealed c none = absurd cc
none_lacks false true true none = absurd cc
none_lacks false true false none = (refl, (refl, refl))
none_lacks false false c none = absurd cc

-- no watcher found a flaw
none_flaws : (ws : List Watch) → Each (λ (w : Watch). is_flaw w.report.end ≡ false) ws → some_flaw (map (λ (w : Watch). w.report) ws) ≡ false
none_flaws [] none = refl
none_flaws (w ∷ ws) none = ap (λ (b : Bool). b || some_flaw (map (λ (x : Watch). x.report) ws)) (none 0 w refl) ∙ none_flaws ws (λ n x at. none (suc n) x at)

whole_or : (end : WatchEnd) → (is_watch_fault end ≡ true → ⊥) → (is_flaw end ≡ true → ⊥) → (is_memory_watch end ≡ true → ⊥) → (end ≡ watch_ends.Unsealed → ⊥) → end ≡ watch_ends.Whole
whole_or watch_ends.Whole no_fault no_flaw no_lack no_other = refl
whole_or watch_ends.Unsealed no_fault no_flaw no_lack no_other = absurd (no_other refl)
whole_or (watch_ends.Fault faults) no_fault no_flaw no_lack no_other = absurd (no_fault refl)
whole_or (watch_ends.Flaw rule n) no_fault no_flaw no_lack no_other = absurd (no_flaw refl)
whole_or watch_ends.Memory no_fault no_flaw no_lack no_other = absurd (no_lack refl)

-- ---- the whole

module _ (options : RecordOptions) (range : Range) (out : List ℕ) (watches feeds : List (List ℕ)) (old new : Scene) (outcome : WatchedOutcome) (made : NamesWatched (requested options range out watches feeds) old.world new.world outcome)
    (inputs_fit : old.world.input_faults < 2 ^ 64) (outputs_fit : old.world.output_faults < 2 ^ 64) (lacked : Bool) (answer : Status) where
  abbrev before : WatchedCounts
  before = watched_counts_in watches old

  abbrev after : WatchedCounts
  after = watched_counts_in watches new

  module _ (report : Option Report) (here : outcome.report ≡ report) (lacking : LackIsToldBeside before after report outcome.sealed outcome.watches.items lacked) (came : EndsBeside before after report outcome.watches.items lacked answer) where
    decided_in : (r : Report) → report ≡ Some r → (told : Told) (halts : List Halt) → old.world.told ≡ Some told → AllZip (FeedHalts told) feeds halts
        → (AnyCountRose before after → ⊥) → lacked ≡ false → passes_limit r ≡ false → answer ≡ worst (map halt_status halts)
    decided_in r is told halts there all quiet enough within =
        let lacking_here : lacked ≡ lacks_beside r outcome.sealed outcome.watches.items = subst (λ (x : Option Report). LackIsToldBeside before after x outcome.sealed outcome.watches.items lacked) is lacking in
        let none = none_lacks (lacks_memory r) outcome.sealed _ (sym lacking_here ∙ enough) in
        let it = made.reported r (here ∙ is) in
        let unflawed : some_flaw outcome.watches.items ≡ false = ap some_flaw it.reports_are ∙ none_flaws it.seen (it.unflawed told there) in
        let ends = ends_decided options feeds old.world new.world r (read_in options range out watches feeds old.world new.world outcome made inputs_fit outputs_fit r (here ∙ is)) inputs_fit outputs_fit
        (λ rose. quiet (inl (inr (inl rose)))) (λ rose. quiet (inl (inr (inr (inl rose))))) none.0 within told halts there all in
        unlimited (passes_limit r) (ends_status_beside r.feeds.items outcome.watches.items) answer (came.calm enough quiet r is) within
        ∙ worst_unflawed r.feeds.items outcome.watches.items unflawed ∙ ap worst ends

    whole_in : (r : Report) → report ≡ Some r → answer ≡ statuses.Done → RecordsAllBeside options r outcome.sealed outcome.watches.items
    whole_in r is done =
        let reports = outcome.watches.items in
        let enough = enough_memory before after report reports lacked answer came done in
        let quiet = calm before after report reports lacked answer came done in
        let lacking_here : lacked ≡ lacks_beside r outcome.sealed reports = subst (λ (x : Option Report). LackIsToldBeside before after x outcome.sealed reports lacked) is lacking in
        let none = none_lacks (lacks_memory r) outcome.sealed _ (sym lacking_here ∙ enough) in
        let asked = ends_status_beside r.feeds.items reports in
        let status = came.calm enough quiet r is in
        let within = limit_kept (passes_limit r) asked answer status done in
        let ends = unlimited_status (passes_limit r) asked answer status done in
        let unflawed = none_flawed r.feeds.items reports ends in
        let it = made.reported r (here ∙ is) in
        record {
          all = all_recorded options feeds old.world new.world r (read_in options range out watches feeds old.world new.world outcome made inputs_fit outputs_fit r (here ∙ is)) inputs_fit outputs_fit
              (λ rose. quiet (inl (inr (inl rose)))) (λ rose. quiet (inl (inr (inr (inl rose))))) none.0 within (sym (worst_unflawed r.feeds.items reports unflawed) ∙ ends);
          sealed_is = none.1.0;
          whole = λ n w at.
              let seen = at_map (λ (x : Watch). x.report) it.seen n w (subst (λ (l : List WatchReport). At l n w) it.reports_are at) in
              let within = at_within reports n w at in
              let long = as_many_watches options range out watches feeds old.world new.world made.entries made.failures r outcome.sealed reports it in
              let some : 1 ≤ length watches = omega (arith, within, long) in
              let same : w.end ≡ seen.0.report.end = ap (λ (x : WatchReport). x.end) seen.2 in
              whole_or w.end
              (λ fault. elim (it.fault_cause n seen.0 seen.1 (ap is_watch_fault (sym same) ∙ fault)) [ inl outputs ↦ quiet (inl (inr (inr (inl outputs)))) | inr sinks ↦ quiet (inr (counted_rose watches old.world.watch_faults new.world.watch_faults some sinks)) ])
              (λ flaw. both_ways (some_flaw reports) unflawed (any_at (λ (x : WatchReport). is_flaw x.end) reports n w at flaw))
              (λ lack. both_ways (list_any (λ (x : WatchReport). is_memory_watch x.end) reports) none.1.1 (any_at (λ (x : WatchReport). is_memory_watch x.end) reports n w at lack))
              (λ unsealed. it.sealed_ends none.1.0 n seen.0 seen.1 (sym same ∙ unsealed));
        }

    no_report : report ≡ None → lacked ≡ false → (AnyCountRose before after → ⊥) → ⊥
    no_report is enough quiet =
        let lacking_here = subst (λ (x : Option Report). LackIsToldBeside before after x outcome.sealed outcome.watches.items lacked) is lacking in
        both_ways lacked enough (lacking_here.0 quiet)

  decided : (report : Option Report) → outcome.report ≡ report → LackIsToldBeside before after report outcome.sealed outcome.watches.items lacked → EndsBeside before after report outcome.watches.items lacked answer
      → (told : Told) (halts : List Halt) → old.world.told ≡ Some told → AllZip (FeedHalts told) feeds halts
      → (AnyCountRose before after → ⊥) → lacked ≡ false → limit_passed report ≡ false → answer ≡ worst (map halt_status halts)
  decided None here lacking came told halts there all quiet enough within = absurd (no_report None here lacking came refl enough quiet)
  decided (Some r) here lacking came told halts there all quiet enough within = decided_in (Some r) here lacking came r refl told halts there all quiet enough within

  whole : (report : Option Report) → outcome.report ≡ report → LackIsToldBeside before after report outcome.sealed outcome.watches.items lacked → EndsBeside before after report outcome.watches.items lacked answer
      → answer ≡ statuses.Done → (r : Report) × (report ≡ Some r) × RecordsAllBeside options r outcome.sealed outcome.watches.items
  whole None here lacking came done =
      absurd (no_report None here lacking came refl (enough_memory before after None outcome.watches.items lacked answer came done) (calm before after None outcome.watches.items lacked answer came done))
  whole (Some r) here lacking came done = (r, refl, whole_in (Some r) here lacking came r refl done)

-- which names are blamed
blames : (options : RecordOptions) (range : Range) (out : List ℕ) (watches feeds : List (List ℕ)) (old new : Scene) (outcome : WatchedOutcome) (failed : WatchedFailures) → (made : NamesWatched (requested options range out watches feeds) old.world new.world outcome)
    → WatchedPartsShow (watched_counts_in watches old) (watched_counts_in watches new) watches feeds outcome failed → ShowingBeside watches old.world new.world outcome → BlamesExactly old.world (named out watches feeds) made.entries outcome.watches.items (blamed_in watches feeds failed)
blames options range out watches feeds old new outcome failed made shows showing = record {
  inputs = made.inputs;
  outputs = made.outputs;
  sinks = made.sinks;
  parts = made.parts;
  sources = made.sources;
  stores = made.stores;
  writers = made.writers;
  few_feeds = flags_long feeds failed.parts (omega (arith, ap length (shows.feeds_told ∙ made.feeds_failed), length-map made.inputs has_failed, made.few));
  few_watches = blamed_long watches failed (omega (arith, ap length (shows.watches_told ∙ made.watches_failed), watch_flags_long made.sinks outcome.watches.items, made.few_sinks));
  feeds_are = λ on. shows.feeds_are (showing.inputs_told on.seen.inputs) ∙ made.feeds_failed;
  out_is = λ on. shows.out_is (showing.outputs_told on.seen.outputs) (showing.world_told on.seen.world) ∙ made.out_failed;
  watches_are = λ on. shows.watches_are (showing.watches_told on.watching) ∙ made.watches_failed;
  named = λ on.
      let first = shows.feeds_are (showing.inputs_told on.seen.inputs) in
      let second = shows.out_is (showing.outputs_told on.seen.outputs) (showing.world_told on.seen.world) in
      made.failed
      ∙ ap (λ (l : List Bool). blamed_names (inputs_and_output kinds.Source feeds out) (failed_of l outcome.out_failed)) (sym first)
      ∙ ap (λ (b : Bool). blamed_names (inputs_and_output kinds.Source feeds out) (failed_of (flags_of feeds failed.parts) b)) (sym second);
}

-- all that the program promises of a recording with watchers
pub watched_recorded : (options : RecordOptions) (range : Range) (out : List ℕ) (watches feeds : List (List ℕ)) (old new : Scene) (outcome : WatchedOutcome) (failed : WatchedFailures) (answer : Status) → 1 ≤ length feeds
    → old.world.input_faults < 2 ^ 64 → old.world.output_faults < 2 ^ 64 → NamesWatched (requested options range out watches feeds) old.world new.world outcome → ShowingBeside watches old.world new.world outcome → Takes old.out new.out (report_text outcome.report)
    → AnswersBeside (named out watches feeds) outcome failed old.err new.err answer → WatchedPartsShow (watched_counts_in watches old) (watched_counts_in watches new) watches feeds outcome failed → RecordsSo (requested options range out watches feeds) old new outcome.report outcome.sealed outcome.watches.items answer
watched_recorded options range out watches feeds old new outcome failed answer many inputs_fit outputs_fit made showing prints a shows =
    let before = watched_counts_in watches old in
    let now = watched_counts_in watches new in
    let many_watches = rose_some watches old.world.watch_faults new.world.watch_faults in
    let exact = blames options range out watches feeds old new outcome failed made shows showing in
    let few = few_reports options range out watches feeds old.world new.world outcome made inputs_fit outputs_fit outcome.report refl in
    let few_ends = few_watched options range out watches feeds old.world new.world outcome made inputs_fit outputs_fit outcome.report refl in
    let came = ended before now watches feeds outcome failed many_watches many shows out old.err new.err answer few few_ends exact.few_feeds exact.few_watches a in
    let lacking = lacks before now watches feeds outcome failed many_watches many shows outcome.report outcome.sealed outcome.watches.items a.lacked a.lacks in
    record {
      entries = made.entries;
      opened = made.opened;
      leaves = made.leaves;
      failures = made.failures;
      counts = made.counts;
      reported = made.reported;
      unreported = made.unreported;
      none = made.none;
      spares = made.spares;
      lacked = a.lacked;
      lacks = lacking;
      printed = prints;
      blamed = blamed_in watches feeds failed;
      exact = exact;
      causes = shows.causes;
      printing = failed.parts.printing;
      blames_output = shows.printing;
      said = a.told;
      ended = came;
      decided = decided options range out watches feeds old new outcome made inputs_fit outputs_fit a.lacked answer outcome.report refl lacking came;
      whole = whole options range out watches feeds old new outcome made inputs_fit outputs_fit a.lacked answer outcome.report refl lacking came;
    }

-- what holds of counts holds of equal ones
pub watched_shows_in : (b before n now : WatchedCounts) (watches feeds : List (List ℕ)) (outcome : WatchedOutcome) (failed : WatchedFailures) → b ≡ before → n ≡ now → WatchedPartsShow b n watches feeds outcome failed → WatchedPartsShow before now watches feeds outcome failed
watched_shows_in b before n now watches feeds outcome failed same same_now shows =
    subst (λ (x : WatchedCounts). WatchedPartsShow before x watches feeds outcome failed) same_now (subst (λ (x : WatchedCounts). WatchedPartsShow x n watches feeds outcome failed) same shows)

pub watched_counts_same : (P : WatchedCounts → WatchedCounts → Type 0) (b before n now : WatchedCounts) → b ≡ before → n ≡ now → P before now → P b n
watched_counts_same P b before n now same same_now holds = subst (λ (x : WatchedCounts). P x n) (sym same) (subst (P before) (sym same_now) holds)

pub some_counted : (b before n now : WatchedCounts) (watches : List (List ℕ)) → b ≡ before → n ≡ now → (Rose before.watches now.watches → 1 ≤ length watches) → Rose b.watches n.watches → 1 ≤ length watches
some_counted b before n now watches same same_now some = watched_counts_same (λ (x y : WatchedCounts). Rose x.watches y.watches → 1 ≤ length watches) b before n now same same_now some

-- without a report there are none on watchers, and nothing is said of whether these were told of the end
unreported_so : (request : Requested) (old new : Scene) (sealed : Bool) (reports : List WatchReport) (status : Status) → RecordsSo request old new None sealed reports status → RecordsSo request old new None true [] status
unreported_so request old new sealed reports status it =
    let none : reports ≡ [] = it.none refl in
    record {
      entries = it.entries;
      opened = it.opened;
      leaves = it.leaves;
      failures = it.failures;
      counts = it.counts;
      reported = λ r is. absurd (none-some r is);
      unreported = it.unreported;
      none = λ is. refl;
      spares = it.spares;
      lacked = it.lacked;
      lacks = it.lacks;
      printed = it.printed;
      blamed = it.blamed;
      exact = subst (λ (l : List WatchReport). BlamesExactly old.world request.names it.entries l it.blamed) none it.exact;
      causes = it.causes;
      printing = it.printing;
      blames_output = it.blames_output;
      said = subst (λ (l : List WatchReport). Complains (watched_troubles request.names None l it.lacked it.blamed it.printing) old.err new.err status) none it.said;
      ended = subst (λ (l : List WatchReport). EndsBeside (watched_counts_in request.names.watches old) (watched_counts_in request.names.watches new) None l it.lacked status) none it.ended;
      decided = it.decided;
      whole = λ is. let all = it.whole is in absurd (none-some all.0 all.1);
    }

-- what a recording answers has all of these
pub with_report : (request : Requested) (old new : Scene) (recorded : Option Report) (sealed : Bool) (watchers : List WatchReport) (report : Option RecordingReport) (status : Status)
    → IsReportOf recorded sealed watchers report → RecordsSo request old new recorded sealed watchers status → Records request old new report status
with_report request old new None sealed watchers report status is it =
    subst (λ (r : Option RecordingReport). Records request old new r status) (sym is) (unreported_so request old new sealed watchers status it)
with_report request old new (Some r) sealed watchers report status (all, is, recorded, told, ends) it =
    subst (λ (x : Option RecordingReport). Records request old new x status) (sym is)
    (subst (λ (x : Report). RecordsSo request old new (Some x) all.sealed all.watchers.items status) (sym recorded)
    (subst (λ (b : Bool). RecordsSo request old new (Some r) b all.watchers.items status) (sym told)
    (subst (λ (l : List WatchReport). RecordsSo request old new (Some r) sealed l status) (sym ends) it)))

pub listed_so : (listed : Bool) (recorded : Option Report) (sealed : Bool) (watchers : List WatchReport) (report : Option RecordingReport) → IsReportOf recorded sealed watchers report → AreMessagesListed recorded listed → AreListed report listed
listed_so listed None sealed watchers report is lists r here = absurd (none-some r (sym is ∙ here))
listed_so listed (Some recorded) sealed watchers report (all, is, same, told, ends) lists r here =
    subst (λ (x : RecordingReport). Each (λ (f : FeedReport). ListsMessages f listed) x.recorded.feeds.items) (same_Some all r (sym is ∙ here))
    (subst (λ (x : Report). Each (λ (f : FeedReport). ListsMessages f listed) x.feeds.items) (sym same) (lists recorded refl))
