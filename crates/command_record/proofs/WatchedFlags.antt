-- What a recording with watchers tells of failures shows in the counts, and the other way round.
use Rattle.std.proofs.Common.{◌≡◌, ◌⊎◌, ℕ, suc, ◌+◌, ◌-◌, ◌^◌, ◌<◌, ◌≤◌, Bool, true, false, ◌||◌, List, [], ◌∷◌, ◌++◌, length, map, refl, sym, ap, inl, inr, ◌∙◌, arith}
use Rattle.std.specs.List.{list_any}
use Rattle.std.proofs.lemmas.List.{length-map}
use Rattle.mcap_io.specs.Outside.{Rose, WorldState, Opening}
use Rattle.mcap_io.specs.declared.outside.ObjectKind.{ObjectKind}
use Rattle.mcap_io.specs.declared.outside.ObjectKind.TheVariants as kinds
use Rattle.mcap_model.specs.declared.replay.Range.{Range}
use Rattle.mcap_model.specs.declared.options.RecordOptions.{RecordOptions}
use Rattle.live_watcher.specs.declared.report.WatchReport.{WatchReport}
use Rattle.command_base.specs.Ran.{has_failed, object_faults, source_faults, live_faults, world_faults, input_faults, output_faults}
use Rattle.command_record.specs.declared.watched_names.WatchedOutcome.{WatchedOutcome}
use Rattle.command_record.specs.declared.watched_answer.WatchedFailures.{WatchedFailures}
use Rattle.command_base.specs.Outputs.{some_failed}
use Rattle.command_record.specs.Watched.{requested, with_ends, watch_flags, is_watch_fault}
use Rattle.command_record.specs.WatchedAnswer.{counted_watches}
use Rattle.command_record.specs.WatchedSteps.{NamesWatched, watch_flags_of}
use Rattle.command_record.proofs.Runs.{world_faults-append, input_faults-append, output_faults-append}
use Rattle.command_record.proofs.Flags.{AreKind, rest_kind, long_of, some_has_input, some_has_output, world_has, inputs_have, outputs_have, stores_read_nothing, feeds_write_nothing, any_flag, some_more}

-- ---- sinks

no_inputs_of : (kind : ObjectKind) (n : ℕ) → kind ≡ kinds.Sink → source_faults kind n ≡ 0
no_inputs_of kind n is = ap (λ (k : ObjectKind). source_faults k n) is

no_outputs_of : (kind : ObjectKind) (n : ℕ) → kind ≡ kinds.Sink → live_faults kind n ≡ 0
no_outputs_of kind n is = ap (λ (k : ObjectKind). live_faults k n) is

pub sinks_read_nothing : (xs : List Opening) → AreKind kinds.Sink xs → input_faults xs ≡ 0
sinks_read_nothing [] are = refl
sinks_read_nothing (x ∷ xs) are = let more = sinks_read_nothing xs (rest_kind kinds.Sink x xs are) in omega (arith, more, no_inputs_of x.kind (object_faults x.kept) (are 0 x refl))

pub sinks_hold_nothing : (xs : List Opening) → AreKind kinds.Sink xs → output_faults xs ≡ 0
sinks_hold_nothing [] are = refl
sinks_hold_nothing (x ∷ xs) are = let more = sinks_hold_nothing xs (rest_kind kinds.Sink x xs are) in omega (arith, more, no_outputs_of x.kind (object_faults x.kept) (are 0 x refl))

flags_kept : (flags : List Bool) (reports : List WatchReport) → some_failed flags ≡ true → some_failed (with_ends flags reports) ≡ true
flags_kept [] reports some = absurd cc
flags_kept (b ∷ flags) [] some = flagged b (some_failed flags) (some_failed (with_ends flags [])) some (flags_kept flags [])
  where
    flagged : (a b c : Bool) → (a || b) ≡ true → (b ≡ true → c ≡ true) → (a || c) ≡ true
    flagged true b c some later = refl
    flagged false b c some later = later some
flags_kept (b ∷ flags) (w ∷ ws) some = flagged b (some_failed flags) (is_watch_fault w.end) (some_failed (with_ends flags ws)) some (flags_kept flags ws)
  where
    flagged : (a b d c : Bool) → (a || b) ≡ true → (b ≡ true → c ≡ true) → ((a || d) || c) ≡ true
    flagged true b d c some later = refl
    flagged false b true c some later = refl
    flagged false b false c some later = later some

-- a watcher whose sink failed is blamed
pub sink_blamed : (xs : List Opening) (reports : List WatchReport) → list_any has_failed xs ≡ true → some_failed (watch_flags xs reports) ≡ true
sink_blamed xs reports some = flags_kept (map has_failed xs) reports (any_flag xs ∙ some)

flags_long_with : (flags : List Bool) (reports : List WatchReport) → length (with_ends flags reports) ≡ length flags
flags_long_with [] reports = refl
flags_long_with (b ∷ flags) [] = ap suc (flags_long_with flags [])
flags_long_with (b ∷ flags) (w ∷ ws) = ap suc (flags_long_with flags ws)

pub watch_flags_long : (xs : List Opening) (reports : List WatchReport) → length (watch_flags xs reports) ≡ length xs
watch_flags_long xs reports = flags_long_with (map has_failed xs) reports ∙ length-map xs has_failed

pub blamed_long : (watches : List (List ℕ)) (failed : WatchedFailures) → length failed.watches.now ≤ length watches → length (watch_flags_of watches failed) ≤ length watches
blamed_long watches failed few = long_of watches failed.every_watch failed.watches.now few

-- some watcher is blamed only where there are some
pub some_sinks : (xs : List Opening) (reports : List WatchReport) → some_failed (watch_flags xs reports) ≡ true → (n : ℕ) → length xs ≤ n → 1 ≤ n
some_sinks [] reports some n few = absurd cc
some_sinks (x ∷ xs) reports some n few = omega (arith, few)

-- ---- the count of watchers' sinks and views

pub counted_rose : (watches : List (List ℕ)) (old new : ℕ) → 1 ≤ length watches → Rose old new → Rose (counted_watches watches old) (counted_watches watches new)
counted_rose [] old new some rose = absurd (omega (arith, some))
counted_rose (w ∷ ws) old new some rose = rose

pub rose_counted : (watches : List (List ℕ)) (old new : ℕ) → Rose (counted_watches watches old) (counted_watches watches new) → Rose old new
rose_counted [] old new rose = absurd (omega (arith, rose))
rose_counted (w ∷ ws) old new rose = rose

pub rose_some : (watches : List (List ℕ)) (old new : ℕ) → Rose (counted_watches watches old) (counted_watches watches new) → 1 ≤ length watches
rose_some [] old new rose = absurd (omega (arith, rose))
rose_some (w ∷ ws) old new rose = omega arith

count_on : (watches : List (List ℕ)) (old new : ℕ) → counted_watches watches old < 2 ^ 64 - 1 → Rose (counted_watches watches old) (counted_watches watches new) → old < 2 ^ 64 - 1
count_on [] old new on rose = absurd (omega (arith, rose))
count_on (w ∷ ws) old new on rose = on

-- ---- the whole

pub record ShowingBeside (watches : List (List ℕ)) (old new : WorldState) (outcome : WatchedOutcome) : Type 0 where
  pub feed_cause : some_failed outcome.feeds_failed.items ≡ true → Rose old.faults new.faults ⊎ Rose old.input_faults new.input_faults
  pub out_cause : outcome.out_failed ≡ true → Rose old.faults new.faults ⊎ Rose old.output_faults new.output_faults
  pub watch_cause : some_failed outcome.watches_failed.items ≡ true → Rose old.faults new.faults ⊎ (Rose old.output_faults new.output_faults ⊎ Rose (counted_watches watches old.watch_faults) (counted_watches watches new.watch_faults))
  pub inputs_told : old.input_faults < 2 ^ 64 - 1 → Rose old.input_faults new.input_faults → some_failed outcome.feeds_failed.items ≡ true
  pub outputs_told : old.output_faults < 2 ^ 64 - 1 → Rose old.output_faults new.output_faults → outcome.out_failed ≡ true
  pub watches_told : counted_watches watches old.watch_faults < 2 ^ 64 - 1 → Rose (counted_watches watches old.watch_faults) (counted_watches watches new.watch_faults) → some_failed outcome.watches_failed.items ≡ true
  pub world_told : old.faults < 2 ^ 64 - 1 → Rose old.faults new.faults → (some_failed outcome.feeds_failed.items ≡ true) ⊎ ((outcome.out_failed ≡ true) ⊎ (some_failed outcome.watches_failed.items ≡ true))

pub watched_outcomes_show : (options : RecordOptions) (range : Range) (out : List ℕ) (watches feeds : List (List ℕ)) (old new : WorldState) (outcome : WatchedOutcome) → NamesWatched (requested options range out watches feeds) old new outcome
    → old.faults < 2 ^ 64 → old.input_faults < 2 ^ 64 → old.output_faults < 2 ^ 64 → ShowingBeside watches old new outcome
watched_outcomes_show options range out watches feeds old new outcome made world_fits inputs_fit outputs_fit =
    let behind = made.outputs ++ made.sinks in
    let world : world_faults made.entries ≡ world_faults made.inputs + (world_faults made.outputs + world_faults made.sinks) =
    ap world_faults made.parts ∙ world_faults-append made.inputs behind ∙ ap (λ (n : ℕ). world_faults made.inputs + n) (world_faults-append made.outputs made.sinks) in
    let inputs : input_faults made.entries ≡ input_faults made.inputs + (input_faults made.outputs + input_faults made.sinks) =
    ap input_faults made.parts ∙ input_faults-append made.inputs behind ∙ ap (λ (n : ℕ). input_faults made.inputs + n) (input_faults-append made.outputs made.sinks) in
    let outputs : output_faults made.entries ≡ output_faults made.inputs + (output_faults made.outputs + output_faults made.sinks) =
    ap output_faults made.parts ∙ output_faults-append made.inputs behind ∙ ap (λ (n : ℕ). output_faults made.inputs + n) (output_faults-append made.outputs made.sinks) in
    let no_inputs = stores_read_nothing made.outputs made.stores in
    let no_reads = sinks_read_nothing made.sinks made.writers in
    let no_outputs = feeds_write_nothing made.inputs made.sources in
    let no_holds = sinks_hold_nothing made.sinks made.writers in
    let flags : some_failed outcome.feeds_failed.items ≡ list_any has_failed made.inputs = ap some_failed made.feeds_failed ∙ any_flag made.inputs in
    record {
      feed_cause = λ is. elim (some_has_input made.inputs made.sources (ap some_failed (sym made.feeds_failed) ∙ is)) [
        | inl some ↦ inl (omega (arith, made.counts.kept.world, world, some, world_fits))
        | inr some ↦ inr (omega (arith, made.counts.kept.inputs, inputs, some, inputs_fit))
      ];
      out_cause = λ is. elim (some_has_output made.outputs made.stores (sym made.out_failed ∙ is)) [
        | inl some ↦ inl (omega (arith, made.counts.kept.world, world, some, world_fits))
        | inr some ↦ inr (omega (arith, made.counts.kept.outputs, outputs, some, outputs_fit))
      ];
      watch_cause = λ is. elim (made.watch_cause is) [
        | inl risen ↦ inl risen
        | inr (inl outputs_rose) ↦ inr (inl outputs_rose)
        | inr (inr sinks_rose) ↦ inr (inr (counted_rose watches old.watch_faults new.watch_faults (some_sinks made.sinks outcome.watches.items (ap some_failed (sym made.watches_failed) ∙ is) (length watches) made.few_sinks) sinks_rose))
      ];
      inputs_told = λ on rose. flags ∙ inputs_have made.inputs made.sources (omega (arith, on, made.counts.kept.inputs, inputs, no_inputs, no_reads, rose));
      outputs_told = λ on rose. made.out_failed ∙ outputs_have made.outputs made.stores (omega (arith, on, made.counts.kept.outputs, outputs, no_outputs, no_holds, rose));
      watches_told = λ on rose. made.watch_told (count_on watches old.watch_faults new.watch_faults on rose) (rose_counted watches old.watch_faults new.watch_faults rose);
      world_told = λ on rose. elim (some_more (world_faults made.inputs) (world_faults made.outputs + world_faults made.sinks) (omega (arith, on, made.counts.kept.world, world, rose))) [
        | inl some ↦ inl (flags ∙ world_has made.inputs some)
        | inr some ↦ elim (some_more (world_faults made.outputs) (world_faults made.sinks) some) [
          | inl one ↦ inr (inl (made.out_failed ∙ world_has made.outputs one))
          | inr one ↦ inr (inr (ap some_failed made.watches_failed ∙ sink_blamed made.sinks outcome.watches.items (world_has made.sinks one)))
        ]
      ];
    }
