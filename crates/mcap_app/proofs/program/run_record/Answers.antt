-- The recording is one without watchers, or one with those of the names that were made.
use Rattle.std.proofs.Common.{inl, ◌∙◌, rules}
use Rattle.mcap_app.proofs.Running.{few_names, recorded_alone, recorded_watched}
use Rattle.mcap_app.proofs.program.run_record.Goals as goal

pub returns-then-recording-eq0-clause-runs : goal.returns-then-recording-eq0-clause-runs
returns-then-recording-eq0-clause-runs g c = inl (recorded_alone c.args.recording.now c.as_str-name.result.now _ c.as_slice-feeds.result.now _ _ _ _ c.as_str-name.ensures.same c.as_slice-feeds.ensures c.if-recording-eq0.true (search rules) c.record_file.ensures.recorded)

pub record_file-requires-in-Ok-clause-watched : goal.record_file-requires-in-Ok-clause-watched
record_file-requires-in-Ok-clause-watched g c κs within =
    few_names c.as_str-name.result.now c.args.recording.now.watchers c.as_slice-names.result.now c.requires.2.0 (c.as_slice-names.ensures.value ∙ c.in-Ok.ensures.names)

pub returns-in-Ok-clause-runs : goal.returns-in-Ok-clause-runs
returns-in-Ok-clause-runs g c =
    inl (recorded_watched c.args.recording.now c.as_str-name.result.now c.as_slice-names.result.now c.as_slice-feeds.result.now _ _ _ _ c.as_str-name.ensures.same c.as_slice-feeds.ensures (c.as_slice-names.ensures.value ∙ c.in-Ok.ensures.names) c.record_file-in-Ok.ensures.recorded)
