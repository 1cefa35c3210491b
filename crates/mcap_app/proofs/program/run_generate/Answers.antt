-- What is generated is recorded without watchers.
use Rattle.mcap_app.proofs.Running.{generated_so, unwatched_listed}
use Rattle.mcap_app.proofs.program.run_generate.Goals as goal

pub returns-clause-runs : goal.returns-clause-runs
returns-clause-runs g c = (
  generated_so _ c.generated_options-options.result c.as_str-name.result.now c.args.generation.now.out _ _ c.generate_file-status.result.report c.unwatched.result c.generate_file-status.result.status
      c.generated_options-options.ensures c.as_str-name.ensures.same c.unwatched.ensures.recorded c.generate_file-status.ensures.generates,
  c.unwatched.ensures.none,
)

pub returns-clause-listed : goal.returns-clause-listed
returns-clause-listed g c =
    unwatched_listed c.args.listed c.generate_file-status.result.report c.unwatched.result c.unwatched.ensures.recorded c.generate_file-status.ensures.listed
