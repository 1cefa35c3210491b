-- The fields of a plan.
use Rattle.std.specs.Prelude.{◌≡◌, List}
use Rattle.rec_data.specs.declared.owned.Rec.{Rec}
use Rattle.mcap_model.specs.declared.options.FileOptions.{FileOptions}
use Rattle.chunk_writer.specs.declared.plan.Plan.TheInside.{Inside}
use Rattle.chunk_writer.specs.declared.phase.Phase.TheVariants as phases
use Rattle.chunk_writer.specs.Limits.{Holds}
use Rattle.chunk_writer.specs.Planning.{Planning}
use Rattle.chunk_writer.specs.Plans.{Plans}

abbrev pub planning : Inside → Planning
planning p = record { body = p.body; blocks = p.blocks; bytes = p.bytes; phase = p.phase }

-- the numbers are within the limit, and while records may come the plan stands for a history
pub record HasSoundPlan (p : Inside) : Type 0 where
  pub within : Holds p.blocks p.bytes
  pub stands : p.phase ≡ phases.Going
      → (options : FileOptions) × (history : List Rec) × Plans options history (planning p)
