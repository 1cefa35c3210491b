use Rattle.std.proofs.Common.{◌∙◌}
use Rattle.mcap_model.specs.declared.ends.Stop.TheVariants as stops
use Rattle.chunk_writer.proofs.Taking.{memory_lacks, memory_stops}
use Rattle.chunk_writer.proofs.Through.{stopped_through}
use Rattle.chunk_writer.proofs.Writing.{going_apart}
use Rattle.chunk_writer.proofs.scribe.Scribe.stop_for_memory.Goals as goal

pub returns-clause-grows : goal.returns-clause-grows
returns-clause-grows g c = λ r options extras opened history (stands, waits, through). (
  memory_lacks options opened.held _ history r c.args.self.now.plan c.stop.new.self c.requires.going (record {
    phase = c.stop.ensures.phase;
    blocks_are = c.stop.ensures.blocks_are ∙ c.blocks-blocks.ensures.value;
    bytes_are = c.stop.ensures.bytes_are ∙ c.bytes-bytes.ensures.value;
  }) stands,
  λ going. waits c.requires.going,
  stopped_through options c.stop.new.self.phase stops.Memory _ c.stop.ensures.phase,
)

pub returns-clause-gathers : goal.returns-clause-gathers
returns-clause-gathers g c = λ t options extras opened history (stands, waits, through). (
  memory_stops options opened.held _ history c.args.self.now.plan c.stop.new.self c.requires.going (record {
    phase = c.stop.ensures.phase;
    blocks_are = c.stop.ensures.blocks_are ∙ c.blocks-blocks.ensures.value;
    bytes_are = c.stop.ensures.bytes_are ∙ c.bytes-bytes.ensures.value;
  }) stands,
  λ going. absurd (going_apart c.stop.new.self.phase stops.Memory c.stop.ensures.phase going),
  stopped_through options c.stop.new.self.phase stops.Memory _ c.stop.ensures.phase,
)
