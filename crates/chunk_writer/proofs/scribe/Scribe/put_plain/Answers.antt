-- All records stand behind those before them, or those in front of the one that was refused.
use Rattle.std.proofs.Common.{ℕ, ◌+◌, ap, ◌∙◌, arith}
use Rattle.mcap_io.specs.Outside.{LiveState}
use Rattle.mcap_model.specs.History.{history_bytes}
use Rattle.chunk_writer.specs.Planning.{Planning}
use Rattle.chunk_writer.proofs.Plain.{whole_put, whole_front, stopped_front, plain_refused, refused_within, refused_keeps}
use Rattle.chunk_writer.proofs.Through.{stopped_through, plain_through, goes_plain}
use Rattle.chunk_writer.proofs.scribe.Scribe.put_plain.Goals as goal

pub returns-in-Ok-clause-grows : goal.returns-in-Ok-clause-grows
returns-in-Ok-clause-grows g c = λ options extras opened history (stands, waits, through). (
  whole_put options opened.held (g.L.LiveStore.state c.args.self.now.store).held (g.L.LiveStore.state c.append_records.new.store).held history c.args.full.now.records c.args.self.now.plan c.count.new.self c.held.result c.requires.plain c.requires.going c.count.ensures
      c.held.ensures.held c.in-Ok.ensures.adds stands,
  λ going. waits c.requires.going,
  plain_through options opened.held _ history c.args.self.now.plan c.count.new.self.phase _ c.requires.plain c.requires.going stands,
)

pub returns-in-Ok-clause-front : goal.returns-in-Ok-clause-front
returns-in-Ok-clause-front g c = λ options extras opened history (stands, waits, through).
    whole_front {X = g.row.L-Extent.Denot} _ options opened.held (g.L.LiveStore.state c.args.self.now.store).held history c.args.full.now.records c.args.self.now.plan _ c.held.result c.requires.plain c.requires.going
    (ap (λ (p : Planning). p.bytes) c.count.ensures) c.held.ensures.held stands

pub returns-in-Ok-clause-keeps : goal.returns-in-Ok-clause-keeps
returns-in-Ok-clause-keeps g c = λ before told. (history_bytes c.args.full.now.records, c.in-Ok.ensures.adds before told)

pub returns-in-Ok-clause-through : goal.returns-in-Ok-clause-through
returns-in-Ok-clause-through g c = λ options extras opened history (stands, waits, through).
    goes_plain options opened.held (g.L.LiveStore.state c.args.self.now.store).held history c.args.full.now.records c.args.self.now.plan _ _ c.requires.plain c.requires.going stands c.in-Ok.ensures.through
    (λ none. ap (λ (s : LiveState). s.waiting) (c.in-Ok.ensures.still none))

pub overflow_add-bytes : goal.overflow_add-bytes
overflow_add-bytes g c = omega (arith, refused_within _ _ c.args.full.now.records c.in-Err.at _ c.in-Err.ensures.refused, c.bytes-bytes.ensures.value, c.requires.room)

pub stop-requires : goal.stop-requires
stop-requires g c = record {
  few = c.blocks-blocks.ensures.few;
  small = omega (arith, refused_within _ _ c.args.full.now.records c.in-Err.at _ c.in-Err.ensures.refused, c.bytes-bytes.ensures.value, c.requires.room);
}

pub returns-in-Err-clause-grows : goal.returns-in-Err-clause-grows
returns-in-Err-clause-grows g c = λ options extras opened history (stands, waits, through). (
  plain_refused options opened.held (g.L.LiveStore.state c.args.self.now.store).held (g.L.LiveStore.state c.append_records.new.store).held history c.args.full.now.records c.args.self.now.plan c.stop.new.self c.in-Err.at c.in-Err.stop
      c.requires.plain c.requires.going c.in-Err.ensures.refused
      (record { few = omega (arith, c.blocks-blocks.ensures.value, c.blocks-blocks.ensures.few); small = c.requires.room })
      (record {
        phase = c.stop.ensures.phase;
        blocks_are = c.stop.ensures.blocks_are ∙ c.blocks-blocks.ensures.value;
        bytes_are = c.stop.ensures.bytes_are ∙ ap (λ (n : ℕ). n + c.in-Err.at) c.bytes-bytes.ensures.value;
      }) stands,
  λ going. waits c.requires.going,
  stopped_through options c.stop.new.self.phase _ _ c.stop.ensures.phase,
)

pub returns-in-Err-clause-front : goal.returns-in-Err-clause-front
returns-in-Err-clause-front g c = λ options extras opened history (stands, waits, through).
    stopped_front {X = g.row.L-Extent.Denot} _ options opened.held (g.L.LiveStore.state c.args.self.now.store).held (g.L.LiveStore.state c.append_records.new.store).held history c.args.full.now.records c.args.self.now.plan _ c.in-Err.at _ c.requires.plain c.requires.going
    (c.stop.ensures.bytes_are ∙ ap (λ (n : ℕ). n + c.in-Err.at) c.bytes-bytes.ensures.value) c.in-Err.ensures.refused stands

pub returns-in-Err-clause-keeps : goal.returns-in-Err-clause-keeps
returns-in-Err-clause-keeps g c = refused_keeps _ _ c.args.full.now.records c.in-Err.at _ c.in-Err.ensures.refused
