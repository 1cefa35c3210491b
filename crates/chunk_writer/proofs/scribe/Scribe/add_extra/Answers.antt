-- An extra waits, or memory lacks.
use Rattle.std.proofs.Common.{sym, ◌∙◌}
use Rattle.mcap_model.specs.Made.{top}
use Rattle.chunk_writer.proofs.Gathered.{waits_more}
use Rattle.chunk_writer.proofs.Writing.{waits_same}
use Rattle.chunk_writer.proofs.scribe.Scribe.add_extra.Goals as goal

pub returns-in-Err-clause-gathers : goal.returns-in-Err-clause-gathers
returns-in-Err-clause-gathers g c = c.stop_for_memory.ensures.gathers (top c.args.op c.args.content.now)

pub returns-in-Ok-push-clause-gathers : goal.returns-in-Ok-push-clause-gathers
returns-in-Ok-push-clause-gathers g c = λ options extras opened history (stands, waits, through).
    (stands, waits_more c.args.self.now.plan.phase extras (top c.args.op c.args.content.now) c.args.self.now.extras c.push.new.self c.in-Ok.framed c.in-Ok-push.ensures.ok c.in-Ok.ensures c.requires.meets waits, through)

pub returns-in-Err-push-clause-gathers : goal.returns-in-Err-push-clause-gathers
returns-in-Err-push-clause-gathers g c = λ options extras opened history (stands, waits, through).
    c.stop_for_memory-in-Err-push.ensures.gathers (top c.args.op c.args.content.now) options extras opened history
    (stands, waits_same c.args.self.now.plan.phase c.args.self.now.plan.phase extras c.args.self.now.extras c.push.new.self c.in-Err-push.ensures.err (sym c.phase.ensures ∙ c.in-Going.is) waits, through)

pub push-requires : goal.push-requires
push-requires g c = (top c.args.op c.args.content.now, c.in-Ok.ensures, c.requires.meets)
