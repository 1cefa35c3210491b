use Rattle.std.proofs.Common.{ℕ, List, sym, subst}
use Rattle.std.proofs.lemmas.Bool.{both_ways}
use Rattle.mcap_model.specs.Tops.{Top}
use Rattle.mcap_model.specs.Kept.{reading_limits, grammar, compressed, Halts}
use Rattle.mcap_model.proofs.TakenRecords.{past_there, uncut, cut_broken, cut_packed, cut_taken}
use Rattle.mcap_model.proofs.taking.take_record.Goals as goal
use Rattle.mcap_model.specs.declared.rules.Rule.{Rule}

pub returns-then-passes_limit : goal.returns-then-passes_limit
returns-then-passes_limit c = λ tops was. (tops, past_there c.args.bytes.now c.args.at c.args.tables.now tops was (c.passes_limit.ensures.0 c.if-passes_limit.true))

pub returns-in-Err : goal.returns-in-Err
returns-in-Err c = λ tops was.
    subst (λ (rule : Rule). (others : List Top) × Halts reading_limits c.args.bytes.now others (grammar c.args.at rule)) (sym c.rule_of.ensures)
    (uncut c.args.bytes.now c.args.at c.args.tables.now tops c.in-Err.fault was (λ past. both_ways c.passes_limit.result c.if-passes_limit.false (c.passes_limit.ensures.1 past)) c.in-Err.ensures)

pub returns-in-Fits : goal.returns-in-Fits
returns-in-Fits c = λ tops was.
    cut_taken c.args.bytes.now c.args.at c.in-Ok.cut c.args.tables.now c.judge_at.new.tables tops was c.in-Ok.ensures (λ past. both_ways c.passes_limit.result c.if-passes_limit.false (c.passes_limit.ensures.1 past)) (c.in-Fits.ensures tops was.unended was.place was.tables_are)

pub returns-in-Breaks : goal.returns-in-Breaks
returns-in-Breaks c = λ tops was.
    cut_broken c.args.bytes.now c.args.at c.in-Ok.cut c.args.tables.now tops c.in-Breaks.rule was c.in-Ok.ensures (λ past. both_ways c.passes_limit.result c.if-passes_limit.false (c.passes_limit.ensures.1 past)) (c.in-Breaks.ensures tops was.unended was.place was.tables_are)

pub returns-in-Ok-copied : goal.returns-in-Ok-copied
returns-in-Ok-copied c = λ tops was.
    subst (λ (name : List ℕ). (others : List Top) × Halts reading_limits c.args.bytes.now others (compressed c.args.at name)) (sym c.in-Ok-copied.ensures)
    (cut_packed c.args.bytes.now c.args.at c.in-Ok.cut c.args.tables.now tops c.in-Compressed.name.now was c.in-Ok.ensures (λ past. both_ways c.passes_limit.result c.if-passes_limit.false (c.passes_limit.ensures.1 past)) (c.in-Compressed.ensures tops was.unended was.place was.tables_are))
