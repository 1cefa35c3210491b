use Rattle.indexed_replay.proofs.Apart.{AgreeTo}
use Rattle.indexed_replay.proofs.repeats.find_two.Given as goal

abbrev pub invariant-leads : goal.invariant-leads
invariant-leads l = AgreeTo l.leads l.i
