use Rattle.std.proofs.Common.{◌≡◌, take}
use Rattle.mcap_model.proofs.same.is_same_list.Given as goal

abbrev pub invariant-loop-i : goal.invariant-loop-i
invariant-loop-i l = take l.i l.pairs ≡ take l.i l.others
