-- The troubles of the input that halts.
use Rattle.std.specs.Prelude.{List, [], Option, Some, None}
use Rattle.command_base.specs.Texts.{Trouble}
use Rattle.command_base.specs.ComplaintTroubles.{trouble_of}
use Rattle.command_base.specs.Endings.{halts_at}
use Rattle.command_write.specs.declared.halting.Halted.{Halted}

-- the troubles of the inputs, by what the code holds of the one that halts
abbrev pub halted_lists : Option Halted → List (List Trouble)
halted_lists None = []
halted_lists (Some h) = halts_at h.input (trouble_of h.complaint)
