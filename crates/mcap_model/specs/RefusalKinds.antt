-- What the refusal of a reading tells by its kind alone.
use Rattle.std.specs.Prelude.{Bool, true, false}
use Rattle.mcap_model.specs.declared.refusals.ReadingRefused.{ReadingRefused}
use Rattle.mcap_model.specs.declared.refusals.ReadingRefused.TheVariants as refusals

-- memory lacked
abbrev pub is_memory_refusal : ReadingRefused → Bool
is_memory_refusal (refusals.Fault faults) = false
is_memory_refusal (refusals.Grammar offset rule) = false
is_memory_refusal (refusals.Compressed offset name) = false
is_memory_refusal (refusals.Limit offset) = false
is_memory_refusal refusals.Memory = true
