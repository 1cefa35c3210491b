-- Which causes of refusals are a limit, and which a want of memory.
use Rattle.std.specs.Prelude.{Bool, true, false}
use Rattle.mcap_model.specs.declared.ends.Stop.{Stop}
use Rattle.mcap_model.specs.declared.ends.Stop.TheVariants as stops
use Rattle.record_core.specs.declared.answers.CallRefused.{CallRefused}
use Rattle.record_core.specs.declared.answers.CallRefused.TheVariants as refusing

-- a message was refused since it, its channel or the number of records would pass a limit
abbrev pub is_over : CallRefused → Bool
is_over (refusing.TooLarge len) = true
is_over (refusing.TooManyRecords count) = true
is_over refusing.TooManySchemas = true
is_over refusing.TooManyChannels = true
is_over cause = false

abbrev pub is_memory_stop : Stop → Bool
is_memory_stop (stops.Fault faults) = false
is_memory_stop (stops.Limit blocks bytes) = false
is_memory_stop stops.Memory = true

-- it was refused for want of memory, its own or that which stopped the intake
abbrev pub is_memory : CallRefused → Bool
is_memory (refusing.Stopped at stop) = is_memory_stop stop
is_memory refusing.Memory = true
is_memory cause = false

-- a lane goes on behind a message that was refused for that
abbrev pub goes_on : CallRefused → Bool
goes_on (refusing.Closed at) = false
goes_on (refusing.Stopped at stop) = false
goes_on cause = true
