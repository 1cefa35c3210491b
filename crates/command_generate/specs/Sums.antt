-- The sums of messages: each modulo 2^64.
use Rattle.std.specs.Prelude.{ℕ, ◌+◌, ◌%◌, ◌^◌, List, length, sum}
use Rattle.std.specs.List.{sum_by}
use Rattle.rec_data.specs.Fields.{MessageFields}
use Rattle.command_generate.specs.declared.sums.Sums.{Sums}

-- what a message has of the total: its log time and the values of its data's bytes
abbrev pub value_of : MessageFields → ℕ
value_of m = m.log_time + sum m.payload

abbrev pub bytes_in_payload : MessageFields → ℕ
bytes_in_payload m = length m.payload

abbrev pub sums_of : List MessageFields → Sums
sums_of messages = record {
  messages = length messages % 2 ^ 64;
  bytes = sum_by bytes_in_payload messages % 2 ^ 64;
  total = sum_by value_of messages % 2 ^ 64;
}
