-- The steps of summing the messages of a source.
use Rattle.std.specs.Prelude.{◌≡◌, List, filter, Result, Ok, Err, ◌+◌, ◌%◌, ◌^◌}
use Rattle.std.specs.List.{AllZip, fold}
use Rattle.mcap_io.specs.Outside.{SourceState}
use Rattle.mcap_model.specs.Tops.{Top, Placed}
use Rattle.mcap_model.specs.Scan.{Seen, IsSeen, is_message_top}
use Rattle.mcap_model.specs.declared.refusals.ReadingRefused.{ReadingRefused}
use Rattle.mcap_scan.specs.RefusedReadings.{RefusalStands}
use Rattle.command_generate.specs.declared.sums.Sums.{Sums}
use Rattle.command_generate.specs.SumReading.{fields_seen, SumsAll}
use Rattle.rec_data.specs.Fields.{MessageFields}
use Rattle.command_generate.specs.Sums.{value_of, bytes_in_payload}

-- the sums with one message more
abbrev pub with_message : Sums → MessageFields → Sums
with_message sums m = record {
  messages = (sums.messages + 1) % 2 ^ 64;
  bytes = (sums.bytes + bytes_in_payload m) % 2 ^ 64;
  total = (sums.total + value_of m) % 2 ^ 64;
}

-- the sums with more messages
abbrev pub with_messages : Sums → List Seen → Sums
with_messages sums messages = fold with_message sums (fields_seen messages)

-- of the records at these places the messages are added
abbrev pub AddsToSums : List Placed → Sums → Sums → Type 0
AddsToSums ps old new = (records : List Top) (messages : List Seen)
    → AllZip (IsSeen records) (filter (λ p. is_message_top p.top) ps) messages → new ≡ with_messages old messages

-- all messages were summed up, or the reading was refused behind some records, for that reason
abbrev pub SumsUp : SourceState → SourceState → Result Sums ReadingRefused → Type 0
SumsUp before now (Ok sums) = SumsAll before now sums
SumsUp before now (Err why) = (tops : List Top) × RefusalStands why before now tops
