-- The sums of the messages of a source.
use Rattle.std.specs.Prelude.{◌≡◌, ℕ, List, map}
use Rattle.mcap_io.specs.Outside.{SourceState}
use Rattle.rec_data.specs.Fields.{MessageFields}
use Rattle.mcap_model.specs.Tops.{Top}
use Rattle.mcap_model.specs.Kept.{at_end}
use Rattle.mcap_model.specs.Scan.{Seen, Scan}
use Rattle.mcap_scan.specs.RefusedReadings.{HaltsSo}
use Rattle.command_generate.specs.declared.sums.Sums.{Sums}
use Rattle.command_generate.specs.Sums.{sums_of}

-- what messages of a scan show
abbrev pub fields_seen : List Seen → List MessageFields
fields_seen messages = map (λ (s : Seen). s.message) messages

-- The source was read to its Data End, and these are the sums of its messages. Where it told its bytes, this is their reading.
pub record SumsAll (before now : SourceState) (sums : Sums) : Type 0 where
  pub tops : List Top
  pub end : ℕ
  pub messages : List Seen
  pub halts : HaltsSo before now tops (at_end end)
  pub scan : Scan tops messages
  pub sums_are : sums ≡ sums_of (fields_seen messages)
