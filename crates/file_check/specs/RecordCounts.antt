-- What was counted of Schemas, Channels and Messages.
use Rattle.std.specs.Prelude.{◌≡◌, ℕ, ◌+◌, ◌-◌, ◌^◌, min, max, List, slice_index, true, false}
use Rattle.rec_data.specs.Records.{message_opcode}
use Rattle.mcap_model.specs.Tops.{Top}
use Rattle.mcap_model.specs.Rules.{HasSchema, HasChannel}
use Rattle.mcap_model.specs.Times.{TimesOf}
use Rattle.mcap_model.specs.Whole.{count_of, AreChannels, on_channel, AreIds}
use Rattle.file_check.specs.declared.record_counts.RecordCounts.{RecordCounts}

-- this was counted of the records
pub record CountsOf (records : List Top) (c : RecordCounts) : Type 0 where
  pub messages : c.messages ≡ count_of message_opcode records
  pub times : TimesOf records (record { any = c.any; least = c.least; greatest = c.greatest })
  pub channels_of : List ℕ
  pub are_channels : AreChannels records channels_of
  pub by_channel : (channel : ℕ) → slice_index c.by_channel channel ≡ on_channel channels_of channel
  pub schemas : AreIds (HasSchema records) c.schemas
  pub channels : AreIds (HasChannel records) c.channels

-- a Message of that log time was counted
pub record CountsMessage (old : RecordCounts) (time : ℕ) (new : RecordCounts) : Type 0 where
  pub messages : new.messages ≡ min (old.messages + 1) (2 ^ 64 - 1)
  pub any : new.any ≡ true
  pub first_least : old.any ≡ false → new.least ≡ time
  pub first_greatest : old.any ≡ false → new.greatest ≡ time
  pub least : old.any ≡ true → new.least ≡ min old.least time
  pub greatest : old.any ≡ true → new.greatest ≡ max old.greatest time
  pub by_channel : new.by_channel ≡ old.by_channel
  pub schemas : new.schemas ≡ old.schemas
  pub channels : new.channels ≡ old.channels
