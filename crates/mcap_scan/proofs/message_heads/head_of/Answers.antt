use Rattle.std.proofs.Common.{◌≡◌, ℕ, ap, sym, ◌∙◌}
use Rattle.mcap_wire.proofs.Fields.{number_there}
use Rattle.mcap_scan.specs.declared.message_heads.MessageHead.{MessageHead}
use Rattle.mcap_scan.specs.Heads.{channel_id_in}
use Rattle.mcap_scan.specs.HeadTimes.{time_in}
use Rattle.mcap_scan.proofs.Listed.{headed}
use Rattle.mcap_scan.proofs.message_heads.head_of.Goals as goal

pub returns : goal.returns
returns c =
    let bytes = c.args.content.now in
    let channel : c.in-Ok.read.0 ≡ channel_id_in bytes = sym (number_there 2 bytes 0 c.in-Ok.read.0 c.in-Ok.read.1 c.in-Ok.ensures) in
    let time : c.in-Ok-take_u64.read.0 ≡ time_in bytes = sym (number_there 8 bytes 6 c.in-Ok-take_u64.read.0 c.in-Ok-take_u64.read.1 c.in-Ok-take_u64.ensures) in (
      headed c.args.op bytes c.if-op-ne-MESSAGE.false c.if-content-lt-MESSAGE_FRONT_LENGTH.false,
      ap (λ (n : ℕ). made n c.in-Ok-take_u64.read.0 c.args.offset) channel ∙ ap (λ (n : ℕ). made (channel_id_in bytes) n c.args.offset) time,
    )
  where
    made : ℕ → ℕ → ℕ → MessageHead
    made channel time offset = record { channel = channel; time = time; offset = offset }
