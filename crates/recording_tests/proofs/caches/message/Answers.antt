use Rattle.std.proofs.Common.{◌≡◌, true, false, [], ◌∷◌, arith}
use Rattle.mcap_wire.proofs.Framing.{length-framed}
use Rattle.rec_data.specs.Records.{message_text}
use Rattle.recording_tests.proofs.caches.message.Goals as goal
use Rattle.rec_data.proofs.Contents.{length-message_text}

pub returns : goal.returns
returns c = record {
  fits = (omega arith, (omega arith, (omega arith, (omega arith, tt))));
  short = omega (arith, length-framed 5 (message_text 1 (record { sequence = 1; log_time = 10; publish_time = 9; payload = 170 ∷ [] })), length-message_text 1 (record { sequence = 1; log_time = 10; publish_time = 9; payload = 170 ∷ [] }));
  extra = λ aside. absurd (let no : true ≡ false = aside in cc);
}
