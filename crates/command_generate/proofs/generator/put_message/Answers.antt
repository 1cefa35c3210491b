-- The data are the first of equal bytes.
use Rattle.std.proofs.Common.{◌≡◌, ℕ, ◌+◌, ◌*◌, ◌%◌, List, ◌++◌, OnOk, subst, arith}
use Rattle.std.proofs.lemmas.List.{take-replicate}
use Rattle.mcap_wire.specs.Layout.{framed}
use Rattle.rec_data.specs.Records.{message_opcode, message_text}
use Rattle.command_generate.proofs.generator.put_message.Goals as goal

pub returns-clause-ok : goal.returns-clause-ok
returns-clause-ok c =
    let time = 1000 * c.args.index + c.args.number % 1000 in
    subst (λ (l : List ℕ). OnOk c.frame.result (c.frame.new.out.items ≡ c.args.out.now.items ++ framed message_opcode (message_text 1 (record { sequence = c.args.index; log_time = time; publish_time = time; payload = l }))))
    (take-replicate (c.args.number % 64) 63 (c.args.number % 256) (omega arith)) c.frame.ensures.ok
