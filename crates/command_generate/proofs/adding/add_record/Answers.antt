use Rattle.std.proofs.Common.{rules, ◌∷◌, [], ℕ, refl, sym, subst}
use Rattle.mcap_model.specs.Made.{top}
use Rattle.command_generate.specs.SumSteps.{AddsToSums}
use Rattle.command_generate.specs.declared.sums.Sums.{Sums}
use Rattle.command_generate.proofs.Added.{other_kind, message_added}
use Rattle.command_generate.proofs.adding.add_record.Goals as goal

pub returns-in-Message : goal.returns-in-Message
returns-in-Message c = λ place.
    let m = c.in-Message.message in
    subst (λ (n : ℕ). AddsToSums (record { place = place; top = top n c.args.content.now } ∷ []) c.args.sums.now c.add.new.self) (sym c.in-Message.ensures.0)
    (subst (λ (s : Sums). AddsToSums (record { place = place; top = top 5 c.args.content.now } ∷ []) c.args.sums.now s) (sym c.add.ensures)
    (message_added place c.args.content.now c.args.sums.now (record { place = place; log_time = m.log_time; publish_time = m.publish_time; channel = m.channel_id; sequence = m.sequence; payload = m.payload.now }) refl c.in-Message.ensures.1))

pub returns-in_default : goal.returns-in_default
returns-in_default c = λ place. other_kind (record { place = place; top = top c.args.op c.args.content.now }) c.args.sums.now (λ kind. search rules)
