use Rattle.std.proofs.Common.{rules, ◌≡◌, ◌++◌, ◌∙◌, sym, ap, arith, length, ◌<◌, Some}
use Rattle.std.proofs.lemmas.Grind.{common_steps}
use Rattle.mcap_model.specs.Places.{At}
use Rattle.mcap_model.proofs.Places.{at_read}
use Rattle.live_directory.proofs.Taking.{entries_then, front_kept}
use Rattle.live_directory.proofs.reader.take_batches.Goals as goal

pub batches-preserved : goal.batches-preserved
batches-preserved g c =
    let x = c.index-batches-next.result in
    let copied : c.copy_all.new.to.items ≡ c.batches.entries.items ++ x.entries = search rules in
    let within : c.batches.next < length c.args.batches.now = search rules in
    let there : At c.args.batches.now c.batches.next x = at_read c.args.batches.now c.batches.next x within ∙ ap Some (sym c.index-batches-next.is) in
    let more = entries_then c.args.batches.now c.batches.next x there in
    let kept = front_kept c.batches.entries.items x.entries c.copy_all.new.to.items c.len-held.result copied c.batches.invariant.2 in (
      grind (arith, common_steps),
      copied ∙ ap (λ es. es ++ x.entries) c.batches.invariant.1 ∙ sym more,
      kept.0,
      kept.1 ∙ c.batches.invariant.3,
    )
