use Rattle.std.proofs.Common.{ℕ, take, ap, ◌∙◌, arith}
use Rattle.std.specs.Prelude.{insert}
use Rattle.mcap_wire.proofs.KeyPassLemmas.{put_list}
use Rattle.mcap_wire.proofs.key_passes.put.Goals as goal

pub returns-clause-after : goal.returns-clause-after
returns-clause-after c =
    put_list c.args.places.now c.copy_within.new.self c.min-kept.result c.args.i c.args.place (omega (arith, c.min-kept.ensures, c.requires.index, c.requires.room)) (omega (arith, c.min-kept.ensures, c.told-places)) c.copy_within.ensures.len c.copy_within.ensures.by_index.0 c.copy_within.ensures.by_index.1
    ∙ ap (λ (n : ℕ). insert (take n c.args.places.now) c.args.i c.args.place) c.min-kept.ensures
