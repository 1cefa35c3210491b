use Rattle.std.proofs.Common.{ℕ, ◌+◌, ◌<◌, refl, subst}
use Rattle.mcap_wire.specs.Limits.{file_limit}
use Rattle.chunk_writer.proofs.Taking.{front_so}
use Rattle.chunk_writer.proofs.Through.{goes_each, both_ok}
use Rattle.chunk_writer.proofs.scribe.Scribe.put_all.Goals as goal

pub returns-then-has_room_for-clause-front : goal.returns-then-has_room_for-clause-front
returns-then-has_room_for-clause-front g c =
    front_so g.L.LiveStore.state _ c.args.self.now c.args.full.now.records _ _ _ _ _ c.requires.none refl c.put_plain.ensures.front

pub returns-clause-through : goal.returns-clause-through
returns-clause-through g c =
    both_ok c.put_each.result _ _ _ c.put_each.ensures.goes_on c.put_each.ensures.within (λ on holds options extras opened history writes.
    goes_each g.L.LiveStore.state options extras opened history c.args.full.now.records c.args.self.now c.put_each.new.self writes c.put_each.ensures.grows c.requires.going on holds
    (λ none. subst (λ (n : ℕ). file_limit < c.args.self.now.plan.bytes + n) c.held.ensures.held (c.has_room_for.ensures.none c.if-has_room_for.false none)))
