use Rattle.std.proofs.Common.{◌≡◌, ◌-◌, ℕ, length, drop, refl, ◌∙◌, arith, length-take, length-drop}
use lib.ListN.{replicate}
use Rattle.time_player.proofs.Appended.{room_filled}
use Rattle.time_player.proofs.store_part.add_part.Goals as goal

pub returns-in-Ok-read_at-clause-gives : goal.returns-in-Ok-read_at-clause-gives
returns-in-Ok-read_at-clause-gives g c =
    let mid = c.deref_mut.result.now in
    let old = c.args.out.now.items in
    let from = c.len-from.result in
    let k = length mid - from in
    let from_is : from ≡ length old = c.len-from.ensures ∙ c.args.out.now.ok.0 in
    room_filled (g.T.Store.state c.args.store.now).bytes c.args.at c.args.len from k c.resize.new.self.len c.in-Some.to old (replicate {A = ℕ} (c.in-Some.to - c.args.out.now.len) 0) c.resize.new.self.items mid c.read_at.new.out c.deref_mut.ensures.value c.in-Ok.ensures.items
    (omega (arith, from_is, c.in-Some.ensures)) from_is c.resize.new.self.ok.0 refl (omega (arith, c.read_at.auto.out, length-take k (drop from mid), length-drop from mid))
    (omega (arith, c.deref_mut.ensures.len, c.in-Ok.ensures.len, c.in-Some.ensures)) c.in-Ok-read_at.ensures.gives
