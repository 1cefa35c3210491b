use Rattle.std.proofs.Common.{List, sym, subst, ap}
use Rattle.std.specs.Prelude.{IsPermutation}
use Rattle.std.specs.Vec.Covariant.{in_vec}
use Rattle.mcap_model.specs.declared.replay.Shown.{Shown}
use Rattle.mcap_model.specs.Plain.{InOrder}
use Rattle.time_player.specs.Heads.{shown_in}
use Rattle.time_player.specs.Keeping.{kept_in}
use Rattle.time_player.proofs.Played.{played}
use Rattle.time_player.proofs.replaying.finish_kept.Goals as goal

pub returns : goal.returns
returns c = λ range topic tops messages told same.
    let k = c.args.kept in
    played range topic tops c.args.tables.now messages (record { topics = c.in-Ok.topics; shown = in_vec (shown_in k.payloads.items) k.heads }) c.new.result told same c.in-Ok.ensures (ap (λ v. v.items) c.new.ensures.topics)
    (subst (λ (l : List Shown). IsPermutation (kept_in k) l) (sym c.new.ensures.shown) c.put_in_order.ensures.same) (subst InOrder (sym c.new.ensures.shown) c.put_in_order.ensures.order)
