use Rattle.std.proofs.Common.{◌≡◌, ◌-◌, ◌<◌, List, ℕ, [], length, sym, ap, subst, ◌∙◌, arith}
use Rattle.std.specs.Cmp.Lexicographic.{slice_cmp}
use Rattle.std.specs.Ordering.{nat_cmp}
use Rattle.std.specs.declared.cmp.Ordering.TheVariants.{Less}
use Rattle.std.proofs.lemmas.List.{get_or_default, take_all}
use Rattle.mcap_wire.specs.Maps.{KeysAscend}
use Rattle.mcap_wire.proofs.TextMaps.{Pair}
use Rattle.mcap_wire.proofs.PairWalks.{nth}
use Rattle.mcap_wire.proofs.KeyOrder.{ascend_more}
use Rattle.mcap_wire.proofs.pair_list.ascends.Goals as goal

pub loop-i-preserved : goal.loop-i-preserved
loop-i-preserved c =
    let list = c.args.list.now in
    let i = c.loop-i.i in
    let lt : i < length list = omega arith in
    let before : i - 1 < length list = omega arith in
    let one : c.as_str.result.now ≡ (nth list (i - 1)).0 = c.as_str.ensures.same ∙ ap (λ (p : Pair). p.0) (get_or_default list (i - 1) c.index-list-i.result ([], []) before) in
    let other : c.as_str-in-loop-i.result.now ≡ (nth list i).0 = c.as_str-in-loop-i.ensures.same ∙ ap (λ (p : Pair). p.0) (get_or_default list i c.index-list-i-in-loop-i.result ([], []) lt) in
    let up : Less ≡ slice_cmp nat_cmp (nth list (i - 1)).0 (nth list i).0 =
    c.in-Less.ensures ∙ ap (λ (x : List ℕ). slice_cmp nat_cmp x c.as_str-in-loop-i.result.now) one ∙ ap (slice_cmp nat_cmp (nth list (i - 1)).0) other in
    ascend_more list i (omega arith) lt c.loop-i.invariant (sym up)

pub returns : goal.returns
returns c = subst KeysAscend (take_all c.loop-i.i c.args.list.now (omega arith)) c.loop-i.invariant
