use Rattle.std.proofs.Common.{◌≡◌, ℕ, ◌++◌, ◌∷◌, [], List, take, ap, sym, ◌∙◌}
use Rattle.std.proofs.lemmas.List.{take_more}
use Rattle.mcap_wire.proofs.TextMaps.{Pair}
use Rattle.mcap_wire.proofs.pairs.copy_list.Goals as goal

pub loop-pair-preserved : goal.loop-pair-preserved
loop-pair-preserved c =
    let list = c.args.list.now in
    let i = c.loop-pair.pair-index in
    let item = c.pair-item.result in
    let copied : c.in_ok-copy.copy ≡ item =
    c.in_ok-copy.ensures
    ∙ ap (λ (key : List ℕ). (key, c.as_str-in-loop-pair.result.now)) c.as_str.ensures.same
    ∙ ap (λ (value : List ℕ). (item.0, value)) c.as_str-in-loop-pair.ensures.same in
    c.in_ok-push.ensures.items
    ∙ ap (λ (l : List Pair). l ++ c.in_ok-copy.copy ∷ []) c.loop-pair.invariant
    ∙ ap (λ (p : Pair). take i list ++ p ∷ []) (copied ∙ c.pair-item.is)
    ∙ sym (take_more list i item c.loop-pair-test.true)
