-- What a turn's steps come to.
use Rattle.std.proofs.Common.{◌≡◌, true, List, [], ◌++◌, length, sym, ap, subst, ◌∙◌, append-nil, arith, Result, Err}
use Rattle.std.proofs.lemmas.List.{drop_all}
use Rattle.rec_data.specs.declared.owned.Rec.{Rec}
use Rattle.record_core.specs.Desk.{DeskView, accepted}
use Rattle.feed_lane.specs.Pass.{with_places}
use Rattle.buffer_swap.specs.Turns.{view}
use Rattle.record_core.specs.declared.answers.Declared.{Declared}
use Rattle.record_core.specs.declared.answers.CallRefused.{CallRefused}
use Rattle.buffer_swap.specs.Plays.{counts, fresh_records}
use Rattle.buffer_swap.specs.Calls.{counts_declared}
use Rattle.buffer_swap.specs.declared.view.View.{View}

-- where nothing was added, nothing is counted
pub counts_none : (v : View) (d : DeskView) → v.holds ≡ true → d ≡ v.hand → v ≡ counts v d
counts_none v d holds is =
    let none : fresh_records v.hand v.hand ≡ [] = drop_all (length v.hand.primary) v.hand.primary (omega arith) in
    let own : v.pass.own ++ with_places (accepted v.hand) (fresh_records v.hand v.hand) ≡ v.pass.own =
    ap (λ (l : List Rec). v.pass.own ++ with_places (accepted v.hand) l) none ∙ append-nil v.pass.own in
    subst (λ (z : DeskView). v ≡ counts v z) (sym is) (λ i. view (holds i) v.hand v.missed (record v.pass { own = sym own i }) v.post)

-- a refusal counts nothing
pub refused_hand : (v : View) (d : DeskView) (result : Result Declared CallRefused) (refusal : CallRefused) → result ≡ Err refusal → (counts_declared v d result).hand ≡ v.hand
refused_hand v d result refusal is = ap (λ (r : Result Declared CallRefused). (counts_declared v d r).hand) is
