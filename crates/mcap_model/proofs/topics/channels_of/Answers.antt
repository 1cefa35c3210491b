use Rattle.std.proofs.Common.{◌≡◌, ℕ, List, eqb, map, sym, ap, subst, ◌∙◌}
use Rattle.std.specs.Prelude.{Contains}
use Rattle.std.specs.List.{dedup}
use Rattle.std.proofs.lemmas.List.Filters.{dedup_is}
use Rattle.std.proofs.lemmas.List.Kept.{Contains-dedup_nat, Contains-from_dedup}
use Rattle.std.proofs.lemmas.List.Sorted.{Contains-permutation, IsPermutation-sym}
use Rattle.std.proofs.lemmas.Map.Keys.{IsStrictlyIncreasing-dedup}
use Rattle.mcap_model.specs.declared.replay.Shown.{Shown}
use Rattle.mcap_model.proofs.NamedTopics.{take_past}
use Rattle.mcap_model.proofs.topics.channels_of.Goals as goal

pub returns-clause-rises : goal.returns-clause-rises
returns-clause-rises c =
    let is = dedup_is _ _ _ c.dedup.ensures.filtered in
    rw is (IsStrictlyIncreasing-dedup _ c.sort_unstable.ensures.sorted)

pub returns-clause-are : goal.returns-clause-are
returns-clause-are c = λ id.
    let is : c.dedup.new.self.items ≡ dedup eqb c.sort_unstable.new.self.items = dedup_is _ _ _ c.dedup.ensures.filtered in
    let moved = c.sort_unstable.ensures.permutation in
    let all : c.messages.ids.items ≡ map (λ (s : Shown). s.channel) c.args.shown.now = c.messages.invariant ∙ ap (map (λ (s : Shown). s.channel)) (take_past c.messages.i c.args.shown.now c.messages-test.false) in (
      λ h. subst (λ (l : List ℕ). Contains l id) all (Contains-permutation _ _ id (IsPermutation-sym _ _ moved) (Contains-from_dedup _ _ id (subst (λ (l : List ℕ). Contains l id) is h))),
      λ h. subst (λ (l : List ℕ). Contains l id) (sym is) (Contains-dedup_nat _ id (Contains-permutation _ _ id moved (subst (λ (l : List ℕ). Contains l id) (sym all) h))),
    )
