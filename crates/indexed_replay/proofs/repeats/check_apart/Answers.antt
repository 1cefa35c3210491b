use Rattle.std.proofs.Common.{List, refl, sym, subst, rules}
use Rattle.std.specs.Prelude.{None}
use Rattle.std.proofs.lemmas.List.Sorted.{IsNonDecreasingBy-from_sort_by_key}
use Rattle.indexed_replay.specs.declared.repeats.Lead.{Lead}
use Rattle.indexed_replay.specs.Apart.{Ascend, FoundTwo, FindsTwo}
use Rattle.indexed_replay.proofs.Apart.{two_in, one_in}
use Rattle.indexed_replay.proofs.repeats.check_apart.Goals as goal

pub find_two-requires : goal.find_two-requires
find_two-requires c =
    subst Ascend (sym c.deref.ensures.value) (IsNonDecreasingBy-from_sort_by_key (λ (lead : Lead). lead.chunk) _ c.sort_unstable_by_key.ensures.sorted (λ a r q k. search rules))

pub returns-in-Some : goal.returns-in-Some
returns-in-Some c =
    let found = subst (λ (l : List Lead). FoundTwo l c.in-Some.offset) c.deref.ensures.value c.in-Some.ensures in
    (refl, two_in c.args.loaded.now.chunk_indexes c.args.loaded.now.chunk_index_offsets c.in-Ok.leads.items c.sort_unstable_by_key.new.self.items c.in-Some.offset c.in-Ok.ensures c.sort_unstable_by_key.ensures.permutation found)

pub returns-in-None : goal.returns-in-None
returns-in-None c =
    let none = subst (λ (l : List Lead). FindsTwo l None) c.deref.ensures.value c.in-None.ensures in
    one_in c.args.loaded.now.chunk_indexes c.args.loaded.now.chunk_index_offsets c.in-Ok.leads.items c.sort_unstable_by_key.new.self.items c.in-Ok.ensures c.sort_unstable_by_key.ensures.permutation none
