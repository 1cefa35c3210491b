use Rattle.std.proofs.Common.{◌≡◌, true, ap, ◌∙◌, ℕ, List, subst, sym}
use Rattle.std.specs.Prelude.{Contains, All, ◌==◌}
use Rattle.std.proofs.lemmas.Bool.{both_ways}
use Rattle.std.proofs.lemmas.List.Elements.{Contains-push}
use Rattle.mcap_model.specs.Summary.{has_some}
use Rattle.chunk_build.specs.declared.row.Row.{Row}
use Rattle.chunk_build.specs.Rows.{rows_in}
use Rattle.chunk_build.proofs.Taking.{known_at, used_more, some_entries}
use Rattle.chunk_build.proofs.row.note_use.Goals as goal

pub returns-then-is_empty-clause-used : goal.returns-then-is_empty-clause-used
returns-then-is_empty-clause-used c =
    subst (λ (l : List ℕ). All (λ (p : ℕ × List ℕ). Contains l p.0) (rows_in c.args.rows.now.list.items)) (sym c.push_reserved.ensures.items)
    (used_more c.args.rows.now.used.items c.args.channel (rows_in c.args.rows.now.list.items) c.requires.sound.used)

pub returns-then-is_empty-clause-there : goal.returns-then-is_empty-clause-there
returns-then-is_empty-clause-there c =
    subst (λ (l : List ℕ). Contains l c.args.channel) (sym c.push_reserved.ensures.items) (Contains-push c.args.rows.now.used.items c.args.channel)

pub returns-else-is_empty-clause-there : goal.returns-else-is_empty-clause-there
returns-else-is_empty-clause-there c =
    let xs = c.args.rows.now.list.items in
    let row = c.index.result.now in
    let some : has_some row.entries.items ≡ true = some_entries row.entries.items row.entries.len row.entries.ok.0 (λ none. both_ways c.is_empty.result c.if-is_empty.false (c.is_empty.ensures ∙ ap (λ (n : ℕ). n == 0) none)) in
    let there = c.index.ensures in
    subst (λ (n : ℕ). Contains c.args.rows.now.used.items n) (c.requires.row.row.same row)
    (known_at (Contains c.args.rows.now.used.items) xs c.args.i row c.requires.sound.used c.requires.row.row.within (subst (λ (r : Row). has_some r.entries.items ≡ true) there some))
