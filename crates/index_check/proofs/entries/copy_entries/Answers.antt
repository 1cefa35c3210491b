use Rattle.std.proofs.Common.{◌++◌, ◌∷◌, [], ℕ, List, sym, ap, ◌∙◌}
use Rattle.mcap_model.proofs.OneMore.{taken_more}
use Rattle.index_check.proofs.entries.copy_entries.Goals as goal

pub entries-preserved : goal.entries-preserved
entries-preserved c =
    c.in-Ok.ensures.items ∙ ap (λ (l : List (ℕ × ℕ)). l ++ c.item.result ∷ []) c.entries.invariant ∙ sym (taken_more c.args.entries.now c.entries.i c.item.result c.item.ensures)
