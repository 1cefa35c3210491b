use Rattle.std.proofs.Common.{ℕ, ◌+◌, List, ap, ◌∙◌}
use Rattle.mcap_model.specs.Summary.{capped}
use Rattle.summary_write.specs.Fields.{tally_of}
use Rattle.summary_write.specs.Tally.{Tally}
use Rattle.summary_write.proofs.Tallying.{stands_metadata}
use Rattle.summary_write.proofs.summary.Summary.note_metadata.Goals as goal

pub returns-clause-ok : goal.returns-clause-ok
returns-clause-ok c n stands =
    let s : Tally = tally_of c.self.inside in
    stands_metadata s c.args.self.now _ n c.args.at c.args.content.now c.self.view_is
    (ap (λ (m : ℕ). record s { extras = record s.extras { metadata = m; metadata_indexes = c.add_metadata_index.new.framed.items } }) c.saturating_add-self-inside.ensures
    ∙ ap (λ (l : List ℕ). record s { extras = record s.extras { metadata = capped (s.extras.metadata + 1); metadata_indexes = l } }) c.in-Ok.ensures.ok) stands
