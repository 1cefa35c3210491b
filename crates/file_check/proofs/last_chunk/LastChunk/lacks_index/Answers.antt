use Rattle.std.proofs.Common.{◌∷◌, ◌++◌, [], sym, subst}
use Rattle.std.proofs.lemmas.Bool.{both_ways, not-false}
use Rattle.file_check.specs.CutFiles.{IndexFails}
use Rattle.file_check.proofs.Answering.{not_true}
use Rattle.file_check.proofs.Followed.{keeps_apart, keeps_closed, fails_closed}
use Rattle.file_check.proofs.last_chunk.LastChunk.lacks_index.Goals as goal

pub returns-then-not-self-clause-keeps : goal.returns-then-not-self-clause-keeps
returns-then-not-self-clause-keeps c = λ e tops t last other keeps. keeps_apart tops t keeps other (last.none c.if-not-self.true)

pub returns-clause-lacks : goal.returns-clause-lacks
returns-clause-lacks c = λ e tops more t last other.
    let chunk = c.args.self.now in
    let kept = last.kept c.if-not-self.false in
    let judged = c.has_indexes.ensures tops more t kept.is other in
    subst (IndexFails (tops ++ t ∷ more)) (sym kept.there)
    (fails_closed tops more t chunk.messages chunk.channels kept.is other (λ indexed. both_ways c.has_indexes.result (not_true c.has_indexes.result e) (judged.1 indexed)))

pub returns-clause-keeps : goal.returns-clause-keeps
returns-clause-keeps c = λ e tops t last other keeps.
    let chunk = c.args.self.now in
    let kept = last.kept c.if-not-self.false in
    let judged = c.has_indexes.ensures tops [] t kept.is other in
    keeps_closed tops t chunk.messages chunk.channels kept.is keeps other (judged.0 (not-false c.has_indexes.result e))
