-- The failure fell into the piece that was found.
use Rattle.std.proofs.Common.{ℕ, List, ◌++◌, sym, ap, ◌∙◌}
use Rattle.std.proofs.lemmas.List.{append-nil}
use Rattle.mcap_io.proofs.Calls.{none_there}
use Rattle.mcap_io.proofs.Appending.{falls-leaves}
use Rattle.io_files.proofs.files.FileLiveLiveStore.append_each.Goals as goal

pub returns-in-Err-Failed-clause-leaves : goal.returns-in-Err-Failed-clause-leaves
returns-in-Err-Failed-clause-leaves g c = falls-leaves _ _ c.refused_in.result c.refused_in.ensures

pub returns-then-is_empty-clause-file : goal.returns-then-is_empty-clause-file
returns-then-is_empty-clause-file g c = λ before is.
    let held = before ++ c.args.self.now.gather.waiting.items in
    let none = none_there c.bytes-bytes.result.now c.is_empty.result c.is_empty.ensures c.if-is_empty.true in
    (before, is, sym (append-nil held) ∙ ap (λ (l : List ℕ). held ++ l) (sym none ∙ c.bytes-bytes.ensures))
