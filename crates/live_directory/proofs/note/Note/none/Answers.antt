use Rattle.std.proofs.Common.{ap, sym, subst, length}
use Rattle.live_directory.specs.Histories.{IsHistory, published_front}
use Rattle.live_directory.proofs.Empty.{no_history}
use Rattle.live_directory.proofs.note.Note.none.Goals as goal

pub invariant_of-result : goal.invariant_of-result
invariant_of-result g c =
    let empty = sym c.requires.empty in (
      ap length empty,
      ap published_front empty,
      c.requires.book,
      subst (IsHistory g.X.Extent.tells) empty (no_history g.X.Extent.tells),
    )
