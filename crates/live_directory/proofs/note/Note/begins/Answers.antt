use Rattle.std.proofs.Common.{ap, subst, refl, List}
use Rattle.std.specs.Prelude.{nat_le}
use mathlib.Core.List.{IsPrefix}
use Rattle.live_directory.specs.declared.front.Added.{Added}
use Rattle.live_directory.proofs.Beginnings.{either_begins}
use Rattle.live_directory.proofs.note.Note.begins.Goals as goal

pub returns-clause-begins : goal.returns-clause-begins
returns-clause-begins g c =
    let both = c.learn.new.self.log in
    let mine : IsPrefix c.self.inside.seen.log both = subst (λ (l : List (Added g.row.X.Denot)). IsPrefix l both) (ap (λ s. s.log) c.again-both.ensures) c.learn.ensures.2 in
    rw (← c.self.view_is, ← c.other.view_is) (either_begins c.self.inside.seen.log c.other.inside.seen.log both c.self.inside.count c.other.inside.count
    c.self.invariant.0 c.other.invariant.0 mine c.learn.ensures.3 (nat_le c.self.inside.count c.other.inside.count) refl)
