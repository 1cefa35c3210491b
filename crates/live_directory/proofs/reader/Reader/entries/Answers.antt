use Rattle.std.proofs.Common.{take, ap, sym, ◌∙◌}
use Rattle.live_directory.specs.Published.{entries_of}
use Rattle.live_directory.proofs.reader.Reader.entries.Goals as goal

pub returns-clause-first : goal.returns-clause-first
returns-clause-first g c =
    (c.self.inside.taken, sym (ap (λ r. r.entries) c.self.view_is) ∙ c.self.invariant.2 ∙ ap (λ r. entries_of (take c.self.inside.taken r.known)) c.self.view_is)
