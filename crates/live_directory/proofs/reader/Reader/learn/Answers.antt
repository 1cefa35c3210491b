use Rattle.std.proofs.Common.{ap}
use Rattle.live_directory.proofs.Histories.{front_grows}
use Rattle.live_directory.proofs.Reading.{learns}
use Rattle.live_directory.proofs.reader.Reader.learn.Goals as goal

pub returns-clause-learns : goal.returns-clause-learns
returns-clause-learns g c =
    learns g.X.Extent.tells _ _ c.self.inside.known (ap (λ r. r.known) c.self.view_is) c.longer.ensures.this c.longer.ensures.history (ap (λ r. r.entries) c.self.view_is)

pub returns-clause-rises : goal.returns-clause-rises
returns-clause-rises g c = front_grows g.X.Extent.tells _ _ c.longer.ensures.that c.longer.ensures.history
