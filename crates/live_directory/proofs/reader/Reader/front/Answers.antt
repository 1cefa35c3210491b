use Rattle.std.proofs.Common.{ap, sym, subst}
use Rattle.live_directory.specs.Histories.{AtLeast, published_front}
use Rattle.live_directory.proofs.Reading.{learns}
use Rattle.live_directory.proofs.reader.Reader.front.Goals as goal

pub returns-clause-learns : goal.returns-clause-learns
returns-clause-learns g c =
    learns g.X.Extent.tells _ _ c.self.inside.known (ap (λ r. r.known) c.self.view_is) c.look-place.ensures.grows c.look-place.ensures.history (ap (λ r. r.entries) c.self.view_is)

pub returns-clause-rises : goal.returns-clause-rises
returns-clause-rises g c =
    let all = returns-clause-learns g c in
    subst (AtLeast (published_front c.args.self.now.known)) (sym c.front-2.ensures.front) all.rises
