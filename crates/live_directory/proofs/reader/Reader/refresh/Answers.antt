use Rattle.std.proofs.Common.{◌≡◌, Some, Ok, ◌∙◌, ap, sym, subst}
use Rattle.live_directory.specs.Histories.{AtLeast, published_front, IsHistory}
use Rattle.live_directory.specs.Reading.{ReaderState}
use Rattle.live_directory.specs.ReaderSteps.{Tries}
use Rattle.live_directory.proofs.Histories.{front_grows}
use Rattle.live_directory.proofs.reader.Reader.refresh.Goals as goal

pub returns-in-Some-Ok : goal.returns-in-Some-Ok
returns-in-Some-Ok g c =
    let old = c.args.self.now in
    let new = c.try_refresh.new.self in
    let loop : c.loop.self ≡ old = c.loop.invariant.2 in
    let here : Tries c.loop.self new (Some (Ok c.in-Some-Ok.field-0-0)) = subst (λ r. Tries c.loop.self new (Some r)) c.in-Some-Ok.field-0-is c.in-Some-Ok.ensures in
    let tried : Tries old new (Some (Ok c.in-Some-Ok.field-0-0)) = subst (λ (z : ReaderState g.row.X.Denot). Tries z new (Some (Ok c.in-Some-Ok.field-0-0))) loop here in
    let known = ap (λ r. r.known) c.self.view_is in
    let history : IsHistory g.X.Extent.tells new.known = subst (IsHistory g.X.Extent.tells) known c.front.ensures.history in
    let front = c.front.ensures.front ∙ ap published_front known in record {
      entered = tried.0;
      front_is = front ∙ ap published_front tried.1;
      known = tried.1;
      entries = tried.2;
      grows = tried.3;
      rises = subst (AtLeast (published_front old.known)) (sym front) (front_grows g.X.Extent.tells old.known new.known tried.3 history);
    }
