use Rattle.std.proofs.Common.{rules, ◌≡◌, ◌+◌, ◌==◌, None, List, [], ◌∷◌, ◌++◌, length, sym, ◌∙◌, ap, arith, length-append, subst}
use Rattle.std.proofs.lemmas.Bool.Decides.{nat_tests}
use Rattle.live_directory.specs.declared.front.Added.{Added}
use Rattle.live_directory.specs.Published.{end_of, entries_of}
use Rattle.live_directory.specs.Histories.{added_batch, published_front}
use Rattle.live_entry.specs.Entries.{EntriesFollow}
use Rattle.live_directory.proofs.Histories.{front_after, when_true}
use Rattle.live_directory.proofs.Adding.{adds_moves}
use Rattle.live_directory.proofs.note.Note.add.Goals as goal

pub compare_exchange-found-requires : goal.compare_exchange-found-requires
compare_exchange-found-requires g c =
    let h = c.args.pages.now.head_is in
    let s = c.again-seen.ensures in
    let offer = c.plain-offer.ensures in
    let pen = c.no_pen-pen.ensures in
    let book = ap (λ x. x.book) s ∙ c.self.invariant.2 ∙ sym (ap (λ w. w.book) h) in
    let e : Added g.row.X.Denot = added_batch c.args.batch.now.entries.items c.args.batch.now.end in
    let next : EntriesFollow g.X.Extent.tells (entries_of c.again-seen.result.log ++ e.entries) = subst (λ (w : List (Added g.row.X.Denot)). EntriesFollow g.X.Extent.tells (entries_of w ++ e.entries)) (sym (ap (λ x. x.log) s ∙ c.self.view_is)) c.requires.follow in
    let may : end_of c.again-seen.result.log ≡ None = ap (λ x. end_of x.log) s ∙ ap end_of c.self.view_is ∙ c.requires.unsealed in (
      ap (λ w. w.tracked) h,
      book,
      pen.0 ∙ book,
      offer.0,
      rw (ap (λ w. w.key) h, pen.1, offer.1, offer.3) (adds_moves g.X.Extent.tells c.again-seen.result.log (added_batch c.args.batch.now.entries.items c.args.batch.now.end) c.self.inside.count (ap (λ x. length x.log) s ∙ sym c.self.invariant.0) may next),
    )

pub invariant_of-self : goal.invariant_of-self
invariant_of-self g c =
    let v : List (Added g.row.X.Denot) = c.self.inside.seen.log in
    let e : Added g.row.X.Denot = added_batch c.args.batch.now.entries.items c.args.batch.now.end in
    let s = c.again-seen.ensures in
    let new = c.compare_exchange-found.new.seen in
    let same : c.compare_exchange-found.result ≡ c.self.inside.count = search rules in
    let did = when_true _ _ (c.compare_exchange-found.result == c.self.inside.count) (grind (arith, nat_tests)) c.compare_exchange-found.ensures.7 in
    let log : new.log ≡ v ++ e ∷ [] = did.0 ∙ (λ i. (s i).log ++ c.plain-offer.ensures.1 i ∷ []) in
    let may : end_of v ≡ None = ap end_of c.self.view_is ∙ c.requires.unsealed in
    let blocks : c.in-Some-true.blocks ≡ length (entries_of v) + length e.entries = let was = ap (λ f. f.blocks) c.self.invariant.1 in omega (arith, was) in (
      omega (arith, c.self.invariant.0, ap length log, length-append v (e ∷ [])),
      (λ i. record { blocks = blocks i; end = e.end }) ∙ sym (front_after v e may) ∙ ap published_front (sym log),
      c.compare_exchange-found.ensures.0 ∙ ap (λ x. x.book) s ∙ c.self.invariant.2,
      did.1,
    )
