use Rattle.std.proofs.Common.{◌≡◌, ◌+◌, ◌∷◌, ◌++◌, [], ℕ, List, sym, ap, subst, ◌∙◌}
use Rattle.feed_lane.specs.declared.report.Refused.{Refused}
use Rattle.feed_lane.specs.Lanes.{ListsFit}
use Rattle.feed_lane.specs.Steps.{lists_of, ListsStand, LastEnds, ListsTell}
use Rattle.feed_lane.proofs.Refusing.{refused_at, refused_fits, refused_tells, refused_stands, refused_last}
use Rattle.feed_lane.proofs.lane.Lane.refuse.Goals as goal

pub returns-then-goes_on-clause-taken : goal.returns-then-goes_on-clause-taken
returns-then-goes_on-clause-taken c = λ records handled pass due.
    let l = c.args.self.now in
    let index : c.handled-index.result ≡ handled = c.handled-index.ensures ∙ sym due.stands.fits.count in
    let listed : c.push.new.self.items ≡ l.refused.items ++ refused_at handled c.args.cause ∷ [] = c.push.ensures.items ∙ ap (λ (n : ℕ). l.refused.items ++ refused_at n c.args.cause ∷ []) index in
    subst (λ (refused : List Refused). ListsStand records (handled + 1) (handled + 1) l.ids (record { accepted = l.accepted.items; declared = l.declared.items; refused = refused }) pass) (sym listed)
    (refused_stands records handled l.ids (lists_of l) due.before pass c.args.cause due.stands due.refusal due.some due.tried (sym c.goes_on.ensures ∙ c.if-goes_on.true))

pub returns-clause-taken : goal.returns-clause-taken
returns-clause-taken c = λ records handled pass due.
    let l = c.args.self.now in
    let index : c.handled-index.result ≡ handled = c.handled-index.ensures ∙ sym due.stands.fits.count in
    let listed : c.push.new.self.items ≡ l.refused.items ++ refused_at handled c.args.cause ∷ [] = c.push.ensures.items ∙ ap (λ (n : ℕ). l.refused.items ++ refused_at n c.args.cause ∷ []) index in (
      subst (λ (refused : List Refused). ListsFit records (handled + 1) (handled + 1) (record { accepted = l.accepted.items; declared = l.declared.items; refused = refused }) pass) (sym listed)
          (refused_fits records handled l.ids (lists_of l) due.before pass c.args.cause due.stands due.refusal due.some),
      subst (LastEnds (handled + 1)) (sym listed) (refused_last handled (lists_of l) c.args.cause (sym c.goes_on.ensures ∙ c.if-goes_on.false)),
      subst (λ (refused : List Refused). ListsTell records (record { accepted = l.accepted.items; declared = l.declared.items; refused = refused }) pass) (sym listed)
          (refused_tells records handled l.ids (lists_of l) due.before pass c.args.cause due.stands due.refusal due.tried),
    )
