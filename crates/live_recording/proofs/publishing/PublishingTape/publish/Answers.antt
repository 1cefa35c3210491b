use Rattle.std.proofs.Common.{◌≡◌, [], length, sym, ap, ◌∙◌, arith}
use Rattle.std.proofs.lemmas.Bool.Decides.{nat_tests}
use Rattle.live_recording.proofs.Given.{published_so, deferred_so, dropped_so}
use Rattle.live_recording.proofs.publishing.PublishingTape.publish.Goals as goal

pub returns-then-self-clause-gives : goal.returns-then-self-clause-gives
returns-then-self-clause-gives g c =
    dropped_so _ c.args.self.now.short c.args.self.now.lost c.args.entries.items c.if-self.true
    (λ none. absurd (let zero : length c.args.entries.items ≡ 0 = ap length none in grind (arith, nat_tests, sym c.is_empty.ensures ∙ c.if-is_empty.false))) c.requires.known

pub returns-in-Ok-clause-gives : goal.returns-in-Ok-clause-gives
returns-in-Ok-clause-gives g c = published_so _ _ c.args.self.now.short c.args.self.now.lost c.args.entries.items c.if-self.false c.requires.known _ c.in-Ok.ensures

pub returns-in-Err-clause-gives : goal.returns-in-Err-clause-gives
returns-in-Err-clause-gives g c =
    deferred_so _ _ c.args.self.now.short c.args.self.now.lost c.args.entries.items c.if-self.false c.requires.known
    (λ none. absurd (let zero : length c.args.entries.items ≡ 0 = ap length none in grind (arith, nat_tests, sym c.is_empty.ensures ∙ c.if-is_empty.false))) c.in-Err.ensures
