use Rattle.std.proofs.Common.{List, ℕ, false, refl, sym, subst, ◌∙◌}
use Rattle.std.proofs.lemmas.Bool.{both_ways}
use Rattle.rec_index.specs.Parsed.{statistics_fields}
use Rattle.index_check.specs.Tally.{CountsTallied}
use Rattle.index_check.proofs.Counted.{statistics_right, right_numbers, right_times, right_counts}
use Rattle.index_check.proofs.tally.Tally.is_right.Goals as goal

pub returns-then-not-has_numbers : goal.returns-then-not-has_numbers
returns-then-not-has_numbers c = λ tops section of. (
  λ e. absurd (both_ways false refl e),
  λ right. absurd (both_ways c.has_numbers.result c.if-not-has_numbers.true (c.has_numbers.ensures.1 (right_numbers tops section c.args.self.now (statistics_fields c.args.statistics.now) of right))),
)

pub returns-then-not-has_times : goal.returns-then-not-has_times
returns-then-not-has_times c = λ tops section of. (
  λ e. absurd (both_ways false refl e),
  λ right. absurd (right_times tops section c.args.self.now (statistics_fields c.args.statistics.now) of right (sym c.has_times.ensures ∙ c.if-not-has_times.true)),
)

pub returns : goal.returns
returns c = λ tops section of.
    let f = statistics_fields c.args.statistics.now in
    let tallied = λ (l : List (ℕ × ℕ)). CountsTallied f.counts l in (
      λ e. statistics_right tops section c.args.self.now f of (c.has_numbers.ensures.0 c.if-not-has_numbers.false) (sym c.has_times.ensures ∙ c.if-not-has_times.false) (subst tallied c.deref.ensures.value (c.are_tallied.ensures.0 e)),
      λ right. c.are_tallied.ensures.1 (subst tallied (sym c.deref.ensures.value) (right_counts tops section c.args.self.now f of right)),
    )
