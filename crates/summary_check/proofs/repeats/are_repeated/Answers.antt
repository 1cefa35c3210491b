use Rattle.std.proofs.Common.{ℕ, List, sym, subst}
use Rattle.mcap_model.specs.Places.{Has, Each}
use Rattle.summary_check.proofs.Repeated.{repeated, each_repeated}
use Rattle.summary_check.proofs.repeats.are_repeated.Goals as goal

pub returns : goal.returns
returns c = λ tops body foot ended judged foot_is are declared.
    let held = λ (l : List (ℕ × ℕ)). Each (λ entry. Has c.args.ids.now entry.0) l in (
      λ e. repeated tops body foot ended judged foot_is c.args.tally.now c.args.ids.now are declared (subst held c.deref.ensures.value (c.have_entries.ensures.0 e)),
      λ all. c.have_entries.ensures.1 (subst held (sym c.deref.ensures.value) (each_repeated tops body foot ended judged foot_is c.args.tally.now c.args.ids.now are declared all)),
    )
