use Rattle.std.proofs.Common.{ℕ, List, inl, inr, sym, subst}
use Rattle.mcap_model.specs.Places.{At}
use Rattle.history_ids.specs.FeedContents.{KeptStands}
use Rattle.feed_lane.specs.Sizes.{IsLength}
use Rattle.feed_lane.proofs.lane.Lane.excess_of.Goals as goal

-- what is kept besides is the length of the channel at hand
pub returns-in-Some-excess-clause-stands : goal.returns-in-Some-excess-clause-stands
returns-in-Some-excess-clause-stands c = λ records declared stand are.
    let kept = c.keep_wide.ensures in
    record {
      fresh = λ source d at. stand.fresh source d (subst (λ (given : List ℕ). At given source 0) kept.given at);
      known = λ source id at. stand.known source id (subst (λ (given : List ℕ). At given source id) kept.given at);
      kept = subst (KeptStands records) (sym kept.kept) stand.kept;
      wide = λ source len at over. elim (kept.wide source len at over) [
        | inl here ↦ subst (λ (n : ℕ). IsLength records source n) (sym here.1) (subst (λ (n : ℕ). IsLength records n c.in-Some-excess.len) (sym here.0) (c.in-Some-excess.ensures.size records are))
        | inr there ↦ stand.wide source len there over
      ];
    }
