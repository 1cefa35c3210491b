-- The message at hand stands among the records.
use Rattle.std.proofs.Common.{◌≡◌, ℕ, List, eqb, sym, subst, refl}
use Rattle.mcap_model.specs.Places.{Each}
use Rattle.mcap_model.specs.Tops.{Top}
use Rattle.mcap_model.specs.Made.{top}
use Rattle.mcap_model.specs.Fields.{MessageFields, IsMessage}
use Rattle.mcap_model.specs.Rules.{V6}
use Rattle.mcap_model.proofs.Lists.{filter_passed}
use Rattle.feed_lane.specs.Pass.{PassState}
use Rattle.feed_lane.specs.Lanes.{ReportLists, IsOn}
use Rattle.feed_lane.specs.Kept.{LaneIds}
use Rattle.feed_lane.specs.Steps.{ListsStand, AtHand}

pub is_on : (records : List Top) (handled channel : ℕ) (content : List ℕ) (m : MessageFields) → AtHand records handled content → IsMessage (top 5 content) channel m → IsOn records handled channel
is_on records handled channel content m at is = record { top = top 5 content; message = m; at = at; is = is }

-- room that is made leaves what the lane holds
pub roomed : (records : List Top) (handled : ℕ) (ids now : LaneIds) (lists lists_now : ReportLists) (pass : PassState) → now ≡ ids → lists_now ≡ lists → ListsStand records handled handled ids lists pass → ListsStand records handled handled now lists_now pass
roomed records handled ids now lists lists_now pass same same_lists stands =
    subst (λ (l : ReportLists). ListsStand records handled handled now l pass) (sym same_lists)
    (subst (λ (i : LaneIds). ListsStand records handled handled i lists pass) (sym same) stands)
