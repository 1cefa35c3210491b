-- What a pass showed so far of a history that goes on.
use Rattle.std.specs.Prelude.{◌≡◌, ℕ, ◌≤◌, List, [], length, Some}
use Rattle.mcap_wire.specs.Limits.{id_limit}
use Rattle.rec_data.specs.declared.owned.Rec.{Rec}
use Rattle.mcap_model.specs.declared.ends.End.{End}
use Rattle.mcap_model.specs.Places.{At, Each}
use Rattle.mcap_model.specs.History.{schema_count, channel_count}
use Rattle.history_ids.specs.Ids.{schemas_in, channels_in}
use Rattle.record_core.specs.declared.answers.Found.{Found}
use Rattle.feed_lane.specs.Pass.{PassState}
use Rattle.buffer_swap.specs.Shown.{NameStands, IdsLackAt, HeldThere, FoundThere}

-- records that take no id where all are given
pub record Spares (history more : List Rec) : Type 0 where
  pub schemas : schema_count history ≡ id_limit → schemas_in more ≡ []
  pub channels : channel_count history ≡ id_limit → (schemas_in more ≡ []) × (channels_in more ≡ [])

-- The intake was found with no more records and ids than the history has. An end that was found is the history's, and behind
-- it nothing was accepted.
pub record FoundTo (limit : ℕ) (history : List Rec) (swaps : List ℕ) (end : End) (found : Found) : Type 0 where
  pub within : found.count ≤ length history
  pub schemas : found.schemas ≤ schema_count history
  pub channels : found.channels ≤ channel_count history
  pub numbers : FoundThere limit history swaps found
  pub all : (e : End) → found.end ≡ Some e → found.count ≡ length history
  pub same : (e : End) → found.end ≡ Some e → e ≡ end

-- What a pass showed is so of a whole history, whose buffers were handed over at these places, and whose intake came to this
-- end.
pub record ShownTo (history : List Rec) (swaps : List ℕ) (end : End) (pass : PassState) : Type 0 where
  pub own : Each (λ pair. At history pair.0 pair.1) pass.own
  pub named : Each (NameStands history) pass.named
  pub fulls : Each (HeldThere pass.limit history swaps) pass.fulls
  pub lacks : Each (IdsLackAt history) pass.lacks
  pub found : (found : Found) → pass.found ≡ Some found → FoundTo pass.limit history swaps end found
