-- Parts of a desk's calls.
use Rattle.std.specs.Prelude.{◌≡◌, ℕ, ◌+◌, ◌<◌, ◌≤◌, List, [], ◌∷◌, length, Option, Some, None, Result, Ok, Err}
use Rattle.mcap_wire.specs.Limits.{declaration_limit, record_count_limit}
use Rattle.rec_data.specs.declared.channel.ChannelDef.{ChannelDef}
use Rattle.record_core.specs.declared.desk.Sight.{Sight}
use Rattle.record_core.specs.declared.desk.Sight.TheVariants.{Refused, Known, New}
use Rattle.history_ids.specs.Ids.{channel_place}
use Rattle.history_ids.specs.Tables.{IsIdAt}
use Rattle.record_core.specs.Desk.{ids_refusal, DeskView, bytes_held, accepted, declare_refusal}
use Rattle.history_ids.specs.DeclarationFields.{declared_size}
use Rattle.rec_data.specs.declared.owned.Rec.{Rec}
use Rattle.record_cache.specs.declared.cache.Full.{Full}
use Rattle.rec_data.specs.Owned.{rec_bytes, RecFits}
use Rattle.record_cache.specs.declared.records.RecRef.{RecRef}
use Rattle.record_cache.specs.Buffers.{Buffer}
use Rattle.record_cache.specs.KeptRecords.{IsKept}
use Rattle.record_cache.specs.Offers.{rec_of, Offered}

-- only ids and memory may lack
pub record OnlyIdsLack (d : DeskView) (c : ChannelDef) : Type 0 where
  pub refusal : declare_refusal d c ≡ ids_refusal d.ids c
  pub is_new : channel_place d.ids c ≡ None
  pub small : declared_size c ≤ declaration_limit
  pub room : bytes_held d < d.limit
  pub few : accepted d < record_count_limit

-- What is seen of a declaration before ids are given: that it is refused, that its content has an id, or that the content is new and
-- only ids and memory may lack.
abbrev pub SightOf : DeskView → ChannelDef → Sight → Type 0
SightOf d c (Refused refusal) = declare_refusal d c ≡ Some refusal
SightOf d c (Known id) = (declare_refusal d c ≡ None) × IsIdAt (channel_place d.ids c) (Some id)
SightOf d c New = OnlyIdsLack d c

-- what is counted and added to a buffer, or why nothing is
abbrev pub CountedOffer : Buffer → List Rec → Result ℕ Full → Buffer → Type 0
CountedOffer b records (Ok n) after = (n ≡ length records) × Offered b records (Ok tt) after
CountedOffer b records (Err full) after = Offered b records (Err full) after

-- the record that is borrowed, if there is one
abbrev pub recs_of : Option RecRef → List Rec
recs_of None = []
recs_of (Some r) = rec_of r ∷ []

abbrev pub FirstFits : List Rec → Type 0
FirstFits [] = Unit {0}
FirstFits (r ∷ rs) = RecFits r

-- the Schema may be kept, and is short enough with its Channel
abbrev pub SchemaKept : List Rec → Rec → Type 0
SchemaKept [] channel = Unit {0}
SchemaKept (r ∷ rs) channel = IsKept r × (length (rec_bytes r) + length (rec_bytes channel) ≤ declaration_limit)
