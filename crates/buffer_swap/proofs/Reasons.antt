-- Why a desk refuses what it refuses.
use Rattle.std.proofs.Common.{◌≡◌, ℕ, ◌^◌, ◌<◌, ◌≤◌, Bool, true, false, length, Option, Some, None, refl, sym, subst, arith}
use Rattle.std.specs.Prelude.{nat_lt, nat_le, if◌then◌else◌}
use Rattle.std.proofs.lemmas.Bool.{ltb-true, leb-true}
use Rattle.rec_data.specs.declared.channel.ChannelDef.{ChannelDef}
use Rattle.mcap_model.specs.declared.ends.End.{End}
use Rattle.mcap_model.specs.declared.ends.End.TheVariants.{Closed, Stopped}
use Rattle.history_ids.specs.Ids.{is_known_channel, channel_place}
use Rattle.history_ids.specs.Tables.{schemas_lack}
use Rattle.record_core.specs.Desk.{ids_refusal, DeskView, accepted, bytes_held, found_of, publish_ended, publish_refusal, declare_at, declare_ended, declare_refusal}
use Rattle.feed_lane.specs.Pass.{filled, full_at}
use Rattle.history_ids.specs.DeclarationFields.{declared_size}
use Rattle.record_core.specs.declared.answers.CallRefused.{CallRefused}
use Rattle.record_core.specs.declared.answers.CallRefused.TheVariants as refusing

-- ---- tests

lt_false : (a b : ℕ) → nat_lt a b ≡ false → b ≤ a
lt_false a b e = grind arith

le_false : (a b : ℕ) → nat_le a b ≡ false → b < a
le_false a b e = grind arith

-- ---- messages

abbrev pub PublishReason : DeskView → ℕ → ℕ → Option CallRefused → Type 0
PublishReason d channel len None = (d.end ≡ None) × (is_known_channel d.ids channel ≡ true) × (accepted d < 2 ^ 48) × (bytes_held d < d.limit) × (len ≤ 33554432)
PublishReason d channel len (Some (refusing.TooLarge l)) = (l ≡ len) × (33554432 < l)
PublishReason d channel len (Some (refusing.Closed at)) = (d.end ≡ Some (Closed, at)) × (len ≤ 33554432)
PublishReason d channel len (Some (refusing.Stopped at stop)) = (d.end ≡ Some (Stopped stop, at)) × (len ≤ 33554432)
PublishReason d channel len (Some refusing.UnknownChannel) = (d.end ≡ None) × (is_known_channel d.ids channel ≡ false) × (len ≤ 33554432)
PublishReason d channel len (Some (refusing.TooManyRecords count)) = (d.end ≡ None) × (count ≡ accepted d) × (2 ^ 48 ≤ count) × (is_known_channel d.ids channel ≡ true) × (len ≤ 33554432)
PublishReason d channel len (Some (refusing.Full h from to)) = (d.end ≡ None) × (filled h from to ≡ full_at (found_of d)) × (d.limit ≤ h) × (is_known_channel d.ids channel ≡ true) × (accepted d < 2 ^ 48) × (len ≤ 33554432)
PublishReason d channel len (Some refusing.TooManySchemas) = ⊥
PublishReason d channel len (Some refusing.TooManyChannels) = ⊥
PublishReason d channel len (Some refusing.Memory) = ⊥

open_full : (d : DeskView) (channel len : ℕ) (b : Bool) → nat_le d.limit (bytes_held d) ≡ b → d.end ≡ None → is_known_channel d.ids channel ≡ true → accepted d < 2 ^ 48 → len ≤ 33554432
    → PublishReason d channel len (if b then Some (refusing.Full (bytes_held d) d.taken (accepted d)) else None)
open_full d channel len true is unended known few small = (unended, refl, leb-true d.limit (bytes_held d) is, known, few, small)
open_full d channel len false is unended known few small = (unended, known, few, le_false d.limit (bytes_held d) is, small)

open_many : (d : DeskView) (channel len : ℕ) (b : Bool) → nat_le (2 ^ 48) (accepted d) ≡ b → d.end ≡ None → is_known_channel d.ids channel ≡ true → len ≤ 33554432
    → PublishReason d channel len (if b then Some (refusing.TooManyRecords (accepted d)) else (if nat_le d.limit (bytes_held d) then Some (refusing.Full (bytes_held d) d.taken (accepted d)) else None))
open_many d channel len true is unended known small = (unended, refl, leb-true (2 ^ 48) (accepted d) is, known, small)
open_many d channel len false is unended known small = open_full d channel len (nat_le d.limit (bytes_held d)) refl unended known (le_false (2 ^ 48) (accepted d) is) small

open_known : (d : DeskView) (channel len : ℕ) (b : Bool) → is_known_channel d.ids channel ≡ b → d.end ≡ None → len ≤ 33554432
    → PublishReason d channel len (if b then (if nat_le (2 ^ 48) (accepted d) then Some (refusing.TooManyRecords (accepted d)) else (if nat_le d.limit (bytes_held d) then Some (refusing.Full (bytes_held d) d.taken (accepted d)) else None)) else Some refusing.UnknownChannel)
open_known d channel len true is unended small = open_many d channel len (nat_le (2 ^ 48) (accepted d)) refl unended is small
open_known d channel len false is unended small = (unended, is, small)

ended_reason : (d : DeskView) (channel len : ℕ) (end : Option (End × ℕ)) → d.end ≡ end → len ≤ 33554432 → PublishReason d channel len (publish_ended end d channel)
ended_reason d channel len None is small = open_known d channel len (is_known_channel d.ids channel) refl is small
ended_reason d channel len (Some (Closed, at)) is small = (is, small)
ended_reason d channel len (Some (Stopped stop, at)) is small = (is, small)

size_reason : (d : DeskView) (channel len : ℕ) (b : Bool) → nat_lt 33554432 len ≡ b → PublishReason d channel len (if b then Some (refusing.TooLarge len) else publish_ended d.end d channel)
size_reason d channel len true is = (refl, ltb-true 33554432 len is)
size_reason d channel len false is = ended_reason d channel len d.end refl (lt_false 33554432 len is)

pub publish_reason : (d : DeskView) (channel len : ℕ) (refusal : Option CallRefused) → publish_refusal d channel len ≡ refusal → PublishReason d channel len refusal
publish_reason d channel len refusal is = subst (PublishReason d channel len) is (size_reason d channel len (nat_lt 33554432 len) refl)

-- ---- declarations

-- the desk has a place for the records of a channel that is new
pub record HasRecords (d : DeskView) : Type 0 where
  pub few : accepted d < 2 ^ 48
  pub room : bytes_held d < d.limit

-- and ids for it
pub record HasAll (d : DeskView) (c : ChannelDef) : Type 0 where
  pub place : HasRecords d
  pub schemas : schemas_lack d.ids c.schema ≡ false
  pub channels : length d.ids.channels < 65535

-- a content that is known needs none of this
abbrev pub MayHave : DeskView → ChannelDef → Option ℕ → Type 0
MayHave d c (Some place) = Unit {0}
MayHave d c None = HasAll d c

-- what is so of each answer but that the records are too long
abbrev pub DeclareReason : DeskView → ChannelDef → Option CallRefused → Type 0
DeclareReason d c None = (d.end ≡ None) × MayHave d c (channel_place d.ids c)
DeclareReason d c (Some (refusing.TooLarge l)) = (l ≡ declared_size c) × (1048576 < l)
DeclareReason d c (Some (refusing.Closed at)) = d.end ≡ Some (Closed, at)
DeclareReason d c (Some (refusing.Stopped at stop)) = d.end ≡ Some (Stopped stop, at)
DeclareReason d c (Some (refusing.TooManyRecords count)) = (d.end ≡ None) × (count ≡ accepted d) × (2 ^ 48 ≤ count) × (channel_place d.ids c ≡ None)
DeclareReason d c (Some (refusing.Full h from to)) = (d.end ≡ None) × (filled h from to ≡ full_at (found_of d)) × (d.limit ≤ h) × (channel_place d.ids c ≡ None) × (accepted d < 2 ^ 48)
DeclareReason d c (Some refusing.TooManySchemas) = (d.end ≡ None) × (schemas_lack d.ids c.schema ≡ true) × (channel_place d.ids c ≡ None) × HasRecords d
DeclareReason d c (Some refusing.TooManyChannels) = (d.end ≡ None) × (channel_place d.ids c ≡ None) × (65535 ≤ length d.ids.channels) × (schemas_lack d.ids c.schema ≡ false) × HasRecords d
DeclareReason d c (Some refusing.UnknownChannel) = ⊥
DeclareReason d c (Some refusing.Memory) = ⊥

may_have : (d : DeskView) (c : ChannelDef) (place : Option ℕ) → channel_place d.ids c ≡ place → MayHave d c place → MayHave d c (channel_place d.ids c)
may_have d c place is have = subst (MayHave d c) (sym is) have

channels_reason : (d : DeskView) (c : ChannelDef) (b : Bool) → nat_le 65535 (length d.ids.channels) ≡ b → d.end ≡ None → channel_place d.ids c ≡ None → HasRecords d → schemas_lack d.ids c.schema ≡ false
    → DeclareReason d c (if b then Some refusing.TooManyChannels else None)
channels_reason d c true is unended new place schemas = (unended, new, leb-true 65535 (length d.ids.channels) is, schemas, place)
channels_reason d c false is unended new place schemas = (unended, may_have d c None new (record { place = place; schemas = schemas; channels = le_false 65535 (length d.ids.channels) is }))

ids_reason : (d : DeskView) (c : ChannelDef) (b : Bool) → schemas_lack d.ids c.schema ≡ b → d.end ≡ None → channel_place d.ids c ≡ None → HasRecords d
    → DeclareReason d c (if b then Some refusing.TooManySchemas else (if nat_le 65535 (length d.ids.channels) then Some refusing.TooManyChannels else None))
ids_reason d c true is unended new place = (unended, is, new, place)
ids_reason d c false is unended new place = channels_reason d c (nat_le 65535 (length d.ids.channels)) refl unended new place is

full_reason : (d : DeskView) (c : ChannelDef) (b : Bool) → nat_le d.limit (bytes_held d) ≡ b → d.end ≡ None → channel_place d.ids c ≡ None → accepted d < 2 ^ 48
    → DeclareReason d c (if b then Some (refusing.Full (bytes_held d) d.taken (accepted d)) else ids_refusal d.ids c)
full_reason d c true is unended new few = (unended, refl, leb-true d.limit (bytes_held d) is, new, few)
full_reason d c false is unended new few = ids_reason d c (schemas_lack d.ids c.schema) refl unended new (record { few = few; room = le_false d.limit (bytes_held d) is })

many_reason : (d : DeskView) (c : ChannelDef) (b : Bool) → nat_le (2 ^ 48) (accepted d) ≡ b → d.end ≡ None → channel_place d.ids c ≡ None
    → DeclareReason d c (if b then Some (refusing.TooManyRecords (accepted d)) else (if nat_le d.limit (bytes_held d) then Some (refusing.Full (bytes_held d) d.taken (accepted d)) else ids_refusal d.ids c))
many_reason d c true is unended new = (unended, refl, leb-true (2 ^ 48) (accepted d) is, new)
many_reason d c false is unended new = full_reason d c (nat_le d.limit (bytes_held d)) refl unended new (le_false (2 ^ 48) (accepted d) is)

place_reason : (d : DeskView) (c : ChannelDef) (place : Option ℕ) → channel_place d.ids c ≡ place → d.end ≡ None → DeclareReason d c (declare_at place d c)
place_reason d c (Some place) is unended = (unended, may_have d c (Some place) is tt)
place_reason d c None is unended = many_reason d c (nat_le (2 ^ 48) (accepted d)) refl unended is

declare_ended_reason : (d : DeskView) (c : ChannelDef) (end : Option (End × ℕ)) → d.end ≡ end → DeclareReason d c (declare_ended end d c)
declare_ended_reason d c None is = place_reason d c (channel_place d.ids c) refl is
declare_ended_reason d c (Some (Closed, at)) is = is
declare_ended_reason d c (Some (Stopped stop, at)) is = is

declare_size_reason : (d : DeskView) (c : ChannelDef) (b : Bool) → nat_lt 1048576 (declared_size c) ≡ b → DeclareReason d c (if b then Some (refusing.TooLarge (declared_size c)) else declare_ended d.end d c)
declare_size_reason d c true is = (refl, ltb-true 1048576 (declared_size c) is)
declare_size_reason d c false is = declare_ended_reason d c d.end refl

pub declare_reason : (d : DeskView) (c : ChannelDef) (refusal : Option CallRefused) → declare_refusal d c ≡ refusal → DeclareReason d c refusal
declare_reason d c refusal is = subst (DeclareReason d c) is (declare_size_reason d c (nat_lt 1048576 (declared_size c)) refl)

-- the records are too long only where that is the answer
narrow_by : (d : DeskView) (c : ChannelDef) (refusal : Option CallRefused) (b : Bool) → nat_lt 1048576 (declared_size c) ≡ b
    → (if b then Some (refusing.TooLarge (declared_size c)) else declare_ended d.end d c) ≡ refusal → ((len : ℕ) → refusal ≡ Some (refusing.TooLarge len) → ⊥) → declared_size c ≤ 1048576
narrow_by d c refusal true is same other = absurd (other (declared_size c) (sym same))
narrow_by d c refusal false is same other = lt_false 1048576 (declared_size c) is

pub narrow : (d : DeskView) (c : ChannelDef) (refusal : Option CallRefused) → declare_refusal d c ≡ refusal → ((len : ℕ) → refusal ≡ Some (refusing.TooLarge len) → ⊥) → declared_size c ≤ 1048576
narrow d c refusal is other = narrow_by d c refusal (nat_lt 1048576 (declared_size c)) refl is other
