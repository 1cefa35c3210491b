-- Why ids lack, in the table's words and in a call's.
use Rattle.std.proofs.Common.{◌≡◌, Bool, true, false, length, Option, Some, None, refl, ap, ◌∙◌}
use Rattle.std.specs.Prelude.{nat_le, if◌then◌else◌}
use Rattle.mcap_wire.specs.Limits.{id_limit}
use Rattle.rec_data.specs.declared.channel.ChannelDef.{ChannelDef}
use Rattle.id_table.specs.declared.given.IdRefused.{IdRefused}
use Rattle.id_table.specs.declared.given.IdRefused.TheVariants.{TooManySchemas, TooManyChannels, Memory}
use Rattle.history_ids.specs.Ids.{Ids}
use Rattle.history_ids.specs.Tables.{schemas_lack, ids_lack}
use Rattle.record_core.specs.declared.answers.CallRefused.{CallRefused}
use Rattle.record_core.specs.declared.answers.CallRefused.TheVariants as refusing
use Rattle.record_core.specs.Desk.{DeskView, declare_refusal, ids_refusal}

abbrev as_call : Option IdRefused → Option CallRefused
as_call None = None
as_call (Some TooManySchemas) = Some refusing.TooManySchemas
as_call (Some TooManyChannels) = Some refusing.TooManyChannels
as_call (Some Memory) = Some refusing.Memory

call_by : (schemas channels : Bool)
    → (if schemas then Some refusing.TooManySchemas else (if channels then Some refusing.TooManyChannels else None))
    ≡ as_call (if schemas then Some TooManySchemas else (if channels then Some TooManyChannels else None))
call_by true channels = refl
call_by false true = refl
call_by false false = refl

told : (ids : Ids) (c : ChannelDef) (lack : Option IdRefused) → ids_lack ids c ≡ lack → ids_refusal ids c ≡ as_call lack
told ids c lack is = call_by (schemas_lack ids c.schema) (nat_le id_limit (length ids.channels)) ∙ ap as_call is

-- where only ids may lack, a call is refused for what the table tells

pub lacks_none : (d : DeskView) (c : ChannelDef) → declare_refusal d c ≡ ids_refusal d.ids c → ids_lack d.ids c ≡ None → declare_refusal d c ≡ None
lacks_none d c same is = same ∙ told d.ids c None is

pub lacks_schemas : (d : DeskView) (c : ChannelDef) → declare_refusal d c ≡ ids_refusal d.ids c → ids_lack d.ids c ≡ Some TooManySchemas → declare_refusal d c ≡ Some refusing.TooManySchemas
lacks_schemas d c same is = same ∙ told d.ids c (Some TooManySchemas) is

pub lacks_channels : (d : DeskView) (c : ChannelDef) → declare_refusal d c ≡ ids_refusal d.ids c → ids_lack d.ids c ≡ Some TooManyChannels → declare_refusal d c ≡ Some refusing.TooManyChannels
lacks_channels d c same is = same ∙ told d.ids c (Some TooManyChannels) is
