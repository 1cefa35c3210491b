-- The records of a merge, as they are written.
use Rattle.std.specs.Prelude.{◌≡◌, ℕ, List}
use Rattle.std.specs.List.{flat_map}
use Rattle.rec_data.specs.declared.owned.Rec.{Rec}
use Rattle.rec_data.specs.declared.channel.ChannelDef.{ChannelDef}
use Rattle.mcap_model.specs.Places.{At, Each}
use Rattle.mcap_model.specs.Tops.{Top, flat}
use Rattle.mcap_model.specs.Fields.{MessageFields}
use Rattle.mcap_model.specs.Declarations.{TablesOf}
use Rattle.mcap_model.specs.Merged.{IsContent}
use Rattle.mcap_model.specs.ReadBack.{IsExtra}
use Rattle.mcap_merge.specs.declared.input.Input.{Input}
use Rattle.mcap_merge.specs.declared.joining.Joiner.{Joiner}
use Rattle.mcap_merge.specs.Uses.{Use}
use Rattle.mcap_merge.specs.Joining.{JoinerStands}
use Rattle.mcap_merge.specs.Inputs.{extra_top, extra_tops}

-- a message, and its channel's id in its input
pub record OnChannel : Type 0 where
  pub channel : ℕ
  pub fields : MessageFields

abbrev pub put_on_channel : ℕ → MessageFields → OnChannel
put_on_channel channel fields = record { channel = channel; fields = fields }

-- the message of the input of that number comes next behind the history, and this is its use
pub record ComesNext (inputs : List (List Top)) (history : List Rec) (j : Joiner) (input : Input) (number : ℕ)
    (m : OnChannel) (u : Use) : Type 0 where
  pub stands : JoinerStands inputs history j
  pub tops : List Top
  pub at : At inputs number tops
  pub tables_are : TablesOf (flat tops) input.tables
  pub content : (d : ChannelDef) → IsContent (flat tops) m.channel d → d ≡ u.content
  pub message : u.message ≡ m.fields

-- the extras of the inputs, in their order
abbrev pub extras_of : List Input → List Top
extras_of inputs = flat_map (λ i. extra_tops i.extras.items) inputs

-- each keeps its rules
abbrev pub ExtrasMeet : List Input → Type 0
ExtrasMeet inputs = Each (λ i. Each (λ e. IsExtra (extra_top e)) i.extras.items) inputs
