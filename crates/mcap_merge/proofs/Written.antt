-- What is written of a message.
use Rattle.std.proofs.Common.{◌≡◌, ℕ, List, [], ◌∷◌, ◌++◌, Option, sym, ap, subst, ◌∙◌, append_assoc}
use Rattle.rec_data.specs.declared.owned.Rec.{Rec}
use Rattle.rec_data.specs.declared.channel.ChannelDef.{ChannelDef}
use Rattle.mcap_model.specs.Tops.{Top}
use Rattle.mcap_model.specs.Fields.{MessageFields}
use Rattle.mcap_model.specs.History.{channel_of, message_of}
use Rattle.history_ids.specs.Ids.{ids_of, channel_id, new_records}
use Rattle.history_ids.specs.DeclarationFields.{fields_with}
use Rattle.mcap_merge.specs.declared.input.Input.{Input}
use Rattle.mcap_merge.specs.declared.joining.Joiner.{Joiner}
use Rattle.mcap_merge.specs.declared.joining.Declared.{Declared}
use Rattle.mcap_merge.specs.declared.joining.Choice.{Choice}
use Rattle.mcap_merge.specs.Uses.{Use, with_use}
use Rattle.mcap_merge.specs.Joining.{JoinerStands, IsChosen, declared_records}
use Rattle.mcap_merge.specs.Writing.{put_on_channel, ComesNext}
use Rattle.mcap_merge.proofs.Joined.{stands_behind}

pub channel_is : (d : ChannelDef) (id other schema same : ℕ) → id ≡ other → schema ≡ same → channel_of id (fields_with d schema) ≡ channel_of other (fields_with d same)
channel_is d id other schema same one two = cc

-- what is put of a message is what it adds to the history
pub record IsTaken (history : List Rec) (u : Use) (declared : Option Declared) (id : ℕ) (m : MessageFields) : Type 0 where
  pub declared_are : declared_records declared ≡ new_records (ids_of history) u.content
  pub message : message_of id m ≡ message_of (channel_id (ids_of history) u.content) u.message

message_is : (one other : ℕ) (m n : MessageFields) → one ≡ other → m ≡ n → message_of one m ≡ message_of other n
message_is one other m n e f = cc

module _ (inputs : List (List Top)) (history : List Rec) (j k : Joiner) (input : Input) (number channel : ℕ) (m : MessageFields) (u : Use) (choice : Choice) (next : ComesNext inputs history j input number (put_on_channel channel m) u) (chosen : IsChosen inputs next.tops history channel k choice) where
  content_is : chosen.content ≡ u.content
  content_is = let content = next.content in content chosen.content chosen.is

  pub taken : IsTaken history u choice.declared choice.id m
  taken = record {
    declared_are = chosen.declared ∙ ap (new_records (ids_of history)) content_is;
    message = message_is choice.id (channel_id (ids_of history) u.content) m u.message (chosen.id_is ∙ ap (channel_id (ids_of history)) content_is) (sym next.message);
  }

  pub stands_on : JoinerStands inputs (with_use history u) k
  stands_on =
      let new = new_records (ids_of history) u.content in
      let id = channel_id (ids_of history) u.content in
      let now : JoinerStands inputs (history ++ new) k = subst (λ (d : ChannelDef). JoinerStands inputs (history ++ new_records (ids_of history) d) k) content_is chosen.stands in
      subst (λ (h : List Rec). JoinerStands inputs h k) (append_assoc history new (message_of id u.message ∷ [])) (stands_behind inputs (history ++ new) k id u.message now)
