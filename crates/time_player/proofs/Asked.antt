-- Whether a message is asked for.
use Rattle.std.proofs.Common.{◌≡◌, ◌↔◌, ℕ, Bool, true, false, List, refl, sym, ◌∙◌}
use Rattle.std.specs.Prelude.{nat_eq, IsTrue}
use Rattle.std.specs.Cmp.Lexicographic.{pointwise, bytes_decides}
use Rattle.rec_data.specs.Records.{ShowsChannel}
use Rattle.mcap_model.specs.declared.table.Declared.{Declared}
use Rattle.mcap_model.specs.declared.tables.Tables.{Tables}
use Rattle.mcap_model.specs.Places.{At}
use Rattle.mcap_model.specs.Tops.{Top}
use Rattle.mcap_model.specs.Fields.{ChannelFields}
use Rattle.mcap_model.specs.Scan.{HasTopic}
use Rattle.mcap_model.proofs.Flat.{topic_once}
use Rattle.mcap_model.proofs.NamedTopics.{are_channels, named_topic, named}
use Rattle.time_player.specs.Asking.{Knows}

-- the channel of a topic was declared
pub undeclared : (records : List Top) (tables : Tables) (channel : ℕ) (topic : List ℕ) → Knows records tables → HasTopic records channel topic → ((k : ℕ) (d : Declared) → At tables.channels k d → d.id ≡ channel → ⊥) → ⊥
undeclared records tables channel topic knows has none =
    let are = knows.tables_are in
    let channels = are.channels in
    let first = channels.covers has.place channel has.top has.shown has.at has.is in
    none first.0 first.1 first.3 first.4

-- and it has that topic
pub read_topic : (records : List Top) (tables : Tables) (channel : ℕ) (topic content : List ℕ) (other : ℕ) (g : ChannelFields) → Knows records tables → HasTopic records channel topic
    → (k : ℕ) × (d : Declared) × At tables.channels k d × (d.id ≡ channel) × (d.content ≡ content) → ShowsChannel content other g → g.topic ≡ topic
read_topic records tables channel topic content other g knows has first shows =
    let are = knows.tables_are in
    let is = named tables.channels channel content other g first (are_channels records tables are) shows in
    topic_once records channel g.topic topic knows.agree (named_topic records tables channel g.topic are is) has

pub same_test : (b : Bool) (asked found topic : List ℕ) → IsTrue b ↔ (asked ≡ found) → found ≡ topic → b ≡ pointwise nat_eq topic asked
same_test b asked found topic is same = by b (pointwise nat_eq topic asked) refl refl
  where
    by : (c d : Bool) → b ≡ c → pointwise nat_eq topic asked ≡ d → b ≡ pointwise nat_eq topic asked
    by true d one other = one ∙ sym ((bytes_decides topic asked).1 (sym (is.0 one ∙ same)))
    by false false one other = one ∙ sym other
    by false true one other = is.1 (sym ((bytes_decides topic asked).0 other) ∙ sym same) ∙ sym other
