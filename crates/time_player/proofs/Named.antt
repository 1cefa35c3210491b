-- The topics of the channels of messages.
use Rattle.std.proofs.Common.{ℕ, List, subst, ◌∙◌}
use Rattle.mcap_model.specs.declared.replay.Shown.{Shown}
use Rattle.mcap_model.specs.declared.replay.Topic.{Topic}
use Rattle.mcap_model.specs.declared.table.Declared.{Declared}
use Rattle.mcap_model.specs.Places.{Has}
use Rattle.mcap_model.specs.Plain.{AreNamed}
use Rattle.time_player.specs.Heads.{AreOfChannels}

-- the topics of one message of each channel are those of all
pub named_by_few : (channels : List Declared) (few all : List Shown) (topics : List Topic) → AreOfChannels few all → AreNamed channels few topics → AreNamed channels all topics
named_by_few channels few all topics of named are declared =
    let have = named are (λ s has. let r = of.are s has in let d = declared r.0 r.1 in (d.0, d.1, d.2, d.3 ∙ r.2)) in
    record {
      rises = have.rises;
      are = λ t has.
          let n = have.are t has in
          let r = of.are n.1.0 n.1.1 in
          (n.0, (r.0, r.1, r.2 ∙ n.1.2));
      all = λ s has.
          let u = of.each s has in
          let t = have.all u.0 u.1 in
          (t.0, subst (λ (id : ℕ). Has topics (record { channel = id; topic = t.0 })) u.2 t.1);
    }
