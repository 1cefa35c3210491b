-- The channels whose messages are asked for.
use Rattle.std.proofs.Common.{◌≡◌, ℕ, Bool, true, List, sym, subst}
use Rattle.mcap_model.specs.Plain.{asked_topic}
use Rattle.mcap_model.specs.Made.{top}
use Rattle.mcap_model.specs.Fields.{IsChannel}
use Rattle.mcap_model.specs.Led.{FirstTopic}
use Rattle.indexed_replay.specs.declared.spots.Request.{Request}
use Rattle.indexed_replay.specs.Costs.{HasChannelsOn}
use Rattle.indexed_replay.specs.Lists.{KnowsSummaryChannels, Chooses}

-- a choice of all channels on the topic has those that are wanted
pub chosen_on : (file : List ℕ) (request : Request) (chosen : ℕ → Bool) → KnowsSummaryChannels file request.tables.now.channels → HasChannelsOn file (asked_topic request.topic) chosen → Chooses request chosen
chosen_on file request chosen knows on = record {
  declare = knows.declare;
  all = λ channel w.
      let is = subst (λ (id : ℕ). IsChannel (top 4 w.declared.content) id w.shown) (sym w.id_is) w.is in
      on channel (record {
        start = knows.start;
        summary = knows.summary;
        has = knows.has;
        name = w.shown.topic;
        first = subst (λ (id : ℕ). FirstTopic knows.summary id w.shown.topic) w.id_is (knows.first w.place w.declared w.shown w.at is);
        on = w.on_topic;
      });
}
