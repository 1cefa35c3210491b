use Rattle.std.proofs.Common.{◌≡◌, ℕ, List, Option, Some, Bor, IsTrue, refl, sym, subst, ◌∙◌}
use Rattle.std.proofs.lemmas.Option.{same_Some}
use Rattle.rec_data.specs.Parsed.{channel_fields}
use Rattle.mcap_model.specs.Plain.{asked_topic}
use Rattle.indexed_replay.specs.Lists.{IsWantedChannel}
use Rattle.indexed_replay.proofs.Wanting.{wanted, wanted_topic}
use Rattle.indexed_replay.proofs.lists.is_wanted.Goals as goal

pub returns-in-Some-topic : goal.returns-in-Some-topic
returns-in-Some-topic c = λ declare.
    let (k, d, there, same, shows) = c.in-Some.ensures in
    let f = channel_fields c.in-Some.found in
    let asked = c.in-Some-topic.asked.now in
    let both : (IsTrue c.is.result → IsWantedChannel c.args.tables.now.channels c.args.channel (Some asked)) × (IsWantedChannel c.args.tables.now.channels c.args.channel (Some asked) → IsTrue c.is.result) = (
      λ is. wanted c.args.tables.now.channels c.args.channel (Some asked) declare k d there same d.content refl c.in-Some.found.id f shows (λ t one. sym (c.is.ensures.0 is) ∙ same_Some asked t one),
      λ w. c.is.ensures.1 (sym (wanted_topic c.args.tables.now.channels c.args.channel (Some asked) declare k d there same d.content refl c.in-Some.found.id f shows w asked refl)),
    ) in
    subst (λ (o : Option (Bor (List ℕ))). (IsTrue c.is.result → IsWantedChannel c.args.tables.now.channels c.args.channel (asked_topic o)) × (IsWantedChannel c.args.tables.now.channels c.args.channel (asked_topic o) → IsTrue c.is.result)) (sym c.in-Some-topic.is) both
