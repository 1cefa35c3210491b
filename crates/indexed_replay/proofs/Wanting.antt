-- Which channels are wanted.
use Rattle.std.proofs.Common.{◌≡◌, ℕ, List, Option, refl, sym, subst, ◌∙◌}
use Rattle.rec_data.specs.Fields.{ChannelFields}
use Rattle.rec_data.specs.Records.{ShowsChannel}
use Rattle.rec_index.specs.Records.{ShowsMessageIndex}
use Rattle.mcap_model.specs.declared.table.Declared.{Declared}
use Rattle.mcap_model.specs.Places.{At}
use Rattle.mcap_model.specs.Fields.{IsChannel}
use Rattle.mcap_model.specs.Made.{top}
use Rattle.mcap_model.specs.Plain.{DeclareChannels}
use Rattle.mcap_model.specs.Scan.{OnTopic}
use Rattle.mcap_model.proofs.Maps.{shows_once}
use Rattle.mcap_model.proofs.Once.{message_index_once}
use Rattle.indexed_replay.specs.Lists.{IsWantedChannel}

module _ (channels : List Declared) (channel : ℕ) (topic : Option (List ℕ)) (declare : DeclareChannels channels) (k : ℕ) (d : Declared) (at : At channels k d) (id_is : d.id ≡ channel) (content : List ℕ) (same : d.content ≡ content) where
  pub is_channel : (id : ℕ) (f : ChannelFields) → ShowsChannel content id f → IsChannel (top 4 d.content) channel f
  is_channel id f shows =
      let are = declare.are in
      let own = are k d at in
      let there : IsChannel (top 4 d.content) id f = record { kind = refl; layout = subst (λ (l : List ℕ). ShowsChannel l id f) (sym same) shows } in
      let once = shows_once (top 4 d.content) id d.id f own.0 there own.1 in
      subst (λ (n : ℕ). IsChannel (top 4 d.content) n f) (once.0 ∙ id_is) there

  pub wanted : (id : ℕ) (f : ChannelFields) → ShowsChannel content id f → OnTopic topic f.topic → IsWantedChannel channels channel topic
  wanted id f shows on = record { place = k; declared = d; shown = f; at = at; id_is = id_is; is = is_channel id f shows; on_topic = on }

  pub wanted_content : IsWantedChannel channels channel topic → (f : ChannelFields) × IsChannel (top 4 d.content) channel f × OnTopic topic f.topic
  wanted_content w =
      let apart = declare.apart in
      let own : w.declared ≡ d = apart w.place k w.declared d w.at at (w.id_is ∙ sym id_is) in
      (w.shown, subst (λ (e : Declared). IsChannel (top 4 e.content) channel w.shown) own w.is, w.on_topic)

  pub wanted_topic : (id : ℕ) (f : ChannelFields) → ShowsChannel content id f → IsWantedChannel channels channel topic → OnTopic topic f.topic
  wanted_topic id f shows w =
      let (g, is, on) = wanted_content w in
      let once = shows_once (top 4 d.content) channel channel g f is (is_channel id f shows) in
      subst (λ (h : ChannelFields). OnTopic topic h.topic) once.1 on

-- ---- Message Indexes

pub index_once : (content : List ℕ) (a b : ℕ) (e f : List (ℕ × ℕ)) → ShowsMessageIndex content a e → ShowsMessageIndex content b f → (a ≡ b) × (e ≡ f)
index_once content a b e f one other = message_index_once (top 7 content) a b e f (record { kind = refl; layout = one }) (record { kind = refl; layout = other })
