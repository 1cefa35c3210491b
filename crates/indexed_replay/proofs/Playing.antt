-- The messages that are played are those to which the summary leads.
use Rattle.std.proofs.Common.{◌≡◌, ◌⊎◌, ℕ, zero, suc, ◌+◌, ◌<◌, ◌≤◌, true, List, [], ◌∷◌, ◌++◌, map, length, Option, refl, sym, ap, subst, inl, inr, ◌∙◌, arith}
use Rattle.std.specs.Prelude.{◌==◌}
use Rattle.std.specs.List.{AllZip}
use Rattle.std.proofs.lemmas.Bool.{eq-eqb}
use Rattle.mcap_model.specs.declared.replay.Place.{Place}
use Rattle.mcap_model.specs.declared.replay.Shown.{Shown}
use Rattle.mcap_model.specs.declared.replay.Topic.{Topic}
use Rattle.mcap_model.specs.declared.replay.Replayed.{Replayed}
use Rattle.mcap_model.specs.declared.table.Declared.{Declared}
use Rattle.mcap_model.specs.Places.{At, Has}
use Rattle.mcap_model.specs.Tops.{Top}
use Rattle.mcap_model.specs.Made.{top}
use Rattle.mcap_model.specs.Fields.{ChannelFields, IsChannel}
use Rattle.mcap_model.specs.Scan.{Seen, InRange, OnTopic, IsAsked, ComesBefore}
use Rattle.mcap_model.specs.Showing.{shown_as, topic_as}
use Rattle.mcap_model.specs.Plain.{asked_topic, HasDeclaredTopic, AreDeclared, AreNamed}
use Rattle.mcap_model.specs.Led.{HasSummary, FirstTopic, IsInChunk, Led}
use Rattle.mcap_model.proofs.Lists.{pairs_at, pairs_from, filter_passed, filter_has}
use Rattle.mcap_model.proofs.NamedTopics.{zip_front, zip_back}
use Rattle.indexed_replay.specs.declared.spots.Request.{Request}
use Rattle.summary_read.specs.Parts.{of_kind, offsets_of_kind}
use Rattle.summary_read.proofs.Listing.{offset_at}
use Rattle.indexed_replay.specs.Replaying.{IsLed}
use Rattle.indexed_replay.specs.Steps.{AddsEachOnce}
use Rattle.indexed_replay.specs.Lists.{IsWantedChannel, KnowsSummaryChannels}
use Rattle.indexed_replay.specs.Gathering.{IsLedFrom, AreIndexed}
use Rattle.time_player.specs.Ordering.{led_as, IsOrdered}
use Rattle.indexed_replay.proofs.Adding.{in_chunk_once}
use Rattle.indexed_replay.proofs.Naming.{zip_all}
use Rattle.time_player.proofs.Ordering.{same_decided}
use Rattle.indexed_replay.proofs.Summed.{summary_once, first_once}

-- a message with the topic of its channel
abbrev pub seen_of : Shown → List ℕ → Seen
seen_of s topic = record { place = s.place; channel = s.channel; topic = topic; message = record { sequence = s.sequence; log_time = s.log_time; publish_time = s.publish_time; payload = s.payload } }

abbrev is_index_top : Top → Rattle.std.proofs.Common.Bool
is_index_top t = t.op == 8

pub are_indexed : (file : List ℕ) (start : ℕ) (summary tops : List Top) (offsets : List ℕ) → HasSummary file start summary → tops ≡ of_kind 8 summary → offsets ≡ offsets_of_kind 8 start summary → AreIndexed file tops offsets
are_indexed file start summary tops offsets has are placed = λ n t f at here is found.
    let (place, stands, there) = offset_at 8 start summary n t at (subst (λ (l : List Top). At l n t) are here) (subst (λ (l : List ℕ). At l n at) placed found) in
    record { start = start; summary = summary; has = has; place = place; index = t; indexed = stands; is = is; there = there }

module _ (file : List ℕ) (request : Request) (start : ℕ) (summary tops : List Top) (has : HasSummary file start summary) (are : tops ≡ of_kind 8 summary) (known : KnowsSummaryChannels file request.tables.now.channels) where
  own : known.summary ≡ summary
  own = summary_once file known.start start known.summary summary known.has has

  -- ---- topics

  declared_topic : (k : ℕ) (d : Declared) (f : ChannelFields) → At request.tables.now.channels k d → IsChannel (top 4 d.content) d.id f → FirstTopic summary d.id f.topic
  declared_topic k d f at is = let first = known.first in subst (λ (l : List Top). FirstTopic l d.id f.topic) own (first k d f at is)

  wanted_topic : (channel : ℕ) (w : IsWantedChannel request.tables.now.channels channel (asked_topic request.topic)) → FirstTopic summary channel (w.shown).topic
  wanted_topic channel w = subst (λ (c : ℕ). FirstTopic summary c (w.shown).topic) w.id_is (declared_topic w.place w.declared w.shown w.at (subst (λ (c : ℕ). IsChannel (top 4 (w.declared).content) c w.shown) (sym w.id_is) w.is))

  topic_wanted : (channel : ℕ) (topic : List ℕ) → FirstTopic summary channel topic → OnTopic (asked_topic request.topic) topic → IsWantedChannel request.tables.now.channels channel (asked_topic request.topic)
  topic_wanted channel topic first on =
      let covers = known.covers in
      let (k, d, at, same) = covers first.top channel first.shown (subst (λ (l : List Top). Has l first.top) (sym own) (first.place, first.at)) first.is in
      let declare = known.declare in
      let channels_are = declare.are in
      let (f, is) = channels_are k d at in
      let topics : f.topic ≡ topic = first_once summary channel f.topic topic (subst (λ (c : ℕ). FirstTopic summary c f.topic) same (declared_topic k d f at is)) first in
      record { place = k; declared = d; shown = f; at = at; id_is = same; is = subst (λ (c : ℕ). IsChannel (top 4 d.content) c f) same is; on_topic = λ t asked. topics ∙ on t asked }

  -- ---- what is led to

  in_chunk : (chunk : ℕ) (s : Shown) (topic : List ℕ) → IsInChunk file chunk (led_as s) → IsInChunk file chunk (seen_of s topic)
  in_chunk chunk s topic is = record { place = is.place; top = is.top; there = is.there; is = is.is }

  pub to_led : (s : Shown) (from : IsLedFrom file request tops s) → (topic : List ℕ) × Led file request.range (seen_of s topic) × OnTopic (asked_topic request.topic) topic × FirstTopic summary s.channel topic
  to_led s from =
      let among = from.led in
      let by = among.led in
      let list = by.led in
      let w = by.wanted in
      let topic = (w.shown).topic in
      let first = wanted_topic s.channel w in (
        topic,
        record {
          start = start;
          summary = summary;
          has = has;
          led = record {
            index = from.index;
            shown = from.shown;
            indexed = (let there = from.there in filter_passed is_index_top summary there.0 from.index (subst (λ (l : List Top). At l there.0 from.index) are there.1)).0;
            is = from.is;
            led = record {
              meets = from.meets;
              key = (among.named).0;
              offset = (among.named).1;
              named = among.there;
              led = record {
                list = list.list;
                entries = list.entries;
                there = list.there;
                is = list.is;
                entry = list.entry;
                in_range = list.in_range;
                message = in_chunk (from.shown).offset s topic list.message;
              };
            };
            topic = first;
          };
        },
        w.on_topic,
        first,
      )

  from_led : (m : Seen) → Led file request.range m → IsAsked request.range (asked_topic request.topic) m → IsLedFrom file request tops (shown_as m)
  from_led m led asked =
      let same = summary_once file led.start start led.summary summary led.has has in
      let by = led.led in
      let is = by.is in
      let indexed = subst (λ (l : List Top). Has l by.index) same by.indexed in
      let chunk = by.led in
      let list = chunk.led in
      let message = list.message in
      record {
        index = by.index;
        shown = by.shown;
        there = subst (λ (l : List Top). Has l by.index) (sym are) (filter_has is_index_top summary indexed.0 by.index indexed.1 (eq-eqb (by.index).op 8 is.kind));
        is = by.is;
        meets = chunk.meets;
        led = record {
          named = (chunk.key, chunk.offset);
          there = chunk.named;
          led = record {
            led = record {
              list = list.list;
              entries = list.entries;
              there = list.there;
              is = list.is;
              entry = list.entry;
              in_range = list.in_range;
              message = record { place = message.place; top = message.top; there = message.there; is = message.is };
            };
            wanted = topic_wanted m.channel m.topic (subst (λ (l : List Top). FirstTopic l m.channel m.topic) same by.topic) asked.1;
          };
        };
      }

  led_topic : (m : Seen) → Led file request.range m → FirstTopic summary m.channel m.topic
  led_topic m led = let by = led.led in subst (λ (l : List Top). FirstTopic l m.channel m.topic) (summary_once file led.start start led.summary summary led.has has) by.topic

  -- one message is led to at a place
  led_same : (s r : Shown) → IsLedFrom file request tops s → IsLedFrom file request tops r → s.place ≡ r.place → s ≡ r
  led_same s r one other place =
      let a = one.led in
      let b = other.led in
      let c = a.led in
      let d = b.led in
      let e = c.led in
      let f = d.led in
      let first = e.message in
      let second = f.message in
      let chunks : (one.shown).offset ≡ (other.shown).offset = sym first.place ∙ ap (λ (p : Place). p.top) place ∙ second.place in
      in_chunk_once file (other.shown).offset s r place (subst (λ (o : ℕ). IsInChunk file o (led_as s)) chunks first) second

  -- ---- what is played

  abbrev IsTopped : Shown → Seen → Type 0
  IsTopped s m = (topic : List ℕ) × (m ≡ seen_of s topic) × Led file request.range m × OnTopic (asked_topic request.topic) topic × FirstTopic summary s.channel topic

  shown_zip : (xs : List Shown) (ms : List Seen) → AllZip IsTopped xs ms → xs ≡ map shown_as ms
  shown_zip [] [] zip = refl
  shown_zip [] (m ∷ ms) zip = absurd zip
  shown_zip (x ∷ xs) [] zip = absurd zip
  shown_zip (x ∷ xs) (m ∷ ms) zip =
      let one : x ≡ shown_as m = sym (ap shown_as zip.0.1) in
      ap (λ (l : List Shown). x ∷ l) (shown_zip xs ms zip.1) ∙ ap (λ (y : Shown). y ∷ map shown_as ms) one

  made_same : (p q : Place) → p.top ≡ q.top → p.inner ≡ q.inner → p ≡ q
  made_same p q a b = made p.top q.top p.inner q.inner a b
    where
      made : (a b c d : ℕ) → a ≡ b → c ≡ d → Rattle.std.proofs.Common.◌≡◌ {A = Place} (record { top = a; inner = c }) (record { top = b; inner = d })
      made a b c d one two = cc

  pub is_led : (old : List Shown) (played : Replayed) → ((s : Shown) → Has old s → IsLedFrom file request tops s) → ((s : Shown) → IsLedFrom file request tops s → Has old s) → IsOrdered old played.shown.items
      → AreNamed request.tables.now.channels played.shown.items played.topics.items → IsLed file request.range (asked_topic request.topic) played
  is_led old played sound complete ordered named =
      let items = played.shown.items in
      let from : (s : Shown) → Has items s → IsLedFrom file request tops s = λ s there. let old_are = ordered.are in sound s (old_are s there) in
      let zipped = zip_all IsTopped items ([]) (λ n s at. let (topic, led, on, first) = to_led s (from s (n, at)) in (seen_of s topic, (topic, refl, led, on, first))) in
      let ms = zipped.0 in
      let zip = zipped.1 in
      let declared : AreDeclared request.tables.now.channels items = λ s there. let f = from s there in let among = f.led in let by = among.led in let w = by.wanted in (w.place, w.declared, w.at, w.id_is) in
      let have = named known.declare declared in
      record {
        shown = ms;
        replay = record {
          rises = pairs_from ComesBefore ms (λ i j m n less at_m at_n.
              let (s, at_s, one) = zip_back IsTopped items ms i m zip at_m in
              let (r, at_r, other) = zip_back IsTopped items ms j n zip at_n in
              let before : ComesBefore (seen_of s one.0) (seen_of r other.0) = pairs_at (λ (x : Shown) (y : Shown). ComesBefore (led_as x) (led_as y)) items ordered.rises i j s r less at_s at_r in
              subst (λ (x : Seen). ComesBefore x n) (sym one.1) (subst (λ (x : Seen). ComesBefore (seen_of s one.0) x) (sym other.1) before));
          are = λ m there.
              let (s, at_s, one) = zip_back IsTopped items ms there.0 m zip there.1 in
              let f = from s (there.0, at_s) in
              let among = f.led in
              let by = among.led in
              let list = by.led in
              (one.2, (subst (λ (x : Seen). InRange request.range x.message.log_time) (sym one.1) list.in_range, subst (λ (x : Seen). OnTopic (asked_topic request.topic) x.topic) (sym one.1) one.3));
          all = λ m led asked.
              let mine = from_led m led asked in
              let all = ordered.all in
              let (r, at_r, same) = all (shown_as m) (complete (shown_as m) mine) in
              let keys = (same_decided (shown_as m) r).0 same in
              let equal : shown_as m ≡ r = led_same (shown_as m) r mine (from r at_r) (made_same m.place r.place keys.1.0 keys.1.1) in
              let (n, at_n, one) = zip_front IsTopped items ms at_r.0 r zip at_r.1 in
              let first : FirstTopic summary m.channel one.0 = subst (λ (x : Shown). FirstTopic summary x.channel one.0) (sym equal) one.4 in
              let topics : one.0 ≡ m.topic = first_once summary m.channel one.0 m.topic first (led_topic m led) in
              let whole : n ≡ m = one.1 ∙ ap (λ (x : Shown). seen_of x one.0) (sym equal) ∙ ap (λ (t : List ℕ). seen_of (shown_as m) t) topics in
              (at_r.0, subst (λ (x : Seen). At ms at_r.0 x) whole at_n);
        };
        shows = record {
          shown = shown_zip items ms zip;
          topics = record {
            rises = have.rises;
            are = λ t there.
                let are_named = have.are in
                let (is, (s, at_s, channel)) = are_named t there in
                let (m, at_m, one) = zip_front IsTopped items ms at_s.0 s zip at_s.1 in
                let first : FirstTopic summary t.channel t.topic = named_first t.channel t.topic is in
                let topics : one.0 ≡ t.topic = first_once summary t.channel one.0 t.topic (subst (λ (c : ℕ). FirstTopic summary c one.0) channel one.4) first in
                (m, (at_s.0, at_m), ap topic_as one.1 ∙ topic_same s.channel t.channel one.0 t.topic channel topics);
            all = λ m there.
                let (s, at_s, one) = zip_back IsTopped items ms there.0 m zip there.1 in
                let all_have = have.all in
                let (topic, at_t) = all_have s (there.0, at_s) in
                let are_named = have.are in
                let first : FirstTopic summary s.channel topic = named_first s.channel topic (are_named (record { channel = s.channel; topic = topic }) at_t).0 in
                let topics : topic ≡ one.0 = first_once summary s.channel topic one.0 first one.4 in
                subst (λ (u : Topic). Has played.topics.items u) (topic_same s.channel s.channel topic one.0 refl topics ∙ sym (ap topic_as one.1)) at_t;
          };
        };
      }
    where
      named_first : (channel : ℕ) (topic : List ℕ) → HasDeclaredTopic request.tables.now.channels channel topic → FirstTopic summary channel topic
      named_first channel topic is =
          let d = is.declared in
          let first = declared_topic is.place d is.shown is.at (subst (λ (c : ℕ). IsChannel (top 4 d.content) c is.shown) (sym is.id_is) is.is) in
          subst (λ (t : List ℕ). FirstTopic summary channel t) is.topic_is (subst (λ (c : ℕ). FirstTopic summary c (is.shown).topic) is.id_is first)

      topic_same : (a b : ℕ) (x y : List ℕ) → a ≡ b → x ≡ y → Rattle.std.proofs.Common.◌≡◌ {A = Topic} (record { channel = a; topic = x }) (record { channel = b; topic = y })
      topic_same a b x y one two = cc

-- what was added to nothing and put in order is played
pub added_led : (file : List ℕ) (request : Request) (start : ℕ) (summary tops : List Top) (old new : List Shown) (played : Replayed) → AddsEachOnce (IsLedFrom file request tops) old new → old ≡ [] → HasSummary file start summary → tops ≡ of_kind 8 summary
    → KnowsSummaryChannels file request.tables.now.channels → IsOrdered new played.shown.items → AreNamed request.tables.now.channels played.shown.items played.topics.items → IsLed file request.range (asked_topic request.topic) played
added_led file request start summary tops old new played adds none has are known ordered named =
    let joined : new ≡ adds.more = adds.added ∙ ap (λ (l : List Shown). l ++ adds.more) none in
    is_led file request start summary tops has are known new played
    (λ s there. let are_led = adds.are in are_led s (subst (λ (l : List Shown). Has l s) joined there))
    (λ s led. let all = adds.all in subst (λ (l : List Shown). Has l s) (sym joined) (all s led))
    ordered named
