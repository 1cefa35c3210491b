-- The topics of the channels of messages, and what a scan shows at its end.
use Rattle.std.proofs.Common.{◌≡◌, ◌↔◌, ℕ, zero, suc, ◌+◌, ◌<◌, ◌≤◌, List, [], ◌∷◌, ◌++◌, length, get_or, take, map, refl, sym, ap, subst, ◌∙◌, arith}
use Rattle.std.specs.Prelude.{Contains, filter}
use Rattle.std.specs.List.{AllZip}
use Rattle.std.specs.List.Sorted.{IsStrictlyIncreasing}
use Rattle.std.proofs.lemmas.List.Kept.{AllPairs-from_increasing}
use Rattle.mcap_wire.specs.declared.faults.Cut.{Cut}
use Rattle.mcap_wire.proofs.Contents.{shows_decided, begins_decided}
use Rattle.rec_data.specs.Records.{ShowsChannel, channel_kinds, channel_values, message_kinds, message_values}
use Rattle.mcap_model.specs.Fields.{IsChannel, ChannelFields}
use Rattle.mcap_model.specs.declared.replay.Place.{Place}
use Rattle.mcap_model.specs.declared.replay.Shown.{Shown}
use Rattle.mcap_model.specs.declared.replay.Topic.{Topic}
use Rattle.mcap_model.specs.declared.replay.Replayed.{Replayed}
use Rattle.mcap_model.specs.declared.table.Declared.{Declared}
use Rattle.mcap_model.specs.declared.tables.Tables.{Tables}
use Rattle.mcap_model.specs.Places.{At, Has, EachBehind}
use Rattle.mcap_model.specs.Tops.{Top, Placed, placed, flat, offset_behind}
use Rattle.mcap_model.specs.Rules.{V1, Agrees}
use Rattle.mcap_model.specs.Kept.{reading_limits}
use Rattle.mcap_model.specs.Scan.{Seen, HasTopic, IsSeen, is_message_top}
use Rattle.mcap_model.specs.Declarations.{TablesOf, FirstOf}
use Rattle.mcap_model.specs.Made.{top}
use Rattle.mcap_model.specs.Showing.{shown_as, TopicsOf}
use Rattle.mcap_model.specs.Plain.{ReadTo, TakesRecord, cut_top, IsShown, AddsThose, HasDeclaredTopic, DeclareChannels, AreDeclared, HaveTopics, AreNamed, PlacesDiffer, IsScanned}
use Rattle.mcap_model.proofs.Places.{at_none, at_within, at_read, at_one}
use Rattle.mcap_model.proofs.Lists.{pairs_at, pairs_from}
use Rattle.mcap_model.proofs.Flat.{topic_once, at_mapped, placed_tops, good_lists_agree, good_lists_are_scanned}
use Rattle.mcap_model.proofs.TakenRecords.{ended, ended_more, more_read, fresh}
use Rattle.mcap_model.proofs.ShownMessages.{adds_none}
use Rattle.std.proofs.lemmas.Option.{same_Some}

-- ---- places

pub contained : {X : Type 0} (xs : List X) (x : X) → Has xs x → Contains xs x
contained xs x (n, at) = let in_xs = at_within xs n x at in (n, in_xs, at_one xs n (get_or xs n x) x (at_read xs n x in_xs) at)

pub has_there : {X : Type 0} (xs : List X) (x : X) → Contains xs x → Has xs x
has_there {X} xs x (n, within, is) = (n, subst (λ (y : X). At xs n y) is (at_read xs n x within))

pub unmapped : {X Y : Type 0} (f : X → Y) (xs : List X) (n : ℕ) (y : Y) → At (map f xs) n y → (x : X) × At xs n x × (f x ≡ y)
unmapped f [] n y at = absurd (at_none n y at)
unmapped f (x ∷ xs) zero y at = (x, refl, same_Some (f x) y at)
unmapped f (x ∷ xs) (suc n) y at = unmapped f xs n y at

pub zip_front : {X Y : Type 0} (R : X → Y → Type 0) (xs : List X) (ys : List Y) (n : ℕ) (x : X) → AllZip R xs ys → At xs n x → (y : Y) × At ys n y × R x y
zip_front R [] ys n x zip at = absurd (at_none n x at)
zip_front R (z ∷ xs) [] n x zip at = absurd zip
zip_front {X} R (z ∷ xs) (y ∷ ys) zero x zip at = (y, refl, subst (λ (w : X). R w y) (same_Some z x at) zip.0)
zip_front R (z ∷ xs) (y ∷ ys) (suc n) x zip at = zip_front R xs ys n x zip.1 at

pub zip_back : {X Y : Type 0} (R : X → Y → Type 0) (xs : List X) (ys : List Y) (n : ℕ) (y : Y) → AllZip R xs ys → At ys n y → (x : X) × At xs n x × R x y
zip_back R xs [] n y zip at = absurd (at_none n y at)
zip_back R [] (z ∷ ys) n y zip at = absurd zip
zip_back {X} {Y} R (x ∷ xs) (z ∷ ys) zero y zip at = (x, refl, subst (λ (w : Y). R x w) (same_Some z y at) zip.0)
zip_back R (x ∷ xs) (z ∷ ys) (suc n) y zip at = zip_back R xs ys n y zip.1 at

zip_next : {X Y : Type 0} (R : X → Y → Type 0) (xs : List X) (ys : List Y) (i : ℕ) (x : X) (y : Y) → i < length xs → x ≡ get_or xs i x → AllZip R (take i xs) ys → R x y → AllZip R (take (suc i) xs) (ys ++ y ∷ [])
zip_next R [] ys i x y within is zip here = absurd (omega (arith, within))
zip_next {X} {Y} R (z ∷ xs) ys zero x y within is zip here = by ys zip
  where
    by : (us : List Y) → AllZip R [] us → AllZip R (z ∷ []) (us ++ y ∷ [])
    by [] none = (subst (λ (w : X). R w y) is here, tt)
    by (u ∷ us) none = absurd none
zip_next R (z ∷ xs) [] (suc i) x y within is zip here = absurd zip
zip_next R (z ∷ xs) (u ∷ us) (suc i) x y within is zip here = (zip.0, zip_next R xs us i x y (omega (arith, within)) is zip.1 here)

pub zip_more : {X Y : Type 0} (R : X → Y → Type 0) (xs : List X) (ys : List Y) (i : ℕ) (x : X) (y : Y) → i < length xs → x ≡ get_or xs i x → AllZip R (take i xs) ys → R x y → AllZip R (take (i + 1) xs) (ys ++ y ∷ [])
zip_more R xs ys i x y within is zip here =
    let next : suc i ≡ i + 1 = omega arith in
    subst (λ (n : ℕ). AllZip R (take n xs) (ys ++ y ∷ [])) next (zip_next R xs ys i x y within is zip here)

pub take_past : {X : Type 0} (n : ℕ) (xs : List X) → length xs ≤ n → take n xs ≡ xs
take_past zero [] few = refl
take_past zero (x ∷ xs) few = absurd (omega (arith, few))
take_past (suc n) [] few = refl
take_past (suc n) (x ∷ xs) few = ap (λ l. x ∷ l) (take_past n xs (omega (arith, few)))

-- ---- what was added for each id

-- the channel of an id that a message is on was declared
pub id_declared : (channels : List Declared) (shown : List Shown) (ids : List ℕ) (i id : ℕ) → AreDeclared channels shown → ((other : ℕ) → Contains ids other ↔ Contains (map (λ s. s.channel) shown) other) → At ids i id → (k : ℕ) × (d : Declared) × At channels k d × (d.id ≡ id)
id_declared channels shown ids i id declared ids_are at =
    let there = has_there (map (λ (s : Shown). s.channel) shown) id ((ids_are id).0 (contained ids id (i, at))) in
    let s = unmapped (λ (s : Shown). s.channel) shown there.0 id there.1 in
    let d = declared s.0 (there.0, s.1) in
    (d.0, d.1, d.2, d.3 ∙ s.2)

-- the entry of a channel that was declared
abbrev pub IsEntry : List Declared → ℕ → Topic → Type 0
IsEntry channels id t = (t.channel ≡ id) × HasDeclaredTopic channels id t.topic

pub topics_named : (channels : List Declared) (shown : List Shown) (ids : List ℕ) (topics : List Topic) → IsStrictlyIncreasing ids → ((id : ℕ) → Contains ids id ↔ Contains (map (λ s. s.channel) shown) id) → AllZip (IsEntry channels) ids topics → HaveTopics channels shown topics
topics_named channels shown ids topics rising ids_are zip = record {
  rises = pairs_from (λ t u. t.channel < u.channel) topics (λ i j t u less at_t at_u.
      let a = zip_back (IsEntry channels) ids topics i t zip at_t in
      let b = zip_back (IsEntry channels) ids topics j u zip at_u in
      let below : a.0 < b.0 = pairs_at (λ (x : ℕ) (y : ℕ). x < y) ids (AllPairs-from_increasing ids rising) i j a.0 b.0 less a.1 b.1 in
      let first = a.2 in
      let second = b.2 in
      omega (arith, below, first.0, second.0));
  are = λ t has.
      let a = zip_back (IsEntry channels) ids topics has.0 t zip has.1 in
      let entry = a.2 in
      let there = has_there (map (λ (s : Shown). s.channel) shown) a.0 ((ids_are a.0).0 (contained ids a.0 (has.0, a.1))) in
      let s = unmapped (λ (s : Shown). s.channel) shown there.0 a.0 there.1 in
      (subst (λ (id : ℕ). HasDeclaredTopic channels id t.topic) (sym entry.0) entry.1, (s.0, (there.0, s.1), s.2 ∙ sym entry.0));
  all = λ s has.
      let there = has_there ids s.channel ((ids_are s.channel).1 (contained (map (λ (r : Shown). r.channel) shown) s.channel (has.0, at_mapped (λ (r : Shown). r.channel) shown has.0 s has.1))) in
      let t = zip_front (IsEntry channels) ids topics there.0 s.channel zip there.1 in
      let entry = t.2 in
      (t.0.topic, (there.0, subst (λ (id : ℕ). At topics there.0 (record { channel = id; topic = t.0.topic })) entry.0 t.1));
}

-- what is found of an id is the content of its channel
pub named : (channels : List Declared) (id : ℕ) (content : List ℕ) (other : ℕ) (g : ChannelFields) → (k : ℕ) × (d : Declared) × At channels k d × (d.id ≡ id) × (d.content ≡ content) → DeclareChannels channels
    → ShowsChannel content other g → HasDeclaredTopic channels id g.topic
named channels id content other g (k, d, at, id_is, same) are shows =
    let f = are.are k d at in
    let is = subst (λ (l : List ℕ). IsChannel (top 4 l) d.id f.0) same f.1 in
    let topics : f.0.topic ≡ g.topic = ap (λ v. v.1.1.0) (shows_decided channel_kinds content (channel_values d.id f.0) (channel_values other g) is.layout shows) in
    record { place = k; declared = d; shown = f.0; at = at; id_is = id_is; is = subst (λ (n : ℕ). IsChannel (top 4 d.content) n f.0) id_is f.1; topic_is = topics }

-- ---- the messages of a scan

pub shown_once : (records : List Top) (p : Placed) (m : Seen) (s : Shown) → IsSeen records p m → IsShown p s → s ≡ shown_as m
shown_once records p m s one other =
    let a = other.is in
    let b = one.is in
    let same = begins_decided message_kinds p.top.content (message_values s.channel (record { sequence = s.sequence; log_time = s.log_time; publish_time = s.publish_time; payload = s.payload })) (message_values m.channel m.message) s.payload m.message.payload a.layout b.layout in
    let place : s.place ≡ m.place = sym other.place ∙ one.place in
    ap (λ v. made s.place v.0 v.1.0 v.1.1.0 v.1.1.1.0 s.payload) same.0
    ∙ ap (λ (l : List ℕ). made s.place m.channel m.message.sequence m.message.log_time m.message.publish_time l) same.1
    ∙ ap (λ (q : Place). made q m.channel m.message.sequence m.message.log_time m.message.publish_time m.message.payload) place
  where
    made : Place → ℕ → ℕ → ℕ → ℕ → List ℕ → Shown
    made place channel sequence log_time publish_time payload = record { place = place; log_time = log_time; publish_time = publish_time; channel = channel; sequence = sequence; payload = payload }

pub zip_shown : (records : List Top) (ps : List Placed) (messages : List Seen) (shown : List Shown) → AllZip (IsSeen records) ps messages → AllZip IsShown ps shown → shown ≡ map shown_as messages
zip_shown records [] [] [] a b = refl
zip_shown records [] [] (s ∷ ss) a b = absurd b
zip_shown records [] (m ∷ ms) shown a b = absurd a
zip_shown records (p ∷ ps) [] shown a b = absurd a
zip_shown records (p ∷ ps) (m ∷ ms) [] a b = absurd b
zip_shown records (p ∷ ps) (m ∷ ms) (s ∷ ss) a b =
    ap (λ (x : Shown). x ∷ ss) (shown_once records p m s a.0 b.0) ∙ ap (λ (l : List Shown). shown_as m ∷ l) (zip_shown records ps ms ss a.1 b.1)

-- each message has its topic among the records
abbrev pub AreKnown : List Top → List Seen → Type 0
AreKnown records messages = (s : Seen) → Has messages s → HasTopic records s.channel s.topic

pub known_all : (records : List Top) (ps : List Placed) (messages : List Seen) → AllZip (IsSeen records) ps messages → AreKnown records messages
known_all records ps messages zip s has = let seen = (zip_back (IsSeen records) ps messages has.0 s zip has.1).2 in seen.known

pub are_channels : (records : List Top) (tables : Tables) → TablesOf records tables → DeclareChannels tables.channels
are_channels records tables are =
    let channels = are.channels in
    record { are = λ k d at. let held = channels.holds k d at in (held.0, held.1); apart = channels.apart }

pub are_declared : (records : List Top) (tables : Tables) (messages : List Seen) (shown : List Shown) → TablesOf records tables → AreKnown records messages → shown ≡ map shown_as messages → AreDeclared tables.channels shown
are_declared records tables messages shown are known same s has =
    let channels = are.channels in
    let m = unmapped shown_as messages has.0 s (subst (λ (l : List Shown). At l has.0 s) same has.1) in
    let named = known m.0 (has.0, m.1) in
    let first = channels.covers named.place m.0.channel named.top named.shown named.at named.is in
    (first.0, first.1, first.3, first.4 ∙ ap (λ (z : Shown). z.channel) m.2)

pub named_topic : (records : List Top) (tables : Tables) (id : ℕ) (topic : List ℕ) → TablesOf records tables → HasDeclaredTopic tables.channels id topic → HasTopic records id topic
named_topic records tables id topic are named =
    let channels = are.channels in
    let held = channels.holds named.place named.declared named.at in
    let has = held.2 in
    record { place = has.0; top = top 4 named.declared.content; shown = named.shown; at = has.1; is = named.is; topic_is = named.topic_is }

pub topics_right : (records : List Top) (tables : Tables) (messages : List Seen) (shown : List Shown) (topics : List Topic) → EachBehind Agrees records → TablesOf records tables → AreKnown records messages → shown ≡ map shown_as messages → HaveTopics tables.channels shown topics → TopicsOf messages topics
topics_right records tables messages shown topics agree are known same have = record {
  rises = have.rises;
  are = λ t has.
      let f = have.are t has in
      let s = f.1 in
      let there = s.1 in
      let m = unmapped shown_as messages there.0 s.0 (subst (λ (l : List Shown). At l there.0 s.0) same there.1) in
      let id : m.0.channel ≡ t.channel = ap (λ (z : Shown). z.channel) m.2 ∙ s.2 in
      let mine : HasTopic records t.channel m.0.topic = subst (λ (c : ℕ). HasTopic records c m.0.topic) id (known m.0 (there.0, m.1)) in
      let topic : m.0.topic ≡ t.topic = topic_once records t.channel m.0.topic t.topic agree mine (named_topic records tables t.channel t.topic are f.0) in
      (m.0, (there.0, m.1), ap (λ (c : ℕ). entry c m.0.topic) id ∙ ap (entry t.channel) topic);
  all = λ s has.
      let there = have.all (shown_as s) (has.0, subst (λ (l : List Shown). At l has.0 (shown_as s)) (sym same) (at_mapped shown_as messages has.0 s has.1)) in
      let f = have.are (entry s.channel there.0) there.1 in
      let topic : there.0 ≡ s.topic = topic_once records s.channel there.0 s.topic agree (named_topic records tables s.channel there.0 are f.0) (known s has) in
      subst (λ (l : List ℕ). Has topics (entry s.channel l)) topic there.1;
}
  where
    entry : ℕ → List ℕ → Topic
    entry channel topic = record { channel = channel; topic = topic }

-- ---- the end of a scan

-- what is scanned so far
pub record ScansSoFar (bytes : List ℕ) (at : ℕ) (tables : Tables) (shown : List Shown) : Type 0 where
  pub tops : List Top
  pub read : ReadTo bytes at tables tops
  pub adds : AddsThose (placed tops) [] shown
  pub within : at ≤ length bytes

pub none_first : {F : Type 0} (op : ℕ) (Is : Top → ℕ → F → Type 0) (Same : F → F → Type 0) (first : List Declared) → first ≡ [] → FirstOf op Is Same [] first
none_first op Is Same first none = record {
  holds = λ k d at. absurd (at_none k d (subst (λ (l : List Declared). At l k d) none at));
  covers = λ n id t g at is. absurd (at_none n t at);
  apart = λ j k d e at_d at_e same. absurd (at_none j d (subst (λ (l : List Declared). At l j d) none at_d));
}

pub scan_begins : (bytes : List ℕ) (tables : Tables) (shown : List Shown) → V1 bytes → tables.schemas ≡ [] → tables.channels ≡ [] → shown ≡ [] → ScansSoFar bytes 8 tables shown
scan_begins bytes tables shown magic schemas channels none = record {
  tops = [];
  read = fresh bytes tables magic (record { schemas = none_first _ _ _ tables.schemas schemas; channels = none_first _ _ _ tables.channels channels });
  adds = subst (λ (l : List Shown). AddsThose [] [] l) (sym none) (adds_none []);
  within = let size = ap length magic.1 in omega (arith, size);
}

pub scan_ends : (bytes : List ℕ) (at : ℕ) (c : Cut) (tables new : Tables) (tops : List Top) (all : Replayed) → ReadTo bytes at tables tops → TakesRecord bytes at tops new c → c.op ≡ 15
    → AddsThose (placed (tops ++ cut_top bytes c ∷ [])) [] all.shown.items → AreNamed new.channels all.shown.items all.topics.items → PlacesDiffer all.shown.items → IsScanned bytes all
scan_ends bytes at c tables new tops all was takes end adds named differ =
    let more = more_read bytes at c tables new tops was takes in
    let tops_all = tops ++ cut_top bytes c ∷ [] in
    let known = good_lists_agree reading_limits tops_all more.good in
    let found = good_lists_are_scanned reading_limits tops_all more.good in
    let messages = found.0 in
    let zip : AllZip (IsSeen (flat tops_all)) (filter (λ p. is_message_top p.top) (placed tops_all)) messages = subst (λ (l : List Top). AllZip (IsSeen l) (filter (λ p. is_message_top p.top) (placed tops_all)) messages) (placed_tops 8 tops_all) found.1 in
    let same : all.shown.items ≡ map shown_as messages = adds.added ∙ zip_shown (flat tops_all) (filter (λ p. is_message_top p.top) (placed tops_all)) messages adds.more zip adds.shows in
    let heard = known_all (flat tops_all) (filter (λ p. is_message_top p.top) (placed tops_all)) messages zip in
    let are = takes.tables_are in
    let have = named (are_channels (flat tops_all) new are) (are_declared (flat tops_all) new messages all.shown.items are heard same) in
    record {
      tops = tops_all;
      end = offset_behind tops_all;
      messages = messages;
      halts = ended bytes tops_all _ more.stands more.good (ended_more tops (cut_top bytes c) end);
      scan = found.1;
      differ = differ;
      shows = record { shown = same; topics = topics_right (flat tops_all) new messages all.shown.items all.topics.items known.1 are heard same have };
    }
