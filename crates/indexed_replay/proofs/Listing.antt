-- What a Message Index adds, and why it adds nothing.
use Rattle.std.proofs.Common.{◌≡◌, ◌⊎◌, ℕ, ◌+◌, ◌≤◌, Bool, true, false, List, drop, Result, Ok, Err, refl, sym, ap, subst, inl, inr, ◌∙◌, arith}
use Rattle.mcap_model.specs.declared.replay.Range.{Range}
use Rattle.mcap_model.specs.declared.replay.Shown.{Shown}
use Rattle.mcap_model.specs.Places.{Has}
use Rattle.mcap_model.specs.Tops.{Top, first_top}
use Rattle.mcap_model.specs.Made.{top}
use Rattle.mcap_model.specs.Fields.{IsMessageIndex, ChunkIndexFields}
use Rattle.mcap_model.specs.Plain.{asked_topic}
use Rattle.mcap_model.specs.Led.{IsThere}
use Rattle.rec_index.specs.Records.{ShowsMessageIndex}
use Rattle.mcap_model.proofs.Readings.{length-top}
use Rattle.mcap_model.specs.declared.refusals.ReadingRefused.{ReadingRefused}
use Rattle.mcap_model.specs.declared.refusals.ReadingRefused.TheVariants as refusals
use Rattle.mcap_model.specs.declared.refusals.IndexedRefused.{IndexedRefused}
use Rattle.mcap_model.specs.declared.refusals.IndexedRefused.TheVariants as by_index
use Rattle.mcap_model.specs.declared.refusals.NotIndexed.{NotIndexed}
use Rattle.mcap_model.specs.declared.refusals.NotIndexed.TheVariants as lacks
use Rattle.indexed_replay.specs.declared.spots.Spot.{Spot}
use Rattle.indexed_replay.specs.declared.spots.Request.{Request}
use Rattle.indexed_replay.specs.Reaching.{NamesOffset, LeadsTo, LacksIndex, LacksMessage, no_index, IsTooLong, at_index, at_message, head_length}
use Rattle.indexed_replay.specs.Replaying.{IsReason}
use Rattle.indexed_replay.specs.Steps.{FrontStands, AddsEachOnce, IsLedInRange, EntryRefused, EntriesShown, ListAsked}
use Rattle.indexed_replay.specs.Costs.{chosen_cost, ListCost, own_list, other_list, no_list}
use Rattle.indexed_replay.specs.Lists.{IsWantedChannel, Undeclared, KnowsSummaryChannels, HasTimely, IsShownBy, ContentRefused, at_entry, no_channel, too_much, ContentShown, IsLedBy, IsLedOnChannel, ListRefused, ListShown, IsListFound}
use Rattle.indexed_replay.specs.HoldingSteps.{OverfullAt}
use Rattle.indexed_replay.proofs.Headed.{there_begun}
use Rattle.indexed_replay.proofs.Filling.{over_same}
use Rattle.indexed_replay.proofs.Adding.{adds_none, adds_same, same_there}
use Rattle.mcap_model.proofs.Once.{message_index_once}
use Rattle.mcap_model.specs.declared.rules.Rule.TheVariants as rules

-- ---- a content

-- the same answer, as that of a replay
abbrev pub passed : Result Bool ReadingRefused → Result Bool IndexedRefused
passed (Ok all) = Ok all
passed (Err why) = Err (by_index.Refused why)

pub content_shown : (file : List ℕ) (request : Request) (spot : Spot) (entries : List (ℕ × ℕ)) (shown : List Shown × List Shown) (result : Result Bool ReadingRefused) → IsWantedChannel request.tables.now.channels spot.channel (asked_topic request.topic)
    → EntriesShown file request.range spot entries shown result → ContentShown file request spot entries shown (passed result)
content_shown file request spot entries shown (Ok true) wanted adds =
    adds_same (IsLedInRange file request.range spot entries) (IsShownBy file request spot entries) shown.0 shown.1 adds
    (λ s listed. record { listed = listed; wanted = subst (λ (c : ℕ). IsWantedChannel request.tables.now.channels c (asked_topic request.topic)) (sym listed.channel_is) wanted })
    (λ s is. is.listed)
content_shown file request spot entries shown (Ok false) wanted lacks = lacks
content_shown file request spot entries shown (Err why) wanted (inl refused) = at_entry why refused
content_shown file request spot entries shown (Err why) wanted (inr (is, over)) =
    let shows : (s : Shown) → IsLedInRange file request.range spot entries s → IsShownBy file request spot entries s = λ s listed. record { listed = listed; wanted = subst (λ (c : ℕ). IsWantedChannel request.tables.now.channels c (asked_topic request.topic)) (sym listed.channel_is) wanted } in
    too_much (by_index.Refused why) (is, over_same (IsLedInRange file request.range spot entries) (IsLedInRange file request.range spot entries) (IsShownBy file request spot entries) (IsShownBy file request spot entries) file shown.0 over shows shows)

pub content_none : (file : List ℕ) (request : Request) (spot : Spot) (entries : List (ℕ × ℕ)) (old : List Shown) → (IsWantedChannel request.tables.now.channels spot.channel (asked_topic request.topic) → ⊥) → AddsEachOnce (IsShownBy file request spot entries) old old
content_none file request spot entries old unwanted =
    adds_none (IsShownBy file request spot entries) old
    (λ s is. let listed = is.listed in unwanted (subst (λ (c : ℕ). IsWantedChannel request.tables.now.channels c (asked_topic request.topic)) listed.channel_is is.wanted))

pub content_lacks : (file : List ℕ) (request : Request) (spot : Spot) (entries : List (ℕ × ℕ)) (old : List Shown) (why : NotIndexed) → (why ≡ lacks.NoChannel spot.channel) × HasTimely request.range entries × Undeclared request.tables.now.channels spot.channel
    → ContentRefused file request spot entries old (by_index.NotIndexed why)
content_lacks file request spot entries old why (is, timely, none) = subst (λ (w : NotIndexed). ContentRefused file request spot entries old (by_index.NotIndexed w)) (sym is) (no_channel timely none)

-- ---- a Message Index

module _ (file : List ℕ) (request : Request) (at : ℕ) (spot : Spot) (content : List ℕ) (entries : List (ℕ × ℕ)) (there : IsThere file spot.list (top 7 content)) (shows : ShowsMessageIndex content spot.channel entries) where
  is_index : IsMessageIndex (top 7 content) spot.channel entries
  is_index = record { kind = refl; layout = shows }

  led : (s : Shown) → IsShownBy file request spot entries s → IsLedBy file request spot s
  led s is =
      let listed = is.listed in
      record {
        led = record {
          list = top 7 content;
          entries = entries;
          there = there;
          is = subst (λ (c : ℕ). IsMessageIndex (top 7 content) c entries) (sym listed.channel_is) is_index;
          entry = listed.entry;
          in_range = listed.in_range;
          message = listed.stands;
        };
        wanted = is.wanted;
      }

  listed : (s : Shown) → IsLedBy file request spot s → IsShownBy file request spot entries s
  listed s is =
      let by = is.led in
      let same = same_there file spot.list by.list (top 7 content) by.there there in
      let once = message_index_once (top 7 content) s.channel spot.channel by.entries entries (subst (λ (t : Top). IsMessageIndex t s.channel by.entries) same by.is) is_index in
      record {
        listed = record {
          entry = subst (λ (l : List (ℕ × ℕ)). Has {X = ℕ × ℕ} l (s.log_time, s.place.inner)) once.1 by.entry;
          in_range = by.in_range;
          channel_is = once.0;
          stands = by.message;
        };
        wanted = is.wanted;
      }

  leads : (f : ChunkIndexFields) (entry : ℕ × ℕ) → NamesOffset file request.range at f spot.channel spot.list → Has {X = ℕ × ℕ} entries entry → Rattle.mcap_model.specs.Scan.InRange request.range entry.0 → LeadsTo file request.range at f spot.channel spot.list entry
  leads f entry names has in_range = record { names = names; list = top 7 content; entries = entries; there = there; is = is_index; entry_there = has; in_range = in_range }

  entry_reason : (why : ReadingRefused) (f : ChunkIndexFields) (entry : ℕ × ℕ) → f.offset ≡ spot.chunk → LeadsTo file request.range at f spot.channel spot.list entry → EntryRefused file spot.chunk entry why → IsReason file request.range (by_index.Refused why)
  entry_reason (refusals.Fault faults) f entry place to refused = tt
  entry_reason (refusals.Grammar offset rule) f entry place to refused = absurd refused
  entry_reason (refusals.Compressed offset name) f entry place to refused = absurd refused
  entry_reason (refusals.Limit offset) f entry place to (here, past) = at_message at f spot.channel spot.list offset entry to (here ∙ ap (λ (o : ℕ). o + 49 + entry.1) (sym place)) past
  entry_reason refusals.Memory f entry place to refused = tt

  named : (s : Shown) → IsShownBy file request spot entries s → IsLedOnChannel file request spot s
  named s is = let listed = is.listed in record { led = led s is; own = listed.channel_is }

  content_reason : (old : List Shown) (why : IndexedRefused) → KnowsSummaryChannels file request.tables.now.channels → ContentRefused file request spot entries old why → ListRefused file request at spot why ⊎ OverfullAt (IsLedOnChannel file request spot) (IsLedOnChannel file request spot) spot.list file old why
  content_reason old why knows (at_entry w (entry, has, in_range, refused)) = inl (λ f place names. entry_reason w f entry place (leads f entry names has in_range) refused)
  content_reason old why knows (too_much w (is, over)) = inr (is, over_same (IsShownBy file request spot entries) (IsShownBy file request spot entries) (IsLedOnChannel file request spot) (IsLedOnChannel file request spot) file old over named named)
  content_reason old why knows (no_channel timely none) = inl (λ f place names. record {
    at = at;
    index = f;
    offset = spot.list;
    entry = timely.0;
    leads = leads f timely.0 names timely.1 timely.2;
    start = knows.start;
    summary = knows.summary;
    has = knows.has;
    none = λ n t found g is. let covers = knows.covers in let (k, d, here, same) = covers t spot.channel g (n, found) is in none k d here same;
  })

  pub list_shown : (shown : List Shown × List Shown) (result : Result Bool IndexedRefused) → KnowsSummaryChannels file request.tables.now.channels → ContentShown file request spot entries shown result → ListShown file request at spot shown result
  list_shown shown (Ok true) knows adds = adds_same (IsShownBy file request spot entries) (IsLedBy file request spot) shown.0 shown.1 adds led listed
  list_shown shown (Ok false) knows (entry, has, in_range, lacking) = λ f place names. record { entry = entry; leads = leads f entry names has in_range; lacks = subst (λ (o : ℕ). LacksMessage file o spot.channel entry) (sym place) lacking }
  list_shown shown (Err why) knows refused = content_reason shown.0 why knows refused

pub lacks_reason : (file : List ℕ) (request : Request) (at : ℕ) (spot : Spot) → LacksIndex file spot.channel spot.list → ListRefused file request at spot (by_index.Refused (refusals.Grammar at rules.V12))
lacks_reason file request at spot none = λ f place names. no_index at f spot.channel spot.list names none

pub limit_reason : (file : List ℕ) (request : Request) (at : ℕ) (spot : Spot) (offset : ℕ) → (offset ≡ spot.list) × IsTooLong file offset → ListRefused file request at spot (by_index.Refused (refusals.Limit offset))
limit_reason file request at spot offset (here, past) = λ f place names. at_index at f spot.channel offset (subst (λ (o : ℕ). NamesOffset file request.range at f spot.channel o) (sym here) names) past

-- where messages are shown, or one of them is missing, the Message Index is there
pub list_found : (file : List ℕ) (spot : Spot) (content : List ℕ) (entries : List (ℕ × ℕ)) (result : Result Bool IndexedRefused) → IsThere file spot.list (top 7 content) → ShowsMessageIndex content spot.channel entries → IsListFound file spot result
list_found file spot content entries (Ok it) there shows = λ lacks. lacks (top 7 content) entries there (record { kind = refl; layout = shows })
list_found file spot content entries (Err why) there shows = tt

-- ---- what is asked for

-- only a head was asked for
pub head_asked : (file : List ℕ) (at before now : ℕ) → now ≤ before + head_length → ListAsked file at before now
head_asked file at before now few = record { there = λ t there seven. omega (arith, few, length-top t); none = λ lacks. few }

-- all of a Message Index was asked for
pub whole_asked : (file out : List ℕ) (at op len before now : ℕ) → FrontStands file at out op len → op ≡ 7 → now ≤ before + head_length + len → ListAsked file at before now
whole_asked file out at op len before now front seven few = record {
  there = λ t there kind. let b = there_begun file at t there in omega (arith, few, b.1, front.len_is, length-top t);
  none = λ lacks. absurd (lacks (first_top (drop at file)) front.there (front.op_is ∙ seven));
}

-- no message of it was asked for
pub cost_front : (file : List ℕ) (range : Range) (chosen : ℕ → Bool) (spot : Spot) (cost before now : ℕ) → ListCost file range chosen spot cost → ListAsked file spot.list before now → now ≤ before + cost
cost_front file range chosen spot cost before now (own_list list entries there is) asked = let few = asked.there in omega (arith, few list there is.kind)
cost_front file range chosen spot cost before now (other_list list there seven lacks) asked = let few = asked.there in few list there seven
cost_front file range chosen spot cost before now (no_list lacks) asked = let few = asked.none in few lacks

-- its messages were asked for too
pub cost_content : (file : List ℕ) (range : Range) (chosen : ℕ → Bool) (spot : Spot) (content : List ℕ) (entries : List (ℕ × ℕ)) (cost before mid now : ℕ) → ListCost file range chosen spot cost → IsThere file spot.list (top 7 content) → ShowsMessageIndex content spot.channel entries → ListAsked file spot.list before mid
    → ((own : List (ℕ × ℕ)) → ShowsMessageIndex content spot.channel own → now ≤ mid + chosen_cost file range chosen spot own) → now ≤ before + cost
cost_content file range chosen spot content entries cost before mid now (own_list list own there is) here shows asked more =
    let few = asked.there in
    let same = same_there file spot.list list (top 7 content) there here in
    let shown = subst (λ (t : Top). IsMessageIndex t spot.channel own) same is in
    omega (arith, few list there is.kind, more own shown.layout)
cost_content file range chosen spot content entries cost before mid now (other_list list there seven lacks) here shows asked more = absurd (lacks (top 7 content) entries here (record { kind = refl; layout = shows }))
cost_content file range chosen spot content entries cost before mid now (no_list lacks) here shows asked more = absurd (lacks (top 7 content) here refl)
