-- The bytes of the feeds and the reports on them decide the history.
use Rattle.std.proofs.Common.{◌≡◌, ◌⊎◌, ℕ, List, ◌++◌, map, take, Some, sym, ap, subst, inl, inr, ◌∙◌, append_assoc}
use Rattle.std.proofs.lemmas.Grind.{flat_map-append}
use Rattle.rec_data.specs.declared.owned.Rec.{Rec}
use Rattle.mcap_io.specs.Outside.{SourceState}
use Rattle.mcap_wire.specs.Layout.{magic}
use Rattle.mcap_model.specs.Places.{At}
use Rattle.mcap_model.specs.Tops.{Top, spelled, Begins, flattened, flat}
use Rattle.mcap_model.specs.Kept.{reading_limits, Good, Halt, at_end, grammar, compressed, beyond, Halts}
use Rattle.mcap_model.proofs.Places.{at_one, at_kept}
use Rattle.mcap_model.proofs.NamedTopics.{zip_front, zip_back}
use Rattle.mcap_model.proofs.Readings.{readings_follow}
use Rattle.mcap_model.proofs.Flat.{good_lists_agree}
use Rattle.mcap_model.specs.declared.refusals.ReadingRefused.{ReadingRefused}
use Rattle.mcap_model.specs.declared.refusals.ReadingRefused.TheVariants as refusals
use Rattle.feed_lane.specs.declared.report.FeedReport.{FeedReport}
use Rattle.feed_lane.specs.declared.report.FeedEnd.{FeedEnd}
use Rattle.feed_lane.specs.declared.report.FeedEnd.TheVariants as feed_ends
use Rattle.feed_lane.specs.Lanes.{ReportLists, IsGiven}
use Rattle.feed_lane.specs.Feeds.{FeedEnds, reported}
use Rattle.feed_lane.proofs.Growing.{schema_more, on_more, message_more}
use Rattle.recorder.specs.Assembled.{LanePart, LanePartStands}
use Rattle.recorder.specs.Recorded.{FeedRecorded, lane_of}
use Rattle.recorder.specs.Laws.{Account, AreLeft, RecordingsAreGiven}
use Rattle.recorder.proofs.Assembling.{map_at, at_map}
use Rattle.recorder.proofs.OneHistory.{Says, DeclaredOnce, lane_says, given_both, StandsInBoth, GivenAlike, histories_same}

-- ---- what was said of some records is so with more behind them

says_more : (records more : List Top) (lists : ReportLists) (history : List Rec) → Says records lists history → Says (records ++ more) lists history
says_more records more lists history says = record {
  accepts = λ k a at. let was = says.accepts k a at in record {
    source = was.source;
    message = was.message;
    top = was.top;
    at = message_more records more a.index was.top was.at;
    is = was.is;
    by = was.by;
    listed = was.listed;
    on = on_more records more was.by.index was.source was.on;
    there = was.there;
  };
  declares = λ k d at. let was = says.declares k d at in record {
    source = was.source;
    on = on_more records more d.index was.source was.on;
    content = was.content;
    describes = (let known = was.describes.known in record {
      shown = was.describes.shown;
      known = record { place = known.place; top = known.top; at = at_kept records more known.place known.top known.at; is = known.is };
      topic = was.describes.topic;
      encoding = was.describes.encoding;
      metadata = was.describes.metadata;
      schema = schema_more records more was.describes.shown.schema was.content.schema was.describes.schema;
    });
    stands = was.stands;
    added = was.added;
    are = was.are;
    many = was.many;
    there = was.there;
  };
}

-- ---- what a feed gave

-- good records with which these bytes begin
record IsRead (bytes : List ℕ) (tops : List Top) : Type 0 where
  pub begins : Begins bytes tops
  pub good : Good reading_limits tops

read_halted : (bytes : List ℕ) (tops : List Top) (halt : Halt) → Halts reading_limits bytes tops halt → IsRead bytes tops
read_halted bytes tops halt halts = record { begins = halts.kept.stands; good = halts.kept.good }

begins_on : (part rest : List ℕ) (tops : List Top) → Begins part tops → Begins (part ++ rest) tops
begins_on part rest tops (inl none) = inl none
begins_on part rest tops (inr (behind, stands)) =
    inr (behind ++ rest, record { split = ap (λ (l : List ℕ). l ++ rest) stands.split ∙ append_assoc magic (spelled tops ++ behind) rest ∙ ap (λ (l : List ℕ). magic ++ l) (append_assoc (spelled tops) behind rest) })

refused_read : (before now : SourceState) (tops : List Top) (why : ReadingRefused) (bytes : List ℕ) → before.left ≡ Some bytes → FeedEnds before now tops (feed_ends.Refused why) → IsRead bytes tops
refused_read before now tops (refusals.Grammar offset rule) bytes left ends = read_halted bytes tops (grammar offset rule) (ends.halts bytes left)
refused_read before now tops (refusals.Compressed offset name) bytes left ends = read_halted bytes tops (compressed offset name) (ends.halts bytes left)
refused_read before now tops (refusals.Limit offset) bytes left ends = read_halted bytes tops (beyond offset) (ends.halts bytes left)
refused_read before now tops (refusals.Fault faults) bytes left ends =
    let leaves = ends.leaves bytes left in
    let kept = leaves.cut_off.kept in
    record { begins = subst (λ (l : List ℕ). Begins l tops) (sym leaves.split) (begins_on leaves.part leaves.rest tops kept.stands); good = kept.good }
refused_read before now tops refusals.Memory bytes left ends = record {
  begins = elim (ends.leaves bytes left) [
    | inl none ↦ inl none.0
    | inr (rest, stands, lacks) ↦ inr (rest, stands)
  ];
  good = ends.good;
}

feed_read : (before now : SourceState) (tops : List Top) (end : FeedEnd) (bytes : List ℕ) → before.left ≡ Some bytes → FeedEnds before now tops end → IsRead bytes tops
feed_read before now tops feed_ends.Done bytes left (offset, ends) = read_halted bytes tops (at_end offset) (ends.halts bytes left)
feed_read before now tops (feed_ends.Refused why) bytes left ends = refused_read before now tops why bytes left ends
feed_read before now tops feed_ends.Ended bytes left ends = record {
  begins = (let (rest, has, stands) = ends.read bytes left in inr (rest, stands));
  good = ends.good;
}

-- of two such lists one is a front of the other
abbrev IsFront : List Top → List Top → Type 0
IsFront tops others = (more : List Top) × (others ≡ tops ++ more)

fronts : (bytes : List ℕ) (tops others : List Top) → IsRead bytes tops → IsRead bytes others → IsFront tops others ⊎ IsFront others tops
fronts bytes tops others one other = by one.begins other.begins
  where
    by : Begins bytes tops → Begins bytes others → IsFront tops others ⊎ IsFront others tops
    by (inl none) begins = inl (others, ap (λ (l : List Top). l ++ others) (sym none))
    by (inr stands) (inl none) = inr (tops, ap (λ (l : List Top). l ++ tops) (sym none))
    by (inr (rest, stands)) (inr (left, other_stands)) = elim (readings_follow bytes tops others rest left stands one.good other_stands other.good) [
      | inl follows ↦ inl (follows.more, follows.longer)
      | inr follows ↦ inr (follows.more, follows.longer)
    ]

says_front : (tops others : List Top) (lists : ReportLists) (history : List Rec) → IsFront tops others → Says (flat tops) lists history → Says (flat others) lists history
says_front tops others lists history (more, longer) says =
    subst (λ (l : List Top). Says l lists history) (sym (ap flat longer ∙ flat_map-append flattened tops more)) (says_more (flat tops) (flat more) lists history says)

-- ---- two recordings

-- a feed of one recording and one of another gave the same bytes, and the reports on them are the same
record SameFeed (one other : FeedRecorded) : Type 0 where
  pub bytes : List ℕ
  pub left : one.before.left ≡ Some bytes
  pub other_left : other.before.left ≡ Some bytes
  pub feed : one.feed ≡ other.feed

-- the feed of the other at the same place
other_feed : (all : List (List ℕ)) (one other : Account) → AreLeft one.before.sources all → AreLeft other.before.sources all → one.report.feeds.items ≡ other.report.feeds.items
    → (k : ℕ) (f : FeedRecorded) → At one.is.feeds k f → (h : FeedRecorded) × At other.is.feeds k h × SameFeed f h
other_feed all one other left other_left same k f at =
    let its = one.is.are in
    let others = other.is.are in
    let here : At one.before.sources k f.before = subst (λ (l : List SourceState). At l k f.before) (sym its.before_are) (map_at (λ (x : FeedRecorded). x.before) one.is.feeds k f at) in
    let (bytes, at_bytes, left_f) = zip_front (λ (s : SourceState) (b : List ℕ). s.left ≡ Some b) one.before.sources all k f.before left here in
    let (source, at_source, left_h) = zip_back (λ (s : SourceState) (b : List ℕ). s.left ≡ Some b) other.before.sources all k bytes other_left at_bytes in
    let (h, at_h, is_h) = at_map (λ (x : FeedRecorded). x.before) other.is.feeds k source (subst (λ (l : List SourceState). At l k source) others.before_are at_source) in
    let reports : map (λ (x : FeedRecorded). x.feed) one.is.feeds ≡ map (λ (x : FeedRecorded). x.feed) other.is.feeds = sym its.reports_are ∙ same ∙ others.reports_are in
    let one_at = map_at (λ (x : FeedRecorded). x.feed) one.is.feeds k f at in
    let other_at = map_at (λ (x : FeedRecorded). x.feed) other.is.feeds k h at_h in (
      h,
      at_h,
      record {
        bytes = bytes;
        left = left_f;
        other_left = ap (λ (s : SourceState). s.left) (sym is_h) ∙ left_h;
        feed = at_one (map (λ (x : FeedRecorded). x.feed) other.is.feeds) k f.feed h.feed (subst (λ (l : List FeedReport). At l k f.feed) reports one_at) other_at;
      },
    )

-- what a report gives stands in both
feed_both : (one other : Account) (k place : ℕ) (f h : FeedRecorded) → At one.is.feeds k f → At other.is.feeds k h → SameFeed f h
    → take place one.is.history ≡ take place other.is.history → IsGiven (reported f.feed) place → StandsInBoth one.is.history other.is.history place
feed_both one other k place f h at at_h same front given =
    let it = one.is in
    let its = other.is in
    let lists : reported h.feed ≡ reported f.feed = ap (λ (r : FeedReport). reported r) (sym same.feed) in
    let read = feed_read f.before f.now f.reports.tops f.feed.end same.bytes same.left f.reports.ends in
    let other_read = feed_read h.before h.now h.reports.tops h.feed.end same.bytes same.other_left h.reports.ends in
    let stands : LanePartStands one.options.limit it.history it.assembled.swaps one.report.writer.end (lane_of f) = it.assembled.stand k (lane_of f) (map_at lane_of it.feeds k f at) in
    let other_stands : LanePartStands other.options.limit its.history its.assembled.swaps other.report.writer.end (lane_of h) = its.assembled.stand k (lane_of h) (map_at lane_of its.feeds k h at_h) in
    let says : Says (flat f.reports.tops) (reported f.feed) it.history = lane_says one.options.limit it.history it.assembled.swaps one.report.writer.end (lane_of f) stands in
    let other_says : Says (flat h.reports.tops) (reported f.feed) its.history =
    subst (λ (l : ReportLists). Says (flat h.reports.tops) l its.history) lists (lane_says other.options.limit its.history its.assembled.swaps other.report.writer.end (lane_of h) other_stands) in
    let once : DeclaredOnce (flat f.reports.tops) (reported f.feed).declared = stands.fits.once in
    let other_once : DeclaredOnce (flat h.reports.tops) (reported f.feed).declared = subst (λ (l : ReportLists). DeclaredOnce (flat h.reports.tops) l.declared) lists other_stands.fits.once in
    elim (fronts same.bytes f.reports.tops h.reports.tops read other_read) [
      | inl longer ↦ given_both (flat h.reports.tops) (reported f.feed) (good_lists_agree reading_limits h.reports.tops other_read.good).1 other_once
          it.history its.history place it.assembled.numbered its.assembled.numbered front (says_front f.reports.tops h.reports.tops (reported f.feed) it.history longer says) other_says given
      | inr longer ↦ given_both (flat f.reports.tops) (reported f.feed) (good_lists_agree reading_limits f.reports.tops read.good).1 once
          it.history its.history place it.assembled.numbered its.assembled.numbered front says (says_front h.reports.tops f.reports.tops (reported f.feed) its.history longer other_says) given
    ]

given_alike : (all : List (List ℕ)) (one other : Account) → AreLeft one.before.sources all → AreLeft other.before.sources all → one.report.feeds.items ≡ other.report.feeds.items
    → GivenAlike one.is.history other.is.history
given_alike all one other left other_left same place less front =
    let (k, lane, at, given) = one.is.assembled.given place less in
    let (f, at_f, is) = at_map lane_of one.is.feeds k lane at in
    let (h, at_h, alike) = other_feed all one other left other_left same k f at_f in
    feed_both one other k place f h at_f at_h alike front (subst (λ (l : LanePart). IsGiven l.lists place) is given)

pub recordings_are_given : RecordingsAreGiven
recordings_are_given all one other left other_left same =
    histories_same one.is.history other.is.history (given_alike all one other left other_left same) (given_alike all other one other_left left (sym same))
