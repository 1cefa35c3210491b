-- A lane reads a feed to its end.
use Rattle.std.proofs.Common.{◌≡◌, ℕ, ◌+◌, ◌<◌, ◌≤◌, ◌^◌, List, [], ◌∷◌, ◌++◌, length, false, true, None, Some, Result, Ok, Err, refl, sym, ap, subst, inl, inr, ◌∙◌, arith}
use Rattle.std.proofs.lemmas.Grind.{flat_map-append}
use Rattle.std.proofs.lemmas.List.{length-append}
use Rattle.std.proofs.lemmas.Option.{none-some}
use Rattle.mcap_io.specs.Outside.{SourceState}
use Rattle.mcap_model.specs.Tops.{Top, flat, flattened, Placed}
use Rattle.mcap_model.specs.WalkedRecords.{walked}
use Rattle.mcap_model.specs.Made.{top}
use Rattle.mcap_model.specs.Kept.{reading_limits, Fits, Good}
use Rattle.mcap_model.specs.Scan.{tops_of}
use Rattle.mcap_model.specs.Written.{passed}
use Rattle.mcap_model.specs.Places.{Each}
use Rattle.mcap_model.proofs.Places.{at_none, each_front}
use Rattle.mcap_model.proofs.Flat.{good_lists_agree, map-append}
use Rattle.mcap_model.specs.declared.refusals.ReadingRefused.{ReadingRefused}
use Rattle.mcap_model.specs.declared.refusals.ReadingRefused.TheVariants as refusals
use Rattle.mcap_scan.specs.declared.reader.Reader.{Reader}
use Rattle.mcap_scan.specs.declared.reader.Stage.{Stage}
use Rattle.mcap_scan.specs.declared.reader.Stage.TheVariants as stages
use Rattle.mcap_scan.specs.Scanning.{Stands as ReaderStands, StageStands, IsGoing, FindsEnd, tables_of}
use Rattle.mcap_scan.specs.RefusedReadings.{RefusalStands, MemoryStands}
use Rattle.mcap_scan.proofs.Scanning.{tables_stand, good_stand}
use Rattle.mcap_scan.proofs.Refused.{nothing_read}
use Rattle.mcap_scan.specs.Walking.{ReachesLast}
use Rattle.feed_lane.specs.declared.report.FeedReport.{FeedReport}
use Rattle.feed_lane.specs.declared.report.FeedEnd.{FeedEnd}
use Rattle.feed_lane.specs.declared.report.FeedEnd.TheVariants as feed_ends
use Rattle.feed_lane.specs.declared.report.Refused.{Refused}
use Rattle.feed_lane.specs.declared.lane.Lane.{Lane}
use Rattle.feed_lane.specs.declared.lane.Over.{Over}
use Rattle.feed_lane.specs.declared.lane.Over.TheVariants as overs
use Rattle.record_core.specs.declared.answers.Found.{Found}
use Rattle.mcap_model.specs.declared.ends.End.{End}
use Rattle.feed_lane.specs.Pass.{PassState}
use Rattle.feed_lane.specs.Lanes.{messages, LaneFits}
use Rattle.feed_lane.specs.Steps.{lists_of, IsOpen, LaneStands, AreKnown, MessageTaken, MessagesWait, RecordHandled, passed_among, CountsUp, Counted, over_end}
use Rattle.feed_lane.specs.Causes.{goes_on}
use Rattle.feed_lane.specs.Feeds.{ReadSoFar, FeedEnds, IsInLast, AllHandled, TakesMessages, reported, Reports}
use Rattle.feed_lane.proofs.Members.{true_false, unended}
use Rattle.feed_lane.proofs.Growing.{stands_more}
use Rattle.feed_lane.proofs.Walking.{waits_behind, waits_due, walked_messages, messages_behind, among_more, walked_passed, given_passed, passed_behind, passed_few}

-- ---- one record

-- none was counted
pub counted_none : (before now n : ℕ) (result : Result Unit Over) → now ≡ before → n ≡ 0 → Counted before now n result
counted_none before now n (Ok it) same none = (omega (arith, same), omega (arith, same), λ short. omega (arith, same, none))
counted_none before now n (Err over) same none = (omega (arith, same), omega (arith, same), tt)

-- a message that was at hand is a record that was taken
pub message_record : (lane : Lane) (records : List Top) (handled : ℕ) (content : List ℕ) (more : List Top) (pass : PassState) (result : Result Unit Over) → MessagesWait records handled (top 5 content ∷ more) → MessageTaken lane records handled pass result → RecordHandled lane records handled more pass result
message_record lane records handled content more pass (Ok it) waits taken = (handled + 1, omega arith, taken, waits_behind records handled content more waits)
message_record lane records handled content more pass (Err over) waits taken = (handled, omega arith, taken)

-- ---- a lane and its reader

-- the lane took the records that were given of these
pub record Feeds (lane : Lane) (pass : PassState) (tops : List Top) (given : List Placed) : Type 0 where
  pub stands : LaneStands lane (flat tops) (length (messages (tops_of given))) pass
  pub passed_are : lane.passed ≡ passed_among (tops_of given)
  pub good : Good reading_limits tops

-- nothing was given
pub feeds_none : (lane : Lane) (pass : PassState) → LaneStands lane [] 0 pass → lane.passed ≡ 0 → Feeds lane pass [] []
feeds_none lane pass stands none = record { stands = stands; passed_are = none; good = λ n t at. absurd (at_none n t at) }

-- a step gave one record more, which isn't taken yet
pub ready : (lane : Lane) (pass : PassState) (was tops more : List Top) (given : List Placed) → tops ≡ was ++ more → Feeds lane pass was given → LaneStands lane (flat tops) (length (messages (tops_of given))) pass
ready lane pass was tops more given grown feeds =
    let many = length (messages (tops_of given)) in
    subst (λ (l : List Top). LaneStands lane l many pass) (sym (ap flat grown ∙ flat_map-append flattened was more))
    (stands_more (flat was) (flat more) many many lane.ids (lists_of lane) pass feeds.stands)

pub known : (reader : Reader) (before now : SourceState) (tops : List Top) → IsGoing reader.stage → ReaderStands reader before now tops → AreKnown (flat tops) (tables_of reader)
known reader before now tops going stands = record {
  tables_are = tables_stand reader before now tops going stands;
  layouts = (good_lists_agree reading_limits tops (good_stand reader before now tops going stands)).0;
}

read_so_far : (reader : Reader) (before now : SourceState) (earlier : List Top) (last : Top) → IsGoing reader.stage → ReaderStands reader before now (earlier ++ last ∷ []) → ReadSoFar before now (earlier ++ last ∷ [])
read_so_far reader before now earlier last = by reader.stage
  where
    by : (s : Stage) → IsGoing s → StageStands s reader.tables reader.offset before now (earlier ++ last ∷ []) → ReadSoFar before now (earlier ++ last ∷ [])
    by stages.Fresh going was = absurd (let size = ap length was.none in omega (arith, size, length-append earlier (last ∷ [])))
    by stages.Inside going was = record { still = was.reading.still; good = was.reading.good; read = was.reading.read }
    by stages.Ended going was = record { still = was.still; good = was.good; read = was.read }
    by (stages.Stopped why) going was = absurd going

pub read_last : (reader : Reader) (before now : SourceState) (tops : List Top) (given : List Placed) → ReachesLast tops given → IsGoing reader.stage → ReaderStands reader before now tops → ReadSoFar before now tops
read_last reader before now tops given reaches going stands =
    subst (ReadSoFar before now) (sym reaches.are) (read_so_far reader before now reaches.earlier reaches.last going (subst (ReaderStands reader before now) reaches.are stands))

pub among_last : (given : List Placed) (p : Placed) → passed_among (tops_of (given ++ p ∷ [])) ≡ passed_among (tops_of given) + passed_among (p.top ∷ [])
among_last given p = ap passed_among (map-append (λ (q : Placed). q.top) given (p ∷ [])) ∙ among_more (tops_of given) (p.top ∷ [])

-- the record was taken
pub fed : (lane : Lane) (pass : PassState) (tops : List Top) (given : List Placed) (p : Placed) (ahead : List Placed) → Good reading_limits tops → ReachesLast tops given → walked tops ≡ (given ++ p ∷ []) ++ ahead
    → RecordHandled lane (flat tops) (length (messages (tops_of given))) (tops_of ahead) pass (Ok tt) → CountsUp (passed_among (tops_of given)) lane.passed (passed_among (p.top ∷ [])) → Feeds lane pass tops (given ++ p ∷ [])
fed lane pass tops given p ahead good reaches all taken counts =
    let more = among_last given p in
    let few = subst (λ (l : List Top). passed l ≤ 1099511627776) (sym reaches.are) (passed_few reaches.earlier reaches.last (subst (Good reading_limits) reaches.are good)) in
    let size = given_passed tops (given ++ p ∷ []) ahead good all in
    let lt : passed_among (tops_of given) + passed_among (p.top ∷ []) < 2 ^ 64 = omega (arith, more, few, size) in
    let now = counts lt in
    record {
      stands = subst (λ (n : ℕ). LaneStands lane (flat tops) n pass) (waits_due tops (given ++ p ∷ []) ahead taken.0 all taken.3) taken.2;
      passed_are = omega (arith, now, more);
      good = good;
    }

-- ---- the end

abbrev pub report_of : Lane → FeedEnd → FeedReport
report_of lane end = record { accepted = lane.accepted; declared = lane.declared; refused = lane.refused; passed = lane.passed; end = end }

-- the intake hadn't ended, so that whatever end the feed came to is none of its
going_ends : (refused : List Refused) (end : FeedEnd) → Each (λ r. goes_on r.cause ≡ true) refused → Each (λ r. goes_on r.cause ≡ false → end ≡ feed_ends.Ended) refused
going_ends refused end going = λ k r at off. absurd (true_false (sym (going k r at) ∙ off))

open_ends : (pass : PassState) (is : FeedEnd) → IsOpen pass → (found : Found) (end : End) → pass.found ≡ Some found → found.end ≡ Some end → is ≡ feed_ends.Ended
open_ends pass is none = λ found end shown same. absurd (unended pass found end none shown same)

-- all were given
pub reports_whole : (lane : Lane) (pass : PassState) (before now : SourceState) (tops : List Top) (given : List Placed) (end : FeedEnd) → Feeds lane pass tops given → given ≡ walked tops → FeedEnds before now tops end
    → (AllHandled tops (length (messages (tops_of given))) lane.passed → TakesMessages tops (length (messages (tops_of given))) lane.passed lane.refused.items end) → Reports before now pass (report_of lane end)
reports_whole lane pass before now tops given end feeds whole ends takes = record {
  tops = tops;
  handled = length (messages (tops_of given));
  ends = ends;
  takes = takes (
    ap (λ (l : List Placed). length (messages (tops_of l))) whole ∙ ap length (walked_messages tops),
    feeds.passed_are ∙ ap (λ (l : List Placed). passed_among (tops_of l)) whole ∙ walked_passed tops feeds.good,
  );
  fits = feeds.stands.fits;
  refused_ends = going_ends lane.refused.items end feeds.stands.going;
  found_ends = open_ends pass end feeds.stands.is_open;
  firsts = feeds.stands.firsts;
  tried = feeds.stands.tried;
}

pub reports_done : (lane : Lane) (pass : PassState) (before now : SourceState) (was : List Top) (given : List Placed) (reader : Reader) (offset : ℕ) → Feeds lane pass was given → (tops : List Top) → tops ≡ was → given ≡ walked tops
    → FindsEnd reader before now tops offset → Reports before now pass (report_of lane feed_ends.Done)
reports_done lane pass before now was given reader offset feeds tops same whole finds =
    reports_whole lane pass before now tops given feed_ends.Done (subst (λ (l : List Top). Feeds lane pass l given) (sym same) feeds) whole (offset, finds.halts) (λ all. all)

pub reports_refused : (lane : Lane) (pass : PassState) (before now : SourceState) (was : List Top) (given : List Placed) (why : ReadingRefused) → Feeds lane pass was given → (tops : List Top) → tops ≡ was → given ≡ walked tops
    → RefusalStands why before now tops → Reports before now pass (report_of lane (feed_ends.Refused why))
reports_refused lane pass before now was given why feeds tops same whole stands =
    reports_whole lane pass before now tops given (feed_ends.Refused why) (subst (λ (l : List Top). Feeds lane pass l given) (sym same) feeds) whole stands (λ all. inl all)

-- a message that isn't one of the records before is one of the last
in_last : (tops : List Top) (given : List Placed) (index count : ℕ) → Good reading_limits tops → (reaches : ReachesLast tops given) → length (messages (tops_of given)) ≤ index → index < length (messages (flat tops)) → passed_among (tops_of given) ≤ count → count ≤ passed tops → IsInLast tops index count
in_last tops given index count good reaches from within least most =
    let front : Good reading_limits reaches.earlier = each_front (Fits reading_limits) reaches.earlier (reaches.last ∷ []) (subst (Good reading_limits) reaches.are good) in
    let behind = messages_behind reaches.earlier given reaches.behind reaches.split in
    let before = passed_behind reaches.earlier given reaches.behind front reaches.split in
    record {
      earlier = reaches.earlier;
      last = reaches.last;
      are = reaches.are;
      behind = omega (arith, behind, from);
      within = within;
      passed_before = omega (arith, before, least);
      passed_within = most;
    }

pub reports_over : (lane : Lane) (pass : PassState) (before now : SourceState) (tops : List Top) (given : List Placed) (more : List Top) (over : Over) → Good reading_limits tops → ReachesLast tops given
    → RecordHandled lane (flat tops) (length (messages (tops_of given))) more pass (Err over) → (passed_among (tops_of given) ≤ lane.passed) × (lane.passed ≤ passed tops) → MemoryStands before now tops → ReadSoFar before now tops → Reports before now pass (report_of lane (over_end over))
reports_over lane pass before now tops given more overs.Memory good reaches taken counts lacks read = record {
  tops = tops;
  handled = taken.0;
  ends = lacks;
  takes = inr (refl, in_last tops given taken.0 lane.passed good reaches taken.1 taken.2.1 counts.0 counts.1);
  fits = taken.2.0;
  refused_ends = going_ends lane.refused.items (feed_ends.Refused refusals.Memory) taken.2.3.going;
  found_ends = open_ends pass (feed_ends.Refused refusals.Memory) taken.2.3.is_open;
  firsts = taken.2.2.firsts;
  tried = taken.2.2.tried;
}
reports_over lane pass before now tops given more overs.Ended good reaches taken counts lacks read = record {
  tops = tops;
  handled = taken.0 + 1;
  ends = read;
  takes =
      let last = taken.2.1 in
      (last.0, last.1, last.2, last.3, in_last tops given last.0.index lane.passed good reaches (omega (arith, taken.1, last.2)) (let some = taken.2.0.handled_some in omega (arith, some, last.2)) counts.0 counts.1);
  fits = taken.2.0;
  refused_ends = λ k r at off. refl;
  found_ends = λ found end shown is. refl;
  firsts = taken.2.2.firsts;
  tried = taken.2.2.tried;
}

pub reports_nothing : (before : SourceState) (pass : PassState) (report : FeedReport) → pass.found ≡ None → report.end ≡ feed_ends.Refused refusals.Memory → report.passed ≡ 0 → LaneFits [] 0 (reported report) pass → Reports before before pass report
reports_nothing before pass report unfound end none fits = record {
  tops = [];
  handled = 0;
  ends = subst (FeedEnds before before []) (sym end) (nothing_read before);
  takes = subst (TakesMessages [] 0 report.passed report.refused.items) (sym end) (inl (refl, none));
  fits = fits;
  refused_ends = λ k r at. absurd (let below = fits.refused_below k r at in omega (arith, below));
  found_ends = λ found last shown is. absurd (none-some _ (sym unfound ∙ shown));
  firsts = λ k d at. absurd (let below = fits.declared_below k d at in omega (arith, below));
  tried = λ k r at. absurd (let below = fits.refused_below k r at in omega (arith, below));
}
