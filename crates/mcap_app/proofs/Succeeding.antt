-- Where nothing fails all is done, or memory lacked.
use Rattle.std.proofs.Common.{◌≡◌, ◌⊎◌, ℕ, ◌+◌, ◌-◌, ◌<◌, ◌^◌, Bool, true, false, List, [], ◌∷◌, ◌++◌, length, map, take, drop, Option, Some, None, Result, Ok, Err, refl, sym, ap, subst, inl, inr, ◌∙◌, append_assoc, arith, length-append}
use Rattle.std.specs.Prelude.{◌||◌, if◌then◌else◌}
use Rattle.std.specs.List.{AllZip, list_any}
use Rattle.std.proofs.lemmas.List.{take-append-drop}
use Rattle.std.proofs.lemmas.Grind.{flat_map-append}
use Rattle.mcap_wire.specs.Layout.{magic}
use Rattle.mcap_io.specs.Outside.{Told, WorldState, SourceState, LiveState, Opening, TellsName}
use Rattle.mcap_io.specs.Stores.{StoreState}
use Rattle.mcap_io.specs.declared.outside.OutsideRefused.TheVariants as outside_refusals
use Rattle.rec_data.specs.declared.owned.Rec.{Rec}
use Rattle.mcap_model.specs.declared.checked.Verdict.{Verdict}
use Rattle.mcap_model.specs.declared.checked.Verdict.TheVariants as verdicts
use Rattle.mcap_model.specs.declared.ends.End.{End}
use Rattle.mcap_model.specs.declared.ends.End.TheVariants as ends
use Rattle.mcap_model.specs.declared.ends.Stop.{Stop}
use Rattle.mcap_model.specs.declared.ends.Stop.TheVariants as stops
use Rattle.mcap_model.specs.declared.options.FileOptions.{FileOptions}
use Rattle.mcap_model.specs.declared.refusals.ReadingRefused.{ReadingRefused}
use Rattle.mcap_model.specs.declared.refusals.ReadingRefused.TheVariants as refusals
use Rattle.mcap_model.specs.declared.refusals.IndexedRefused.{IndexedRefused}
use Rattle.mcap_model.specs.declared.refusals.IndexedRefused.TheVariants as by_index
use Rattle.mcap_model.specs.declared.refusals.NotIndexed.{NotIndexed}
use Rattle.mcap_model.specs.declared.refusals.NotIndexed.TheVariants as lacks
use Rattle.mcap_model.specs.Places.{At, Has, Each}
use Rattle.mcap_model.specs.Tops.{Top, Begins, spelled, flat}
use Rattle.mcap_model.specs.Rules.{V1}
use Rattle.mcap_model.specs.Kept.{Halt, Halts, reading_limits, Good, at_end, grammar as breaks, compressed as names, beyond}
use Rattle.mcap_model.specs.Readings.{SameHalt}
use Rattle.mcap_model.specs.Scan.{Seen}
use Rattle.mcap_model.specs.Blocks.{block_in, blocks_in, pieces_of}
use Rattle.mcap_model.specs.File.{file_of}
use Rattle.mcap_model.specs.Pieces.{joined, file_pieces}
use Rattle.mcap_model.specs.Laws.{IsValid}
use Rattle.mcap_model.proofs.Distinct.{any_has}
use Rattle.mcap_model.proofs.Lists.{cut_at}
use Rattle.mcap_model.proofs.NamedTopics.{zip_back}
use Rattle.mcap_model.proofs.ReadBack.{at_map}
use Rattle.mcap_model.proofs.Pieces.{pieces_make_files}
use Rattle.mcap_model.proofs.Flat.{at_mapped, good_lists_are_scanned}
use Rattle.mcap_model.proofs.Flaws.{flaws_exclude_validity}
use Rattle.mcap_model.proofs.Halting.{readings_halt_once}
use Rattle.indexed_replay.specs.Reaching.{LeadsPastLimit}
use Rattle.indexed_replay.proofs.Telling.{flawless_loaded}
use Rattle.file_check.specs.Laws.{IsShort}
use Rattle.file_check.proofs.NoLimits.{short_files_meet_no_limit}
use Rattle.file_check.proofs.Compressions.{compressions_exclude_validity}
use Rattle.chunk_writer.specs.Limits.{ChunkFits, FileHolds}
use Rattle.chunk_writer.proofs.Contents.{each_first}
use Rattle.chunk_writer.specs.declared.tape.Written.{Written}
use Rattle.chunk_writer.specs.Stops.{numbers, StopsAt, Ends}
use Rattle.mcap_recover.specs.declared.answers.RecoverRefused.TheVariants as recovering
use Rattle.record_keeping.specs.NewFiles.{recovered_options}
use Rattle.mcap_merge.specs.declared.answers.Merged.{Merged}
use Rattle.mcap_merge.specs.declared.answers.MergeRefused.{MergeRefused}
use Rattle.mcap_merge.specs.declared.answers.MergeRefused.TheVariants as merges
use Rattle.mcap_merge.specs.Filed.{merged_options, MergeStops, MergeFails}
use Rattle.mcap_merge.specs.Gathering.{GatherRefused}
use Rattle.record_core.specs.declared.answers.CallRefused.{CallRefused}
use Rattle.record_core.specs.declared.answers.CallRefused.TheVariants as refusing
use Rattle.feed_lane.specs.declared.report.FeedReport.{FeedReport}
use Rattle.feed_lane.specs.declared.report.FeedEnd.{FeedEnd}
use Rattle.feed_lane.specs.declared.report.FeedEnd.TheVariants as feed_ends
use Rattle.feed_lane.specs.Feeds.{FeedEnds}
use Rattle.mcap_scan.specs.Sources.{MemoryLeaves}
use Rattle.feed_lane.specs.declared.report.Refused.{Refused}
use Rattle.feed_lane.specs.Causes.{is_over}
use Rattle.feed_lane.specs.Lanes.{CauseFits}
use Rattle.buffer_swap.specs.Shown.{ShownBy, IdsLack}
use Rattle.mcap_model.specs.declared.options.RecordOptions.{RecordOptions}
use Rattle.recorder.specs.declared.report.Report.{Report}
use Rattle.recorder.specs.Recorded.{FeedRecorded, lane_of, answer_of, Sides, sides, Recorded}
use Rattle.recorder.specs.Findings.{is_limit, passes_limit, limit_passed}
use Rattle.command_base.specs.declared.file_reading.Reading.{Reading}
use Rattle.command_base.specs.declared.file_reading.Reading.TheVariants as readings
use Rattle.command_base.specs.declared.statuses.Status.{Status}
use Rattle.command_base.specs.declared.statuses.Status.TheVariants as statuses
use Rattle.command_base.specs.Texts.{is_status, halt_status}
use Rattle.command_base.specs.OneFile.{failing, ending_status}
use Rattle.command_base.specs.Ran.{Scene}
use Rattle.live_watcher.specs.declared.report.WatchReport.{WatchReport}
use Rattle.command_record.specs.Watched.{Requested}
use Rattle.command_record.specs.WatchedAnswer.{watched_counts_in, AnyCountRose, RecordsSo}
use Rattle.command_record.specs.Record.{worst, FeedHalts, back_sources}
use Rattle.command_read.specs.Cat.{Selection}
use Rattle.command_read.specs.Indexed.{ShowsLed, ShowsScan, replay_ending}
use Rattle.command_read.specs.Check.{Decides}
use Rattle.command_read.specs.Info.{DescribesBytes, info_ending}
use Rattle.command_write.specs.declared.recovering.Recovery.{Recovery}
use Rattle.command_write.specs.declared.recovering.Recovery.TheVariants as recoveries
use Rattle.command_write.specs.declared.merging.Merging.{Merging}
use Rattle.command_write.specs.declared.merging.Merging.TheVariants as mergings
use Rattle.command_write.specs.Recover.{RecoveryDecides, RecoversFile}
use Rattle.command_write.specs.Merge.{HoldsBytes, FirstHalts, MergeDecides, Reached, IsMerging, MergesFiles, merging_of, unopened_so, some_refused}
use Rattle.mcap_app.specs.Completeness.{IsAllDone, IsReadWhole, CanBeTold, CanBeMerged, IsRepairedWithin, FeedIsReadWhole, PrintingsSucceed, IndexedPrintingsSucceed, TellingsSucceed, ChecksSucceed, RecoveriesSucceed, MergesSucceed, PassesNumber, by_file, by_data, by_declaration, by_ids, by_records, RecordingLimitsAreReal, RecordingsSucceed, Gives, IsLaneOf, MayCome, CanBeRecorded}
use Rattle.mcap_app.proofs.MergedFiles.{TellsBytes, files_told, merges_to}
use Rattle.mcap_app.proofs.Recovered.{reached}
use Rattle.mcap_app.proofs.ShortFiles.{passes_none}

-- ---- a file is printed

pub printings_succeed : PrintingsSucceed
printings_succeed asked file bytes told old new status cats calm there (tops, end, halts) =
    cats.decided told bytes tops (at_end end) calm.tells there halts calm.quiet

-- ---- by its indexes

shown_so : (asked : Selection) (file bytes : List ℕ) (messages : List Seen) (reading : Reading (List ℕ) IndexedRefused) (status : Status) → ShowsLed asked bytes reading → ShowsScan asked messages reading
    → (replay_ending file reading ≡ failing → ⊥) → ((offset : ℕ) → LeadsPastLimit bytes asked.range offset → ⊥) → status ≡ ending_status (replay_ending file reading) → IsAllDone status
shown_so asked file bytes messages (readings.Unopened outside_refusals.Failed) status led scanned unfailed within is = absurd led
shown_so asked file bytes messages (readings.Unopened outside_refusals.Memory) status led scanned unfailed within is = inr is
shown_so asked file bytes messages (readings.Opened (Ok text)) status led scanned unfailed within is = inl is
shown_so asked file bytes messages (readings.Opened (Err (by_index.NotIndexed why))) status led scanned unfailed within is = absurd scanned
shown_so asked file bytes messages (readings.Opened (Err (by_index.Refused (refusals.Fault faults)))) status led scanned unfailed within is = absurd (unfailed refl)
shown_so asked file bytes messages (readings.Opened (Err (by_index.Refused (refusals.Grammar n rule)))) status led scanned unfailed within is = absurd scanned
shown_so asked file bytes messages (readings.Opened (Err (by_index.Refused (refusals.Compressed n name)))) status led scanned unfailed within is = absurd scanned
shown_so asked file bytes messages (readings.Opened (Err (by_index.Refused (refusals.Limit n)))) status led scanned unfailed within is = absurd (within n led)
shown_so asked file bytes messages (readings.Opened (Err (by_index.Refused refusals.Memory))) status led scanned unfailed within is = inr is

pub indexed_printings_succeed : IndexedPrintingsSucceed
indexed_printings_succeed asked file bytes told old new status cats calm there (tops, end, halts) full within =
    let (messages, scan, one) = good_lists_are_scanned reading_limits tops halts.kept.good in
    let (none, unfailed, is) = cats.reads.ran.calm calm.quiet in
    shown_so asked file bytes messages cats.reads.reading status (cats.decided told bytes calm.tells there calm.quiet) (cats.scanned told bytes tops end messages calm.tells there full halts scan) unfailed within is

-- ---- a file is told of

few_bytes : (bytes : List ℕ) → CanBeTold bytes → length bytes < 2 ^ 64
few_bytes bytes can = let short = can.short in let within = short.whole in omega (arith, within)

told_so : (file bytes : List ℕ) → CanBeTold bytes → (reading : Reading (List ℕ) IndexedRefused) (status : Status) → DescribesBytes bytes reading → status ≡ ending_status (info_ending file reading) → IsAllDone status
told_so file bytes can (readings.Unopened outside_refusals.Failed) status describes is = absurd describes
told_so file bytes can (readings.Unopened outside_refusals.Memory) status describes is = inr is
told_so file bytes can (readings.Opened (Ok text)) status describes is = inl is
told_so file bytes can (readings.Opened (Err (by_index.NotIndexed lacks.NoSummary))) status describes is = absurd (flawless_loaded bytes can.tops can.footer can.flawless (few_bytes bytes can) can.ends can.summed (by_index.NotIndexed lacks.NoSummary) describes)
told_so file bytes can (readings.Opened (Err (by_index.NotIndexed lacks.NoStatistics))) status (parts, loaded, none) is = let counted = can.counted in absurd (counted parts loaded none)
told_so file bytes can (readings.Opened (Err (by_index.NotIndexed (lacks.ChunkCount stated found)))) status describes is = absurd describes
told_so file bytes can (readings.Opened (Err (by_index.NotIndexed (lacks.NoMessageIndex chunk)))) status describes is = absurd describes
told_so file bytes can (readings.Opened (Err (by_index.NotIndexed (lacks.NoChannel id)))) status describes is = absurd describes
told_so file bytes can (readings.Opened (Err (by_index.Refused (refusals.Fault faults)))) status describes is = absurd describes
told_so file bytes can (readings.Opened (Err (by_index.Refused (refusals.Grammar n rule)))) status describes is =
    absurd (flawless_loaded bytes can.tops can.footer can.flawless (few_bytes bytes can) can.ends can.summed (by_index.Refused (refusals.Grammar n rule)) describes)
told_so file bytes can (readings.Opened (Err (by_index.Refused (refusals.Compressed n name)))) status describes is = absurd describes
told_so file bytes can (readings.Opened (Err (by_index.Refused (refusals.Limit n)))) status describes is = let flawless = can.flawless in absurd (passes_none bytes can.tops flawless.ordered describes.1 can.short can.summary n describes.0)
told_so file bytes can (readings.Opened (Err (by_index.Refused refusals.Memory))) status describes is = inr is

pub tellings_succeed : TellingsSucceed
tellings_succeed file bytes told old new status describes calm there can =
    told_so file bytes can describes.reads.reading status (describes.decided told bytes calm.tells there calm.quiet) (describes.reads.ran.calm calm.quiet).2

-- ---- a file is checked

checked_well : (bytes : List ℕ) → IsValid bytes → IsShort bytes → (reading : Reading Verdict ReadingRefused) (status : Status) → Decides bytes reading status → IsAllDone status
checked_well bytes valid short (readings.Unopened outside_refusals.Failed) status is = absurd is
checked_well bytes valid short (readings.Unopened outside_refusals.Memory) status is = inr is
checked_well bytes valid short (readings.Opened (Ok (verdicts.Indexed n))) status is = inl is.1
checked_well bytes valid short (readings.Opened (Ok (verdicts.Plain n))) status is = inl is.1
checked_well bytes valid short (readings.Opened (Ok (verdicts.Flawed rule offset))) status is = absurd (flaws_exclude_validity bytes rule offset is.0 valid)
checked_well bytes valid short (readings.Opened (Err (refusals.Fault faults))) status is = absurd is
checked_well bytes valid short (readings.Opened (Err (refusals.Grammar n rule))) status is = absurd is
checked_well bytes valid short (readings.Opened (Err (refusals.Compressed n name))) status is = absurd (compressions_exclude_validity bytes name n is.0 valid)
checked_well bytes (tops, valid) short (readings.Opened (Err (refusals.Limit n))) status is = absurd (short_files_meet_no_limit bytes tops n valid.v4 short is.0)
checked_well bytes valid short (readings.Opened (Err refusals.Memory)) status is = inr is

pub checks_succeed : ChecksSucceed
checks_succeed file bytes told old new status checks calm there valid short =
    checked_well bytes valid short checks.reads.reading status (checks.decided told bytes calm.tells there calm.quiet)

-- ---- a limit of writing

-- no writer stops at a limit in a file that is within the limits
pub unlimited : (options : FileOptions) (extras : List Top) (history : List Rec) (opened now : Option (List ℕ)) (blocks bytes : ℕ) (written : Written) → StopsAt options extras history opened now (stops.Limit blocks bytes) written
    → FileHolds options.profile (blocks_in (pieces_of options.chunk options.span history)) (length (file_of options extras history)) → ⊥
unlimited options extras history opened now blocks bytes written stop within =
    let pieces = pieces_of options.chunk options.span history in
    let n = stop.place + 1 - 1 in
    let few = within.holds.few in
    let chunks = within.contents.chunks in
    let split : blocks_in pieces ≡ blocks_in (take n pieces) ++ blocks_in (drop n pieces) = ap blocks_in (sym (take-append-drop n pieces)) ∙ flat_map-append block_in (take n pieces) (drop n pieces) in
    let among = ap (λ (l : List (List Rec)). length l) split in
    let parts = file_pieces options extras history in
    let cut = cut_at parts stop.place stop.next stop.at in
    let small = within.holds.small in
    let all : file_of options extras history ≡ joined (take stop.place parts) ++ (stop.next ++ joined cut.0) = sym (pieces_make_files options extras history) ∙ ap joined cut.1 ∙ flat_map-append (λ (piece : List ℕ). piece) (take stop.place parts) (stop.next ∷ cut.0) in
    let size = ap (λ (l : List ℕ). length l) all in
    stop.why.2 (record {
      holds = record {
        few = omega (arith, few, among, length-append (blocks_in (take n pieces)) (blocks_in (drop n pieces)));
        small = omega (arith, small, size, stop.bytes_are, length-append (joined (take stop.place parts)) (stop.next ++ joined cut.0), length-append stop.next (joined cut.0));
      };
      contents = record { header = within.contents.header; chunks = each_first ChunkFits (blocks_in (take n pieces)) (blocks_in (drop n pieces)) (subst (Each ChunkFits) split chunks) };
    })

-- ---- a file is recovered

module _ (chunk : ℕ) (input out bytes : List ℕ) (told : Told) (old new : Scene) (here : old.world.told ≡ Some told) (there : told.names input ≡ Some bytes) (can : IsRepairedWithin chunk bytes) where
  not_limited : (blocks written : ℕ) (status : Status) (it : RecoversFile chunk input out old new status) → it.recovery ≡ recoveries.Refused (recovering.Stopped (stops.Limit blocks written)) → ⊥
  not_limited blocks written status it is =
      let all = reached chunk input out old.world new.world it.entries it.recovery (Err (recovering.Stopped (stops.Limit blocks written))) it.comes is (λ e. absurd cc) in
      let unwritten = all.recovers in
      let stop = unwritten.stops bytes ((all.tells told here).0 ∙ there) can.profile can.extras can.history can.repaired in
      unlimited (recovered_options can.profile chunk) can.extras can.history all.live.held all.stored.held blocks written unwritten.written stop can.within

  recovered_well : (status : Status) (it : RecoversFile chunk input out old new status) (recovery : Recovery) → it.recovery ≡ recovery → V1 bytes → RecoveryDecides bytes recovery status → IsAllDone status
  recovered_well status it recoveries.Unopened is begins decided = absurd decided
  recovered_well status it (recoveries.Made r) is begins decided = inl decided.1
  recovered_well status it (recoveries.Refused recovering.NoMagic) is begins decided = absurd (decided.0 begins)
  recovered_well status it (recoveries.Refused (recovering.Refused (refusals.Fault faults))) is begins decided = absurd decided
  recovered_well status it (recoveries.Refused (recovering.Refused (refusals.Grammar n rule))) is begins decided = absurd decided
  recovered_well status it (recoveries.Refused (recovering.Refused (refusals.Compressed n name))) is begins decided = absurd decided
  recovered_well status it (recoveries.Refused (recovering.Refused (refusals.Limit n))) is begins decided = absurd decided
  recovered_well status it (recoveries.Refused (recovering.Refused refusals.Memory)) is begins decided = inr decided
  recovered_well status it (recoveries.Refused (recovering.Stopped (stops.Fault faults))) is begins decided = absurd decided
  recovered_well status it (recoveries.Refused (recovering.Stopped (stops.Limit blocks written))) is begins decided = absurd (not_limited blocks written status it is)
  recovered_well status it (recoveries.Refused (recovering.Stopped stops.Memory)) is begins decided = inr decided

pub recoveries_succeed : RecoveriesSucceed
recoveries_succeed chunk input out bytes told old new status recovers calm there begins can =
    recovered_well chunk input out bytes told old new calm.tells there can status recovers recovers.recovery refl begins (recovers.decided told bytes calm.tells there calm.quiet)

-- ---- files are merged

unopened_unlimited : (failed : Bool) (blocks bytes : ℕ) → unopened_so failed ≡ mergings.Refused (merges.Stopped (stops.Limit blocks bytes)) → ⊥
unopened_unlimited true blocks bytes e = absurd cc
unopened_unlimited false blocks bytes e = absurd cc

refused_result : (result : Result Merged MergeRefused) (why : MergeRefused) → merging_of result ≡ mergings.Refused why → result ≡ Err why
refused_result (Ok m) why e = absurd cc
refused_result (Err other) why e = cc

-- all names were given where the file would pass a limit
limit_reached : (chunk : ℕ) (inputs : List (List ℕ)) (out : List ℕ) (old new : WorldState) (entries : List Opening) (merging : Merging) (blocks bytes : ℕ) → IsMerging chunk inputs out old new entries merging
    → merging ≡ mergings.Refused (merges.Stopped (stops.Limit blocks bytes)) → Reached chunk inputs out old new entries (Err (merges.Stopped (stops.Limit blocks bytes)))
limit_reached chunk inputs out old new entries merging blocks bytes (inl (refusal, unreached)) is = absurd (unopened_unlimited (some_refused entries) blocks bytes (sym refusal.answer ∙ is))
limit_reached chunk inputs out old new entries merging blocks bytes (inr (result, same, it)) is =
    subst (Reached chunk inputs out old new entries) (refused_result result (merges.Stopped (stops.Limit blocks bytes)) (sym same ∙ is)) it

same_stop : (a b : Stop) → merges.Stopped a ≡ merges.Stopped b → a ≡ b
same_stop a b e = cc

ungathered : (olds news : List StoreState) (blocks bytes : ℕ) → GatherRefused olds news (merges.Stopped (stops.Limit blocks bytes)) → ⊥
ungathered olds news blocks bytes (inl none) = none
ungathered olds news blocks bytes (inr (stand, reads, are, none)) = none

stops_nowhere : (given back : List StoreState) (live stored : LiveState) (chunk : ℕ) (files : List (List ℕ)) (blocks bytes : ℕ) → AllZip TellsBytes given files → CanBeMerged chunk files → MergeStops given live stored chunk (merges.Stopped (stops.Limit blocks bytes)) → ⊥
stops_nowhere given back live stored chunk files blocks bytes tell can it =
    let options = merged_options it.profile chunk in
    let (at_blocks, at_bytes, stop) = it.stands in
    let same : it.stop ≡ stops.Limit blocks bytes = sym (same_stop (stops.Limit blocks bytes) it.stop it.answer) in
    let within = can.within in
    unlimited options it.extras it.history live.held stored.held blocks bytes (record { blocks = at_blocks; bytes = at_bytes })
    (subst (λ (s : Stop). StopsAt options it.extras it.history live.held stored.held s (record { blocks = at_blocks; bytes = at_bytes })) same stop)
    (within it.profile it.extras it.history (merges_to given files it.profile it.extras it.history tell it.is))

fails_nowhere : (given back : List StoreState) (live stored : LiveState) (chunk : ℕ) (files : List (List ℕ)) (blocks bytes : ℕ) → AllZip TellsBytes given files → CanBeMerged chunk files → MergeFails given back live stored chunk (merges.Stopped (stops.Limit blocks bytes)) → ⊥
fails_nowhere given back live stored chunk files blocks bytes tell can (inl (same, gathered)) = ungathered given back blocks bytes gathered
fails_nowhere given back live stored chunk files blocks bytes tell can (inr (inl (stand, it))) = stops_nowhere given back live stored chunk files blocks bytes tell can it
fails_nowhere given back live stored chunk files blocks bytes tell can (inr (inr it)) = it.cause

ends_otherwise : (files : List (List ℕ)) (n : ℕ) (halt : Halt) → Each IsReadWhole files → FirstHalts files n (λ bytes. (tops : List Top) × Halts reading_limits bytes tops halt) → (end : ℕ) × SameHalt halt (at_end end)
ends_otherwise files n halt read first =
    let (tops, end, halts) = read n first.bytes first.at in
    (end, (readings_halt_once first.bytes first.so.0 tops halt (at_end end) first.so.1 halts).1)

pub names_end : (n end : ℕ) (name : List ℕ) → names n name ≡ at_end end → ⊥
names_end n end name e = cc

pub beyond_end : (n end : ℕ) → beyond n ≡ at_end end → ⊥
beyond_end n end e = cc

module _ (chunk : ℕ) (inputs : List (List ℕ)) (out : List ℕ) (files : List (List ℕ)) (told : Told) (old new : Scene) (here : old.world.told ≡ Some told) (there : AllZip (HoldsBytes told) inputs files) (can : CanBeMerged chunk files) where
  not_passed : (blocks bytes : ℕ) (status : Status) (it : MergesFiles chunk inputs out old new status) → it.merging ≡ mergings.Refused (merges.Stopped (stops.Limit blocks bytes)) → ⊥
  not_passed blocks bytes status it is =
      let all = limit_reached chunk inputs out old.world new.world it.entries it.merging blocks bytes it.comes is in
      fails_nowhere all.given _ all.live all.stored chunk files blocks bytes (files_told old.world told inputs all.given files here all.tells there) can all.merges

  merged_well : (status : Status) (it : MergesFiles chunk inputs out old new status) (merging : Merging) → it.merging ≡ merging → MergeDecides files merging status → IsAllDone status
  merged_well status it mergings.Unopened is decided = absurd decided
  merged_well status it (mergings.Made m) is decided = inl decided.1
  merged_well status it (mergings.Refused (merges.Halted input (refusals.Fault faults))) is decided = absurd decided
  merged_well status it (mergings.Refused (merges.Halted input (refusals.Grammar n rule))) is decided = absurd (ends_otherwise files input (breaks n rule) can.read decided.0).1
  merged_well status it (mergings.Refused (merges.Halted input (refusals.Compressed n name))) is decided = let other = ends_otherwise files input (names n name) can.read decided.0 in absurd (names_end n other.0 name other.1)
  merged_well status it (mergings.Refused (merges.Halted input (refusals.Limit n))) is decided = let other = ends_otherwise files input (beyond n) can.read decided.0 in absurd (beyond_end n other.0 other.1)
  merged_well status it (mergings.Refused (merges.Halted input refusals.Memory)) is decided = absurd decided
  merged_well status it (mergings.Refused (merges.Changed input offset)) is decided = absurd decided
  merged_well status it (mergings.Refused merges.TooManySchemas) is ((tops, read, many), status_is) = let schemas = can.schemas in absurd (schemas tops read many)
  merged_well status it (mergings.Refused merges.TooManyChannels) is ((tops, read, counts), status_is) = let channels = can.channels in absurd (channels tops read counts.0)
  merged_well status it (mergings.Refused (merges.Stopped (stops.Fault faults))) is decided = absurd decided
  merged_well status it (mergings.Refused (merges.Stopped (stops.Limit blocks bytes))) is decided = absurd (not_passed blocks bytes status it is)
  merged_well status it (mergings.Refused (merges.Stopped stops.Memory)) is decided = inr decided

pub merges_succeed : MergesSucceed
merges_succeed chunk inputs out files told old new status it calm there can =
    merged_well chunk inputs out files told old new calm.tells there can status it it.merging refl (it.decided told files calm.tells there calm.quiet)

-- ---- feeds are recorded

halts_of : (told : Told) (feeds : List (List ℕ)) (halts : List Halt) → AllZip (FeedIsReadWhole told) feeds halts → AllZip (FeedHalts told) feeds halts
halts_of told [] [] read = tt
halts_of told [] (h ∷ hs) read = absurd read
halts_of told (f ∷ fs) [] read = absurd read
halts_of told (f ∷ fs) (h ∷ hs) read = (read.0.0, halts_of told fs hs read.1)

-- none of them asks for another status than that all was done
none_asks : (told : Told) (wanted : Status) → is_status wanted statuses.Done ≡ false → (feeds : List (List ℕ)) (halts : List Halt) → AllZip (FeedIsReadWhole told) feeds halts → list_any (is_status wanted) (map halt_status halts) ≡ false
none_asks told wanted other [] [] read = refl
none_asks told wanted other [] (h ∷ hs) read = absurd read
none_asks told wanted other (f ∷ fs) [] read = absurd read
none_asks told wanted other (f ∷ fs) (h ∷ hs) read =
    let (end, is) = read.0.1 in
    both (ap (λ (x : Halt). is_status wanted (halt_status x)) is ∙ other) (none_asks told wanted other fs hs read.1)
  where
    both : {a b : Bool} → a ≡ false → b ≡ false → (a || b) ≡ false
    both {a} {b} one two = ap (λ (x : Bool). x || b) one ∙ two

worst_done : (asked : List Status) → list_any (is_status statuses.Limit) asked ≡ false → list_any (is_status statuses.Refused) asked ≡ false → worst asked ≡ statuses.Done
worst_done asked limit refused =
    ap (λ (b : Bool). if b then statuses.Limit else (if list_any (is_status statuses.Refused) asked then statuses.Refused else statuses.Done)) limit
    ∙ ap (λ (b : Bool). if b then statuses.Refused else statuses.Done) refused

all_read : (told : Told) (feeds : List (List ℕ)) (halts : List Halt) → AllZip (FeedIsReadWhole told) feeds halts → worst (map halt_status halts) ≡ statuses.Done
all_read told feeds halts read = worst_done (map halt_status halts) (none_asks told statuses.Limit refl feeds halts read) (none_asks told statuses.Refused refl feeds halts read)

-- ---- the limits of a recording

module _ (options : RecordOptions) (before after : Sides) (r : Report) (it : Recorded options before after r) where
  abbrev Passes : Type 0
  Passes = PassesNumber options it.history it.feeds

  -- a cause that is a limit
  over_is : (f : FeedRecorded) → Has it.feeds f → ShownBy it.history it.assembled.swaps r.writer.end f.pass → (index : ℕ) (cause : CallRefused) → CauseFits (flat f.reports.tops) f.reports.handled f.pass index cause → is_over cause ≡ true → Passes
  over_is f there shown index (refusing.Full held from to) fits is = absurd cc
  over_is f there shown index (refusing.TooLarge len) fits is = elim fits [
    | inl much ↦ by_data f index len there much
    | inr wide ↦ by_declaration f index len there wide
  ]
  over_is f there shown index (refusing.Closed at) fits is = absurd cc
  over_is f there shown index (refusing.Stopped at stop) fits is = absurd cc
  over_is f there shown index refusing.UnknownChannel fits is = absurd cc
  over_is f there shown index refusing.TooManySchemas (lack, on, caused, has) is = by_ids f index lack.content refusing.TooManySchemas there on (subst (λ (c : CallRefused). IdsLack it.history lack.content c) caused (shown.lacks has.0 lack has.1).still)
  over_is f there shown index refusing.TooManyChannels (lack, on, caused, has) is = by_ids f index lack.content refusing.TooManyChannels there on (subst (λ (c : CallRefused). IdsLack it.history lack.content c) caused (shown.lacks has.0 lack has.1).still)
  over_is f there shown index (refusing.TooManyRecords count) (many, found) is =
      let shown_found = shown.found found.found found.shown in
      let within = found.within in
      let all = shown_found.within in
      by_records (omega (arith, many, within, all))
  over_is f there shown index refusing.Memory fits is = absurd cc

  of_feed : (n : ℕ) (report : FeedReport) → At r.feeds.items n report → list_any (λ (x : Refused). is_over x.cause) report.refused.items ≡ true → Passes
  of_feed n report at is =
      let (f, at_f, same) = at_map (λ (g : FeedRecorded). g.feed) it.feeds n report (subst (λ (l : List FeedReport). At l n report) it.are.reports_are at) in
      let (m, x, at_x, over) = any_has (λ (y : Refused). is_over y.cause) report.refused.items is in
      let stands = it.assembled.stand n (lane_of f) (at_mapped lane_of it.feeds n f at_f) in
      let listed : At f.feed.refused.items m x = subst (λ (y : FeedReport). At y.refused.items m x) same at_x in
      over_is f (n, at_f) stands.shown x.index x.cause (f.reports.fits.refuses m x listed) over

  of_writer : (end : End) → r.writer.end ≡ end → is_limit end ≡ true → Passes
  of_writer ends.Closed same is = absurd cc
  of_writer (ends.Stopped (stops.Fault faults)) same is = absurd cc
  of_writer (ends.Stopped (stops.Limit blocks bytes)) same is =
      let wrote : Ends options.file [] before.live.held after.live.held it.history (numbers r.writer.blocks r.writer.bytes) (Err (stops.Limit blocks bytes)) =
      subst (λ (e : End). Ends options.file [] before.live.held after.live.held it.history (numbers r.writer.blocks r.writer.bytes) (answer_of e)) same it.writer.wrote in
      by_file (unlimited options.file [] it.history before.live.held after.live.held blocks bytes (numbers r.writer.blocks r.writer.bytes) wrote)
  of_writer (ends.Stopped stops.Memory) same is = absurd cc

  either : (a b : Bool) → (a || b) ≡ true → (a ≡ true) ⊎ (b ≡ true)
  either true b is = inl refl
  either false b is = inr is

  pub real : passes_limit r ≡ true → Passes
  real is = elim (either (is_limit r.writer.end) _ is) [
    | inl file ↦ of_writer r.writer.end refl file
    | inr feed ↦
        let (n, report, at, over) = any_has (λ (f : FeedReport). list_any (λ (x : Refused). is_over x.cause) f.refused.items) r.feeds.items feed in
        of_feed n report at over
  ]

pub recording_limits_are_real : RecordingLimitsAreReal
recording_limits_are_real options before after r it is = real options before after r it is

-- ---- feeds are recorded, where no limit is passed

no_limit : {Passes : Report → Type 0} (report : Option Report) → ((r : Report) → report ≡ Some r → passes_limit r ≡ true → Passes r) → ((r : Report) → report ≡ Some r → Passes r → ⊥) → limit_passed report ≡ false
no_limit None real within = refl
no_limit (Some r) real within = by (passes_limit r) refl
  where
    by : (b : Bool) → passes_limit r ≡ b → passes_limit r ≡ false
    by true is = absurd (within r refl (real r refl is))
    by false is = is

-- by whether memory lacked
by_memory : {status : Status} (lacked : Bool) → (lacked ≡ true → status ≡ statuses.Memory) → (lacked ≡ false → status ≡ statuses.Done) → IsAllDone status
by_memory true memory done = inr (memory refl)
by_memory false memory done = inl (done refl)

-- ---- what a lane read of a feed

-- the bytes of which these were read begin with them, and they are good
kept_gives : (bytes : List ℕ) (tops : List Top) (halt : Halt) → Halts reading_limits bytes tops halt → Begins bytes tops × Good reading_limits tops
kept_gives bytes tops halt halts = (halts.kept.stands, halts.kept.good)

begins_more : (part rest : List ℕ) (tops : List Top) → Begins part tops → Begins (part ++ rest) tops
begins_more part rest tops (inl none) = inl none
begins_more part rest tops (inr (behind, stands)) = inr (
  behind ++ rest,
  record {
    split = ap (λ (l : List ℕ). l ++ rest) stands.split ∙ append_assoc magic (spelled tops ++ behind) rest ∙ ap (λ (l : List ℕ). magic ++ l) (append_assoc (spelled tops) behind rest);
  },
)

pub lane_gives : (before now : SourceState) (tops : List Top) (end : FeedEnd) (bytes : List ℕ) → FeedEnds before now tops end → before.left ≡ Some bytes → Begins bytes tops × Good reading_limits tops
lane_gives before now tops feed_ends.Done bytes (offset, so) left = kept_gives bytes tops (at_end offset) (so.halts bytes left)
lane_gives before now tops (feed_ends.Refused (refusals.Fault faults)) bytes so left =
    let leaves = so.leaves bytes left in
    (subst (λ (l : List ℕ). Begins l tops) (sym leaves.split) (begins_more leaves.part leaves.rest tops leaves.cut_off.kept.stands), leaves.cut_off.kept.good)
lane_gives before now tops (feed_ends.Refused (refusals.Grammar n rule)) bytes so left = kept_gives bytes tops (breaks n rule) (so.halts bytes left)
lane_gives before now tops (feed_ends.Refused (refusals.Compressed n name)) bytes so left = kept_gives bytes tops (names n name) (so.halts bytes left)
lane_gives before now tops (feed_ends.Refused (refusals.Limit n)) bytes so left = kept_gives bytes tops (beyond n) (so.halts bytes left)
lane_gives before now tops (feed_ends.Refused refusals.Memory) bytes so left = (by (so.leaves bytes left), so.good)
  where
    by : MemoryLeaves bytes tops now.left → Begins bytes tops
    by (inl none) = inl none.0
    by (inr (rest, stands, lacks_at)) = inr (rest, stands)
lane_gives before now tops feed_ends.Ended bytes so left = let (rest, same, stands) = so.read bytes left in (inr (rest, stands), so.good)

-- of a feed whose source told the bytes under its name
feed_gives : (told : Told) (world : WorldState) (name : List ℕ) (halt : Halt) (f : FeedRecorded) → world.told ≡ Some told → FeedIsReadWhole told name halt → TellsName world name f.before → Gives told name f.reports.tops
feed_gives told world name halt f here read tells =
    let bytes = read.0.bytes in
    let (begins, good) = lane_gives f.before f.now f.reports.tops f.feed.end bytes f.reports.ends ((tells told here).0 ∙ read.0.there) in
    record { bytes = bytes; there = read.0.there; begins = begins; good = good }

feeds_give : (told : Told) (world : WorldState) (feeds : List (List ℕ)) (halts : List Halt) (fs : List FeedRecorded) → world.told ≡ Some told → AllZip (FeedIsReadWhole told) feeds halts → AllZip (TellsName world) feeds (map (λ (f : FeedRecorded). f.before) fs)
    → AllZip (λ (name : List ℕ) (f : FeedRecorded). Gives told name f.reports.tops) feeds fs
feeds_give told world [] halts [] here read tells = tt
feeds_give told world [] halts (f ∷ fs) here read tells = absurd tells
feeds_give told world (name ∷ feeds) halts [] here read tells = absurd tells
feeds_give told world (name ∷ feeds) [] (f ∷ fs) here read tells = absurd read
feeds_give told world (name ∷ feeds) (h ∷ hs) (f ∷ fs) here read tells = (feed_gives told world name h f here read.0 tells.0, feeds_give told world feeds hs fs here read.1 tells.1)

-- feeds that can be recorded pass no limit, whatever feeds are
module _ {F : Type 0} (MayBeRead : F → List Top → Type 0) where
  lanes_are : (feeds : List F) (fs : List FeedRecorded) → AllZip (λ (x : F) (f : FeedRecorded). MayBeRead x f.reports.tops) feeds fs → AllZip (IsLaneOf MayBeRead) feeds (map lane_of fs)
  lanes_are [] [] may = tt
  lanes_are [] (f ∷ fs) may = absurd may
  lanes_are (x ∷ xs) [] may = absurd may
  lanes_are (x ∷ xs) (f ∷ fs) may = (record { tops = f.reports.tops; may = may.0; records_are = refl }, lanes_are xs fs may.1)

  module _ (options : RecordOptions) (before after : Sides) (r : Report) (it : Recorded options before after r) (feeds : List F) (may : AllZip (λ (x : F) (f : FeedRecorded). MayBeRead x f.reports.tops) feeds it.feeds) (can : CanBeRecorded MayBeRead options feeds) where
    may_come : MayCome MayBeRead options.limit feeds it.history
    may_come = record { lanes = map lane_of it.feeds; are = lanes_are feeds it.feeds may; end = r.writer.end; assembled = it.assembled }

    given_by : (f : FeedRecorded) → Has it.feeds f → (x : F) × Has feeds x × MayBeRead x f.reports.tops
    given_by f (n, at) = let (x, at_x, read) = zip_back (λ (y : F) (g : FeedRecorded). MayBeRead y g.reports.tops) feeds it.feeds n f may at in (x, (n, at_x), read)

    pub passes_nothing : PassesNumber options it.history it.feeds → ⊥
    passes_nothing (by_file unfit) = unfit (can.file_fits it.history may_come)
    passes_nothing (by_data f index len has much) = let (x, there, read) = given_by f has in can.data_fits x f.reports.tops index len there read much
    passes_nothing (by_declaration f index len has wide) = let (x, there, read) = given_by f has in can.declarations_fit x f.reports.tops index len there read wide
    passes_nothing (by_ids f index content cause has on lack) = let (x, there, read) = given_by f has in can.ids_suffice it.history x f.reports.tops index content cause may_come there read on lack
    passes_nothing (by_records many) = let few = can.records_are_few it.history may_come in omega (arith, many, few)

-- the same of each report, beside whatever is told of its watchers
recordings_of : (request : Requested) (halts : List Halt) (told : Told) (old new : Scene) (report : Option Report) (sealed : Bool) (reports : List WatchReport) (status : Status) → RecordsSo request old new report sealed reports status → old.world.told ≡ Some told
    → (AnyCountRose (watched_counts_in request.names.watches old) (watched_counts_in request.names.watches new) → ⊥) → AllZip (FeedIsReadWhole told) request.names.feeds halts → CanBeRecorded (Gives told) request.options request.names.feeds → IsAllDone status
recordings_of request halts told old new report sealed reports status it here quiet read can =
    let below = no_limit {Passes = λ r. (is : report ≡ Some r) → PassesNumber request.options (it.reported r is).recorded.history (it.reported r is).recorded.feeds} report
    (λ r is limit same. real request.options (sides (it.reported r same).given (it.reported r same).viewed) (sides (back_sources (it.reported r same).kept_feeds) (it.reported r same).live_now) r (it.reported r same).recorded limit)
    (λ r is passes. passes_nothing (Gives told) request.options (sides (it.reported r is).given (it.reported r is).viewed) (sides (back_sources (it.reported r is).kept_feeds) (it.reported r is).live_now) r (it.reported r is).recorded request.names.feeds (gives_so r is) can (passes is)) in
    by_memory it.lacked it.ended.memory (λ enough. it.decided told halts here (halts_of told request.names.feeds halts read) quiet enough below ∙ all_read told request.names.feeds halts read)
  where
    gives_so : (r : Report) (is : report ≡ Some r) → AllZip (λ (name : List ℕ) (f : FeedRecorded). Gives told name f.reports.tops) request.names.feeds (it.reported r is).recorded.feeds
    gives_so r is =
        let reported = it.reported r is in
        let tells = reported.tells in
        let recorded = reported.recorded in
        feeds_give told old.world request.names.feeds halts recorded.feeds here read (subst (AllZip (TellsName old.world) request.names.feeds) recorded.are.before_are tells)

pub recordings_succeed : RecordingsSucceed
recordings_succeed request halts told old new None status it = recordings_of request halts told old new None true [] status it
recordings_succeed request halts told old new (Some r) status it = recordings_of request halts told old new (Some r.recorded) r.sealed r.watchers.items status it
