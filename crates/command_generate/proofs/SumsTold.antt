-- The sums that are printed are those of all messages that were made.
use Rattle.std.proofs.Common.{◌≡◌, ℕ, zero, suc, ◌+◌, ◌%◌, ◌^◌, ◌<◌, ◌&&◌, if◌then◌else◌, Bool, true, false, List, [], ◌∷◌, ◌++◌, length, get_or, map, filter, Option, Some, None, Ok, refl, sym, ap, subst, inl, inr, ◌∙◌, arith}
use Rattle.std.specs.Prelude.{IsUtf8}
use Rattle.std.specs.List.{All, AllZip, sum_by, range_with_len}
use Rattle.std.proofs.lemmas.Bool.{both_ways, or_left}
use Rattle.std.proofs.lemmas.Option.{same_Some}
use Rattle.mcap_io.specs.Outside.{added, SourceState, LiveState, WorldState, Told, Keeping, Opening}
use Rattle.mcap_model.specs.declared.ends.End.{End}
use Rattle.mcap_model.specs.declared.ends.End.TheVariants as ends
use Rattle.mcap_model.specs.declared.ends.Stop.TheVariants as stops
use Rattle.mcap_model.specs.Places.{At}
use Rattle.mcap_model.specs.Tops.{Top, flat, offset_behind}
use Rattle.mcap_model.specs.Fields.{MessageFields, IsMessage}
use Rattle.mcap_model.specs.Kept.{at_end}
use Rattle.mcap_model.specs.Scan.{Seen, Scan}
use Rattle.mcap_model.specs.File.{file_of}
use Rattle.mcap_model.specs.History.{is_message}
use Rattle.mcap_model.specs.Laws.{HoldsSeen}
use Rattle.mcap_model.proofs.Places.{at_none, at_one, at_within, at_read, heads, tails}
use Rattle.mcap_model.proofs.Flat.{at_mapped}
use Rattle.mcap_model.proofs.Halting.{readings_halt_once}
use Rattle.chunk_writer.specs.Stops.{Cause as WriterCause}
use Rattle.feed_lane.specs.Lanes.{messages}
use Rattle.mcap_model.specs.declared.options.RecordOptions.{RecordOptions}
use Rattle.recorder.specs.declared.report.Report.{Report}
use Rattle.recorder.specs.Recorded.{FeedRecorded, answer_of, sides, Recorded, AreReadable}
use Rattle.recorder.specs.Laws.{ReadsAs}
use Rattle.recorder.proofs.ReadBack.{closed_file, recordings_are_read_back}
use Rattle.command_generate.specs.declared.sums.Sums.{Sums}
use Rattle.command_generate.specs.Sums.{value_of, bytes_in_payload, sums_of}
use Rattle.command_generate.specs.SumReading.{fields_seen}
use Rattle.command_base.specs.declared.statuses.Status.{Status}
use Rattle.command_base.specs.Printing.{TellsAll, Takes}
use Rattle.command_base.specs.OneFile.{failing, text_of}
use Rattle.command_base.specs.Ran.{Scene, WorldRose, world_faults, output_faults, input_faults}
use Rattle.command_generate.specs.Generator.{generated, first_state}
use Rattle.command_generate.specs.Feeds.{feed_tops, feed_bytes, message_top, end_top}
use Rattle.command_generate.specs.FeedLaws.{FeedsAreRead}
use Rattle.command_generate.proofs.FeedReading.{small_from, message_is}
use Rattle.mcap_model.specs.declared.refusals.ReadingRefused.{ReadingRefused}
use Rattle.command_base.specs.declared.file_reading.Reading.{Reading}
use Rattle.command_base.specs.declared.file_reading.Reading.TheVariants as readings
use Rattle.command_generate.specs.declared.making.Numbers.{Numbers}
use Rattle.command_generate.specs.Lines.{sums_line}
use Rattle.command_generate.specs.Back.{Back, back_ending, NameReadBack}
use Rattle.command_generate.specs.Making.{generated_source, sources_of, IsPutUnder as NameIsPlaced}
use Rattle.command_generate.specs.Allowed.{OptionsAllowed}
use Rattle.recorder.specs.Findings.{is_limit, is_memory_writer, passes_limit, lacks_memory}
use Rattle.command_generate.specs.Generating.{writer_closed, is_sound, ReadsBack, text_after, halts_after, is_lack_after, Generates}
use Rattle.command_generate.specs.Laws.{made_for, all_made, AreInRange, GeneratedSumsAreTold}
use Rattle.command_generate.proofs.Totals.{weight, total_of, seen_total, one_each, counted}
use Rattle.command_generate.proofs.Silent.{cons_some, IsQuiet, quiet}
use Rattle.command_generate.proofs.Soundness.{reported, neither, IsStored, stored_there, outputs_stay, rose_later, failed_rose, there_back, summed, summed_of, all_taken}
use Rattle.command_generate.proofs.Recordings.{all_placed}
use Rattle.command_generate.proofs.Spots.{spots, IsWhole, spots_there, spots_apart, spots_total, once, rise, all}

-- ---- the messages of a feed

flat_messages : (seed feed n : ℕ) → messages (flat (feed_tops seed feed n)) ≡ map message_top (generated seed feed n)
flat_messages seed feed n = only (generated seed feed n)
  where
    only : (ms : List MessageFields) → messages (flat (map message_top ms ++ end_top ∷ [])) ≡ map message_top ms
    only [] = refl
    only (m ∷ ms) = ap (λ (l : List Top). message_top m ∷ l) (only ms)

shows : (seed feed n k : ℕ) (m : MessageFields) → n < 2 ^ 32 → At (generated seed feed n) k m → IsMessage (message_top m) 1 m
shows seed feed n k m few at = message_is m (small_from n 0 (first_state seed feed) (omega (arith, few)) k m at)

-- ---- the feeds, by their numbers

range_at : (from n k x : ℕ) → At (range_with_len from n) k x → x < from + n
range_at from zero k x at = absurd (at_none k x at)
range_at from (suc n) zero x at = omega (arith, same_Some from x at)
range_at from (suc n) (suc k) x at = let more = range_at (from + 1) n k x at in omega (arith, more)

zip_from : {X Y Z : Type 0} (R : X → Y → Type 0) (g : X → Z) (h : Y → Z) (xs : List X) (ys : List Y) → map h ys ≡ map g xs → ((k : ℕ) (x : X) (y : Y) → At xs k x → At ys k y → g x ≡ h y → R x y) → AllZip R xs ys
zip_from R g h [] [] same each = tt
zip_from R g h [] (y ∷ ys) same each = absurd (cons_some (h y) (map h ys) same)
zip_from R g h (x ∷ xs) [] same each = absurd (cons_some (g x) (map g xs) (sym same))
zip_from {X} {Y} {Z} R g h (x ∷ xs) (y ∷ ys) same each = (
  each 0 x y refl refl (sym (heads (h y) (g x) (map h ys) (map g xs) same)),
  zip_from R g h xs ys (tails (h y) (g x) (map h ys) (map g xs) same) (λ k a b at other is. each (suc k) a b at other is),
)

-- ---- equal sums

same_sums : (ms ns : List MessageFields) → ((f : MessageFields → ℕ) → sum_by f ms ≡ sum_by f ns) → sums_of ms ≡ sums_of ns
same_sums ms ns same =
    let k = 2 ^ 64 in
    let long : length ms ≡ length ns = counted ms ∙ same one_each ∙ sym (counted ns) in
    ap (λ (n : ℕ). record { messages = n % k; bytes = sum_by bytes_in_payload ms % k; total = sum_by value_of ms % k }) long
    ∙ ap (λ (n : ℕ). record { messages = length ns % k; bytes = n % k; total = sum_by value_of ms % k }) (same bytes_in_payload)
    ∙ ap (λ (n : ℕ). record { messages = length ns % k; bytes = sum_by bytes_in_payload ns % k; total = n % k }) (same value_of)

-- ---- the recording

module _ (options : RecordOptions) (numbers : Numbers) (back : List SourceState) (live live_now : LiveState) (r : Report) (it : Recorded options (sides (sources_of numbers) live) (sides back live_now) r)
    (lossless : options.lossless ≡ true) (closed : r.writer.end ≡ ends.Closed) (enough : lacks_memory r ≡ false) (limited : passes_limit r ≡ false) (still : All (λ (s : SourceState). s.faults ≡ 0) back)
    (range : AreInRange numbers) (read : FeedsAreRead) where
  whole_feed : (k : ℕ) (f : FeedRecorded) (g : ℕ) → At it.feeds k f → At (range_with_len 0 numbers.feeds) k g → f.before ≡ generated_source numbers g → IsWhole (made_for numbers) it.history f g
  whole_feed k f g at at_g before =
      let within = range_at 0 numbers.feeds k g at_g in
      let few = range.messages in
      let feeds = range.feeds in
      let now : At back k f.now = subst (λ (l : List SourceState). At l k f.now) (sym it.are.now_are) (at_mapped (λ (x : FeedRecorded). x.now) it.feeds k f at) in
      let in_back = at_within back k f.now now in
      let quiet_now : f.now.faults ≡ 0 = subst (λ (s : SourceState). s.faults ≡ 0) (at_one back k (get_or back k f.now) f.now (at_read back k f.now in_back) now) (still k f.now in_back) in
      all_placed options (sources_of numbers) back live live_now r it lossless closed enough limited k f at
      (feed_bytes numbers.seed g numbers.messages) (feed_tops numbers.seed g numbers.messages) (offset_behind (feed_tops numbers.seed g numbers.messages))
      (read numbers.seed g numbers.messages (omega (arith, within, feeds)) few)
      (ap (λ (s : SourceState). s.left) before) (ap (λ (s : SourceState). s.faults) before) quiet_now
      (made_for numbers g) message_top (λ n m there. shows numbers.seed g numbers.messages n m few there) (flat_messages numbers.seed g numbers.messages)

  whole_feeds : AllZip (IsWhole (made_for numbers) it.history) it.feeds (range_with_len 0 numbers.feeds)
  whole_feeds = zip_from (IsWhole (made_for numbers) it.history) (λ (f : FeedRecorded). f.before) (generated_source numbers) it.feeds (range_with_len 0 numbers.feeds) it.are.before_are whole_feed

  history_total : (f : MessageFields → ℕ) → sum_by (weight f) it.history ≡ sum_by f (all_made numbers)
  history_total f =
      let gs = range_with_len 0 numbers.feeds in
      let made = made_for numbers in
      total_of f it.history (spots made it.feeds gs) (spots_there made it.history it.feeds gs whole_feeds)
      (spots_apart made it.feeds gs (rise made options.limit it.history r.writer.end it.feeds gs it.assembled whole_feeds) (once made options.limit it.history r.writer.end it.feeds gs it.assembled whole_feeds))
      (all made options.limit it.history r.writer.end it.feeds gs it.assembled whole_feeds)
      ∙ spots_total made f it.history it.feeds gs whole_feeds

  -- the messages that were read of its file have the sums of all that were made
  pub same_read : (seen : List Seen) → AllZip HoldsSeen (filter is_message it.history) seen → sums_of (fields_seen seen) ≡ sums_of (all_made numbers)
  same_read seen zip = same_sums (fields_seen seen) (all_made numbers) (λ f. seen_total f it.history seen zip ∙ history_total f)

-- ---- all was done

-- the writer closed its file
closed_so : (end : End) (live live_now : LiveState) (old middle new : WorldState) (r : Report) → r.writer.end ≡ end → WriterCause {X = Unit} live.faults live_now.faults (answer_of end) → live.faults ≡ 0 → middle.output_faults ≡ added old.output_faults live_now.faults
    → new.output_faults ≡ middle.output_faults → (WorldRose old new → ⊥) → passes_limit r ≡ false → lacks_memory r ≡ false → r.writer.end ≡ ends.Closed
closed_so ends.Closed live live_now old middle new r same cause unused outputs stay none limited enough = same
closed_so (ends.Stopped (stops.Fault faults)) live live_now old middle new r same cause unused outputs stay none limited enough =
    let rises = cause.0 in absurd (none (inr (inr (omega (arith, rises.once, unused, outputs, stay)))))
closed_so (ends.Stopped (stops.Limit blocks bytes)) live live_now old middle new r same cause unused outputs stay none limited enough = absurd (both_ways (passes_limit r) limited (or_left (is_limit r.writer.end) _ (ap is_limit same)))
closed_so (ends.Stopped stops.Memory) live live_now old middle new r same cause unused outputs stay none limited enough = absurd (both_ways (lacks_memory r) enough (or_left (is_memory_writer r.writer.end) _ (ap is_memory_writer same)))

-- and the keeping went well
well_so : (well sound : Bool) (out : List ℕ) (old middle new : WorldState) (back : Option Back) → ReadsBack sound out middle new back → middle.faults ≡ added old.faults ((0 + (if well then 0 else 1)) + 0) → (WorldRose old new → ⊥) → well ≡ true
well_so true sound out old middle new back reads is none = refl
well_so false sound out old middle new back reads is none = absurd (none (inl (rose_later sound out old middle new back ((0 + 1) + 0) reads is (omega arith))))

both : (a b : Bool) → a ≡ true → b ≡ true → (a && b) ≡ true
both a b one other = ap (λ (x : Bool). x && b) one ∙ other

-- the writer closed its file, which was kept; memory was enough, and no limit was passed
record IsSaved (r : Report) (kept : Bool) : Type 0 where
  closed : r.writer.end ≡ ends.Closed
  well : kept ≡ true
  enough : lacks_memory r ≡ false
  limited : passes_limit r ≡ false

-- the name was read back, and the line of these sums was told
record TellsSums (feeds : ℕ) (out : List ℕ) (middle : WorldState) (old new : Scene) : Type 0 where
  back : Back
  name : NameReadBack out middle new.world back
  sums : Sums
  summed : back.reading ≡ readings.Opened (Ok sums)
  line : TellsAll old.out new.out (sums_line feeds sums)

module _ (options : RecordOptions) (numbers : Numbers) (out : List ℕ) (old new : Scene) (r : Report) (status : Status) (it : Generates options numbers out old new (Some r) status) (q : IsQuiet numbers.feeds out old new (Some r) it.back)
    (s : IsStored options (sources_of numbers) out old.world it.middle it.written.entries (record { report = Some r; kept = it.kept })) where
  outputs_are : it.middle.output_faults ≡ added old.world.output_faults s.stored.live_now.faults
  outputs_are =
      let all : it.middle.output_faults ≡ added old.world.output_faults (s.stored.live_now.faults + 0) =
      it.written.counts.outputs ∙ ap (λ (es : List Opening). added old.world.output_faults (output_faults es)) s.entries_are ∙ ap (λ (k : Keeping). added old.world.output_faults (k.faults + 0)) s.stored.keeping_is in
      omega (arith, all)

  world_is : it.middle.faults ≡ added old.world.faults ((0 + (if it.kept then 0 else 1)) + 0)
  world_is = it.written.counts.world ∙ ap (λ (es : List Opening). added old.world.faults (world_faults es)) s.entries_are ∙ ap (λ (k : Keeping). added old.world.faults ((0 + (if k.well then 0 else 1)) + 0)) s.stored.keeping_is

  lacks : (lacks_memory r ≡ false) × (is_lack_after numbers.feeds out it.back ≡ false)
  lacks = neither (lacks_memory r) (is_lack_after numbers.feeds out it.back) q.enough

  saved : IsSaved r it.kept
  saved =
      let sound = is_sound (Some r) it.kept in
      let (back, still, recorded) = s.stored.reported r refl in
      record {
        closed = closed_so r.writer.end s.stored.live s.stored.live_now old.world it.middle new.world r refl recorded.writer.cause s.stored.unused outputs_are (outputs_stay sound out it.middle new.world it.back it.reads) q.world q.within lacks.0;
        well = well_so it.kept sound out old.world it.middle new.world it.back it.reads world_is q.world;
        enough = lacks.0;
        limited = q.within;
      }

  tells_sums : TellsSums numbers.feeds out it.middle old new
  tells_sums =
      let sound_is : is_sound (Some r) it.kept ≡ true = both (writer_closed r.writer.end) it.kept (ap writer_closed saved.closed) saved.well in
      let (b, back_is, name) = there_back (is_sound (Some r) it.kept) out it.middle new.world it.back it.reads sound_is in
      let unfailed : back_ending numbers.feeds out b.reading ≡ failing → ⊥ =
      λ fails. q.world (failed_rose out old.world it.middle new.world (world_faults it.written.entries) (input_faults it.written.entries) name.entries b.failed it.written.counts.world it.written.counts.inputs name.name (name.sure numbers.feeds fails)) in
      let (sums, sums_are) = summed numbers.feeds out b.reading unfailed (sym (ap (halts_after numbers.feeds out) back_is) ∙ q.halts) (sym (ap (is_lack_after numbers.feeds out) back_is) ∙ lacks.1) in
      let taken : Takes old.out new.out (sums_line numbers.feeds sums) =
      subst (λ (x : Reading Sums ReadingRefused). Takes old.out new.out (text_of (back_ending numbers.feeds out x))) sums_are (subst (λ (x : Option Back). Takes old.out new.out (text_after numbers.feeds out x)) back_is it.printed) in
      record { back = b; name = name; sums = sums; summed = sums_are; line = all_taken old.out new.out (sums_line numbers.feeds sums) taken q.printing }

  module _ (told : Told) (allowed : OptionsAllowed options) (utf8 : IsUtf8 options.file.profile) (range : AreInRange numbers) (lossless : options.lossless ≡ true) (here : old.world.told ≡ Some told) (read : FeedsAreRead) where
    equal : tells_sums.sums ≡ sums_of (all_made numbers)
    equal =
        let live = s.stored.live in
        let live_now = s.stored.live_now in
        let (back, still, recorded) = s.stored.reported r refl in
        let left = it.written.leaves told here in
        let file = file_of options.file [] recorded.history in
        let readable : AreReadable options.file = record { profile = utf8; short = omega (arith, allowed.short); size = allowed.size } in
        let adds = (closed_file options (sides (sources_of numbers) live) (sides back live_now) r recorded saved.closed).1 in
        let held : live_now.held ≡ Some file = adds [] (s.stored.empty told here) in
        let names : left.0.names out ≡ Some file = subst (λ (x : Bool). NameIsPlaced file x (told.names out) (left.0.names out)) saved.well (s.stored.placed told left.0 file here left.1 held) in
        let reads : ReadsAs file recorded.history = (recordings_are_read_back options (sides (sources_of numbers) live) (sides back live_now) r readable recorded saved.closed).0 in
        let (before, now, begins, all_sums) = summed_of out file it.middle left.0 tells_sums.name.entries tells_sums.back.reading tells_sums.sums left.1 names tells_sums.name.reading tells_sums.summed in
        let same : all_sums.tops ≡ reads.tops = (readings_halt_once file all_sums.tops reads.tops (at_end all_sums.end) (at_end reads.end) (all_sums.halts.halts file begins) reads.halts).0 in
        let scan : Scan reads.tops all_sums.messages = subst (λ (ts : List Top). Scan ts all_sums.messages) same all_sums.scan in
        all_sums.sums_are ∙ same_read options numbers back live live_now r recorded lossless saved.closed saved.enough saved.limited still range read all_sums.messages (reads.messages_are all_sums.messages scan)

    told_of : TellsAll old.out new.out (sums_line numbers.feeds (sums_of (all_made numbers)))
    told_of = subst (λ (x : Sums). TellsAll old.out new.out (sums_line numbers.feeds x)) equal tells_sums.line

pub generated_sums_are_told : FeedsAreRead → GeneratedSumsAreTold
generated_sums_are_told read options numbers out old new None status told allowed utf8 range lossless it done here =
    let none = reported numbers.feeds out old new None it.back (quiet options numbers out old new None status it done) in
    absurd (let apart = none.1 in cc)
generated_sums_are_told read options numbers out old new (Some r) status told allowed utf8 range lossless it done here =
    told_of options numbers out old new r status it (quiet options numbers out old new (Some r) status it done)
    (stored_there options (sources_of numbers) out old.world it.middle it.written.entries r it.kept it.written.writing it.written.opened) told allowed utf8 range lossless here read
