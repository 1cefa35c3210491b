-- What the bytes of the feeds and the status say of their recording.
use Rattle.std.proofs.Common.{◌≡◌, ◌⊎◌, ℕ, zero, suc, length, map, ◌^◌, ◌<◌, ◌≤◌, subst, Bool, true, false, ◌||◌, if◌then◌else◌, List, [], ◌∷◌, Some, refl, sym, ap, inl, inr, ◌∙◌, arith}
use Rattle.std.specs.List.{list_any, AllZip}
use Rattle.std.proofs.lemmas.Option.{same_Some}
use Rattle.std.proofs.lemmas.Bool.{both_ways, false_from_ne_true, or_right}
use Rattle.mcap_io.specs.Outside.{Rose, added, WorldState, SourceState, LiveState, Told, TellsName}
use Rattle.mcap_model.specs.declared.ends.End.{End}
use Rattle.mcap_model.specs.declared.ends.End.TheVariants as ends
use Rattle.mcap_model.specs.declared.ends.Stop.{Stop}
use Rattle.mcap_model.specs.declared.ends.Stop.TheVariants as stops
use Rattle.mcap_model.specs.Places.{At, Each}
use Rattle.mcap_model.proofs.Places.{at_none}
use Rattle.mcap_model.specs.Tops.{Top, flat}
use Rattle.mcap_model.specs.Kept.{Halt, reading_limits, at_end, grammar as breaks, compressed as names, beyond, Halts}
use Rattle.mcap_model.specs.Readings.{SameHalt}
use Rattle.mcap_model.proofs.Halting.{readings_halt_once}
use Rattle.chunk_writer.specs.Stops.{Cause as WriterCause}
use Rattle.feed_lane.specs.declared.report.FeedReport.{FeedReport}
use Rattle.mcap_model.specs.declared.refusals.ReadingRefused.{ReadingRefused}
use Rattle.mcap_model.specs.declared.refusals.ReadingRefused.TheVariants as refusals
use Rattle.feed_lane.specs.declared.report.FeedEnd.{FeedEnd}
use Rattle.feed_lane.specs.declared.report.FeedEnd.TheVariants as feed_ends
use Rattle.feed_lane.specs.declared.report.Refused.{Refused}
use Rattle.record_core.specs.declared.answers.CallRefused.{CallRefused}
use Rattle.record_core.specs.declared.answers.CallRefused.TheVariants as refusing
use Rattle.feed_lane.specs.Lanes.{LastFindsEnd as IntakeEnds, CauseFits}
use Rattle.feed_lane.specs.Feeds.{FeedEnds, TakesMessages}
use Rattle.mcap_model.specs.declared.options.RecordOptions.{RecordOptions}
use Rattle.recorder.specs.declared.report.Report.{Report}
use Rattle.buffer_swap.specs.Shown.{ShownBy}
use Rattle.recorder.specs.Recorded.{FeedRecorded, Recorded, lane_of, sides, answer_of}
use Rattle.recorder.specs.Laws.{RefusesNoneAsFull}
use Rattle.command_base.specs.declared.statuses.Status.{Status}
use Rattle.command_base.specs.declared.statuses.Status.TheVariants as statuses
use Rattle.command_base.specs.Texts.{is_status, halt_status}
use Rattle.command_base.specs.Ran.{input_faults, output_faults}
use Rattle.recorder.proofs.Unfull.{lossless_refuses_none_as_full}
use Rattle.feed_lane.specs.Causes.{is_over, is_memory, goes_on}
use Rattle.recorder.specs.Findings.{is_limit, is_memory_end, is_memory_writer, passes_limit, lacks_memory}
use Rattle.command_record.specs.Record.{FeedKept, feed_entry, back_sources, worst, ends_status, IsAllRecorded, RecordsAll, FeedHalts, refusal_status, end_status, is_full}
use Rattle.command_base.proofs.SomeInputs.{zip_long}

-- ---- places

pub at_map : {X Y : Type 0} (f : X → Y) (xs : List X) (n : ℕ) (y : Y) → At (map f xs) n y → (x : X) × At xs n x × (y ≡ f x)
at_map f [] n y at = absurd (at_none n y at)
at_map f (x ∷ xs) zero y at = (x, refl, sym (same_Some (f x) y at))
at_map f (x ∷ xs) (suc n) y at = at_map f xs n y at

pub map_at : {X Y : Type 0} (f : X → Y) (xs : List X) (n : ℕ) (x : X) → At xs n x → At (map f xs) n (f x)
map_at f [] n x at = absurd (at_none n x at)
map_at f (y ∷ xs) zero x at = ap (λ z. Some (f z)) (same_Some y x at)
map_at f (y ∷ xs) (suc n) x at = map_at f xs n x at

zip_at : {X Y : Type 0} (R : X → Y → Type 0) (xs : List X) (ys : List Y) (n : ℕ) (x : X) (y : Y) → AllZip R xs ys → At xs n x → At ys n y → R x y
zip_at R [] [] n x y all at_x at_y = absurd (at_none n x at_x)
zip_at R [] (b ∷ ys) n x y all at_x at_y = absurd all
zip_at R (a ∷ xs) [] n x y all at_x at_y = absurd all
zip_at R (a ∷ xs) (b ∷ ys) zero x y all at_x at_y = subst (λ z. R z y) (same_Some a x at_x) (subst (R a) (same_Some b y at_y) all.0)
zip_at R (a ∷ xs) (b ∷ ys) (suc n) x y all at_x at_y = zip_at R xs ys n x y all.1 at_x at_y

zip_left : {X Y : Type 0} (R : X → Y → Type 0) (xs : List X) (ys : List Y) (n : ℕ) (y : Y) → AllZip R xs ys → At ys n y → (x : X) × At xs n x
zip_left R [] [] n y all at = absurd (at_none n y at)
zip_left R [] (b ∷ ys) n y all at = absurd all
zip_left R (a ∷ xs) [] n y all at = absurd all
zip_left R (a ∷ xs) (b ∷ ys) zero y all at = (a, refl)
zip_left R (a ∷ xs) (b ∷ ys) (suc n) y all at = zip_left R xs ys n y all.1 at

pub map_long : {X Y : Type 0} (f : X → Y) (xs : List X) → length (map f xs) ≡ length xs
map_long f [] = refl
map_long f (x ∷ xs) = ap suc (map_long f xs)

same_lists : (xs ys : List Status) → length xs ≡ length ys → ((n : ℕ) (x y : Status) → At xs n x → At ys n y → x ≡ y) → xs ≡ ys
same_lists [] [] long each = refl
same_lists [] (y ∷ ys) long each = absurd (omega (arith, long))
same_lists (x ∷ xs) [] long each = absurd (omega (arith, long))
same_lists (x ∷ xs) (y ∷ ys) long each = ap (λ (z : Status). z ∷ xs) (each 0 x y refl refl) ∙ ap (λ (l : List Status). y ∷ l) (same_lists xs ys (omega (arith, long)) (λ n a b at_a at_b. each (suc n) a b at_a at_b))

-- ---- what a report names

or_left : (a b : Bool) → a ≡ true → (a || b) ≡ true
or_left true b is = refl
or_left false b is = absurd cc

pub any_at : {X : Type 0} (p : X → Bool) (xs : List X) (k : ℕ) (x : X) → At xs k x → p x ≡ true → list_any p xs ≡ true
any_at p [] k x at is = absurd (at_none k x at)
any_at p (y ∷ xs) zero x at is = or_left (p y) (list_any p xs) (ap p (same_Some y x at) ∙ is)
any_at p (y ∷ xs) (suc k) x at is = or_right (p y) (list_any p xs) (any_at p xs k x at is)

none_at : {X : Type 0} (p : X → Bool) (xs : List X) (k : ℕ) (x : X) → list_any p xs ≡ false → At xs k x → p x ≡ false
none_at p xs k x none at = false_from_ne_true (p x) (λ is. both_ways (list_any p xs) none (any_at p xs k x at is))

feed_lacks : (r : Report) (n : ℕ) (f : FeedReport) → At r.feeds.items n f → f.end ≡ feed_ends.Refused refusals.Memory → lacks_memory r ≡ true
feed_lacks r n f at is =
    or_right (is_memory_writer r.writer.end) _ (any_at (λ (g : FeedReport). is_memory_end g.end || list_any (λ (x : Refused). is_memory x.cause) g.refused.items) r.feeds.items n f at
    (or_left (is_memory_end f.end) _ (ap is_memory_end is)))

message_lacks : (r : Report) (n : ℕ) (f : FeedReport) (k : ℕ) (x : Refused) → At r.feeds.items n f → At f.refused.items k x → is_memory x.cause ≡ true → lacks_memory r ≡ true
message_lacks r n f k x at_f at is =
    or_right (is_memory_writer r.writer.end) _ (any_at (λ (g : FeedReport). is_memory_end g.end || list_any (λ (y : Refused). is_memory y.cause) g.refused.items) r.feeds.items n f at_f
    (or_right (is_memory_end f.end) _ (any_at (λ (y : Refused). is_memory y.cause) f.refused.items k x at is)))

message_passes : (r : Report) (n : ℕ) (f : FeedReport) (k : ℕ) (x : Refused) → At r.feeds.items n f → At f.refused.items k x → is_over x.cause ≡ true → passes_limit r ≡ true
message_passes r n f k x at_f at is =
    or_right (is_limit r.writer.end) _ (any_at (λ (g : FeedReport). list_any (λ (y : Refused). is_over y.cause) g.refused.items) r.feeds.items n f at_f
    (any_at (λ (y : Refused). is_over y.cause) f.refused.items k x at is))

-- ---- full buffers

full_is : (c : CallRefused) → is_full c ≡ true → (held : ℕ) × (from : ℕ) × (to : ℕ) × (c ≡ refusing.Full held from to)
full_is (refusing.Full held from to) is = (held, from, to, refl)
full_is (refusing.TooLarge len) is = absurd cc
full_is (refusing.Closed at) is = absurd cc
full_is (refusing.Stopped at stop) is = absurd cc
full_is refusing.UnknownChannel is = absurd cc
full_is (refusing.TooManyRecords count) is = absurd cc
full_is refusing.TooManySchemas is = absurd cc
full_is refusing.TooManyChannels is = absurd cc
full_is refusing.Memory is = absurd cc

-- the lane goes on behind one
full_goes_on : (c : CallRefused) → is_full c ≡ true → goes_on c ≡ true
full_goes_on (refusing.Full held from to) is = refl
full_goes_on (refusing.TooLarge len) is = absurd cc
full_goes_on (refusing.Closed at) is = absurd cc
full_goes_on (refusing.Stopped at stop) is = absurd cc
full_goes_on refusing.UnknownChannel is = absurd cc
full_goes_on (refusing.TooManyRecords count) is = absurd cc
full_goes_on refusing.TooManySchemas is = absurd cc
full_goes_on refusing.TooManyChannels is = absurd cc
full_goes_on refusing.Memory is = absurd cc

-- ---- the counts

-- a first fault shows in the count of what was kept
first_rose : (total now faults : ℕ) → total < 2 ^ 64 → now ≡ added total faults → 1 ≤ faults → Rose total now
first_rose total now faults fits is some = omega (arith, fits, is, some)

-- that of a source is among those of all
fault_counts : (ks : List FeedKept) (n : ℕ) (s : SourceState) → At (back_sources ks) n s → 1 ≤ s.faults → 1 ≤ input_faults (map feed_entry ks)
fault_counts [] n s at some = absurd (at_none n s at)
fault_counts (k ∷ ks) zero s at some = let same = ap (λ (x : SourceState). x.faults) (same_Some k.back s at) in omega (arith, same, some)
fault_counts (k ∷ ks) (suc n) s at some = let more = fault_counts ks n s at some in omega (arith, more)

pub sources_write_nothing : (ks : List FeedKept) → output_faults (map feed_entry ks) ≡ 0
sources_write_nothing [] = refl
sources_write_nothing (k ∷ ks) = let more = sources_write_nothing ks in omega (arith, more)

-- what stands in the way of recorded feeds: a count rose, memory lacked, or a limit would be passed
abbrev Hindered : WorldState → WorldState → Report → Type 0
Hindered old new r = Rose old.input_faults new.input_faults ⊎ (Rose old.output_faults new.output_faults ⊎ ((lacks_memory r ≡ true) ⊎ (passes_limit r ≡ true)))

-- The sources of feeds were recorded into a store, and both were taken back.
pub record Read (options : RecordOptions) (feeds : List (List ℕ)) (old new : WorldState) (r : Report) : Type 0 where
  pub given : List SourceState
  pub kept_feeds : List FeedKept
  pub live : LiveState
  pub live_now : LiveState
  pub recorded : Recorded options (sides given live) (sides (back_sources kept_feeds) live_now) r
  pub tells : AllZip (TellsName old) feeds given
  pub unused : Each (λ (s : SourceState). s.faults ≡ 0) given
  pub inputs : new.input_faults ≡ added old.input_faults (input_faults (map feed_entry kept_feeds))
  pub outputs : new.output_faults ≡ added old.output_faults live_now.faults

module _ (options : RecordOptions) (feeds : List (List ℕ)) (old new : WorldState) (r : Report) (is : Read options feeds old new r) (inputs_fit : old.input_faults < 2 ^ 64) (outputs_fit : old.output_faults < 2 ^ 64) where
  -- a writer that stopped had a reason
  stopped_why : (stop : Stop) → r.writer.end ≡ ends.Stopped stop → Hindered old new r
  stopped_why (stops.Fault faults) stopped =
      let why = subst (λ (e : End). WriterCause {X = Unit} is.live.faults is.live_now.faults (answer_of e)) stopped is.recorded.writer.cause in
      inr (inl (first_rose old.output_faults new.output_faults is.live_now.faults outputs_fit is.outputs (omega (arith, why.0.once))))
  stopped_why (stops.Limit blocks bytes) stopped = inr (inr (inr (or_left (is_limit r.writer.end) _ (ap is_limit stopped))))
  stopped_why stops.Memory stopped = inr (inr (inl (or_left (is_memory_writer r.writer.end) _ (ap is_memory_writer stopped))))

  closed_or : (end : End) → r.writer.end ≡ end → (r.writer.end ≡ ends.Closed) ⊎ Hindered old new r
  closed_or ends.Closed same = inl same
  closed_or (ends.Stopped stop) same = inr (stopped_why stop same)

  -- ---- a feed

  module _ (n : ℕ) (f : FeedRecorded) (at : At is.recorded.feeds n f) where
    report_at : At r.feeds.items n f.feed
    report_at = subst (λ (l : List FeedReport). At l n f.feed) (sym is.recorded.are.reports_are) (map_at (λ (x : FeedRecorded). x.feed) is.recorded.feeds n f at)

    before_at : At is.given n f.before
    before_at = subst (λ (l : List SourceState). At l n f.before) (sym is.recorded.are.before_are) (map_at (λ (x : FeedRecorded). x.before) is.recorded.feeds n f at)

    now_at : At (back_sources is.kept_feeds) n f.now
    now_at = subst (λ (l : List SourceState). At l n f.now) (sym is.recorded.are.now_are) (map_at (λ (x : FeedRecorded). x.now) is.recorded.feeds n f at)

    shown : ShownBy is.recorded.history is.recorded.assembled.swaps r.writer.end f.pass
    shown = (is.recorded.assembled.stand n (lane_of f) (map_at lane_of is.recorded.feeds n f at)).shown

    -- an end that a message was refused for is that of the recording, which wasn't closed
    ended_why : (handled index place : ℕ) (end : End) → IntakeEnds handled f.pass index place end → Hindered old new r
    ended_why handled index place ends.Closed e = absurd ((shown.found e.found e.shown).unclosed e.ended)
    ended_why handled index place (ends.Stopped stop) e = stopped_why stop (sym ((shown.found e.found e.shown).same (ends.Stopped stop) e.ended))

    -- why a message was refused
    refused_why : (handled k index : ℕ) (cause : CallRefused) → At f.feed.refused.items k (record { index = index; cause = cause }) → CauseFits (flat f.reports.tops) handled f.pass index cause → (is_full cause ≡ true) ⊎ Hindered old new r
    refused_why handled k index (refusing.Full held from to) there fits = inl refl
    refused_why handled k index (refusing.TooLarge len) there fits = inr (inr (inr (inr (message_passes r n f.feed k _ report_at there refl))))
    refused_why handled k index (refusing.Closed place) there fits = inr (ended_why handled index place ends.Closed fits)
    refused_why handled k index (refusing.Stopped place stop) there fits = inr (ended_why handled index place (ends.Stopped stop) fits)
    refused_why handled k index refusing.TooManySchemas there fits = inr (inr (inr (inr (message_passes r n f.feed k _ report_at there refl))))
    refused_why handled k index refusing.TooManyChannels there fits = inr (inr (inr (inr (message_passes r n f.feed k _ report_at there refl))))
    refused_why handled k index (refusing.TooManyRecords count) there fits = inr (inr (inr (inr (message_passes r n f.feed k _ report_at there refl))))
    refused_why handled k index refusing.UnknownChannel there fits = absurd fits
    refused_why handled k index refusing.Memory there fits = inr (inr (inr (inl (message_lacks r n f.feed k _ report_at there refl))))

    each_refused : (k : ℕ) (x : Refused) → At f.feed.refused.items k x → (is_full x.cause ≡ true) ⊎ Hindered old new r
    each_refused k x there = refused_why f.reports.handled k x.index x.cause there (f.reports.fits.refuses k x there)

    -- what became of the reading of the feed
    end_why : f.feed.end ≡ feed_ends.Ended → Hindered old new r
    end_why ended =
        let last = subst (λ (e : FeedEnd). TakesMessages f.reports.tops f.reports.handled f.feed.passed f.feed.refused.items e) ended f.reports.takes in
        elim (each_refused last.1.0 last.0 last.1.1) [
          | inl full ↦ absurd (both_ways (goes_on last.0.cause) last.3 (full_goes_on last.0.cause full))
          | inr why ↦ why
        ]

    fault_why : (faults : ℕ) → f.feed.end ≡ feed_ends.Refused (refusals.Fault faults) → Hindered old new r
    fault_why faults failed =
        let stood = subst (λ (e : FeedEnd). FeedEnds f.before f.now f.reports.tops e) failed f.reports.ends in
        let some : 1 ≤ f.now.faults = omega (arith, stood.rises.once, is.unused n f.before before_at) in
        inl (first_rose old.input_faults new.input_faults (input_faults (map feed_entry is.kept_feeds)) inputs_fit is.inputs (fault_counts is.kept_feeds n f.now now_at some))

    memory_why : f.feed.end ≡ feed_ends.Refused refusals.Memory → Hindered old new r
    memory_why lacked = inr (inr (inl (feed_lacks r n f.feed report_at lacked)))

    refusal_why : (why : ReadingRefused) → f.feed.end ≡ feed_ends.Refused why → refusal_status why ≡ statuses.Done → Hindered old new r
    refusal_why (refusals.Fault faults) same status = fault_why faults same
    refusal_why (refusals.Grammar m rule) same status = absurd cc
    refusal_why (refusals.Compressed m name) same status = absurd cc
    refusal_why (refusals.Limit m) same status = absurd cc
    refusal_why refusals.Memory same status = memory_why same

    done_or : (end : FeedEnd) → f.feed.end ≡ end → end_status end ≡ statuses.Done → (f.feed.end ≡ feed_ends.Done) ⊎ Hindered old new r
    done_or feed_ends.Done same status = inl same
    done_or (feed_ends.Refused why) same status = inr (refusal_why why same status)
    done_or feed_ends.Ended same status = inr (end_why same)

    -- ---- its bytes decide

    module _ (bytes : List ℕ) (tops : List Top) (halt : Halt) (halts : Halts reading_limits bytes tops halt) (here : f.before.left ≡ Some bytes) where
      same_status : (a b : Halt) → SameHalt a b → halt_status a ≡ halt_status b
      same_status (breaks m rule) (breaks k other) same = refl
      same_status (breaks m rule) (at_end k) same = absurd same
      same_status (breaks m rule) (names k name) same = absurd same
      same_status (breaks m rule) (beyond k) same = absurd same
      same_status (at_end m) (breaks k other) same = absurd same
      same_status (at_end m) (at_end k) same = ap halt_status same
      same_status (at_end m) (names k name) same = ap halt_status same
      same_status (at_end m) (beyond k) same = ap halt_status same
      same_status (names m name) (breaks k other) same = absurd same
      same_status (names m name) (at_end k) same = ap halt_status same
      same_status (names m name) (names k other) same = ap halt_status same
      same_status (names m name) (beyond k) same = ap halt_status same
      same_status (beyond m) (breaks k other) same = absurd same
      same_status (beyond m) (at_end k) same = ap halt_status same
      same_status (beyond m) (names k name) same = ap halt_status same
      same_status (beyond m) (beyond k) same = ap halt_status same

      one_status : (others : List Top) (other : Halt) → Halts reading_limits bytes others other → halt_status other ≡ halt_status halt
      one_status others other found = same_status other halt (readings_halt_once bytes others tops other halt found halts).1

      refusal_decides : (why : ReadingRefused) → f.feed.end ≡ feed_ends.Refused why → FeedEnds f.before f.now f.reports.tops (feed_ends.Refused why) → (refusal_status why ≡ halt_status halt) ⊎ Hindered old new r
      refusal_decides (refusals.Fault faults) same came = inr (fault_why faults same)
      refusal_decides (refusals.Grammar m rule) same came = inl (one_status f.reports.tops (breaks m rule) (came.halts bytes here))
      refusal_decides (refusals.Compressed m name) same came = inl (one_status f.reports.tops (names m name) (came.halts bytes here))
      refusal_decides (refusals.Limit m) same came = inl (one_status f.reports.tops (beyond m) (came.halts bytes here))
      refusal_decides refusals.Memory same came = inr (memory_why same)

      decides : (end : FeedEnd) → f.feed.end ≡ end → FeedEnds f.before f.now f.reports.tops end → (end_status end ≡ halt_status halt) ⊎ Hindered old new r
      decides feed_ends.Done same came = inl (one_status f.reports.tops (at_end came.0) (came.1.halts bytes here))
      decides (feed_ends.Refused why) same came = refusal_decides why same came
      decides feed_ends.Ended same came = inr (end_why same)

      decided_or : (end_status f.feed.end ≡ halt_status halt) ⊎ Hindered old new r
      decided_or = decides f.feed.end refl f.reports.ends

  -- ---- all feeds

  report_of : (n : ℕ) (g : FeedReport) → At r.feeds.items n g → (f : FeedRecorded) × At is.recorded.feeds n f × (g ≡ f.feed)
  report_of n g at = at_map (λ (x : FeedRecorded). x.feed) is.recorded.feeds n g (subst (λ (l : List FeedReport). At l n g) is.recorded.are.reports_are at)

  pub as_many : length r.feeds.items ≡ length feeds
  as_many =
      ap length is.recorded.are.reports_are ∙ map_long (λ (x : FeedRecorded). x.feed) is.recorded.feeds ∙ sym (map_long (λ (x : FeedRecorded). x.before) is.recorded.feeds) ∙ sym (ap length is.recorded.are.before_are)
      ∙ sym (zip_long (TellsName old) feeds is.given is.tells)

  decided_all : (Hindered old new r → ⊥) → (told : Told) (halts : List Halt) → old.told ≡ Some told → AllZip (FeedHalts told) feeds halts → map (λ (g : FeedReport). end_status g.end) r.feeds.items ≡ map halt_status halts
  decided_all free told halts here all =
      same_lists (map (λ (g : FeedReport). end_status g.end) r.feeds.items) (map halt_status halts)
      (map_long (λ (g : FeedReport). end_status g.end) r.feeds.items ∙ as_many ∙ zip_long (FeedHalts told) feeds halts all ∙ sym (map_long halt_status halts))
      (λ n x y at_x at_y.
      let report = at_map (λ (g : FeedReport). end_status g.end) r.feeds.items n x at_x in
      let recorded = report_of n report.0 report.1 in
      let f = recorded.0 in
      let halt = at_map halt_status halts n y at_y in
      let name = zip_left (FeedHalts told) feeds halts n halt.0 all halt.1 in
      let there : FeedHalts told name.0 halt.0 = zip_at (FeedHalts told) feeds halts n name.0 halt.0 all name.1 halt.1 in
      let tells : TellsName old name.0 f.before = zip_at (TellsName old) feeds is.given n name.0 f.before is.tells name.1 (before_at n f recorded.1) in
      let left : f.before.left ≡ Some there.bytes = (tells told here).0 ∙ there.there in
      let same : end_status f.feed.end ≡ halt_status halt.0 = elim (decided_or n f recorded.1 there.bytes there.tops halt.0 there.halts left) [ inl is_same ↦ is_same | inr why ↦ absurd (free why) ] in
      report.2 ∙ ap (λ (g : FeedReport). end_status g.end) recorded.2 ∙ same ∙ sym halt.2)

-- ---- the status

-- nothing stands in the way
free_of : (old new : WorldState) (r : Report) → (Rose old.input_faults new.input_faults → ⊥) → (Rose old.output_faults new.output_faults → ⊥) → lacks_memory r ≡ false → passes_limit r ≡ false → Hindered old new r → ⊥
free_of old new r no_inputs no_outputs enough within why = elim why [
  | inl inputs ↦ no_inputs inputs
  | inr (inl outputs) ↦ no_outputs outputs
  | inr (inr (inl lacks)) ↦ both_ways (lacks_memory r) enough lacks
  | inr (inr (inr passes)) ↦ both_ways (passes_limit r) within passes
]

pub limit_kept : (limited : Bool) (other answer : Status) → answer ≡ (if limited then statuses.Limit else other) → answer ≡ statuses.Done → limited ≡ false
limit_kept true other answer is done = absurd cc
limit_kept false other answer is done = refl

pub unlimited : (limited : Bool) (other answer : Status) → answer ≡ (if limited then statuses.Limit else other) → limited ≡ false → answer ≡ other
unlimited true other answer is none = absurd cc
unlimited false other answer is none = is

pub unlimited_status : (limited : Bool) (other answer : Status) → answer ≡ (if limited then statuses.Limit else other) → answer ≡ statuses.Done → other ≡ statuses.Done
unlimited_status true other answer is done = absurd cc
unlimited_status false other answer is done = sym is ∙ done

abbrev worse : Bool → Bool → Status
worse limits refuses = if limits then statuses.Limit else (if refuses then statuses.Refused else statuses.Done)

neither : (limits refuses : Bool) → worse limits refuses ≡ statuses.Done → (limits ≡ false) × (refuses ≡ false)
neither true refuses is = absurd cc
neither false true is = absurd cc
neither false false is = (refl, refl)

no_refusal : (why : ReadingRefused) → is_status statuses.Limit (refusal_status why) ≡ false → is_status statuses.Refused (refusal_status why) ≡ false → refusal_status why ≡ statuses.Done
no_refusal (refusals.Fault faults) four one = refl
no_refusal (refusals.Grammar n rule) four one = absurd cc
no_refusal (refusals.Compressed n name) four one = absurd cc
no_refusal (refusals.Limit n) four one = absurd cc
no_refusal refusals.Memory four one = refl

no_other : (end : FeedEnd) → is_status statuses.Limit (end_status end) ≡ false → is_status statuses.Refused (end_status end) ≡ false → end_status end ≡ statuses.Done
no_other feed_ends.Done four one = refl
no_other (feed_ends.Refused why) four one = no_refusal why four one
no_other feed_ends.Ended four one = refl

-- where the worst is that all was done, each is
none_worse : (reports : List FeedReport) (n : ℕ) (f : FeedReport) → worst (map (λ (g : FeedReport). end_status g.end) reports) ≡ statuses.Done → At reports n f → end_status f.end ≡ statuses.Done
none_worse reports n f is at =
    let all = map (λ (g : FeedReport). end_status g.end) reports in
    let none = neither (list_any (is_status statuses.Limit) all) (list_any (is_status statuses.Refused) all) is in
    let there = map_at (λ (g : FeedReport). end_status g.end) reports n f at in
    no_other f.end (none_at (is_status statuses.Limit) all n (end_status f.end) none.0 there) (none_at (is_status statuses.Refused) all n (end_status f.end) none.1 there)

-- the bytes decide the ends of the feeds, unless a count rises, memory lacks, or a limit would be passed
pub ends_decided : (options : RecordOptions) (feeds : List (List ℕ)) (old new : WorldState) (r : Report) → Read options feeds old new r → old.input_faults < 2 ^ 64 → old.output_faults < 2 ^ 64
    → (Rose old.input_faults new.input_faults → ⊥) → (Rose old.output_faults new.output_faults → ⊥) → lacks_memory r ≡ false → passes_limit r ≡ false
    → (told : Told) (halts : List Halt) → old.told ≡ Some told → AllZip (FeedHalts told) feeds halts → map (λ (g : FeedReport). end_status g.end) r.feeds.items ≡ map halt_status halts
ends_decided options feeds old new r is inputs_fit outputs_fit no_inputs no_outputs enough within told halts here all =
    decided_all options feeds old new r is inputs_fit outputs_fit (free_of old new r no_inputs no_outputs enough within) told halts here all

-- where all was done memory was enough, and no count rose
pub undone_memory : (answer : Status) → answer ≡ statuses.Memory → answer ≡ statuses.Done → ⊥
undone_memory answer lacks done = cc

pub undone_fault : (answer : Status) → answer ≡ statuses.Fault → answer ≡ statuses.Done → ⊥
undone_fault answer fails done = cc

-- a list without a member is empty
none_there : (xs : List Refused) → ((k : ℕ) (x : Refused) → At xs k x → ⊥) → xs ≡ []
none_there [] none = refl
none_there (x ∷ xs) none = absurd (none 0 x refl)

-- all of the feeds was recorded where no count rose, memory was enough, no limit would be passed, and no end is a trouble
pub all_recorded : (options : RecordOptions) (feeds : List (List ℕ)) (old new : WorldState) (r : Report) → Read options feeds old new r → old.input_faults < 2 ^ 64 → old.output_faults < 2 ^ 64
    → (Rose old.input_faults new.input_faults → ⊥) → (Rose old.output_faults new.output_faults → ⊥) → lacks_memory r ≡ false → passes_limit r ≡ false → ends_status r ≡ statuses.Done → RecordsAll options r
all_recorded options feeds old new r is inputs_fit outputs_fit no_inputs no_outputs enough within none =
    let free = free_of old new r no_inputs no_outputs enough within in
    record {
      each = λ n g at.
          let found = report_of options feeds old new r is inputs_fit outputs_fit n g at in
          let f = found.0 in
          let ended : end_status f.feed.end ≡ statuses.Done = ap (λ (x : FeedReport). end_status x.end) (sym found.2) ∙ none_worse r.feeds.items n g none at in
          let full : Each (λ (x : Refused). is_full x.cause ≡ true) f.feed.refused.items = λ k x there. elim (each_refused options feeds old new r is inputs_fit outputs_fit n f found.1 k x there) [ inl yes_it ↦ yes_it | inr why ↦ absurd (free why) ] in
          let never : options.lossless ≡ true → RefusesNoneAsFull f.feed = λ lossless. subst RefusesNoneAsFull found.2 (lossless_refuses_none_as_full options (sides is.given is.live) (sides (back_sources is.kept_feeds) is.live_now) r is.recorded lossless n g at) in
          let all : IsAllRecorded options.lossless f.feed = record {
            end = elim (done_or options feeds old new r is inputs_fit outputs_fit n f found.1 f.feed.end refl ended) [ inl done ↦ done | inr why ↦ absurd (free why) ];
            only_full = full;
            none_refused = λ lossless. none_there f.feed.refused.items (λ k x there. let (held, from, to, cause) = full_is x.cause (full k x there) in never lossless k x there held from to cause);
          } in
          subst (IsAllRecorded options.lossless) (sym found.2) all;
      closed = elim (closed_or options feeds old new r is inputs_fit outputs_fit r.writer.end refl) [ inl closed ↦ closed | inr why ↦ absurd (free why) ];
    }
