-- What a recording without losses takes of feeds that are read to their Data End, where nothing stood in its way.
use Rattle.std.proofs.Common.{◌≡◌, ℕ, zero, suc, ◌+◌, ◌<◌, ◌≤◌, ◌||◌, Bool, true, false, List, [], ◌∷◌, length, map, Some, refl, sym, ap, subst, inl, inr, ◌∙◌, arith}
use Rattle.std.specs.List.{list_any, AllZip}
use Rattle.std.proofs.lemmas.Bool.{both_ways, or_left, or_right}
use Rattle.std.proofs.lemmas.Option.{same_Some}
use Rattle.mcap_io.specs.Outside.{SourceState, LiveState}
use Rattle.rec_data.specs.declared.owned.Rec.{Rec}
use Rattle.mcap_model.specs.declared.ends.End.{End}
use Rattle.mcap_model.specs.declared.ends.End.TheVariants as ends
use Rattle.mcap_model.specs.declared.ends.Stop.{Stop}
use Rattle.mcap_model.specs.Places.{At, Has, Each}
use Rattle.mcap_model.specs.Tops.{Top, flat}
use Rattle.mcap_model.specs.Fields.{MessageFields, IsMessage}
use Rattle.mcap_model.specs.History.{message_of}
use Rattle.mcap_model.specs.Kept.{reading_limits, at_end, grammar, compressed, beyond, Halts}
use Rattle.mcap_model.proofs.Places.{at_none, at_one}
use Rattle.mcap_model.proofs.Lists.{pairs_at}
use Rattle.mcap_model.proofs.Maps.{message_once}
use Rattle.mcap_model.proofs.Halting.{readings_halt_once}
use Rattle.mcap_model.specs.declared.refusals.ReadingRefused.{ReadingRefused}
use Rattle.mcap_model.specs.declared.refusals.ReadingRefused.TheVariants as refusals
use Rattle.feed_lane.specs.declared.report.Accepted.{Accepted}
use Rattle.feed_lane.specs.declared.report.FeedReport.{FeedReport}
use Rattle.feed_lane.specs.declared.report.FeedEnd.{FeedEnd}
use Rattle.feed_lane.specs.declared.report.FeedEnd.TheVariants as feed_ends
use Rattle.feed_lane.specs.declared.report.Refused.{Refused}
use Rattle.record_core.specs.declared.answers.CallRefused.{CallRefused}
use Rattle.record_core.specs.declared.answers.CallRefused.TheVariants as refusing
use Rattle.feed_lane.specs.Causes.{is_over, is_memory}
use Rattle.feed_lane.specs.Lanes.{messages, LastFindsEnd, CauseFits}
use Rattle.feed_lane.specs.Feeds.{FeedEnds, TakesMessages}
use Rattle.mcap_model.specs.declared.options.RecordOptions.{RecordOptions}
use Rattle.recorder.specs.declared.report.Report.{Report}
use Rattle.recorder.specs.Assembled.{LanePartStands}
use Rattle.recorder.specs.Recorded.{FeedRecorded, lane_of, sides, Recorded}
use Rattle.recorder.specs.Laws.{RefusesNoneAsFull}
use Rattle.mcap_model.proofs.Flat.{at_mapped}
use Rattle.recorder.proofs.OneHistory.{StandsAs, Says, lane_says}
use Rattle.recorder.proofs.Unfull.{lossless_refuses_none_as_full}
use Rattle.recorder.specs.Findings.{is_limit, is_memory_end, is_memory_writer, passes_limit, lacks_memory}

-- ---- what a report names

any_at : {X : Type 0} (p : X → Bool) (xs : List X) (k : ℕ) (x : X) → At xs k x → p x ≡ true → list_any p xs ≡ true
any_at p [] k x at is = absurd (at_none k x at)
any_at p (y ∷ xs) zero x at is = or_left (p y) (list_any p xs) (ap p (same_Some y x at) ∙ is)
any_at p (y ∷ xs) (suc k) x at is = or_right (p y) (list_any p xs) (any_at p xs k x at is)

feed_lacks : (r : Report) (n : ℕ) (f : FeedReport) → At r.feeds.items n f → f.end ≡ feed_ends.Refused refusals.Memory → lacks_memory r ≡ true
feed_lacks r n f at is =
    or_right (is_memory_writer r.writer.end) _ (any_at (λ (g : FeedReport). is_memory_end g.end || list_any (λ (x : Refused). is_memory x.cause) g.refused.items) r.feeds.items n f at
    (or_left (is_memory_end f.end) _ (ap is_memory_end is)))

message_lacks : (r : Report) (n : ℕ) (f : FeedReport) (k : ℕ) (x : Refused) → At r.feeds.items n f → At f.refused.items k x → is_memory x.cause ≡ true → lacks_memory r ≡ true
message_lacks r n f k x at_f at is =
    or_right (is_memory_writer r.writer.end) _ (any_at (λ (g : FeedReport). is_memory_end g.end || list_any (λ (y : Refused). is_memory y.cause) g.refused.items) r.feeds.items n f at_f
    (or_right (is_memory_end f.end) _ (any_at (λ (y : Refused). is_memory y.cause) f.refused.items k x at is)))

message_passes : (r : Report) (n : ℕ) (f : FeedReport) (k : ℕ) (x : Refused) → At r.feeds.items n f → At f.refused.items k x → is_over x.cause ≡ true → passes_limit r ≡ true
message_passes r n f k x at_f at is =
    or_right (is_limit r.writer.end) _ (any_at (λ (g : FeedReport). list_any (λ (y : Refused). is_over y.cause) g.refused.items) r.feeds.items n f at_f
    (any_at (λ (y : Refused). is_over y.cause) f.refused.items k x at is))

none_there : (xs : List Refused) → ((k : ℕ) (x : Refused) → At xs k x → ⊥) → xs ≡ []
none_there [] none = refl
none_there (x ∷ xs) none = absurd (none 0 x refl)

-- ---- lists in step

map_long : {X Y : Type 0} (g : X → Y) (xs : List X) → length (map g xs) ≡ length xs
map_long g [] = refl
map_long g (x ∷ xs) = ap suc (map_long g xs)

-- members that rise from a number on, and are each of the next ones, stand beside those of a list
pub pairs_up : {Y : Type 0} (R : Accepted → Y → Type 0) (xs : List Accepted) (ys : List Y) (from : ℕ) → ((i j : ℕ) (a b : Accepted) → i < j → At xs i a → At xs j b → a.index < b.index)
    → Each (λ a. (from ≤ a.index) × (a.index < from + length ys)) xs → ((n : ℕ) → from ≤ n → n < from + length ys → (a : Accepted) × Has xs a × (a.index ≡ n))
    → ((i k : ℕ) (a : Accepted) (y : Y) → At xs i a → At ys k y → a.index ≡ from + k → R a y) → AllZip R xs ys
pairs_up R [] [] from rise within all fits = tt
pairs_up R [] (y ∷ ys) from rise within all fits = let first = all from (omega arith) (omega arith) in let has = first.1 in absurd (at_none has.0 first.0 has.1)
pairs_up R (x ∷ xs) [] from rise within all fits = let first = within 0 x refl in absurd (omega (arith, first.0, first.1))
pairs_up R (x ∷ xs) (y ∷ ys) from rise within all fits =
    let found = all from (omega arith) (omega arith) in
    let has = found.1 in
    let begins = within 0 x refl in
    let first : x.index ≡ from = by has.0 found.0 has.1 found.2 in (
      fits 0 0 x y refl refl (omega (arith, first)),
      pairs_up R xs ys (from + 1) (λ i j a b less at other. rise (suc i) (suc j) a b (omega (arith, less)) at other)
          (λ i a at. let later = rise 0 (suc i) x a (omega arith) refl at in let in_all = within (suc i) a at in (omega (arith, later, first), omega (arith, in_all.1)))
          (λ n least most. let one = all n (omega (arith, least)) (omega (arith, most)) in let there = one.1 in behind n there.0 one.0 there.1 one.2 (omega (arith, least, first)))
          (λ i k a z at there is. fits (suc i) (suc k) a z at there (omega (arith, is))),
    )
  where
    by : (n : ℕ) (a : Accepted) → At (x ∷ xs) n a → a.index ≡ from → x.index ≡ from
    by zero a at is = ap (λ (b : Accepted). b.index) (same_Some x a at) ∙ is
    by (suc n) a at is = let later = rise 0 (suc n) x a (omega arith) refl at in let least = within 0 x refl in absurd (omega (arith, later, is, least.0))

    behind : (n k : ℕ) (a : Accepted) → At (x ∷ xs) k a → a.index ≡ n → x.index < n → (b : Accepted) × Has xs b × (b.index ≡ n)
    behind n zero a at is less = absurd (let same = ap (λ (b : Accepted). b.index) (same_Some x a at) in omega (arith, same, is, less))
    behind n (suc k) a at is less = (a, (k, at), is)

-- ---- a feed

-- the message stands at the place, on some channel
abbrev pub IsPlaced : List Rec → Accepted → MessageFields → Type 0
IsPlaced history a m = (channel : ℕ) × At history a.place (message_of channel m)

module _ (options : RecordOptions) (sources back : List SourceState) (live live_now : LiveState) (r : Report) (it : Recorded options (sides sources live) (sides back live_now) r)
    (lossless : options.lossless ≡ true) (closed : r.writer.end ≡ ends.Closed) (enough : lacks_memory r ≡ false) (limited : passes_limit r ≡ false) where
  module _ (n : ℕ) (f : FeedRecorded) (at : At it.feeds n f) where
    report_at : At r.feeds.items n f.feed
    report_at = subst (λ (l : List FeedReport). At l n f.feed) (sym it.are.reports_are) (at_mapped (λ (x : FeedRecorded). x.feed) it.feeds n f at)

    stands : LanePartStands options.limit it.history it.assembled.swaps r.writer.end (lane_of f)
    stands = it.assembled.stand n (lane_of f) (at_mapped lane_of it.feeds n f at)

    -- the intake that was found had no end, since the recording's is that it was closed
    stop_not : (stop : Stop) → ends.Stopped stop ≡ ends.Closed → ⊥
    stop_not stop same = absurd cc

    ended_not : (handled index place : ℕ) (end : End) → LastFindsEnd handled f.pass index place end → ⊥
    ended_not handled index place ends.Closed e = (stands.shown.found e.found e.shown).unclosed e.ended
    ended_not handled index place (ends.Stopped stop) e = stop_not stop ((stands.shown.found e.found e.shown).same (ends.Stopped stop) e.ended ∙ closed)

    never_full : RefusesNoneAsFull f.feed
    never_full = lossless_refuses_none_as_full options (sides sources live) (sides back live_now) r it lossless n f.feed report_at

    over_not : (k : ℕ) (x : Refused) → At f.feed.refused.items k x → is_over x.cause ≡ true → ⊥
    over_not k x there is = both_ways (passes_limit r) limited (message_passes r n f.feed k x report_at there is)

    refused_not : (k index : ℕ) (cause : CallRefused) → At f.feed.refused.items k (record { index = index; cause = cause }) → CauseFits (flat f.reports.tops) f.reports.handled f.pass index cause → ⊥
    refused_not k index (refusing.Full held from to) there fits = never_full k _ there held from to refl
    refused_not k index (refusing.TooLarge len) there fits = over_not k _ there refl
    refused_not k index (refusing.Closed place) there fits = ended_not f.reports.handled index place ends.Closed fits
    refused_not k index (refusing.Stopped place stop) there fits = ended_not f.reports.handled index place (ends.Stopped stop) fits
    refused_not k index refusing.TooManySchemas there fits = over_not k _ there refl
    refused_not k index refusing.TooManyChannels there fits = over_not k _ there refl
    refused_not k index (refusing.TooManyRecords count) there fits = over_not k _ there refl
    refused_not k index refusing.UnknownChannel there fits = fits
    refused_not k index refusing.Memory there fits = both_ways (lacks_memory r) enough (message_lacks r n f.feed k _ report_at there refl)

    none_at_all : (k : ℕ) (x : Refused) → At f.feed.refused.items k x → ⊥
    none_at_all k x there = refused_not k x.index x.cause there (f.reports.fits.refuses k x there)

    pub none_refused : f.feed.refused.items ≡ []
    none_refused = none_there f.feed.refused.items none_at_all

    -- its bytes, which are read to their Data End; it didn't fail
    module _ (bytes : List ℕ) (tops : List Top) (end : ℕ) (halts : Halts reading_limits bytes tops (at_end end)) (here : f.before.left ≡ Some bytes) (unused : f.before.faults ≡ 0) (still : f.now.faults ≡ 0) where
      refused_none : (why : ReadingRefused) → f.feed.end ≡ feed_ends.Refused why → FeedEnds f.before f.now f.reports.tops (feed_ends.Refused why) → ⊥
      refused_none (refusals.Fault faults) same came = let rises = came.rises in omega (arith, rises.once, unused, still)
      refused_none (refusals.Grammar m rule) same came = (readings_halt_once bytes f.reports.tops tops (grammar m rule) (at_end end) (came.halts bytes here) halts).1
      refused_none (refusals.Compressed m name) same came = let other = (readings_halt_once bytes f.reports.tops tops (compressed m name) (at_end end) (came.halts bytes here) halts).1 in cc
      refused_none (refusals.Limit m) same came = let other = (readings_halt_once bytes f.reports.tops tops (beyond m) (at_end end) (came.halts bytes here) halts).1 in cc
      refused_none refusals.Memory same came = both_ways (lacks_memory r) enough (feed_lacks r n f.feed report_at same)

      done : (e : FeedEnd) → f.feed.end ≡ e → FeedEnds f.before f.now f.reports.tops e → TakesMessages f.reports.tops f.reports.handled f.feed.passed f.feed.refused.items e
          → (f.reports.tops ≡ tops) × (f.reports.handled ≡ length (messages (flat f.reports.tops)))
      done feed_ends.Done same came takes = ((readings_halt_once bytes f.reports.tops tops (at_end came.0) (at_end end) (came.1.halts bytes here) halts).0, takes.0)
      done (feed_ends.Refused why) same came takes = absurd (refused_none why same came)
      done feed_ends.Ended same came takes = absurd (let has = takes.1 in none_at_all has.0 takes.0 has.1)

      came_so : (f.reports.tops ≡ tops) × (f.reports.handled ≡ length (messages (flat f.reports.tops)))
      came_so = done f.feed.end refl f.reports.ends f.reports.takes

      -- the messages of its records, each of which shows one of these
      module _ (ms : List MessageFields) (top_of : MessageFields → Top) (shows : (k : ℕ) (m : MessageFields) → At ms k m → IsMessage (top_of m) 1 m) (are : messages (flat tops) ≡ map top_of ms) where
        tops_are : messages (flat f.reports.tops) ≡ map top_of ms
        tops_are = ap (λ (ts : List Top). messages (flat ts)) came_so.0 ∙ are

        many : f.reports.handled ≡ length ms
        many = came_so.1 ∙ ap length tops_are ∙ map_long top_of ms

        says : Says (flat f.reports.tops) (lane_of f).lists it.history
        says = lane_says options.limit it.history it.assembled.swaps r.writer.end (lane_of f) stands

        accepted_all : (k : ℕ) → 0 ≤ k → k < 0 + length ms → (a : Accepted) × Has f.feed.accepted.items a × (a.index ≡ k)
        accepted_all k least most = elim (f.reports.fits.listed k (omega (arith, most, many))) [
          | inl found ↦ found
          | inr (x, has, is) ↦ absurd (none_at_all has.0 x has.1)
        ]

        placed_as : (i k : ℕ) (a : Accepted) (m : MessageFields) → At f.feed.accepted.items i a → At ms k m → a.index ≡ 0 + k → IsPlaced it.history a m
        placed_as i k a m at_a at_m is =
            let stood : StandsAs (flat f.reports.tops) f.feed.declared.items it.history a = says.accepts i a at_a in
            let index : a.index ≡ k = omega (arith, is) in
            let there : At (map top_of ms) k stood.top = subst (λ (j : ℕ). At (map top_of ms) j stood.top) index (subst (λ (l : List Top). At l a.index stood.top) tops_are stood.at) in
            let top : stood.top ≡ top_of m = at_one (map top_of ms) k stood.top (top_of m) there (at_mapped top_of ms k m at_m) in
            let same : stood.message ≡ m = (message_once (top_of m) stood.source 1 stood.message m (subst (λ (t : Top). IsMessage t stood.source stood.message) top stood.is) (shows k m at_m)).1 in
            let by = stood.by in
            (by.channel, subst (λ (x : MessageFields). At it.history a.place (message_of by.channel x)) same stood.there)

        pub all_placed : AllZip (IsPlaced it.history) f.feed.accepted.items ms
        all_placed =
            pairs_up (IsPlaced it.history) f.feed.accepted.items ms 0
            (λ i j a b less at_a at_b. (pairs_at (λ (x y : Accepted). (x.index < y.index) × (x.place < y.place)) f.feed.accepted.items f.reports.fits.accepted_rise i j a b less at_a at_b).0)
            (λ i a at_a. let below = f.reports.fits.accepted_below i a at_a in (omega arith, omega (arith, below, many)))
            accepted_all placed_as
