-- What a watcher has written after a call, by what it had written before.
use Rattle.std.proofs.Common.{◌≡◌, ◌⊎◌, ℕ, List, [], ◌∷◌, ◌++◌, length, take, drop, Option, Some, None, Ok, Err, refl, sym, ap, subst, ◌∙◌, inl, inr, append-nil, arith}
use Rattle.std.specs.List.{AllZip}
use Rattle.std.proofs.lemmas.List.{take-append-drop}
use Rattle.std.proofs.lemmas.Option.{same_Some, none-some}
use mathlib.Core.List.{IsPrefix}
use Rattle.mcap_io.specs.Outside.{SinkState, RisesOnce}
use Rattle.mcap_model.specs.declared.ends.End.{End}
use Rattle.mcap_model.specs.declared.replay.Range.{Range}
use Rattle.mcap_model.proofs.Repairs.{zip_parts}
use Rattle.live_entry.specs.declared.entry.Entry.{Entry}
use Rattle.live_entry.specs.Following.{IsStored}
use Rattle.live_directory.specs.declared.front.Added.{Added}
use Rattle.live_directory.specs.declared.front.Front.{Front}
use Rattle.live_directory.specs.Published.{entries_of, end_of}
use Rattle.live_directory.specs.Histories.{published_front, AtLeast}
use Rattle.live_directory.specs.Reading.{ReaderState}
use Rattle.live_directory.specs.ReaderSteps.{Learns, Refreshes}
use Rattle.live_directory.proofs.Beginnings.{prefix_trans, prefix_whole}
use Rattle.live_directory.proofs.Histories.{entries_of-append, end_of_front}
use Rattle.live_watcher.specs.declared.report.WatchEnd.{WatchEnd}
use Rattle.live_watcher.specs.declared.report.WatchEnd.TheVariants as watch_ends
use Rattle.live_watcher.specs.Text.{SealState, undecided, sealed_by, unsealed, FrontsTextOf, WatchTextOf, replays_of, BeginsLine, none_more, of_front, of_end, WatchPartOf, unsealed_line}
use Rattle.live_watcher.specs.WatcherSteps.{IsFrontLineOf, IsEndTextOf, WatchedSince, MayFollow, EndsUnsealed}
use Rattle.live_watcher.specs.Watching.{Written, WatcherState, IsQuiet, IsUntold, TakesSuchText, WritesTo, Watches, HoldsAllSealed}
use Rattle.live_watcher.specs.Putting.{SinkAndView, sink_and_view, IsPartOf, PutsAll, PutsPiece, PutsBytes}
use Rattle.live_watcher.proofs.Fronts.{fronts_lift, line_lift, fronts_more, no_fronts}
use Rattle.live_watcher.proofs.Taking.{takes_more, takes_as, takes_none, takes_bytes, takes_part}

-- ---- pieces

abbrev BegunOf : {X : Type 0} → (X → Option (List ℕ)) → Range → List (Entry X) → List ℕ → SealState → List ℕ → Type 0
BegunOf tells range entries = BeginsLine (replays_of tells range entries) (length entries)

part_begins : {X : Type 0} (tells : X → Option (List ℕ)) (range : Range) (entries : List (Entry X)) (fronts : List ℕ) (ending : SealState) (told part : List ℕ) → FrontsTextOf tells range entries fronts told → BegunOf tells range entries fronts ending part
    → WatchPartOf tells range entries fronts ending (told ++ part)
part_begins tells range entries fronts ending told part f b = record { told = told; part = part; fronts_are = f; begun = b; text_is = refl }

module _ {X : Type 0} (tells : X → Option (List ℕ)) (range : Range) where
  quiet_on : (first old new : Written) → IsQuiet first old → new.sink.faults ≡ old.sink.faults → new.failures ≡ old.failures → IsQuiet first new
  quiet_on first old new q sink view = record { sink = sink ∙ q.sink; view = view ∙ q.view }

  left_as : (entries : List (Entry X)) (first old new : Written) → TakesSuchText (FrontsTextOf tells range entries old.fronts) first.sink.took old.sink.took → new.sink ≡ old.sink → new.fronts ≡ old.fronts
      → TakesSuchText (FrontsTextOf tells range entries new.fronts) first.sink.took new.sink.took
  left_as entries first old new took same fronts_are =
      subst (λ (ns : List ℕ). TakesSuchText (FrontsTextOf tells range entries ns) first.sink.took new.sink.took) (sym fronts_are)
      (subst (λ (s : SinkState). TakesSuchText (FrontsTextOf tells range entries old.fronts) first.sink.took s.took) (sym same) took)

  begun_as : (entries : List (Entry X)) (ending : SealState) (fronts : List ℕ) (P : List ℕ → Type 0) (told : List ℕ) → ((told part piece : List ℕ) → FrontsTextOf tells range entries fronts told → P piece → IsPrefix part piece → BegunOf tells range entries fronts ending part)
      → FrontsTextOf tells range entries fronts told → (t : List ℕ) → IsPartOf P t → BegunOf tells range entries fronts ending t
  begun_as entries ending fronts P told begins f t (inl none) = none_more none
  begun_as entries ending fronts P told begins f t (inr (piece, p, prefix)) = begins told t piece f p prefix

  -- a piece that wasn't written whole
  stopped : (entries : List (Entry X)) (ending : SealState) (first old new : Written) (P : List ℕ → Type 0) (why : WatchEnd) → ((told part piece : List ℕ) → FrontsTextOf tells range entries old.fronts told → P piece → IsPrefix part piece → BegunOf tells range entries old.fronts ending part)
      → IsQuiet first old → TakesSuchText (FrontsTextOf tells range entries old.fronts) first.sink.took old.sink.took → PutsPiece tells entries P (sink_and_view old.sink old.failures) (sink_and_view new.sink new.failures) (Err why) → new.fronts ≡ old.fronts
      → WritesTo tells range entries ending first new (Some why)
  stopped entries ending first old new P why begins quiet took (inl failed) fronts_are =
      let fails = failed.0 in
      let all : TakesSuchText (WatchPartOf tells range entries old.fronts ending) first.sink.took new.sink.took =
      takes_more (FrontsTextOf tells range entries old.fronts) (IsPartOf P) (WatchPartOf tells range entries old.fronts ending) first.sink.took old.sink.took new.sink.took
      (λ s t f p. part_begins tells range entries old.fronts ending s t f (begun_as entries ending old.fronts P s begins f t p)) took failed.1 in
      subst (λ (w : WatchEnd). WritesTo tells range entries ending first new (Some w)) (sym fails.why_is) (inl (
        (subst (λ (n : ℕ). RisesOnce n new.sink.faults) quiet.sink fails.rises, refl, fails.view ∙ quiet.view),
        subst (λ (ns : List ℕ). TakesSuchText (WatchPartOf tells range entries ns ending) first.sink.took new.sink.took) (sym fronts_are) all,
      ))
  stopped entries ending first old new P (watch_ends.Fault faults) begins quiet took (inr lacks) fronts_are =
      let same : new.sink ≡ old.sink = lacks.0 in inr (
        (subst (λ (n : ℕ). RisesOnce n new.failures) quiet.view lacks.1.0, lacks.1.1, ap (λ (s : SinkState). s.faults) same ∙ quiet.sink),
        left_as entries first old new took same fronts_are,
      )
  stopped entries ending first old new P (watch_ends.Flaw rule offset) begins quiet took (inr lacks) fronts_are =
      let same : new.sink ≡ old.sink = lacks.0 in
      (quiet_on first old new quiet (ap (λ (s : SinkState). s.faults) same) lacks.1.0, lacks.1.1, left_as entries first old new took same fronts_are)
  stopped entries ending first old new P watch_ends.Memory begins quiet took (inr lacks) fronts_are =
      let same : new.sink ≡ old.sink = lacks.0 in
      (quiet_on first old new quiet (ap (λ (s : SinkState). s.faults) same) lacks.1, left_as entries first old new took same fronts_are)
  stopped entries ending first old new P watch_ends.Whole begins quiet took (inr lacks) fronts_are = absurd lacks.1
  stopped entries ending first old new P watch_ends.Unsealed begins quiet took (inr lacks) fronts_are = absurd lacks.1

-- ---- calls

module _ {X : Type 0} (tells : X → Option (List ℕ)) where
  -- a new watcher has written nothing
  pub new_watched : (w : WatcherState X) → w.written.fronts ≡ [] → w.written.end ≡ None → WatchedSince tells w w
  new_watched w none goes = record {
    range = refl;
    ending = undecided;
    holds = tt;
    watches =
        subst (λ (e : Option WatchEnd). WritesTo tells w.range w.reader.entries undecided w.written w.written e) (sym goes) (
          record { sink = refl; view = refl },
          takes_none (FrontsTextOf tells w.range w.reader.entries w.written.fronts) w.written.sink.took (subst (λ (ns : List ℕ). FrontsTextOf tells w.range w.reader.entries ns []) (sym none) (no_fronts tells w.range w.reader.entries)),
        );
  }

  goes_on : (first now : WatcherState X) → WatchedSince tells first now → now.written.end ≡ None
      → IsQuiet first.written now.written × TakesSuchText (FrontsTextOf tells first.range now.reader.entries now.written.fronts) first.written.sink.took now.written.sink.took
  goes_on first now w none = subst (λ (e : Option WatchEnd). WritesTo tells first.range now.reader.entries w.ending first.written now.written e) none w.watches

  -- its reader holds more
  pub moved : (first old new : WatcherState X) → WatchedSince tells first old → old.written.end ≡ None → new.range ≡ old.range → new.written ≡ old.written → IsPrefix old.reader.entries new.reader.entries → WatchedSince tells first new
  moved first old new w none range_is written_is p =
      let g = goes_on first old w none in
      record {
        range = range_is ∙ w.range;
        ending = undecided;
        holds = tt;
        watches =
            subst (λ (wr : Written). Watches tells first.range new.reader.entries undecided first.written wr) (sym written_is)
            (subst (λ (e : Option WatchEnd). WritesTo tells first.range new.reader.entries undecided first.written old.written e) (sym none) (
              g.0,
              takes_as (FrontsTextOf tells first.range old.reader.entries old.written.fronts) (FrontsTextOf tells first.range new.reader.entries old.written.fronts) first.written.sink.took old.written.sink.took
                  (λ t f. fronts_lift tells first.range old.reader.entries new.reader.entries old.written.fronts t p f) g.1,
            ));
      }

  -- memory lacked
  pub lacked : (first old new : WatcherState X) → WatchedSince tells first old → old.written.end ≡ None → new.range ≡ old.range → new.written ≡ record old.written { end = Some watch_ends.Memory } → new.reader.entries ≡ old.reader.entries → WatchedSince tells first new
  lacked first old new w none range_is written_is entries_are =
      let g = goes_on first old w none in
      record {
        range = range_is ∙ w.range;
        ending = undecided;
        holds = tt;
        watches =
            subst (λ (wr : Written). Watches tells first.range new.reader.entries undecided first.written wr) (sym written_is)
            (subst (λ (es : List (Entry X)). WritesTo tells first.range es undecided first.written (record old.written { end = Some watch_ends.Memory }) (Some watch_ends.Memory)) (sym entries_are)
            (quiet_on tells first.range first.written old.written (record old.written { end = Some watch_ends.Memory }) g.0 refl refl, g.1));
      }

  -- the line of a front was written
  pub front_written : (first old new : WatcherState X) (entries : List (Entry X)) (n : ℕ) → WatchedSince tells first old → old.written.end ≡ None → new.reader ≡ old.reader → new.range ≡ old.range → entries ≡ old.reader.entries
      → MayFollow old.written.fronts n → n ≡ length entries → PutsAll (IsFrontLineOf tells old.range entries (length entries)) (sink_and_view old.written.sink old.written.failures) (sink_and_view new.written.sink new.written.failures)
      → new.written.fronts ≡ old.written.fronts ++ n ∷ [] → new.written.end ≡ None → WatchedSince tells first new
  front_written first old new entries n w none reader_is range_is entries_are follows n_is puts fronts_are goes =
      let g = goes_on first old w none in
      let line : TakesSuchText (IsFrontLineOf tells first.range old.reader.entries n) old.written.sink.took new.written.sink.took =
      takes_as (IsFrontLineOf tells old.range entries (length entries)) (IsFrontLineOf tells first.range old.reader.entries n) old.written.sink.took new.written.sink.took
      (λ t is. subst (λ (es : List (Entry X)). IsFrontLineOf tells first.range es n t) entries_are
      (subst (λ (r : Range). IsFrontLineOf tells r entries n t) w.range (subst (λ (k : ℕ). IsFrontLineOf tells old.range entries k t) (sym n_is) is))) puts.takes in
      let all : TakesSuchText (FrontsTextOf tells first.range old.reader.entries (old.written.fronts ++ n ∷ [])) first.written.sink.took new.written.sink.took =
      takes_more (FrontsTextOf tells first.range old.reader.entries old.written.fronts) (IsFrontLineOf tells first.range old.reader.entries n) (FrontsTextOf tells first.range old.reader.entries (old.written.fronts ++ n ∷ []))
      first.written.sink.took old.written.sink.took new.written.sink.took
      (λ s t f is. fronts_more tells first.range old.reader.entries old.written.fronts s n t follows f is) g.1 line in
      record {
        range = range_is ∙ w.range;
        ending = undecided;
        holds = tt;
        watches =
            subst (λ (e : Option WatchEnd). WritesTo tells first.range new.reader.entries undecided first.written new.written e) (sym goes) (
              quiet_on tells first.range first.written old.written new.written g.0 puts.sink puts.view,
              subst (λ (ns : List ℕ). TakesSuchText (FrontsTextOf tells first.range new.reader.entries ns) first.written.sink.took new.written.sink.took) (sym fronts_are)
                  (subst (λ (r : ReaderState X). TakesSuchText (FrontsTextOf tells first.range r.entries (old.written.fronts ++ n ∷ [])) first.written.sink.took new.written.sink.took) (sym reader_is) all),
            );
      }

  -- or wasn't
  pub front_refused : (first old new : WatcherState X) (entries : List (Entry X)) (n : ℕ) (why : WatchEnd) → WatchedSince tells first old → old.written.end ≡ None → new.reader ≡ old.reader → new.range ≡ old.range → entries ≡ old.reader.entries
      → MayFollow old.written.fronts n → n ≡ length entries → PutsPiece tells entries (IsFrontLineOf tells old.range entries (length entries)) (sink_and_view old.written.sink old.written.failures) (sink_and_view new.written.sink new.written.failures) (Err why)
      → new.written.fronts ≡ old.written.fronts → new.written.end ≡ Some why → WatchedSince tells first new
  front_refused first old new entries n why w none reader_is range_is entries_are follows n_is puts fronts_are ended =
      let g = goes_on first old w none in
      let here : PutsPiece tells old.reader.entries (IsFrontLineOf tells old.range old.reader.entries (length old.reader.entries)) (sink_and_view old.written.sink old.written.failures) (sink_and_view new.written.sink new.written.failures) (Err why) =
      subst (λ (es : List (Entry X)). PutsPiece tells es (IsFrontLineOf tells old.range es (length es)) (sink_and_view old.written.sink old.written.failures) (sink_and_view new.written.sink new.written.failures) (Err why)) entries_are puts in
      let n_here : n ≡ length old.reader.entries = n_is ∙ ap length entries_are in
      let stops : WritesTo tells first.range old.reader.entries undecided first.written new.written (Some why) =
      stopped tells first.range old.reader.entries undecided first.written old.written new.written (IsFrontLineOf tells old.range old.reader.entries (length old.reader.entries)) why
      (λ told part piece f is prefix.
      of_front n piece (follows f.rise) (subst (λ (r : Range). IsFrontLineOf tells r old.reader.entries n piece) w.range (subst (λ (k : ℕ). IsFrontLineOf tells old.range old.reader.entries k piece) (sym n_here) is)) prefix)
      g.0 g.1 here fronts_are in
      record {
        range = range_is ∙ w.range;
        ending = undecided;
        holds = tt;
        watches =
            subst (λ (e : Option WatchEnd). WritesTo tells first.range new.reader.entries undecided first.written new.written e) (sym ended)
            (subst (λ (r : ReaderState X). WritesTo tells first.range r.entries undecided first.written new.written (Some why)) (sym reader_is) stops);
      }

  -- the end was written
  pub end_written : (first old new : WatcherState X) (entries : List (Entry X)) (end : End) → WatchedSince tells first old → old.written.end ≡ None → new.reader ≡ old.reader → new.range ≡ old.range → entries ≡ old.reader.entries
      → HoldsAllSealed old.reader (sealed_by end) → PutsAll (IsEndTextOf tells old.range entries (sealed_by end)) (sink_and_view old.written.sink old.written.failures) (sink_and_view new.written.sink new.written.failures)
      → new.written.fronts ≡ old.written.fronts → new.written.end ≡ Some watch_ends.Whole → WatchedSince tells first new
  end_written first old new entries end w none reader_is range_is entries_are holds puts fronts_are ended =
      let g = goes_on first old w none in
      let text : TakesSuchText (IsEndTextOf tells first.range old.reader.entries (sealed_by end)) old.written.sink.took new.written.sink.took =
      subst (λ (es : List (Entry X)). TakesSuchText (IsEndTextOf tells first.range es (sealed_by end)) old.written.sink.took new.written.sink.took) entries_are
      (subst (λ (r : Range). TakesSuchText (IsEndTextOf tells r entries (sealed_by end)) old.written.sink.took new.written.sink.took) w.range puts.takes) in
      let all : TakesSuchText (WatchTextOf tells first.range old.reader.entries old.written.fronts (sealed_by end)) first.written.sink.took new.written.sink.took =
      takes_more (FrontsTextOf tells first.range old.reader.entries old.written.fronts) (IsEndTextOf tells first.range old.reader.entries (sealed_by end)) (WatchTextOf tells first.range old.reader.entries old.written.fronts (sealed_by end))
      first.written.sink.took old.written.sink.took new.written.sink.took
      (λ s t f is. record { told = s; last = t; fronts_are = f; last_is = is; text_is = refl }) g.1 text in
      record {
        range = range_is ∙ w.range;
        ending = sealed_by end;
        holds = subst (λ (r : ReaderState X). HoldsAllSealed r (sealed_by end)) (sym reader_is) holds;
        watches =
            subst (λ (e : Option WatchEnd). WritesTo tells first.range new.reader.entries (sealed_by end) first.written new.written e) (sym ended) (
              quiet_on tells first.range first.written old.written new.written g.0 puts.sink puts.view,
              (end, refl),
              subst (λ (ns : List ℕ). TakesSuchText (WatchTextOf tells first.range new.reader.entries ns (sealed_by end)) first.written.sink.took new.written.sink.took) (sym fronts_are)
                  (subst (λ (r : ReaderState X). TakesSuchText (WatchTextOf tells first.range r.entries old.written.fronts (sealed_by end)) first.written.sink.took new.written.sink.took) (sym reader_is) all),
            );
      }

  pub end_refused : (first old new : WatcherState X) (entries : List (Entry X)) (end : End) (why : WatchEnd) → WatchedSince tells first old → old.written.end ≡ None → new.reader ≡ old.reader → new.range ≡ old.range → entries ≡ old.reader.entries
      → HoldsAllSealed old.reader (sealed_by end) → PutsPiece tells entries (IsEndTextOf tells old.range entries (sealed_by end)) (sink_and_view old.written.sink old.written.failures) (sink_and_view new.written.sink new.written.failures) (Err why)
      → new.written.fronts ≡ old.written.fronts → new.written.end ≡ Some why → WatchedSince tells first new
  end_refused first old new entries end why w none reader_is range_is entries_are holds puts fronts_are ended =
      let g = goes_on first old w none in
      let here : PutsPiece tells old.reader.entries (IsEndTextOf tells first.range old.reader.entries (sealed_by end)) (sink_and_view old.written.sink old.written.failures) (sink_and_view new.written.sink new.written.failures) (Err why) =
      subst (λ (r : Range). PutsPiece tells old.reader.entries (IsEndTextOf tells r old.reader.entries (sealed_by end)) (sink_and_view old.written.sink old.written.failures) (sink_and_view new.written.sink new.written.failures) (Err why)) w.range
      (subst (λ (es : List (Entry X)). PutsPiece tells es (IsEndTextOf tells old.range es (sealed_by end)) (sink_and_view old.written.sink old.written.failures) (sink_and_view new.written.sink new.written.failures) (Err why)) entries_are puts) in
      let stops : WritesTo tells first.range old.reader.entries (sealed_by end) first.written new.written (Some why) =
      stopped tells first.range old.reader.entries (sealed_by end) first.written old.written new.written (IsEndTextOf tells first.range old.reader.entries (sealed_by end)) why
      (λ told part piece f is prefix. of_end piece is prefix) g.0 g.1 here fronts_are in
      record {
        range = range_is ∙ w.range;
        ending = sealed_by end;
        holds = subst (λ (r : ReaderState X). HoldsAllSealed r (sealed_by end)) (sym reader_is) holds;
        watches =
            subst (λ (e : Option WatchEnd). WritesTo tells first.range new.reader.entries (sealed_by end) first.written new.written e) (sym ended)
            (subst (λ (r : ReaderState X). WritesTo tells first.range r.entries (sealed_by end) first.written new.written (Some why)) (sym reader_is) stops);
      }

  entries_prefix : (few more : List (Added X)) → IsPrefix few more → IsPrefix (entries_of few) (entries_of more)
  entries_prefix few more p = (entries_of p.0, sym (entries_of-append few p.0) ∙ ap entries_of p.1)

  -- a refresh adds to what is held
  pub refreshed : (before now : ReaderState X) (found : Front) (n : ℕ) → before.entries ≡ entries_of (take n before.known) → Refreshes before now found → IsPrefix before.entries now.entries
  refreshed before now found n held r =
      let part : IsPrefix (take n before.known) now.known = prefix_trans (take n before.known) before.known now.known (drop n before.known, take-append-drop n before.known) r.grows in
      let all : entries_of now.known ≡ now.entries = ap entries_of r.known ∙ sym r.entries in
      subst (λ (es : List (Entry X)). IsPrefix before.entries es) all (subst (λ (es : List (Entry X)). IsPrefix es (entries_of now.known)) (sym held) (entries_prefix (take n before.known) now.known part))

  held_on : (ending : SealState) (before now : ReaderState X) → Learns before now → HoldsAllSealed before ending → HoldsAllSealed now ending
  held_on undecided before now l holds = tt
  held_on (sealed_by end) before now l holds =
      let same : published_front now.known ≡ published_front before.known = l.rises.stays end holds.1 in
      let blocks : length (entries_of now.known) ≡ length (entries_of before.known) = ap (λ (f : Front). f.blocks) same in
      let all : entries_of before.known ≡ entries_of now.known = prefix_whole (entries_of before.known) (entries_of now.known) (entries_prefix before.known now.known l.grows) (omega (arith, blocks)) in
      (l.held ∙ holds.0 ∙ all, ap (λ (f : Front). f.end) same ∙ holds.1)
  held_on unsealed before now l holds = absurd holds

  -- its reader knows more
  pub learnt : (first old new : WatcherState X) → WatchedSince tells first old → new.range ≡ old.range → new.written ≡ old.written → Learns old.reader new.reader → WatchedSince tells first new
  learnt first old new w range_is written_is l = record {
    range = range_is ∙ w.range;
    ending = w.ending;
    holds = held_on w.ending old.reader new.reader l w.holds;
    watches =
        subst (λ (wr : Written). Watches tells first.range new.reader.entries w.ending first.written wr) (sym written_is)
        (subst (λ (es : List (Entry X)). Watches tells first.range es w.ending first.written old.written) (sym l.held) w.watches);
  }

  -- ---- at the end

  pub untold_lift : (few more : List (Entry X)) → IsPrefix few more → IsUntold tells few → IsUntold tells more
  untold_lift few more p untold stored told =
      let parts = zip_parts (IsStored tells) few p.0 stored (subst (λ (es : List (Entry X)). AllZip (IsStored tells) es stored) (sym p.1) told) in
      untold parts.0 parts.3

  begun_lift : (range : Range) (few more : List (Entry X)) (fronts : List ℕ) (ending : SealState) (part : List ℕ) → IsPrefix few more → BegunOf tells range few fronts undecided part → BegunOf tells range more fronts ending part
  begun_lift range few more fronts ending part p (none_more none) = none_more none
  begun_lift range few more fronts ending part p (of_front n line rises is prefix) = of_front n line rises (line_lift tells range few more n line p is) prefix
  begun_lift range few more fronts ending part p (of_end line is prefix) = absurd is

  begun_still : (range : Range) (few more : List (Entry X)) (fronts part : List ℕ) → IsPrefix few more → BegunOf tells range few fronts unsealed part → BegunOf tells range more fronts unsealed part
  begun_still range few more fronts part p (none_more none) = none_more none
  begun_still range few more fronts part p (of_front n line rises is prefix) = of_front n line rises (line_lift tells range few more n line p is) prefix
  begun_still range few more fronts part p (of_end line is prefix) = of_end line is prefix

  fronts_taken : (range : Range) (few more : List (Entry X)) (fronts : List ℕ) (old new : Option (List ℕ)) → IsPrefix few more → TakesSuchText (FrontsTextOf tells range few fronts) old new → TakesSuchText (FrontsTextOf tells range more fronts) old new
  fronts_taken range few more fronts old new p took =
      takes_as (FrontsTextOf tells range few fronts) (FrontsTextOf tells range more fronts) old new (λ t f. fronts_lift tells range few more fronts t p f) took

  part_taken : (range : Range) (few more : List (Entry X)) (fronts : List ℕ) (was ending : SealState) (old new : Option (List ℕ)) → IsPrefix few more → ((part : List ℕ) → BegunOf tells range few fronts was part → BegunOf tells range more fronts ending part)
      → TakesSuchText (WatchPartOf tells range few fronts was) old new → TakesSuchText (WatchPartOf tells range more fronts ending) old new
  part_taken range few more fronts was ending old new p begun took =
      takes_as (WatchPartOf tells range few fronts was) (WatchPartOf tells range more fronts ending) old new (λ t w. record {
        told = w.told;
        part = w.part;
        fronts_are = fronts_lift tells range few more fronts w.told p w.fronts_are;
        begun = begun w.part w.begun;
        text_is = w.text_is;
      }) took

  -- as long as nothing is decided, what was written is of any longer list too
  writes_lift : (range : Range) (few more : List (Entry X)) (ending : SealState) (first now : Written) (e : Option WatchEnd) → IsPrefix few more → WritesTo tells range few undecided first now e → WritesTo tells range more ending first now e
  writes_lift range few more ending first now None p w = (w.0, fronts_taken range few more now.fronts first.sink.took now.sink.took p w.1)
  writes_lift range few more ending first now (Some watch_ends.Whole) p w = absurd (cc (w.1.1))
  writes_lift range few more ending first now (Some watch_ends.Unsealed) p w = absurd (cc (w.1))
  writes_lift range few more ending first now (Some (watch_ends.Fault faults)) p (inl w) =
      inl (w.0, part_taken range few more now.fronts undecided ending first.sink.took now.sink.took p (λ part is. begun_lift range few more now.fronts ending part p is) w.1)
  writes_lift range few more ending first now (Some (watch_ends.Fault faults)) p (inr w) = inr (w.0, fronts_taken range few more now.fronts first.sink.took now.sink.took p w.1)
  writes_lift range few more ending first now (Some (watch_ends.Flaw rule offset)) p w = (w.0, untold_lift few more p w.1, fronts_taken range few more now.fronts first.sink.took now.sink.took p w.2)
  writes_lift range few more ending first now (Some watch_ends.Memory) p w = (w.0, fronts_taken range few more now.fronts first.sink.took now.sink.took p w.1)

  -- and so it is where there is no seal
  pub unsealed_lift : (range : Range) (few more : List (Entry X)) (first now : Written) (e : Option WatchEnd) → IsPrefix few more → WritesTo tells range few unsealed first now e → WritesTo tells range more unsealed first now e
  unsealed_lift range few more first now None p w = (w.0, fronts_taken range few more now.fronts first.sink.took now.sink.took p w.1)
  unsealed_lift range few more first now (Some watch_ends.Whole) p w = absurd (cc (w.1.1))
  unsealed_lift range few more first now (Some watch_ends.Unsealed) p w = (
    w.0,
    w.1,
    takes_as (WatchTextOf tells range few now.fronts unsealed) (WatchTextOf tells range more now.fronts unsealed) first.sink.took now.sink.took
        (λ t is. record { told = is.told; last = is.last; fronts_are = fronts_lift tells range few more now.fronts is.told p is.fronts_are; last_is = is.last_is; text_is = is.text_is }) w.2,
  )
  unsealed_lift range few more first now (Some (watch_ends.Fault faults)) p (inl w) =
      inl (w.0, part_taken range few more now.fronts unsealed unsealed first.sink.took now.sink.took p (λ part is. begun_still range few more now.fronts part p is) w.1)
  unsealed_lift range few more first now (Some (watch_ends.Fault faults)) p (inr w) = inr (w.0, fronts_taken range few more now.fronts first.sink.took now.sink.took p w.1)
  unsealed_lift range few more first now (Some (watch_ends.Flaw rule offset)) p w = (w.0, untold_lift few more p w.1, fronts_taken range few more now.fronts first.sink.took now.sink.took p w.2)
  unsealed_lift range few more first now (Some watch_ends.Memory) p w = (w.0, fronts_taken range few more now.fronts first.sink.took now.sink.took p w.1)

  decides : (range : Range) (reader : ReaderState X) (all : List (Entry X)) (ending : SealState) (end : End) (first now : Written) (e : Option WatchEnd) → HoldsAllSealed reader ending → IsPrefix reader.entries all → entries_of reader.known ≡ all → end_of reader.known ≡ Some end
      → WritesTo tells range reader.entries ending first now e → WritesTo tells range all (sealed_by end) first now e
  decides range reader all undecided end first now e holds p are is w = writes_lift range reader.entries all (sealed_by end) first now e p w
  decides range reader all (sealed_by other) end first now e holds p are is w =
      let same : other ≡ end = same_Some other end (sym holds.1 ∙ is) in
      subst (λ (es : List (Entry X)). WritesTo tells range es (sealed_by end) first now e) (holds.0 ∙ are) (subst (λ (x : End). WritesTo tells range reader.entries (sealed_by x) first now e) same w)
  decides range reader all unsealed end first now e holds p are is w = absurd holds

  -- It was written of all that the note of a seal has.
  pub finished : (first now : WatcherState X) (note : List (Added X)) (end : End) (n : ℕ) → WatchedSince tells first now → now.reader.entries ≡ entries_of (take n now.reader.known) → IsPrefix note now.reader.known
      → AtLeast (published_front note) (published_front now.reader.known) → end_of note ≡ Some end → Watches tells first.range (entries_of note) (sealed_by end) first.written now.written
  finished first now note end n w held p least is =
      let known = now.reader.known in
      let front_same : published_front known ≡ published_front note = least.stays end is in
      let blocks : length (entries_of known) ≡ length (entries_of note) = ap (λ (f : Front). f.blocks) front_same in
      let same : entries_of note ≡ entries_of known = prefix_whole (entries_of note) (entries_of known) (entries_prefix note known p) (omega (arith, blocks)) in
      let ended : end_of known ≡ Some end = ap (λ (f : Front). f.end) front_same ∙ is in
      let first_ones : IsPrefix now.reader.entries (entries_of known) =
      subst (λ (es : List (Entry X)). IsPrefix es (entries_of known)) (sym held) (entries_prefix (take n known) known (drop n known, take-append-drop n known)) in
      subst (λ (es : List (Entry X)). WritesTo tells first.range es (sealed_by end) first.written now.written now.written.end) (sym same)
      (decides first.range now.reader (entries_of known) w.ending end first.written now.written now.written.end w.holds first_ones refl ended w.watches)

  pub least_on : (a b c : List (Added X)) → AtLeast (published_front a) (published_front b) → AtLeast (published_front b) (published_front c) → AtLeast (published_front a) (published_front c)
  least_on a b c one two = record {
    blocks = omega (arith, one.blocks, two.blocks);
    stays = λ end is.
        let mid = one.stays end is in
        two.stays end (ap (λ (f : Front). f.end) mid ∙ is) ∙ mid;
  }

  -- ---- where there is no seal

  pub ended_before : (first now : WatcherState X) (new : Written) → WatchedSince tells first now → new ≡ now.written → EndsUnsealed tells first now.reader new
  ended_before first now new w same = record {
    ending = w.ending;
    known = inr w.holds;
    watches = subst (λ (wr : Written). Watches tells first.range now.reader.entries w.ending first.written wr) (sym same) w.watches;
  }

  pub unsealed_written : (first old : WatcherState X) (new : Written) → WatchedSince tells first old → old.written.end ≡ None → PutsBytes old.written.sink new.sink unsealed_line (Ok tt) → new.failures ≡ old.written.failures → new.fronts ≡ old.written.fronts
      → new.end ≡ Some watch_ends.Unsealed → EndsUnsealed tells first old.reader new
  unsealed_written first old new w none puts view fronts_are ended =
      let g = goes_on first old w none in
      let text : TakesSuchText (IsEndTextOf tells first.range old.reader.entries unsealed) old.written.sink.took new.sink.took = takes_bytes (IsEndTextOf tells first.range old.reader.entries unsealed) old.written.sink.took new.sink.took unsealed_line refl puts.1 in
      let all : TakesSuchText (WatchTextOf tells first.range old.reader.entries old.written.fronts unsealed) first.written.sink.took new.sink.took =
      takes_more (FrontsTextOf tells first.range old.reader.entries old.written.fronts) (IsEndTextOf tells first.range old.reader.entries unsealed) (WatchTextOf tells first.range old.reader.entries old.written.fronts unsealed)
      first.written.sink.took old.written.sink.took new.sink.took
      (λ s t f is. record { told = s; last = t; fronts_are = f; last_is = is; text_is = refl }) g.1 text in
      record {
        ending = unsealed;
        known = inl refl;
        watches =
            subst (λ (e : Option WatchEnd). WritesTo tells first.range old.reader.entries unsealed first.written new e) (sym ended) (
              quiet_on tells first.range first.written old.written new g.0 puts.0 view,
              refl,
              subst (λ (ns : List ℕ). TakesSuchText (WatchTextOf tells first.range old.reader.entries ns unsealed) first.written.sink.took new.sink.took) (sym fronts_are) all,
            );
      }

  pub unsealed_refused : (first old : WatcherState X) (new : Written) (why : WatchEnd) → WatchedSince tells first old → old.written.end ≡ None → PutsBytes old.written.sink new.sink unsealed_line (Err why) → new.failures ≡ old.written.failures
      → new.fronts ≡ old.written.fronts → new.end ≡ Some why → EndsUnsealed tells first old.reader new
  unsealed_refused first old new why w none puts view fronts_are ended =
      let g = goes_on first old w none in
      let part = takes_part (IsEndTextOf tells first.range old.reader.entries unsealed) old.written.sink.took new.sink.took unsealed_line refl puts.2 in
      let stops : WritesTo tells first.range old.reader.entries unsealed first.written new (Some why) =
      stopped tells first.range old.reader.entries unsealed first.written old.written new (IsEndTextOf tells first.range old.reader.entries unsealed) why
      (λ told part piece f is prefix. of_end piece is prefix) g.0 g.1 (inl (record { rises = puts.0; why_is = puts.1; view = view }, part)) fronts_are in
      record {
        ending = unsealed;
        known = inl refl;
        watches = subst (λ (e : Option WatchEnd). WritesTo tells first.range old.reader.entries unsealed first.written new e) (sym ended) stops;
      }

  by_ending : (range : Range) (reader : ReaderState X) (note : List (Added X)) (ending : SealState) (first now : Written) (e : Option WatchEnd) → (ending ≡ unsealed) ⊎ HoldsAllSealed reader ending → IsPrefix reader.entries (entries_of note) → IsPrefix reader.known note → end_of note ≡ None
      → WritesTo tells range reader.entries ending first now e → WritesTo tells range (entries_of note) unsealed first now e
  by_ending range reader note undecided first now e known p within none w = writes_lift range reader.entries (entries_of note) unsealed first now e p w
  by_ending range reader note (sealed_by end) first now e (inl is) p within none w = absurd (cc is)
  by_ending range reader note (sealed_by end) first now e (inr holds) p within none w =
      absurd (none-some end (sym (end_of_front reader.known within.0 (ap end_of within.1 ∙ none)) ∙ holds.1))
  by_ending range reader note unsealed first now e known p within none w = unsealed_lift range reader.entries (entries_of note) first now e p w

  -- It was written of the blocks that the directory shows, since the reader knows no more.
  pub unsealed_of : (first : WatcherState X) (reader : ReaderState X) (new : Written) (note : List (Added X)) (n : ℕ) → EndsUnsealed tells first reader new → reader.entries ≡ entries_of (take n reader.known) → IsPrefix reader.known note → end_of note ≡ None
      → Watches tells first.range (entries_of note) unsealed first.written new
  unsealed_of first reader new note n it held within none =
      let part : IsPrefix (take n reader.known) note = prefix_trans (take n reader.known) reader.known note (drop n reader.known, take-append-drop n reader.known) within in
      let first_ones : IsPrefix reader.entries (entries_of note) = subst (λ (es : List (Entry X)). IsPrefix es (entries_of note)) (sym held) (entries_prefix (take n reader.known) note part) in
      by_ending first.range reader note it.ending first.written new new.end it.known first_ones within none it.watches

-- ---- pieces made of bytes

pub piece_written : (P : List ℕ → Type 0) (before now : SinkAndView) (bytes : List ℕ) → P bytes → now.failures ≡ before.failures → PutsBytes before.sink now.sink bytes (Ok tt) → PutsAll P before now
piece_written P before now bytes p view puts = record { sink = puts.0; view = view; takes = takes_bytes P before.sink.took now.sink.took bytes p puts.1 }

pub piece_refused : {X : Type 0} (tells : X → Option (List ℕ)) (entries : List (Entry X)) (P : List ℕ → Type 0) (before now : SinkAndView) (bytes : List ℕ) (why : WatchEnd) → P bytes → now.failures ≡ before.failures → PutsBytes before.sink now.sink bytes (Err why)
    → PutsPiece tells entries P before now (Err why)
piece_refused tells entries P before now bytes why p view puts =
    inl (record { rises = puts.0; why_is = puts.1; view = view }, takes_part P before.sink.took now.sink.took bytes p puts.2)
