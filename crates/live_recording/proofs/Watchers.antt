-- What all watchers of a recording come to together.
use Rattle.std.proofs.Common.{◌≡◌, ℕ, zero, suc, List, [], ◌∷◌, map, Option, Some, None, Ok, Err, refl, sym, ap, subst, inl, inr, ◌∙◌, arith}
use Rattle.std.specs.Prelude.{Bool, true, false, Result, is_some}
use Rattle.std.specs.List.{AllZip, concat}
use Rattle.mcap_io.specs.Outside.{SourceState, LiveState, SinkState}
use Rattle.mcap_model.specs.declared.ends.End.{End}
use Rattle.mcap_model.specs.declared.replay.Range.{Range}
use Rattle.mcap_model.specs.Places.{Each}
use Rattle.mcap_model.proofs.Places.{at_none}
use Rattle.mcap_model.proofs.Lists.{each_cons}
use Rattle.feed_lane.specs.declared.report.FeedReport.{FeedReport}
use Rattle.feed_lane.specs.Steps.{ListsMessages}
use Rattle.feed_lane.specs.Lanes.{InStep}
use Rattle.live_directory.specs.declared.front.Added.{Added}
use Rattle.live_directory.specs.Reading.{unread}
use Rattle.live_directory.specs.Published.{end_of, at_most_one}
use Rattle.live_directory.specs.Writing.{DirectoryState, empty_directory}
use Rattle.mcap_model.specs.declared.options.RecordOptions.{RecordOptions}
use Rattle.recorder.specs.declared.report.Report.{Report}
use Rattle.recorder.specs.Recorded.{Sides, sides, Recorded}
use Rattle.live_watcher.specs.declared.report.WatchReport.{WatchReport}
use Rattle.live_watcher.specs.Watching.{WatcherState, new_watcher}
use Rattle.live_watcher.specs.WatcherSteps.{WatchedSince}
use Rattle.live_watcher.proofs.Steps.{new_watched}
use Rattle.live_recording.specs.declared.seats.Unviewed.{Unviewed}
use Rattle.live_recording.specs.Watched.{IsUnviewed, Watch, AsksView, AsksViews}
use Rattle.live_recording.specs.WatchedSteps.{WatchTells, IsWatched, RecordedBeside, SeenWatching, RecordedWatched, LeftState, SeatRuns, SeatEnds, SeatMade, SeatsMade, SeatsEnd}
use Rattle.live_recording.proofs.LinesTold.{form_told}

-- ---- lists

pub zipped : {X Y : Type 0} (R : X → Y → Type 0) (xs : List X) (ys : List Y) → InStep R xs ys → AllZip R xs ys
zipped R [] [] it = tt
zipped R [] (y ∷ ys) it = absurd (omega (arith, it.0))
zipped R (x ∷ xs) [] it = absurd (omega (arith, it.0))
zipped R (x ∷ xs) (y ∷ ys) it = (it.1 zero x y refl refl, zipped R xs ys (omega (arith, it.0), λ n a b at_a at_b. it.1 (suc n) a b at_a at_b))

pub none_mapped : {X Y : Type 0} (f : X → Y) (xs : List X) → map f xs ≡ [] → xs ≡ []
none_mapped f [] e = refl
none_mapped f (x ∷ xs) e = absurd (cc e)

pub same_some : {X : Type 0} {x y : X} → Some x ≡ Some y → x ≡ y
same_some e = cc

pub zip_same : {X : Type 0} (R : X → X → Type 0) → ((x : X) → R x x) → (xs : List X) → AllZip R xs xs
zip_same R same [] = tt
zip_same R same (x ∷ xs) = (same x, zip_same R same xs)

pub listed_so : (listed : Bool) (report r : Report) → Some report ≡ Some r → Each (λ (f : FeedReport). ListsMessages f listed) report.feeds.items → Each (λ (f : FeedReport). ListsMessages f listed) r.feeds.items
listed_so listed report r is it = subst (λ (x : Report). Each (λ (f : FeedReport). ListsMessages f listed) x.feeds.items) (same_some is) it

-- ---- the end of a directory

pub unsealed_end : (o : Option End) (sealed : Bool) → sealed ≡ is_some o → sealed ≡ false → o ≡ None
unsealed_end None sealed is not_sealed = refl
unsealed_end (Some end) sealed is not_sealed = absurd (cc (is, not_sealed))

-- ---- one watcher

module _ {X K : Type 0} (tells : X → Option (List ℕ)) (state : K → SinkState) (range : Range) (told : List (Added X)) where
  abbrev Seat : Type 0
  Seat = Result (WatcherState X) (Unviewed K)

  -- what came of a sink, from when the store was asked for its view to when its watcher had finished
  one_told : (before now : LiveState) (sink : K) (seat ran : Seat) (took : SinkState) (view : Option ℕ) (report : WatchReport)
      → SeatMade state range before now sink seat → SeatRuns tells seat ran → SeatEnds tells state told ran took view report
      → AsksView before now view report × WatchTells tells range told (state sink) took view report
  one_told before now sink (Ok watcher) (Ok last) took (Some failures) report made runs ends =
      let first : WatcherState X = new_watcher unread range (state sink) 0 in
      (made.0, ends first (runs first (subst (WatchedSince tells first) (sym made.1) (new_watched tells first refl refl))))
  one_told before now sink (Ok watcher) (Ok last) took None report made runs ends = absurd ends
  one_told before now sink (Ok watcher) (Err other) took view report made runs ends = absurd runs
  one_told before now sink (Err none) (Ok last) took view report made runs ends = absurd (cc runs)
  one_told before now sink (Err none) (Err other) took (Some failures) report made runs ends = absurd ends
  one_told before now sink (Err none) (Err other) took None report made runs ends =
      let same : other ≡ none = cc runs in (
        (made.0, subst (λ (faults : ℕ). IsUnviewed faults report) (ap (λ (u : Unviewed K). u.faults) same ∙ made.1) ends.1),
        ends.0 ∙ ap (λ (u : Unviewed K). state u.sink) same ∙ ap state made.2,
      )

  -- ---- all of them

  record AllTold (before : LiveState) (sinks : List K) (now : LiveState) (left : List LeftState) : Type 0 where
    pub watches : List Watch
    pub befores : map state sinks ≡ map (λ (w : Watch). w.before) watches
    pub nows : map (λ (l : LeftState). l.sink) left ≡ map (λ (w : Watch). w.now) watches
    pub views : map (λ (l : LeftState). at_most_one l.view) left ≡ map (λ (w : Watch). at_most_one w.view) watches
    pub reports : map (λ (l : LeftState). l.report) left ≡ map (λ (w : Watch). w.report) watches
    pub asked : AsksViews before watches now
    pub each : Each (IsWatched tells range told) watches

  abbrev EndsAs : Seat → LeftState → Type 0
  EndsAs ran l = SeatEnds tells state told ran l.sink l.view l.report

  all_told : (before now : LiveState) (sinks : List K) (seats ran : List Seat) (left : List LeftState) → SeatsMade state range before sinks now seats → AllZip (SeatRuns tells) seats ran → AllZip EndsAs ran left → AllTold before sinks now left
  all_told before now [] [] [] [] made runs ends = record {
    watches = [];
    befores = refl;
    nows = refl;
    views = refl;
    reports = refl;
    asked = made;
    each = λ n w at. absurd (at_none n w at);
  }
  all_told before now [] [] [] (l ∷ left) made runs ends = absurd ends
  all_told before now [] [] (r ∷ ran) left made runs ends = absurd runs
  all_told before now [] (s ∷ seats) ran left made runs ends = absurd made
  all_told before now (k ∷ sinks) [] ran left made runs ends = absurd made
  all_told before now (k ∷ sinks) (s ∷ seats) [] left made runs ends = absurd runs
  all_told before now (k ∷ sinks) (s ∷ seats) (r ∷ ran) [] made runs ends = absurd ends
  all_told before now (k ∷ sinks) (s ∷ seats) (r ∷ ran) (l ∷ left) made runs ends =
      let one = one_told before made.0 k s r l.sink l.view l.report made.3 runs.0 ends.0 in
      let more : AllTold made.0 sinks now left = all_told made.0 now sinks seats ran left made.4 runs.1 ends.1 in
      let w : Watch = record { before = state k; now = l.sink; view = l.view; report = l.report } in
      record {
        watches = w ∷ more.watches;
        befores = ap (λ (xs : List SinkState). state k ∷ xs) more.befores;
        nows = ap (λ (xs : List SinkState). l.sink ∷ xs) more.nows;
        views = ap (λ (xs : List (List ℕ)). at_most_one l.view ∷ xs) more.views;
        reports = ap (λ (xs : List WatchReport). l.report ∷ xs) more.reports;
        asked = (made.0, made.1, made.2, one.0, more.asked);
        each = each_cons (IsWatched tells range told) w more.watches one.1 more.each;
      }

  -- ---- the whole

  told_sealed : (o : Option End) (end : End) (sealed : Bool) → sealed ≡ is_some o → ((other : End) → o ≡ Some other → other ≡ end) → sealed ≡ true → o ≡ Some end
  told_sealed None end sealed is same yes_sealed = absurd (cc (is, yes_sealed))
  told_sealed (Some other) end sealed is same yes_sealed = ap (λ (e : End). Some e) (same other refl)

  pub watched_so : (options : RecordOptions) (before now : Sides) (viewed : LiveState) (sinks : List K) (seats ran : List Seat) (report r : Report) (it : SeenWatching) → Some report ≡ Some r
      → it.handed ≡ map state sinks → (sinks ≡ [] → ⊥) → SeatsMade state range before.live sinks viewed seats → InStep (SeatRuns tells) seats ran → SeatsEnd tells state told ran it.sinks it.views it.reports
      → (directory : DirectoryState X) → RecordedBeside tells options (sides before.sources viewed) now report told directory → it.sealed ≡ is_some (end_of told) → RecordedWatched tells options range before now r it
  watched_so options before now viewed sinks seats ran report r it is handed some made runs ends directory recorded sealed =
      let all : AllTold before.live sinks viewed ends.left = all_told before.live viewed sinks seats ran ends.left made (zipped (SeatRuns tells) seats ran runs) ends.each in
      let shows = recorded.shows in
      let was_sealed : it.sealed ≡ true → end_of told ≡ Some report.writer.end = told_sealed (end_of told) report.writer.end it.sealed sealed (λ end ends. (shows.sealed end ends).0) in
      let not_sealed : it.sealed ≡ false → end_of told ≡ None = unsealed_end (end_of told) it.sealed sealed in
      subst (λ (x : Report). RecordedWatched tells options range before now x it) (same_some is) (record {
        watches = all.watches;
        are = record {
          before_are = handed ∙ all.befores;
          now_are = ends.sinks_are ∙ all.nows;
          views_are = ends.views_are ∙ ap concat all.views;
          reports_are = ends.reports_are ∙ all.reports;
        };
        viewed = viewed;
        asked = all.asked;
        note = told;
        recorded = recorded.recorded;
        shows = λ some. shows;
        directory = directory;
        tried = λ some. recorded.tried;
        each = all.each;
        forms = λ n w at. form_told tells range report.writer told shows.given shows.first shows.sealed shows.blocks_are.many it.sealed was_sealed not_sealed w w.view (all.each n w at);
        sealed = λ is. inr (was_sealed is);
        unsealed = λ is. (λ none. some (none_mapped state sinks (sym handed ∙ none)), not_sealed is);
      })

-- ---- a recording without watchers

module _ {X : Type 0} (tells : X → Option (List ℕ)) where
  pub alone_so : (options : RecordOptions) (range : Range) (sources : List SourceState) (live : LiveState) (now : Sides) (r : Report) (it : SeenWatching)
      → Recorded options (sides sources live) now r → it.handed ≡ [] → it.sinks ≡ it.handed → it.views ≡ [] → it.reports ≡ [] → it.sealed ≡ true
      → RecordedWatched tells options range (sides sources live) now r it
  alone_so options range sources live now r it recorded none same views reports sealed = record {
    watches = [];
    are = record { before_are = none; now_are = same ∙ none; views_are = views; reports_are = reports };
    viewed = live;
    asked = refl;
    note = [];
    recorded = recorded;
    shows = λ some. absurd (some none);
    directory = empty_directory;
    tried = λ some. absurd (some none);
    each = λ n w at. absurd (at_none n w at);
    forms = λ n w at. absurd (at_none n w at);
    sealed = λ is. inl none;
    unsealed = λ is. absurd (cc (is, sealed));
  }
