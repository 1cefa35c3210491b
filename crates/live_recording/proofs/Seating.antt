-- Watchers of a recording that are made, and that finish, one after another.
use Rattle.std.proofs.Common.{◌≡◌, ℕ, zero, suc, ◌<◌, ◌≤◌, List, [], ◌∷◌, ◌++◌, length, get_or, take, drop, map, Option, Some, None, refl, sym, ap, subst, ◌∙◌, append-nil, length-append, arith}
use Rattle.std.specs.Prelude.{Result}
use Rattle.std.specs.List.{All, concat}
use Rattle.std.proofs.Math.Seq.{take-append_seam}
use Rattle.std.proofs.lemmas.List.{map-append}
use Rattle.std.proofs.lemmas.List.Folds.{concat-append}
use Rattle.mcap_io.specs.Outside.{LiveState, SinkState}
use Rattle.mcap_model.specs.declared.replay.Range.{Range}
use Rattle.mcap_model.proofs.OneMore.{zip_push}
use Rattle.live_directory.specs.declared.front.Added.{Added}
use Rattle.live_directory.specs.Published.{at_most_one}
use Rattle.live_watcher.specs.declared.report.WatchReport.{WatchReport}
use Rattle.live_watcher.specs.Watching.{WatcherState}
use Rattle.live_recording.specs.declared.seats.Unviewed.{Unviewed}
use Rattle.live_recording.specs.WatchedSteps.{failures_in, LeftState, SeatEnds, SeatMade, SeatsMade, SeatsEnd}

-- ---- lists

module _ {X : Type 0} (P : X → Type 0) where
  held_before : (xs : List X) (y : X) (k : ℕ) (d : X) → k < length xs → P (get_or (xs ++ y ∷ []) k d) → P (get_or xs k d)
  held_before [] y k d less is = absurd (omega (arith, less))
  held_before (x ∷ xs) y zero d less is = is
  held_before (x ∷ xs) y (suc k) d less is = held_before xs y k d (omega (arith, less)) is

  held_last : (xs : List X) (y : X) → P (get_or (xs ++ y ∷ []) (length xs) y) → P y
  held_last [] y is = is
  held_last (x ∷ xs) y is = held_last xs y is

  pub all_but_last : (all xs : List X) (y : X) → all ≡ xs ++ y ∷ [] → All P all → All P xs
  all_but_last all xs y is each = λ k d less.
      held_before xs y k d less (subst (λ (l : List X). P (get_or l k d)) is (each k d (omega (arith, less, ap length is, length-append xs (y ∷ [])))))

  pub last_of_all : (all xs : List X) (y : X) → all ≡ xs ++ y ∷ [] → All P all → P y
  last_of_all all xs y is each = held_last xs y (subst (λ (l : List X). P (get_or l (length xs) y)) is (each (length xs) y (omega (arith, ap length is, length-append xs (y ∷ [])))))

pub nothing_left : {X : Type 0} (xs : List X) → length xs ≡ 0 → xs ≡ []
nothing_left [] none = refl
nothing_left (x ∷ xs) none = absurd (omega (arith, none))

pub one_at_most : {X : Type 0} (o : Option X) → length (at_most_one o) ≤ 1
one_at_most None = omega arith
one_at_most (Some x) = omega arith

-- ---- a loan of all elements

-- the elements of a vector behind such a loan
pub lent : {X : Type 0} (n : ℕ) (now old : List X) → n ≡ length now → take n (now ++ drop (length now) old) ≡ now
lent {X} n now old is = ap (λ (k : ℕ). take k (now ++ drop (length now) old)) is ∙ take-append_seam now (drop (length now) old)

-- ---- made

module _ {X K : Type 0} (state : K → SinkState) (range : Range) where
  -- the store was asked once more
  pub seats_more : (first mid now : LiveState) (sinks : List K) (seats : List (Result (WatcherState X) (Unviewed K))) (sink : K) (seat : Result (WatcherState X) (Unviewed K))
      → SeatsMade state range first sinks mid seats → now.held ≡ mid.held → now.waiting ≤ mid.waiting → SeatMade state range mid now sink seat
      → SeatsMade state range first (sinks ++ sink ∷ []) now (seats ++ seat ∷ [])
  seats_more first mid now [] [] sink seat made held waits last = (
    now,
    subst (λ (s : LiveState). now.held ≡ s.held) made held,
    subst (λ (s : LiveState). now.waiting ≤ s.waiting) made waits,
    subst (λ (s : LiveState). SeatMade state range s now sink seat) made last,
    refl,
  )
  seats_more first mid now [] (s ∷ seats) sink seat made held waits last = absurd made
  seats_more first mid now (k ∷ sinks) [] sink seat made held waits last = absurd made
  seats_more first mid now (k ∷ sinks) (s ∷ seats) sink seat made held waits last =
      (made.0, made.1, made.2, made.3, seats_more made.0 mid now sinks seats sink seat made.4 held waits last)

  pub seats_many : (first now : LiveState) (sinks : List K) (seats : List (Result (WatcherState X) (Unviewed K))) → SeatsMade state range first sinks now seats → length seats ≡ length sinks
  seats_many first now [] [] made = refl
  seats_many first now [] (s ∷ seats) made = absurd made
  seats_many first now (k ∷ sinks) [] made = absurd made
  seats_many first now (k ∷ sinks) (s ∷ seats) made = ap suc (seats_many made.0 now sinks seats made.4)

-- ---- finished

module _ {X K V : Type 0} (tells : X → Option (List ℕ)) (state : K → SinkState) (failures : V → ℕ) (told : List (Added X)) where
  views_more : (views : List V) (view : Option V) → map failures (views ++ at_most_one view) ≡ map failures views ++ at_most_one (failures_in failures view)
  views_more views None = map-append failures views []
  views_more views (Some view) = map-append failures views (view ∷ [])

  pub ends_none : (sinks : List K) (views : List V) (reports : List WatchReport) → sinks ≡ [] → views ≡ [] → reports ≡ [] → SeatsEnd {X = X} tells state told [] (map state sinks) (map failures views) reports
  ends_none sinks views reports no_sinks no_views no_reports = record {
    left = [];
    each = tt;
    sinks_are = ap (map state) no_sinks;
    views_are = ap (map failures) no_views;
    reports_are = no_reports;
  }

  -- what is left of one more stands behind what is left of the others
  pub ends_more : (seats : List (Result (WatcherState X) (Unviewed K))) (seat : Result (WatcherState X) (Unviewed K)) (sinks put_sinks : List K) (views put_views : List V) (reports put_reports : List WatchReport) (sink : K) (view : Option V) (report : WatchReport)
      → SeatsEnd tells state told seats (map state sinks) (map failures views) reports → SeatEnds tells state told seat (state sink) (failures_in failures view) report
      → put_sinks ≡ sinks ++ sink ∷ [] → put_views ≡ views ++ at_most_one view → put_reports ≡ reports ++ report ∷ []
      → SeatsEnd tells state told (seats ++ seat ∷ []) (map state put_sinks) (map failures put_views) put_reports
  ends_more seats seat sinks put_sinks views put_views reports put_reports sink view report all ends sinks_put views_put reports_put =
      let it : LeftState = record { sink = state sink; view = failures_in failures view; report = report } in
      let seen : List ℕ = at_most_one (failures_in failures view) in
      let lists : List (List ℕ) = map (λ (l : LeftState). at_most_one l.view) all.left in
      record {
        left = all.left ++ it ∷ [];
        each = zip_push (λ (s : Result (WatcherState X) (Unviewed K)) (l : LeftState). SeatEnds tells state told s l.sink l.view l.report) seats all.left seat it all.each ends;
        sinks_are =
            ap (map state) sinks_put ∙ map-append state sinks (sink ∷ []) ∙ ap (λ (l : List SinkState). l ++ state sink ∷ []) all.sinks_are
            ∙ sym (map-append (λ (l : LeftState). l.sink) all.left (it ∷ []));
        views_are =
            ap (map failures) views_put ∙ views_more views view ∙ ap (λ (l : List ℕ). l ++ seen) all.views_are
            ∙ ap (λ (l : List ℕ). concat lists ++ l) (sym (append-nil seen)) ∙ sym (concat-append lists (seen ∷ []))
            ∙ ap concat (sym (map-append (λ (l : LeftState). at_most_one l.view) all.left (it ∷ [])));
        reports_are =
            reports_put ∙ ap (λ (l : List WatchReport). l ++ report ∷ []) all.reports_are
            ∙ sym (map-append (λ (l : LeftState). l.report) all.left (it ∷ []));
      }
