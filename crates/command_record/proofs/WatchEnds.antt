-- Why watchers end, and which watch files are blamed.
use Rattle.std.proofs.Common.{◌≡◌, ◌⊎◌, ℕ, zero, suc, ◌+◌, ◌<◌, ◌≤◌, Bool, true, false, ◌||◌, List, [], ◌∷◌, ◌++◌, length, map, take, drop, set, get_or, Option, Some, None, refl, sym, ap, subst, inl, inr, ◌∙◌, arith}
use Rattle.std.specs.List.{list_any, sum, concat}
use Rattle.std.proofs.Math.Seq.{drop-length}
use Rattle.std.proofs.lemmas.Bool.{both_ways}
use Rattle.std.proofs.lemmas.List.{append-nil}
use Rattle.std.proofs.lemmas.Option.{same_Some, none-some}
use Rattle.mcap_io.specs.Outside.{RisesOnce, SinkState, LiveState, Opening}
use Rattle.mcap_io.specs.declared.outside.ObjectKind.{ObjectKind}
use Rattle.mcap_io.specs.declared.outside.ObjectKind.TheVariants as kinds
use Rattle.mcap_model.specs.declared.ends.End.{End}
use Rattle.mcap_model.specs.declared.replay.Range.{Range}
use Rattle.mcap_model.specs.Places.{At, Each}
use Rattle.mcap_model.proofs.Places.{at_none}
use Rattle.live_entry.specs.declared.entry.Entry.{Entry}
use Rattle.live_directory.specs.declared.front.Added.{Added}
use Rattle.live_directory.specs.Published.{entries_of, end_of, at_most_one}
use Rattle.live_watcher.specs.declared.report.WatchReport.{WatchReport}
use Rattle.live_watcher.specs.declared.report.WatchEnd.{WatchEnd}
use Rattle.live_watcher.specs.declared.report.WatchEnd.TheVariants as watch_ends
use Rattle.live_watcher.specs.Text.{SealState, sealed_by, unsealed}
use Rattle.live_watcher.specs.Watching.{unwritten, written_by, IsQuiet, IsUntold, WritesTo}
use Rattle.live_recording.specs.Watched.{Watch, AsksView, AsksViews}
use Rattle.live_recording.specs.WatchedSteps.{seal_by, seal_of, WatchTells}
use Rattle.command_base.specs.Ran.{has_failed, object_faults, world_faults}
use Rattle.command_base.specs.Outputs.{some_failed}
use Rattle.command_record.specs.Sinks.{SinkKept, sink_entry, back_sinks, sink_faults, watch_faults}
use Rattle.command_record.specs.Watched.{FaultCause, IsCalm, EndsSo, view_faults, is_watch_fault, is_flaw, with_ends}
use Rattle.command_record.specs.WatchedSteps.{or_at}
use Rattle.command_record.proofs.Flags.{failing, told_object, or_first, or_second, which, some_more, AreKind, rest_kind}
use Rattle.command_record.proofs.KeptSinks.{take_whole, sum_more}

-- ---- answers

abbrev pub ended_so : WatchReport → Bool
ended_so r = is_watch_fault r.end

pub ends_nothing : (bs : List Bool) → with_ends bs [] ≡ bs
ends_nothing [] = refl
ends_nothing (b ∷ bs) = ap (λ (l : List Bool). b ∷ l) (ends_nothing bs)

pub ends_why : (bs : List Bool) (rs : List WatchReport) → some_failed (with_ends bs rs) ≡ true → (some_failed bs ≡ true) ⊎ (list_any ended_so rs ≡ true)
ends_why [] rs is = absurd (both_ways false refl is)
ends_why (b ∷ bs) [] is = inl (ap some_failed (sym (ends_nothing (b ∷ bs))) ∙ is)
ends_why (b ∷ bs) (r ∷ rs) is = elim (which (b || ended_so r) (some_failed (with_ends bs rs)) is) [
  | inl first ↦ elim (which b (ended_so r) first) [
    | inl one ↦ inl (or_first b (some_failed bs) one)
    | inr two ↦ inr (or_first (ended_so r) (list_any ended_so rs) two)
  ]
  | inr later ↦ elim (ends_why bs rs later) [
    | inl one ↦ inl (or_second b (some_failed bs) one)
    | inr two ↦ inr (or_second (ended_so r) (list_any ended_so rs) two)
  ]
]

pub ends_first : (bs : List Bool) (rs : List WatchReport) → some_failed bs ≡ true → some_failed (with_ends bs rs) ≡ true
ends_first [] rs is = absurd (both_ways false refl is)
ends_first (b ∷ bs) [] is = ap some_failed (ends_nothing (b ∷ bs)) ∙ is
ends_first (b ∷ bs) (r ∷ rs) is = elim (which b (some_failed bs) is) [
  | inl first ↦ or_first (b || ended_so r) (some_failed (with_ends bs rs)) (or_first b (ended_so r) first)
  | inr later ↦ or_second (b || ended_so r) (some_failed (with_ends bs rs)) (ends_first bs rs later)
]

pub ends_second : (bs : List Bool) (rs : List WatchReport) → length bs ≡ length rs → list_any ended_so rs ≡ true → some_failed (with_ends bs rs) ≡ true
ends_second bs [] same is = absurd (both_ways false refl is)
ends_second [] (r ∷ rs) same is = absurd (omega (arith, same))
ends_second (b ∷ bs) (r ∷ rs) same is = elim (which (ended_so r) (list_any ended_so rs) is) [
  | inl first ↦ or_first (b || ended_so r) (some_failed (with_ends bs rs)) (or_second b (ended_so r) first)
  | inr later ↦ or_second (b || ended_so r) (some_failed (with_ends bs rs)) (ends_second bs rs (omega (arith, same)) later)
]

pub or_at_within : (bs : List Bool) (n : ℕ) (other e : Bool) → n < length bs → or_at bs n e ≡ set bs n (get_or bs n other || e)
or_at_within [] n other e within = absurd (omega (arith, within))
or_at_within (b ∷ bs) zero other e within = refl
or_at_within (b ∷ bs) (suc n) other e within = ap (λ (l : List Bool). b ∷ l) (or_at_within bs n other e (omega (arith, within)))

pub or_at_past : (bs : List Bool) (n : ℕ) (e : Bool) → length bs ≤ n → or_at bs n e ≡ bs
or_at_past [] n e past = refl
or_at_past (b ∷ bs) zero e past = absurd (omega (arith, past))
or_at_past (b ∷ bs) (suc n) e past = ap (λ (l : List Bool). b ∷ l) (or_at_past bs n e (omega (arith, past)))

-- the answer of one more report is added
pub ends_more : (bs : List Bool) (rs : List WatchReport) (n : ℕ) (r : WatchReport) → At rs n r → or_at (with_ends bs (take n rs)) n (is_watch_fault r.end) ≡ with_ends bs (take (suc n) rs)
ends_more [] rs n r at = refl
ends_more (b ∷ bs) [] n r at = absurd (at_none n r at)
ends_more (b ∷ bs) (x ∷ rs) zero r at = ap (λ (y : WatchReport). (b || ended_so y) ∷ with_ends bs []) (sym (same_Some x r at))
ends_more (b ∷ bs) (x ∷ rs) (suc n) r at = ap (λ (l : List Bool). (b || ended_so x) ∷ l) (ends_more bs rs n r at)

-- all of a list was written over
pub written_over : (len : ℕ) (new old : List Bool) → length new ≡ length old → len ≡ length old → take len (new ++ drop (length new) old) ≡ new
written_over len new old same size =
    ap (λ (n : ℕ). take len (new ++ drop n old)) same ∙ ap (λ (l : List Bool). take len (new ++ l)) (drop-length old) ∙ ap (take len) (append-nil new) ∙ ap (λ (n : ℕ). take n new) (size ∙ sym same) ∙ take_whole new

-- ---- openings of sinks

faults_of : (kind : ObjectKind) (n : ℕ) → kind ≡ kinds.Sink → sink_faults kind n ≡ n
faults_of kind n is = ap (λ (k : ObjectKind). sink_faults k n) is

pub some_has_sink : (xs : List Opening) → AreKind kinds.Sink xs → some_failed (map has_failed xs) ≡ true → (1 ≤ world_faults xs) ⊎ (1 ≤ watch_faults xs)
some_has_sink [] are is = absurd (both_ways false refl is)
some_has_sink (x ∷ xs) are is = elim (which (has_failed x) (some_failed (map has_failed xs)) is) [
  | inl first ↦ elim (failing x.given x.kept first) [
    | inl world ↦ inl (omega (arith, world))
    | inr object ↦ inr (omega (arith, object, faults_of x.kind (object_faults x.kept) (are 0 x refl)))
  ]
  | inr later ↦ elim (some_has_sink xs (rest_kind kinds.Sink x xs are) later) [
    | inl world ↦ inl (omega (arith, world))
    | inr watches ↦ inr (omega (arith, watches))
  ]
]

pub sinks_have : (xs : List Opening) → AreKind kinds.Sink xs → 1 ≤ watch_faults xs → some_failed (map has_failed xs) ≡ true
sinks_have [] are some = absurd (omega (arith, some))
sinks_have (x ∷ xs) are some = elim (some_more (sink_faults x.kind (object_faults x.kept)) (watch_faults xs) some) [
  | inl first ↦ or_first (has_failed x) (some_failed (map has_failed xs)) (told_object x.given x.kept (omega (arith, first, faults_of x.kind (object_faults x.kept) (are 0 x refl))))
  | inr later ↦ or_second (has_failed x) (some_failed (map has_failed xs)) (sinks_have xs (rest_kind kinds.Sink x xs are) later)
]

-- ---- faults of watchers

abbrev pub sinks_total : List SinkState → ℕ
sinks_total [] = 0
sinks_total (s ∷ ss) = s.faults + sinks_total ss

pub sinks_watched : (ks : List SinkKept) → watch_faults (map sink_entry ks) ≡ sinks_total (back_sinks ks)
sinks_watched [] = refl
sinks_watched (k ∷ ks) = let more = sinks_watched ks in omega (arith, more)

abbrev faults_in : Option ℕ → ℕ
faults_in None = 0
faults_in (Some n) = n

one_view : (v : Option ℕ) (xs : List ℕ) → sum (at_most_one v ++ xs) ≡ faults_in v + sum xs
one_view None xs = omega arith
one_view (Some n) xs = sum_more n xs

view_more : (w : Watch) (ws : List Watch) → view_faults (w ∷ ws) ≡ faults_in w.view + view_faults ws
view_more w ws = one_view w.view (concat (map (λ (x : Watch). at_most_one x.view) ws))

-- those of one of them are among those of all
among : (ws : List Watch) (n : ℕ) (w : Watch) → At ws n w → (w.now.faults ≤ sinks_total (map (λ (x : Watch). x.now) ws)) × (faults_in w.view ≤ view_faults ws)
among [] n w at = absurd (at_none n w at)
among (x ∷ ws) zero w at =
    subst (λ (y : Watch). (y.now.faults ≤ sinks_total (map (λ (z : Watch). z.now) (x ∷ ws))) × (faults_in y.view ≤ view_faults (x ∷ ws))) (same_Some x w at) (omega arith, omega (arith, view_more x ws))
among (x ∷ ws) (suc n) w at = let more = among ws n w at in (omega (arith, more.0), omega (arith, more.1, view_more x ws))

-- what rose where a watcher ended at a fault
abbrev pub IsCause : LiveState → Watch → Type 0
IsCause viewed w = (1 ≤ w.now.faults) ⊎ ((1 ≤ faults_in w.view) ⊎ (1 ≤ viewed.faults))

fault_parts : (live viewed : LiveState) (w : Watch) (n : ℕ) → w.before.faults ≡ 0 → FaultCause live viewed w n → IsCause viewed w
fault_parts live viewed w n unused (inl (rises, is, view)) = inl (omega (arith, rises.once, unused))
fault_parts live viewed w n unused (inr (inl (rises, view, same))) = inr (inl (omega (arith, rises.once, ap faults_in view)))
fault_parts live viewed w n unused (inr (inr (none, same, rose, less))) = inr (inr (omega (arith, rose, less)))

end_cause : (live viewed : LiveState) (sealed : Bool) (w : Watch) (e : WatchEnd) → w.before.faults ≡ 0 → EndsSo live viewed sealed w e → is_watch_fault e ≡ true → IsCause viewed w
end_cause live viewed sealed w (watch_ends.Fault n) unused ends is = fault_parts live viewed w n unused ends
end_cause live viewed sealed w watch_ends.Whole unused ends is = absurd (both_ways false refl is)
end_cause live viewed sealed w watch_ends.Unsealed unused ends is = absurd (both_ways false refl is)
end_cause live viewed sealed w (watch_ends.Flaw rule offset) unused ends is = absurd (both_ways false refl is)
end_cause live viewed sealed w watch_ends.Memory unused ends is = absurd (both_ways false refl is)

calm_view : (w : Watch) (A : Type 0) → IsCalm w → 1 ≤ faults_in w.view → A
calm_view w A calm some = absurd (omega (arith, some, ap faults_in calm.0))

view_end : (live viewed : LiveState) (sealed : Bool) (w : Watch) (e : WatchEnd) → EndsSo live viewed sealed w e → 1 ≤ faults_in w.view → is_watch_fault e ≡ true
view_end live viewed sealed w (watch_ends.Fault n) ends some = refl
view_end live viewed sealed w watch_ends.Whole ends some = calm_view w _ ends.0 some
view_end live viewed sealed w watch_ends.Unsealed ends some = calm_view w _ ends.0 some
view_end live viewed sealed w (watch_ends.Flaw rule offset) ends some = calm_view w _ ends some
view_end live viewed sealed w watch_ends.Memory ends some = calm_view w _ ends some

fault_at : (ws : List Watch) → list_any ended_so (map (λ (w : Watch). w.report) ws) ≡ true → (n : ℕ) × (w : Watch) × At ws n w × (is_watch_fault w.report.end ≡ true)
fault_at [] is = absurd (both_ways false refl is)
fault_at (x ∷ ws) is = elim (which (ended_so x.report) (list_any ended_so (map (λ (w : Watch). w.report) ws)) is) [
  | inl first ↦ (0, x, refl, first)
  | inr later ↦ let more = fault_at ws later in (suc more.0, more.1, more.2, more.3)
]

module _ (live viewed : LiveState) (sealed : Bool) (ws : List Watch) (unused : Each (λ (w : Watch). w.before.faults ≡ 0) ws) (ends : Each (λ (w : Watch). EndsSo live viewed sealed w w.report.end) ws) where
  pub fault_shows : (n : ℕ) (w : Watch) → At ws n w → is_watch_fault w.report.end ≡ true → (1 ≤ viewed.faults) ⊎ (1 ≤ sinks_total (map (λ (x : Watch). x.now) ws) + view_faults ws)
  fault_shows n w at is =
      let within = among ws n w at in
      elim (end_cause live viewed sealed w w.report.end (unused n w at) (ends n w at) is) [
        | inl sink ↦ inr (omega (arith, sink, within.0))
        | inr (inl view) ↦ inr (omega (arith, view, within.1))
        | inr (inr store) ↦ inl store
      ]

  pub faults_show : list_any ended_so (map (λ (w : Watch). w.report) ws) ≡ true → (1 ≤ viewed.faults) ⊎ (1 ≤ sinks_total (map (λ (x : Watch). x.now) ws) + view_faults ws)
  faults_show is = let found = fault_at ws is in fault_shows found.0 found.1 found.2 found.3

pub views_told : (live viewed : LiveState) (sealed : Bool) (ws : List Watch) → Each (λ (w : Watch). EndsSo live viewed sealed w w.report.end) ws → 1 ≤ view_faults ws → list_any ended_so (map (λ (w : Watch). w.report) ws) ≡ true
views_told live viewed sealed [] ends some = absurd (omega (arith, some))
views_told live viewed sealed (w ∷ ws) ends some = elim (some_more (faults_in w.view) (view_faults ws) (omega (arith, some, view_more w ws))) [
  | inl first ↦ or_first (ended_so w.report) (list_any ended_so (map (λ (x : Watch). x.report) ws)) (view_end live viewed sealed w w.report.end (ends 0 w refl) first)
  | inr later ↦ or_second (ended_so w.report) (list_any ended_so (map (λ (x : Watch). x.report) ws)) (views_told live viewed sealed ws (λ n x at. ends (suc n) x at) later)
]

-- ---- a store that is asked for views

asks_later : (before now : LiveState) (v : Option ℕ) (report : WatchReport) → AsksView before now v report → before.faults ≤ now.faults
asks_later before now (Some n) report asks = omega (arith, asks)
asks_later before now None report asks = asks.0.later

pub views_later : (before : LiveState) (ws : List Watch) (now : LiveState) → AsksViews before ws now → before.faults ≤ now.faults
views_later before [] now asks = omega (arith, ap (λ (l : LiveState). l.faults) asks)
views_later before (w ∷ ws) now (mid, held, waits, asks, more) = let first = asks_later before mid w.view w.report asks in let rest = views_later mid ws now more in omega (arith, first, rest)

pub views_hold : (before : LiveState) (ws : List Watch) (now : LiveState) → AsksViews before ws now → now.held ≡ before.held
views_hold before [] now asks = ap (λ (l : LiveState). l.held) asks
views_hold before (w ∷ ws) now (mid, held, waits, asks, more) = views_hold mid ws now more ∙ held

-- what was asked for one of them
abbrev pub AskedFor : LiveState → LiveState → Watch → Type 0
AskedFor before now w = (from to : LiveState) × (before.faults ≤ from.faults) × (to.faults ≤ now.faults) × AsksView from to w.view w.report

pub asked_for : (before : LiveState) (ws : List Watch) (now : LiveState) → AsksViews before ws now → (n : ℕ) (w : Watch) → At ws n w → AskedFor before now w
asked_for before [] now asks n w at = absurd (at_none n w at)
asked_for before (x ∷ ws) now (mid, held, waits, asks, more) zero w at = subst (AskedFor before now) (same_Some x w at) (before, mid, omega arith, views_later mid ws now more, asks)
asked_for before (x ∷ ws) now (mid, held, waits, asks, more) (suc n) w at =
    let (from, to, first, last, is) = asked_for mid ws now more n w at in
    (from, to, omega (arith, first, asks_later before mid x.view x.report asks), last, is)

-- ---- the end of one watcher

not_true : (b : Bool) → (b ≡ true → ⊥) → b ≡ false
not_true true other = absurd (other refl)
not_true false other = refl

not_false : (b : Bool) → (b ≡ false → ⊥) → b ≡ true
not_false true other = refl
not_false false other = absurd (other refl)

abbrev some_count : ℕ → Option ℕ
some_count n = Some n

module _ {X : Type 0} (tells : X → Option (List ℕ)) (range : Range) (live viewed : LiveState) (sealed : Bool) (w : Watch) where
  calm_so : (failures : ℕ) → w.view ≡ Some failures → IsQuiet (unwritten w.before 0) (written_by w.now failures w.report) → IsCalm w
  calm_so failures view quiet = (view ∙ ap some_count quiet.view, quiet.sink)

  wrote_so : (failures : ℕ) (entries : List (Entry X)) (ending : SealState) (e : WatchEnd) → w.view ≡ Some failures → (ending ≡ unsealed → sealed ≡ false) → ((end : End) → ending ≡ sealed_by end → sealed ≡ true)
      → WritesTo tells range entries ending (unwritten w.before 0) (written_by w.now failures w.report) (Some e) → EndsSo live viewed sealed w e
  wrote_so failures entries ending watch_ends.Whole view closed told wrote = (calm_so failures view wrote.0, told wrote.1.0 wrote.1.1)
  wrote_so failures entries ending watch_ends.Unsealed view closed told wrote = (calm_so failures view wrote.0, closed wrote.1)
  wrote_so failures entries ending (watch_ends.Fault n) view closed told (inl ((rises, is, still), part)) = inl (rises, is, view ∙ ap some_count still)
  wrote_so failures entries ending (watch_ends.Fault n) view closed told (inr ((rises, is, same), fronts)) = inr (inl (subst (RisesOnce 0) (sym is) rises, view ∙ ap some_count (sym is), same))
  wrote_so failures entries ending (watch_ends.Flaw rule offset) view closed told wrote = calm_so failures view wrote.0
  wrote_so failures entries ending watch_ends.Memory view closed told wrote = calm_so failures view wrote.0

  -- how the directory is seen to end is what the recording tells
  unclosed_so : (o : Option End) → (sealed ≡ true → (end : End) × (o ≡ Some end)) → seal_by o ≡ unsealed → sealed ≡ false
  unclosed_so None some is = not_true sealed (λ yes. none-some (some yes).0 (some yes).1)
  unclosed_so (Some end) some is = absurd (cc is)

  closed_so : (o : Option End) (end : End) → (sealed ≡ false → o ≡ None) → seal_by o ≡ sealed_by end → sealed ≡ true
  closed_so None end none is = absurd (cc is)
  closed_so (Some other) end none is = not_false sealed (λ no. none-some other (sym (none no)))

  ended_of : (note : List (Added X)) (view : Option ℕ) → w.view ≡ view → (sealed ≡ true → (end : End) × (end_of note ≡ Some end)) → (sealed ≡ false → end_of note ≡ None)
      → (from to : LiveState) → live.faults ≤ from.faults → to.faults ≤ viewed.faults → AsksView from to view w.report → WatchTells tells range note w.before w.now view w.report → EndsSo live viewed sealed w w.report.end
  ended_of note None is some none from to first last asks tells_so =
      subst (EndsSo live viewed sealed w) (sym asks.1.end_is) (inr (inr (is, tells_so, omega (arith, first, asks.0.once), last)))
  ended_of note (Some failures) is some none from to first last asks tells_so =
      wrote_so failures (entries_of note) (seal_of note) w.report.end is (unclosed_so (end_of note) some) (λ end. closed_so (end_of note) end none) tells_so

  pub ended : (note : List (Added X)) → (sealed ≡ true → (end : End) × (end_of note ≡ Some end)) → (sealed ≡ false → end_of note ≡ None) → AskedFor live viewed w
      → WatchTells tells range note w.before w.now w.view w.report → EndsSo live viewed sealed w w.report.end
  ended note some none (from, to, first, last, asks) tells_so = ended_of note w.view refl some none from to first last asks tells_so

  -- ---- no flaw where the extents tell

  unflawed_so : (failures : ℕ) (entries : List (Entry X)) (ending : SealState) (e : WatchEnd) → (IsUntold tells entries → ⊥)
      → WritesTo tells range entries ending (unwritten w.before 0) (written_by w.now failures w.report) (Some e) → is_flaw e ≡ false
  unflawed_so failures entries ending watch_ends.Whole told wrote = refl
  unflawed_so failures entries ending watch_ends.Unsealed told wrote = refl
  unflawed_so failures entries ending (watch_ends.Fault n) told wrote = refl
  unflawed_so failures entries ending (watch_ends.Flaw rule offset) told wrote = absurd (told wrote.1)
  unflawed_so failures entries ending watch_ends.Memory told wrote = refl

  unflawed_of : (note : List (Added X)) (view : Option ℕ) → (IsUntold tells (entries_of note) → ⊥)
      → (from to : LiveState) → AsksView from to view w.report → WatchTells tells range note w.before w.now view w.report → is_flaw w.report.end ≡ false
  unflawed_of note None told from to asks tells_so = ap is_flaw asks.1.end_is
  unflawed_of note (Some failures) told from to asks tells_so = unflawed_so failures (entries_of note) (seal_of note) w.report.end told tells_so

  pub unflawed : (note : List (Added X)) → (IsUntold tells (entries_of note) → ⊥) → AskedFor live viewed w
      → WatchTells tells range note w.before w.now w.view w.report → is_flaw w.report.end ≡ false
  unflawed note told (from, to, first, last, asks) tells_so = unflawed_of note w.view told from to asks tells_so
