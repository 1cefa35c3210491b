-- A printing of what was filtered shows what one of the input shows with the same options.
use Rattle.std.proofs.Common.{◌≡◌, ℕ, suc, ◌<◌, Bool, true, List, [], ◌∷◌, Option, Some, None, refl, sym, ap, subst, inl, inr, ◌∙◌, arith}
use Rattle.std.specs.Prelude.{filter, AllPairs}
use Rattle.std.specs.List.{AllZip}
use Rattle.std.specs.Cmp.Lexicographic.{bytes_decides}
use Rattle.std.proofs.lemmas.Bool.{cases_order, and_parts, and_from}
use Rattle.std.proofs.lemmas.List.Kept.{AllPairs-filter}
use Rattle.std.proofs.lemmas.Option.{same_Some}
use Rattle.mcap_model.specs.declared.replay.Place.{Place}
use Rattle.mcap_model.specs.Places.{At, Has, Each}
use Rattle.mcap_model.specs.Tops.{Top}
use Rattle.mcap_model.specs.Fields.{MessageFields}
use Rattle.mcap_model.specs.Kept.{Good, reading_limits}
use Rattle.mcap_model.specs.Scan.{Seen, Scan, OnTopic, IsAsked, PlaceBefore, ComesBefore, Replay, is_within}
use Rattle.mcap_model.proofs.Flat.{good_lists_are_scanned}
use Rattle.mcap_model.proofs.Lists.{pairs_at, pairs_from, filter_passed, filter_has}
use Rattle.mcap_model.proofs.NamedTopics.{zip_front, zip_back}
use Rattle.mcap_model.proofs.Places.{at_one}
use Rattle.mcap_model.proofs.PlacesApart.{scan_rises}
use Rattle.mcap_model.proofs.Readings.{kept_once}
use Rattle.mcap_model.proofs.Replays.{range_decided}
use Rattle.mcap_model.proofs.Rising.{replays_are_one}
use Rattle.time_player.specs.Asking.{is_asked, is_topic}
use Rattle.mcap_filter.specs.Picked.{Asking}
use Rattle.mcap_app.specs.Laws.{everything}
use Rattle.mcap_app.specs.FilteredFiles.{SameButPlace, those_asked, FilteredAreAsked, FilteredReplaysAreOne}

-- ---- what is asked for, as a test

topic_so : (asked : Option (List ℕ)) (topic : List ℕ) → is_topic asked topic ≡ true → OnTopic asked topic
topic_so None topic test t is = absurd cc
topic_so (Some name) topic test t is = (bytes_decides topic name).0 test ∙ same_Some name t is

so_topic : (asked : Option (List ℕ)) (topic : List ℕ) → OnTopic asked topic → is_topic asked topic ≡ true
so_topic None topic on = refl
so_topic (Some name) topic on = (bytes_decides topic name).1 (on name refl)

asked_so : (a : Asking) (s : Seen) → is_asked a.range a.topic s ≡ true → IsAsked a.range a.topic s
asked_so a s test =
    let parts = and_parts (is_within a.range s.message.log_time) (is_topic a.topic s.topic) test in
    ((range_decided a.range s.message.log_time).0 parts.0, topic_so a.topic s.topic parts.1)

so_asked : (a : Asking) (s : Seen) → IsAsked a.range a.topic s → is_asked a.range a.topic s ≡ true
so_asked a s asked =
    and_from (is_within a.range s.message.log_time) (is_topic a.topic s.topic) ((range_decided a.range s.message.log_time).1 asked.0) (so_topic a.topic s.topic asked.1)

all_asked : (s : Seen) → IsAsked everything.range everything.topic s
all_asked s = (record { from = omega arith; before = λ end is. absurd (cc) }, λ t is. absurd (cc))

-- ---- places

place_twice : (p q : Place) → PlaceBefore p q → PlaceBefore q p → ⊥
place_twice p q (inl less) (inl more) = omega (arith, less, more)
place_twice p q (inl less) (inr more) = omega (arith, less, more.0)
place_twice p q (inr less) (inl more) = omega (arith, less.0, more)
place_twice p q (inr less) (inr more) = omega (arith, less.1, more.1)

place_itself : (p : Place) → PlaceBefore p p → ⊥
place_itself p before = place_twice p p before before

-- messages rise by their places
abbrev Rise : List Seen → Type 0
Rise messages = AllPairs (λ (s : Seen) (r : Seen). PlaceBefore s.place r.place) messages

-- where they do, one that stands before another comes before it
comes_first : (messages : List Seen) (i j : ℕ) (s r : Seen) → Rise messages → At messages i s → At messages j r → PlaceBefore s.place r.place → i < j
comes_first messages i j s r rise at_s at_r before = elim (cases_order i j) [
  | inl same ↦ absurd (place_itself r.place (subst (λ (x : Seen). PlaceBefore x.place r.place) (at_one messages j s r (subst (λ (k : ℕ). At messages k s) same at_s) at_r) before))
  | inr (inl less) ↦ less
  | inr (inr more) ↦ absurd (place_twice s.place r.place before (pairs_at (λ (x : Seen) (y : Seen). PlaceBefore x.place y.place) messages rise j i r s more at_r at_s))
]

-- and none stands twice
stands_once : (messages : List Seen) (i j : ℕ) (s : Seen) → Rise messages → At messages i s → At messages j s → i ≡ j
stands_once messages i j s rise here there = elim (cases_order i j) [
  | inl same ↦ same
  | inr (inl less) ↦ absurd (place_itself s.place (pairs_at (λ (x : Seen) (y : Seen). PlaceBefore x.place y.place) messages rise i j s s less here there))
  | inr (inr more) ↦ absurd (place_itself s.place (pairs_at (λ (x : Seen) (y : Seen). PlaceBefore x.place y.place) messages rise j i s s more there here))
]

rise_filtered : (test : Seen → Bool) (messages : List Seen) → Rise messages → Rise (filter test messages)
rise_filtered test messages rise = AllPairs-filter (λ (s : Seen) (r : Seen). PlaceBefore s.place r.place) test messages rise

-- ---- messages side by side

module _ (chosen found : List Seen) (zip : AllZip SameButPlace chosen found) (rise : Rise chosen) (rise_found : Rise found) where
  -- two messages stand at one place of both
  record Stand (x y : Seen) : Type 0 where
    at : ℕ
    here : At chosen at x
    there : At found at y
    same : SameButPlace x y

  -- the messages that stand where some do
  moved : (shown : List Seen) → Each (Has chosen) shown → (ys : List Seen) × AllZip Stand shown ys
  moved [] has = ([], tt)
  moved (x ∷ xs) has =
      let mine = has 0 x refl in
      let (y, there, same) = zip_front SameButPlace chosen found mine.0 x zip mine.1 in
      let (ys, rest) = moved xs (λ n z at. has (suc n) z at) in
      (y ∷ ys, (record { at = mine.0; here = mine.1; there = there; same = same }, rest))

  same_all : (xs ys : List Seen) → AllZip Stand xs ys → AllZip SameButPlace xs ys
  same_all [] [] all = tt
  same_all [] (y ∷ ys) all = absurd all
  same_all (x ∷ xs) [] all = absurd all
  same_all (x ∷ xs) (y ∷ ys) all = let stand = all.0 in (stand.same, same_all xs ys all.1)

  -- they come in one order
  comes_so : (x r y v : Seen) → Stand x y → Stand r v → ComesBefore x r → ComesBefore y v
  comes_so x r y v one other (inl less) = inl (omega (arith, less, ap (λ (m : MessageFields). m.log_time) one.same.message, ap (λ (m : MessageFields). m.log_time) other.same.message))
  comes_so x r y v one other (inr (time, before)) = inr (
    sym (ap (λ (m : MessageFields). m.log_time) one.same.message) ∙ time ∙ ap (λ (m : MessageFields). m.log_time) other.same.message,
    pairs_at (λ (s : Seen) (t : Seen). PlaceBefore s.place t.place) found rise_found one.at other.at y v (comes_first chosen one.at other.at x r rise one.here other.here before) one.there other.there,
  )

  moved_rise : (xs ys : List Seen) → AllZip Stand xs ys → AllPairs ComesBefore xs → AllPairs ComesBefore ys
  moved_rise xs ys all pairs = pairs_from ComesBefore ys (λ i j y v less at_y at_v.
      let (x, at_x, one) = zip_back Stand xs ys i y all at_y in
      let (r, at_r, other) = zip_back Stand xs ys j v all at_v in
      comes_so x r y v one other (pairs_at ComesBefore xs pairs i j x r less at_x at_r))

  -- all of them are shown where all that were chosen are
  moved_all : (xs ys : List Seen) → AllZip Stand xs ys → ((s : Seen) → Has chosen s → Has xs s) → (y : Seen) → Has found y → Has ys y
  moved_all xs ys all each y has =
      let (x, here, same) = zip_back SameButPlace chosen found has.0 y zip has.1 in
      let shown = each x (has.0, here) in
      let (v, at, stand) = zip_front Stand xs ys shown.0 x all shown.1 in
      let place : stand.at ≡ has.0 = stands_once chosen stand.at has.0 x rise stand.here here in
      let is : v ≡ y = at_one found has.0 v y (subst (λ (k : ℕ). At found k v) place stand.there) has.1 in
      (shown.0, subst (λ (s : Seen). At ys shown.0 s) is at)

  moved_from : (xs ys : List Seen) → AllZip Stand xs ys → (y : Seen) → Has ys y → Has found y
  moved_from xs ys all y has = let (x, at, stand) = zip_back Stand xs ys has.0 y all has.1 in (stand.at, stand.there)

  pub replayed : (shown again : List Seen) → Each (Has chosen) shown → ((s : Seen) → Has chosen s → Has shown s) → AllPairs ComesBefore shown → Replay everything.range everything.topic found again → AllZip SameButPlace shown again
  replayed shown again from each pairs replay =
      let (ys, all) = moved shown from in
      let other : Replay everything.range everything.topic found ys = record {
        rises = moved_rise shown ys all pairs;
        are = λ s has. (moved_from shown ys all s has, all_asked s);
        all = λ s has asked. moved_all shown ys all each s has;
      } in
      subst (AllZip SameButPlace shown) (replays_are_one everything.range everything.topic found ys again other replay) (same_all shown ys all)

-- ---- the law

pub filtered_replays_are_one : FilteredAreAsked → FilteredReplaysAreOne
filtered_replays_are_one are_asked asked bytes file answer is messages shown scan replay tops end halts found again file_scan later =
    let a = asked.asking in
    let it = are_asked asked bytes file answer is in
    let mine : it.messages ≡ messages = one_scan is.tops it.messages messages is.halts.kept.good it.scan scan in
    let same_tops : it.file_tops ≡ tops = kept_once file it.file_tops tops it.halts.kept halts.kept in
    let theirs : it.found ≡ found = one_scan tops it.found found halts.kept.good (subst (λ (ts : List Top). Scan ts it.found) same_tops it.file_scan) file_scan in
    let zip : AllZip SameButPlace (those_asked a messages) found = subst (λ (l : List Seen). AllZip SameButPlace (those_asked a messages) l) theirs (subst (λ (l : List Seen). AllZip SameButPlace (those_asked a l) it.found) mine it.are) in
    replayed (those_asked a messages) found zip (rise_filtered (is_asked a.range a.topic) messages (scan_rises is.tops messages scan)) (scan_rises tops found file_scan) shown again
    (λ n s at. let there = replay.are s (n, at) in filter_has (is_asked a.range a.topic) messages there.0.0 s there.0.1 (so_asked a s there.1))
    (λ s has. let passed = filter_passed (is_asked a.range a.topic) messages has.0 s has.1 in replay.all s passed.0 (asked_so a s passed.1))
    replay.rises later
  where
    one_scan : (ts : List Top) (xs ys : List Seen) → Good reading_limits ts → Scan ts xs → Scan ts ys → xs ≡ ys
    one_scan ts xs ys good one other = let (messages, scan, alone) = good_lists_are_scanned reading_limits ts good in alone xs one ∙ sym (alone ys other)
