-- The laws of scripts and replays.
use Rattle.std.proofs.Common.{◌≡◌, ◌⊎◌, ℕ, zero, suc, ◌+◌, ◌<◌, ◌≤◌, Bool, false, List, [], ◌∷◌, ◌++◌, length, take, get_or, map, refl, sym, ap, subst, inl, inr, ◌∙◌, append_assoc, arith}
use Rattle.std.specs.Prelude.{AllPairs}
use Rattle.std.proofs.Math.Seq.{take-append_seam}
use Rattle.std.proofs.lemmas.List.{length-append, length-map, get_or-map}
use Rattle.std.proofs.lemmas.Bool.{cases_order}
use Rattle.mcap_model.specs.Places.{At, Each, Has}
use Rattle.mcap_model.proofs.Places.{at_last, at_more, at_kept, at_within}
use Rattle.mcap_model.specs.declared.replay.Replayed.{Replayed}
use Rattle.mcap_model.specs.declared.replay.Shown.{Shown}
use Rattle.mcap_model.specs.Scan.{Seen, ComesBefore}
use Rattle.mcap_model.specs.Showing.{shown_as}
use Rattle.play_clock.specs.declared.line.Line.{Line}
use Rattle.play_clock.specs.declared.line.Kind.TheVariants as kinds
use Rattle.play_clock.specs.Times.{times_of, TimesRise}
use Rattle.play_clock.specs.Played.{IsValue, HasValue, IsShown, IsSince, is_seek}
use Rattle.play_clock.specs.Laws.{ValuesAreOne, LinesHaveValues, ShownWhenDue, ShownOnce, ReplaysRise, SeekNone, IsDueFirst}
use Rattle.play_clock.proofs.Values.{values_once, no_seek}

pub values_are_one : ValuesAreOne
values_are_one first before line v w one other = values_once first before line v w one other

pub shown_when_due : ShownWhenDue
shown_when_due first before line time none = (
  λ shown. record {
    value = shown.value;
    valued = shown.valued;
    due = shown.due;
    fresh = λ k earlier has. shown.fresh k earlier (at_within before k has.line has.at) (λ j l less at. none j l at) has;
  },
  λ due. record {
    value = due.value;
    valued = due.valued;
    due = due.due;
    sought = λ k l from at kind since. absurd (no_seek l from kind (none k l at));
    fresh = λ k earlier less since has. due.fresh k earlier has;
  },
)

pub shown_once : ShownOnce
shown_once first before between line after time other none shown again =
    let all = before ++ line ∷ between in
    let longer : length all ≡ length before + suc (length between) = length-append before (line ∷ between) in
    let regrouped : all ++ after ∷ [] ≡ before ++ line ∷ (between ++ after ∷ []) = append_assoc before (line ∷ between) (after ∷ []) in
    let has : HasValue first all (length before) shown.value = record {
      line = line;
      at = at_last before line between;
      is = subst (λ (l : List Line). IsValue first l line shown.value) (sym (front before (line ∷ between))) shown.valued;
    } in
    let fresh = again.fresh (length before) shown.value (omega (arith, longer)) (λ j l less at. none j l (subst (λ (ls : List Line). At ls j l) regrouped at)) has in
    let due = shown.due in
    omega (arith, due, fresh)
  where
    front : (xs ys : List Line) → take (length xs) (xs ++ ys) ≡ xs
    front xs ys = take-append_seam xs ys

-- ---- replays

head_time : (s r : Seen) → ComesBefore s r → s.message.log_time ≤ r.message.log_time
head_time s r (inl less) = omega (arith, less)
head_time s r (inr (same, place)) = omega (arith, same)

times_map : (messages : List Seen) → times_of (map shown_as messages) ≡ map (λ (s : Seen). s.message.log_time) messages
times_map [] = refl
times_map (s ∷ ss) = ap (λ (l : List ℕ). s.message.log_time ∷ l) (times_map ss)

some_seen : (messages : List Seen) (j : ℕ) → j < length messages → Seen
some_seen [] j less = absurd (omega (arith, less))
some_seen (s ∷ ss) j less = s

abbrev pub time_of : Seen → ℕ
time_of s = s.message.log_time

pub rising : (shown : List Seen) → AllPairs ComesBefore shown → TimesRise (map time_of shown)
rising shown rises i j le within = elim (cases_order i j) [
  | inl same ↦ let equal = ap (λ (n : ℕ). get_or (map time_of shown) n 0) same in omega (arith, equal)
  | inr (inl less) ↦
      let short : j < length shown = omega (arith, within, length-map shown time_of) in
      let d = some_seen shown j short in
      let before = head_time (get_or shown i d) (get_or shown j d) (rises i j d less short) in
      omega (arith, before, get_or-map time_of shown i d 0 (omega (arith, less, short)), get_or-map time_of shown j d 0 short)
  | inr (inr more) ↦ absurd (omega (arith, le, more))
]

pub replays_rise : ReplaysRise
replays_rise range topic messages shown all replay shows =
    subst TimesRise (sym (ap times_of shows.shown ∙ times_map shown)) (rising shown replay.rises)
