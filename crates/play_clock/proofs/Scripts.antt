-- Whole scripts: their rates fit, and what is shown at one line more.
use Rattle.std.proofs.Common.{◌≡◌, ◌⊎◌, ℕ, zero, suc, ◌+◌, ◌<◌, ◌≤◌, List, [], ◌∷◌, ◌++◌, length, take, get_or, refl, sym, ap, subst, inl, inr, ◌∙◌, arith}
use Rattle.std.specs.List.{AllZip}
use Rattle.std.proofs.lemmas.List.{length-append, take-append-le}
use Rattle.std.proofs.lemmas.Bool.{cases_lt}
use Rattle.std.proofs.Math.Seq.{take-append_seam}
use Rattle.mcap_model.specs.Places.{At, Each}
use Rattle.mcap_model.proofs.Places.{at_none, at_more, at_within, at_one, at_read}
use Rattle.time_player.specs.declared.timed_lines.Stretch.{Stretch}
use Rattle.time_player.specs.Stretches.{LiesWithin}
use Rattle.play_clock.specs.declared.line.Line.{Line}
use Rattle.play_clock.specs.declared.line.Kind.{Kind}
use Rattle.play_clock.specs.declared.line.Kind.TheVariants as kinds
use Rattle.play_clock.specs.Limits.{latest}
use Rattle.play_clock.specs.Script.{IsDigits, IsWordOf, IsScript, MomentsRise, amount, amounts_of}
use Rattle.mcap_model.proofs.OneMore.{taken_more}
use Rattle.play_clock.specs.declared.player.Player.{Player}
use Rattle.play_clock.specs.Played.{RateFits, Plays, PlaysScript}
use Rattle.play_clock.specs.Playing.{Stands}

-- ---- rates

abbrev pub FitsAt : Line → Type 0
FitsAt l = RateFits l.kind

numbers_fit : (k : Kind) (moment : ℕ) (numbers : List (List ℕ)) → AllZip IsDigits numbers (amount 0 latest moment ∷ amounts_of k) → RateFits k
numbers_fit kinds.At moment numbers zip = tt
numbers_fit kinds.Pause moment numbers zip = tt
numbers_fit kinds.Resume moment numbers zip = tt
numbers_fit (kinds.Seek time) moment numbers zip = tt
numbers_fit (kinds.Rate p q) moment [] zip = absurd zip
numbers_fit (kinds.Rate p q) moment (a ∷ []) zip = absurd zip.1
numbers_fit (kinds.Rate p q) moment (a ∷ b ∷ []) zip = absurd zip.1.1
numbers_fit (kinds.Rate p q) moment (a ∷ b ∷ d ∷ more) zip = let one = zip.1.0 in let two = zip.1.1.0 in (one.above, one.below, two.above, two.below)

words_fit : (words : List (List ℕ)) (lines : List Line) → AllZip IsWordOf words lines → Each FitsAt lines
words_fit [] [] zip n l at = absurd (at_none n l at)
words_fit [] (x ∷ xs) zip n l at = absurd zip
words_fit (w ∷ ws) [] zip n l at = absurd zip
words_fit (w ∷ ws) (x ∷ xs) zip zero l at = subst FitsAt (first x l at) (numbers_fit x.kind x.moment zip.0.numbers zip.0.are)
  where
    first : (a b : Line) → At (a ∷ xs) zero b → a ≡ b
    first a b is = cc
words_fit (w ∷ ws) (x ∷ xs) zip (suc n) l at = words_fit ws xs zip.1 n l at

pub scripts_fit : (bytes : List ℕ) (lines : List Line) → IsScript bytes lines → Each FitsAt lines
scripts_fit bytes lines script = let are = script.lines_are in words_fit are.words lines are.are

-- ---- moments

-- no line from that place on comes before the moment
abbrev pub ComesFrom : List Line → ℕ → ℕ → Type 0
ComesFrom lines place moment = (k : ℕ) (l : Line) → place ≤ k → At lines k l → moment ≤ l.moment

pub comes_first : (lines : List Line) (moment : ℕ) → moment ≡ 0 → ComesFrom lines 0 moment
comes_first lines moment none k l le at = omega (arith, none)

pub comes_on : (lines : List Line) (i moment : ℕ) (line : Line) → MomentsRise lines → At lines i line → moment ≡ line.moment → ComesFrom lines (i + 1) moment
comes_on lines i moment line rises here is k l le at =
    let less : i < k = omega (arith, le) in
    let within = at_within lines k l at in
    let both = rises i k l less within in
    let first = ap (λ (x : Line). x.moment) (at_one lines i (get_or lines i l) line (at_read lines i l (omega (arith, less, within))) here) in
    let second = ap (λ (x : Line). x.moment) (at_one lines k (get_or lines k l) l (at_read lines k l within) at) in
    omega (arith, both, first, second, is)

-- ---- one line more

pub script_none : (times : List ℕ) → PlaysScript times [] []
script_none times = record {
  many = refl;
  moments = λ k l s at there. absurd (at_none k l at);
  plays = λ k l s at there. absurd (at_none k l at);
}

pub script_more : (times : List ℕ) (lines : List Line) (stretches : List Stretch) (line : Line) (s : Stretch) → PlaysScript times lines stretches → s.moment ≡ line.moment → Plays times lines line s.from s.to
    → PlaysScript times (lines ++ line ∷ []) (stretches ++ s ∷ [])
script_more times lines stretches line s so_far same plays = record {
  many = let many = so_far.many in omega (arith, many, length-append lines (line ∷ []), length-append stretches (s ∷ []));
  moments = λ k l t at there. elim (both k l t at there) [
    | inl old ↦ so_far.moments k l t old.0 old.1
    | inr (last, is, too) ↦ ap (λ (x : Stretch). x.moment) too ∙ same ∙ ap (λ (x : Line). x.moment) (sym is)
  ];
  plays = λ k l t at there. elim (both k l t at there) [
    | inl old ↦
        let within = at_within lines k l old.0 in
        subst (λ (ls : List Line). Plays times ls l t.from t.to) (sym (take-append-le k lines (line ∷ []) (omega (arith, within)))) (so_far.plays k l t old.0 old.1)
    | inr (last, is, too) ↦
        let front : take k (lines ++ line ∷ []) ≡ lines = ap (λ (n : ℕ). take n (lines ++ line ∷ [])) last ∙ take-append_seam lines (line ∷ []) in
        subst (λ (ls : List Line). Plays times ls l t.from t.to) (sym front)
        (subst (λ (x : Line). Plays times lines x t.from t.to) (sym is) (subst (λ (x : Stretch). Plays times lines line x.from x.to) (sym too) plays))
  ];
}
  where
    both : (k : ℕ) (l : Line) (t : Stretch) → At (lines ++ line ∷ []) k l → At (stretches ++ s ∷ []) k t → (At lines k l × At stretches k t) ⊎ ((k ≡ length lines) × (l ≡ line) × (t ≡ s))
    both k l t at there = elim (at_more lines line k l at) [
      | inl old ↦ elim (at_more stretches s k t there) [
        | inl known ↦ inl (old, known)
        | inr (last, too) ↦ absurd (let within = at_within lines k l old in let many = so_far.many in omega (arith, within, last, many))
      ]
      | inr (last, is) ↦ elim (at_more stretches s k t there) [
        | inl known ↦ absurd (let within = at_within stretches k t known in let many = so_far.many in omega (arith, within, last, many))
        | inr (end, too) ↦ inr (last, is, too)
      ]
    ]

pub each_within : (many : ℕ) (stretches : List Stretch) (s : Stretch) → Each (LiesWithin many) stretches → s.from ≤ s.to → s.to ≤ many → Each (LiesWithin many) (stretches ++ s ∷ [])
each_within many stretches s each order within n t at = elim (at_more stretches s n t at) [
  | inl old ↦ each n t old
  | inr (last, is) ↦ subst (LiesWithin many) (sym is) (record { order = order; within = within })
]

-- ---- a step, at the place of a line

pub script_step : (times : List ℕ) (lines : List Line) (i : ℕ) (d : Line) (stretches new : List Stretch) (s : Stretch) → i < length lines → PlaysScript times (take i lines) stretches → Plays times (take i lines) (get_or lines i d) s.from s.to
    → s.moment ≡ (get_or lines i d).moment → new ≡ stretches ++ s ∷ [] → PlaysScript times (take (i + 1) lines) new
script_step times lines i d stretches new s within so_far plays same items =
    subst (λ (l : List Line). PlaysScript times l new) (sym (taken_more lines i (get_or lines i d) (at_read lines i d within)))
    (subst (PlaysScript times (take i lines ++ get_or lines i d ∷ [])) (sym items) (script_more times (take i lines) stretches (get_or lines i d) s so_far same plays))

pub stands_step : (times : List ℕ) (lines : List Line) (i : ℕ) (d : Line) (player : Player) → i < length lines → Stands times (take i lines ++ get_or lines i d ∷ []) player → Stands times (take (i + 1) lines) player
stands_step times lines i d player within stands =
    subst (λ (l : List Line). Stands times l player) (sym (taken_more lines i (get_or lines i d) (at_read lines i d within))) stands

pub comes_step : (lines : List Line) (i moment : ℕ) (d : Line) → MomentsRise lines → i < length lines → moment ≡ (get_or lines i d).moment → ComesFrom lines (i + 1) moment
comes_step lines i moment d rises within is = comes_on lines i moment (get_or lines i d) rises (at_read lines i d within) is

pub within_step : (times : List ℕ) (before : List Line) (line : Line) (stretches new : List Stretch) (s : Stretch) → Each (LiesWithin (length times)) stretches → Plays times before line s.from s.to → new ≡ stretches ++ s ∷ [] → Each (LiesWithin (length times)) new
within_step times before line stretches new s each plays items = subst (Each (LiesWithin (length times))) (sym items) (each_within (length times) stretches s each plays.order plays.within)
