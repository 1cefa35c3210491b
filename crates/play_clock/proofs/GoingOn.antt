-- What a whole script shows in which no line seeks.
use Rattle.std.proofs.Common.{◌≡◌, ℕ, zero, suc, ◌+◌, ◌-◌, ◌<◌, ◌≤◌, false, List, [], ◌∷◌, ◌++◌, length, take, drop, get_or, refl, sym, ap, subst, inl, inr, ◌∙◌, arith, append_assoc, take-add}
use Rattle.std.proofs.lemmas.List.{length-append}
use Rattle.std.proofs.lemmas.Bool.{cases_lt}
use Rattle.mcap_model.specs.Places.{At}
use Rattle.mcap_model.proofs.Places.{at_none, at_within, at_read, at_kept}
use Rattle.mcap_model.proofs.OneMore.{taken_more}
use Rattle.std.proofs.lemmas.List.{take-append-drop}
use Rattle.time_player.specs.declared.timed_lines.Stretch.{Stretch}
use Rattle.play_clock.specs.declared.line.Line.{Line}
use Rattle.play_clock.specs.declared.line.Kind.TheVariants as kinds
use Rattle.play_clock.specs.Times.{TimesRise}
use Rattle.play_clock.specs.Played.{IsShown, PlaysScript, is_seek}
use Rattle.play_clock.specs.Laws.{SeekNone, ScriptsGoOn}
use Rattle.play_clock.proofs.Consequences.{shown_once}

-- lines up to a later one go through an earlier one
through : (lines : List Line) (i k : ℕ) (line : Line) → i < k → At lines i line → (between : List Line) × (take k lines ≡ take i lines ++ line ∷ between)
through lines i k line less at =
    let rest : List Line = take (k - (i + 1)) (drop (i + 1) lines) in
    let sum : i + 1 + (k - (i + 1)) ≡ k = omega (arith, less) in (
      rest,
      ap (λ (n : ℕ). take n lines) (sym sum)
          ∙ take-add (i + 1) (k - (i + 1)) lines
          ∙ ap (λ (l : List Line). l ++ rest) (taken_more lines i line at)
          ∙ append_assoc (take i lines) (line ∷ []) rest,
    )

none_taken : (lines : List Line) (n : ℕ) → SeekNone lines → SeekNone (take n lines)
none_taken lines n none j l at = none j l (subst (λ (ls : List Line). At ls j l) (take-append-drop n lines) (at_kept (take n lines) (drop n lines) j l at))

any_line : Line
any_line = record { kind = kinds.At; moment = 0 }

line_there : (lines : List Line) (stretches : List Stretch) (i : ℕ) (s : Stretch) → length stretches ≡ length lines → At stretches i s → (line : Line) × At lines i line
line_there lines stretches i s same at = (get_or lines i any_line, at_read lines i any_line (let within = at_within stretches i s at in omega (arith, within, same)))

pub scripts_go_on : ScriptsGoOn
scripts_go_on times lines stretches rise none plays i k m n s t less at there from_m to_m from_n to_n =
    let first = line_there lines stretches i s plays.many at in
    let second = line_there lines stretches k t plays.many there in
    let one = plays.plays i first.0 s first.1 at in
    let two = plays.plays k second.0 t second.1 there in
    let cut = through lines i k first.0 less first.1 in
    let shown = one.shown m from_m to_m in
    let again : IsShown (get_or times 0 0) (take i lines ++ first.0 ∷ cut.0) second.0 (get_or times n 0) =
    subst (λ (ls : List Line). IsShown (get_or times 0 0) ls second.0 (get_or times n 0)) cut.1 (two.shown n from_n to_n) in
    let whole : take (k + 1) lines ≡ take i lines ++ first.0 ∷ (cut.0 ++ second.0 ∷ []) =
    taken_more lines k second.0 second.1 ∙ ap (λ (l : List Line). l ++ second.0 ∷ []) cut.1 ∙ append_assoc (take i lines) (first.0 ∷ cut.0) (second.0 ∷ []) in
    let earlier = shown_once (get_or times 0 0) (take i lines) cut.0 first.0 second.0 (get_or times m 0) (get_or times n 0) (subst SeekNone whole (none_taken lines (k + 1) none)) shown again in
    elim (cases_lt m n) [
      | inl lt ↦ lt
      | inr le ↦ absurd (let order = rise n m le (let within = one.within in omega (arith, to_m, within)) in omega (arith, earlier, order))
    ]
