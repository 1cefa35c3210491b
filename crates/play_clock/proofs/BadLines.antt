-- A script has no bad line.
use Rattle.std.proofs.Common.{◌≡◌, ℕ, zero, suc, ◌<◌, ◌≤◌, List, [], ◌∷◌, ◌++◌, length, get_or, refl, sym, ap, subst, ◌∙◌, append_assoc, arith, length-append}
use Rattle.std.specs.List.{AllZip, flat_map}
use Rattle.std.proofs.lemmas.List.{get_or_append_left}
use Rattle.play_clock.specs.declared.line.Line.{Line}
use Rattle.play_clock.specs.Script.{IsWordOf, MomentsRise, ended}
use Rattle.play_clock.specs.Laws.{ScriptsHaveNoBadLine}
use Rattle.play_clock.proofs.Cutting.{cut_once}
use Rattle.play_clock.proofs.LineWords.{words_lack, word_moment}

abbrev SameMoment : Line → Line → Type 0
SameMoment a b = a.moment ≡ b.moment

-- after the first lines of a script comes another one, and those have the moments of the lines that these bytes are read as
record GoesOn (lines front : List Line) (after : List ℕ) : Type 0 where
  word : List ℕ
  rest : List ℕ
  line : Line
  split : after ≡ ended word ++ rest
  is : IsWordOf word line
  same : List Line
  more : List Line
  are : lines ≡ (same ++ line ∷ []) ++ more
  moments : AllZip SameMoment same front

ended_some : (word others after : List ℕ) → [] ≡ (ended word ++ others) ++ after → ⊥
ended_some word others after none =
    let size = ap (λ (l : List ℕ). length l) none in
    omega (arith, size, length-append (ended word ++ others) after, length-append (ended word) others, length-append word (10 ∷ []))

goes_on : (words those : List (List ℕ)) (lines front : List Line) (after : List ℕ) → AllZip IsWordOf words lines → AllZip IsWordOf those front → flat_map ended words ≡ flat_map ended those ++ after → (after ≡ [] → ⊥) → GoesOn lines front after
goes_on words [] lines (m ∷ ms) after zip other split some = absurd other
goes_on [] [] lines [] after zip other split some = absurd (some (sym split))
goes_on (w ∷ ws) [] [] [] after zip other split some = absurd zip
goes_on (w ∷ ws) [] (l ∷ ls) [] after zip other split some =
    record { word = w; rest = flat_map ended ws; line = l; split = sym split; is = zip.0; same = []; more = ls; are = refl; moments = tt }
goes_on words (v ∷ vs) lines [] after zip other split some = absurd other
goes_on [] (v ∷ vs) lines (m ∷ ms) after zip other split some = absurd (ended_some v (flat_map ended vs) after split)
goes_on (w ∷ ws) (v ∷ vs) [] (m ∷ ms) after zip other split some = absurd zip
goes_on (w ∷ ws) (v ∷ vs) (l ∷ ls) (m ∷ ms) after zip other split some =
    let parts : w ++ 10 ∷ flat_map ended ws ≡ v ++ 10 ∷ (flat_map ended vs ++ after) =
    sym (append_assoc w (10 ∷ []) (flat_map ended ws)) ∙ split ∙ append_assoc (ended v) (flat_map ended vs) after ∙ append_assoc v (10 ∷ []) (flat_map ended vs ++ after) in
    let cut = cut_once 10 w v (flat_map ended ws) (flat_map ended vs ++ after) (words_lack w l zip.0) (words_lack v m other.0) parts in
    let on = goes_on ws vs ls ms after zip.1 other.1 cut.1 some in
    record {
      word = on.word;
      rest = on.rest;
      line = on.line;
      split = on.split;
      is = on.is;
      same = l ∷ on.same;
      more = on.more;
      are = ap (λ (x : List Line). l ∷ x) on.are;
      moments = (word_moment v l m (subst (λ (x : List ℕ). IsWordOf x l) cut.0 zip.0) other.0, on.moments);
    }

moment_at : (same front : List Line) (line d : Line) (i : ℕ) → AllZip SameMoment same front → (get_or (same ++ line ∷ []) i d).moment ≡ (get_or (front ++ line ∷ []) i d).moment
moment_at [] [] line d i zip = refl
moment_at [] (m ∷ ms) line d i zip = absurd zip
moment_at (l ∷ ls) [] line d i zip = absurd zip
moment_at (l ∷ ls) (m ∷ ms) line d zero zip = zip.0
moment_at (l ∷ ls) (m ∷ ms) line d (suc i) zip = moment_at ls ms line d i zip.1

as_many : (same front : List Line) → AllZip SameMoment same front → length same ≡ length front
as_many [] [] zip = refl
as_many [] (m ∷ ms) zip = absurd zip
as_many (l ∷ ls) [] zip = absurd zip
as_many (l ∷ ls) (m ∷ ms) zip = ap suc (as_many ls ms zip.1)

-- so that line may stand after these
rises_on : (lines front : List Line) (after : List ℕ) (on : GoesOn lines front after) → MomentsRise lines → MomentsRise (front ++ on.line ∷ [])
rises_on lines front after on rise i j d less within =
    let many = as_many on.same front on.moments in
    let to : j < length (on.same ++ on.line ∷ []) = omega (arith, within, many, length-append on.same (on.line ∷ []), length-append front (on.line ∷ [])) in
    let all = rise i j d less (subst (λ (l : List Line). j < length l) (sym on.are) (omega (arith, to, length-append (on.same ++ on.line ∷ []) on.more))) in
    let first = ap (λ (l : Line). l.moment) (ap (λ (l : List Line). get_or l i d) on.are ∙ get_or_append_left (on.same ++ on.line ∷ []) on.more d i (omega (arith, less, to))) ∙ moment_at on.same front on.line d i on.moments in
    let second = ap (λ (l : Line). l.moment) (ap (λ (l : List Line). get_or l j d) on.are ∙ get_or_append_left (on.same ++ on.line ∷ []) on.more d j to) ∙ moment_at on.same front on.line d j on.moments in
    omega (arith, all, first, second)

pub scripts_have_no_bad_line : ScriptsHaveNoBadLine
scripts_have_no_bad_line bytes lines number script bad =
    let whole = script.lines_are in
    let front = bad.lines_are in
    let parts : flat_map ended whole.words ≡ flat_map ended front.words ++ bad.after = sym whole.form ∙ bad.split ∙ ap (λ (l : List ℕ). l ++ bad.after) front.form in
    let on = goes_on whole.words front.words lines bad.lines bad.after whole.are front.are parts bad.some in
    bad.bad on.word on.rest on.line on.split on.is (rises_on lines bad.lines bad.after on script.rise)
