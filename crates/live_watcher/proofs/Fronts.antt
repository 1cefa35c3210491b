-- The lines of fronts.
use Rattle.std.proofs.Common.{◌≡◌, ℕ, ◌-◌, ◌*◌, ◌<◌, ◌≤◌, List, [], ◌∷◌, ◌++◌, length, take, Some, inr, refl, sym, ap, subst, ◌∙◌, append_assoc, append-nil, arith}
use Rattle.std.specs.Prelude.{slice_get, List, Option}
use Rattle.std.specs.List.{AllZip, concat}
use Rattle.std.proofs.lemmas.List.{take-append-le}
use Rattle.std.proofs.lemmas.Option.{same_Some}
use mathlib.Core.List.{IsPrefix}
use Rattle.mcap_model.specs.declared.replay.Range.{Range}
use Rattle.mcap_model.proofs.Repairs.{zip_join}
use Rattle.live_entry.specs.declared.entry.Entry.{Entry}
use Rattle.live_directory.proofs.Beginnings.{prefix_length}
use Rattle.live_watcher.specs.Text.{Doubles, IsReplayText, FrontsTextOf}
use Rattle.live_watcher.specs.WatcherSteps.{IsFrontLineOf, last_or, IsTold}

-- ---- at least twice as many

doubles_more : (last : ℕ) (fronts : List ℕ) (n : ℕ) → 1 ≤ n → ((l : ℕ) → slice_get (last ∷ fronts) (length fronts) ≡ Some l → 2 * l ≤ n) → Doubles last fronts → Doubles last (fronts ++ n ∷ [])
doubles_more last [] n some below d = (some, below last refl, tt)
doubles_more last (m ∷ more) n some below d = (d.0, d.1, doubles_more m more n some (λ l is. below l is) d.2)

-- behind none
pub first_front : (fronts : List ℕ) (n : ℕ) → fronts ≡ [] → 1 ≤ n → Doubles 0 fronts → Doubles 0 (fronts ++ n ∷ [])
first_front fronts n none some d = subst (λ (l : List ℕ). Doubles 0 (l ++ n ∷ [])) (sym none) (some, omega (arith, some), tt)

last_of : (x : ℕ) (xs : List ℕ) (l last : ℕ) → 0 < length xs → slice_get (x ∷ xs) (length xs) ≡ Some l → slice_get xs (length xs - 1) ≡ Some last → l ≡ last
last_of x [] l last some is at = absurd (omega (arith, some))
last_of x (y ∷ ys) l last some is at =
    let place : length (y ∷ ys) - 1 ≡ length ys = omega arith in
    same_Some l last (sym is ∙ subst (λ (k : ℕ). slice_get (y ∷ ys) k ≡ Some last) place at)

-- behind the last of some
pub next_front : (fronts : List ℕ) (n last : ℕ) → 0 < length fronts → slice_get fronts (length fronts - 1) ≡ Some last → 1 ≤ n → 2 * last ≤ n → Doubles 0 fronts → Doubles 0 (fronts ++ n ∷ [])
next_front fronts n last there at some twice d =
    doubles_more 0 fronts n some (λ l is. let same = last_of 0 fronts l last there is at in omega (arith, same, twice)) d

-- one front more
concat_more : (lines : List (List ℕ)) (line : List ℕ) → concat (lines ++ line ∷ []) ≡ concat lines ++ line
concat_more [] line = append-nil line
concat_more (l ∷ ls) line = ap (λ (t : List ℕ). l ++ t) (concat_more ls line) ∙ sym (append_assoc l (concat ls) line)

-- ---- more entries

module _ {X : Type 0} where
  pub take_lift : (n : ℕ) (few more : List (Entry X)) → n ≤ length few → IsPrefix few more → take n more ≡ take n few
  take_lift n few more within p = ap (take n) (sym p.1) ∙ take-append-le n few p.0 within

  -- what stands behind the first blocks doesn't change their line
  pub line_lift : (tells : X → Option (List ℕ)) (range : Range) (few more : List (Entry X)) (n : ℕ) (line : List ℕ) → IsPrefix few more → IsFrontLineOf tells range few n line → IsFrontLineOf tells range more n line
  line_lift tells range few more n line p f = record {
    within = let longer = prefix_length few more p in let within = f.within in omega (arith, longer, within);
    count = f.count;
    text = f.text;
    replay = subst (λ (es : List (Entry X)). IsReplayText tells range es f.count f.text) (sym (take_lift n few more f.within p)) f.replay;
    line_is = f.line_is;
  }

  lines_lift : (tells : X → Option (List ℕ)) (range : Range) (few more : List (Entry X)) (fronts : List ℕ) (lines : List (List ℕ)) → IsPrefix few more → AllZip (IsFrontLineOf tells range few) fronts lines → AllZip (IsFrontLineOf tells range more) fronts lines
  lines_lift tells range few more [] [] p each = each
  lines_lift tells range few more [] (l ∷ ls) p each = each
  lines_lift tells range few more (n ∷ ns) [] p each = each
  lines_lift tells range few more (n ∷ ns) (l ∷ ls) p each = (line_lift tells range few more n l p each.0, lines_lift tells range few more ns ls p each.1)

  pub fronts_lift : (tells : X → Option (List ℕ)) (range : Range) (few more : List (Entry X)) (fronts text : List ℕ) → IsPrefix few more → FrontsTextOf tells range few fronts text → FrontsTextOf tells range more fronts text
  fronts_lift tells range few more fronts text p f = record {
    rise = f.rise;
    lines = f.lines;
    each = lines_lift tells range few more fronts f.lines p f.each;
    text_is = f.text_is;
  }

  pub fronts_more : (tells : X → Option (List ℕ)) (range : Range) (entries : List (Entry X)) (fronts text : List ℕ) (n : ℕ) (line : List ℕ) → (Doubles 0 fronts → Doubles 0 (fronts ++ n ∷ [])) → FrontsTextOf tells range entries fronts text
      → IsFrontLineOf tells range entries n line → FrontsTextOf tells range entries (fronts ++ n ∷ []) (text ++ line)
  fronts_more tells range entries fronts text n line follows f is = record {
    rise = follows f.rise;
    lines = f.lines ++ line ∷ [];
    each = zip_join (IsFrontLineOf tells range entries) fronts (n ∷ []) f.lines (line ∷ []) f.each (is, tt);
    text_is = ap (λ (t : List ℕ). t ++ line) f.text_is ∙ sym (concat_more f.lines line);
  }

  pub no_fronts : (tells : X → Option (List ℕ)) (range : Range) (entries : List (Entry X)) → FrontsTextOf tells range entries [] []
  no_fronts tells range entries = record { rise = tt; lines = []; each = tt; text_is = refl }

-- ---- what was told

pub last_or_more : (n : ℕ) (fronts : List ℕ) (m : ℕ) → last_or n (fronts ++ m ∷ []) ≡ m
last_or_more n [] m = refl
last_or_more n (x ∷ xs) m = last_or_more x xs m

last_or_at : (n : ℕ) (xs : List ℕ) → slice_get (n ∷ xs) (length xs) ≡ Some (last_or n xs)
last_or_at n [] = refl
last_or_at n (x ∷ xs) = last_or_at x xs

pub last_or_is : (n : ℕ) (fronts : List ℕ) (last : ℕ) → 0 < length fronts → slice_get fronts (length fronts - 1) ≡ Some last → last_or n fronts ≡ last
last_or_is n [] last some at = absurd (omega (arith, some))
last_or_is n (x ∷ xs) last some at =
    let place : length (x ∷ xs) - 1 ≡ length xs = omega arith in
    same_Some (last_or x xs) last (sym (last_or_at x xs) ∙ subst (λ (k : ℕ). slice_get (x ∷ xs) k ≡ Some last) place at)

-- behind a front with some blocks nothing is left of these
pub told_by : (fronts : List ℕ) (blocks : ℕ) → 1 ≤ blocks → IsTold (fronts ++ blocks ∷ []) blocks
told_by fronts blocks some = let last = last_or_more 0 fronts blocks in inr (omega (arith, some, last))
