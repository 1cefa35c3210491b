-- A script line by line.
use Rattle.std.proofs.Common.{◌≡◌, ℕ, zero, suc, ◌+◌, ◌<◌, ◌≤◌, List, [], ◌∷◌, ◌++◌, length, take, drop, get_or, Option, Some, refl, sym, ap, subst, inl, inr, ◌∙◌, append-nil, append_assoc, arith}
use Rattle.std.specs.Prelude.{AllPairs, IfSome, Vec}
use Rattle.std.specs.Global.{Global}
use Rattle.std.specs.List.{AllZip, flat_map}
use Rattle.std.proofs.lemmas.Bool.{cases_lt}
use Rattle.std.proofs.lemmas.List.{length-append, length-drop, take_all, take-append-drop, get_or_at, get_or_append_left}
use Rattle.std.proofs.Math.Seq.{take-add, take-append_seam}
use Rattle.std.proofs.lemmas.List.Quantifiers.{all_pairs_push}
use Rattle.std.proofs.lemmas.Grind.{flat_map-append}
use Rattle.mcap_model.proofs.Repairs.{zip_join}
use Rattle.play_clock.specs.declared.line.Line.{Line}
use Rattle.play_clock.specs.Cuts.{Lacks}
use Rattle.play_clock.specs.Script.{IsWordOf, AreLines, MomentsRise, ended, newlines, IsScript, IsBadLine}
use Rattle.play_clock.specs.Words.{RiseTo}
use Rattle.play_clock.proofs.Cutting.{uncut, cut_once}
use Rattle.play_clock.proofs.LineWords.{words_lack}

-- so many bytes of the script are these lines
pub record ReadSoFar (bytes : List ℕ) (at : ℕ) (lines : List Line) (moment : ℕ) : Type 0 where
  pub within : at ≤ length bytes
  pub few : length lines ≤ at
  pub lines_are : AreLines (take at bytes) lines
  pub rise : MomentsRise lines
  pub to : RiseTo lines moment

pub read_none : (bytes : List ℕ) → ReadSoFar bytes 0 [] 0
read_none bytes = record {
  within = omega arith;
  few = omega arith;
  lines_are = record { words = []; are = tt; form = refl };
  rise = λ i j d less within. absurd (omega (arith, within));
  to = record { may = λ line from i j d less within. absurd (omega (arith, less, within)); must = λ line rise. omega arith };
}

-- the last moment is the greatest
rise_on : (lines : List Line) (moment : ℕ) (line : Line) → MomentsRise (lines ++ line ∷ []) → RiseTo (lines ++ line ∷ []) line.moment
rise_on lines moment line rises = record {
  may = λ next le. all_pairs_push (λ (a b : Line). a.moment ≤ b.moment) (lines ++ line ∷ []) next rises (λ k d less. below k d less next le);
  must = λ next more. let both = more (length lines) (suc (length lines)) line (omega arith) (size next) in
      let first = ap (λ (l : Line). l.moment) (last_read (lines ++ line ∷ []) next lines line refl) in
      let second = ap (λ (l : Line). l.moment) (get_or_at (lines ++ line ∷ []) next [] line (suc (length lines)) (longer lines line)) in
      omega (arith, both, first, second);
}
  where
    longer : (xs : List Line) (x : Line) → length (xs ++ x ∷ []) ≡ suc (length xs)
    longer xs x = omega (arith, length-append xs (x ∷ []))

    size : (next : Line) → suc (length lines) < length ((lines ++ line ∷ []) ++ next ∷ [])
    size next = omega (arith, longer lines line, longer (lines ++ line ∷ []) next)

    last_read : (all : List Line) (next : Line) (xs : List Line) (x : Line) → all ≡ xs ++ x ∷ [] → get_or (all ++ next ∷ []) (length xs) x ≡ x
    last_read all next xs x is =
        ap (λ (l : List Line). get_or (l ++ next ∷ []) (length xs) x) is
        ∙ get_or_append_left (xs ++ x ∷ []) (next ∷ []) x (length xs) (omega (arith, longer xs x)) ∙ get_or_at xs x [] x (length xs) refl

    below : (k : ℕ) (d : Line) → k < length (lines ++ line ∷ []) → (next : Line) → line.moment ≤ next.moment → (get_or (lines ++ line ∷ []) k d).moment ≤ next.moment
    below k d less next le = elim (cases_lt k (length lines)) [
      | inl before ↦
          let both = rises k (length lines) d before (omega (arith, longer lines line)) in
          let last = ap (λ (l : Line). l.moment) (get_or_at lines line [] d (length lines) refl) in
          omega (arith, both, last, le)
      | inr after ↦
          let here : k ≡ length lines = omega (arith, less, after, longer lines line) in
          let last = ap (λ (l : Line). l.moment) (ap (λ (n : ℕ). get_or (lines ++ line ∷ []) n d) here ∙ get_or_at lines line [] d (length lines) refl) in
          omega (arith, last, le)
    ]

-- one line more
pub read_on : (bytes : List ℕ) (at next : ℕ) (lines : List Line) (moment : ℕ) (line : Line) (word rest : List ℕ) → ReadSoFar bytes at lines moment → drop at bytes ≡ word ++ 10 ∷ rest → IsWordOf word line → moment ≤ line.moment
    → next ≡ at + length word + 1 → ReadSoFar bytes next (lines ++ line ∷ []) line.moment
read_on bytes at next lines moment line word rest was split is le next_is =
    let to = was.to in
    let rises = to.may line le in
    let lines_are = was.lines_are in
    record {
      within = (let w = was.within in omega (arith, w, next_is, length-drop at bytes, ap (λ (l : List ℕ). length l) split, length-append word (10 ∷ rest)));
      few = (let few = was.few in omega (arith, few, next_is, length-append lines (line ∷ [])));
      lines_are = record {
        words = lines_are.words ++ word ∷ [];
        are = zip_join IsWordOf lines_are.words (word ∷ []) lines (line ∷ []) lines_are.are (is, tt);
        form = taken ∙ ap (λ (l : List ℕ). l ++ ended word) lines_are.form ∙ ap (λ (l : List ℕ). flat_map ended lines_are.words ++ l) (sym (append-nil (ended word))) ∙ sym (flat_map-append ended lines_are.words (word ∷ []));
      };
      rise = rises;
      to = rise_on lines moment line rises;
    }
  where
    taken : take next bytes ≡ take at bytes ++ ended word
    taken =
        ap (λ (n : ℕ). take n bytes) (let e : next ≡ at + length (ended word) = omega (arith, next_is, length-append word (10 ∷ [])) in e)
        ∙ take-add at (length (ended word)) bytes
        ∙ ap (λ (l : List ℕ). take at bytes ++ take (length (ended word)) l) (split ∙ sym (append_assoc word (10 ∷ []) rest))
        ∙ ap (λ (l : List ℕ). take at bytes ++ l) (take-append_seam (ended word) rest)

-- ---- lines that are judged and kept

-- so many bytes are lines, which are those that are kept, if any are; the next one has that number
pub record Judged (bytes : List ℕ) (at number moment : ℕ) (kept : Option (Vec Line Global)) : Type 0 where
  pub lines : List Line
  pub so_far : ReadSoFar bytes at lines moment
  pub number_is : number ≡ length lines + 1
  pub keeps : IfSome kept (λ (v : Vec Line Global). v.items ≡ lines)

pub judged_on : (bytes : List ℕ) (at next number moment : ℕ) (kept later : Option (Vec Line Global)) (line : Line) (word rest : List ℕ) → Judged bytes at number moment kept → drop at bytes ≡ word ++ 10 ∷ rest → IsWordOf word line
    → moment ≤ line.moment → next ≡ at + length word + 1 → ((all : List Line) → IfSome kept (λ (v : Vec Line Global). v.items ≡ all) → IfSome later (λ (v : Vec Line Global). v.items ≡ all ++ line ∷ []))
    → Judged bytes next (number + 1) line.moment later
judged_on bytes at next number moment kept later line word rest was split is le next_is keeps = record {
  lines = was.lines ++ line ∷ [];
  so_far = read_on bytes at next was.lines moment line word rest was.so_far split is le next_is;
  number_is = let number_is = was.number_is in omega (arith, number_is, length-append was.lines (line ∷ []));
  keeps = keeps was.lines was.keeps;
}

-- all were read
pub read_all : (bytes : List ℕ) (at : ℕ) (lines : List Line) (moment : ℕ) → newlines bytes ≤ 1000000 → ReadSoFar bytes at lines moment → length bytes ≤ at → IsScript bytes lines
read_all bytes at lines moment few was end = record {
  few = few;
  lines_are = subst (λ (l : List ℕ). AreLines l lines) (take_all at bytes end) was.lines_are;
  rise = was.rise;
}

pub judged_all : (bytes : List ℕ) (at number moment : ℕ) (kept : Option (Vec Line Global)) → newlines bytes ≤ 1000000 → (was : Judged bytes at number moment kept) → length bytes ≤ at → IsScript bytes was.lines
judged_all bytes at number moment kept few was end = read_all bytes at was.lines moment few was.so_far end

-- the lines that are kept are the script
pub judged_script : (bytes : List ℕ) (at number moment : ℕ) (kept : Option (Vec Line Global)) (v : Vec Line Global) → newlines bytes ≤ 1000000 → Judged bytes at number moment kept → length bytes ≤ at → kept ≡ Some v → IsScript bytes v.items
judged_script bytes at number moment kept v few was end is =
    let same : v.items ≡ was.lines = subst (λ (o : Option (Vec Line Global)). IfSome o (λ (w : Vec Line Global). w.items ≡ was.lines)) is was.keeps in
    subst (IsScript bytes) (sym same) (judged_all bytes at number moment kept few was end)

pub judged_none : (kept : Option (Vec Line Global)) → IfSome kept (λ (v : Vec Line Global). v.items ≡ []) → (bytes : List ℕ) → Judged bytes 0 1 0 kept
judged_none kept none bytes = record { lines = []; so_far = read_none bytes; number_is = refl; keeps = none }

-- ---- a bad line

pub bad_line : (bytes : List ℕ) (at : ℕ) (lines : List Line) (moment number : ℕ) → newlines bytes ≤ 1000000 → ReadSoFar bytes at lines moment → at < length bytes → number ≡ length lines + 1
    → ((word rest : List ℕ) (line : Line) → drop at bytes ≡ ended word ++ rest → IsWordOf word line → moment ≤ line.moment → ⊥) → IsBadLine bytes number
bad_line bytes at lines moment number few was less number_is bad = record {
  few = few;
  front = take at bytes;
  after = drop at bytes;
  split = sym (take-append-drop at bytes);
  lines = lines;
  lines_are = was.lines_are;
  rise = was.rise;
  number_is = number_is;
  some = λ none. omega (arith, less, length-drop at bytes, ap (λ (l : List ℕ). length l) none);
  bad = λ word rest line split is rises. let to = was.to in bad word rest line split is (to.must line rises);
}

-- no newline stands there
pub bad_open : (after : List ℕ) (moment : ℕ) → Lacks 10 after → (word rest : List ℕ) (line : Line) → after ≡ ended word ++ rest → IsWordOf word line → moment ≤ line.moment → ⊥
bad_open after moment lacks word rest line split is le = uncut 10 after word rest lacks (split ∙ append_assoc word (10 ∷ []) rest)

-- the word in front of the first newline is the one
pub word_there : (after word more : List ℕ) → Lacks 10 word → after ≡ word ++ 10 ∷ more → (other rest : List ℕ) (line : Line) → after ≡ ended other ++ rest → IsWordOf other line → IsWordOf word line
word_there after word more lacks there other rest line split is =
    let cut = cut_once 10 word other more rest lacks (words_lack other line is) (sym there ∙ split ∙ append_assoc other (10 ∷ []) rest) in
    subst (λ (w : List ℕ). IsWordOf w line) (sym cut.0) is
