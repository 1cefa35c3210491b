-- The parts of a line of a script.
use Rattle.std.proofs.Common.{◌≡◌, ℕ, zero, suc, ◌+◌, ◌<◌, ◌≤◌, Bool, true, false, List, [], ◌∷◌, ◌++◌, length, get_or, codes, Option, Some, None, refl, sym, ap, subst, ◌∙◌, append-nil, append_assoc, arith}
use Rattle.std.specs.List.{AllZip, flat_map}
use Rattle.std.specs.Str.Parse.{AllDigits, IsNumeral, digits_value}
use Rattle.std.proofs.lemmas.Str.Parse.{not_in_digits, numerals_by_value, tells_digits}
use Rattle.play_clock.specs.declared.line.Line.{Line}
use Rattle.play_clock.specs.declared.line.Kind.{Kind}
use Rattle.play_clock.specs.declared.line.Kind.TheVariants as kinds
use Rattle.play_clock.specs.Cuts.{Lacks}
use Rattle.play_clock.specs.Script.{Amount, amount, IsDigits, name_of, amounts_of, IsWordOf, MomentsRise}
use Rattle.play_clock.specs.Words.{AreNumbers, IsNamed, ReadsNumbers, ReadsWord}
use Rattle.play_clock.proofs.Cutting.{lacks_none, lacks_cons, lacks_joined, uncut, cut_once, front_once, spaced}

abbrev latest_time : ℕ
latest_time = 18446744073709551615

abbrev line_with : Kind → ℕ → Line
line_with kind moment = record { kind = kind; moment = moment }

-- ---- what numbers and names lack

pub digits_lack : (word : List ℕ) (a : Amount) (mark : ℕ) → mark < 48 → IsDigits word a → Lacks mark word
digits_lack word a mark low is =
    let digits = is.digits in
    not_in_digits (numerals_by_value (AllDigits 10) tells_digits) word mark digits.1 (λ in_range. let from = in_range.0 in omega (arith, low, from))

-- no byte is below the digits
abbrev AreHigh : List ℕ → Type 0
AreHigh [] = Unit {0}
AreHigh (c ∷ cs) = (48 ≤ c) × AreHigh cs

high_lack : (mark : ℕ) (text : List ℕ) → mark < 48 → AreHigh text → Lacks mark text
high_lack mark [] low high = lacks_none mark
high_lack mark (c ∷ cs) low high = lacks_cons mark c cs (λ e. let above = high.0 in omega (arith, low, above, e)) (high_lack mark cs low high.1)

names_high : (k : Kind) → AreHigh (name_of k)
names_high kinds.At = (omega arith, (omega arith, tt))
names_high kinds.Pause = (omega arith, (omega arith, (omega arith, (omega arith, (omega arith, tt)))))
names_high kinds.Resume = (omega arith, (omega arith, (omega arith, (omega arith, (omega arith, (omega arith, tt))))))
names_high (kinds.Rate p q) = (omega arith, (omega arith, (omega arith, (omega arith, tt))))
names_high (kinds.Seek time) = (omega arith, (omega arith, (omega arith, (omega arith, tt))))

names_lack : (k : Kind) (mark : ℕ) → mark < 48 → Lacks mark (name_of k)
names_lack k mark low = high_lack mark (name_of k) low (names_high k)

numbers_lack : (numbers : List (List ℕ)) (all : List Amount) → AllZip IsDigits numbers all → Lacks 10 (flat_map spaced numbers)
numbers_lack [] [] zip = lacks_none 10
numbers_lack [] (a ∷ all) zip = absurd zip
numbers_lack (n ∷ ns) [] zip = absurd zip
numbers_lack (n ∷ ns) (a ∷ all) zip =
    lacks_joined 10 (spaced n) (flat_map spaced ns) (lacks_cons 10 32 n (λ e. omega (arith, e)) (digits_lack n a 10 (omega arith) zip.0)) (numbers_lack ns all zip.1)

-- a line has no newline in it
pub words_lack : (word : List ℕ) (line : Line) → IsWordOf word line → Lacks 10 word
words_lack word line is =
    subst (Lacks 10) (sym is.form)
    (lacks_joined 10 (name_of line.kind) (flat_map spaced is.numbers) (names_lack line.kind 10 (omega arith)) (numbers_lack is.numbers (amount 0 latest_time line.moment ∷ amounts_of line.kind) is.are))

-- ---- the name

-- a word without a space is no line
pub unspaced : (word : List ℕ) → Lacks 32 word → (line : Line) → IsWordOf word line → ⊥
unspaced word lacks line is = by is.numbers is.are is.form
  where
    by : (numbers : List (List ℕ)) → AllZip IsDigits numbers (amount 0 latest_time line.moment ∷ amounts_of line.kind) → word ≡ name_of line.kind ++ flat_map spaced numbers → ⊥
    by [] zip form = zip
    by (n ∷ ns) zip form = uncut 32 word (name_of line.kind) (n ++ flat_map spaced ns) lacks form

pub name_cut : (word name after : List ℕ) → Lacks 32 name → word ≡ name ++ 32 ∷ after → (line : Line) → IsWordOf word line → IsNamed name after line
name_cut word name after lacks split line is = by is.numbers is.are is.form
  where
    by : (numbers : List (List ℕ)) → AllZip IsDigits numbers (amount 0 latest_time line.moment ∷ amounts_of line.kind) → word ≡ name_of line.kind ++ flat_map spaced numbers → IsNamed name after line
    by [] zip form = absurd zip
    by (n ∷ ns) zip form =
        let cut = cut_once 32 name (name_of line.kind) after (n ++ flat_map spaced ns) lacks (names_lack line.kind 32 (omega arith)) (sym split ∙ form) in
        (sym cut.0, record { numbers = n ∷ ns; are = zip; form = ap (λ (l : List ℕ). 32 ∷ l) cut.1 })

pub name_joined : (word name after : List ℕ) → word ≡ name ++ 32 ∷ after → (line : Line) → IsNamed name after line → IsWordOf word line
name_joined word name after split line (named, is) = record {
  numbers = is.numbers;
  are = is.are;
  form = split ∙ ap (λ (l : List ℕ). name ++ l) is.form ∙ ap (λ (l : List ℕ). l ++ flat_map spaced is.numbers) (sym named);
}

-- the moment of a word is one
pub moment_once : (word name after : List ℕ) → Lacks 32 name → word ≡ name ++ 32 ∷ after → (one two : Line) → IsWordOf word one → IsWordOf word two → one.moment ≡ two.moment
moment_once word name after lacks split one two first second =
    let a = name_cut word name after lacks split one first in
    let b = name_cut word name after lacks split two second in
    let c = a.1 in let d = b.1 in
    by c.numbers c.are c.form d.numbers d.are d.form
  where
    by : (ns : List (List ℕ)) → AllZip IsDigits ns (amount 0 latest_time one.moment ∷ amounts_of one.kind) → 32 ∷ after ≡ flat_map spaced ns
        → (ms : List (List ℕ)) → AllZip IsDigits ms (amount 0 latest_time two.moment ∷ amounts_of two.kind) → 32 ∷ after ≡ flat_map spaced ms → one.moment ≡ two.moment
    by [] zip form ms other its = absurd zip
    by (n ∷ ns) zip form [] other its = absurd other
    by (n ∷ ns) zip form (m ∷ ms) other its =
        let n_is = zip.0 in
        let m_is = other.0 in
        let both : 32 ∷ (n ++ flat_map spaced ns) ≡ 32 ∷ (m ++ flat_map spaced ms) = sym form ∙ its in
        let rest : n ++ flat_map spaced ns ≡ m ++ flat_map spaced ms = cc in
        let same = front_once n m ns ms (digits_lack n (amount 0 latest_time one.moment) 32 (omega arith) n_is) (digits_lack m (amount 0 latest_time two.moment) 32 (omega arith) m_is) rest in
        n_is.value ∙ ap (digits_value 10) same ∙ sym m_is.value

-- ---- the numbers

plain_amounts : (k other : Kind) → amounts_of k ≡ [] → name_of other ≡ name_of k → amounts_of other ≡ []
plain_amounts k kinds.At none same = refl
plain_amounts k kinds.Pause none same = refl
plain_amounts k kinds.Resume none same = refl
plain_amounts kinds.At (kinds.Rate p q) none same = absurd (cc)
plain_amounts kinds.Pause (kinds.Rate p q) none same = absurd (cc)
plain_amounts kinds.Resume (kinds.Rate p q) none same = absurd (cc)
plain_amounts (kinds.Rate r s) (kinds.Rate p q) none same = absurd (cc)
plain_amounts (kinds.Seek time) (kinds.Rate p q) none same = absurd (cc)
plain_amounts kinds.At (kinds.Seek t) none same = absurd (cc)
plain_amounts kinds.Pause (kinds.Seek t) none same = absurd (cc)
plain_amounts kinds.Resume (kinds.Seek t) none same = absurd (cc)
plain_amounts (kinds.Rate r s) (kinds.Seek t) none same = absurd (cc)
plain_amounts (kinds.Seek time) (kinds.Seek t) none same = absurd (cc)

lone : (after : List ℕ) (a : Amount) (numbers : List (List ℕ)) → AllZip IsDigits numbers (a ∷ []) → 32 ∷ after ≡ flat_map spaced numbers → IsDigits after a
lone after a [] zip form = absurd zip
lone after a (n ∷ []) zip form =
    let same : 32 ∷ after ≡ 32 ∷ n = form ∙ ap (λ (l : List ℕ). 32 ∷ l) (append-nil n) in
    let is : n ≡ after = cc in
    subst (λ (l : List ℕ). IsDigits l a) is zip.0
lone after a (n ∷ m ∷ ns) zip form = absurd zip.1

pub plain_number : (k : Kind) (after : List ℕ) → amounts_of k ≡ [] → (line : Line) → IsNamed (name_of k) after line → IsDigits after (amount 0 latest_time line.moment)
plain_number k after none line (named, is) =
    lone after (amount 0 latest_time line.moment) is.numbers
    (subst (λ (l : List Amount). AllZip IsDigits is.numbers (amount 0 latest_time line.moment ∷ l)) (plain_amounts k line.kind none named) is.are) is.form

pub plain_is : (k : Kind) (after : List ℕ) (moment : ℕ) → amounts_of k ≡ [] → IsDigits after (amount 0 latest_time moment) → IsNamed (name_of k) after (line_with k moment)
plain_is k after moment none is = (
  refl,
  record {
    numbers = after ∷ [];
    are = subst (λ (l : List Amount). AllZip IsDigits (after ∷ []) (amount 0 latest_time moment ∷ l)) (sym none) (is, tt);
    form = ap (λ (l : List ℕ). 32 ∷ l) (sym (append-nil after));
  },
)

firsts : (a b : ℕ) (xs ys : List ℕ) → a ∷ xs ≡ b ∷ ys → a ≡ b
firsts a b xs ys e = cc

seconds : (a b x y : ℕ) (xs ys : List ℕ) → a ∷ x ∷ xs ≡ b ∷ y ∷ ys → x ≡ y
seconds a b x y xs ys e = cc

seek_kind : (k : Kind) → name_of k ≡ codes "seek" → (time : ℕ) × (k ≡ kinds.Seek time)
seek_kind kinds.At is = absurd (omega (arith, firsts 97 115 _ _ is))
seek_kind kinds.Pause is = absurd (omega (arith, firsts 112 115 _ _ is))
seek_kind kinds.Resume is = absurd (omega (arith, firsts 114 115 _ _ is))
seek_kind (kinds.Rate p q) is = absurd (omega (arith, firsts 114 115 _ _ is))
seek_kind (kinds.Seek time) is = (time, refl)

pub record SeekParts (line : Line) (first second : List ℕ) : Type 0 where
  pub time : ℕ
  pub kind : line.kind ≡ kinds.Seek time
  pub moment_is : IsDigits first (amount 0 latest_time line.moment)
  pub time_is : IsDigits second (amount 0 latest_time time)

two_parts : (after : List ℕ) (a b : Amount) (numbers : List (List ℕ)) → AllZip IsDigits numbers (a ∷ b ∷ []) → 32 ∷ after ≡ flat_map spaced numbers
    → (n : List ℕ) × (m : List ℕ) × IsDigits n a × IsDigits m b × (after ≡ n ++ 32 ∷ m)
two_parts after a b [] zip form = absurd zip
two_parts after a b (n ∷ []) zip form = absurd zip.1
two_parts after a b (n ∷ m ∷ []) zip form =
    let same : 32 ∷ after ≡ 32 ∷ (n ++ 32 ∷ m) = form ∙ ap (λ (l : List ℕ). 32 ∷ (n ++ 32 ∷ l)) (append-nil m) in
    let is : after ≡ n ++ 32 ∷ m = cc in
    (n, m, zip.0, zip.1.0, is)
two_parts after a b (n ∷ m ∷ o ∷ ns) zip form = absurd zip.1.1

seek_numbers : (after : List ℕ) (line : Line) (time : ℕ) → line.kind ≡ kinds.Seek time → AreNumbers after line → (n : List ℕ) × (m : List ℕ) × IsDigits n (amount 0 latest_time line.moment) × IsDigits m (amount 0 latest_time time) × (after ≡ n ++ 32 ∷ m)
seek_numbers after line time kind is =
    two_parts after (amount 0 latest_time line.moment) (amount 0 latest_time time) is.numbers
    (subst (λ (k : Kind). AllZip IsDigits is.numbers (amount 0 latest_time line.moment ∷ amounts_of k)) kind is.are) is.form

pub seek_unspaced : (after : List ℕ) → Lacks 32 after → (line : Line) → IsNamed (codes "seek") after line → ⊥
seek_unspaced after lacks line (named, is) =
    let (time, kind) = seek_kind line.kind named in
    let (n, m, one, two, split) = seek_numbers after line time kind is in
    uncut 32 after n m lacks split

pub seek_parts : (after first second : List ℕ) → Lacks 32 first → after ≡ first ++ 32 ∷ second → (line : Line) → IsNamed (codes "seek") after line → SeekParts line first second
seek_parts after first second lacks split line (named, is) =
    let (time, kind) = seek_kind line.kind named in
    let (n, m, one, two, other) = seek_numbers after line time kind is in
    let cut = cut_once 32 first n second m lacks (digits_lack n (amount 0 latest_time line.moment) 32 (omega arith) one) (sym split ∙ other) in
    record {
      time = time;
      kind = kind;
      moment_is = subst (λ (l : List ℕ). IsDigits l (amount 0 latest_time line.moment)) (sym cut.0) one;
      time_is = subst (λ (l : List ℕ). IsDigits l (amount 0 latest_time time)) (sym cut.1) two;
    }

pub seek_is : (after first second : List ℕ) (moment time : ℕ) → after ≡ first ++ 32 ∷ second → IsDigits first (amount 0 latest_time moment) → IsDigits second (amount 0 latest_time time) → IsNamed (codes "seek") after (line_with (kinds.Seek time) moment)
seek_is after first second moment time split one two = (
  refl,
  record {
    numbers = first ∷ second ∷ [];
    are = (one, (two, tt));
    form = ap (λ (l : List ℕ). 32 ∷ l) split ∙ ap (λ (l : List ℕ). 32 ∷ (first ++ 32 ∷ l)) (sym (append-nil second));
  },
)

rate_kind : (k : Kind) → name_of k ≡ codes "rate" → (p : ℕ) × (q : ℕ) × (k ≡ kinds.Rate p q)
rate_kind kinds.At is = absurd (omega (arith, firsts 97 114 _ _ is))
rate_kind kinds.Pause is = absurd (omega (arith, firsts 112 114 _ _ is))
rate_kind kinds.Resume is = absurd (omega (arith, seconds 114 114 101 97 _ _ is))
rate_kind (kinds.Rate p q) is = (p, q, refl)
rate_kind (kinds.Seek time) is = absurd (omega (arith, firsts 115 114 _ _ is))

three_parts : (after : List ℕ) (a b d : Amount) (numbers : List (List ℕ)) → AllZip IsDigits numbers (a ∷ b ∷ d ∷ []) → 32 ∷ after ≡ flat_map spaced numbers
    → (n : List ℕ) × (m : List ℕ) × (o : List ℕ) × IsDigits n a × IsDigits m b × IsDigits o d × (after ≡ n ++ 32 ∷ (m ++ 32 ∷ o))
three_parts after a b d [] zip form = absurd zip
three_parts after a b d (n ∷ []) zip form = absurd zip.1
three_parts after a b d (n ∷ m ∷ []) zip form = absurd zip.1.1
three_parts after a b d (n ∷ m ∷ o ∷ []) zip form =
    let same : 32 ∷ after ≡ 32 ∷ (n ++ 32 ∷ (m ++ 32 ∷ o)) = form ∙ ap (λ (l : List ℕ). 32 ∷ (n ++ 32 ∷ (m ++ 32 ∷ l))) (append-nil o) in
    let is : after ≡ n ++ 32 ∷ (m ++ 32 ∷ o) = cc in
    (n, m, o, zip.0, zip.1.0, zip.1.1.0, is)
three_parts after a b d (n ∷ m ∷ o ∷ r ∷ ns) zip form = absurd zip.1.1.1

pub record RateParts (line : Line) (first second third : List ℕ) : Type 0 where
  pub p : ℕ
  pub q : ℕ
  pub kind : line.kind ≡ kinds.Rate p q
  pub moment_is : IsDigits first (amount 0 latest_time line.moment)
  pub p_is : IsDigits second (amount 1 1000000 p)
  pub q_is : IsDigits third (amount 1 1000000 q)

rate_numbers : (after : List ℕ) (line : Line) (p q : ℕ) → line.kind ≡ kinds.Rate p q → AreNumbers after line
    → (n : List ℕ) × (m : List ℕ) × (o : List ℕ) × IsDigits n (amount 0 latest_time line.moment) × IsDigits m (amount 1 1000000 p) × IsDigits o (amount 1 1000000 q) × (after ≡ n ++ 32 ∷ (m ++ 32 ∷ o))
rate_numbers after line p q kind is =
    three_parts after (amount 0 latest_time line.moment) (amount 1 1000000 p) (amount 1 1000000 q) is.numbers
    (subst (λ (k : Kind). AllZip IsDigits is.numbers (amount 0 latest_time line.moment ∷ amounts_of k)) kind is.are) is.form

pub rate_unspaced : (after : List ℕ) → Lacks 32 after → (line : Line) → IsNamed (codes "rate") after line → ⊥
rate_unspaced after lacks line (named, is) =
    let (p, q, kind) = rate_kind line.kind named in
    let (n, m, o, one, two, three, split) = rate_numbers after line p q kind is in
    uncut 32 after n (m ++ 32 ∷ o) lacks split

pub rate_others : (after first others : List ℕ) → Lacks 32 first → after ≡ first ++ 32 ∷ others → Lacks 32 others → (line : Line) → IsNamed (codes "rate") after line → ⊥
rate_others after first others lacks split none line (named, is) =
    let (p, q, kind) = rate_kind line.kind named in
    let (n, m, o, one, two, three, other) = rate_numbers after line p q kind is in
    let cut = cut_once 32 first n others (m ++ 32 ∷ o) lacks (digits_lack n (amount 0 latest_time line.moment) 32 (omega arith) one) (sym split ∙ other) in
    uncut 32 others m o none cut.1

pub rate_parts : (after first others second third : List ℕ) → Lacks 32 first → after ≡ first ++ 32 ∷ others → Lacks 32 second → others ≡ second ++ 32 ∷ third → (line : Line) → IsNamed (codes "rate") after line → RateParts line first second third
rate_parts after first others second third lacks split none splits line (named, is) =
    let (p, q, kind) = rate_kind line.kind named in
    let (n, m, o, one, two, three, other) = rate_numbers after line p q kind is in
    let cut = cut_once 32 first n others (m ++ 32 ∷ o) lacks (digits_lack n (amount 0 latest_time line.moment) 32 (omega arith) one) (sym split ∙ other) in
    let more = cut_once 32 second m third o none (digits_lack m (amount 1 1000000 p) 32 (omega arith) two) (sym splits ∙ cut.1) in
    record {
      p = p;
      q = q;
      kind = kind;
      moment_is = subst (λ (l : List ℕ). IsDigits l (amount 0 latest_time line.moment)) (sym cut.0) one;
      p_is = subst (λ (l : List ℕ). IsDigits l (amount 1 1000000 p)) (sym more.0) two;
      q_is = subst (λ (l : List ℕ). IsDigits l (amount 1 1000000 q)) (sym more.1) three;
    }

pub rate_is : (after first others second third : List ℕ) (moment p q : ℕ) → after ≡ first ++ 32 ∷ others → others ≡ second ++ 32 ∷ third → IsDigits first (amount 0 latest_time moment) → IsDigits second (amount 1 1000000 p) → IsDigits third (amount 1 1000000 q)
    → IsNamed (codes "rate") after (line_with (kinds.Rate p q) moment)
rate_is after first others second third moment p q split splits one two three = (
  refl,
  record {
    numbers = first ∷ second ∷ third ∷ [];
    are = (one, (two, (three, tt)));
    form = ap (λ (l : List ℕ). 32 ∷ l) split ∙ ap (λ (l : List ℕ). 32 ∷ (first ++ 32 ∷ l)) splits ∙ ap (λ (l : List ℕ). 32 ∷ (first ++ 32 ∷ (second ++ 32 ∷ l))) (sym (append-nil third));
  },
)

-- a line is named so or so
pub named_so : (name : List ℕ) (k : Kind) → name_of k ≡ name → (name ≡ codes "at" → ⊥) → (name ≡ codes "pause" → ⊥) → (name ≡ codes "resume" → ⊥) → (name ≡ codes "rate" → ⊥) → (name ≡ codes "seek" → ⊥) → ⊥
named_so name kinds.At is at pause resume rate seek = at (sym is)
named_so name kinds.Pause is at pause resume rate seek = pause (sym is)
named_so name kinds.Resume is at pause resume rate seek = resume (sym is)
named_so name (kinds.Rate p q) is at pause resume rate seek = rate (sym is)
named_so name (kinds.Seek time) is at pause resume rate seek = seek (sym is)

-- ---- a word that is read

pub word_read : (word name after : List ℕ) → Lacks 32 name → word ≡ name ++ 32 ∷ after → (found : Option Line) → ReadsNumbers name after found → ReadsWord word found
word_read word name after lacks split None none = λ line is. none line (name_cut word name after lacks split line is)
word_read word name after lacks split (Some line) is = name_joined word name after split line is

-- its moment is one
pub word_moment : (word : List ℕ) (one two : Line) → IsWordOf word one → IsWordOf word two → one.moment ≡ two.moment
word_moment word one two first second = by first.numbers first.are first.form
  where
    by : (numbers : List (List ℕ)) → AllZip IsDigits numbers (amount 0 latest_time one.moment ∷ amounts_of one.kind) → word ≡ name_of one.kind ++ flat_map spaced numbers → one.moment ≡ two.moment
    by [] zip form = absurd zip
    by (n ∷ ns) zip form = moment_once word (name_of one.kind) (n ++ flat_map spaced ns) (names_lack one.kind 32 (omega arith)) form one two first second
