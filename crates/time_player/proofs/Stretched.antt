-- The lines of stretches of messages.
use Rattle.std.proofs.Common.{◌≡◌, ℕ, zero, suc, ◌+◌, ◌-◌, ◌<◌, ◌≤◌, List, [], ◌∷◌, ◌++◌, length, take, drop, map, refl, sym, ap, subst, ◌∙◌, arith, take-add, append_assoc, get_or, Result, Ok, Err}
use Rattle.std.specs.List.{flat_map}
use Rattle.std.proofs.lemmas.Grind.{flat_map-append}
use Rattle.std.proofs.lemmas.List.{append-nil, take-append-drop}
use Rattle.std.proofs.lemmas.List.Folds.{flat_map-map}
use Rattle.std.proofs.lemmas.Option.{same_Some}
use Rattle.mcap_io.specs.Outside.{SinkState}
use Rattle.mcap_model.specs.declared.replay.Shown.{Shown}
use Rattle.mcap_model.specs.declared.table.Declared.{Declared}
use Rattle.mcap_model.specs.Places.{At}
use Rattle.mcap_model.proofs.Places.{at_none}
use Rattle.mcap_model.proofs.OneMore.{taken_more}
use Rattle.time_player.specs.Lines.{line_of, lines_of, spelling}
use Rattle.time_player.specs.Putting.{PutsOn, PutsPart, Puts}
use Rattle.mcap_model.specs.Scan.{Seen}
use Rattle.time_player.specs.Text.{cat_text}
use Rattle.time_player.specs.Stretches.{TimedLine, timed_line, timed_lines, held_line, held_lines, texts_of, moment_line, stretch_text, stretches_text}
use Rattle.mcap_io.specs.declared.outside.Failed.{Failed}
use Rattle.time_player.specs.declared.timed_lines.Stretch.{Stretch}
use Rattle.time_player.proofs.Puttings.{puts_none, puts_line, puts_after, part_after, part_more, all_after, puts_same}

pub take_map : {X Y : Type 0} (f : X → Y) (n : ℕ) (xs : List X) → take n (map f xs) ≡ map f (take n xs)
take_map f zero xs = refl
take_map f (suc n) [] = refl
take_map {X} {Y} f (suc n) (x ∷ xs) = ap (λ (l : List Y). f x ∷ l) (take_map f n xs)

pub drop_map : {X Y : Type 0} (f : X → Y) (n : ℕ) (xs : List X) → drop n (map f xs) ≡ map f (drop n xs)
drop_map f zero xs = refl
drop_map f (suc n) [] = refl
drop_map f (suc n) (x ∷ xs) = drop_map f n xs

-- the texts of the lines of a stretch are the lines of its messages
pub stretch_lines : (table : List Declared) (shown : List Shown) (from many : ℕ) → lines_of table (take many (drop from shown)) ≡ texts_of (take many (drop from (held_lines table shown)))
stretch_lines table shown from many =
    sym (flat_map-map (λ (l : TimedLine). l.text) (held_line table) (take many (drop from shown)))
    ∙ ap texts_of (sym (ap (take many) (drop_map (held_line table) from shown) ∙ take_map (held_line table) many (drop from shown)))

pub cat_lines : (shown : List Seen) (from many : ℕ) → texts_of (take many (drop from (timed_lines shown))) ≡ cat_text (take many (drop from shown))
cat_lines shown from many =
    ap texts_of (ap (take many) (drop_map timed_line from shown) ∙ take_map timed_line many (drop from shown))
    ∙ flat_map-map (λ (l : TimedLine). l.text) timed_line (take many (drop from shown))

-- ---- a message more

at_after : {X : Type 0} (xs : List X) (from k : ℕ) (x : X) → At xs (from + k) x → At (drop from xs) k x
at_after {X} xs zero k x at = let e : zero + k ≡ k = omega arith in subst (λ (n : ℕ). At xs n x) e at
at_after [] (suc from) k x at = absurd (at_none (suc from + k) x at)
at_after {X} (y ∷ ys) (suc from) k x at = let e : suc from + k ≡ suc (from + k) = omega arith in at_after ys from k x (subst (λ (n : ℕ). At (y ∷ ys) n x) e at)

pub line_more : (table : List Declared) (shown : List Shown) (from i : ℕ) (m : Shown) (text : List ℕ) → from ≤ i → At shown i m → text ≡ spelling table m.channel
    → lines_of table (take (i - from) (drop from shown)) ++ line_of m text ≡ lines_of table (take (i + 1 - from) (drop from shown))
line_more table shown from i m text above at is =
    let rest = drop from shown in
    let k = i - from in
    let place : i ≡ from + k = omega (arith, above) in
    let there : At rest k m = at_after shown from k m (subst (λ (n : ℕ). At shown n m) place at) in
    let next : k + 1 ≡ i + 1 - from = omega (arith, above) in
    ap (λ (l : List ℕ). lines_of table (take k rest) ++ line_of m l) is
    ∙ ap (λ (l : List ℕ). lines_of table (take k rest) ++ l) (sym (append-nil (line_of m (spelling table m.channel))))
    ∙ sym (flat_map-append (λ (s : Shown). line_of s (spelling table s.channel)) (take k rest) (m ∷ []))
    ∙ ap (lines_of table) (sym (taken_more rest k m there))
    ∙ ap (λ (n : ℕ). lines_of table (take n rest)) next

-- the first lines are a first part of all
pub lines_part : (a b : SinkState) (first : List ℕ) (table : List Declared) (shown : List Shown) (few many : ℕ) → few ≤ many → PutsPart a b first (lines_of table (take few shown)) → PutsPart a b first (lines_of table (take many shown))
lines_part a b first table shown few many le p =
    let split : few + (many - few) ≡ many = omega (arith, le) in
    subst (PutsPart a b first)
    (sym (flat_map-append (λ (s : Shown). line_of s (spelling table s.channel)) (take few shown) (take (many - few) (drop few shown)))
    ∙ ap (lines_of table) (sym (take-add few (many - few) shown) ∙ ap (λ (n : ℕ). take n shown) split))
    (part_more a b first (lines_of table (take few shown)) (lines_of table (take (many - few) (drop few shown))) p)

-- a line more was put, and then the piece was written, or waits
pub line_put : (a b c : SinkState) (first piece more fresh : List ℕ) (table : List Declared) (shown : List Shown) (from i : ℕ) (m : Shown) (text : List ℕ) → from ≤ i → At shown i m → text ≡ spelling table m.channel
    → PutsOn a b first piece (lines_of table (take (i - from) (drop from shown))) → more ≡ piece ++ line_of m text → PutsOn b c more fresh [] → PutsOn a c first fresh (lines_of table (take (i + 1 - from) (drop from shown)))
line_put a b c first piece more fresh table shown from i m text above at is puts gathered written =
    let so_far = lines_of table (take (i - from) (drop from shown)) in
    puts_same a c first fresh ((so_far ++ line_of m text) ++ []) _
    (puts_after a b c first more fresh (so_far ++ line_of m text) [] (puts_line a b first piece more so_far (line_of m text) puts gathered) written)
    (append-nil (so_far ++ line_of m text) ∙ line_more table shown from i m text above at is)

-- or its writing failed
pub line_cut : (a b c : SinkState) (first piece more : List ℕ) (table : List Declared) (shown : List Shown) (from to i : ℕ) (m : Shown) (text : List ℕ) → from ≤ i → i < to → At shown i m → text ≡ spelling table m.channel
    → PutsOn a b first piece (lines_of table (take (i - from) (drop from shown))) → more ≡ piece ++ line_of m text → PutsPart b c more [] → PutsPart a c first (lines_of table (take (to - from) (drop from shown)))
line_cut a b c first piece more table shown from to i m text above below at is puts gathered part =
    let so_far = lines_of table (take (i - from) (drop from shown)) in
    lines_part a c first table (drop from shown) (i + 1 - from) (to - from) (omega (arith, above, below))
    (subst (PutsPart a c first) (append-nil (so_far ++ line_of m text) ∙ line_more table shown from i m text above at is)
    (part_after a b c first more (so_far ++ line_of m text) [] (puts_line a b first piece more so_far (line_of m text) puts gathered) part))

pub lines_end : (a b : SinkState) (first piece : List ℕ) (table : List Declared) (shown : List Shown) (from to i : ℕ) → i ≤ to → to ≤ i
    → PutsOn a b first piece (lines_of table (take (i - from) (drop from shown))) → PutsOn a b first piece (lines_of table (take (to - from) (drop from shown)))
lines_end a b first piece table shown from to i below past puts =
    let same : i ≡ to = omega (arith, below, past) in
    subst (λ (n : ℕ). PutsOn a b first piece (lines_of table (take (n - from) (drop from shown)))) same puts

-- ---- stretches

line_first : (a b : SinkState) (piece more fresh line : List ℕ) → more ≡ piece ++ line → PutsOn a b more fresh [] → PutsOn a b piece fresh line
line_first a b piece more fresh line gathered written =
    puts_same a b piece fresh (line ++ []) line (puts_after a a b piece more fresh line [] (puts_line a a piece piece more [] line (puts_none a piece) gathered) written) (append-nil line)

-- the line of a moment was put, and what comes after it
pub stretch_put : (a b c : SinkState) (piece more fresh last line lines text : List ℕ) (result : Result Unit Failed) → more ≡ piece ++ line → PutsOn a b more fresh [] → Puts b c fresh last lines result → line ++ lines ≡ text → Puts a c piece last text result
stretch_put a b c piece more fresh last line lines text result gathered written puts is =
    subst (λ (l : List ℕ). Puts a c piece last l result) is (all_after a b c piece fresh last line lines result (line_first a b piece more fresh line gathered written) puts)

pub stretch_cut : (a b : SinkState) (piece more line lines text : List ℕ) → more ≡ piece ++ line → PutsPart a b more [] → line ++ lines ≡ text → PutsPart a b piece text
stretch_cut a b piece more line lines text gathered part is =
    subst (PutsPart a b piece) is
    (part_more a b piece line lines (subst (PutsPart a b piece) (append-nil line) (part_after a a b piece more line [] (puts_line a a piece piece more [] line (puts_none a piece) gathered) part)))

pub stretch_is : (table : List Declared) (shown : List Shown) (s : Stretch) (line : List ℕ) → line ≡ moment_line s.moment (s.to - s.from)
    → line ++ lines_of table (take (s.to - s.from) (drop s.from shown)) ≡ stretch_text (held_lines table shown) s
stretch_is table shown s line is =
    ap (λ (l : List ℕ). l ++ lines_of table (take (s.to - s.from) (drop s.from shown))) is
    ∙ ap (λ (l : List ℕ). moment_line s.moment (s.to - s.from) ++ l) (stretch_lines table shown s.from (s.to - s.from))

stretches_more : (lines : List TimedLine) (stretches : List Stretch) (i : ℕ) (s : Stretch) → At stretches i s → stretches_text lines (take i stretches) ++ stretch_text lines s ≡ stretches_text lines (take (i + 1) stretches)
stretches_more lines stretches i s at =
    ap (λ (l : List ℕ). stretches_text lines (take i stretches) ++ l) (sym (append-nil (stretch_text lines s)))
    ∙ sym (flat_map-append (stretch_text lines) (take i stretches) (s ∷ []))
    ∙ ap (stretches_text lines) (sym (taken_more stretches i s at))

stretches_all : (lines : List TimedLine) (stretches : List Stretch) (i : ℕ) → stretches_text lines (take i stretches) ++ stretches_text lines (drop i stretches) ≡ stretches_text lines stretches
stretches_all lines stretches i = sym (flat_map-append (stretch_text lines) (take i stretches) (drop i stretches)) ∙ ap (stretches_text lines) (take-append-drop i stretches)

pub stretch_on : (a b c : SinkState) (first piece more : List ℕ) (lines : List TimedLine) (stretches : List Stretch) (i : ℕ) (s : Stretch) → At stretches i s → PutsOn a b first piece (stretches_text lines (take i stretches)) → PutsOn b c piece more (stretch_text lines s)
    → PutsOn a c first more (stretches_text lines (take (i + 1) stretches))
stretch_on a b c first piece more lines stretches i s at so_far puts =
    puts_same a c first more _ _ (puts_after a b c first piece more (stretches_text lines (take i stretches)) (stretch_text lines s) so_far puts) (stretches_more lines stretches i s at)

pub stretch_off : (a b c : SinkState) (first piece : List ℕ) (lines : List TimedLine) (stretches : List Stretch) (i : ℕ) (s : Stretch) → At stretches i s → PutsOn a b first piece (stretches_text lines (take i stretches)) → PutsPart b c piece (stretch_text lines s)
    → PutsPart a c first (stretches_text lines stretches)
stretch_off a b c first piece lines stretches i s at so_far part =
    subst (PutsPart a c first) (stretches_all lines stretches (i + 1))
    (part_more a c first (stretches_text lines (take (i + 1) stretches)) (stretches_text lines (drop (i + 1) stretches))
    (subst (PutsPart a c first) (stretches_more lines stretches i s at) (part_after a b c first piece (stretches_text lines (take i stretches)) (stretch_text lines s) so_far part)))

pub stretches_end : (a b : SinkState) (first piece : List ℕ) (lines : List TimedLine) (stretches : List Stretch) (i : ℕ) → length stretches ≤ i → PutsOn a b first piece (stretches_text lines (take i stretches)) → PutsOn a b first piece (stretches_text lines stretches)
stretches_end a b first piece lines stretches i past puts = puts_same a b first piece _ _ puts (ap (stretches_text lines) (take_past i stretches past))
  where
    take_past : (n : ℕ) (xs : List Stretch) → length xs ≤ n → take n xs ≡ xs
    take_past zero [] le = refl
    take_past zero (x ∷ xs) le = absurd (omega (arith, le))
    take_past (suc n) [] le = refl
    take_past (suc n) (x ∷ xs) le = ap (λ (l : List Stretch). x ∷ l) (take_past n xs (omega (arith, le)))

-- the log time of a line
pub time_at : (table : List Declared) (shown : List Shown) (i : ℕ) (s : Shown) → At shown i s → s.log_time ≡ get_or (map (λ (l : TimedLine). l.time) (held_lines table shown)) i 0
time_at table [] i s at = absurd (at_none i s at)
time_at table (x ∷ xs) zero s at = ap (λ (z : Shown). z.log_time) (sym (same_Some x s at))
time_at table (x ∷ xs) (suc i) s at = time_at table xs i s at
