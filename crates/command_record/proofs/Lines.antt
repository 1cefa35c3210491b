-- Lines one after another, and what printing them in turn leaves.
use Rattle.std.proofs.Common.{◌≡◌, ℕ, ◌+◌, ◌<◌, List, [], ◌∷◌, ◌++◌, length, take, drop, get_or, Option, append_assoc, add-zero, subst, ap, sym, ◌∙◌, arith, take-append-drop}
use Rattle.std.proofs.lemmas.List.{append-nil, take_more, length-take-le}
use Rattle.mcap_io.specs.Outside.{Adds, AddsPart}
use Rattle.mcap_io.proofs.Calls.{adds-adds, adds-part}
use Rattle.command_base.proofs.Behind.{part-longer}
use Rattle.feed_lane.specs.declared.report.FeedReport.{FeedReport}
use Rattle.command_record.specs.ReportTexts.{feed_line, feed_lines}

-- the lines of more feeds stand behind the lines of the first
pub feed_lines-append : (j : ℕ) (xs ys : List FeedReport) → feed_lines j (xs ++ ys) ≡ feed_lines j xs ++ feed_lines (j + length xs) ys
feed_lines-append j [] ys = ap (λ n. feed_lines n ys) (sym (add-zero j))
feed_lines-append j (x ∷ xs) ys =
    let moved : j + 1 + length xs ≡ j + length (x ∷ xs) = omega arith in
    ap (λ l. feed_line j x ++ l) (feed_lines-append (j + 1) xs ys ∙ ap (λ n. feed_lines (j + 1) xs ++ feed_lines n ys) moved)
    ∙ sym (append_assoc (feed_line j x) (feed_lines (j + 1) xs) (feed_lines (j + length (x ∷ xs)) ys))

-- one feed more
pub feed_lines-more : (fs : List FeedReport) (i : ℕ) (d : FeedReport) → i < length fs → feed_lines 1 (take (i + 1) fs) ≡ feed_lines 1 (take i fs) ++ feed_line (i + 1) (get_or fs i d)
feed_lines-more fs i d within =
    let number : 1 + length (take i fs) ≡ i + 1 = omega (arith, length-take-le i fs (omega arith)) in
    ap (feed_lines 1) (take_more fs i d within)
    ∙ feed_lines-append 1 (take i fs) (get_or fs i d ∷ [])
    ∙ ap (λ n. feed_lines 1 (take i fs) ++ (feed_line n (get_or fs i d) ++ [])) number
    ∙ ap (λ l. feed_lines 1 (take i fs) ++ l) (append-nil (feed_line (i + 1) (get_or fs i d)))

-- a line that was printed behind the lines of the feeds below an index
pub feed_lines-adds : (old mid new : Option (List ℕ)) (fs : List FeedReport) (i : ℕ) (f : FeedReport) (line : List ℕ) → i < length fs → f ≡ get_or fs i f → line ≡ feed_line (i + 1) f → Adds old mid (feed_lines 1 (take i fs)) → Adds mid new line → Adds old new (feed_lines 1 (take (i + 1) fs))
feed_lines-adds old mid new fs i f line within at is so_far adds =
    let P : List ℕ → Type 0 = λ l. Adds old new l in
    let more : feed_lines 1 (take i fs) ++ line ≡ feed_lines 1 (take (i + 1) fs) =
    ap (λ l. feed_lines 1 (take i fs) ++ l) (is ∙ ap (feed_line (i + 1)) at) ∙ sym (feed_lines-more fs i f within) in
    subst P more (adds-adds old mid new _ line so_far adds)

-- a line that failed behind them: a first part of all lines was printed
pub feed_lines-part : (old mid new : Option (List ℕ)) (fs : List FeedReport) (i : ℕ) (f : FeedReport) (line : List ℕ) → i < length fs → f ≡ get_or fs i f → line ≡ feed_line (i + 1) f → Adds old mid (feed_lines 1 (take i fs)) → AddsPart mid new 0 line → AddsPart old new 0 (feed_lines 1 fs)
feed_lines-part old mid new fs i f line within at is so_far part =
    let shown : List ℕ = feed_lines 1 (take i fs) ++ line in
    let rest : List ℕ = feed_lines (1 + length (take (i + 1) fs)) (drop (i + 1) fs) in
    let more : shown ≡ feed_lines 1 (take (i + 1) fs) =
    ap (λ l. feed_lines 1 (take i fs) ++ l) (is ∙ ap (feed_line (i + 1)) at) ∙ sym (feed_lines-more fs i f within) in
    let whole : shown ++ rest ≡ feed_lines 1 fs =
    ap (λ l. l ++ rest) more ∙ sym (feed_lines-append 1 (take (i + 1) fs) (drop (i + 1) fs)) ∙ ap (feed_lines 1) (take-append-drop (i + 1) fs) in
    let P : List ℕ → Type 0 = λ l. AddsPart old new 0 l in
    subst P whole (part-longer old new _ shown rest (adds-part old mid new _ line 0 so_far part))
