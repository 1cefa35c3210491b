-- Texts of one kind of replays are those of any other that holds where it does.
use Rattle.std.proofs.Common.{ℕ, List, [], ◌∷◌, ◌≤◌, le_refl}
use Rattle.std.specs.List.{AllZip}
use Rattle.live_watcher.specs.Text.{SealState, undecided, sealed_by, unsealed, IsFrontLine, FrontsText, IsEndText, WatchText, BeginsLine, none_more, of_front, of_end, WatchPart}

module _ (replays others : ℕ → ℕ → List ℕ → Type 0) (blocks : ℕ) (are : (n count : ℕ) (text : List ℕ) → n ≤ blocks → replays n count text → others n count text) where
  line_as : (n : ℕ) (line : List ℕ) → IsFrontLine replays blocks n line → IsFrontLine others blocks n line
  line_as n line is = record { within = is.within; count = is.count; text = is.text; replay = are n is.count is.text is.within is.replay; line_is = is.line_is }

  lines_as : (fronts : List ℕ) (lines : List (List ℕ)) → AllZip (IsFrontLine replays blocks) fronts lines → AllZip (IsFrontLine others blocks) fronts lines
  lines_as [] [] each = each
  lines_as [] (l ∷ ls) each = each
  lines_as (n ∷ ns) [] each = each
  lines_as (n ∷ ns) (l ∷ ls) each = (line_as n l each.0, lines_as ns ls each.1)

  pub fronts_as : (fronts text : List ℕ) → FrontsText replays blocks fronts text → FrontsText others blocks fronts text
  fronts_as fronts text is = record { rise = is.rise; lines = is.lines; each = lines_as fronts is.lines is.each; text_is = is.text_is }

  end_as : (ending : SealState) (text : List ℕ) → IsEndText replays blocks ending text → IsEndText others blocks ending text
  end_as undecided text is = is
  end_as (sealed_by end) text is = (is.0, is.1, are blocks is.0 is.1 (le_refl blocks) is.2, is.3)
  end_as unsealed text is = is

  pub whole_as : (fronts : List ℕ) (ending : SealState) (text : List ℕ) → WatchText replays blocks fronts ending text → WatchText others blocks fronts ending text
  whole_as fronts ending text is = record {
    told = is.told;
    last = is.last;
    fronts_are = fronts_as fronts is.told is.fronts_are;
    last_is = end_as ending is.last is.last_is;
    text_is = is.text_is;
  }

  begun_as : (fronts : List ℕ) (ending : SealState) (part : List ℕ) → BeginsLine replays blocks fronts ending part → BeginsLine others blocks fronts ending part
  begun_as fronts ending part (none_more none) = none_more none
  begun_as fronts ending part (of_front n line rises is prefix) = of_front n line rises (line_as n line is) prefix
  begun_as fronts ending part (of_end line is prefix) = of_end line (end_as ending line is) prefix

  pub part_as : (fronts : List ℕ) (ending : SealState) (text : List ℕ) → WatchPart replays blocks fronts ending text → WatchPart others blocks fronts ending text
  part_as fronts ending text is = record {
    told = is.told;
    part = is.part;
    fronts_are = fronts_as fronts is.told is.fronts_are;
    begun = begun_as fronts ending is.part is.begun;
    text_is = is.text_is;
  }
