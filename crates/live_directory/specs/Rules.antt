-- The rule of the history, and what its one step tells.
use Rattle.std.specs.Prelude.{ℕ, ◌≡◌, ◌==◌, true, Option, List, [], ◌∷◌, ◌++◌, length, MatchBool}
use Rattle.logbook.specs.Pages.{Cell, Step, View, Book, Named}
use Rattle.live_directory.specs.declared.front.Added.{Added}
use Rattle.live_directory.specs.Histories.{IsHistory}

-- The first word is the length of the history. A book has two words, of which the second stays 0.
pub record IsBookOf {X : Type 0} (tells : X → Option (List ℕ)) (cells : List Cell) (log : List (Added X)) : Type 0 where
  pub words : cells ≡ (length log, true) ∷ (0, true) ∷ []
  pub legal : IsHistory tells log

abbrev pub named_book : Book → Named
named_book b = record { tracked = true; key = 0; book = b }

-- the batch was added to all that had been seen; or the history was longer
abbrev pub AddsBatch : {X : Type 0} → (X → Option (List ℕ)) → Step (Added X) → View (Added X) ℕ → ℕ → View (Added X) ℕ
    → Type 0
AddsBatch tells s v found w =
    MatchBool (found == s.old) ((w.0 ≡ v.0 ++ s.ask ∷ []) × IsHistory tells w.0) ((length w.0 ≡ found)
    × IsHistory tells w.0)
