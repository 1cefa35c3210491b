-- What holds of the line.
use Rattle.std.specs.Prelude.{◌≡◌, ℕ, List}
use Rattle.summary_read.specs.Parts.{Parts}
use Rattle.command_read.specs.Told.{InfoText}

-- one text tells of the parts of a file
abbrev pub OneText : Type 0
OneText = (p : Parts) (text other : List ℕ) → InfoText p text → InfoText p other → text ≡ other
