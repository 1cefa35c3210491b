-- What a reader has.
use Rattle.std.specs.Prelude.{ℕ, List, []}
use Rattle.live_entry.specs.declared.entry.Entry.{Entry}
use Rattle.live_directory.specs.declared.front.Added.{Added}

-- The beginning of the history that it knows, the entries that it holds, how often it entered, and what it found the last time.
pub record ReaderState (X : Type 0) : Type 0 where
  pub known : List (Added X)
  pub entries : List (Entry X)
  pub entered : ℕ
  pub found : List (Added X)

-- a reader that never entered and learnt nothing
abbrev pub unread : {X : Type 0} → ReaderState X
unread = record { known = []; entries = []; entered = 0; found = [] }
