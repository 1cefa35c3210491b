-- What every history of a directory is, and what is added to one.
use Rattle.std.specs.Prelude.{◌≡◌, ℕ, ◌≤◌, List, [], ◌++◌, length, take, Option, Some}
use Rattle.live_entry.specs.declared.entry.Entry.{Entry}
use Rattle.live_entry.specs.Entries.{EntriesFollow}
use Rattle.mcap_model.specs.declared.ends.End.{End}
use Rattle.live_directory.specs.declared.front.Added.{Added}
use Rattle.live_directory.specs.declared.front.Front.{Front}
use Rattle.live_directory.specs.Published.{entries_of, end_of}

abbrev pub added_batch : {X : Type 0} → List (Entry X) → Option End → Added X
added_batch entries end = record { entries = entries; end = end }

-- nothing is added behind an end
abbrev pub EndsLast : {X : Type 0} → List (Added X) → Type 0
EndsLast {X} history =
    (before behind : List (Added X)) (end : End) → history ≡ before ++ behind → end_of before ≡ Some end → behind ≡ []

-- at each time the entries followed one another
abbrev pub AlwaysFollow : {X : Type 0} → (X → Option (List ℕ)) → List (Added X) → Type 0
AlwaysFollow tells history = (n : ℕ) → EntriesFollow tells (entries_of (take n history))

-- what every history of a directory is
pub record IsHistory {X : Type 0} (tells : X → Option (List ℕ)) (history : List (Added X)) : Type 0 where
  pub ends : EndsLast history
  pub follow : AlwaysFollow tells history

abbrev pub published_front : {X : Type 0} → List (Added X) → Front
published_front history = record { blocks = length (entries_of history); end = end_of history }

-- the second front has no fewer blocks, and where the first has an end it is the first
pub record AtLeast (before now : Front) : Type 0 where
  pub blocks : before.blocks ≤ now.blocks
  pub stays : (end : End) → before.end ≡ Some end → now ≡ before
