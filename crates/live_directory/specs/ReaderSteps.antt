-- What a reader learns when it enters.
use Rattle.std.specs.Prelude.{◌≡◌, ℕ, suc, List, length, All, Option, Some, None, Result, Ok, Err}
use mathlib.Core.List.{IsPrefix}
use Rattle.live_entry.specs.declared.entry.Entry.{Entry}
use Rattle.live_directory.specs.declared.front.Added.{Added}
use Rattle.live_directory.specs.declared.front.Front.{Front}
use Rattle.live_directory.specs.declared.visit.Visits.{Visits}
use Rattle.live_directory.specs.Published.{entries_of}
use Rattle.live_directory.specs.Histories.{published_front, AtLeast}
use Rattle.live_directory.specs.Visits.{no_visits, one_visit}
use Rattle.mcap_wire.specs.declared.faults.Memory.{Memory}
use Rattle.live_directory.specs.Reading.{ReaderState, unread}

-- so many of the entries that a reader hasn't read
pub record AreUnread {X : Type 0} (readers : List (ReaderState X)) (count : ℕ) : Type 0 where
  pub many : length readers ≡ count
  pub each : All (λ r. r ≡ unread) readers

-- it knows all that it knew, and holds what it held
pub record Learns {X : Type 0} (before now : ReaderState X) : Type 0 where
  pub grows : IsPrefix before.known now.known
  pub rises : AtLeast (published_front before.known) (published_front now.known)
  pub held : now.entries ≡ before.entries

-- it entered once, and all that it found then it knows and holds; there is no more that it knows
pub record Refreshes {X : Type 0} (before now : ReaderState X) (front : Front) : Type 0 where
  pub entered : now.entered ≡ suc before.entered
  pub front_is : front ≡ published_front now.found
  pub known : now.known ≡ now.found
  pub entries : now.entries ≡ entries_of now.found
  pub grows : IsPrefix before.known now.known
  pub rises : AtLeast (published_front before.known) front

-- what is known of the enterings of a reader that isn't reading
abbrev pub visits_in : {R X : Type 0} → (R → Visits X) → Option R → Visits X
visits_in seen None = no_visits
visits_in seen (Some r) = seen r

-- A reader that knew this and held these entries tried once: it wasn't let in; or it found what goes on from that, and holds
-- its entries; or memory lacked for these.
abbrev pub Visited : {X : Type 0} → Visits X → Visits X → List (Added X) → List (Entry X) → List (Entry X)
    → Option (Result (List (Added X)) Memory) → Type 0
Visited before now known held holds None = (now ≡ before) × (holds ≡ held)
Visited before now known held holds (Some (Ok found)) =
    (now ≡ one_visit before found) × IsPrefix known found × (holds ≡ entries_of found)
Visited before now known held holds (Some (Err want)) = (now.entered ≡ suc before.entered) × (holds ≡ held)

-- the same of a reader
abbrev pub Tries : {X : Type 0} → ReaderState X → ReaderState X → Option (Result Unit Memory) → Type 0
Tries before now None = now ≡ before
Tries before now (Some (Ok it)) = (now.entered ≡ suc before.entered) × (now.known ≡ now.found)
    × (now.entries ≡ entries_of now.found) × IsPrefix before.known now.known
Tries before now (Some (Err want)) =
    (now.entered ≡ suc before.entered) × (now.known ≡ before.known) × (now.entries ≡ before.entries)
