-- What a writer has published, and what it has not published yet.
use Rattle.std.specs.Prelude.{◌≡◌, List, [], ◌∷◌, ◌++◌, Bool, true, false, Option, Some, None}
use mathlib.Core.List.{IsPrefix}
use Rattle.live_entry.specs.declared.entry.Entry.{Entry}
use Rattle.mcap_model.specs.declared.ends.End.{End}
use Rattle.live_directory.specs.declared.front.Added.{Added}
use Rattle.live_directory.specs.declared.front.Batch.{Batch}
use Rattle.live_directory.specs.Histories.{added_batch}
use Rattle.live_directory.specs.Published.{entries_of, end_of}

-- The history that readers find, the entries that are pending, and whether memory lacked in publishing.
pub record DirectoryState (X : Type 0) : Type 0 where
  pub shown : List (Added X)
  pub pending : List (Entry X)
  pub short : Bool

abbrev pub empty_directory : {X : Type 0} → DirectoryState X
empty_directory = record { shown = []; pending = []; short = false }

-- these entries were published behind all others
pub record Publishes {X : Type 0} (before now : DirectoryState X) (entries : List (Entry X)) (note : List (Added X))
    : Type 0 where
  pub shown : now.shown ≡ before.shown ++ added_batch entries None ∷ []
  pub pending : now.pending ≡ []
  pub short : now.short ≡ false
  pub unsealed : end_of now.shown ≡ None
  pub note_is : note ≡ now.shown

-- memory lacked, and these entries are pending too
pub record Defers {X : Type 0} (before now : DirectoryState X) (entries : List (Entry X)) : Type 0 where
  pub shown : now.shown ≡ before.shown
  pub pending : now.pending ≡ before.pending ++ entries
  pub short : now.short ≡ true

-- all that was pending was published, with the end
pub record Seals {X : Type 0} (before now : DirectoryState X) (end : End) (note : List (Added X)) : Type 0 where
  pub grows : IsPrefix before.shown now.shown
  pub entries : entries_of now.shown ≡ entries_of before.shown ++ before.pending
  pub sealed : end_of now.shown ≡ Some end
  pub pending : now.pending ≡ []
  pub note_is : note ≡ now.shown

-- memory lacked, and what was pending is
pub record StaysUnsealed {X : Type 0} (before now : DirectoryState X) : Type 0 where
  pub shown : now.shown ≡ before.shown
  pub pending : now.pending ≡ before.pending
  pub short : now.short ≡ true

-- ---- inside

-- The batches that readers find; those that the log of the writer has besides; one that memory lacked for behind these; and one
-- that the history hasn't.
pub record OutboxState (X : Type 0) : Type 0 where
  pub shown : List (Added X)
  pub behind : List (Added X)
  pub listed : List (Added X)
  pub unlisted : List (Added X)

-- all that the history has
abbrev pub outbox_history : {X : Type 0} → OutboxState X → List (Added X)
outbox_history o = o.shown ++ (o.behind ++ o.listed)

-- all that readers don't find
abbrev pub unseen : {X : Type 0} → OutboxState X → List (Added X)
unseen o = o.behind ++ (o.listed ++ o.unlisted)

-- what is seen of a directory
abbrev pub seen_of : {X : Type 0} → OutboxState X → Bool → DirectoryState X
seen_of o short = record { shown = o.shown; pending = entries_of (unseen o); short = short }

-- a batch that memory lacked for waits, and nothing else changed
pub record Waits {X : Type 0} (before now : OutboxState X) (batch : Added X) : Type 0 where
  pub shown : now.shown ≡ before.shown
  pub behind : now.behind ≡ before.behind
  pub waits : now.listed ++ now.unlisted ≡ batch ∷ []

-- the end stands behind all that is on its way, and nothing waits
pub record EndAdded {X : Type 0} (before now : OutboxState X) (end : End) : Type 0 where
  pub shown : now.shown ≡ before.shown
  pub listed : now.listed ≡ []
  pub unlisted : now.unlisted ≡ []
  pub entries : entries_of now.behind ≡ entries_of before.behind
  pub ended : end_of (now.shown ++ now.behind) ≡ Some end

-- the end may wait, and no entry is lost
pub record EndWaits {X : Type 0} (before now : OutboxState X) : Type 0 where
  pub shown : now.shown ≡ before.shown
  pub entries : entries_of (unseen now) ≡ entries_of (unseen before)

-- a batch or none
abbrev pub at_most_batch : {X : Type 0} → Option (Batch X) → List (Added X)
at_most_batch None = []
at_most_batch (Some b) = added_batch b.entries.items b.end ∷ []
