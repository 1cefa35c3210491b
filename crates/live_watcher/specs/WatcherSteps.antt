-- What the steps of a watcher come to.
use Rattle.std.specs.Prelude.{ℕ, List, length, Option, None, ◌≡◌, ◌⊎◌, ◌*◌, ◌<◌, [], ◌∷◌, ◌++◌}
use Rattle.live_directory.specs.Published.{entries_of}
use Rattle.mcap_model.specs.declared.replay.Range.{Range}
use Rattle.live_entry.specs.declared.entry.Entry.{Entry}
use Rattle.live_directory.specs.Reading.{ReaderState}
use Rattle.live_watcher.specs.Text.{replays_of, IsFrontLine, SealState, unsealed, IsEndText, Doubles}
use Rattle.live_watcher.specs.Watching.{Written, WatcherState, Watches, HoldsAllSealed}

abbrev pub IsFrontLineOf : {X : Type 0} → (X → Option (List ℕ)) → Range → List (Entry X) → ℕ → List ℕ → Type 0
IsFrontLineOf tells range entries = IsFrontLine (replays_of tells range entries) (length entries)

abbrev pub IsEndTextOf : {X : Type 0} → (X → Option (List ℕ)) → Range → List (Entry X) → SealState → List ℕ → Type 0
IsEndTextOf tells range entries = IsEndText (replays_of tells range entries) (length entries)

-- if each of these fronts has at least twice as many blocks as the one before it, this one has too
abbrev pub MayFollow : List ℕ → ℕ → Type 0
MayFollow fronts n = Doubles 0 fronts → Doubles 0 (fronts ++ n ∷ [])

-- the last of some numbers, or that one
abbrev pub last_or : ℕ → List ℕ → ℕ
last_or n [] = n
last_or n (m ∷ more) = last_or m more

-- No front of so many blocks is to be told behind these: there is no block, or fewer than twice those of the last one.
abbrev pub IsTold : List ℕ → ℕ → Type 0
IsTold fronts blocks = (blocks ≡ 0) ⊎ (blocks < 2 * last_or 0 fronts)

-- A watcher that goes on has told the fronts that it found: none of as many blocks as its reader knows is left to be told.
abbrev pub HasTold : {X : Type 0} → WatcherState X → Type 0
HasTold w = w.written.end ≡ None → IsTold w.written.fronts (length (entries_of w.reader.known))

-- Since it was new, this watcher has written of the blocks that its reader holds.
pub record WatchedSince {X : Type 0} (tells : X → Option (List ℕ)) (first now : WatcherState X) : Type 0 where
  pub range : now.range ≡ first.range
  pub ending : SealState
  pub holds : HoldsAllSealed now.reader ending
  pub watches : Watches tells first.range now.reader.entries ending first.written now.written

-- Since it was new, a watcher whose directory wasn't sealed has written of the blocks that its reader holds.
pub record EndsUnsealed {X : Type 0} (tells : X → Option (List ℕ)) (first : WatcherState X) (reader : ReaderState X)
    (now : Written) : Type 0 where
  pub ending : SealState
  pub known : (ending ≡ unsealed) ⊎ HoldsAllSealed reader ending
  pub watches : Watches tells first.range reader.entries ending first.written now
