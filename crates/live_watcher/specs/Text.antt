-- What a watcher writes.
use Rattle.std.specs.Prelude.{◌≡◌, ℕ, zero, suc, ◌*◌, ◌/◌, ◌%◌, ◌≤◌, List, [], ◌∷◌, ◌++◌, length, take, codes, decimal, Option, None}
use Rattle.std.specs.List.{AllZip, concat}
use mathlib.Core.List.{IsPrefix}
use Rattle.mcap_crc.specs.Remainder.{remainder}
use Rattle.mcap_model.specs.declared.ends.End.{End}
use Rattle.mcap_model.specs.declared.ends.End.TheVariants as ends
use Rattle.mcap_model.specs.declared.replay.Range.{Range}
use Rattle.mcap_model.specs.Scan.{Seen, Replay}
use Rattle.time_player.specs.Text.{hex_digit, cat_text}
use Rattle.live_entry.specs.declared.entry.Entry.{Entry}
use Rattle.live_entry.specs.Following.{Stored, Stretch, Follow, ScanStored, IsStored}

-- ---- lines

-- a number in so many hexadecimal digits
unfoldable pub hex_text : ℕ → ℕ → List ℕ
hex_text zero n = []
hex_text (suc k) n = hex_text k (n / 16) ++ hex_digit (n % 16) ∷ []

-- front BLOCKS MESSAGES CRC
unfoldable pub front_line : ℕ → ℕ → ℕ → List ℕ
front_line blocks messages crc = codes "front "
    ++ (decimal blocks ++ (codes " " ++ (decimal messages ++ (codes " " ++ (hex_text 8 crc ++ codes "\n")))))

abbrev pub end_word : End → List ℕ
end_word ends.Closed = codes "closed"
end_word (ends.Stopped stop) = codes "stopped"

-- end WORD BLOCKS MESSAGES
unfoldable pub end_line : End → ℕ → ℕ → List ℕ
end_line end blocks messages =
    codes "end " ++ (end_word end ++ (codes " " ++ (decimal blocks ++ (codes " " ++ (decimal messages ++ codes "\n")))))

abbrev pub unsealed_line : List ℕ
unsealed_line = codes "end unsealed\n"

-- ---- the replay of blocks

-- so many messages of the range stand in these bytes, and these are their lines
pub record ReplayText (range : Range) (stored : List Stored) (count : ℕ) (text : List ℕ) : Type 0 where
  pub stretches : List Stretch
  pub follow : Follow stored stretches
  pub messages : List Seen
  pub scan : ScanStored stored stretches messages
  pub shown : List Seen
  pub replay : Replay range None messages shown
  pub count_is : count ≡ length shown
  pub text_is : text ≡ cat_text shown

-- the same of blocks, where the extents of their entries tell bytes
abbrev pub IsReplayText : {X : Type 0} → (X → Option (List ℕ)) → Range → List (Entry X) → ℕ → List ℕ → Type 0
IsReplayText tells range entries count text =
    (stored : List Stored) → AllZip (IsStored tells) entries stored → ReplayText range stored count text

-- the same of the first n of these blocks
abbrev pub replays_of : {X : Type 0} → (X → Option (List ℕ)) → Range → List (Entry X) → ℕ → ℕ → List ℕ → Type 0
replays_of tells range entries n count text = IsReplayText tells range (take n entries) count text

-- ---- fronts

-- The texts are those of a number of blocks: `replays n count text` says that the replay of the first n of them has so many
-- messages, and these lines.

-- the line of the replay of the first n blocks
pub record IsFrontLine (replays : ℕ → ℕ → List ℕ → Type 0) (blocks n : ℕ) (line : List ℕ) : Type 0 where
  pub within : n ≤ blocks
  pub count : ℕ
  pub text : List ℕ
  pub replay : replays n count text
  pub line_is : line ≡ front_line n count (remainder text)

-- each number is above 0, and at least twice the one before it
abbrev pub Doubles : ℕ → List ℕ → Type 0
Doubles last [] = Unit {0}
Doubles last (n ∷ more) = (1 ≤ n) × (2 * last ≤ n) × Doubles n more

-- a line for each of these fronts
pub record FrontsText (replays : ℕ → ℕ → List ℕ → Type 0) (blocks : ℕ) (fronts text : List ℕ) : Type 0 where
  pub rise : Doubles 0 fronts
  pub lines : List (List ℕ)
  pub each : AllZip (IsFrontLine replays blocks) fronts lines
  pub text_is : text ≡ concat lines

-- ---- the end

-- whether blocks may still come, and how their writer ended, where it said so
pub data SealState : Type 0 where
  undecided : SealState
  sealed_by : End → SealState
  unsealed : SealState

-- the line of the end with the lines of the replay of all blocks; or that there is none
abbrev pub IsEndText : (ℕ → ℕ → List ℕ → Type 0) → ℕ → SealState → List ℕ → Type 0
IsEndText replays blocks undecided text = ⊥
IsEndText replays blocks (sealed_by end) text =
    (count : ℕ) × (lines : List ℕ) × replays blocks count lines × (text ≡ end_line end blocks count ++ lines)
IsEndText replays blocks unsealed text = text ≡ unsealed_line

-- ---- the whole

-- the lines of these fronts, and the end
pub record WatchText (replays : ℕ → ℕ → List ℕ → Type 0) (blocks : ℕ) (fronts : List ℕ) (ending : SealState)
    (text : List ℕ) : Type 0 where
  pub told : List ℕ
  pub last : List ℕ
  pub fronts_are : FrontsText replays blocks fronts told
  pub last_is : IsEndText replays blocks ending last
  pub text_is : text ≡ told ++ last

-- a first part of the line of one more front, or of the end, or nothing
pub data BeginsLine (replays : ℕ → ℕ → List ℕ → Type 0) (blocks : ℕ) (fronts : List ℕ) (ending : SealState)
    (part : List ℕ) : Type 0 where
  none_more : part ≡ [] → BeginsLine replays blocks fronts ending part
  of_front : (n : ℕ) (line : List ℕ) → Doubles 0 (fronts ++ n ∷ []) → IsFrontLine replays blocks n line
      → IsPrefix part line → BeginsLine replays blocks fronts ending part
  of_end : (line : List ℕ) → IsEndText replays blocks ending line → IsPrefix part line
      → BeginsLine replays blocks fronts ending part

-- the lines of these fronts, and a first part of what may stand behind them
pub record WatchPart (replays : ℕ → ℕ → List ℕ → Type 0) (blocks : ℕ) (fronts : List ℕ) (ending : SealState)
    (text : List ℕ) : Type 0 where
  pub told : List ℕ
  pub part : List ℕ
  pub fronts_are : FrontsText replays blocks fronts told
  pub begun : BeginsLine replays blocks fronts ending part
  pub text_is : text ≡ told ++ part

-- ---- the same of the blocks of these entries

abbrev pub FrontsTextOf : {X : Type 0} → (X → Option (List ℕ)) → Range → List (Entry X) → List ℕ → List ℕ → Type 0
FrontsTextOf tells range entries = FrontsText (replays_of tells range entries) (length entries)

abbrev pub WatchTextOf : {X : Type 0} → (X → Option (List ℕ)) → Range → List (Entry X) → List ℕ → SealState → List ℕ
    → Type 0
WatchTextOf tells range entries = WatchText (replays_of tells range entries) (length entries)

abbrev pub WatchPartOf : {X : Type 0} → (X → Option (List ℕ)) → Range → List (Entry X) → List ℕ → SealState → List ℕ
    → Type 0
WatchPartOf tells range entries = WatchPart (replays_of tells range entries) (length entries)
