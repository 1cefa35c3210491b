-- What holds of what is written, whatever sorts it.
use Rattle.std.specs.Prelude.{◌≡◌, ℕ, List, filter, map, AllPairs}
use Rattle.rec_data.specs.declared.owned.Rec.{Rec}
use Rattle.mcap_model.specs.Tops.{Top}
use Rattle.mcap_model.specs.Scan.{ComesBefore}
use Rattle.mcap_model.specs.History.{is_message}
use Rattle.mcap_sort.specs.Sorted.{message_seen, Sorts}

-- the messages that are written are those of the replay, in its order
abbrev pub MessagesAreReplayed : Type 0
MessagesAreReplayed = (tops extras : List Top) (profile : List ℕ) (written : List Rec)
    → (s : Sorts tops profile extras written) → filter is_message written ≡ map message_seen s.shown

-- those of a file whose messages rise by log time and place are written in the file's order
abbrev pub SortedFilesStaySo : Type 0
SortedFilesStaySo = (tops extras : List Top) (profile : List ℕ) (written : List Rec)
    → (s : Sorts tops profile extras written) → AllPairs ComesBefore s.messages
    → filter is_message written ≡ map message_seen s.messages
