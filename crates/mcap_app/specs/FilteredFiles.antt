-- Laws of filtered files: they have the messages of the input that are asked for, and to filter what was filtered is to filter
-- once.
use Rattle.std.specs.Prelude.{◌≡◌, ℕ, List, length, filter, Some, None}
use Rattle.std.specs.List.{AllZip}
use Rattle.rec_data.specs.declared.owned.Rec.{Rec}
use Rattle.mcap_model.specs.Tops.{Top}
use Rattle.mcap_model.specs.Kept.{Halts, reading_limits, at_end}
use Rattle.mcap_model.specs.Scan.{Seen, Scan, Replay}
use Rattle.mcap_model.specs.History.{is_message}
use Rattle.mcap_model.specs.Blocks.{pieces_of, blocks_in}
use Rattle.mcap_model.specs.File.{file_of}
use Rattle.mcap_model.specs.Repaired.{Repairs}
use Rattle.chunk_writer.specs.Limits.{FileHolds}
use Rattle.time_player.specs.Asking.{is_asked}
use Rattle.record_keeping.specs.NewFiles.{recovered_options}
use Rattle.mcap_filter.specs.declared.answers.Picked.{Picked}
use Rattle.mcap_filter.specs.Picked.{Asking, filtered}
use Rattle.mcap_filter.specs.Laws.{everything as all_messages}
use Rattle.mcap_filter.specs.FilteredHistories.{AsksForBoth}
use Rattle.command_write.specs.Filter.{FilterRequest, filter_request}
use Rattle.mcap_app.specs.Laws.{everything, IsChunkSize, AreCounted}

-- ---- what is filtered of some bytes

-- the file that filtering makes of records with this profile, these extras and this history
abbrev pub filtered_file : FilterRequest → List ℕ → List Top → List Rec → List ℕ
filtered_file asked profile extras history =
    file_of (recovered_options profile asked.chunk) extras (filtered asked.asking history)

-- A reading of some bytes comes to their Data End, and keeps these records; of what repairing makes of them this is the filtered
-- file, with its numbers, within the limits of writing.
pub record IsFilteredOf (asked : FilterRequest) (bytes file : List ℕ) (picked : Picked) : Type 0 where
  pub tops : List Top
  pub end : ℕ
  pub halts : Halts reading_limits bytes tops (at_end end)
  pub profile : List ℕ
  pub extras : List Top
  pub history : List Rec
  pub repairs : Repairs tops profile extras history
  pub messages : picked.messages ≡ length (filter is_message (filtered asked.asking history))
  pub records : picked.records ≡ length (filtered asked.asking history)
  pub file_is : file ≡ filtered_file asked profile extras history
  pub within : FileHolds profile (blocks_in (pieces_of (Some asked.chunk) None (filtered asked.asking history)))
      (length file)

-- ---- what is filtered has the messages that are asked for

-- two messages are one but for their places
pub record SameButPlace (s r : Seen) : Type 0 where
  pub channel : s.channel ≡ r.channel
  pub topic : s.topic ≡ r.topic
  pub message : s.message ≡ r.message

-- The file is read to its Data End, and its messages are those of these records that are chosen, in their order.
pub record HoldsMessages (chosen : List Seen → List Seen) (tops : List Top) (file : List ℕ) : Type 0 where
  pub messages : List Seen
  pub scan : Scan tops messages
  pub file_tops : List Top
  pub end : ℕ
  pub halts : Halts reading_limits file file_tops (at_end end)
  pub found : List Seen
  pub file_scan : Scan file_tops found
  pub are : AllZip SameButPlace (chosen messages) found

-- of some messages those that are asked for, as a printing with the same options chooses them
abbrev pub those_asked : Asking → List Seen → List Seen
those_asked a messages = filter (is_asked a.range a.topic) messages

-- What is filtered of some bytes has just those of their messages, in their order.
abbrev pub FilteredAreAsked : Type 0
FilteredAreAsked = (asked : FilterRequest) (bytes file : List ℕ) (picked : Picked)
    → (is : IsFilteredOf asked bytes file picked) → HoldsMessages (those_asked asked.asking) is.tops file

-- Where all messages are asked for, it has all of them.
abbrev pub AllAreKept : Type 0
AllAreKept = (chunk : ℕ) (bytes file : List ℕ) (picked : Picked)
    → (is : IsFilteredOf (filter_request all_messages chunk) bytes file picked)
    → HoldsMessages (λ messages. messages) is.tops file

-- So a printing of all of it shows what one of the bytes shows with the same options, in the same order.
abbrev pub FilteredReplaysAreOne : Type 0
FilteredReplaysAreOne = (asked : FilterRequest) (bytes file : List ℕ) (picked : Picked)
    → (is : IsFilteredOf asked bytes file picked) → (messages shown : List Seen) → Scan is.tops messages
    → Replay asked.asking.range asked.asking.topic messages shown → (tops : List Top) (end : ℕ)
    → Halts reading_limits file tops (at_end end) → (found again : List Seen) → Scan tops found
    → Replay everything.range everything.topic found again → AllZip SameButPlace shown again

-- ---- filtering twice

-- What is filtered of what was filtered of some bytes is what is filtered of these, for what both ask for.
abbrev pub FilteredTwiceAreOnce : Type 0
FilteredTwiceAreOnce = (one other both : Asking) (chunk later_chunk : ℕ) (bytes middle file : List ℕ)
    (picked again : Picked) → AsksForBoth one other both → IsChunkSize chunk
    → (first : IsFilteredOf (filter_request one chunk) bytes middle picked) → AreCounted first.extras
    → IsFilteredOf (filter_request other later_chunk) middle file again
    → IsFilteredOf (filter_request both later_chunk) bytes file again
