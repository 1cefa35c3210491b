-- The channels of an input that have messages, as marks at their ids.
use Rattle.std.specs.Prelude.{◌≡◌, ℕ, List, length, map, fold, filter, set, Bool, true, false}
use Rattle.std.specs.List.{flat_map}
use Rattle.mcap_model.specs.Places.{At, Has}
use Rattle.mcap_model.specs.Tops.{Top, unchunked}
use Rattle.mcap_model.specs.Scan.{Seen}
use Rattle.mcap_scan.specs.declared.message_heads.MessageHead.{MessageHead}
use Rattle.mcap_scan.specs.Heads.{channel_id_in}
use Rattle.mcap_scan.specs.HeadTimes.{is_headed}

-- the channels of the Messages among some records whose contents meet their layout
abbrev pub message_channels : List Top → List ℕ
message_channels records = map (λ t. channel_id_in t.content) (filter is_headed records)

-- those of Messages that are listed
abbrev pub listed_channels : List MessageHead → List ℕ
listed_channels heads = map (λ h. h.channel) heads

-- those of the Messages of a file, inside its chunks too
abbrev pub channels_under : List Top → List ℕ
channels_under tops = flat_map (λ t. message_channels (unchunked t)) tops

-- an id more is marked
abbrev pub with_mark : List Bool → ℕ → List Bool
with_mark marks id = set marks id true

abbrev pub with_marks : List Bool → List ℕ → List Bool
with_marks marks ids = fold with_mark marks ids

-- a place for each id, and no mark
pub record AreUnmarked (marks : List Bool) : Type 0 where
  pub size : length marks ≡ 65536
  pub none : (id : ℕ) (mark : Bool) → At marks id mark → mark ≡ false

-- just the channels of these messages are marked
pub record MarksChannels (marks : List Bool) (messages : List Seen) : Type 0 where
  pub size : length marks ≡ 65536
  pub are : (id : ℕ) → At marks id true → (m : Seen) × Has messages m × (m.channel ≡ id)
  pub all : (m : Seen) → Has messages m → At marks m.channel true
