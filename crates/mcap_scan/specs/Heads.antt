-- The heads of the Messages that a chunk holds, and the record that some bytes begin with.
use Rattle.std.specs.Prelude.{◌≡◌, ℕ, ◌≤◌, List, ◌∷◌, [], take, length, true, false, Option, Some, None, if◌then◌else◌}
use Rattle.std.specs.List.{flat_map}
use Rattle.mcap_wire.specs.Layout.{number, part}
use Rattle.mcap_model.specs.Tops.{Top, Placed, top_bytes, records_in, is_chunk, chunk_records, placed_inside}
use Rattle.mcap_model.specs.Rules.{V6}
use Rattle.mcap_model.specs.Walk.{inner_top, StepsOver}
use Rattle.mcap_model.specs.declared.inner.Inner.{Inner}
use Rattle.mcap_scan.specs.declared.message_heads.MessageHead.{MessageHead}
use Rattle.mcap_scan.specs.HeadTimes.{time_in, is_headed}

-- ---- heads

-- the id of the channel in a Message's content, at its front
abbrev pub channel_id_in : List ℕ → ℕ
channel_id_in content = number (take 2 content)

abbrev pub head_of : Placed → MessageHead
head_of p = record { channel = channel_id_in p.top.content; time = time_in p.top.content; offset = p.place.inner }

-- the head of the Message that stands at a place, if one does
abbrev pub heads_at : Placed → List MessageHead
heads_at p = if is_headed p.top then head_of p ∷ [] else []

-- those of the Messages among the records of a chunk, in the order in which they stand
abbrev pub heads_in : List ℕ → List MessageHead
heads_in bytes = flat_map heads_at (placed_inside 0 0 (records_in bytes))

-- the head of the record at that offset, if it is a Message of its layout
abbrev pub HeadIs : Top → ℕ → Option MessageHead → Type 0
HeadIs t offset (Some head) = (is_headed t ≡ true)
    × (head ≡ record { channel = channel_id_in t.content; time = time_in t.content; offset = offset })
HeadIs t offset None = is_headed t ≡ false

-- ---- where the records of a chunk lie

-- from there to there in the content stand the records of a chunk; of another record nothing does
pub record LiesInside (t : Top) (from to : ℕ) : Type 0 where
  pub begins : from ≤ to
  pub ends : to ≤ length t.content
  pub records : V6 t → part from to t.content ≡ (if is_chunk t then chunk_records t.content else [])

-- ---- the first record

-- the bytes begin with that record, or with no whole one
abbrev pub BeginsWith : List ℕ → Option Inner → Type 0
BeginsWith bytes (Some inner) = (rest : List ℕ) × StepsOver 0 bytes (length (top_bytes (inner_top inner))) rest inner
BeginsWith bytes None = records_in bytes ≡ []
