-- What is read of the frame of a record, and which lengths fit.
use Rattle.std.specs.Prelude.{◌≡◌, ◌≢◌, ℕ, ◌^◌, ◌<◌, List, length, Result, Ok, Err, Option, Some, None}
use denote.Ref.{Bor}
use Rattle.mcap_wire.specs.declared.faults.Memory.{Memory}
use Rattle.mcap_wire.specs.Layout.{framed}
use Rattle.mcap_wire.specs.Maps.{pair_texts}
use Rattle.rec_data.specs.declared.owned.Rec.{Rec}
use Rattle.rec_data.specs.declared.owned.Rec.TheVariants.{Schema, Channel, Message, Extra}
use Rattle.rec_data.specs.Owned.{IsExtraContent, ShowsRec}

-- its lengths fit in front of what they count
abbrev pub LengthsFit : Rec → Type 0
LengthsFit (Schema id schema) =
    (length schema.name < 2 ^ 32) × (length schema.encoding < 2 ^ 32) × (length schema.payload < 2 ^ 32)
LengthsFit (Channel id schema topic encoding metadata) =
    (length topic < 2 ^ 32) × (length encoding < 2 ^ 32) × (length (pair_texts metadata) < 2 ^ 32)
LengthsFit (Message channel_id sequence log_time publish_time payload) = Unit {0}
LengthsFit (Extra op content) = Unit {0}

-- where it is an extra its content meets its layout
abbrev pub ExtraMeets : Rec → Type 0
ExtraMeets (Schema id schema) = Unit {0}
ExtraMeets (Channel id schema topic encoding metadata) = Unit {0}
ExtraMeets (Message channel_id sequence log_time publish_time payload) = Unit {0}
ExtraMeets (Extra op content) = IsExtraContent op content

-- what a content of that kind shows, or that it shows nothing, or that memory lacked
abbrev pub ContentRead : ℕ → List ℕ → Result (Option Rec) Memory → Type 0
ContentRead op content (Ok (Some r)) = ShowsRec op content r
ContentRead op content (Ok None) = (r : Rec) → ShowsRec op content r → ⊥
ContentRead op content (Err lacks) = Unit {0}

-- the opcode and the content that the bytes are the frame of, or that they are no frame with a valid opcode
abbrev pub Unframed : List ℕ → Option (ℕ × Bor (List ℕ)) → Type 0
Unframed bytes (Some r) = bytes ≡ framed r.0 r.1.now
Unframed bytes None = (op : ℕ) (content : List ℕ) → op ≢ 0 → bytes ≡ framed op content → ⊥

-- the bytes are this record, framed
abbrev pub IsFramed : List ℕ → Rec → Type 0
IsFramed bytes r = (op : ℕ) × (content : List ℕ) × (bytes ≡ framed op content) × ShowsRec op content r

-- what the bytes are, or that they are no such record, or that memory lacked
abbrev pub FramedRead : List ℕ → Result (Option Rec) Memory → Type 0
FramedRead bytes (Ok (Some r)) = IsFramed bytes r
FramedRead bytes (Ok None) = (r : Rec) → IsFramed bytes r → ⊥
FramedRead bytes (Err lacks) = Unit {0}
