-- What is kept of records as they are read, in a new file that is being written.
use Rattle.std.specs.Prelude.{◌≡◌, ℕ, ◌^◌, ◌-◌, List, [], ◌∷◌, ◌++◌, length, filter, map, fold, min, Bool, true, ◌==◌, if◌then◌else◌, Option, Some, None}
use Rattle.std.specs.List.{AllZip, list_any}
use Rattle.rec_data.specs.declared.owned.Rec.{Rec}
use Rattle.rec_data.specs.declared.owned.Rec.TheVariants.{Schema, Channel, Message, Extra}
use Rattle.mcap_io.specs.Outside.{LiveState}
use Rattle.mcap_model.specs.declared.options.FileOptions.{FileOptions}
use Rattle.mcap_wire.specs.Layout.{framed}
use Rattle.mcap_model.specs.Places.{Each}
use Rattle.mcap_model.specs.Tops.{Top, Placed, is_flat_kind}
use Rattle.mcap_model.specs.History.{is_schema, is_channel, is_message, is_inner, kept_with}
use Rattle.mcap_model.specs.Histories.{written_of}
use Rattle.mcap_model.specs.Written.{IsRec}
use Rattle.mcap_model.specs.Repaired.{is_extra}
use Rattle.chunk_writer.specs.declared.phase.Phase.TheVariants as phases
use Rattle.chunk_writer.specs.Scribes.{WritesHistory, phase_of}
use Rattle.record_keeping.specs.declared.keeping.Keeping.{Keeping}
use denote.Ref.{Bor}

-- ---- ids that were declared

abbrev pub is_declared : List ℕ → ℕ → Bool
is_declared ids id = list_any (λ other. id == other) ids

-- an id that is new goes last
abbrev pub declared_with : List ℕ → ℕ → List ℕ
declared_with ids id = if is_declared ids id then ids else ids ++ id ∷ []

-- the id that a record declares, or that it is on; an extra has none
abbrev pub record_id : Rec → ℕ
record_id (Schema id schema) = id
record_id (Channel id schema topic encoding metadata) = id
record_id (Message channel sequence log_time publish_time payload) = channel
record_id (Extra op content) = 0

-- ---- what was kept so far

-- a number as it is counted, which stops at 2^64 - 1
abbrev pub counted : ℕ → ℕ
counted n = min n (2 ^ 64 - 1)

-- the ids and the counts are those of these extras and this history
pub record CountsSo {L : Type 0} (extras : List Top) (history : List Rec) (k : Keeping L) : Type 0 where
  pub schema_ids : k.schemas.keys ≡ map record_id (filter is_schema history)
  pub channel_ids : k.channels.keys ≡ map record_id (filter is_channel history)
  pub messages : k.messages ≡ counted (length (filter is_message history))
  pub records : k.records ≡ counted (length history)
  pub extras_are : k.extras ≡ counted (length extras)
  -- and each of its records stands in a block
  pub inner : Each (λ r. is_inner r ≡ true) history

-- The scribe stands for these extras and this history; while it goes on, so do the ids and the counts.
pub record KeepingStandsFor {L : Type 0} (seen : L → LiveState) (options : FileOptions) (extras : List Top)
    (opened : LiveState) (history : List Rec) (k : Keeping L) : Type 0 where
  pub writes : WritesHistory seen options extras opened history k.scribe
  pub counts : phase_of k.scribe ≡ phases.Going → CountsSo extras history k

-- the second one stands for these extras and these records more, but for what declares an id again
abbrev pub AddsRecords : {L : Type 0} → (L → LiveState) → Keeping L → Keeping L → List Top → List Rec → Type 0
AddsRecords seen before after more records = (options : FileOptions) (extras : List Top) (opened : LiveState)
    (history : List Rec) → KeepingStandsFor seen options extras opened history before
    → KeepingStandsFor seen options (extras ++ more) opened (fold kept_with history records) after

-- the same of what these records of a file show
abbrev pub AddsFlatRecords : {L : Type 0} → (L → LiveState) → Keeping L → Keeping L → List Top → Type 0
AddsFlatRecords seen before after flat =
    (records : List Rec) → AllZip IsRec flat records → AddsRecords seen before after [] records

-- The extra that a record is. Its frame tells where it stands: inside a chunk it is at hand, at top level it isn't; and whatever
-- its opcode, what stands inside a chunk is no extra.
abbrev pub extras_of : Option (Bor (List ℕ)) → Top → List Top
extras_of None t = filter is_extra (t ∷ [])
extras_of (Some bytes) t = []

-- the same of what one record shows, and of the extra that it is
abbrev pub AddsOneRecord : {L : Type 0} → (L → LiveState) → Keeping L → Keeping L → Option (Bor (List ℕ)) → Top
    → Type 0
AddsOneRecord seen before after frame t = (records : List Rec) → AllZip IsRec (filter is_flat_kind (t ∷ [])) records
    → AddsRecords seen before after (extras_of frame t) records

-- at least these bytes stand after what a store held
abbrev pub AddsAtLeast : Option (List ℕ) → Option (List ℕ) → List ℕ → Type 0
AddsAtLeast opened now bytes =
    (start : List ℕ) → opened ≡ Some start → (more : List ℕ) × (now ≡ Some (start ++ (bytes ++ more)))

-- all pieces of this history that are sure stand after what the store of a keeping held
abbrev pub HasWritten : {L : Type 0} → (L → LiveState) → FileOptions → LiveState → Keeping L → List Rec → Type 0
HasWritten seen options opened k history =
    AddsAtLeast opened.held (seen k.scribe.store).held (written_of options history)

-- ---- records that are given

-- those at these places
abbrev pub tops_at : List Placed → List Top
tops_at given = map (λ (p : Placed). p.top) given

-- the bytes are the record with its head, where they are at hand
abbrev pub IsFrame : ℕ → List ℕ → Option (Bor (List ℕ)) → Type 0
IsFrame op content None = Unit {0}
IsFrame op content (Some bytes) = bytes.now ≡ framed op content
