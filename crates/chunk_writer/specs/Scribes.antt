-- The histories for which a scribe stands, its entries, and how its file ends.
use Rattle.std.specs.Prelude.{◌≡◌, ℕ, ◌+◌, ◌<◌, ◌≤◌, List, [], ◌∷◌, ◌++◌, length, map, take, Option, Some, None, IsSome, Result, OnOk, OnErr}
use Rattle.std.specs.List.{AllZip}
use Rattle.std.proofs.Common.{sym, subst, append-nil, append_assoc}
use Rattle.rec_data.specs.declared.owned.Rec.{Rec}
use Rattle.mcap_io.specs.Outside.{LiveState, Adds}
use Rattle.mcap_model.specs.declared.options.FileOptions.{FileOptions}
use Rattle.mcap_model.specs.declared.block.Block.{Block}
use Rattle.mcap_model.specs.declared.ends.Stop.{Stop}
use Rattle.mcap_model.specs.Blocks.{block, cuts, pieces_of, pieces_bytes, last_piece, blocks_in}
use Rattle.mcap_model.specs.Places.{Each}
use Rattle.mcap_model.specs.Tops.{Top, top_bytes}
use Rattle.mcap_model.specs.ReadBack.{IsExtra}
use Rattle.mcap_model.specs.File.{front, section, blocks_from}
use Rattle.mcap_model.specs.Histories.{written_of}
use Rattle.chunk_build.specs.Chunker.{AreFramed}
use Rattle.live_entry.specs.declared.entry.Entry.{Entry}
use Rattle.live_entry.specs.Entries.{SeenExtents, HasBlockExtent}
use Rattle.chunk_writer.specs.declared.phase.Phase.{Phase}
use Rattle.chunk_writer.specs.declared.phase.Phase.TheVariants as phases
use Rattle.chunk_writer.specs.declared.scribe.Scribe.{Scribe}
use Rattle.chunk_writer.specs.declared.tape.Written.{Written}
use Rattle.chunk_writer.specs.Planning.{Planning}
use Rattle.chunk_writer.specs.Bodies.{ClosesPiece}
use Rattle.chunk_writer.specs.Plans.{Plans, CountsAllPieces, IsFilled}
use Rattle.chunk_writer.specs.Stops.{numbers, Ends}
use Rattle.chunk_writer.specs.StopSteps.{StopsBehind}

-- The plan of a scribe, whose store held the first bytes when it was opened and holds the second now, stands for a history.
-- While it goes on, all pieces that are sure stand behind the first bytes. Where it stopped, it stopped at a piece of each
-- history that goes on from this one, behind its front, whatever the extras.
pub record ScribeStands (options : FileOptions) (opened now : Option (List ℕ)) (history : List Rec) (p : Planning)
    : Type 0 where
  pub going : p.phase ≡ phases.Going → Plans options history p × Adds opened now (written_of options history)
  pub stopped : (stop : Stop) → p.phase ≡ phases.Stopped stop → (extras : List Top) (behind : List Rec)
      → StopsBehind options extras (history ++ behind) opened now stop (numbers p.blocks p.bytes)
  pub unended : p.phase ≡ phases.Ended → ⊥

-- while a scribe goes on these extras, which are none of the history, wait in it, framed, for the end of its file
abbrev pub AreWaiting : Phase → List Top → List (List ℕ) → Type 0
AreWaiting phase extras waiting = phase ≡ phases.Going → (waiting ≡ map top_bytes extras) × Each IsExtra extras

-- While a scribe of a file in chunks goes on, the front and each block and extra that it appended are with the system: of what
-- its store took so many bytes wait, none.
abbrev pub AreThrough : FileOptions → Phase → ℕ → Type 0
AreThrough options phase waiting = phase ≡ phases.Going → IsSome options.chunk → waiting ≡ 0

-- A scribe stands for extras and a history of a file of these options; its store was in this state when it was opened. What
-- is seen of a store is handed in.
abbrev pub WritesHistory : {L : Type 0} → (L → LiveState) → FileOptions → List Top → LiveState → List Rec → Scribe L
    → Type 0
WritesHistory seen options extras opened history scribe = ScribeStands options opened.held (seen scribe.store).held
    history scribe.plan × AreWaiting scribe.plan.phase extras scribe.extras
    × AreThrough options scribe.plan.phase (seen scribe.store).waiting

abbrev pub store_of : {L : Type 0} → Scribe L → L
store_of scribe = scribe.store

-- how far it has come
abbrev pub phase_of : {L : Type 0} → Scribe L → Phase
phase_of scribe = scribe.plan.phase

-- the blocks and the bytes that its store took in whole pieces
abbrev pub blocks_of : {L : Type 0} → Scribe L → ℕ
blocks_of scribe = scribe.plan.blocks

abbrev pub planned_bytes : {L : Type 0} → Scribe L → ℕ
planned_bytes scribe = scribe.plan.bytes

-- The second scribe is the first, later: of whatever history the first stands, the second stands for that history with these
-- records behind it, and the same extras.
abbrev pub ScribeGrows : {L : Type 0} → (L → LiveState) → Scribe L → Scribe L → List Rec → Type 0
ScribeGrows seen before after records = (options : FileOptions) (extras : List Top) (opened : LiveState)
    (history : List Rec) → WritesHistory seen options extras opened history before
    → WritesHistory seen options extras opened (history ++ records) after

-- the same with an extra more
abbrev pub GathersExtra : {L : Type 0} → (L → LiveState) → Scribe L → Scribe L → Top → Type 0
GathersExtra seen before after t = (options : FileOptions) (extras : List Top) (opened : LiveState) (history : List Rec)
    → WritesHistory seen options extras opened history before
    → WritesHistory seen options (extras ++ t ∷ []) opened history after

-- a scribe stands for the same where nothing is called, and over several calls
pub grows_none : {L : Type 0} (seen : L → LiveState) (scribe : Scribe L) → ScribeGrows seen scribe scribe []
grows_none seen scribe = λ options extras opened history writes. subst
    (λ (l : List Rec). WritesHistory seen options extras opened l scribe) (sym (append-nil history)) writes

pub grows_on : {L : Type 0} (seen : L → LiveState) (one two three : Scribe L) (before behind : List Rec)
    → ScribeGrows seen one two before → ScribeGrows seen two three behind
    → ScribeGrows seen one three (before ++ behind)
grows_on seen one two three before behind first second = λ options extras opened history writes.
    subst (λ (l : List Rec). WritesHistory seen options extras opened l three) (append_assoc history before behind)
    (second options extras opened (history ++ before) (first options extras opened history writes))

-- this holds of each history for which a scribe stands
abbrev pub OfEach : {L : Type 0} → (L → LiveState) → Scribe L → (FileOptions → List Rec → Type 0) → Type 0
OfEach seen scribe holds = (options : FileOptions) (extras : List Top) (opened : LiveState) (history : List Rec)
    → WritesHistory seen options extras opened history scribe → holds options history

-- Where a scribe was called and goes on, the blocks are with the system in the file of each history for which it stood before.
pub blocks_through : {L : Type 0} (seen : L → LiveState) (before after : Scribe L) (records : List Rec)
    → ScribeGrows seen before after records → phase_of after ≡ phases.Going
    → OfEach seen before (λ options history. IsSome options.chunk → (seen (store_of after)).waiting ≡ 0)
blocks_through seen before after records grows going options extras opened history writes =
    (grows options extras opened history writes).2 going

-- A buffer's records were put: those of a file in chunks, or of a file without chunks where there are some, leave nothing
-- waiting in the store; and nothing waits there where nothing did.
pub record GoesThrough (options : FileOptions) (records : List Rec) (before now : ℕ) : Type 0 where
  pub chunked : IsSome options.chunk → now ≡ 0
  pub some : (records ≡ [] → ⊥) → now ≡ 0
  pub still : before ≡ 0 → now ≡ 0

-- a store keeps what it told, whatever it takes behind it
abbrev pub KeepsOn : Option (List ℕ) → Option (List ℕ) → Type 0
KeepsOn old new = (before : List ℕ) → old ≡ Some before → (more : List ℕ) × (new ≡ Some (before ++ more))

-- ---- entries

-- which entry a put record gives: that of the block that it closes, if it does so
abbrev pub GivesEntry : {X : Type 0} → SeenExtents X → FileOptions → List Rec → Rec → Option (Entry X) → Type 0
GivesEntry seen options history r None =
    blocks_in (cuts options.chunk options.span (history ++ r ∷ [])).pieces
    ≡ blocks_in (cuts options.chunk options.span history).pieces
GivesEntry seen options history r (Some e) = (records : List Rec)
    × ClosesPiece options.chunk options.span history r (block records)
    × HasBlockExtent seen e (length (written_of options history)) records

-- the last entry is that of the block of the records that wait, where there are any
abbrev pub GivesLast : {X : Type 0} → SeenExtents X → FileOptions → List Rec → Option (Entry X) → Type 0
GivesLast seen options history None = Unit {0}
GivesLast seen options history (Some e) = let waiting = (cuts options.chunk options.span history).waiting in
    (last_piece waiting ≡ block waiting ∷ []) × HasBlockExtent seen e (length (written_of options history)) waiting

-- a list of entries, with one more if it is given
abbrev pub Lists : {X : Type 0} → List (Entry X) → List (Entry X) → Option (Entry X) → Type 0
Lists old new None = new ≡ old
Lists old new (Some e) = new ≡ old ++ e ∷ []

-- a record was put by its framed bytes, and the entry that this gave was listed
pub record ListsEntry {L X : Type 0} (state : L → LiveState) (seen : SeenExtents X) (before : Scribe L)
    (framed : List ℕ) (old new : List (Entry X)) : Type 0 where
  pub given : Option (Entry X)
  pub listed : Lists old new given
  pub entry : (r : Rec) → AreFramed framed r
      → OfEach state before (λ options history. GivesEntry seen options history r given)

-- the blocks of a history that are sure, each with its offset in the file
abbrev pub sure_blocks : FileOptions → List Rec → List (ℕ × List Rec)
sure_blocks options history =
    blocks_from (length (front options.profile)) (cuts options.chunk options.span history).pieces

-- records that are put behind a history give an entry for each block that they make sure, in the order of these
pub record GivesEntries {X : Type 0} (seen : SeenExtents X) (options : FileOptions) (history records : List Rec)
    (entries : List (Entry X)) : Type 0 where
  pub closed : List (ℕ × List Rec)
  pub sure : sure_blocks options (history ++ records) ≡ sure_blocks options history ++ closed
  pub each : AllZip (λ (b : ℕ × List Rec) (e : Entry X). HasBlockExtent seen e b.0 b.1) closed entries

-- So many of some records were put behind a history: all of them, or those before the one at which the writing stopped. The
-- entries are those of the blocks that these made sure, and so many bytes are those of the pieces that are sure with them.
pub record PutsFront {X : Type 0} (seen : SeenExtents X) (options : FileOptions) (history records : List Rec)
    (entries : List (Entry X)) (bytes : ℕ) (end : Result Unit Stop) : Type 0 where
  pub count : ℕ
  pub entries_are : GivesEntries seen options history (take count records) entries
  pub bytes_are : bytes ≡ length (written_of options (history ++ take count records))
  pub all : OnOk end (count ≡ length records)
  pub before : OnErr end (count < length records)

-- ---- the end

-- The second scribe is the first with its end, which came to this with so many blocks and bytes, those of the front among them.
-- A whole file is with the system.
abbrev pub EndsFile : {L : Type 0} → (L → LiveState) → Scribe L → Scribe L → Written → Result Unit Stop → Type 0
EndsFile seen before after written end = (options : FileOptions) (extras : List Top) (opened : LiveState)
    (history : List Rec) → WritesHistory seen options extras opened history before
    → Ends options extras opened.held (seen after.store).held history written end
    × (length (front options.profile) ≤ written.bytes) × OnOk end ((seen after.store).waiting ≡ 0)

-- there is an entry for each block that was appended, at most one
abbrev pub CountsLast : {X : Type 0} → ℕ → ℕ → Option (Entry X) → Type 0
CountsLast before after None = after ≡ before
CountsLast before after (Some e) = after ≡ before + 1

-- its bytes are counted
abbrev pub CountsBytes : {X : Type 0} → (X → ℕ) → ℕ → ℕ → Option (Entry X) → Type 0
CountsBytes size before after None = after ≡ before
CountsBytes size before after (Some e) = after ≡ before + size e.extent

-- all pieces but the back stand behind what the store held, and the plan counts them
pub record AddsLast (options : FileOptions) (opened now : Option (List ℕ)) (history : List Rec) (p : Planning)
    : Type 0 where
  pub whole : CountsAllPieces options history p
  pub adds : Adds opened now (front options.profile ++ pieces_bytes (pieces_of options.chunk options.span history))

-- the same of the first extras behind the pieces
pub record FillsExtras (options : FileOptions) (extras : List Top) (opened now : Option (List ℕ)) (history : List Rec)
    (p : Planning) : Type 0 where
  pub filled : IsFilled options extras history p
  pub adds : Adds opened now (section options extras history)

-- an entry with this extent and this offset has the numbers of a block
pub record IsEntryWith {X : Type 0} (e : Entry X) (extent : X) (offset : ℕ) (b : Block) : Type 0 where
  pub extent_is : e.extent ≡ extent
  pub offset_is : e.offset ≡ offset
  pub chunk : e.chunk_length ≡ b.chunk_length
  pub start : e.start_time ≡ b.start_time
  pub end : e.end_time ≡ b.end_time
  pub counted : e.messages ≡ b.messages
  pub declaring : e.declared ≡ b.declared
