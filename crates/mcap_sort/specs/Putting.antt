-- What is put of a message: it, after what it needs.
use Rattle.std.specs.Prelude.{◌≡◌, ℕ, List, [], ◌∷◌, ◌++◌, fold}
use Rattle.rec_data.specs.declared.owned.Rec.{Rec}
use Rattle.rec_data.specs.Fields.{MessageFields}
use Rattle.rec_data.specs.Records.{ShowsMessage, schema_opcode}
use Rattle.mcap_io.specs.Outside.{LiveState}
use Rattle.mcap_model.specs.declared.options.FileOptions.{FileOptions}
use Rattle.mcap_model.specs.declared.table.Declared.{Declared}
use Rattle.mcap_model.specs.declared.tables.Tables.{Tables}
use Rattle.mcap_model.specs.Tops.{Top}
use Rattle.mcap_model.specs.History.{message_of}
use Rattle.record_keeping.specs.declared.keeping.Keeping.{Keeping}
use Rattle.record_keeping.specs.Keeping.{KeepingStandsFor, AddsRecords}
use Rattle.mcap_model.specs.Needed.{is_schema_of, schema_with, needs_on, needed_behind}
use Rattle.mcap_sort.specs.Declaring.{TableFinds, Finds}

-- the Schema of that id in a history whose first declarations the table holds
abbrev pub PutsSchema : {L : Type 0} → (L → LiveState) → Keeping L → Keeping L → List Declared → ℕ → Type 0
PutsSchema seen old new table id = (history : List Rec) → TableFinds schema_opcode is_schema_of table history
    → AddsRecords seen old new [] (schema_with history id)

-- so what a message on that channel needs
abbrev pub PutsNeeds : {L : Type 0} → (L → LiveState) → Keeping L → Keeping L → Tables → ℕ → Type 0
PutsNeeds seen old new tables channel =
    (history : List Rec) → Finds tables history → AddsRecords seen old new [] (needs_on history channel)

-- The second stands for these records after those for which the first does, each with what it needs of the history.
abbrev pub PutsRecords : {L : Type 0} → (L → LiveState) → Keeping L → Keeping L → List Rec → List Rec → Type 0
PutsRecords seen old new history records = (options : FileOptions) (extras : List Top) (opened : LiveState)
    (out : List Rec) → KeepingStandsFor seen options extras opened out old
    → KeepingStandsFor seen options extras opened (fold (needed_behind history) out records) new

-- the message that a content shows on that channel
abbrev pub PutsMessage : {L : Type 0} → (L → LiveState) → Keeping L → Keeping L → Tables → ℕ → List ℕ → Type 0
PutsMessage seen old new tables channel content = (history : List Rec) → Finds tables history → (m : MessageFields)
    → ShowsMessage content channel m → PutsRecords seen old new history (message_of channel m ∷ [])
