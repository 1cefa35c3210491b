-- The first declaration of each id, as tables and as a history has them.
use Rattle.std.specs.Prelude.{◌≡◌, ◌⊎◌, ℕ, List, [], ◌∷◌, ◌++◌, filter, fold, find, Bool, Some, None}
use Rattle.std.specs.List.{AllZip}
use Rattle.rec_data.specs.declared.owned.Rec.{Rec}
use Rattle.rec_data.specs.Records.{schema_opcode, channel_opcode}
use Rattle.mcap_model.specs.declared.table.Declared.{Declared}
use Rattle.mcap_model.specs.declared.tables.Tables.{Tables}
use Rattle.mcap_model.specs.Places.{At}
use Rattle.mcap_model.specs.Tops.{Top, is_flat_kind, flat}
use Rattle.mcap_model.specs.Made.{top}
use Rattle.mcap_model.specs.History.{kept_with, without_repeats}
use Rattle.mcap_model.specs.Written.{IsRec}
use Rattle.mcap_model.specs.Needed.{is_schema_of, is_channel_of}

-- the entries are the first declarations of a kind in the history, and it has no others
pub record TableFinds (op : ℕ) (declares : ℕ → Rec → Bool) (table : List Declared) (history : List Rec) : Type 0 where
  pub are : (k : ℕ) (d : Declared) → At table k d
      → (r : Rec) × (find (declares d.id) history ≡ Some r) × IsRec (top op d.content) r
  pub none : (id : ℕ) → ((k : ℕ) (d : Declared) → At table k d → d.id ≡ id → ⊥) → find (declares id) history ≡ None

-- so are those of both kinds
pub record Finds (tables : Tables) (history : List Rec) : Type 0 where
  pub schemas : TableFinds schema_opcode is_schema_of tables.schemas history
  pub channels : TableFinds channel_opcode is_channel_of tables.channels history

-- a declaration was noted, if it is the first of its id
abbrev pub Notes : List Declared → List Declared → ℕ → List ℕ → Type 0
Notes old new id content = (((k : ℕ) × (d : Declared) × At old k d × (d.id ≡ id)) × (new ≡ old))
    ⊎ (((k : ℕ) (d : Declared) → At old k d → d.id ≡ id → ⊥)
    × (new ≡ old ++ (record { id = id; content = content }) ∷ []))

-- what these records declare was noted behind a history
abbrev pub NotesAll : Tables → Tables → List Top → Type 0
NotesAll old new tops = (history records : List Rec) → AllZip IsRec (filter is_flat_kind tops) records
    → Finds old history → Finds new (fold kept_with history records)

-- the tables hold the first declarations of a file's records
abbrev pub NotesFile : List Top → Tables → Type 0
NotesFile tops tables = (records : List Rec) → AllZip IsRec (flat tops) records
    → Finds tables (without_repeats records)
