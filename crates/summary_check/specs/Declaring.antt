-- Schemas and Channels behind a Data End.
use Rattle.std.specs.Prelude.{◌↔◌, ℕ, List, [], ◌∷◌, ◌++◌, take, Bool, true, false, Option, Some, None}
use Rattle.mcap_model.specs.Places.{At, Has}
use Rattle.mcap_model.specs.Tops.{Top, flat}
use Rattle.mcap_model.specs.Rules.{V7, HasChannel}
use Rattle.mcap_model.specs.Declarations.{TablesOf}
use Rattle.mcap_model.specs.declared.tables.Tables.{Tables}

-- a record behind others agrees with them, and these are the tables with it; or it doesn't agree
abbrev pub DeclarationTaken : List Top → Top → Tables → Bool → Type 0
DeclarationTaken before t tables true = V7 before t × TablesOf (flat (before ++ t ∷ [])) tables
DeclarationTaken before t tables false = V7 before t → ⊥

abbrev pub DeclarationsTaken : List Top → List Top → Tables → Option ℕ → Type 0
DeclarationsTaken tops body tables None =
    ((k : ℕ) (t : Top) → At body k t → V7 (tops ++ take k body) t) × TablesOf (flat (tops ++ body)) tables
DeclarationsTaken tops body tables (Some k) = (t : Top) × At body k t × (V7 (tops ++ take k body) t → ⊥)

-- just the ids of the Channels among these records
abbrev pub AreChannelIds : List Top → List ℕ → Type 0
AreChannelIds records ids = (id : ℕ) → Has ids id ↔ HasChannel records id
