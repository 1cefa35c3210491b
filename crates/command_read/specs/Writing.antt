-- The steps of writing the line.
use Rattle.std.specs.Prelude.{◌≡◌, ℕ, List, ◌++◌}
use Rattle.std.specs.List.{AllZip}
use Rattle.json.specs.Token.{Token}
use Rattle.json.specs.Written.{Written}
use Rattle.rec_data.specs.Records.{ShowsHeader}
use Rattle.mcap_model.specs.Places.{At}
use Rattle.mcap_model.specs.Tops.{Top}
use Rattle.mcap_model.specs.Fields.{IsSchema, IsChannel, StatisticsFields}
use Rattle.summary_read.specs.Parts.{Parts}
use Rattle.command_read.specs.Firsts.{AreFirsts}
use Rattle.command_read.specs.Json.{Info}
use Rattle.command_read.specs.Told.{AreNames, info_line}

-- these tokens were added
pub record AddsTokens (old new : Written) (ts : List Token) : Type 0 where
  pub before : new.before ≡ old.before
  pub tokens : new.tokens ≡ old.tokens ++ ts

-- the record at that place shows that id and these fields
abbrev pub ShownAt : {F : Type 0} → (Top → ℕ → F → Type 0) → List Top → ℕ → ℕ × F → Type 0
ShownAt Is tops place c = (t : Top) × At tops place t × Is t c.0 c.1

-- the records show these ids
abbrev pub ShowIds : {F : Type 0} → (Top → ℕ → F → Type 0) → List Top → List ℕ → Type 0
ShowIds {F} Is tops ids = AllZip (λ t id. (f : F) × Is t id f) tops ids

-- what is told of these parts and of these Statistics
pub record ShowsParts (p : Parts) (statistics : StatisticsFields) (i : Info) : Type 0 where
  pub statistics_are : i.statistics ≡ statistics
  pub header : ShowsHeader p.header.content i.header
  pub channels : AreFirsts IsChannel p.channels i.channels
  pub schemas : AreFirsts IsSchema p.schemas i.schemas
  pub compressions : AreNames p.chunk_indexes i.compressions

-- the text tells it
abbrev pub SpellsInfo : Parts → StatisticsFields → List ℕ → Type 0
SpellsInfo p statistics text = (i : Info) × ShowsParts p statistics i × (text ≡ info_line i)
