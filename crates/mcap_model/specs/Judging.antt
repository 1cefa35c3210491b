-- How a record of the top level is judged behind those before it.
use Rattle.std.specs.Prelude.{◌≡◌, List, ◌∷◌, [], ◌++◌, Bool, true, false}
use Rattle.mcap_model.specs.Tops.{Top, flat}
use Rattle.mcap_model.specs.Fields.{IsHeader}
use Rattle.mcap_model.specs.Rules.{V3, V5, V6, V7, V8, V10, Breaks}
use Rattle.mcap_model.specs.Kept.{NamesCompression}
use Rattle.mcap_model.specs.declared.tables.Tables.{Tables}
use Rattle.mcap_model.specs.declared.tables.Ruling.{Ruling}
use Rattle.mcap_model.specs.declared.tables.Ruling.TheVariants as rulings
use Rattle.mcap_model.specs.declared.tops.Judged.{Judged}
use Rattle.mcap_model.specs.declared.tops.Judged.TheVariants as judged
use Rattle.mcap_model.specs.Declarations.{TablesOf}
use Rattle.mcap_model.specs.declared.rules.Rule.{Rule}
use Rattle.mcap_model.specs.declared.rules.Rule.TheVariants as rules
use Rattle.mcap_model.specs.WantsOfMemory.{NamesNoCompression, MayWantMemory}

-- a ruling is one on a record of the top level
abbrev pub as_judged : Ruling → Judged
as_judged rulings.Fits = judged.Fits
as_judged (rulings.Breaks rule) = judged.Breaks rule
as_judged rulings.Memory = judged.Memory

-- it fits where the test says so, and else breaks that rule
abbrev pub kept_or_breaks : Bool → Rule → Judged
kept_or_breaks true rule = judged.Fits
kept_or_breaks false rule = judged.Breaks rule

-- the record keeps the rules behind those before it
pub record KeepsRules (tops : List Top) (t : Top) : Type 0 where
  pub v3 : V3 tops t
  pub v5 : V5 tops t
  pub v6 : V6 t
  pub v7 : V7 tops t
  pub v8 : V8 t
  pub v10 : V10 t
  pub plain : NamesNoCompression t

-- The record fits, and these are the tables of the records with it; or it breaks a rule; or it is a compressed chunk;
-- or memory lacked.
abbrev pub JudgedAs : List Top → Top → Tables → Judged → Type 0
JudgedAs tops t tables judged.Fits = KeepsRules tops t × TablesOf (flat (tops ++ t ∷ [])) tables
JudgedAs tops t tables (judged.Breaks rule) = ((tops ≡ [] → ⊥) → NamesNoCompression t) × Breaks tops t rule
JudgedAs tops t tables (judged.Compressed name) = (tops ≡ [] → ⊥) × NamesCompression t name.now
JudgedAs tops t tables judged.Memory = MayWantMemory tops t

-- the first record is a Header
abbrev pub FirstJudged : Top → Judged → Type 0
FirstJudged t judged.Fits = IsHeader t
FirstJudged t (judged.Breaks rule) = (rule ≡ rules.V3) × (IsHeader t → ⊥)
FirstJudged t (judged.Compressed name) = ⊥
FirstJudged t judged.Memory = ⊥
