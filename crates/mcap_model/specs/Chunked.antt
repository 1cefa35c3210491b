-- How the records inside a chunk are judged.
use Rattle.std.specs.Prelude.{◌≡◌, ◌⊎◌, ℕ, List, ◌∷◌, [], ◌++◌, take, filter, true, Result, Ok, Err}
use Rattle.mcap_model.specs.Places.{At, Each}
use Rattle.mcap_model.specs.Tops.{Top, spelled, records_in, is_flat_kind}
use Rattle.mcap_model.specs.Fields.{ChunkFields}
use Rattle.mcap_model.specs.Rules.{V6, Agrees, stands_in_chunk, ChunkIsRight, HasSizeAndCrc}
use Rattle.mcap_model.specs.declared.tables.Tables.{Tables}
use Rattle.mcap_model.specs.declared.tables.Ruling.{Ruling}
use Rattle.mcap_model.specs.declared.tables.Ruling.TheVariants as rulings
use Rattle.mcap_model.specs.declared.times.Times.{Times}
use Rattle.mcap_model.specs.Declarations.{TablesOf}
use Rattle.mcap_model.specs.Times.{TimesOf}
use Rattle.mcap_model.specs.declared.rules.Rule.{Rule}
use Rattle.mcap_model.specs.declared.rules.Rule.TheVariants as rules

-- the Schemas, Channels and Messages among records
abbrev pub flat_of : List Top → List Top
flat_of inner = filter is_flat_kind inner

-- each of them agrees with those before it
abbrev pub AgreeBehind : List Top → List Top → Type 0
AgreeBehind before more = (n : ℕ) (u : Top) → At more n u → Agrees (before ++ take n more) u

-- a record that may stand in a chunk behind others
pub record IsInner (before inner : List Top) (t : Top) : Type 0 where
  pub kind : stands_in_chunk t.op ≡ true
  pub layout : V6 t
  pub agrees : is_flat_kind t ≡ true → Agrees (before ++ flat_of inner) t

-- it breaks the rule on ids, or one on chunks
abbrev pub BreaksInner : List Top → List Top → Top → Rule → Type 0
BreaksInner before inner t rule = ((rule ≡ rules.V7) × (is_flat_kind t ≡ true) × (Agrees (before ++ flat_of inner) t → ⊥))
    ⊎ ((rule ≡ rules.V7 → ⊥) × (stands_in_chunk t.op ≡ true → V6 t → ⊥))

abbrev pub InnerTaken : List Top → List Top → Top → Tables → Result Times Ruling → Type 0
InnerTaken before inner t tables (Ok times) =
    IsInner before inner t × TablesOf (before ++ flat_of (inner ++ t ∷ [])) tables × TimesOf (inner ++ t ∷ []) times
InnerTaken before inner t tables (Err rulings.Fits) = ⊥
InnerTaken before inner t tables (Err (rulings.Breaks rule)) = BreaksInner before inner t rule
InnerTaken before inner t tables (Err rulings.Memory) = Unit {0}

-- the records are whole, of the kinds that may stand in a chunk, and meet their layouts
pub record AreWhole (bytes : List ℕ) : Type 0 where
  pub framed : spelled (records_in bytes) ≡ bytes
  pub kinds : Each (λ u. stands_in_chunk u.op ≡ true) (records_in bytes)
  pub layouts : Each V6 (records_in bytes)

abbrev pub AllTaken : List Top → List ℕ → Tables → Result Times Ruling → Type 0
AllTaken before bytes tables (Ok times) = AreWhole bytes × AgreeBehind before (flat_of (records_in bytes))
    × TablesOf (before ++ flat_of (records_in bytes)) tables × TimesOf (records_in bytes) times
AllTaken before bytes tables (Err rulings.Fits) = ⊥
AllTaken before bytes tables (Err (rulings.Breaks rule)) = ((rule ≡ rules.V7) × (AgreeBehind before (flat_of (records_in bytes)) → ⊥))
    ⊎ ((rule ≡ rules.V7 → ⊥) × (AreWhole bytes → ⊥))
AllTaken before bytes tables (Err rulings.Memory) = Unit {0}

abbrev pub ChunkTaken : List Top → ChunkFields → Tables → Ruling → Type 0
ChunkTaken before f tables rulings.Fits = ChunkIsRight f × AgreeBehind before (flat_of (records_in f.records))
    × TablesOf (before ++ flat_of (records_in f.records)) tables
ChunkTaken before f tables (rulings.Breaks rule) = ((rule ≡ rules.V7) × (AgreeBehind before (flat_of (records_in f.records)) → ⊥))
    ⊎ ((rule ≡ rules.V8) × (ChunkIsRight f → ⊥))
ChunkTaken before f tables rulings.Memory = HasSizeAndCrc f
