-- What holds of what repairing makes of good records, however many there are.
use Rattle.std.specs.Prelude.{◌≡◌, ℕ, ◌^◌, ◌<◌, List, [], length, IsUtf8}
use Rattle.rec_data.specs.declared.owned.Rec.{Rec}
use Rattle.mcap_model.specs.Places.{Each}
use Rattle.mcap_model.specs.Tops.{Top}
use Rattle.mcap_model.specs.Kept.{Good, reading_limits}
use Rattle.mcap_model.specs.History.{extras_in}
use Rattle.mcap_model.specs.Histories.{IdsAgree}
use Rattle.mcap_model.specs.Repaired.{Repairs}
use Rattle.mcap_model.specs.ReadBack.{IsReadBack, IsExtra}
use Rattle.mcap_model.specs.Laws.{IsNumberedRec}

-- A profile, extras and records that keep the rules: each record is read back as it is, no Schema has the id 0, the ids agree, and
-- the extras, of which none is among the records, meet their layouts.
pub record KeepRules (profile : List ℕ) (extras : List Top) (history : List Rec) : Type 0 where
  pub profile_utf8 : IsUtf8 profile
  pub profile_fits : length profile < 2 ^ 32
  pub records_fit : Each IsReadBack history
  pub numbered : Each IsNumberedRec history
  pub ids_agree : IdsAgree history
  pub no_extras : extras_in history ≡ []
  pub extras_meet : Each IsExtra extras

-- what repairing makes of a good list keeps the rules
abbrev pub RepairsKeepRules : Type 0
RepairsKeepRules = (tops extras : List Top) (profile : List ℕ) (history : List Rec)
    → Good reading_limits tops → Repairs tops profile extras history → KeepRules profile extras history
