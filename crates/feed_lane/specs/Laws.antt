-- Laws of lanes.
use Rattle.std.specs.Prelude.{◌≡◌, ◌↔◌, ℕ, ◌+◌, ◌<◌, ◌≤◌, List}
use Rattle.rec_data.specs.declared.owned.Rec.{Rec}
use Rattle.mcap_model.specs.Places.{At, Has}
use Rattle.mcap_model.specs.Tops.{Top}
use Rattle.feed_lane.specs.declared.report.Accepted.{Accepted}
use Rattle.feed_lane.specs.declared.report.DeclaredAt.{DeclaredAt}
use Rattle.record_core.specs.declared.answers.CallRefused.TheVariants.{UnknownChannel}
use Rattle.feed_lane.specs.Pass.{PassState}
use Rattle.feed_lane.specs.Lanes.{ReportLists, IsGiven, LaneFits}

-- the place is that of a record which the declaration added
abbrev pub IsWithin : DeclaredAt → ℕ → Type 0
IsWithin d place = (d.first ≤ place) × (place < d.first + d.count)

-- no place is given twice
pub record GivenOnce (lists : ReportLists) : Type 0 where
  pub accepted : (j k : ℕ) (a b : Accepted) → At lists.accepted j a → At lists.accepted k b → a.place ≡ b.place → j ≡ k
  pub declared : (j k place : ℕ) (d e : DeclaredAt) → At lists.declared j d → At lists.declared k e → IsWithin d place
      → IsWithin e place → j ≡ k
  pub apart : (j k : ℕ) (d : DeclaredAt) (a : Accepted) → At lists.declared j d → At lists.accepted k a
      → IsWithin d a.place → ⊥

-- the pass got that place
abbrev pub GotPlace : PassState → ℕ → Type 0
GotPlace pass place = (pair : ℕ × Rec) × Has pass.own pair × (pair.0 ≡ place)

-- The places that the lists of a lane give are those that its pass got, each once.
abbrev pub PlacesAreGiven : Type 0
PlacesAreGiven = (records : List Top) (handled : ℕ) (lists : ReportLists) (pass : PassState)
    → LaneFits records handled lists pass → ((place : ℕ) → IsGiven lists place ↔ GotPlace pass place) × GivenOnce lists

-- No call of a lane on its pass was refused since its channel has no id: the pass gave it, so that the intake knows it.
abbrev pub ChannelsAreKnown : Type 0
ChannelsAreKnown = (records : List Top) (handled : ℕ) (lists : ReportLists) (pass : PassState)
    → LaneFits records handled lists pass → Has pass.reasons UnknownChannel → ⊥
