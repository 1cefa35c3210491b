-- Which records of a summary are told: of each id the first.
use Rattle.std.specs.Prelude.{ℕ, ◌<◌, List, map, AllPairs}
use Rattle.mcap_model.specs.Places.{At, Has, Each}
use Rattle.mcap_model.specs.Tops.{Top}

-- among these records the first of that id shows these fields
pub record IsFirstOfId {F : Type 0} (Is : Top → ℕ → F → Type 0) (tops : List Top) (id : ℕ) (shown : F) : Type 0 where
  pub place : ℕ
  pub top : Top
  pub at : At tops place top
  pub is : Is top id shown
  pub first : (n : ℕ) (t : Top) (f : F) → n < place → At tops n t → Is t id f → ⊥

-- the ids that occur among these records, each once and in ascending order, and with each what its first record shows
pub record AreFirsts {F : Type 0} (Is : Top → ℕ → F → Type 0) (tops : List Top) (shown : List (ℕ × F)) : Type 0 where
  pub rises : AllPairs (λ c d. c.0 < d.0) shown
  pub are : Each (λ c. IsFirstOfId Is tops c.0 c.1) shown
  pub all : (n id : ℕ) (t : Top) (f : F) → At tops n t → Is t id f → Has (map (λ c. c.0) shown) id
