-- The records that were given in their places, and those of the top level among them.
use Rattle.std.specs.Prelude.{◌≡◌, ◌⊎◌, ℕ, List, [], ◌∷◌, ◌++◌, filter, if◌then◌else◌}
use Rattle.mcap_model.specs.Scan.{tops_of}
use Rattle.mcap_model.specs.Tops.{Top, Placed, is_flat_kind, is_chunk, inner_tops, placed_inside, offset_behind}
use Rattle.mcap_model.specs.WalkedRecords.{walked}

-- the Schemas, Channels and Messages among them
abbrev pub flat_given : List Placed → List Top
flat_given given = filter is_flat_kind (tops_of given)

-- a record of the top level at that offset
abbrev pub at_top : ℕ → Top → Placed
at_top at t = record { place = record { top = at; inner = 0 }; top = t }

-- those inside the record at that offset
abbrev pub inside_of : ℕ → Top → List Placed
inside_of at t = if is_chunk t then placed_inside at 0 (inner_tops t) else []

-- The last of these records stands at that offset, and of those inside it a part was given.
pub record LastGiven (given : List Placed) (tops : List Top) (last : ℕ) : Type 0 where
  pub front : List Top
  pub top : Top
  pub part : List Placed
  pub due : List Placed
  pub joined : tops ≡ front ++ top ∷ []
  pub are : given ≡ walked front ++ (at_top last top ∷ part)
  pub inside : inside_of last top ≡ part ++ due
  pub there : last ≡ offset_behind front

-- these are the records of the top level among those that were given, and the last one stands at that offset; or there is none
abbrev pub GivenTo : List Placed → List Top → ℕ → Type 0
GivenTo given tops last = ((given ≡ []) × (tops ≡ []) × (last ≡ 0)) ⊎ LastGiven given tops last
