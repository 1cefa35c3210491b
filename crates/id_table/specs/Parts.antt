-- Where the parts of a channel stand.
use Rattle.std.specs.Prelude.{◌≡◌, ℕ, List, ◌++◌, Option, Some, None, slice_get}
use Rattle.rec_data.specs.declared.channel.ChannelDef.{ChannelDef}
use Rattle.id_table.specs.declared.parts.Places.{Places}

-- with some more behind
abbrev pub Grows : {X : Type 0} → List X → List X → Type 0
Grows {X} xs ys = (more : List X) × (ys ≡ xs ++ more)

-- the parts of a channel stand at these places among the texts and the maps
pub record StandAt (texts : List (List ℕ)) (maps : List (List (List ℕ × List ℕ))) (d : ChannelDef) (p : Places)
    : Type 0 where
  pub topic : slice_get texts p.topic ≡ Some d.topic
  pub encoding : slice_get texts p.message_encoding ≡ Some d.message_encoding
  pub metadata : slice_get maps p.metadata ≡ Some d.metadata

-- they do, or one of them stands nowhere
abbrev pub FoundPlaces : List (List ℕ) → List (List (List ℕ × List ℕ)) → ChannelDef → Option Places → Type 0
FoundPlaces texts maps d (Some p) = StandAt texts maps d p
FoundPlaces texts maps d None = (p : Places) → StandAt texts maps d p → ⊥
