-- Which id a content has or gets.
use Rattle.std.specs.Prelude.{◌≡◌, ◌⊎◌, ℕ, ◌+◌, ◌-◌, ◌<◌, ◌≤◌, List, [], ◌∷◌, ◌++◌, length, Option, Some, None, slice_get}
use Rattle.mcap_wire.specs.Limits.{id_limit}
use Rattle.rec_data.specs.declared.schema.SchemaDef.{SchemaDef}
use Rattle.rec_data.specs.declared.channel.ChannelDef.{ChannelDef}
use Rattle.id_table.specs.declared.keys.ChannelKey.{ChannelKey}
use Rattle.id_table.specs.Parts.{StandAt}
use Rattle.id_table.specs.declared.given.Given.{Given}
use Rattle.id_table.specs.declared.given.Given.TheVariants.{Known, New}
use Rattle.id_table.specs.declared.given.GivenIds.{GivenIds}
use Rattle.id_table.specs.declared.given.IdRefused.{IdRefused}
use Rattle.id_table.specs.declared.given.IdRefused.TheVariants.{TooManySchemas, TooManyChannels, Memory}
use Rattle.id_table.specs.Ids.{IdContents}

module _ {X : Type 0} where
  -- ids are counted from 1
  abbrev pub HasId : List X → X → ℕ → Type 0
  HasId xs x id = (1 ≤ id) × (slice_get xs (id - 1) ≡ Some x)

  abbrev pub Lacks : List X → X → Type 0
  Lacks xs x = (n : ℕ) → slice_get xs n ≡ Some x → ⊥

  -- no content stands twice
  abbrev pub EachOnce : List X → Type 0
  EachOnce xs = (m n : ℕ) (x : X) → slice_get xs m ≡ Some x → slice_get xs n ≡ Some x → m ≡ n

  -- the id of a content, or none
  abbrev pub Found : List X → X → Option ℕ → Type 0
  Found xs x None = Lacks xs x
  Found xs x (Some id) = HasId xs x id

  -- the place of a content, or none
  abbrev pub FoundAt : List X → X → Option ℕ → Type 0
  FoundAt xs x None = Lacks xs x
  FoundAt xs x (Some n) = (n < length xs) × (slice_get xs n ≡ Some x)

  -- the id of a known content, or the next one for a new content
  abbrev pub Offers : List X → X → Given → Type 0
  Offers xs x (Known id) = HasId xs x id
  Offers xs x (New id) = Lacks xs x × (id ≡ length xs + 1)

  -- the content, where its id is new
  abbrev pub fresh : X → Given → Option X
  fresh x (Known id) = None
  fresh x (New id) = Some x

  -- the contents, and the new one
  abbrev pub with_given : List X → X → Given → List X
  with_given xs x (Known id) = xs
  with_given xs x (New id) = xs ++ x ∷ []

  -- a new id is needed, and all are given
  abbrev pub IsFull : List X → X → Type 0
  IsFull xs x = Lacks xs x × (id_limit ≤ length xs)

  -- of a content that may be missing
  abbrev pub OffersTo : List X → Option X → Option Given → Type 0
  OffersTo xs None None = Unit {0}
  OffersTo xs None (Some g) = ⊥
  OffersTo xs (Some x) None = ⊥
  OffersTo xs (Some x) (Some g) = Offers xs x g

  abbrev pub with_given_to : List X → Option X → Option Given → List X
  with_given_to xs (Some x) (Some g) = with_given xs x g
  with_given_to xs (Some x) None = xs
  with_given_to xs None g = xs

  abbrev pub fresh_to : Option X → Option Given → Option X
  fresh_to (Some x) (Some g) = fresh x g
  fresh_to (Some x) None = None
  fresh_to None g = None

  abbrev pub LacksTo : List X → Option X → Type 0
  LacksTo xs None = ⊥
  LacksTo xs (Some x) = Lacks xs x

  abbrev pub IsFullTo : List X → Option X → Type 0
  IsFullTo xs None = ⊥
  IsFullTo xs (Some x) = IsFull xs x

  -- an id is offered, or all are given
  abbrev pub GivesOrFull : List X → X → Option Given → Type 0
  GivesOrFull xs x None = IsFull xs x
  GivesOrFull xs x (Some g) = Offers xs x g × (IsFull xs x → ⊥)

-- the id at a place, or the next one, or none
abbrev pub PlaceGives : Option ℕ → ℕ → Option Given → Type 0
PlaceGives (Some i) count (Some (Known id)) = id ≡ i + 1
PlaceGives (Some i) count (Some (New id)) = ⊥
PlaceGives (Some i) count None = ⊥
PlaceGives None count (Some (Known id)) = ⊥
PlaceGives None count (Some (New id)) = (id ≡ count + 1) × (count < id_limit)
PlaceGives None count None = id_limit ≤ count

-- a new id was given
abbrev pub IsNew : Given → Type 0
IsNew (Known id) = ⊥
IsNew (New id) = Unit {0}

-- where the schema with that id stands, if there is one
abbrev pub place_given : Option Given → Option ℕ
place_given None = None
place_given (Some (Known id)) = Some (id - 1)
place_given (Some (New id)) = Some (id - 1)

-- a key is kept where the id is new: the schema stands where its id says, and the parts stand
abbrev pub KeptKey : List (List ℕ) → List (List (List ℕ × List ℕ)) → ChannelDef → Option Given → Given
    → Option ChannelKey → Type 0
KeptKey texts maps d schema (Known id) kept = kept ≡ None
KeptKey texts maps d schema (New id) None = ⊥
KeptKey texts maps d schema (New id) (Some k) = (k.schema ≡ place_given schema) × StandAt texts maps d k.parts

-- the channel with that id has this schema, or none where this is none
pub record SharesSchema (ids : IdContents) (schema : Option SchemaDef) (like : ℕ) : Type 0 where
  pub channel : ChannelDef
  pub has_id : HasId ids.channels channel like
  pub same : channel.schema ≡ schema

-- ids were given to a channel and to its schema
pub record Declares (before : IdContents) (d : ChannelDef) (g : GivenIds) (after : IdContents) : Type 0 where
  pub schema : OffersTo before.schemas d.schema g.schema
  pub channel : Offers before.channels d g.channel
  pub schemas : after.schemas ≡ with_given_to before.schemas d.schema g.schema
  pub channels : after.channels ≡ with_given before.channels d g.channel

-- a new id is needed for the channel or for its schema
abbrev pub NeedsId : IdContents → ChannelDef → Type 0
NeedsId ids d = LacksTo ids.schemas d.schema ⊎ Lacks ids.channels d

-- Why ids are refused. Memory lacks only where a new id is needed and could be given.
abbrev pub RefusesIds : IdContents → ChannelDef → IdRefused → Type 0
RefusesIds ids d TooManySchemas = IsFullTo ids.schemas d.schema
RefusesIds ids d TooManyChannels = (IsFullTo ids.schemas d.schema → ⊥) × IsFull ids.channels d
RefusesIds ids d Memory = NeedsId ids d × (IsFullTo ids.schemas d.schema → ⊥) × (IsFull ids.channels d → ⊥)
