-- What a lane keeps of its declarations.
use Rattle.std.specs.Prelude.{◌≡◌, ℕ, List, set, Bool, true, Option, Result, Ok, Err}
use Rattle.rec_data.specs.declared.schema.SchemaDef.{SchemaDef}
use Rattle.history_ids.specs.declared.describing.KeptSchema.{KeptSchema}

-- For each id that a channel of a feed may have, the id that its declaration got, or 0; a schema of the feed; and for the first
-- of these ids how many bytes the channel's records have, or 0.
pub record LaneIds : Type 0 where
  pub given : List ℕ
  pub kept : KeptSchema
  pub wide : List ℕ

abbrev pub lane_ids : List ℕ → KeptSchema → List ℕ → LaneIds
lane_ids given kept wide = record { given = given; kept = kept; wide = wide }

-- with that id for a channel
abbrev pub with_channel_id : LaneIds → ℕ → ℕ → LaneIds
with_channel_id ids source id = record ids { given = set ids.given source id }

-- with that schema
abbrev pub with_kept : LaneIds → KeptSchema → LaneIds
with_kept ids kept = record ids { kept = kept }

-- where the pass is said to know the schema, it does
abbrev pub IsKnown : (Option SchemaDef → Type 0) → KeptSchema → Type 0
IsKnown knows kept = kept.known ≡ true → knows kept.schema

-- the pass knows the schema of a channel behind its declaration: it knew it before, or the channel got an id
abbrev pub KnownBehind : {A E : Type 0} → Bool → Result A E → Type 0
KnownBehind known (Ok answer) = Unit {0}
KnownBehind known (Err why) = known ≡ true
