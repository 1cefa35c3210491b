-- What a pass shows of its calls on the intake.
use Rattle.std.specs.Prelude.{◌≡◌, ◌⊎◌, ℕ, ◌+◌, ◌≤◌, List, [], ◌∷◌, Option, Some}
use Rattle.rec_data.specs.declared.owned.Rec.{Rec}
use Rattle.rec_data.specs.declared.channel.ChannelDef.{ChannelDef}
use Rattle.mcap_model.specs.History.{schema_of, channel_of}
use Rattle.history_ids.specs.DeclarationFields.{fields_of_schema, fields_with}
use Rattle.record_core.specs.declared.answers.Found.{Found}
use Rattle.record_core.specs.declared.answers.CallRefused.{CallRefused}

-- where a buffer was full: it held the records from one place to before another, of so many bytes
pub record FullAt : Type 0 where
  pub from : ℕ
  pub to : ℕ
  pub held : ℕ

abbrev pub filled : ℕ → ℕ → ℕ → FullAt
filled held from to = record { from = from; to = to; held = held }

-- a declaration that got an id: the id, its channel, and how many records had been accepted after it
pub record NamedBy : Type 0 where
  pub id : ℕ
  pub content : ChannelDef
  pub count : ℕ

abbrev pub named_by : ℕ → ChannelDef → ℕ → NamedBy
named_by id content count = record { id = id; content = content; count = count }

-- a declaration that no id was left for: its channel, of what there were no ids, and how many records had been accepted
-- before it
pub record LackAt : Type 0 where
  pub content : ChannelDef
  pub cause : CallRefused
  pub at : ℕ

abbrev pub lack_at : ChannelDef → CallRefused → ℕ → LackAt
lack_at content cause at = record { content = content; cause = cause; at = at }

-- The records that the pass added, each with its place; the ids that its declarations got; where it was
-- answered that the buffer is full; the declarations that no id was left for; the reasons of all refusals but want of memory,
-- those for size also without a call; how the intake stood in its last call, before what that did; and how many bytes a buffer may
-- hold before it is full.
pub record PassState : Type 0 where
  pub own : List (ℕ × Rec)
  pub named : List NamedBy
  pub fulls : List FullAt
  pub lacks : List LackAt
  pub reasons : List CallRefused
  pub found : Option Found
  pub limit : ℕ

-- the pass found the intake with at least so many records
pub record FoundAtLeast (pass : PassState) (n : ℕ) : Type 0 where
  pub found : Found
  pub shown : pass.found ≡ Some found
  pub within : n ≤ found.count

-- records from a place on, each with its place
abbrev pub with_places : ℕ → List Rec → List (ℕ × Rec)
with_places place [] = []
with_places place (r ∷ rs) = (place, r) ∷ with_places (place + 1) rs

-- ---- a call

abbrev pub full_at : Found → FullAt
full_at found = record { from = found.taken; to = found.count; held = found.held }

-- ---- declaring

-- the records that a declaration adds: none, its Channel, or its Schema and its Channel
abbrev pub AreAdded : ChannelDef → ℕ → List Rec → Type 0
AreAdded d channel records = (records ≡ [])
    ⊎ (((schema : ℕ) × (records ≡ channel_of channel (fields_with d schema) ∷ []))
    ⊎ ((schema : ℕ) × (s : _) × (d.schema ≡ Some s)
    × (records ≡ schema_of schema (fields_of_schema s) ∷ channel_of channel (fields_with d schema) ∷ [])))
