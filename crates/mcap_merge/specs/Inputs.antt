-- What is held of inputs.
use Rattle.std.specs.Prelude.{◌≡◌, ℕ, ◌++◌, ◌∷◌, [], List, map, filter, Result, Ok, Err}
use Rattle.std.specs.List.{AllZip}
use Rattle.mcap_wire.specs.declared.faults.Memory.{Memory}
use Rattle.rec_data.specs.Records.{ShowsHeader}
use Rattle.mcap_io.specs.Outside.{SourceState}
use Rattle.mcap_model.specs.declared.tables.Tables.{Tables}
use Rattle.mcap_model.specs.Tops.{Top, flat}
use Rattle.mcap_model.specs.Kept.{reading_limits, Good, at_end}
use Rattle.mcap_model.specs.Scan.{Scan}
use Rattle.mcap_model.specs.Declarations.{TablesOf}
use Rattle.mcap_model.specs.Repaired.{is_extra, ProfileIs}
use Rattle.mcap_model.specs.declared.refusals.ReadingRefused.{ReadingRefused}
use Rattle.mcap_scan.specs.RefusedReadings.{HaltsSo, RefusalStands}
use Rattle.merge_walk.specs.SpanHeads.{heads_under}
use Rattle.merge_walk.specs.Spans.{spans_one, spans_of}
use Rattle.mcap_merge.specs.declared.input.Extra.{Extra}
use Rattle.mcap_merge.specs.declared.input.Holding.{Holding}
use Rattle.mcap_merge.specs.declared.input.Input.{Input}
use Rattle.mcap_merge.specs.Marks.{listed_channels, with_marks, AreUnmarked, MarksChannels}
use Rattle.mcap_merge.specs.ReadInputs.{Read}

abbrev pub extra_top : Extra → Top
extra_top e = record { op = e.op; content = e.content }

abbrev pub extra_tops : List Extra → List Top
extra_tops extras = map extra_top extras

-- an Attachment, a Metadata or a record of an application is kept, and no other record
abbrev pub KeepsExtra : Top → List Extra → List Extra → Type 0
KeepsExtra t old new = extra_tops new ≡ extra_tops old ++ filter is_extra (t ∷ [])

-- a Header's content shows that profile; memory may lack, also where it shows none
abbrev pub ReadsProfile : List ℕ → Result (List ℕ) Memory → Type 0
ReadsProfile content (Ok profile) =
    (library : List ℕ) × ShowsHeader content (record { profile = profile; library = library })
ReadsProfile content (Err lacking) = Unit {0}

-- a Header's profile is kept where it stands first
pub record KeepsProfile (offset : ℕ) (content old new : List ℕ) : Type 0 where
  pub first : offset ≡ 8 → (library : List ℕ) × ShowsHeader content (record { profile = new; library = library })
  pub later : (offset ≡ 8 → ⊥) → new ≡ old

-- a record more is held, which stands at that offset
pub record HoldsRecord (offset : ℕ) (t : Top) (old new : Holding) : Type 0 where
  pub spans : new.spans.items ≡ old.spans.items ++ spans_one offset t
  pub used : new.used.items ≡ with_marks old.used.items (listed_channels (heads_under t))
  pub extra : KeepsExtra t old.extras.items new.extras.items
  pub profile : KeepsProfile offset t.content old.profile new.profile

pub record HoldsNothing (h : Holding) : Type 0 where
  pub spans : h.spans.items ≡ []
  pub used : AreUnmarked h.used.items
  pub extras : h.extras.items ≡ []
  pub profile : h.profile ≡ []

pub record IsInputOf (h : Holding) (tables : Tables) (i : Input) : Type 0 where
  pub spans : i.spans ≡ h.spans
  pub used : i.used ≡ h.used
  pub extras : i.extras ≡ h.extras
  pub profile : i.profile ≡ h.profile
  pub tables_are : i.tables ≡ tables

-- these records are good, and what is held are their profile, their declarations, their extras, where their messages stand, and
-- which channels have some
pub record HoldsInput (r : Read) (i : Input) : Type 0 where
  pub good : Good reading_limits r.tops
  pub scan : Scan r.tops r.messages
  pub tables_are : TablesOf (flat r.tops) i.tables
  pub spans_are : i.spans.items ≡ spans_of r.tops
  pub used_are : MarksChannels i.used.items r.messages
  pub extras_are : extra_tops i.extras.items ≡ filter is_extra r.tops
  pub profile_is : ProfileIs r.tops i.profile

-- the source was read to its Data End, or refused behind some records
abbrev pub ReadsInput : SourceState → SourceState → Result Input ReadingRefused → Type 0
ReadsInput before now (Ok input) = (r : Read) × (end : ℕ) × HaltsSo before now r.tops (at_end end) × HoldsInput r input
ReadsInput before now (Err why) = (tops : List Top) × RefusalStands why before now tops

-- these are held of inputs that were read so
abbrev pub HoldInputs : List Read → List Input → Type 0
HoldInputs reads inputs = AllZip HoldsInput reads inputs
