-- What is said of a new file that is made of a source, and of what a refusal leaves of it.
use Rattle.std.specs.Prelude.{◌≡◌, ℕ, List, [], ◌∷◌, Option, Some, None, ◌⊎◌, ◌++◌}
use Rattle.mcap_io.specs.Outside.{SourceState, LiveState, Adds}
use Rattle.rec_data.specs.declared.owned.Rec.{Rec}
use Rattle.mcap_model.specs.declared.ends.Stop.{Stop}
use Rattle.mcap_model.specs.declared.options.FileOptions.{FileOptions}
use Rattle.mcap_model.specs.declared.refusals.ReadingRefused.{ReadingRefused}
use Rattle.mcap_model.specs.declared.refusals.ReadingRefused.TheVariants as scans
use Rattle.mcap_model.specs.Tops.{Top, Tops}
use Rattle.mcap_model.specs.Rules.{V1}
use Rattle.mcap_model.specs.Kept.{Good, reading_limits}
use Rattle.mcap_model.specs.File.{file_of, IsPrefix}
use Rattle.mcap_model.specs.Histories.{written_of}
use Rattle.mcap_model.specs.Repaired.{ProfileIs, Repairs, Repaired}
use Rattle.chunk_writer.specs.declared.tape.Written.{Written}
use Rattle.chunk_writer.specs.Stops.{StopsAt}

-- the source's bytes begin with the magic
abbrev pub HasMagic : SourceState → Type 0
HasMagic before = (bytes : List ℕ) → before.left ≡ Some bytes → V1 bytes

-- the source doesn't begin with the magic
abbrev pub LacksMagic : SourceState → Type 0
LacksMagic before = (bytes : List ℕ) → before.left ≡ Some bytes → V1 bytes → ⊥

-- how a recovered file is written: in chunks of that size, and of whatever span of log time
abbrev pub recovered_options : List ℕ → ℕ → FileOptions
recovered_options profile chunk = record { profile = profile; chunk = Some chunk; span = None }

-- of each file that repairing makes of the source's bytes: this holds of its options, extras and history
abbrev pub OfRepaired : ℕ → SourceState → (FileOptions → List Top → List Rec → Type 0) → Type 0
OfRepaired chunk before holds = (bytes : List ℕ) → before.left ≡ Some bytes
    → (profile : List ℕ) (extras : List Top) (history : List Rec) → Repaired bytes profile extras history
    → holds (recovered_options profile chunk) extras history

-- behind what the store held stands a first part of the file
abbrev pub StandsPart : LiveState → LiveState → FileOptions → List Top → List Rec → Type 0
StandsPart opened stored options extras history = (start : List ℕ) → opened.held ≡ Some start
    → (text : List ℕ) × (stored.held ≡ Some (start ++ text)) × IsPrefix text (file_of options extras history)

-- both stand still
pub record FaultsStill (before now : SourceState) (opened stored : LiveState) : Type 0 where
  pub source : now.faults ≡ before.faults
  pub store : stored.faults ≡ opened.faults

-- ---- how far a source was read

-- these records were taken from the front of the bytes, and the rest is left
abbrev pub LeftAfter : List ℕ → Option (List ℕ) → List Top → Type 0
LeftAfter bytes left tops = (rest : List ℕ) × (left ≡ Some rest) × Tops bytes tops rest

-- The first record alone was read: a Header, whose profile isn't empty. What is said of records that were read up to the last of
-- them is handed in.
pub record HeaderAlone (read : List Top → Type 0) (tops : List Top) : Type 0 where
  pub header : Top
  pub alone : tops ≡ header ∷ []
  pub just_read : read tops
  pub profile : List ℕ
  pub profile_is : ProfileIs tops profile
  pub named : profile ≡ [] → ⊥

-- nothing was written: no record was read before the reading broke off; or memory lacked for the profile of the first one
abbrev pub IsUnbegun : ReadingRefused → (List Top → Type 0) → List Top → Type 0
IsUnbegun why read tops = (tops ≡ []) ⊎ ((why ≡ scans.Memory) × HeaderAlone read tops)

-- The records before the one at which a writer stopped, which is the last that was read; or all of them, after which the reading
-- was over.
abbrev pub StopsAfter : (List Top → Type 0) → (List Top → Type 0) → List Top → List Top → Type 0
StopsAfter read over earlier tops = ((t : Top) × (tops ≡ earlier ++ t ∷ []) × read tops)
    ⊎ ((earlier ≡ tops) × over tops)

-- ---- what stands of a new file

-- the size of its chunks, and which records are written of the history that repairing makes of a source's
pub record Making : Type 0 where
  pub chunk : ℕ
  pub written : List Rec → List Rec

abbrev pub making : ℕ → (List Rec → List Rec) → Making
making chunk written = record { chunk = chunk; written = written }

-- the bytes are the magic, the Header and all ripe blocks of what is written of these records
pub record AreRipe (m : Making) (tops : List Top) (text : List ℕ) : Type 0 where
  pub profile : List ℕ
  pub extras : List Top
  pub history : List Rec
  pub repairs : Repairs tops profile extras history
  pub are : text ≡ written_of (recovered_options profile m.chunk) (m.written history)

-- such bytes stand after what the store held, and are with the system
pub record StandsRipe (m : Making) (tops : List Top) (opened stored : LiveState) : Type 0 where
  pub text : List ℕ
  pub ripe : AreRipe m tops text
  pub adds : Adds opened.held stored.held text
  pub through : stored.waiting ≡ 0

-- the text begins with such bytes, if there are any records
abbrev pub BeginsRipe : Making → List Top → List ℕ → Type 0
BeginsRipe m tops text = (tops ≡ []) ⊎ ((ripe : List ℕ) × AreRipe m tops ripe × IsPrefix ripe text)

-- The writer of what these good records were read for stopped at a piece of their file. All that is ripe of the records before the
-- one at which it stopped stands, or of all where the reading was over; nothing need stand where the first record was the last.
pub record CutShort (m : Making) (read over : List Top → Type 0) (opened now : Option (List ℕ)) (stop : Stop)
    (numbers : Written) : Type 0 where
  pub tops : List Top
  pub good : Good reading_limits tops
  pub earlier : List Top
  pub stopped : StopsAfter read over earlier tops
  pub profile : List ℕ
  pub extras : List Top
  pub history : List Rec
  pub repairs : Repairs tops profile extras history
  pub stops : StopsAt (recovered_options profile m.chunk) extras (m.written history) opened now stop numbers
  pub ripe : (start : List ℕ) → opened ≡ Some start
      → (text : List ℕ) × (now ≡ Some (start ++ text)) × BeginsRipe m earlier text
