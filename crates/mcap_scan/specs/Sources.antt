-- How much of a source a reading left unread.
use Rattle.std.specs.Prelude.{◌≡◌, ◌⊎◌, ℕ, ◌+◌, ◌<◌, List, [], ◌++◌, length, drop, true, ◌==◌, if◌then◌else◌, Option, Some}
use Rattle.mcap_io.specs.Outside.{SourceState}
use Rattle.mcap_model.specs.Tops.{Top, Tops, offset_behind, opcode, declared_length, is_whole, first_top, behind_first}
use Rattle.mcap_model.specs.Rules.{V1}
use Rattle.mcap_model.specs.Kept.{reading_limits, Kept, Halt, at_end, grammar, compressed, beyond, IsDue, IsPacked, HaltsAt}
use Rattle.mcap_model.specs.WantsOfMemory.{MayWantMemory}
use Rattle.mcap_model.specs.declared.rules.Rule.TheVariants as rules

-- where the bytes before are told, these records were taken from their front, and the rest is left
abbrev pub ReadFromFront : SourceState → SourceState → List Top → Type 0
ReadFromFront before now tops =
    (bytes : List ℕ) → before.left ≡ Some bytes → (rest : List ℕ) × (now.left ≡ Some rest) × Tops bytes tops rest

-- ---- where a reading halts

-- What stays unread of the bytes behind the records: behind a Data End, all; of a record that is past a limit, or has
-- opcode 0, all but the head; and what stands behind any other record.
abbrev pub unread_behind : List ℕ → Halt → List ℕ
unread_behind rest (at_end offset) = rest
unread_behind rest (grammar offset rule) = if opcode rest == 0 then drop 9 rest else behind_first rest
unread_behind rest (compressed offset name) = behind_first rest
unread_behind rest (beyond offset) = drop 9 rest

-- what is left where a reading of the bytes, which kept these records, halts so; without the magic its eight bytes alone
-- were read
abbrev pub HaltLeaves : List ℕ → List Top → Halt → Option (List ℕ) → Type 0
HaltLeaves bytes tops halt left = ((V1 bytes → ⊥) × (left ≡ Some (drop 8 bytes)))
    ⊎ ((rest : List ℕ) × Tops bytes tops rest × (left ≡ Some (unread_behind rest halt)))

-- ---- where a source fails

-- These bytes are cut off: a reading keeps these records of them, and awaits more of the next one, or of the magic.
pub record IsCutOff (part : List ℕ) (tops : List Top) : Type 0 where
  pub kept : Kept reading_limits part tops
  pub cut : (length part < 8) ⊎ HaltsAt reading_limits part tops (grammar (offset_behind tops) rules.V4)

-- the source gave bytes that are cut off, and has the rest
pub record FaultLeaves (bytes : List ℕ) (tops : List Top) (left : Option (List ℕ)) : Type 0 where
  pub part : List ℕ
  pub rest : List ℕ
  pub split : bytes ≡ part ++ rest
  pub left_is : left ≡ Some rest
  pub cut_off : IsCutOff part tops

-- ---- where memory lacks

-- a record was read up to within its content: its head, and fewer bytes than the head declares
abbrev pub ReadWithin : List ℕ → Option (List ℕ) → Type 0
ReadWithin rest left = (n : ℕ) × (n < declared_length rest) × (left ≡ Some (drop (9 + n) rest))

-- a record was read, and breaks no rule as far as that is told without memory; or it is a chunk whose compression's name
-- couldn't be copied
abbrev pub LacksBehind : List Top → List ℕ → Option (List ℕ) → Type 0
LacksBehind tops rest left = (is_whole rest ≡ true) × (left ≡ Some (behind_first rest))
    × (MayWantMemory tops (first_top rest) ⊎ ((name : List ℕ) × IsPacked tops (first_top rest) name))

-- Nothing of the rest was read; or of a record that is due the head and a first part of the content, or all of it.
abbrev pub LacksAt : List Top → List ℕ → Option (List ℕ) → Type 0
LacksAt tops rest left =
    (left ≡ Some rest) ⊎ (IsDue reading_limits tops rest × (ReadWithin rest left ⊎ LacksBehind tops rest left))

-- what is left where memory lacked behind these records, or already for the magic
abbrev pub MemoryLeaves : List ℕ → List Top → Option (List ℕ) → Type 0
MemoryLeaves bytes tops left =
    ((tops ≡ []) × (left ≡ Some bytes)) ⊎ ((rest : List ℕ) × Tops bytes tops rest × LacksAt tops rest left)
