-- What taking the magic and a record from a source comes to.
use Rattle.std.specs.Prelude.{◌≡◌, ◌⊎◌, ℕ, ◌<◌, List, ◌∷◌, ◌++◌, length, take, drop, true, false, Option, Some, Result, Ok, Err}
use Rattle.mcap_wire.specs.Layout.{le, framed, magic}
use Rattle.mcap_wire.specs.declared.faults.Head.{Head}
use Rattle.mcap_io.specs.declared.outside.OutsideRefused.{OutsideRefused}
use Rattle.mcap_io.specs.declared.outside.OutsideRefused.TheVariants as outside_refusals
use Rattle.mcap_io.specs.Outside.{RisesOnce}
use Rattle.mcap_model.specs.Tops.{Top, offset_behind, has_head, opcode, declared_length}
use Rattle.mcap_model.specs.Rules.{V1}
use Rattle.mcap_model.specs.Kept.{reading_limits, is_beyond, Halt, grammar, beyond, IsDue, HaltsThere}
use Rattle.mcap_scan.specs.Sources.{unread_behind, ReadWithin}
use Rattle.mcap_model.specs.declared.refusals.ReadingRefused.{ReadingRefused}
use Rattle.mcap_model.specs.declared.refusals.ReadingRefused.TheVariants as refusals
use Rattle.mcap_model.specs.declared.rules.Rule.TheVariants as rules

-- ---- why a source couldn't be read

-- the refusal for a read that failed
abbrev pub Failure : ℕ → OutsideRefused → ReadingRefused → Type 0
Failure faults outside_refusals.Failed why = why ≡ refusals.Fault faults
Failure faults outside_refusals.Memory why = why ≡ refusals.Memory

-- the count of faults stands still but at a fault, which carries it, and where it rose by one
abbrev pub RefusalCause : ℕ → ℕ → ReadingRefused → Type 0
RefusalCause before now (refusals.Fault faults) = RisesOnce before now × (faults ≡ now)
RefusalCause before now why = now ≡ before

abbrev pub TakingCause : {T : Type 0} → ℕ → ℕ → Result T ReadingRefused → Type 0
TakingCause before now (Ok it) = now ≡ before
TakingCause before now (Err why) = RefusalCause before now why

-- ---- the magic

abbrev pub MagicRefused : List ℕ → Option (List ℕ) → ReadingRefused → Type 0
MagicRefused bytes left (refusals.Fault faults) = (n : ℕ) × (left ≡ Some (drop n bytes)) × (length (take n bytes) < 8)
MagicRefused bytes left (refusals.Grammar offset rule) =
    (offset ≡ 0) × (rule ≡ rules.V1) × (V1 bytes → ⊥) × (left ≡ Some (drop 8 bytes))
MagicRefused bytes left (refusals.Compressed offset name) = ⊥
MagicRefused bytes left (refusals.Limit offset) = ⊥
MagicRefused bytes left refusals.Memory = left ≡ Some bytes

abbrev pub MagicTaken : List ℕ → Option (List ℕ) → Result Unit ReadingRefused → Type 0
MagicTaken bytes left (Ok it) = (rest : List ℕ) × (left ≡ Some rest) × (bytes ≡ magic ++ rest)
MagicTaken bytes left (Err why) = MagicRefused bytes left why

-- ---- heads

-- a head stands at the front, and the bytes behind it are left
pub record TakesHead (rest : List ℕ) (left : Option (List ℕ)) (op len : ℕ) : Type 0 where
  pub begins : has_head rest ≡ true
  pub op_is : opcode rest ≡ op
  pub len_is : declared_length rest ≡ len
  pub no_zero : op ≡ 0 → ⊥
  pub after : List ℕ
  pub split : rest ≡ op ∷ (le 8 len ++ after)
  pub left_after : left ≡ Some after

-- ---- records

-- what stands at the rest, at that offset, so halts any reading that comes there
abbrev pub HaltsAny : List ℕ → ℕ → Halt → Type 0
HaltsAny rest at halt = (tops : List Top) → at ≡ offset_behind tops → HaltsThere reading_limits tops rest halt

-- a record that is within the limits begins there, for any reading that comes to that offset
abbrev pub DueAny : List ℕ → ℕ → Type 0
DueAny rest at = (tops : List Top) → at ≡ offset_behind tops → IsDue reading_limits tops rest

-- why no record could be taken from the front of what was left, at that offset
abbrev pub RecordRefused : List ℕ → ℕ → Option (List ℕ) → ReadingRefused → Type 0
RecordRefused rest at left (refusals.Fault faults) =
    (n : ℕ) × (left ≡ Some (drop n rest)) × HaltsAny (take n rest) at (grammar at rules.V4)
RecordRefused rest at left (refusals.Grammar offset rule) =
    HaltsAny rest at (grammar offset rule) × (left ≡ Some (unread_behind rest (grammar offset rule)))
RecordRefused rest at left (refusals.Compressed offset name) = ⊥
RecordRefused rest at left (refusals.Limit offset) =
    HaltsAny rest at (beyond offset) × (left ≡ Some (unread_behind rest (beyond offset)))
RecordRefused rest at left refusals.Memory = (left ≡ Some rest) ⊎ (DueAny rest at × ReadWithin rest left)

abbrev pub HeadTaken : List ℕ → ℕ → Option (List ℕ) → Result Head ReadingRefused → Type 0
HeadTaken rest at left (Ok head) = TakesHead rest left head.op head.len
HeadTaken rest at left (Err why) = RecordRefused rest at left why

-- a record stands at the front, and the bytes behind it are left
pub record TakesFrontRecord (rest : List ℕ) (left : Option (List ℕ)) (op : ℕ) (content : List ℕ) : Type 0 where
  pub after : List ℕ
  pub split : rest ≡ framed op content ++ after
  pub left_after : left ≡ Some after

abbrev pub RecordTaken : List ℕ → ℕ → Option (List ℕ) → List ℕ → Result ℕ ReadingRefused → Type 0
RecordTaken rest at left content (Ok op) = TakesFrontRecord rest left op content
RecordTaken rest at left content (Err why) = RecordRefused rest at left why

-- a record that was taken has an opcode and stays within the limits
pub record IsTakable (at op len : ℕ) : Type 0 where
  pub valid : op ≡ 0 → ⊥
  pub within : is_beyond reading_limits at len ≡ false
