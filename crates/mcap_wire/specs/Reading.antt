-- What is read at an offset, and why it may be refused.
use Rattle.std.specs.Prelude.{◌≡◌, ◌≢◌, ◌⊎◌, ℕ, ◌+◌, ◌^◌, ◌<◌, ◌≤◌, List, ◌++◌, length, take, drop, slice_index, Result, Ok, Err, IsUtf8}
use Rattle.mcap_wire.specs.declared.faults.Why.{Why}
use Rattle.mcap_wire.specs.declared.faults.Why.TheVariants.{Short, BadText, BadLength, DoubleKey}
use Rattle.mcap_wire.specs.declared.faults.Head.{Head}
use Rattle.mcap_wire.specs.declared.faults.HeadFault.{HeadFault}
use Rattle.mcap_wire.specs.declared.faults.HeadFault.TheVariants as head_faults
use Rattle.mcap_wire.specs.declared.faults.Cut.{Cut}
use Rattle.mcap_wire.specs.declared.faults.CutFault.{CutFault}
use Rattle.mcap_wire.specs.declared.faults.CutFault.TheVariants as cut_faults
use Rattle.mcap_wire.specs.Layout.{number, string, prefixed, framed, part, content_limit, FieldAt, NumberAt, text_length, text_bytes, bytes_length}
use denote.Ref.{Bor}

-- ---- numbers

-- a number of n bytes can't be read only where it is cut short
abbrev pub NumberFails : ℕ → List ℕ → ℕ → Why → Type 0
NumberFails n content at Short = length content < at + n
NumberFails n content at BadText = ⊥
NumberFails n content at BadLength = ⊥
NumberFails n content at DoubleKey = ⊥

abbrev pub ReadsNumber : ℕ → List ℕ → ℕ → Result (ℕ × ℕ) Why → Type 0
ReadsNumber n content at (Ok r) = NumberAt n content at r.0 r.1
ReadsNumber n content at (Err why) = NumberFails n content at why

-- ---- texts

-- a text stands there
pub record TextAt (content : List ℕ) (at : ℕ) (text : List ℕ) (end : ℕ) : Type 0 where
  pub field : FieldAt content at end (string text)
  pub size : end ≡ at + 4 + length text
  pub fits : length text < 2 ^ 32
  pub utf8 : IsUtf8 text

-- the length of a text or its bytes are cut short
abbrev pub TextIsShort : List ℕ → ℕ → Type 0
TextIsShort content at = (length content < at + 4)
    ⊎ ((at + 4 ≤ length content) × (length content < at + 4 + text_length content at))

-- a text is whole and isn't UTF-8
abbrev pub TextIsBad : List ℕ → ℕ → Type 0
TextIsBad content at = (at + 4 + text_length content at ≤ length content) × ¬ IsUtf8 (text_bytes content at)

-- why a text can't be read
abbrev pub TextFails : List ℕ → ℕ → Why → Type 0
TextFails content at Short = TextIsShort content at
TextFails content at BadText = TextIsBad content at
TextFails content at BadLength = ⊥
TextFails content at DoubleKey = ⊥

abbrev pub ReadsText : List ℕ → ℕ → Result (Bor (List ℕ) × ℕ) Why → Type 0
ReadsText content at (Ok r) = TextAt content at r.0.now r.1
ReadsText content at (Err why) = TextFails content at why

-- ---- bytes

-- bytes stand there behind their length of n bytes
pub record BytesAt (n : ℕ) (content : List ℕ) (at : ℕ) (bytes : List ℕ) (end : ℕ) : Type 0 where
  pub field : FieldAt content at end (prefixed n bytes)
  pub size : end ≡ at + n + length bytes
  pub fits : length bytes < 256 ^ n

-- the length of bytes or the bytes are cut short
abbrev pub BytesAreShort : ℕ → List ℕ → ℕ → Type 0
BytesAreShort n content at = (length content < at + n)
    ⊎ ((at + n ≤ length content) × (length content < at + n + bytes_length n content at))

-- bytes can't be read only where they are cut short
abbrev pub BytesFail : ℕ → List ℕ → ℕ → Why → Type 0
BytesFail n content at Short = BytesAreShort n content at
BytesFail n content at BadText = ⊥
BytesFail n content at BadLength = ⊥
BytesFail n content at DoubleKey = ⊥

abbrev pub ReadsBytes : ℕ → List ℕ → ℕ → Result (Bor (List ℕ) × ℕ) Why → Type 0
ReadsBytes n content at (Ok r) = BytesAt n content at r.0.now r.1
ReadsBytes n content at (Err why) = BytesFail n content at why

-- ---- heads

-- the length of the content that stands behind the opcode
abbrev pub content_length : List ℕ → ℕ → ℕ
content_length bytes at = number (take 8 (drop (at + 1) bytes))

-- fewer than nine bytes are left
abbrev pub HeadIsShort : List ℕ → ℕ → Type 0
HeadIsShort bytes at = length bytes < at + 9

-- the head is whole, and its opcode is valid
abbrev pub HasOpcodeAt : List ℕ → ℕ → Type 0
HasOpcodeAt bytes at = (at + 9 ≤ length bytes) × (slice_index bytes at ≢ 0)

-- the head is whole, and its opcode is 0
abbrev pub HasZeroOpcode : List ℕ → ℕ → Type 0
HasZeroOpcode bytes at = (at + 9 ≤ length bytes) × (slice_index bytes at ≡ 0)

-- the head of a record stands there: a valid opcode, and the length of the content in eight bytes
pub record HeadAt (bytes : List ℕ) (at op len : ℕ) : Type 0 where
  pub opcode : op ≡ slice_index bytes at
  pub valid : op ≢ 0
  pub len_there : NumberAt 8 bytes (at + 1) len (at + 9)

-- why a head can't be read: the first that holds of a short head and an opcode 0
abbrev pub HeadFails : List ℕ → ℕ → HeadFault → Type 0
HeadFails bytes at head_faults.Short = HeadIsShort bytes at
HeadFails bytes at head_faults.ZeroOp = HasZeroOpcode bytes at

abbrev pub ReadsHead : List ℕ → ℕ → Result Head HeadFault → Type 0
ReadsHead bytes at (Ok head) = HeadAt bytes at head.op head.len
ReadsHead bytes at (Err fault) = HeadFails bytes at fault

-- ---- records

-- a record stands at an offset, its content between two others
pub record RecordStands (bytes : List ℕ) (at op from to : ℕ) : Type 0 where
  pub framed_there : drop at bytes ≡ framed op (part from to bytes) ++ drop to bytes
  pub head : from ≡ at + 9
  pub begins : from ≤ to
  pub ends : to ≤ length bytes

-- why a record can't be cut: the first that holds of a short head, an opcode 0, a content that is too long and a content that is cut short
abbrev pub CutFails : List ℕ → ℕ → CutFault → Type 0
CutFails bytes at cut_faults.Short = HeadIsShort bytes at
    ⊎ (HasOpcodeAt bytes at × (content_length bytes at ≤ content_limit) × (length bytes < at + 9 + content_length bytes at))
CutFails bytes at cut_faults.ZeroOp = HasZeroOpcode bytes at
CutFails bytes at (cut_faults.TooLong len) =
    HasOpcodeAt bytes at × (len ≡ content_length bytes at) × (content_limit < len)

-- a whole record with a valid opcode and a content within the limit
pub record IsCut (bytes : List ℕ) (at : ℕ) (c : Cut) : Type 0 where
  pub stands : RecordStands bytes at c.op c.from c.to
  pub valid : c.op ≢ 0
  pub within : c.to ≤ c.from + content_limit

abbrev pub CutsAt : List ℕ → ℕ → Result Cut CutFault → Type 0
CutsAt bytes at (Ok c) = IsCut bytes at c
CutsAt bytes at (Err fault) = CutFails bytes at fault
