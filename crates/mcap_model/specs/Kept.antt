-- What a reading keeps of a file: its longest good list of records; and where it halts, and why.
use Rattle.std.specs.Prelude.{◌≡◌, ℕ, ◌+◌, ◌≤◌, List, [], length, Bool, true, false, ◌||◌, nat_lt}
use Rattle.mcap_wire.specs.Layout.{content_limit}
use Rattle.mcap_wire.specs.Limits.{file_limit}
use Rattle.mcap_model.specs.Places.{EachBehind}
use Rattle.mcap_model.specs.Tops.{Top, Tops, Begins, offset_behind, opcode, declared_length, has_head, is_whole, first_top}
use Rattle.mcap_model.specs.Fields.{ChunkFields, IsChunk}
use Rattle.mcap_model.specs.Rules.{V1, V3, V5, V6, V7, V8, V10, HasDataEnd, Breaks}
use Rattle.mcap_model.specs.declared.rules.Rule.{Rule}
use Rattle.mcap_model.specs.declared.rules.Rule.TheVariants as rules

-- ---- limits

-- the longest content of a record that is read, and the longest file, in bytes
pub record Limits : Type 0 where
  pub content : ℕ
  pub file : ℕ

-- 256 MiB and 1 TiB
abbrev pub reading_limits : Limits
reading_limits = record { content = content_limit; file = file_limit }

-- a record of that length at that offset has a content or an end past its limit
abbrev pub is_beyond : Limits → ℕ → ℕ → Bool
is_beyond limits at len = nat_lt limits.content len || nat_lt limits.file (at + 9 + len)

-- ---- good lists

-- the record is a chunk that names that compression, which isn't empty
pub record NamesCompression (t : Top) (name : List ℕ) : Type 0 where
  pub shown : ChunkFields
  pub is : IsChunk t shown
  pub named : shown.compression ≡ name
  pub some : name ≡ [] → ⊥

-- A record that may stand behind those before it: it keeps the rules, is no compressed chunk, stays within the limits,
-- and there is no Data End yet.
pub record Fits (limits : Limits) (before : List Top) (t : Top) : Type 0 where
  pub v3 : V3 before t
  pub v5 : V5 before t
  pub v6 : V6 t
  pub v7 : V7 before t
  pub v8 : V8 t
  pub v10 : V10 t
  pub plain : (name : List ℕ) → NamesCompression t name → ⊥
  pub within : is_beyond limits (offset_behind before) (length t.content) ≡ false
  pub unended : HasDataEnd before → ⊥

abbrev pub Good : Limits → List Top → Type 0
Good limits tops = EachBehind (Fits limits) tops

-- the longest good list of records with which the file begins behind its magic
pub record Kept (limits : Limits) (bytes : List ℕ) (tops : List Top) : Type 0 where
  pub stands : Begins bytes tops
  pub good : Good limits tops
  pub longest : (others : List Top) → Begins bytes others → Good limits others → length others ≤ length tops

-- ---- where a reading halts

-- The reading came to the Data End, behind which this is the offset; at an offset a rule is broken, which comes
-- second; the chunk there names that compression; or the record there passes a limit. (`Stop` is why a writer stopped.)
pub data Halt : Type 0 where
  at_end : ℕ → Halt
  grammar : ℕ → Rule → Halt
  compressed : ℕ → List ℕ → Halt
  beyond : ℕ → Halt

-- a head stands there whose opcode isn't 0
abbrev pub HasOpcode : List ℕ → Type 0
HasOpcode rest = (has_head rest ≡ true) × (opcode rest ≡ 0 → ⊥)

-- Behind these records stands such a head, and its record isn't past the limits.
pub record IsDue (limits : Limits) (tops : List Top) (rest : List ℕ) : Type 0 where
  pub head : HasOpcode rest
  pub within : is_beyond limits (offset_behind tops) (declared_length rest) ≡ false

-- a chunk behind the Header that names that compression
abbrev pub IsPacked : List Top → Top → List ℕ → Type 0
IsPacked tops t name = (tops ≡ [] → ⊥) × NamesCompression t name

-- What stands behind the records halts the reading. Each of these reasons excludes those above it.
pub data HaltsThere (limits : Limits) (tops : List Top) (rest : List ℕ) : Halt → Type 0 where
  short_head : has_head rest ≡ false → HaltsThere limits tops rest (grammar (offset_behind tops) rules.V4)
  zero_opcode : has_head rest ≡ true → opcode rest ≡ 0
      → HaltsThere limits tops rest (grammar (offset_behind tops) rules.V5)
  past_limit : HasOpcode rest → is_beyond limits (offset_behind tops) (declared_length rest) ≡ true
      → HaltsThere limits tops rest (beyond (offset_behind tops))
  cut_short : IsDue limits tops rest → is_whole rest ≡ false
      → HaltsThere limits tops rest (grammar (offset_behind tops) rules.V4)
  packed_chunk : (name : List ℕ) → IsDue limits tops rest → is_whole rest ≡ true → IsPacked tops (first_top rest) name
      → HaltsThere limits tops rest (compressed (offset_behind tops) name)
  broken_rule : (rule : Rule) → IsDue limits tops rest → is_whole rest ≡ true
      → ((name : List ℕ) → IsPacked tops (first_top rest) name → ⊥) → Breaks tops (first_top rest) rule
      → HaltsThere limits tops rest (grammar (offset_behind tops) rule)

-- The reading of these bytes, which keeps these records, halts there.
pub data HaltsAt (limits : Limits) (bytes : List ℕ) (tops : List Top) : Halt → Type 0 where
  no_magic : (V1 bytes → ⊥) → HaltsAt limits bytes tops (grammar 0 rules.V1)
  at_data_end : (rest : List ℕ) → Tops bytes tops rest → HasDataEnd tops
      → HaltsAt limits bytes tops (at_end (offset_behind tops))
  behind_kept : (rest : List ℕ) → Tops bytes tops rest → (HasDataEnd tops → ⊥) → (halt : Halt)
      → HaltsThere limits tops rest halt → HaltsAt limits bytes tops halt

pub record Halts (limits : Limits) (bytes : List ℕ) (tops : List Top) (halt : Halt) : Type 0 where
  pub kept : Kept limits bytes tops
  pub there : HaltsAt limits bytes tops halt
