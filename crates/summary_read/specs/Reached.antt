-- What is read of a file to load its summary: the two magics, the Header, the Footer, and the records from summary_start
-- up to the Footer. Where a rule fails on these, and where one passes a limit.
use Rattle.std.specs.Prelude.{◌≡◌, ◌≢◌, ◌⊎◌, ℕ, ◌+◌, ◌-◌, ◌^◌, ◌<◌, ◌≤◌, List, [], ◌++◌, length, drop, true, false}
use Rattle.mcap_wire.specs.Limits.{file_limit}
use Rattle.mcap_wire.specs.Layout.{part, content_limit}
use Rattle.rec_data.specs.declared.footer.Footer.{Footer}
use Rattle.mcap_model.specs.Tops.{Top, top_bytes, spelled, opcode, declared_length, has_head, is_whole}
use Rattle.mcap_model.specs.Fields.{IsFooter}
use Rattle.mcap_model.specs.Rules.{V1, V6}
use Rattle.mcap_model.specs.Whole.{V2, stands_in_summary}
use Rattle.mcap_model.specs.Valid.{StartsWithHeader, EndsWithFooter}
use Rattle.mcap_model.specs.declared.rules.Rule.{Rule}
use Rattle.mcap_model.specs.declared.rules.Rule.TheVariants as rules

-- ---- limits

-- the longest summary that is read: 256 MiB (2 ^ 28)
abbrev pub summary_limit : ℕ
summary_limit = 2 ^ 28

-- ---- the Footer

-- the record shows this Footer
abbrev pub RecordShowsFooter : Top → Footer → Type 0
RecordShowsFooter t f = IsFooter t f.summary_start f.summary_offset_start f.summary_crc

-- this Footer stands in front of the last eight bytes
pub record EndsIn (file : List ℕ) (f : Footer) : Type 0 where
  pub before : List ℕ
  pub top : Top
  pub last : List ℕ
  pub split : file ≡ before ++ (top_bytes top ++ last)
  pub size : length last ≡ 8
  pub is : RecordShowsFooter top f

-- a whole Footer stands there, and says that there is no summary
abbrev pub HasNoSummary : List ℕ → Type 0
HasNoSummary file = (f : Footer) × EndsIn file f × (f.summary_start ≡ 0)

-- ---- the summary

-- the bytes from there up to the Footer, which stands 37 bytes before the end
abbrev pub summary_part : List ℕ → ℕ → List ℕ
summary_part file start = part start (length file - 37) file

-- the Footer names a summary that starts behind the magic and not behind the Footer's own place
pub record SummaryStartsAt (file : List ℕ) (start : ℕ) : Type 0 where
  pub footer : Footer
  pub ends : EndsIn file footer
  pub named : footer.summary_start ≡ start
  pub behind : 8 ≤ start
  pub before : start + 37 ≤ length file

-- a summary that starts at that offset begins with these records, and the rest stands there
pub record CutTo (summary : List ℕ) (start : ℕ) (tops : List Top) (rest : List ℕ) (offset : ℕ) : Type 0 where
  pub split : summary ≡ spelled tops ++ rest
  pub there : offset ≡ start + length (spelled tops)

-- ---- where a rule fails

-- the first record of the rest breaks that rule: it isn't whole, or it is none that stands in a summary, or
-- its content can't be read
pub data BreaksFirst (rest : List ℕ) : Rule → Type 0 where
  breaks_4 : (has_head rest ≡ false) ⊎ (is_whole rest ≡ false) → BreaksFirst rest rules.V4
  breaks_5 : has_head rest ≡ true → stands_in_summary (opcode rest) ≡ false → BreaksFirst rest rules.V5
  breaks_6 : (t : Top) (behind : List ℕ) → rest ≡ top_bytes t ++ behind → (V6 t → ⊥) → BreaksFirst rest rules.V6

-- a record of the summary breaks the rule
abbrev pub FailsInside : List ℕ → ℕ → Rule → ℕ → Type 0
FailsInside summary start rule offset =
    (tops : List Top) × (rest : List ℕ) × CutTo summary start tops rest offset × (rest ≢ []) × BreaksFirst rest rule

-- The file begins with the magic, and in front of its last eight bytes no whole record begins behind that.
pub record CutsFirst (file : List ℕ) : Type 0 where
  pub v1 : V1 file
  pub some : 16 < length file
  pub cut : let inner = part 8 (length file - 8) file in (has_head inner ≡ false) ⊎ (is_whole inner ≡ false)

-- That rule fails at that offset, on the ends of the file: the first magic isn't there; or it is, and behind
-- it no Header stands, or no whole record; or the last magic isn't there, or in front of the last eight bytes no Footer.
pub data FailsAtEnds (file : List ℕ) : Rule → ℕ → Type 0 where
  first_magic : (V1 file → ⊥) → FailsAtEnds file rules.V1 0
  last_magic : V1 file → (V2 file → ⊥) → FailsAtEnds file rules.V2 (length file - 8)
  no_header : V1 file → (StartsWithHeader file → ⊥) → FailsAtEnds file rules.V3 8
  header_cut : CutsFirst file → FailsAtEnds file rules.V4 8
  no_footer : V1 file → (EndsWithFooter file → ⊥) → FailsAtEnds file rules.V17 (length file - 37)

-- That rule fails at that offset: on the file's ends; on the Footer, which names no place of a summary; or on
-- a record of the summary. Of a file that doesn't begin with the magic only that is told.
pub data FailsLoading (file : List ℕ) : Rule → ℕ → Type 0 where
  at_ends : (rule : Rule) (offset : ℕ) → FailsAtEnds file rule offset → FailsLoading file rule offset
  by_start : V1 file → (f : Footer) → EndsIn file f → f.summary_start ≢ 0
      → (f.summary_start < 8) ⊎ (length file < f.summary_start + 37) → FailsLoading file rules.V11 (length file - 37)
  inside : V1 file → (start : ℕ) (rule : Rule) (offset : ℕ) → SummaryStartsAt file start
      → FailsInside (summary_part file start) start rule offset → FailsLoading file rule offset

-- ---- where a limit is passed

-- a head stands at the front, and declares a content past the limit
pub record DeclaresPast (rest : List ℕ) : Type 0 where
  pub head : has_head rest ≡ true
  pub past : content_limit < declared_length rest

-- a record of the summary does
abbrev pub PassesInside : List ℕ → ℕ → ℕ → Type 0
PassesInside summary start offset =
    (tops : List Top) × (rest : List ℕ) × CutTo summary start tops rest offset × DeclaresPast rest

-- the file is too long, or its summary, or the content that the Header or a record of the summary declares
pub data Passes (file : List ℕ) : ℕ → Type 0 where
  file_passes : file_limit < length file → Passes file file_limit
  summary_passes : (start : ℕ) → SummaryStartsAt file start → summary_limit < length file - 37 - start
      → Passes file start
  header_passes : DeclaresPast (drop 8 file) → Passes file 8
  record_passes : (start offset : ℕ) → SummaryStartsAt file start → PassesInside (summary_part file start) start offset
      → Passes file offset
