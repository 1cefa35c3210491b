-- What is loaded of a file.
use Rattle.std.specs.Prelude.{◌≡◌, ℕ, ◌+◌, ◌≤◌, List, [], ◌∷◌, length, filter, slice_get, ◌==◌, if◌then◌else◌, Option, true}
use Rattle.mcap_wire.specs.Layout.{content_limit}
use Rattle.rec_data.specs.declared.footer.Footer.{Footer}
use Rattle.mcap_model.specs.Places.{Each}
use Rattle.mcap_model.specs.Tops.{Top, top_bytes, spelled, StandsIn}
use Rattle.mcap_model.specs.Fields.{IsHeader}
use Rattle.mcap_model.specs.Rules.{V1, V6}
use Rattle.mcap_model.specs.Whole.{V2, stands_in_summary}
use Rattle.mcap_wire.specs.Limits.{file_limit}
use Rattle.rec_data.specs.Records.{schema_opcode, channel_opcode}
use Rattle.rec_index.specs.Records.{chunk_index_opcode, attachment_index_opcode, statistics_opcode, metadata_index_opcode, summary_offset_opcode}
use Rattle.summary_read.specs.Reached.{summary_limit, EndsIn, SummaryStartsAt, summary_part}

-- The Header and the Footer; the first Statistics of the summary, if it has one; and the other known records of the
-- summary by their kinds, each list in the order of the file. Of the Chunk Indexes the offsets in the file too.
pub record Parts : Type 0 where
  pub header : Top
  pub footer : Footer
  pub statistics : Option Top
  pub schemas : List Top
  pub channels : List Top
  pub chunk_indexes : List Top
  pub chunk_index_offsets : List ℕ
  pub attachment_indexes : List Top
  pub metadata_indexes : List Top
  pub summary_offsets : List Top

-- the records of that opcode, in their order
abbrev pub of_kind : ℕ → List Top → List Top
of_kind op tops = filter (λ t. t.op == op) tops

-- the first record of that opcode
abbrev pub first_of_kind : ℕ → List Top → Option Top
first_of_kind op tops = slice_get (of_kind op tops) 0

-- the offsets of the records of that opcode, where the first of all stands at the second number
abbrev pub offsets_of_kind : ℕ → ℕ → List Top → List ℕ
offsets_of_kind op at [] = []
offsets_of_kind op at (t ∷ ts) =
    let behind = offsets_of_kind op (at + length (top_bytes t)) ts in
    if t.op == op then at ∷ behind else behind

-- all records of the summary are listed
pub record AreListed (tops : List Top) (p : Parts) : Type 0 where
  pub statistics : p.statistics ≡ first_of_kind statistics_opcode tops
  pub schemas : p.schemas ≡ of_kind schema_opcode tops
  pub channels : p.channels ≡ of_kind channel_opcode tops
  pub chunk_indexes : p.chunk_indexes ≡ of_kind chunk_index_opcode tops
  pub attachment_indexes : p.attachment_indexes ≡ of_kind attachment_index_opcode tops
  pub metadata_indexes : p.metadata_indexes ≡ of_kind metadata_index_opcode tops
  pub summary_offsets : p.summary_offsets ≡ of_kind summary_offset_opcode tops

-- a record that may stand in a summary, with a content that can be read
pub record IsSummaryRecord (t : Top) : Type 0 where
  pub kind : stands_in_summary t.op ≡ true
  pub layout : V6 t
  pub short : length t.content ≤ content_limit

-- the file's parts: between its magics stand its Header, its Footer, and a summary that is records without a rest
pub record IsLoaded (file : List ℕ) (p : Parts) : Type 0 where
  pub v1 : V1 file
  pub v2 : V2 file
  pub header_stands : StandsIn file 8 p.header
  pub header_is : IsHeader p.header
  pub ends : EndsIn file p.footer
  pub starts : SummaryStartsAt file p.footer.summary_start
  pub tops : List Top
  pub split : summary_part file p.footer.summary_start ≡ spelled tops
  pub sound : Each IsSummaryRecord tops
  pub listed : AreListed tops p
  pub placed : p.chunk_index_offsets ≡ offsets_of_kind chunk_index_opcode p.footer.summary_start tops
  pub file_fits : length file ≤ file_limit
  pub summary_fits : length (spelled tops) ≤ summary_limit
