-- The text of a summary, from what it holds.
use Rattle.std.specs.Prelude.{ℕ, zero, suc, ◌+◌, List, [], ◌++◌, length, take}
use Rattle.mcap_wire.specs.Layout.{framed, magic}
use Rattle.mcap_crc.specs.Remainder.{remainder}
use Rattle.rec_data.specs.Records.{footer_opcode, footer_text}
use Rattle.rec_index.specs.Fields.{StatisticsFields}
use Rattle.rec_index.specs.Records.{statistics_opcode, summary_offset_opcode, statistics_text, summary_offset_text}
use Rattle.mcap_model.specs.Summary.{capped, footer_of_offsets}
use Rattle.summary_write.specs.declared.text.Numbers.{Numbers}
use Rattle.summary_write.specs.Tally.{Tally}

-- the fields of the Statistics of these numbers
abbrev pub statistics_of_numbers : Numbers → StatisticsFields
statistics_of_numbers n = record {
  messages = n.messages;
  schemas = n.schemas;
  channels = capped n.channels;
  attachments = n.attachments;
  metadata = n.metadata;
  chunks = capped n.blocks;
  start = n.start;
  end = n.end;
  counts = n.counts.now;
}

abbrev pub statistics_record : StatisticsFields → List ℕ
statistics_record f = framed statistics_opcode (statistics_text f)

abbrev pub tally_fields : Tally → StatisticsFields
tally_fields t = record {
  messages = t.messages;
  schemas = length t.schema_ids;
  channels = capped (length t.channel_ids);
  attachments = t.extras.attachments;
  metadata = t.extras.metadata;
  chunks = capped t.blocks;
  start = t.start;
  end = t.end;
  counts = t.counts;
}

abbrev pub statistics_of : Tally → List ℕ
statistics_of t = statistics_record (tally_fields t)

abbrev pub six_texts : List ℕ → List ℕ → List ℕ → List ℕ → List ℕ → List ℕ → List ℕ
six_texts a b c d e f = a ++ (b ++ (c ++ (d ++ (e ++ f))))

abbrev pub groups_of_tally : Tally → List ℕ
groups_of_tally t =
    six_texts t.schemas t.channels (statistics_of t) t.chunk_indexes t.extras.attachment_indexes
    t.extras.metadata_indexes

-- the Summary Offset of a group of so many bytes, if it is there
abbrev pub group_offset_record : ℕ → ℕ → ℕ → List ℕ
group_offset_record op at zero = []
group_offset_record op at (suc len) =
    framed summary_offset_opcode (summary_offset_text (record { op = op; offset = at; size = suc len }))

-- those of the six groups, where they have these lengths and the first one stands at that offset
abbrev pub six_offsets : ℕ → ℕ → ℕ → ℕ → ℕ → ℕ → ℕ → List ℕ
six_offsets at a b c d e f =
    group_offset_record 3 at a
    ++ (group_offset_record 4 (at + a) b
    ++ (group_offset_record 11 (at + a + b) c
    ++ (group_offset_record 8 (at + a + b + c) d
    ++ (group_offset_record 10 (at + a + b + c + d) e
    ++ group_offset_record 13 (at + a + b + c + d + e) f))))

abbrev pub offsets_of_tally : Tally → ℕ → List ℕ
offsets_of_tally t at =
    six_offsets at (length t.schemas) (length t.channels) (length (statistics_of t)) (length t.chunk_indexes)
    (length t.extras.attachment_indexes) (length t.extras.metadata_indexes)

-- behind these bytes the Footer of a summary that starts at one offset, its Summary Offsets at another, and the magic
abbrev pub closed_by : List ℕ → ℕ → ℕ → List ℕ
closed_by bytes at behind = bytes
    ++ (framed footer_opcode (footer_text (footer_of_offsets at behind (remainder
    (bytes ++ take 25 (framed footer_opcode (footer_text (footer_of_offsets at behind 0))))))) ++ magic)

unfoldable pub closed_summary : Tally → ℕ → List ℕ
closed_summary t at = closed_by (groups_of_tally t ++ offsets_of_tally t at) at (at + length (groups_of_tally t))
