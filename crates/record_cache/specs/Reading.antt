-- Which records some bytes are: a reading that finds each record as it was framed.
use Rattle.std.specs.Prelude.{ℕ, zero, suc, List, [], ◌∷◌, length, take, drop, ◌==◌, if◌then◌else◌}
use Rattle.mcap_wire.specs.Layout.{number}
use Rattle.rec_data.specs.declared.owned.Rec.{Rec}
use Rattle.rec_data.specs.declared.owned.Rec.TheVariants.{Schema, Channel, Message, Extra}
use Rattle.rec_data.specs.Records.{schema_opcode, channel_opcode, message_opcode}

-- a text behind its length in four bytes, and what follows it
abbrev pub first_text : List ℕ → List ℕ
first_text bytes = take (number (take 4 bytes)) (drop 4 bytes)

abbrev pub bytes_behind_text : List ℕ → List ℕ
bytes_behind_text bytes = drop (number (take 4 bytes)) (drop 4 bytes)

-- at most so many pairs of texts
unfoldable pub pairs_within : ℕ → List ℕ → List (List ℕ × List ℕ)
pairs_within zero bytes = []
pairs_within (suc n) [] = []
pairs_within (suc n) (b ∷ bs) = (first_text (b ∷ bs), first_text (bytes_behind_text (b ∷ bs)))
    ∷ pairs_within n (bytes_behind_text (bytes_behind_text (b ∷ bs)))

unfoldable pub schema_read : List ℕ → Rec
schema_read content = Schema (number (take 2 content)) (record {
  name = first_text (drop 2 content);
  encoding = first_text (bytes_behind_text (drop 2 content));
  payload = first_text (bytes_behind_text (bytes_behind_text (drop 2 content)));
})

unfoldable pub map_read : List ℕ → List (List ℕ × List ℕ)
map_read bytes = pairs_within (length bytes) bytes

unfoldable pub channel_read : List ℕ → Rec
channel_read content =
    Channel (number (take 2 content)) (number (take 2 (drop 2 content))) (first_text (drop 2 (drop 2 content)))
    (first_text (bytes_behind_text (drop 2 (drop 2 content)))) (map_read (first_text
    (bytes_behind_text (bytes_behind_text (drop 2 (drop 2 content))))))

unfoldable pub message_read : List ℕ → Rec
message_read content =
    Message (number (take 2 content)) (number (take 4 (drop 2 content))) (number (take 8 (drop 4 (drop 2 content))))
    (number (take 8 (drop 8 (drop 4 (drop 2 content))))) (drop 8 (drop 8 (drop 4 (drop 2 content))))

unfoldable pub record_read : ℕ → List ℕ → Rec
record_read op content = if op == schema_opcode then schema_read content
    else (if op == channel_opcode then channel_read content
    else (if op == message_opcode then message_read content else Extra op content))

-- at most so many records
unfoldable pub records_within : ℕ → List ℕ → List Rec
records_within zero bytes = []
records_within (suc n) [] = []
records_within (suc n) (op ∷ rest) = record_read op (take (number (take 8 rest)) (drop 8 rest))
    ∷ records_within n (drop (number (take 8 rest)) (drop 8 rest))

-- the records that stand one behind the other in some bytes
unfoldable pub records_shown : List ℕ → List Rec
records_shown bytes = records_within (length bytes) bytes
