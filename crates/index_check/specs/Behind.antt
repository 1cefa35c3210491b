-- A chunk, and the Message Indexes behind it.
use Rattle.std.specs.Prelude.{◌≡◌, ℕ, List, ◌∷◌, ◌++◌}
use Rattle.rec_index.specs.Records.{chunk_opcode, message_index_opcode}
use Rattle.mcap_model.specs.Places.{Has, Each}
use Rattle.mcap_model.specs.Tops.{Top, inner_tops}
use Rattle.mcap_model.specs.Fields.{IsMessageIndex}
use Rattle.mcap_scan.specs.declared.message_heads.MessageHead.{MessageHead}
use Rattle.index_check.specs.Messages.{HoldsMessages}

-- The last of these records are a chunk and, behind it, Message Indexes alone: the chunk has these Messages, and the
-- Message Indexes are of these channels.
pub record IsChunkOpen (before : List Top) (messages : List MessageHead) (channels : List ℕ) : Type 0 where
  pub others : List Top
  pub chunk : Top
  pub earlier : List Top
  pub joined : before ≡ others ++ chunk ∷ earlier
  pub kind : chunk.op ≡ chunk_opcode
  pub indexes : Each (λ u. u.op ≡ message_index_opcode) earlier
  pub holds : HoldsMessages (inner_tops chunk) messages
  pub shown : Each
      (λ u. (channel : ℕ) × (entries : List (ℕ × ℕ)) × IsMessageIndex u channel entries × Has channels channel) earlier
  pub named : (channel : ℕ) → Has channels channel
      → (u : Top) × (entries : List (ℕ × ℕ)) × Has earlier u × IsMessageIndex u channel entries
