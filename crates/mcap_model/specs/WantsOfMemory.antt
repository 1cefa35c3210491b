-- For which records a reading may want memory.
use Rattle.std.specs.Prelude.{◌≡◌, ◌⊎◌, ℕ, List}
use Rattle.mcap_model.specs.Places.{At}
use Rattle.mcap_model.specs.Tops.{Top, flat}
use Rattle.mcap_model.specs.Fields.{SchemaFields, IsSchema, ChannelFields, IsChannel, MessageFields, IsMessage, ChunkFields, IsChunk}
use Rattle.mcap_model.specs.Rules.{HasSchema, HasChannel, V3, V5, V6, V10, HasSizeAndCrc}
use Rattle.rec_index.specs.Records.{chunk_opcode}
use Rattle.mcap_model.specs.Kept.{NamesCompression}

-- equal fields but for the metadata, which aren't compared without memory
pub record SameButMetadata (f g : ChannelFields) : Type 0 where
  pub schema : f.schema ≡ g.schema
  pub topic : f.topic ≡ g.topic
  pub encoding : f.encoding ≡ g.encoding

-- a record agrees with those before it, but that the metadata of a Channel may differ
pub record AgreesButMetadata (before : List Top) (t : Top) : Type 0 where
  pub schemas : (id : ℕ) (f g : SchemaFields) (n : ℕ) (u : Top) → IsSchema t id f → At before n u → IsSchema u id g
      → g ≡ f
  pub channels : (id : ℕ) (f g : ChannelFields) (n : ℕ) (u : Top) → IsChannel t id f → At before n u → IsChannel u id g
      → SameButMetadata g f
  pub schema : (id : ℕ) (f : ChannelFields) → IsChannel t id f → (f.schema ≡ 0) ⊎ HasSchema before f.schema
  pub channel : (id : ℕ) (m : MessageFields) → IsMessage t id m → HasChannel before id

-- the record names no compression
abbrev pub NamesNoCompression : Top → Type 0
NamesNoCompression t = (name : List ℕ) → NamesCompression t name → ⊥

-- The record breaks no rule as far as that is told without memory: it may stand there, has its layout, names no
-- compression, and its CRCs and a chunk's size are right. Left open are the records inside a chunk, and the metadata of a
-- Channel whose id isn't new.
pub record MayWantMemory (tops : List Top) (t : Top) : Type 0 where
  pub v3 : V3 tops t
  pub v5 : V5 tops t
  pub v6 : V6 t
  pub v10 : V10 t
  pub plain : NamesNoCompression t
  pub chunk : (f : ChunkFields) → IsChunk t f → HasSizeAndCrc f
  pub agrees : (t.op ≡ chunk_opcode → ⊥) → AgreesButMetadata (flat tops) t
