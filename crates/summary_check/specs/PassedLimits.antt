-- Where what stands behind a data section passes a limit of reading.
use Rattle.std.specs.Prelude.{◌≡◌, ◌≢◌, ◌<◌, ◌≤◌, ◌+◌, ℕ, List, length}
use Rattle.mcap_wire.specs.Layout.{content_limit}
use Rattle.mcap_model.specs.Tops.{Top, Tops, offset_behind, opcode, declared_length}
use Rattle.mcap_model.specs.Whole.{AreShort}

-- Behind whole records and in front of the last magic, the head of a record of a valid opcode begins at that offset, which
-- declares a content longer than the limit.
pub record PassesLimit (file : List ℕ) (offset : ℕ) : Type 0 where
  pub tops : List Top
  pub rest : List ℕ
  pub stand : Tops file tops rest
  pub short : AreShort tops
  pub there : offset ≡ offset_behind tops
  pub inside : offset + 17 ≤ length file
  pub valid : opcode rest ≢ 0
  pub past : content_limit < declared_length rest
