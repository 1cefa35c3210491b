-- The line that is printed of a file.
use Rattle.std.specs.Prelude.{◌≡◌, ℕ, List, [], ◌∷◌, ◌++◌, AllPairs, Some}
use Rattle.std.specs.Cmp.Lexicographic.{slice_cmp}
use Rattle.std.specs.Ordering.{nat_cmp}
use Rattle.std.specs.declared.cmp.Ordering.TheVariants.{Less}
use Rattle.json.specs.Print.{print}
use Rattle.json.specs.Tree.{json_tokens}
use Rattle.rec_data.specs.Records.{ShowsHeader}
use Rattle.mcap_model.specs.Places.{At, Has, Each}
use Rattle.mcap_model.specs.Tops.{Top}
use Rattle.mcap_model.specs.Fields.{IsSchema, IsChannel, ChunkIndexFields, IsChunkIndex, IsStatistics}
use Rattle.summary_read.specs.Parts.{Parts}
use Rattle.command_read.specs.Firsts.{AreFirsts}
use Rattle.command_read.specs.Json.{Info, info_value}

-- one of these Chunk Indexes names that compression
pub record IsCompressionNamed (indexes : List Top) (name : List ℕ) : Type 0 where
  pub place : ℕ
  pub top : Top
  pub shown : ChunkIndexFields
  pub at : At indexes place top
  pub is : IsChunkIndex top shown
  pub same : shown.compression ≡ name

-- the compressions that these Chunk Indexes name, each once, in the ascending order of their bytes
pub record AreNames (indexes : List Top) (names : List (List ℕ)) : Type 0 where
  pub rises : AllPairs (λ a b. slice_cmp nat_cmp a b ≡ Less) names
  pub are : Each (IsCompressionNamed indexes) names
  pub all : (name : List ℕ) → IsCompressionNamed indexes name → Has names name

-- this is told of the parts of a file
pub record IsTold (p : Parts) (i : Info) : Type 0 where
  pub header : ShowsHeader p.header.content i.header
  pub statistics : Top
  pub found : p.statistics ≡ Some statistics
  pub statistics_is : IsStatistics statistics i.statistics
  pub channels : AreFirsts IsChannel p.channels i.channels
  pub schemas : AreFirsts IsSchema p.schemas i.schemas
  pub compressions : AreNames p.chunk_indexes i.compressions

-- the value in its compact spelling, and the end of the line
abbrev pub info_line : Info → List ℕ
info_line i = print (json_tokens (info_value i)) ++ 10 ∷ []

-- the text tells of these parts
abbrev pub InfoText : Parts → List ℕ → Type 0
InfoText p text = (i : Info) × IsTold p i × (text ≡ info_line i)
