-- What is known of a merge before anything is written.
use Rattle.std.specs.Prelude.{◌⊎◌, List}
use Rattle.std.specs.List.{AllZip}
use Rattle.mcap_wire.specs.Limits.{id_limit}
use Rattle.mcap_io.specs.Stores.{StoreState}
use Rattle.mcap_model.specs.declared.ends.Stop.TheVariants as stops
use Rattle.mcap_model.specs.Tops.{Top}
use Rattle.mcap_merge.specs.declared.answers.MergeRefused.{MergeRefused}
use Rattle.mcap_merge.specs.declared.answers.MergeRefused.TheVariants as merges
use Rattle.mcap_model.specs.Merged.{IsUsed, SchemaIsUsed, AtMost, MoreThan}
use Rattle.mcap_merge.specs.ReadInputs.{Read, read_tops}
use Rattle.mcap_merge.specs.Reading.{IsReadOf, FaultsStand, InputRefused}

-- Why inputs with these records aren't merged: more schemas are used than there are ids; or more channels, where the schemas are
-- no more than these; or memory lacked.
abbrev pub PrepareRefused : List (List Top) → MergeRefused → Type 0
PrepareRefused inputs (merges.Halted input why) = ⊥
PrepareRefused inputs (merges.Changed input offset) = ⊥
PrepareRefused inputs merges.TooManySchemas = MoreThan id_limit (SchemaIsUsed inputs)
PrepareRefused inputs merges.TooManyChannels = MoreThan id_limit (IsUsed inputs) × AtMost id_limit (SchemaIsUsed inputs)
PrepareRefused inputs (merges.Stopped (stops.Fault faults)) = ⊥
PrepareRefused inputs (merges.Stopped (stops.Limit blocks bytes)) = ⊥
PrepareRefused inputs (merges.Stopped stops.Memory) = Unit {0}

-- why nothing is merged: an input wasn't read to its Data End; or all were, and no more can be made of their records
abbrev pub GatherRefused : List StoreState → List StoreState → MergeRefused → Type 0
GatherRefused olds news why = InputRefused olds news why
    ⊎ (AllZip FaultsStand olds news × (reads : List Read) × AllZip IsReadOf olds reads × PrepareRefused (read_tops reads) why)
