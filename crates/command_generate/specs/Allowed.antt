-- Which options a recording of generated feeds may have.
use Rattle.std.specs.Prelude.{◌≤◌, length}
use Rattle.mcap_wire.specs.RecordingLimits.{buffer_limit, profile_limit}
use Rattle.chunk_writer.specs.Limits.{ChunkSizeFits}
use Rattle.mcap_model.specs.declared.options.RecordOptions.{RecordOptions}

-- the options of a recording are in their ranges: a buffer of 1 byte to 1 GiB, chunks of 1 byte to 64 MiB, and a profile of at
-- most 65,535 bytes
pub record OptionsAllowed (options : RecordOptions) : Type 0 where
  pub some : 1 ≤ options.limit
  pub small : options.limit ≤ buffer_limit
  pub size : ChunkSizeFits options.file.chunk
  pub short : length options.file.profile ≤ profile_limit
