use Rattle.std.proofs.Common.{◌∙◌}
use Rattle.mcap_crc.proofs.Gathering.{first_stands}
use Rattle.mcap_crc.proofs.gathered.begin.Goals as goal

pub returns : goal.returns
returns c = first_stands c.args.register c.copy_from_slice.new.self c.ranges.register.fits (c.copy_from_slice.ensures.after ∙ c.to_le_bytes.ensures)
