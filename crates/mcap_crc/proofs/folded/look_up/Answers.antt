use Rattle.mcap_crc.proofs.Nibbles.{low_ok, high_ok}
use Rattle.mcap_crc.proofs.Lanes.{block_looked_up}
use Rattle.mcap_crc.proofs.folded.look_up.Goals as goal

pub swizzle : goal.swizzle
swizzle c = low_ok c.args.block c.fits-block

pub swizzle-2 : goal.swizzle-2
swizzle-2 c = high_ok c.args.block c.fits-block

pub returns : goal.returns
returns c = block_looked_up c.args.number c.args.block c.fits-block
