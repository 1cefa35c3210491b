-- Each lane is looked up among the digits.
use Rattle.mcap_crc.proofs.Nibbles.{low_ok, high_ok}
use Rattle.time_player.proofs.Digits.{block_digits}
use Rattle.time_player.proofs.hex.digits_of.Goals as goal

pub swizzle-high : goal.swizzle-high
swizzle-high c = high_ok c.args.block c.fits-block

pub swizzle-low : goal.swizzle-low
swizzle-low c = low_ok c.args.block c.fits-block

pub returns : goal.returns
returns c = block_digits c.args.block c.fits-block
