use Rattle.std.proofs.Common.{refl}
use Rattle.rec_data.proofs.OwnedLengths.{channel_len}
use Rattle.feed_lane.specs.Sizes.{shown_by}
use Rattle.feed_lane.proofs.sizes.channel_bytes.Goals as goal

pub returns-clause-size : goal.returns-clause-size
returns-clause-size c = channel_len 0 (shown_by c.args.channel.now) _ _ _ refl refl c.byte_len.ensures
