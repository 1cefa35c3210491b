-- The replay as its call gives it, and the lines of what it shows.
use Rattle.command_read.proofs.indexed.FollowingStoreReading.read_store.Goals as goal

pub returns-in-Ok-of_kept : goal.returns-in-Ok-of_kept
returns-in-Ok-of_kept g c =
    let p = c.in-Ok.ensures in
    (c.in-Ok.replayed, record { plays = p.plays; counted = p.counted; unsummed = p.unsummed; scanned = p.scanned; room = p.room; asks = p.asks; unloaded = p.unloaded; bounded = p.bounded; cause = p.cause }, c.in-Ok-of_kept.ensures)
