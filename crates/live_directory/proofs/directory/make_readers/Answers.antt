use Rattle.std.proofs.Common.{rules, ◌≡◌, [], ◌∷◌, ◌++◌}
use Rattle.live_directory.proofs.Reading.{unread_more}
use Rattle.live_directory.proofs.directory.make_readers.Goals as goal

pub loop-preserved : goal.loop-preserved
loop-preserved g c =
    let pushed : c.push.new.self.items ≡ c.loop.all.items ++ c.new_reader.result ∷ [] = search rules in
    unread_more c.loop.all.items c.push.new.self.items c.new_reader.result c.loop.counter c.loop.invariant pushed c.new_reader.ensures
