use Rattle.live_tests.proofs.watchers.a_watcher_of_each_block_tells_fronts_that_double.Given as goal

-- the history that was just opened
abbrev pub ghosts-watch_as : goal.ghosts-watch_as
ghosts-watch_as g a = record { book = a.opened.seen.book }
