use Rattle.live_tests.proofs.watchers.watchers_write_fronts_and_ends.Given as goal

-- the history that was just opened
abbrev pub ghosts-watch_as : goal.ghosts-watch_as
ghosts-watch_as g a = record { book = a.opened.seen.book }
