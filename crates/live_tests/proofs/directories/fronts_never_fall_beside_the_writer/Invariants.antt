use Rattle.live_tests.proofs.directories.fronts_never_fall_beside_the_writer.Given as goal

-- the history that was just opened
abbrev pub ghosts-many_readers_as : goal.ghosts-many_readers_as
ghosts-many_readers_as g a = record { book = a.opened.seen.book }
