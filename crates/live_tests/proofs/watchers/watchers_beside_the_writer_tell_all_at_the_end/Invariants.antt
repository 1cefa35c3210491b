use Rattle.live_tests.proofs.watchers.watchers_beside_the_writer_tell_all_at_the_end.Given as goal

-- the history that was just opened
abbrev pub ghosts-four_watchers_as : goal.ghosts-four_watchers_as
ghosts-four_watchers_as g a = record { book = a.opened.seen.book }
