use Rattle.live_tests.proofs.published.a_recording_publishes_each_of_its_blocks.Given as goal

-- the history that was just opened
abbrev pub ghosts-published_as : goal.ghosts-published_as
ghosts-published_as g a = record { book = a.opened.seen.book }
