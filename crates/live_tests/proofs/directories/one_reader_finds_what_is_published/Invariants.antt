use Rattle.live_tests.proofs.directories.one_reader_finds_what_is_published.Given as goal

-- the history that was just opened
abbrev pub ghosts-one_reader_as : goal.ghosts-one_reader_as
ghosts-one_reader_as g a = record { book = a.opened.seen.book }
