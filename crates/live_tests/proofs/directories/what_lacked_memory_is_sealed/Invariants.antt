use Rattle.live_tests.proofs.directories.what_lacked_memory_is_sealed.Given as goal

-- the history that was just opened
abbrev pub ghosts-all_is_sealed_as : goal.ghosts-all_is_sealed_as
ghosts-all_is_sealed_as g a = record { book = a.opened.seen.book }
