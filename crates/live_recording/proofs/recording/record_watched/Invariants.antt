use Rattle.live_recording.proofs.recording.record_watched.Given as goal

-- the history that was just opened
abbrev pub ghosts-record_as : goal.ghosts-record_as
ghosts-record_as g a = record { book = a.opened.seen.book }
