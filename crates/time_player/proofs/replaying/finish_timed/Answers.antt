use Rattle.time_player.proofs.replaying.finish_timed.Goals as goal

pub returns-in-Ok-of_kept : goal.returns-in-Ok-of_kept
returns-in-Ok-of_kept c = λ range topic tops messages told same.
    let p = c.in-Ok.ensures range topic tops messages told same in
    (p.shown, p.replay, c.in-Ok-of_kept.ensures p.shown p.shows)
