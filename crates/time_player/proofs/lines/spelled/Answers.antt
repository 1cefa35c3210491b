use Rattle.std.proofs.Common.{inl, inr, refl}
use Rattle.time_player.proofs.Quoted.{spelled_first}
use Rattle.time_player.proofs.lines.spelled.Goals as goal

pub returns-in-Some-clause-first : goal.returns-in-Some-clause-first
returns-in-Some-clause-first c =
    let f = c.in-Some.ensures in
    spelled_first c.args.quoted.now c.args.channel c.in-Some.topic.now (inl (f.0, f.1, f.2, f.3, f.4))

pub returns-in-None-clause-first : goal.returns-in-None-clause-first
returns-in-None-clause-first c = spelled_first c.args.quoted.now c.args.channel _ (inr (c.in-None.ensures, refl))
