use Rattle.std.proofs.Common.{arith}
use Rattle.time_player.proofs.Puttings.{puts_none, piece_put, piece_part}
use Rattle.time_player.proofs.timed_lines.write_long.Goals as goal

pub returns-then-len-least-clause-puts : goal.returns-then-len-least-clause-puts
returns-then-len-least-clause-puts g c = puts_none _ c.args.piece.now.items

pub returns-in-Ok-clause-puts : goal.returns-in-Ok-clause-puts
returns-in-Ok-clause-puts g c =
    piece_put _ _ c.args.piece.now.items c.deref.result.now _ c.deref.ensures.value c.in-Ok.ensures.written (omega (arith, c.if-len-least.false, c.requires, c.len.ensures)) c.clear.ensures.items

pub returns-in-Err-clause-puts : goal.returns-in-Err-clause-puts
returns-in-Err-clause-puts g c =
    piece_part _ _ c.args.piece.now.items c.deref.result.now _ c.deref.ensures.value c.in-Err.ensures.written (omega (arith, c.if-len-least.false, c.requires, c.len.ensures))
