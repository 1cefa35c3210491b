use Rattle.std.proofs.Common.{arith}
use Rattle.live_watcher.proofs.Digits.{none_put, one_put}
use Rattle.live_watcher.proofs.lines.+push_hex.Goals as goal

pub returns-then-digits-eq0-clause-text : goal.returns-then-digits-eq0-clause-text
returns-then-digits-eq0-clause-text t c = none_put c.args.line.now c.args.digits c.args.number (omega (arith, c.if-digits-eq0.true))

pub returns-clause-text : goal.returns-clause-text
returns-clause-text t c =
    one_put c.args.line.now c.push_hex.new.line c.digit_text.result.now c.push_text.new.self c.args.digits c.args.number (omega (arith, c.if-digits-eq0.false)) c.push_hex.ensures.text c.digit_text.ensures c.push_text.ensures.text
