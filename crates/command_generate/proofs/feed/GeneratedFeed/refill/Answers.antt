use Rattle.std.proofs.Common.{◌≡◌, [], ap, drop, length, arith, drop_of_length-le}
use Rattle.std.proofs.lemmas.List.{length-drop}
use Rattle.command_generate.proofs.Made.{made_well, message_waits}
use Rattle.command_generate.proofs.feed.GeneratedFeed.refill.Goals.{then-self-len-via-then-self-len, then-self-len-via-else-self-len+then-self}
use Rattle.command_generate.proofs.feed.GeneratedFeed.refill.Goals as goal

pub returns-then-self-len-clause-some : goal.returns-then-self-len-clause-some
returns-then-self-len-clause-some c = λ none.
    let was = c.args.self.now in
    elim c.then-self-len.branch [
      | then-self-len-via-then-self-len w ↦ absurd (omega (arith, w.if-self-len.true, c.len.ensures, ap length none, length-drop was.from was.waiting.items, was.waiting.ok))
      | then-self-len-via-else-self-len+then-self w ↦ w.if-self.true
    ]

pub returns-then-self-2-clause-left : goal.returns-then-self-2-clause-left
returns-then-self-2-clause-left c =
    let was = c.args.self.now in
    let none : drop was.from was.waiting.items ≡ [] = drop_of_length-le was.waiting.items (omega (arith, c.if-self-len.false, c.len.ensures, was.waiting.ok)) in
    let put = made_well c.put_message.result c.put_message.ensures.ok c.put_message.ensures.full (λ lacks. omega (arith, lacks, c.clear.ensures.len, c.clear.ensures.capacity, was.room)) in
    message_waits was.messages was.made was.state c.advance-self.result c.draw.result was.waiting.items c.clear.new.self.items c.put_message.new.out.items was.from was.ended c.if-self.false c.advance-self.ensures c.draw.ensures
    c.clear.ensures.items put none c.if-self-2.true
