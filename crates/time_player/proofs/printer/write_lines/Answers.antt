-- A message's line is gathered behind the others; what was gathered is written, and nothing else.
use Rattle.std.proofs.Common.{arith}
use Rattle.time_player.specs.Lent.{shown_of}
use Rattle.time_player.specs.Messages.{messages_in}
use Rattle.time_player.proofs.Printed.{message_on, ready_on, room_on, none_left, same_piece, piece_on, not_silent, printed, printed_part, printed_counted}
use Rattle.time_player.proofs.printer.write_lines.Goals as goal

pub write_line-requires : goal.write_line-requires
write_line-requires g c =
    let i = c.messages.invariant in
    room_on c.args.quoted.now (messages_in c.args.messages.now) c.messages.i (shown_of c.get-message.result) c.spelled.result.now _ _ i.ready c.get-message.ensures (c.spelled.ensures.first c.requires.apart) i.short

pub messages-preserved-then-len-lt-PIECE : goal.messages-preserved-then-len-lt-PIECE
messages-preserved-then-len-lt-PIECE g c =
    let i = c.messages.invariant in
    record {
      printing = message_on _ _ _ c.messages.piece.items c.write_line.new.out.items c.spelled.result.now c.args.quoted.now (messages_in c.args.messages.now) c.messages.i (shown_of c.get-message.result) c.messages.taken
          i.printing c.get-message.ensures (c.spelled.ensures.first c.requires.apart) c.write_line.ensures.items;
      ready = ready_on c.args.quoted.now (messages_in c.args.messages.now) _ _ i.ready c.write_line.ensures.capacity;
      short = omega (arith, c.if-len-lt-PIECE.true, c.len.ensures);
    }

pub returns-in-Err-clause-written : goal.returns-in-Err-clause-written
returns-in-Err-clause-written g c =
    let i = c.messages.invariant in
    let p = message_on _ _ _ c.messages.piece.items c.write_line.new.out.items c.spelled.result.now c.args.quoted.now (messages_in c.args.messages.now) c.messages.i (shown_of c.get-message.result) c.messages.taken
    i.printing c.get-message.ensures (c.spelled.ensures.first c.requires.apart) c.write_line.ensures.items in
    printed_part _ _ _ _ c.deref.result.now _ c.messages.taken c.saturating_add.result c.in-Err.short (same_piece _ _ _ _ c.deref.result.now _ _ p c.deref.ensures.value) c.in-Err.ensures.written (omega (arith, c.saturating_add.ensures))

pub returns-in-Err-clause-counted : goal.returns-in-Err-clause-counted
returns-in-Err-clause-counted g c =
    let i = c.messages.invariant in
    let p = message_on _ _ _ c.messages.piece.items c.write_line.new.out.items c.spelled.result.now c.args.quoted.now (messages_in c.args.messages.now) c.messages.i (shown_of c.get-message.result) c.messages.taken
    i.printing c.get-message.ensures (c.spelled.ensures.first c.requires.apart) c.write_line.ensures.items in
    printed_counted _ _ _ _ c.deref.result.now _ c.messages.taken c.saturating_add.result 131072 c.in-Err.short (same_piece _ _ _ _ c.deref.result.now _ _ p c.deref.ensures.value) c.in-Err.ensures.counted c.saturating_add.ensures

pub returns-in-Err-clause-silent : goal.returns-in-Err-clause-silent
returns-in-Err-clause-silent g c = λ none.
    let i = c.messages.invariant in
    let p = message_on _ _ _ c.messages.piece.items c.write_line.new.out.items c.spelled.result.now c.args.quoted.now (messages_in c.args.messages.now) c.messages.i (shown_of c.get-message.result) c.messages.taken
    i.printing c.get-message.ensures (c.spelled.ensures.first c.requires.apart) c.write_line.ensures.items in
    absurd (not_silent _ _ _ c.deref.result.now _ c.messages.taken (same_piece _ _ _ _ c.deref.result.now _ _ p c.deref.ensures.value) (omega (arith, c.if-len-lt-PIECE.false, c.len.ensures, c.deref.ensures.len)) none)

pub messages-preserved : goal.messages-preserved
messages-preserved g c =
    let i = c.messages.invariant in
    let p = message_on _ _ _ c.messages.piece.items c.write_line.new.out.items c.spelled.result.now c.args.quoted.now (messages_in c.args.messages.now) c.messages.i (shown_of c.get-message.result) c.messages.taken
    i.printing c.get-message.ensures (c.spelled.ensures.first c.requires.apart) c.write_line.ensures.items in
    record {
      printing = piece_on _ _ _ _ c.deref.result.now _ c.clear-in-messages.new.self.items c.messages.taken c.saturating_add-taken.result (same_piece _ _ _ _ c.deref.result.now _ _ p c.deref.ensures.value) c.in-Ok.ensures.written
          (omega (arith, c.if-len-lt-PIECE.false, c.len.ensures, c.deref.ensures.len)) c.clear-in-messages.ensures.items (omega (arith, c.saturating_add-taken.ensures, c.len-in-messages.ensures, c.deref.ensures.len));
      ready = ready_on c.args.quoted.now (messages_in c.args.messages.now) _ _ i.ready (omega (arith, c.write_line.ensures.capacity, c.clear-in-messages.ensures.capacity));
      short = omega (arith, c.clear-in-messages.ensures.len);
    }

pub returns-in-Ok-write_in_pieces-clause-written : goal.returns-in-Ok-write_in_pieces-clause-written
returns-in-Ok-write_in_pieces-clause-written g c =
    let i = c.messages.invariant in
    printed _ _ _ _ c.deref-2.result.now _ c.messages.taken (same_piece _ _ _ _ c.deref-2.result.now _ _ i.printing c.deref-2.ensures.value) c.in-Ok-write_in_pieces.ensures.written (none_left c.args.quoted.now (messages_in c.args.messages.now) c.messages.i (omega (arith, c.messages-test.false, c.len-i-end.ensures)))

pub returns-in-Err-write_in_pieces-clause-written : goal.returns-in-Err-write_in_pieces-clause-written
returns-in-Err-write_in_pieces-clause-written g c =
    let i = c.messages.invariant in
    printed_part _ _ _ _ c.deref-2.result.now _ c.messages.taken c.saturating_add-in-Err-write_in_pieces.result c.in-Err-write_in_pieces.short (same_piece _ _ _ _ c.deref-2.result.now _ _ i.printing c.deref-2.ensures.value) c.in-Err-write_in_pieces.ensures.written
    (omega (arith, c.saturating_add-in-Err-write_in_pieces.ensures))

pub returns-in-Err-write_in_pieces-clause-counted : goal.returns-in-Err-write_in_pieces-clause-counted
returns-in-Err-write_in_pieces-clause-counted g c =
    let i = c.messages.invariant in
    printed_counted _ _ _ _ c.deref-2.result.now _ c.messages.taken c.saturating_add-in-Err-write_in_pieces.result 131072 c.in-Err-write_in_pieces.short (same_piece _ _ _ _ c.deref-2.result.now _ _ i.printing c.deref-2.ensures.value) c.in-Err-write_in_pieces.ensures.counted
    c.saturating_add-in-Err-write_in_pieces.ensures
