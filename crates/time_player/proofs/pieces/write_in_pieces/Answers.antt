-- One piece more goes on from what was written; of one that failed what isn't counted lies in it.
use Rattle.std.proofs.Common.{◌∙◌, ◌≤◌, ◌+◌, ap, length, arith}
use Rattle.mcap_io.specs.Outside.{one_more}
use Rattle.time_player.proofs.Writing.{piece_more, piece_part, piece_short, piece_counted}
use Rattle.time_player.proofs.pieces.write_in_pieces.Goals as goal

pub pieces-preserved : goal.pieces-preserved
pieces-preserved g c =
    let behind : c.pieces.taken ≤ c.min-end.result = omega (arith, c.min-end.ensures, c.saturating_add.ensures, c.pieces-test.true, c.min-end.type_inv) in
    record {
      bound = omega (arith, c.min-end.ensures);
      still = c.in-Ok.ensures.0 ∙ c.pieces.invariant.still;
      so_far = piece_more _ _ _ c.args.bytes.now c.pieces.taken c.min-end.result behind c.pieces.invariant.so_far c.in-Ok.ensures.1;
    }

pub returns-in-Err-clause-written : goal.returns-in-Err-clause-written
returns-in-Err-clause-written g c =
    let behind : c.pieces.taken ≤ c.min-end.result = omega (arith, c.min-end.ensures, c.saturating_add.ensures, c.pieces-test.true, c.min-end.type_inv) in
    let within : c.min-end.result ≤ length c.args.bytes.now = omega (arith, c.min-end.ensures) in
    let rises = c.in-Err.ensures.0 in
    let part = piece_part _ _ _ c.args.bytes.now c.pieces.taken c.min-end.result c.in-Err.short.taken behind within c.pieces.invariant.so_far c.in-Err.ensures.2 in (
      record { later = omega (arith, c.pieces.invariant.still, rises.later); once = rises.once ∙ ap one_more c.pieces.invariant.still },
      piece_short c.args.bytes.now c.pieces.taken c.min-end.result c.in-Err.short.taken within c.in-Err.ensures.1,
      part,
    )

pub returns-in-Err-clause-counted : goal.returns-in-Err-clause-counted
returns-in-Err-clause-counted g c =
    let behind : c.pieces.taken ≤ c.min-end.result = omega (arith, c.min-end.ensures, c.saturating_add.ensures, c.pieces-test.true, c.min-end.type_inv) in
    let within : c.min-end.result ≤ length c.args.bytes.now = omega (arith, c.min-end.ensures) in
    piece_counted _ _ _ c.args.bytes.now c.pieces.taken c.min-end.result c.in-Err.short.taken 131072 behind within (omega (arith, c.min-end.ensures, c.saturating_add.ensures)) c.pieces.invariant.so_far c.in-Err.ensures.2
