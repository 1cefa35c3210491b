use Rattle.std.proofs.Common.{◌≡◌, ◌+◌, ◌*◌, ◌≤◌, ◌++◌, length, vec_len, vec_capacity}
use Rattle.std.specs.List.{flat_map}
use Rattle.time_player.specs.Text.{hex_byte}
use Rattle.time_player.proofs.hex.add_hex.Given as goal

abbrev pub invariant-pieces : goal.invariant-pieces
invariant-pieces l = record {
  items : l.out.items ++ flat_map hex_byte l.rest ≡ l.fn.out.items ++ flat_map hex_byte l.bytes;
  len : vec_len l.out + 2 * length l.rest ≡ vec_len l.fn.out + 2 * length l.bytes;
  capacity : vec_capacity l.fn.out ≤ vec_capacity l.out;
}

abbrev pub decreases-pieces : goal.decreases-pieces
decreases-pieces l = length l.rest
