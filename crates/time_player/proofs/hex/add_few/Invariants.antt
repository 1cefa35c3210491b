use Rattle.std.proofs.Common.{◌≡◌, ◌+◌, ◌*◌, ◌≤◌, ◌++◌, take, vec_len, vec_capacity}
use Rattle.std.specs.List.{flat_map}
use Rattle.time_player.specs.Text.{hex_byte}
use Rattle.time_player.proofs.hex.add_few.Given as goal

abbrev pub invariant-bytes : goal.invariant-bytes
invariant-bytes l = record {
  items : l.out.items ≡ l.fn.out.items ++ flat_map hex_byte (take l.i l.bytes);
  len : vec_len l.out ≡ vec_len l.fn.out + 2 * l.i;
  capacity : vec_capacity l.fn.out ≤ vec_capacity l.out;
}
