use Rattle.std.proofs.Common.{◌≡◌, ℕ, ◌+◌, ◌<◌, length, get_or, bit_xor}
use Rattle.mcap_crc.proofs.gathered.end.Given as goal

abbrev pub invariant-loop-i : goal.invariant-loop-i
invariant-loop-i l = record {
  long : length l.last ≡ 2400;
  each : (k : ℕ) → k < l.i → get_or l.last k 0 ≡ bit_xor (bit_xor (bit_xor (bit_xor (get_or l.padded k 0) (get_or l.next k 0)) (get_or l.padded (k + 712) 0)) (get_or l.padded (k + 936) 0)) (get_or l.padded (k + 1240) 0);
}
