-- A number that is written at a place of some bytes, and the bytes up to its end.
use Rattle.std.proofs.Common.{◌≡◌, ◌∙◌, ℕ, ◌+◌, ◌≤◌, List, ◌++◌, length, take, ap, sym, arith, append_assoc, length-take-le}
use Rattle.std.proofs.Math.Seq.{take-append_seam, take-append-add}
use Rattle.byteorder.specs.Endian.{little_bytes}
use Rattle.mcap_wire.specs.Layout.{le}
use Rattle.mcap_wire.proofs.Numbers.{written, length-le}

pub number_set : (bytes part rest post : List ℕ) (at k v : ℕ) → at + k ≤ length bytes → part ≡ little_bytes k v ++ rest → take (at + k) (take at bytes ++ (part ++ post)) ≡ take at bytes ++ le k v
number_set bytes part rest post at k v within is =
    let place : length (take at bytes) ≡ at = length-take-le at bytes (omega (arith, within)) in
    let number : part ++ post ≡ le k v ++ (rest ++ post) =
    ap (λ (l : List ℕ). l ++ post) (is ∙ ap (λ (l : List ℕ). l ++ rest) (written k v)) ∙ append_assoc (le k v) rest post in
    let first : take k (part ++ post) ≡ le k v =
    ap (take k) number ∙ ap (λ (n : ℕ). take n (le k v ++ (rest ++ post))) (sym (length-le k v)) ∙ take-append_seam (le k v) (rest ++ post) in
    ap (λ (n : ℕ). take (n + k) (take at bytes ++ (part ++ post))) (sym place)
    ∙ take-append-add (take at bytes) (part ++ post) k
    ∙ ap (λ (l : List ℕ). take at bytes ++ l) first
