use Rattle.std.proofs.Common.{◌≡◌, ℕ, List, ◌++◌, take, drop, refl, append_assoc, arith}
use Rattle.std.specs.List.{flat_map}
use Rattle.std.proofs.lemmas.List.{take-append-drop}
use Rattle.std.proofs.lemmas.Grind.{flat_map-append, common_steps}
use Rattle.time_player.specs.Text.{hex_byte}
use Rattle.time_player.proofs.hex.add_hex.Goals as goal

-- one block more
block_on : (all out now digits block tail rest : List ℕ) (n : ℕ) → now ≡ out ++ digits → digits ≡ flat_map hex_byte block → block ≡ take n rest → tail ≡ drop n rest → out ++ flat_map hex_byte rest ≡ all
    → now ++ flat_map hex_byte tail ≡ all
block_on all out now digits block tail rest n added is front back was = cc (append_assoc out digits (flat_map hex_byte tail), flat_map-append hex_byte block tail, take-append-drop n rest)

pub pieces-init : goal.pieces-init
pieces-init c = record { items = refl; len = refl; capacity = omega arith }

pub pieces-preserved : goal.pieces-preserved
pieces-preserved c =
    let i = c.pieces.invariant in
    let h = c.in-Some.ensures.cases in
    record {
      items = block_on _ c.pieces.out.items c.add_bytes.new.out.items c.digits_of.result c.in-Some.block.now c.in-Some.tail.now c.pieces.rest.now 16 c.add_bytes.ensures.items c.digits_of.ensures h.0 h.1 i.items;
      len = grind (arith, common_steps);
      capacity = omega arith;
    }
