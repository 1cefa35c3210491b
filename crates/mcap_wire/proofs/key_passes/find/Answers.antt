use Rattle.std.proofs.Common.{◌<◌, List, ℕ, length, get_or, ap, sym, subst, ◌∙◌, arith}
use Rattle.std.specs.List.{AllWithin}
use Rattle.std.specs.Ordering.{nat_cmp}
use Rattle.std.specs.Cmp.Lexicographic.{slice_cmp}
use Rattle.std.proofs.lemmas.List.{get_or_default}
use Rattle.std.proofs.lemmas.Cmp.{nat_list_cmp_total}
use Rattle.std.proofs.lemmas.Map.Lookups.{exact_bytes}
use Rattle.std.specs.Ordering.{ordering_reverse}
use Rattle.mcap_wire.specs.Layout.{text_bytes}
use Rattle.mcap_wire.specs.KeyPasses.{IsBelow}
use Rattle.mcap_wire.proofs.KeyPassLemmas.{below_more, above_from}
use Rattle.mcap_wire.proofs.key_passes.find.Goals as goal
use Rattle.mcap_wire.proofs.key_passes.find.Goals.{in-Less, in-Greater}

pub returns-in-Equal : goal.returns-in-Equal
returns-in-Equal c =
    let places = c.args.places.now in
    let place = get_or places c.loop-low.probe 0 in
    let lt : c.loop-low.probe < length places = omega (arith, c.loop-low.invariant.3 c.loop-low-test.true, c.loop-low.invariant.1) in
    (c.loop-low.probe, place, lt, get_or_default places c.loop-low.probe place 0 lt, sym c.key_there.ensures ∙ exact_bytes c.key_there.result.now c.args.key.now (sym c.cmp.ensures ∙ c.in-Equal.is))

pub loop-low-preserved : goal.loop-low-preserved
loop-low-preserved c =
    let bytes = c.args.bytes.now in
    let places = c.args.places.now in
    let key = c.args.key.now in
    let probe = c.loop-low.probe in
    let inv = c.loop-low.invariant in
    let upto : probe < c.loop-low.high = inv.3 c.loop-low-test.true in
    let lt : probe < length places = omega (arith, upto, inv.1) in
    elim c.match-cmp.branch [
      | in-Less w ↦
          let below : IsBelow (text_bytes bytes (get_or places probe 0)) key = ap (λ (x : List ℕ). slice_cmp nat_cmp x key) (sym c.key_there.ensures) ∙ sym c.cmp.ensures ∙ w.in-Less.is in (
            omega (arith, w.low-is, w.high-is, upto),
            omega (arith, w.high-is, inv.1),
            omega arith,
            λ more. omega (arith, more),
            subst (λ (n : ℕ). AllWithin (λ p. IsBelow (text_bytes bytes p) key) places 0 n) (sym w.low-is) (below_more bytes places key probe 0 lt c.requires.order below),
            subst (λ (n : ℕ). AllWithin (λ p. IsBelow key (text_bytes bytes p)) places n (length places)) (sym w.high-is) inv.5,
          )
      | in-Greater w ↦
          let above : IsBelow key (text_bytes bytes (get_or places probe 0)) = nat_list_cmp_total.antisymm key (text_bytes bytes (get_or places probe 0))
          ∙ ap ordering_reverse (ap (λ (x : List ℕ). slice_cmp nat_cmp x key) (sym c.key_there.ensures) ∙ sym c.cmp.ensures ∙ w.in-Greater.is) in (
            omega (arith, w.low-is, w.high-is, inv.2),
            omega (arith, w.high-is, lt),
            omega arith,
            λ more. omega (arith, more),
            subst (λ (n : ℕ). AllWithin (λ p. IsBelow (text_bytes bytes p) key) places 0 n) (sym w.low-is) inv.4,
            subst (λ (n : ℕ). AllWithin (λ p. IsBelow key (text_bytes bytes p)) places n (length places)) (sym w.high-is) (above_from bytes places key probe 0 lt c.requires.order above),
          )
    ]
