-- What pieces that were written one behind the other come to.
use Rattle.std.proofs.Common.{◌≡◌, ℕ, ◌+◌, ◌-◌, ◌<◌, ◌≤◌, List, ◌++◌, length, take, drop, Option, Some, ap, sym, subst, ◌∙◌, arith, take-add}
use Rattle.std.proofs.lemmas.List.{take-take, length-take-le, length-append}
use Rattle.std.proofs.Common.{length-take, length-drop}
use Rattle.std.specs.Prelude.{Err}
use Rattle.mcap_io.specs.declared.outside.Short.{Short}
use Rattle.mcap_io.specs.Outside.{Adds, AddsPart}
use Rattle.mcap_io.proofs.Calls.{adds-adds, adds-part}
use Rattle.time_player.specs.Printing.{CountsAllBut}

-- the first pieces and the next one
joined : (bytes : List ℕ) (taken end : ℕ) → taken ≤ end → take taken bytes ++ take (end - taken) (drop taken bytes) ≡ take end bytes
joined bytes taken end behind =
    let split : taken + (end - taken) ≡ end = omega (arith, behind) in
    sym (take-add taken (end - taken) bytes) ∙ ap (λ (n : ℕ). take n bytes) split

-- one piece more
pub piece_more : (old mid now : Option (List ℕ)) (bytes : List ℕ) (taken end : ℕ) → taken ≤ end → Adds old mid (take taken bytes) → Adds mid now (take (end - taken) (drop taken bytes)) → Adds old now (take end bytes)
piece_more old mid now bytes taken end behind so_far more =
    subst (λ (l : List ℕ). Adds old now l) (joined bytes taken end behind) (adds-adds old mid now (take taken bytes) (take (end - taken) (drop taken bytes)) so_far more)

-- a piece of which a first part was written
abbrev PartTo : Option (List ℕ) → Option (List ℕ) → ℕ → ℕ → List ℕ → Type 0
PartTo old now least end bytes = (before : List ℕ) → old ≡ Some before → (n : ℕ) × (least ≤ n) × (n ≤ end) × (now ≡ Some (before ++ take n bytes))

part_to : (old mid now : Option (List ℕ)) (bytes : List ℕ) (taken end some : ℕ) → taken ≤ end → end ≤ length bytes → Adds old mid (take taken bytes) → AddsPart mid now some (take (end - taken) (drop taken bytes)) → PartTo old now (taken + some) end bytes
part_to old mid now bytes taken end some behind within so_far part before told =
    let p = adds-part old mid now (take taken bytes) (take (end - taken) (drop taken bytes)) some so_far part before told in
    let same = joined bytes taken end behind in
    let front = length-take-le taken bytes (omega (arith, behind, within)) in
    let size = ap length same ∙ length-take-le end bytes within in
    let inside : p.0 ≤ end = omega (arith, p.2, size) in (
      p.0,
      omega (arith, p.1, front),
      inside,
      p.3 ∙ ap (λ (l : List ℕ). Some (before ++ take p.0 l)) same ∙ ap (λ (l : List ℕ). Some (before ++ l)) (take-take p.0 end bytes inside),
    )

pub piece_part : (old mid now : Option (List ℕ)) (bytes : List ℕ) (taken end some : ℕ) → taken ≤ end → end ≤ length bytes → Adds old mid (take taken bytes) → AddsPart mid now some (take (end - taken) (drop taken bytes)) → AddsPart old now (taken + some) bytes
piece_part old mid now bytes taken end some behind within so_far part before told =
    let p = part_to old mid now bytes taken end some behind within so_far part before told in
    (p.0, p.1, omega (arith, p.2, within), p.3)

-- fewer are counted than there are
pub piece_short : (bytes : List ℕ) (taken end some : ℕ) → end ≤ length bytes → some < length (take (end - taken) (drop taken bytes)) → taken + some < length bytes
piece_short bytes taken end some within few = omega (arith, within, few, length-take (end - taken) (drop taken bytes), length-drop taken bytes)

-- what isn't counted lies in that piece
pub piece_counted : (old mid now : Option (List ℕ)) (bytes : List ℕ) (taken end some most : ℕ) → taken ≤ end → end ≤ length bytes → end ≤ taken + most → Adds old mid (take taken bytes) → AddsPart mid now some (take (end - taken) (drop taken bytes))
    → CountsAllBut most old now (Err (record { taken = taken + some }))
piece_counted old mid now bytes taken end some most behind within short so_far part before told =
    let p = part_to old mid now bytes taken end some behind within so_far part before told in
    let size = length-take-le p.0 bytes (omega (arith, p.2, within)) in
    (before ++ take p.0 bytes, p.3, λ small. omega (arith, short, p.2, size, length-append before (take p.0 bytes)))
