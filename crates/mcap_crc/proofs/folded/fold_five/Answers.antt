use Rattle.std.proofs.Common.{ℕ, take, drop, refl, sym, ◌∙◌}
use Rattle.mcap_crc.specs.Register.{register_after}
use Rattle.mcap_crc.specs.Fold.{bytes_of}
use Rattle.mcap_crc.proofs.Register.{register_after-append}
use Rattle.mcap_crc.proofs.Folding.{fold_step, five_blocks}
use Rattle.mcap_crc.proofs.folded.fold_five.Goals as goal

pub returns : goal.returns
returns c =
    let xs = c.args.next.now in
    let had = bytes_of c.args.blocks in
    let one = bytes_of c.fold-blocks.result in
    let two = bytes_of c.fold-blocks-2.result in
    let three = bytes_of c.fold-blocks-3.result in
    let four = bytes_of c.fold-blocks-4.result in
    let five = bytes_of c.fold.result in
    let r : ℕ = register_after 0 had in
    let r1 : ℕ = register_after r (take 16 xs) in
    let r2 : ℕ = register_after r1 (take 16 (drop 16 xs)) in
    let r3 : ℕ = register_after r2 (take 16 (drop 32 xs)) in
    let r4 : ℕ = register_after r3 (take 16 (drop 48 xs)) in
    fold_step four (drop 64 xs) five r4 c.fold.ensures
    (fold_step three (drop 48 xs) four r3 c.fold-blocks-4.ensures
    (fold_step two (drop 32 xs) three r2 c.fold-blocks-3.ensures
    (fold_step one (drop 16 xs) two r1 c.fold-blocks-2.ensures
    (fold_step had xs one r c.fold-blocks.ensures refl))))
    ∙ five_blocks r xs c.told-next
    ∙ sym (register_after-append 0 had xs)
