use Rattle.std.proofs.Common.{rules, ◌/◌, List, length, sym, subst, arith}
use Rattle.mcap_wire.specs.ArrayReading.{ArrayAt}
use Rattle.mcap_wire.specs.ArrayBytes.{HoldsArray}
use Rattle.mcap_wire.proofs.Numbers.{AreBytes}
use Rattle.mcap_wire.proofs.ArrayLemmas.{Entry, whole_entries, array_read, bytes_fit, length_there, whole_there}
use Rattle.mcap_wire.proofs.arrays.take_entries.Goals as goal

pub returns-then-len-ne0 : goal.returns-then-len-ne0
returns-then-len-ne0 c =
    let size = length_there c.args.content.now c.args.at c.in-Ok.read.0.now c.in-Ok.read.1 c.in-Ok.ensures in
    (whole_there c.args.content.now c.args.at c.in-Ok.read.0.now c.in-Ok.read.1 c.in-Ok.ensures, λ none. absurd (omega (arith, size, none)))

pub of_bytes-requires : goal.of_bytes-requires
of_bytes-requires c =
    let fit : AreBytes c.args.content.now = λ i. search rules in
    whole_entries 8 (length c.in-Ok.read.0.now / 16) c.in-Ok.read.0.now (bytes_fit c.args.content.now c.args.at c.in-Ok.read.0.now c.in-Ok.read.1 fit c.in-Ok.ensures) (omega arith)

pub returns : goal.returns
returns c =
    let fit : AreBytes c.args.content.now = λ i. search rules in
    let held : HoldsArray 8 c.in-Ok.read.0.now (length c.in-Ok.read.0.now / 16) =
    whole_entries 8 (length c.in-Ok.read.0.now / 16) c.in-Ok.read.0.now (bytes_fit c.args.content.now c.args.at c.in-Ok.read.0.now c.in-Ok.read.1 fit c.in-Ok.ensures) (omega arith) in
    subst (λ (entries : List Entry). ArrayAt 8 c.args.content.now c.args.at entries c.in-Ok.read.1) (sym c.of_bytes.ensures)
    (array_read 8 c.args.content.now c.args.at c.in-Ok.read.0.now c.in-Ok.read.1 (length c.in-Ok.read.0.now / 16) c.in-Ok.ensures held)
