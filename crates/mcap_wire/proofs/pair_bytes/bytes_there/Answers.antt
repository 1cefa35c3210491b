use Rattle.std.proofs.Common.{◌≡◌, ◌+◌, ◌-◌, ℕ, take, drop, ap, ◌∙◌, arith}
use Rattle.mcap_wire.specs.Layout.{text_length}
use Rattle.mcap_wire.proofs.Fields.{number_there}
use Rattle.mcap_wire.proofs.pair_bytes.bytes_there.Goals as goal

pub slice_bounds-result-end : goal.slice_bounds-result-end
slice_bounds-result-end c =
    let len = number_there 4 c.args.bytes.now c.args.at c.in-Ok.len c.in-Ok.from c.in-Ok.ensures in
    omega (arith, len, c.in-Ok.ensures.size, c.requires.whole)

pub returns-clause-text : goal.returns-clause-text
returns-clause-text c =
    let bytes = c.args.bytes.now in
    let len = number_there 4 bytes c.args.at c.in-Ok.len c.in-Ok.from c.in-Ok.ensures in
    let width : c.in-Ok.from + c.in-Ok.len - c.in-Ok.from ≡ text_length bytes c.args.at = omega (arith, len) in
    ap (λ (n : ℕ). take n (drop c.in-Ok.from bytes)) width ∙ ap (λ (n : ℕ). take (text_length bytes c.args.at) (drop n bytes)) c.in-Ok.ensures.size

pub returns-clause-end : goal.returns-clause-end
returns-clause-end c =
    let len = number_there 4 c.args.bytes.now c.args.at c.in-Ok.len c.in-Ok.from c.in-Ok.ensures in
    omega (arith, len, c.in-Ok.ensures.size)
