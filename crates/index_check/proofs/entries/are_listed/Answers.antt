use Rattle.std.proofs.Common.{◌≡◌, map, length, refl, arith}
use Rattle.std.proofs.lemmas.List.{length-map}
use Rattle.index_check.specs.Messages.{entry_of}
use Rattle.index_check.proofs.Apart.{each_same}
use Rattle.index_check.proofs.entries.are_listed.Goals as goal

pub returns : goal.returns
returns c =
    let size : length (map entry_of c.args.messages.now) ≡ length c.args.messages.now = length-map c.args.messages.now entry_of in
    (λ e. each_same (map entry_of c.args.messages.now) c.args.entries.now (omega (arith, size)) (λ k within. c.entries.invariant k (omega (arith, within, size))), λ e. refl)
