use Rattle.std.proofs.Common.{◌≡◌, ℕ, ◌++◌, take, drop, ap, sym, ◌∙◌}
use Rattle.std.proofs.lemmas.List.{take-append-drop}
use Rattle.mcap_crc.specs.Register.{register_after}
use Rattle.mcap_crc.proofs.Register.{register_after-append}
use Rattle.mcap_crc.proofs.gathered.after_long.Goals as goal

pub loop-later-init : goal.loop-later-init
loop-later-init c =
    let bytes = c.args.bytes.now in
    let front : c.in-Some.front.now ≡ take 2400 bytes = c.in-Some.ensures.cases.0 in
    let tail : c.in-Some.tail.now ≡ drop 2400 bytes = c.in-Some.ensures.cases.1 in
    (c.args.start, c.begin-window.ensures, ap (register_after c.args.start) ((λ i. front i ++ tail i) ∙ take-append-drop 2400 bytes))

pub loop-later-preserved : goal.loop-later-preserved
loop-later-preserved c =
    let rest = c.loop-later.rest.now in
    let next = c.loop-later.next.now in
    let held = c.loop-later.invariant in
    let later : c.in-Some-split_first_chunk.later.now ≡ take 2400 rest = c.in-Some-split_first_chunk.ensures.cases.0 in
    let tail : c.in-Some-split_first_chunk.tail.now ≡ drop 2400 rest = c.in-Some-split_first_chunk.ensures.cases.1 in
    let before : ℕ = register_after held.0 next in (
      before,
      c.turn.ensures held.0 held.1,
      ap (register_after before) ((λ i. later i ++ tail i) ∙ take-append-drop 2400 rest)
          ∙ sym (register_after-append held.0 next rest)
          ∙ held.2,
    )

pub returns : goal.returns
returns c =
    let rest = c.loop-later.rest.now in
    let next = c.loop-later.next.now in
    let held = c.loop-later.invariant in
    c.after-2.ensures
    ∙ ap (λ r. register_after r rest) (c.end.ensures held.0 held.1)
    ∙ sym (register_after-append held.0 next rest)
    ∙ held.2
