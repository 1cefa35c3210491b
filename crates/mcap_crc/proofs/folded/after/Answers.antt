use Rattle.std.proofs.Common.{◌≡◌, ◌++◌, take, drop, ap, sym, ◌∙◌}
use Rattle.mcap_crc.specs.Register.{register_after}
use Rattle.mcap_crc.specs.Fold.{bytes_of}
use Rattle.mcap_crc.proofs.Register.{register_after-append, register_after-cut}
use Rattle.mcap_crc.proofs.folded.after.Goals as goal

pub loop-next-init : goal.loop-next-init
loop-next-init c =
    let blocks = bytes_of c.begin-five.result in
    let bytes = c.args.bytes.now in
    let front : c.in-Some.front.now ≡ take 80 bytes = c.in-Some.ensures.cases.0 in
    let tail : c.in-Some.tail.now ≡ drop 80 bytes = c.in-Some.ensures.cases.1 in
    register_after-append 0 blocks c.in-Some.tail.now
    ∙ ap (λ r. register_after r c.in-Some.tail.now) (c.begin-five.ensures ∙ ap (register_after c.args.start) front)
    ∙ ap (register_after (register_after c.args.start (take 80 bytes))) tail
    ∙ register_after-cut c.args.start 80 bytes

pub loop-next-preserved : goal.loop-next-preserved
loop-next-preserved c =
    let had = bytes_of c.loop-next.five in
    let rest = c.loop-next.rest.now in
    let block = c.in-Some-split_first_chunk.next.now in
    let more = c.in-Some-split_first_chunk.tail.now in
    let next : block ≡ take 80 rest = c.in-Some-split_first_chunk.ensures.cases.0 in
    let tail : more ≡ drop 80 rest = c.in-Some-split_first_chunk.ensures.cases.1 in
    let folded : register_after 0 (bytes_of c.fold_five-five.result) ≡ register_after 0 (had ++ block) = c.fold_five-five.ensures in
    register_after-append 0 (bytes_of c.fold_five-five.result) more
    ∙ ap (λ r. register_after r more) (folded ∙ register_after-append 0 had block ∙ ap (register_after (register_after 0 had)) next)
    ∙ ap (register_after (register_after (register_after 0 had) (take 80 rest))) tail
    ∙ register_after-cut (register_after 0 had) 80 rest
    ∙ sym (register_after-append 0 had rest)
    ∙ c.loop-next.invariant

pub returns : goal.returns
returns c =
    let had = bytes_of c.loop-next.five in
    let rest = c.loop-next.rest.now in
    c.after-2.ensures
    ∙ ap (λ r. register_after r rest) c.end.ensures
    ∙ sym (register_after-append 0 had rest)
    ∙ c.loop-next.invariant
