use Rattle.std.proofs.Common.{◌≡◌, ◌+◌, ◌++◌, ◌∷◌, ◌<◌, [], List, ℕ, length, take, ap, sym, subst, ◌∙◌, arith}
use Rattle.std.proofs.lemmas.List.{take_more, take_all, get_or-take}
use Rattle.mcap_wire.specs.MapReading.{HasKey}
use Rattle.mcap_wire.specs.PairBytes.{pairs_in}
use Rattle.mcap_wire.specs.KeyPasses.{TextThere, Sifts, window_room, kept_places}
use Rattle.mcap_wire.proofs.TextMaps.{Pair}
use Rattle.mcap_wire.proofs.PairWalks.{length-pairs_in, nth, key_here, value_here, walked_on}
use Rattle.mcap_wire.proofs.KeyPassLemmas.{last_pass, pass_up, kept_size}
use Rattle.mcap_wire.proofs.key_passes.go_over.Goals as goal

pub bytes_there-middle-requires-clause-head : goal.bytes_there-middle-requires-clause-head
bytes_there-middle-requires-clause-head c =
    let lt : c.loop-i.i < length (pairs_in c.args.count c.args.bytes.now) = omega (arith, length-pairs_in c.args.count c.args.bytes.now) in
    (key_here c.args.bytes.now (pairs_in c.args.count c.args.bytes.now) c.loop-i.i c.loop-i.at c.requires.pairs.texts lt c.loop-i.invariant.0).head

pub bytes_there-middle-requires-clause-whole : goal.bytes_there-middle-requires-clause-whole
bytes_there-middle-requires-clause-whole c =
    let lt : c.loop-i.i < length (pairs_in c.args.count c.args.bytes.now) = omega (arith, length-pairs_in c.args.count c.args.bytes.now) in
    (key_here c.args.bytes.now (pairs_in c.args.count c.args.bytes.now) c.loop-i.i c.loop-i.at c.requires.pairs.texts lt c.loop-i.invariant.0).whole

pub offer-requires-clause-text : goal.offer-requires-clause-text
offer-requires-clause-text c =
    let lt : c.loop-i.i < length (pairs_in c.args.count c.args.bytes.now) = omega (arith, length-pairs_in c.args.count c.args.bytes.now) in
    let here = key_here c.args.bytes.now (pairs_in c.args.count c.args.bytes.now) c.loop-i.i c.loop-i.at c.requires.pairs.texts lt c.loop-i.invariant.0 in
    record { head = here.head; whole = here.whole }

pub returns-then-not-offer : goal.returns-then-not-offer
returns-then-not-offer c =
    let pairs = pairs_in c.args.count c.args.bytes.now in
    let lt : c.loop-i.i < length pairs = omega (arith, length-pairs_in c.args.count c.args.bytes.now) in
    let here = key_here c.args.bytes.now pairs c.loop-i.i c.loop-i.at c.requires.pairs.texts lt c.loop-i.invariant.0 in
    (c.loop-i.i, lt, subst (HasKey (take c.loop-i.i pairs)) (c.bytes_there-middle.ensures.text ∙ here.text_is) (c.offer.ensures.double c.if-not-offer.true (take c.loop-i.i pairs) c.loop-i.invariant.2))

pub bytes_there-end-requires-clause-head : goal.bytes_there-end-requires-clause-head
bytes_there-end-requires-clause-head c =
    let lt : c.loop-i.i < length (pairs_in c.args.count c.args.bytes.now) = omega (arith, length-pairs_in c.args.count c.args.bytes.now) in
    (value_here c.args.bytes.now (pairs_in c.args.count c.args.bytes.now) c.loop-i.i c.loop-i.at c.bytes_there-middle.result.1 c.requires.pairs.texts lt c.loop-i.invariant.0 c.bytes_there-middle.ensures.end).head

pub bytes_there-end-requires-clause-whole : goal.bytes_there-end-requires-clause-whole
bytes_there-end-requires-clause-whole c =
    let lt : c.loop-i.i < length (pairs_in c.args.count c.args.bytes.now) = omega (arith, length-pairs_in c.args.count c.args.bytes.now) in
    (value_here c.args.bytes.now (pairs_in c.args.count c.args.bytes.now) c.loop-i.i c.loop-i.at c.bytes_there-middle.result.1 c.requires.pairs.texts lt c.loop-i.invariant.0 c.bytes_there-middle.ensures.end).whole

pub loop-i-preserved : goal.loop-i-preserved
loop-i-preserved c =
    let bytes = c.args.bytes.now in
    let pairs = pairs_in c.args.count bytes in
    let i = c.loop-i.i in
    let key = c.bytes_there-middle.result.0.now in
    let lt : i < length pairs = omega (arith, length-pairs_in c.args.count bytes) in
    let here = key_here bytes pairs i c.loop-i.at c.requires.pairs.texts lt c.loop-i.invariant.0 in
    let item : (key, (nth pairs i).1) ≡ nth pairs i = ap (λ (k : List ℕ). (k, (nth pairs i).1)) (c.bytes_there-middle.ensures.text ∙ here.text_is) in
    let seen : take i pairs ++ (key, (nth pairs i).1) ∷ [] ≡ take (i + 1) pairs = ap (λ (p : Pair). take i pairs ++ p ∷ []) item ∙ sym (take_more pairs i ([], []) lt) in (
      walked_on bytes pairs i c.loop-i.at c.bytes_there-middle.result.1 c.bytes_there-end.result.1 c.requires.pairs.texts lt c.loop-i.invariant.0 c.bytes_there-middle.ensures.end c.bytes_there-end.ensures.end,
      c.offer.ensures.window c.if-not-offer.false,
      subst (λ (l : List Pair). Sifts bytes c.args.bound l c.offer.new.window) seen (c.offer.ensures.sifts c.if-not-offer.false (take i pairs) (nth pairs i).1 c.loop-i.invariant.2),
    )

pub key_there-requires : goal.key_there-requires
key_there-requires c =
    let w = c.loop-i.window in
    let full : w.len ≡ window_room = c.loop-i.invariant.1.full c.if-window.true in
    let lt : 4095 < length (kept_places w) = omega (arith, full, kept_size w c.loop-i.invariant.1.fits c.loop-i.invariant.1.places) in
    subst (TextThere c.args.bytes.now) (get_or-take w.len w.places 4095 0 (omega (arith, full))) (c.loop-i.invariant.1.texts 4095 0 lt)

pub returns-then-window : goal.returns-then-window
returns-then-window c =
    let pairs = pairs_in c.args.count c.args.bytes.now in
    let w = c.loop-i.window in
    let all : take c.loop-i.i pairs ≡ pairs = take_all c.loop-i.i pairs (omega (arith, length-pairs_in c.args.count c.args.bytes.now)) in
    pass_up c.args.bytes.now c.args.bound pairs w c.key_there.result c.if-window.true c.key_there.ensures c.loop-i.invariant.1
    (subst (λ (l : List Pair). Sifts c.args.bytes.now c.args.bound l w) all c.loop-i.invariant.2)

pub returns : goal.returns
returns c =
    let pairs = pairs_in c.args.count c.args.bytes.now in
    let w = c.loop-i.window in
    let all : take c.loop-i.i pairs ≡ pairs = take_all c.loop-i.i pairs (omega (arith, length-pairs_in c.args.count c.args.bytes.now)) in
    last_pass c.args.bytes.now c.args.bound pairs w c.if-window.false (subst (λ (l : List Pair). Sifts c.args.bytes.now c.args.bound l w) all c.loop-i.invariant.2)
