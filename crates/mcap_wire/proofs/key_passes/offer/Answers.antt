use Rattle.std.proofs.Common.{◌≡◌, length, refl, sym, subst, ◌∙◌, arith, rules}
use Rattle.mcap_wire.specs.KeyPasses.{kept_places, BelongsAt, window_room}
use Rattle.mcap_wire.proofs.KeyPassLemmas.{sifts_below, held_is_seen, sifts_beyond, window_more, sifts_more, kept_size}
use Rattle.mcap_wire.proofs.key_passes.offer.Goals as goal

pub returns-then-not-above-clause-sifts : goal.returns-then-not-above-clause-sifts
returns-then-not-above-clause-sifts c =
    λ yes seen value sifts. sifts_below c.args.bytes.now c.args.bound seen c.args.window.now c.args.key.now value (sym c.above.ensures ∙ c.if-not-above.true) sifts

pub returns-then-i-lt-ROOM-clause-window : goal.returns-then-i-lt-ROOM-clause-window
returns-then-i-lt-ROOM-clause-window c =
    λ yes. window_more c.args.bytes.now c.args.window.now _ c.args.key.now c.in-Some.i c.args.at c.requires.key c.requires.text c.requires.window c.in-Some.ensures
    (record {
      places = c.requires.window.places;
      places_then = c.put-window.ensures.places;
      index = c.if-i-lt-ROOM.true;
      size = c.put-window.ensures.size;
      kept_is = c.put-window.ensures.after;
      full = λ passed. search rules;
      passed = λ full. search rules;
    })

pub returns-then-i-lt-ROOM-clause-sifts : goal.returns-then-i-lt-ROOM-clause-sifts
returns-then-i-lt-ROOM-clause-sifts c =
    λ yes seen value sifts. sifts_more c.args.bytes.now c.args.bound seen c.args.window.now _ c.args.key.now value c.in-Some.i c.args.at c.requires.key (sym c.above.ensures ∙ c.if-not-above.false) c.requires.window c.in-Some.ensures
    (record {
      places = c.requires.window.places;
      places_then = c.put-window.ensures.places;
      index = c.if-i-lt-ROOM.true;
      size = c.put-window.ensures.size;
      kept_is = c.put-window.ensures.after;
      full = λ passed. search rules;
      passed = λ full. search rules;
    }) sifts

pub returns-else-i-lt-ROOM-clause-sifts : goal.returns-else-i-lt-ROOM-clause-sifts
returns-else-i-lt-ROOM-clause-sifts c =
    λ yes seen value sifts. (
    let all = kept_size c.args.window.now c.requires.window.fits c.requires.window.places in
    let full : c.args.window.now.len ≡ window_room = omega (arith, all, c.in-Some.ensures.within, c.if-i-lt-ROOM.false, c.requires.window.fits) in
    let here : c.in-Some.i ≡ length (kept_places c.args.window.now) = omega (arith, all, c.in-Some.ensures.within, c.if-i-lt-ROOM.false, c.requires.window.fits) in
    sifts_beyond c.args.bytes.now c.args.bound seen c.args.window.now _ c.args.key.now value refl (search rules) (subst (BelongsAt c.args.bytes.now (kept_places c.args.window.now) c.args.key.now) here c.in-Some.ensures) sifts)

pub returns-in-None-clause-double : goal.returns-in-None-clause-double
returns-in-None-clause-double c = λ no seen sifts. held_is_seen c.args.bytes.now c.args.bound seen c.args.window.now c.args.key.now sifts c.in-None.ensures
