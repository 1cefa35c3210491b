use Rattle.std.proofs.Common.{◌≡◌, ℕ, ◌+◌, ◌-◌, List, [], ◌∷◌, ◌++◌, take, drop, length, ap, subst, ◌∙◌, inl, inr, refl, arith}
use Rattle.std.proofs.lemmas.List.{length-drop, length-take-le}
use Rattle.rec_data.specs.Parsed.{message_fields}
use Rattle.rec_data.specs.Records.{ShowsMessage}
use Rattle.time_player.specs.Keeping.{kept_in, shown_with}
use Rattle.indexed_replay.specs.Steps.{IsLedByEntry, LacksRecord, place_in}
use Rattle.indexed_replay.proofs.Adding.{adds_found}
use Rattle.indexed_replay.proofs.Filling.{over_found}
use Rattle.indexed_replay.proofs.Messaging.{lacks_record, lacks_same, found, front_shown, on_channel}
use Rattle.indexed_replay.proofs.messages.add_message.Goals as goal

pub returns-in-Ok-Absent-clause-told : goal.returns-in-Ok-Absent-clause-told
returns-in-Ok-Absent-clause-told g c = λ file told size.
    let place : c.in-Some-checked_add.at ≡ c.args.spot.chunk + 49 + c.args.entry.1 = omega arith in
    let long : length c.read_front.new.out ≡ 31 = omega arith in
    let lacks = rw c.in-Ok-Absent.field-0-is at c.in-Ok-Absent.ensures.told file told size in
    lacks_record file c.in-Some-checked_add.at c.args.spot.chunk c.args.spot.channel c.args.entry place (subst (λ (n : ℕ). LacksRecord file c.in-Some-checked_add.at n) long lacks)

pub returns-then-message-spot-clause-told : goal.returns-then-message-spot-clause-told
returns-then-message-spot-clause-told g c = λ file told size.
    let place : c.in-Some-checked_add.at ≡ c.args.spot.chunk + 49 + c.args.entry.1 = omega arith in
    let long : length c.read_front.new.out ≡ 31 = omega arith in
    let front = rw c.in-Ok-Whole.field-0-is at c.in-Ok-Whole.ensures.told file told size in
    let m = message_fields c.in-Ok.message in
    let shows = front_shown c.read_front.new.out c.in-Ok.message.channel_id m long c.in-Ok.ensures.shown in
    lacks_same file c.read_front.new.out c.in-Some-checked_add.at c.in-Ok-Whole.head.op c.in-Ok-Whole.head.len c.args.spot.chunk c.args.spot.channel c.in-Ok.message.channel_id c.args.entry m place front long c.if-head-ne-MESSAGE.false shows
    (elim c.then-message-spot.either [ inl other ↦ inl other | inr both ↦ inr both.1 ])

pub returns-in-Ok-add_part_of-clause-told : goal.returns-in-Ok-add_part_of-clause-told
returns-in-Ok-add_part_of-clause-told g c = λ file told size.
    let place : c.in-Some-checked_add.at ≡ c.args.spot.chunk + 49 + c.args.entry.1 = omega arith in
    let long : length c.read_front.new.out ≡ 31 = omega arith in
    let front = rw c.in-Ok-Whole.field-0-is at c.in-Ok-Whole.ensures.told file told size in
    let m = message_fields c.in-Ok.message in
    let shows = front_shown c.read_front.new.out c.in-Ok.message.channel_id m long c.in-Ok.ensures.shown in
    let len = c.in-Ok-Whole.head.len in
    let payload = take (len - 22) (drop (c.in-Some-checked_add.at + 31) file) in
    let s = shown_with (place_in c.args.spot.chunk c.args.entry.1) c.in-Ok.message payload in
    let is = c.in-Ok-add_part_of.ensures.keeps in
    adds_found file c.args.spot.chunk c.args.spot.channel c.args.entry s (kept_in c.args.shown.now) (kept_in c.add_part_of.new.self)
    (found file c.read_front.new.out payload c.in-Some-checked_add.at c.in-Ok-Whole.head.op len c.args.spot.chunk c.args.spot.channel c.args.entry m s place front long c.if-head-ne-MESSAGE.false
    (subst (λ (n : ℕ). ShowsMessage (drop 9 c.read_front.new.out) n m) c.if-message-spot.false shows) c.if-message-time.false refl (on_channel s c.args.spot.channel c.if-message-spot.false))
    (is.is_kept ∙ ap (λ (bytes : List ℕ). kept_in c.args.shown.now ++ shown_with (place_in c.args.spot.chunk c.args.entry.1) c.in-Ok.message bytes ∷ []) (is.told_is file (c.in-Ok-Whole.ensures.takes.bytes ∙ told)))

pub returns-then-size-len-clause-told : goal.returns-then-size-len-clause-told
returns-then-size-len-clause-told g c = λ file told size.
    let place : c.in-Some-checked_add.at ≡ c.args.spot.chunk + 49 + c.args.entry.1 = omega arith in
    let long : length c.read_front.new.out ≡ 31 = omega arith in
    let front = rw c.in-Ok-Whole.field-0-is at c.in-Ok-Whole.ensures.told file told size in
    let m = message_fields c.in-Ok.message in
    let shows = front_shown c.read_front.new.out c.in-Ok.message.channel_id m long c.in-Ok.ensures.shown in
    let len = c.in-Ok-Whole.head.len in
    let behind = drop (c.in-Some-checked_add.at + 31) file in
    let payload = take (len - 22) behind in
    let s = shown_with (place_in c.args.spot.chunk c.args.entry.1) c.in-Ok.message payload in
    let fits = c.requires.fits in
    let many : length payload ≡ len - 22 = length-take-le (len - 22) behind (omega (arith, length-drop (c.in-Some-checked_add.at + 31) file, front.whole, front.long, long)) in
    inr (
      refl,
      over_found (IsLedByEntry file c.args.spot.chunk c.args.spot.channel c.args.entry) file s (kept_in c.args.shown.now)
          (found file c.read_front.new.out payload c.in-Some-checked_add.at c.in-Ok-Whole.head.op len c.args.spot.chunk c.args.spot.channel c.args.entry m s place front long c.if-head-ne-MESSAGE.false
          (subst (λ (n : ℕ). ShowsMessage (drop 9 c.read_front.new.out) n m) c.if-message-spot.false shows) c.if-message-time.false refl (on_channel s c.args.spot.channel c.if-message-spot.false))
          (omega (arith, many, fits.exact, fits.within, size, c.data_len.ensures)),
    )
