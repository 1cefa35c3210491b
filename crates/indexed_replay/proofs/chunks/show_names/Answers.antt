use Rattle.std.proofs.Common.{ℕ, List, ◌+◌, drop, refl, subst, inl, inr, ◌∙◌, arith}
use Rattle.std.proofs.lemmas.List.{take_all, length-drop}
use Rattle.indexed_replay.specs.Steps.{AddsEachOnce}
use Rattle.indexed_replay.specs.Chunks.{IsLedAmong}
use Rattle.indexed_replay.specs.Costs.{spot_of, NamesCost}
use Rattle.indexed_replay.proofs.Standing.{astray_shown, astray_asked}
use Rattle.mcap_model.proofs.Places.{at_none}
use Rattle.indexed_replay.proofs.Naming.{named_none, named_more, names_apart, names_over, own_channel, found_more, dropped, one_name, no_name_ends}
use Rattle.indexed_replay.specs.Reaching.{index_elsewhere, nothing}
use Rattle.indexed_replay.proofs.chunks.show_names.Goals.{then-list-end-via-then-list-end, then-list-end-via-else-list-end+then-list-end-2}
use Rattle.time_player.specs.Keeping.{kept_in}
use Rattle.indexed_replay.proofs.chunks.show_names.Goals as goal

pub names-init : goal.names-init
names-init g c = record {
  stays = record { bytes = refl; known = refl };
  still = refl;
  shows = λ file told size knows. named_none file c.args.request.now c.args.index.now.chunk_start_offset c.args.index.now.message_index_offsets (kept_in c.args.shown.now);
  found = λ file told size named has lacks. at_none {X = ℕ × ℕ} has.0 named has.1;
  holds = c.requires.fits;
  asks = λ file chosen cost ends told chooses size are. (cost, are, omega arith);
}

pub returns-then-list-end-clause-told : goal.returns-then-list-end-clause-told
returns-then-list-end-clause-told g c = λ file told size knows ends. inl (λ reached.
    let f = Rattle.rec_index.specs.Parsed.chunk_index_fields c.args.index.now in
    index_elsewhere c.args.at f c.item-channel.result.0 c.item-channel.result.1 (record { reached = reached; named = (c.names.i, c.item-channel.ensures) }) (record {
      end = c.args.end;
      ends = ends;
      outside = elim c.then-list-end.branch [
        | then-list-end-via-then-list-end w ↦ inl w.if-list-end.true
        | then-list-end-via-else-list-end+then-list-end-2 w ↦ inr (omega (arith, w.if-list-end.false, w.if-list-end-2.true))
      ];
    }))

pub returns-then-list-end-clause-asks : goal.returns-then-list-end-clause-asks
returns-then-list-end-clause-asks g c = λ file chosen cost ends told chooses size stands are knows reached.
    let i = c.names.invariant in
    let (rest, left, few) = i.asks file chosen cost ends told chooses size are in
    (0, nothing, omega (arith, few))

pub returns-in-Err-clause-told : goal.returns-in-Err-clause-told
returns-in-Err-clause-told g c = λ file told size knows ends.
    let i = c.names.invariant in
    let f = Rattle.rec_index.specs.Parsed.chunk_index_fields c.args.index.now in
    elim (c.in-Err.ensures.told file (i.stays.bytes ∙ told) size knows) [
      | inl refused ↦ inl (λ reached. refused f refl (record { reached = reached; named = (c.names.i, c.item-channel.ensures) }))
      | inr fills ↦ inr (names_over file c.args.request.now f c.names.i c.item-channel.result (kept_in c.args.shown.now) (kept_in c.names.shown) c.in-Err.why c.count-i-end.ensures.keys c.item-channel.ensures (i.found file told size) (i.shows file told size knows) fills)
    ]

pub returns-in-Err-clause-asks : goal.returns-in-Err-clause-asks
returns-in-Err-clause-asks g c = λ file chosen cost ends told chooses size stands are knows reached.
    let i = c.names.invariant in
    let range = c.args.request.now.range in
    let chunk = c.args.index.now.chunk_start_offset in
    let names = c.args.index.now.message_index_offsets in
    let next = c.names.i + 1 in
    let (rest, left, few) = i.asks file chosen cost ends told chooses size are in
    let one = one_name file range chosen chunk c.item-channel.result (drop next names) rest ends (subst (λ (l : List (ℕ × ℕ)). NamesCost file range chosen chunk l rest ends) (dropped {X = ℕ × ℕ} names c.names.i next c.item-channel.result c.item-channel.ensures (omega arith)) left) in
    (0, nothing, omega (arith, few, one.within, c.in-Err.ensures.asks file chosen one.cost (i.stays.bytes ∙ told) chooses size one.is))

pub returns-in-Ok-false-clause-told : goal.returns-in-Ok-false-clause-told
returns-in-Ok-false-clause-told g c = λ file told size knows ends.
    let i = c.names.invariant in
    let e = c.in-Ok-false.ensures in
    let f = Rattle.rec_index.specs.Parsed.chunk_index_fields c.args.index.now in
    let astray = rw c.in-Ok-false.field-0-test at c.in-Ok-false.ensures.told file (i.stays.bytes ∙ told) size knows in
    astray_shown file c.args.request.now c.args.at f c.item-channel.result.0 c.item-channel.result.1 c.args.end ((kept_in c.args.shown.now), (kept_in c.show_list.new.shown)) c.refuse_astray-why.result
    (λ reached. astray f refl (record { reached = reached; named = (c.names.i, c.item-channel.ensures) })) ends (c.refuse_astray-why.ensures.told file (e.stays.bytes ∙ (i.stays.bytes ∙ told)) size)

pub returns-in-Ok-false-clause-asks : goal.returns-in-Ok-false-clause-asks
returns-in-Ok-false-clause-asks g c = λ file chosen cost ends told chooses size stands are.
    let i = c.names.invariant in
    let range = c.args.request.now.range in
    let chunk = c.args.index.now.chunk_start_offset in
    let names = c.args.index.now.message_index_offsets in
    let next = c.names.i + 1 in
    let (rest, left, few) = i.asks file chosen cost ends told chooses size are in
    let one = one_name file range chosen chunk c.item-channel.result (drop next names) rest ends (subst (λ (l : List (ℕ × ℕ)). NamesCost file range chosen chunk l rest ends) (dropped {X = ℕ × ℕ} names c.names.i next c.item-channel.result c.item-channel.ensures (omega arith)) left) in
    let e = c.in-Ok-false.ensures in
    let f = Rattle.rec_index.specs.Parsed.chunk_index_fields c.args.index.now in
    let told_2 = e.stays.bytes ∙ (i.stays.bytes ∙ told) in
    astray_asked file c.args.request.now c.args.at f c.item-channel.result.0 c.item-channel.result.1 c.args.end cost ends (g.T.Store.state c.args.store.now).asked (g.T.Store.state c.show_list.new.store).asked (g.T.Store.state c.refuse_astray-why.new.store).asked c.refuse_astray-why.result
    (λ knows reached. let astray = rw c.in-Ok-false.field-0-test at c.in-Ok-false.ensures.told file (i.stays.bytes ∙ told) size knows in astray f refl (record { reached = reached; named = (c.names.i, c.item-channel.ensures) }))
    stands (omega (arith, few, one.within, e.asks file chosen one.cost (i.stays.bytes ∙ told) chooses size one.is)) (c.refuse_astray-why.ensures.asks file told_2 size)

pub names-preserved : goal.names-preserved
names-preserved g c =
    let i = c.names.invariant in
    let e = c.in-Ok-true.ensures in
    record {
      stays = record { bytes = e.stays.bytes ∙ i.stays.bytes; known = e.stays.known ∙ i.stays.known };
      still = e.cause ∙ i.still;
      found = λ file told size. found_more file c.args.index.now.message_index_offsets c.names.i (c.names.i + 1) c.item-channel.result c.item-channel.ensures (omega arith) (i.found file told size) (e.found file (i.stays.bytes ∙ told) size);
      holds = e.holds;
      shows = λ file told size knows. named_more file c.args.request.now c.args.index.now.chunk_start_offset c.args.index.now.message_index_offsets c.names.i (c.names.i + 1) c.item-channel.result (kept_in c.args.shown.now) (kept_in c.names.shown) (kept_in c.show_list.new.shown) c.item-channel.ensures (omega arith)
          (λ s among by. names_apart file c.args.request.now c.args.index.now.chunk_start_offset c.args.index.now.message_index_offsets c.names.i c.item-channel.result c.count-i-end.ensures.keys c.item-channel.ensures (i.found file told size) s among (own_channel file c.args.request.now (spot_of c.args.index.now.chunk_start_offset c.item-channel.result) s (e.found file (i.stays.bytes ∙ told) size) by))
          (i.shows file told size knows) (rw c.in-Ok-true.field-0-test at c.in-Ok-true.ensures.told file (i.stays.bytes ∙ told) size knows);
      asks = λ file chosen cost ends told chooses size are.
          let range = c.args.request.now.range in
          let chunk = c.args.index.now.chunk_start_offset in
          let names = c.args.index.now.message_index_offsets in
          let next = c.names.i + 1 in
          let (rest, left, few) = i.asks file chosen cost ends told chooses size are in
          let one = one_name file range chosen chunk c.item-channel.result (drop next names) rest ends (subst (λ (l : List (ℕ × ℕ)). NamesCost file range chosen chunk l rest ends) (dropped {X = ℕ × ℕ} names c.names.i next c.item-channel.result c.item-channel.ensures (omega arith)) left) in
          let behind = one.behind in
          let (more, are_more, enough) = behind (e.found file (i.stays.bytes ∙ told) size) in
          (more, are_more, omega (arith, few, enough, e.asks file chosen one.cost (i.stays.bytes ∙ told) chooses size one.is));
    }

pub returns-clause-told : goal.returns-clause-told
returns-clause-told g c = λ file told size knows ends.
    let i = c.names.invariant in
    let whole = take_all c.names.i c.args.index.now.message_index_offsets (omega arith) in
    subst (λ (l : List (ℕ × ℕ)). AddsEachOnce (IsLedAmong file c.args.request.now c.args.index.now.chunk_start_offset l) (kept_in c.args.shown.now) (kept_in c.names.shown)) whole (i.shows file told size knows)

pub returns-clause-asks : goal.returns-clause-asks
returns-clause-asks g c = λ file chosen cost ends told chooses size stands are.
    let i = c.names.invariant in
    let names = c.args.index.now.message_index_offsets in
    let (rest, left, few) = i.asks file chosen cost ends told chooses size are in
    (omega (arith, few), no_name_ends file c.args.request.now.range chosen c.args.index.now.chunk_start_offset (drop c.names.i names) rest ends (omega (arith, length-drop c.names.i names)) left)
