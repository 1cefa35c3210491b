use Rattle.std.proofs.Common.{List, ◌+◌, drop, refl, subst, inl, inr, ◌∙◌, arith}
use Rattle.std.proofs.lemmas.Bool.{false≢true}
use Rattle.rec_index.specs.Parsed.{chunk_index_fields}
use Rattle.mcap_model.specs.Tops.{Top}
use Rattle.indexed_replay.specs.Reaching.{IsReached}
use Rattle.indexed_replay.specs.Costs.{IndexesCost}
use Rattle.indexed_replay.proofs.Gathered.{from_none, from_skip, from_more, from_over, one_index}
use Rattle.indexed_replay.proofs.Naming.{dropped, asked_among}
use Rattle.time_player.specs.Keeping.{kept_in}
use Rattle.indexed_replay.proofs.gathering.gather.Goals as goal

pub chunks-init : goal.chunks-init
chunks-init g c = record {
  stays = record { bytes = refl; known = refl };
  still = refl;
  shows = λ file told size knows apart. from_none file c.args.request.now c.args.loaded.now.chunk_indexes (kept_in c.args.shown.now);
  holds = c.requires.fits;
  asks = λ file chosen cost told chooses size are. (cost, are, omega arith);
}

pub chunks-preserved-then-not-meets : goal.chunks-preserved-then-not-meets
chunks-preserved-then-not-meets g c =
    let i = c.chunks.invariant in
    let (t, at, is) = c.chunk_index-index.ensures in
    record {
      stays = i.stays;
      still = i.still;
      holds = i.holds;
      shows = λ file told size knows apart. from_skip file c.args.request.now c.args.loaded.now.chunk_indexes c.chunks.i (c.chunks.i + 1) t (chunk_index_fields c.chunk_index-index.result) (kept_in c.args.shown.now) (kept_in c.chunks.shown) at (omega arith) is (λ m. false≢true (c.if-not-meets.ensures.1 m)) (i.shows file told size knows apart);
      asks = λ file chosen cost told chooses size are.
          let f = chunk_index_fields c.chunk_index-index.result in
          let range = c.args.request.now.range in
          let tops = c.args.loaded.now.chunk_indexes in
          let next = c.chunks.i + 1 in
          let (rest, left, few) = i.asks file chosen cost told chooses size are in
          let one = one_index file range chosen t f (drop next tops) rest is (subst (λ (l : List Top). IndexesCost file range chosen l rest) (dropped tops c.chunks.i next t at (omega arith)) left) in
          let missed = one.missed in
          let (more, are_more, enough) = missed (λ m. false≢true (c.if-not-meets.ensures.1 m)) in
          (more, are_more, omega (arith, few, enough));
    }

pub returns-in-Err-clause-told : goal.returns-in-Err-clause-told
returns-in-Err-clause-told g c = λ file told size knows apart.
    let i = c.chunks.invariant in
    let (t, at, is) = c.chunk_index-index.ensures in
    let f = chunk_index_fields c.chunk_index-index.result in
    let meets = c.if-not-meets.ensures.0 refl in
    elim (c.in-Err.ensures.told file (i.stays.bytes ∙ told) size knows) [
      | inl refused ↦ inl (λ are. refused (record { indexed = are c.chunks.i t f c.chunk_index_offset-at.result at is c.chunk_index_offset-at.ensures; meets = meets }))
      | inr fills ↦ inr (from_over file c.args.request.now c.args.loaded.now.chunk_indexes c.chunks.i t f (kept_in c.args.shown.now) (kept_in c.chunks.shown) c.in-Err.why at is meets apart (i.shows file told size knows apart) fills)
    ]

pub returns-in-Err-clause-asks : goal.returns-in-Err-clause-asks
returns-in-Err-clause-asks g c = λ file chosen cost told chooses size are knows indexed.
    let i = c.chunks.invariant in
    let (t, at, is) = c.chunk_index-index.ensures in
    let f = chunk_index_fields c.chunk_index-index.result in
    let range = c.args.request.now.range in
    let tops = c.args.loaded.now.chunk_indexes in
    let next = c.chunks.i + 1 in
    let (rest, left, few) = i.asks file chosen cost told chooses size are in
    let one = one_index file range chosen t f (drop next tops) rest is (subst (λ (l : List Top). IndexesCost file range chosen l rest) (dropped tops c.chunks.i next t at (omega arith)) left) in
    let reached : IsReached file range c.chunk_index_offset-at.result f = record { indexed = indexed c.chunks.i t f c.chunk_index_offset-at.result at is c.chunk_index_offset-at.ensures; meets = c.if-not-meets.ensures.0 refl } in
    let met = one.met in
    let cost_of = met (c.if-not-meets.ensures.0 refl) in
    asked_among file range (g.T.Store.state c.args.store.now).asked (g.T.Store.state c.chunks.store).asked (g.T.Store.state c.show_chunk.new.store).asked cost_of.cost cost rest few cost_of.within
    (c.in-Err.ensures.asks file chosen cost_of.cost cost_of.ends (i.stays.bytes ∙ told) chooses size cost_of.is knows reached)

pub chunks-preserved : goal.chunks-preserved
chunks-preserved g c =
    let i = c.chunks.invariant in
    let e = c.in-Ok.ensures in
    let (t, at, is) = c.chunk_index-index.ensures in
    let f = chunk_index_fields c.chunk_index-index.result in
    record {
      stays = record { bytes = e.stays.bytes ∙ i.stays.bytes; known = e.stays.known ∙ i.stays.known };
      still = e.cause ∙ i.still;
      holds = e.holds;
      shows = λ file told size knows apart. from_more file c.args.request.now c.args.loaded.now.chunk_indexes c.chunks.i (c.chunks.i + 1) t f (kept_in c.args.shown.now) (kept_in c.chunks.shown) (kept_in c.show_chunk.new.shown) at (omega arith) is (c.if-not-meets.ensures.0 refl) apart (i.shows file told size knows apart) (e.told file (i.stays.bytes ∙ told) size knows);
      asks = λ file chosen cost told chooses size are.
          let range = c.args.request.now.range in
          let tops = c.args.loaded.now.chunk_indexes in
          let next = c.chunks.i + 1 in
          let (rest, left, few) = i.asks file chosen cost told chooses size are in
          let one = one_index file range chosen t f (drop next tops) rest is (subst (λ (l : List Top). IndexesCost file range chosen l rest) (dropped tops c.chunks.i next t at (omega arith)) left) in
          let met = one.met in
          let cost_of = met (c.if-not-meets.ensures.0 refl) in
          let (few_here, goes_on) = e.asks file chosen cost_of.cost cost_of.ends (i.stays.bytes ∙ told) chooses size cost_of.is in
          let behind = cost_of.behind in
          let (more, are_more, enough) = behind goes_on in
          (more, are_more, omega (arith, few, enough, few_here));
    }
