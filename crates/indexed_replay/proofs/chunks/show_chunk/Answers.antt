use Rattle.std.proofs.Common.{inl, ◌∙◌, arith}
use Rattle.rec_index.specs.Parsed.{chunk_index_fields}
use Rattle.indexed_replay.specs.Reaching.{nothing}
use Rattle.indexed_replay.proofs.Naming.{named_empty, chunk_reason, empty_goes_on, front_enough, names_enough}
use Rattle.time_player.specs.Keeping.{kept_in}
use Rattle.indexed_replay.proofs.chunks.show_chunk.Goals as goal

pub returns-then-index-eq0-2-clause-told : goal.returns-then-index-eq0-2-clause-told
returns-then-index-eq0-2-clause-told g c = λ file told size knows. named_empty file c.args.request.now c.args.index.now.chunk_start_offset c.args.index.now.message_index_offsets (kept_in c.args.shown.now) (omega (arith, c.count.ensures.count, c.if-count-eq0.true))

pub returns-in-Err-clause-told : goal.returns-in-Err-clause-told
returns-in-Err-clause-told g c = λ file told size knows. inl (λ reached. chunk_reason file c.args.request.now c.args.at (chunk_index_fields c.args.index.now) c.in-Err.why (c.in-Err.ensures.told file told size) reached)

pub returns-in-Err-clause-asks : goal.returns-in-Err-clause-asks
returns-in-Err-clause-asks g c = λ file chosen cost ends told chooses size is knows reached.
    (0, nothing, omega (arith, front_enough file c.args.request.now.range chosen (chunk_index_fields c.args.index.now) cost ends (g.T.Store.state c.args.store.now).asked (g.T.Store.state c.check_chunk.new.store).asked (λ none. omega (arith, none, c.count.ensures.count, c.if-count-eq0.false)) is (c.in-Err.ensures.asks file told size)))

pub returns-clause-asks : goal.returns-clause-asks
returns-clause-asks g c = λ file chosen cost ends told chooses size is.
    names_enough file c.args.request.now chosen c.args.at (chunk_index_fields c.args.index.now) c.in-Ok.end cost ends (g.T.Store.state c.args.store.now).asked (g.T.Store.state c.check_chunk.new.store).asked (g.T.Store.state c.show_names.new.store).asked c.show_names.result
    (λ none. omega (arith, none, c.count.ensures.count, c.if-count-eq0.false)) (c.in-Ok.ensures.told file told size) (c.in-Ok.ensures.asks file told size)
    (λ names last are. c.show_names.ensures.asks file chosen names last (c.in-Ok.ensures.stays.bytes ∙ told) chooses size (c.in-Ok.ensures.told file told size) are) is

pub returns-then-count-eq0-clause-asks : goal.returns-then-count-eq0-clause-asks
returns-then-count-eq0-clause-asks g c = λ file chosen cost ends told chooses size is knows reached. (0, nothing, omega arith)

pub returns-then-index-eq0-2-clause-asks : goal.returns-then-index-eq0-2-clause-asks
returns-then-index-eq0-2-clause-asks g c = λ file chosen cost ends told chooses size is.
    (omega arith, empty_goes_on file c.args.request.now.range chosen (chunk_index_fields c.args.index.now) cost ends (omega (arith, c.count.ensures.count, c.if-count-eq0.true)) is)
