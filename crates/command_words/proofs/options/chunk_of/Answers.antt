-- The chunks are sized by what was found for --plain and --chunk.
use Rattle.std.proofs.lemmas.Result.{IfOk-weaker, on_err_weaker}
use Rattle.command_words.specs.Matches.{rows_found}
use Rattle.command_words.proofs.OptionLemmas.{chunks_are, chunks_given, chunks_sized}
use Rattle.command_words.proofs.options.chunk_of.Goals as goal

pub returns-in-Ok-clause-chunk : goal.returns-in-Ok-clause-chunk
returns-in-Ok-clause-chunk c = λ items places shows.
    IfOk-weaker c.size_chunks.result _ _ (λ chunk sizes. chunks_are (rows_found c.args.found.now) items places shows c.has_flag.result c.in-Ok.size chunk c.has_flag.ensures c.in-Ok.ensures.number sizes) c.size_chunks.ensures.chunk

pub returns-in-Ok-clause-bad : goal.returns-in-Ok-clause-bad
returns-in-Ok-clause-bad c = λ items places shows.
    on_err_weaker c.size_chunks.result (λ bad chunk has. bad chunk (chunks_sized (rows_found c.args.found.now) items places shows c.has_flag.result c.in-Ok.size chunk c.has_flag.ensures c.in-Ok.ensures.number has)) c.size_chunks.ensures.bad

pub returns-in-Err-clause-bad : goal.returns-in-Err-clause-bad
returns-in-Err-clause-bad c = λ items places shows chunk has. c.in-Err.ensures.bad has.size (chunks_given (rows_found c.args.found.now) items places shows chunk has)
