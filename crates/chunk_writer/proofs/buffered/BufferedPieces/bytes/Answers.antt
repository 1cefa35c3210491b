use Rattle.std.proofs.Common.{take, sym, ap, ◌∙◌, arith, length, ℕ, List}
use Rattle.std.proofs.lemmas.List.{length-take-le}
use Rattle.record_cache.proofs.Apart.{framed_bytes}
use Rattle.chunk_writer.proofs.Fronts.{front_bytes, front_within}
use Rattle.chunk_writer.proofs.buffered.BufferedPieces.bytes.Goals as goal

pub slice_bounds-result-end : goal.slice_bounds-result-end
slice_bounds-result-end c =
    let buffered = c.args.self.now in
    let within = front_within buffered.full.now.records buffered.count buffered.len buffered.spelled in
    sym (length-take-le buffered.len c.framed.result.now (omega (arith, within, ap (λ (l : List ℕ). length l) c.framed.ensures)))

pub returns : goal.returns
returns c =
    let buffered = c.args.self.now in
    ap (take buffered.len) c.framed.ensures ∙ front_bytes buffered.full.now.records buffered.count buffered.len buffered.spelled ∙ sym (framed_bytes (take buffered.count buffered.full.now.records))
