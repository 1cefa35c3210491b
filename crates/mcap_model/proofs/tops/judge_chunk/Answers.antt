use Rattle.std.proofs.Common.{◌≡◌, ◌∷◌, length, refl, sym, ap, subst, arith}
use Rattle.rec_index.specs.Parsed.{chunk_fields}
use Rattle.mcap_model.specs.Tops.{flat}
use Rattle.mcap_model.specs.Fields.{IsChunk}
use Rattle.mcap_model.specs.Made.{top}
use Rattle.mcap_model.specs.Judging.{JudgedAs}
use Rattle.mcap_model.proofs.Judging.{chunk_judged, chunk_unshown, nothing}
use Rattle.mcap_model.proofs.tops.judge_chunk.Goals as goal

pub returns-in-Err : goal.returns-in-Err
returns-in-Err c = λ first more stands. chunk_unshown (first ∷ more) c.args.content.now (λ f is. c.in-Err.ensures.none f is.layout)

pub returns-then-chunk-gt0 : goal.returns-then-chunk-gt0
returns-then-chunk-gt0 c = λ first more stands.
    let k = c.in-Ok.chunk in
    let f = chunk_fields k in
    let is : IsChunk (top 6 c.args.content.now) f = record { kind = refl; layout = c.in-Ok.ensures.shown } in
    ((λ e. let size = ap length e in omega (arith, size)), record { shown = f; is = is; named = refl; some = λ e. let size : length k.compression.now ≡ 0 = ap length e in omega (arith, size, c.if-chunk-gt0.true) })

pub returns : goal.returns
returns c = λ first more stands.
    let k = c.in-Ok.chunk in
    let f = chunk_fields k in
    let is : IsChunk (top 6 c.args.content.now) f = record { kind = refl; layout = c.in-Ok.ensures.shown } in
    subst (JudgedAs (first ∷ more) (top 6 c.args.content.now) c.take_chunk.new.tables) (sym c.of_ruling.ensures)
    (chunk_judged first more c.args.content.now f c.take_chunk.new.tables c.take_chunk.result is (nothing k.compression.now (omega arith)) (c.take_chunk.ensures (flat (first ∷ more)) stands))
