use Rattle.std.proofs.Common.{◌≡◌, List, ℕ, Bool, ◌∷◌, [], refl, sym, ap, subst, ◌∙◌, cond, ne_eqb, eq-eqb}
use Rattle.rec_index.specs.Parsed.{chunk_fields}
use Rattle.mcap_model.specs.Tops.{Top, records_in, inner_tops, unchunked}
use Rattle.mcap_model.specs.Made.{top}
use Rattle.mcap_model.specs.Fields.{IsChunk}
use Rattle.mcap_model.proofs.ShownMessages.{ok_then}
use Rattle.mcap_model.proofs.Unpacking.{chunks_are_opened}
use Rattle.mcap_sort.specs.Declaring.{NotesAll}
use Rattle.mcap_sort.proofs.declaring.note_declared.Goals as goal

pub returns-then-op-ne-CHUNK : goal.returns-then-op-ne-CHUNK
returns-then-op-ne-CHUNK c =
    let t = top c.args.op c.args.content.now in
    ok_then c.note_one.result c.note_one.ensures (λ notes. subst (NotesAll c.args.tables.now c.note_one.new.tables) (sym (ap (λ (b : Bool). cond b (inner_tops t) (t ∷ [])) (ne_eqb c.args.op 6 c.if-op-ne-CHUNK.true))) notes)

pub returns-in-Ok : goal.returns-in-Ok
returns-in-Ok c =
    let t = top c.args.op c.args.content.now in
    let f = chunk_fields c.in-Ok.chunk in
    let six = c.if-op-ne-CHUNK.false in
    let shows : IsChunk (top 6 c.args.content.now) f = record { kind = refl; layout = c.in-Ok.ensures.shown } in
    let is : unchunked t ≡ records_in f.records = ap (λ (b : Bool). cond b (inner_tops t) (t ∷ [])) (eq-eqb c.args.op 6 six) ∙ ap records_in (chunks_are_opened (top 6 c.args.content.now) f shows) in
    ok_then c.note_inside.result c.note_inside.ensures (λ notes. subst (NotesAll c.args.tables.now c.note_inside.new.tables) (sym is) notes)
