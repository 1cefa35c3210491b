use Rattle.std.proofs.Common.{◌≡◌, ℕ, ◌+◌, List, ◌++◌, length, refl, sym, ap, ◌∙◌}
use Rattle.std.proofs.lemmas.Result.{on_ok_weaker}
use Rattle.mcap_wire.specs.Layout.{framed}
use Rattle.mcap_wire.proofs.Framing.{length-framed}
use Rattle.rec_data.specs.Parsed.{metadata_fields}
use Rattle.rec_index.specs.Fields.{MetadataIndexFields}
use Rattle.rec_index.specs.Records.{metadata_index_text}
use Rattle.mcap_model.specs.Tops.{Top, top_bytes}
use Rattle.mcap_model.proofs.ExtraIndexes.{metadata_read_back}
use Rattle.summary_write.proofs.extras.add_metadata_index.Goals as goal

sized : ℕ → List ℕ → ℕ → MetadataIndexFields
sized at name k = record { offset = at; size = k; name = name }

pub returns-in-Ok-clause-ok : goal.returns-in-Ok-clause-ok
unfolding sized
returns-in-Ok-clause-ok c =
    let content = c.args.content.now in
    let t : Top = record { op = 12; content = content } in
    let f = metadata_fields c.in-Ok.metadata in
    let size : length (top_bytes t) ≡ 9 + length content = length-framed 12 content in
    let text = metadata_read_back c.args.at t f.name f.metadata (record { kind = refl; layout = c.in-Ok.ensures.shown }) ∙ ap (λ (k : ℕ). metadata_index_text (sized c.args.at f.name k)) size in
    on_ok_weaker c.frame.result (λ ok. ok ∙ ap (λ (l : List ℕ). c.args.framed.now.items ++ framed 13 l) (sym text)) c.frame.ensures.ok

pub unreachable-requires : goal.unreachable-requires
unreachable-requires c = c.in-Err.ensures.none c.requires.meets.0 c.requires.meets.1
