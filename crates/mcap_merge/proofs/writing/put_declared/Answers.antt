use Rattle.std.proofs.Common.{ℕ, List, [], ◌∷◌, sym, subst}
use Rattle.rec_data.specs.declared.owned.Rec.{Rec}
use Rattle.mcap_model.specs.History.{channel_of}
use Rattle.history_ids.specs.DeclarationFields.{fields_with}
use Rattle.history_ids.specs.Tables.{id_given, id_of, schema_with}
use Rattle.chunk_build.specs.Chunker.{AreInner}
use Rattle.mcap_merge.proofs.Written.{channel_is}
use Rattle.mcap_merge.proofs.writing.put_declared.Goals as goal

pub returns-in-Err-clause-adds : goal.returns-in-Err-clause-adds
returns-in-Err-clause-adds g c =
    let d = c.args.declared.now in
    let channel = channel_of (id_given d.ids.channel) (fields_with d.content (id_of d.ids.schema)) in
    g.P.Pen.adds_on c.args.pen.now c.put_schema.new.pen c.put_schema.new.pen [] [] (schema_with d.content.schema d.ids.schema) (channel ∷ []) c.in-Err.ensures.adds
    (g.P.Pen.adds_all c.put_schema.new.pen c.in-Err.stop [] (channel ∷ []) c.in-Err.ensures.stopped)

pub returns-in-Ok-frame_channel-clause-adds : goal.returns-in-Ok-frame_channel-clause-adds
returns-in-Ok-frame_channel-clause-adds g c =
    let d = c.args.declared.now in
    let channel = channel_of (id_given d.ids.channel) (fields_with d.content (id_of d.ids.schema)) in
    let made = channel_of c.number_of-id.result (fields_with d.content c.id_of-schema_id.result) in
    let is = channel_is d.content c.number_of-id.result (id_given d.ids.channel) c.id_of-schema_id.result (id_of d.ids.schema) c.number_of-id.ensures c.id_of-schema_id.ensures in
    g.P.Pen.adds_on c.args.pen.now c.put_schema.new.pen c.put.new.self [] [] (schema_with d.content.schema d.ids.schema) (channel ∷ []) c.in-Ok.ensures.adds
    (subst (λ (r : Rec). g.P.Pen.adds c.put_schema.new.pen c.put.new.self [] (r ∷ [])) is (c.put.ensures.adds made (subst (λ (l : List ℕ). AreInner l made) (sym c.as_slice.ensures.value) c.in-Ok-frame_channel.ensures)))

pub returns-in-Err-frame_channel-clause-adds : goal.returns-in-Err-frame_channel-clause-adds
returns-in-Err-frame_channel-clause-adds g c =
    let d = c.args.declared.now in
    let channel = channel_of (id_given d.ids.channel) (fields_with d.content (id_of d.ids.schema)) in
    g.P.Pen.adds_on c.args.pen.now c.put_schema.new.pen c.lack.new.self [] [] (schema_with d.content.schema d.ids.schema) (channel ∷ []) c.in-Ok.ensures.adds (c.lack.ensures.adds [] (channel ∷ []))
