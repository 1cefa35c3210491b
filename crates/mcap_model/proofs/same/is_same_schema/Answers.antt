use Rattle.std.proofs.Common.{◌≡◌, sym, ◌∙◌}
use Rattle.rec_data.specs.Parsed.{schema_fields}
use Rattle.mcap_model.proofs.Maps.{schema_decided}
use Rattle.mcap_model.proofs.same.is_same_schema.Goals as goal

pub returns-in-Ok : goal.returns-in-Ok
returns-in-Ok c = λ id f is.
    let s = c.in-Ok.first in
    let g = schema_fields s in
    let one : f ≡ g = schema_decided c.args.content.now id s.id f g is c.in-Ok.ensures.shown in
    (λ e. one ∙ c.has_fields.ensures.0 e, λ e. c.has_fields.ensures.1 (sym one ∙ e))

pub returns-in-Err : goal.returns-in-Err
returns-in-Err c = λ id f is. absurd (c.in-Err.ensures.none id f is.layout)
