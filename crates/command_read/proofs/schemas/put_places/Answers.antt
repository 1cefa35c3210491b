use Rattle.std.proofs.Common.{ℕ, ◌<◌, List, [], ◌∷◌, ◌++◌, length, get_or, subst, arith}
use Rattle.std.specs.List.{AllZip}
use Rattle.json.specs.Token.{begin_array}
use Rattle.json.specs.Tree.{json_tokens}
use Rattle.rec_data.specs.Fields.{SchemaFields}
use Rattle.rec_data.specs.Parsed.{schema_fields}
use Rattle.mcap_model.specs.Fields.{IsSchema}
use Rattle.mcap_model.proofs.NamedTopics.{zip_more, take_past}
use Rattle.command_read.specs.Json.{schema_value}
use Rattle.command_read.specs.Writing.{ShownAt}
use Rattle.command_read.proofs.Places.{read_once}
use Rattle.command_read.proofs.Added.{adds_more, array_ends}
use Rattle.command_read.proofs.schemas.put_places.Goals as goal

pub places-preserved : goal.places-preserved
places-preserved c =
    let places = c.args.places.now in
    let i = c.places.i in
    let was = c.places.invariant in
    let more : ℕ × SchemaFields = (c.schema-schema.result.id, schema_fields c.schema-schema.result) in
    let within : i < length places = omega arith in (
      was.0 ++ more ∷ [],
      zip_more (ShownAt IsSchema c.args.loaded.now.schemas) places was.0 i (get_or places i 0) more within (read_once places i 0 (get_or places i 0) within) was.1 c.schema-schema.ensures,
      adds_more (λ s. json_tokens (schema_value s)) c.args.out.now c.places.out c.put_schema.new.out begin_array was.0 more was.2 c.in-Ok.ensures,
    )

pub returns : goal.returns
returns c =
    let was = c.places.invariant in (
      was.0,
      subst (λ (l : List ℕ). AllZip (ShownAt IsSchema c.args.loaded.now.schemas) l was.0) (take_past c.places.i c.args.places.now (omega arith)) was.1,
      array_ends schema_value c.args.out.now c.places.out c.close_array.new.out was.0 was.2 c.in_ok-close_array.ensures,
    )
