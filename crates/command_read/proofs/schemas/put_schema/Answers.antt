use Rattle.std.proofs.Common.{ℕ, List, [], ◌∷◌, codes}
use Rattle.json.specs.Token.{begin_object}
use Rattle.json.specs.Json.{Json, string}
use Rattle.command_read.specs.Json.{number_value}
use Rattle.command_read.proofs.Added.{adds_more, object_ends, member_tokens}
use Rattle.command_read.proofs.schemas.put_schema.Goals as goal

pub returns : goal.returns
returns c =
    let old = c.args.out.now in
    let schema = c.args.schema.now in
    let m1 : List ℕ × Json = (codes "encoding", string schema.encoding.now) in
    let m2 : List ℕ × Json = (codes "id", number_value schema.id) in
    let m3 : List ℕ × Json = (codes "name", string schema.name.now) in
    let s1 = adds_more member_tokens old c.open_object.new.out c.put_text.new.out begin_object [] m1 c.in_ok-open_object.ensures c.in_ok-put_text.ensures in
    let s2 = adds_more member_tokens old c.put_text.new.out c.put_number.new.out begin_object (m1 ∷ []) m2 s1 c.in_ok-put_number.ensures in
    let s3 = adds_more member_tokens old c.put_number.new.out c.put_text-2.new.out begin_object (m1 ∷ m2 ∷ []) m3 s2 c.in_ok-put_text-2.ensures in
    object_ends old c.put_text-2.new.out c.close_object.new.out (m1 ∷ m2 ∷ m3 ∷ []) s3 c.in_ok-close_object.ensures
