use Rattle.std.proofs.Common.{◌≡◌, ℕ, ◌<◌, List, [], ◌∷◌, Option, codes, subst, ◌∙◌, arith}
use Rattle.json.specs.Token.{begin_object, key}
use Rattle.json.specs.Json.{Json, string}
use Rattle.json.specs.Tree.{json_tokens}
use Rattle.command_read.specs.Counts.{told_count}
use Rattle.command_read.specs.Json.{count_value, number_value}
use Rattle.command_read.specs.Writing.{AddsTokens}
use Rattle.command_read.proofs.Added.{adds_more, object_ends, member_tokens}
use Rattle.command_read.proofs.channels.put_channel.Goals as goal

pub returns : goal.returns
returns c = λ counts holds.
    let old = c.args.out.now in
    let channel = c.args.channel.now in
    let less : channel.id < 65536 = omega arith in
    let count : c.told.result ≡ told_count counts channel.id = c.told.ensures ∙ holds channel.id less in
    let counted : AddsTokens c.open_object.new.out c.put_count.new.out (key (codes "count") ∷ json_tokens (count_value (told_count counts channel.id))) =
    subst (λ (n : Option ℕ). AddsTokens c.open_object.new.out c.put_count.new.out (key (codes "count") ∷ json_tokens (count_value n))) count c.in_ok-put_count.ensures in
    let m1 : List ℕ × Json = (codes "count", count_value (told_count counts channel.id)) in
    let m2 : List ℕ × Json = (codes "encoding", string channel.message_encoding.now) in
    let m3 : List ℕ × Json = (codes "id", number_value channel.id) in
    let m4 : List ℕ × Json = (codes "schema", number_value channel.schema_id) in
    let m5 : List ℕ × Json = (codes "topic", string channel.topic.now) in
    let s1 = adds_more member_tokens old c.open_object.new.out c.put_count.new.out begin_object [] m1 c.in_ok-open_object.ensures counted in
    let s2 = adds_more member_tokens old c.put_count.new.out c.put_text.new.out begin_object (m1 ∷ []) m2 s1 c.in_ok-put_text.ensures in
    let s3 = adds_more member_tokens old c.put_text.new.out c.put_number.new.out begin_object (m1 ∷ m2 ∷ []) m3 s2 c.in_ok-put_number.ensures in
    let s4 = adds_more member_tokens old c.put_number.new.out c.put_number-2.new.out begin_object (m1 ∷ m2 ∷ m3 ∷ []) m4 s3 c.in_ok-put_number-2.ensures in
    let s5 = adds_more member_tokens old c.put_number-2.new.out c.put_text-2.new.out begin_object (m1 ∷ m2 ∷ m3 ∷ m4 ∷ []) m5 s4 c.in_ok-put_text-2.ensures in
    object_ends old c.put_text-2.new.out c.close_object.new.out (m1 ∷ m2 ∷ m3 ∷ m4 ∷ m5 ∷ []) s5 c.in_ok-close_object.ensures
