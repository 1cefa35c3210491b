use Rattle.std.proofs.Common.{◌≡◌, ◌+◌, ◌-◌, length, take, sym, ap, subst, ◌∙◌, arith}
use Rattle.std.specs.Prelude.{IsUtf8}
use Rattle.std.proofs.lemmas.List.{length-drop}
use Rattle.mcap_wire.specs.Layout.{text_bytes}
use Rattle.mcap_wire.proofs.Fields.{number_there, text_read}
use Rattle.mcap_wire.proofs.reading.take_text.Goals as goal

pub returns-then-rest-len : goal.returns-then-rest-len
returns-then-rest-len c =
    let content = c.args.content.now in
    let len = number_there 4 content c.args.at c.in-Ok.read.0 c.in-Ok.read.1 c.in-Ok.ensures in
    let size : length c.rest_from-rest.result.now ≡ length content - c.in-Ok.read.1 = ap length c.rest_from-rest.ensures ∙ length-drop c.in-Ok.read.1 content in
    grind arith

pub returns-in-Ok-from_utf8 : goal.returns-in-Ok-from_utf8
returns-in-Ok-from_utf8 c =
    let content = c.args.content.now in
    let len = c.in-Ok.read.0 in
    let from = c.in-Ok.read.1 in
    let size : length c.rest_from-rest.result.now ≡ length content - from = ap length c.rest_from-rest.ensures ∙ length-drop from content in
    let text : c.in-Ok-from_utf8.text.now ≡ take len c.rest_from-rest.result.now = c.in-Ok-from_utf8.ensures.cases.0 in
    text_read content c.args.at len from c.in-Ok-from_utf8.text.now c.in-Ok.ensures
    (omega (arith, c.in-Ok.ensures.field.ends))
    (text ∙ ap (take len) c.rest_from-rest.ensures)
    (subst IsUtf8 (sym text) c.in-Ok-from_utf8.ensures.cases.1)

pub returns-in-Err-from_utf8 : goal.returns-in-Err-from_utf8
returns-in-Err-from_utf8 c =
    let content = c.args.content.now in
    let from = c.in-Ok.read.1 in
    let len = number_there 4 content c.args.at c.in-Ok.read.0 from c.in-Ok.ensures in
    let size : length c.rest_from-rest.result.now ≡ length content - from = ap length c.rest_from-rest.ensures ∙ length-drop from content in
    let at_is : from ≡ c.args.at + 4 = c.in-Ok.ensures.size in
    let text : text_bytes content c.args.at ≡ take c.in-Ok.read.0 c.rest_from-rest.result.now = rw (len, ← at_is, c.rest_from-rest.ensures) in
    (omega (arith, len, at_is, c.in-Ok.ensures.field.ends), λ utf8. c.in-Err-from_utf8.ensures.cases.0 (subst IsUtf8 text utf8))
