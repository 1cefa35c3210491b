use Rattle.std.proofs.Common.{◌≡◌, ◌+◌, ◌-◌, ◌≤◌, List, ℕ, length, take, sym, ap, subst, ◌∙◌, arith}
use Rattle.std.proofs.lemmas.List.{length-drop}
use Rattle.mcap_wire.specs.Layout.{text_bytes}
use Rattle.mcap_wire.specs.MapReading.{a_string, PairsAt, MapStops}
use Rattle.mcap_wire.specs.PairBytes.{pairs_in}
use Rattle.mcap_wire.proofs.Fields.{number_there}
use Rattle.mcap_wire.proofs.TextMaps.{Pair, pairs_read}
use Rattle.mcap_wire.proofs.MapWalks.{map_fails}
use Rattle.mcap_wire.proofs.maps.take_pairs.Goals as goal

pub returns-then-rest-len : goal.returns-then-rest-len
returns-then-rest-len c =
    let content = c.args.content.now in
    let len = number_there 4 content c.args.at c.in-Ok.read.0 c.in-Ok.read.1 c.in-Ok.ensures in
    let size : length c.rest_from-rest.result.now ≡ length content - c.in-Ok.read.1 = ap length c.rest_from-rest.ensures ∙ length-drop c.in-Ok.read.1 content in
    grind arith

pub returns-in-Ok-count_pairs : goal.returns-in-Ok-count_pairs
returns-in-Ok-count_pairs c =
    let content = c.args.content.now in
    let len = c.in-Ok.read.0 in
    let from = c.in-Ok.read.1 in
    let bytes = take len c.rest_from-rest.result.now in
    let pairs = pairs_in c.in-Ok-count_pairs.count bytes in
    let size : length c.rest_from-rest.result.now ≡ length content - from = ap length c.rest_from-rest.ensures ∙ length-drop from content in
    let whole : from + len ≤ length content = omega (arith, size, c.in-Ok.ensures.field.ends) in
    subst (λ (p : List Pair). PairsAt content c.args.at p (from + len)) (sym c.of_bytes.ensures)
    (pairs_read content c.args.at len from bytes pairs c.in-Ok.ensures whole (ap (take len) c.rest_from-rest.ensures) c.in-Ok-count_pairs.ensures.spelled c.in-Ok-count_pairs.ensures.is_map)

pub returns-in-Err-count_pairs : goal.returns-in-Err-count_pairs
returns-in-Err-count_pairs c =
    let content = c.args.content.now in
    let from = c.in-Ok.read.1 in
    let len = number_there 4 content c.args.at c.in-Ok.read.0 from c.in-Ok.ensures in
    let size : length c.rest_from-rest.result.now ≡ length content - from = ap length c.rest_from-rest.ensures ∙ length-drop from content in
    let at_is : from ≡ c.args.at + 4 = c.in-Ok.ensures.size in
    let bytes : text_bytes content c.args.at ≡ take c.in-Ok.read.0 c.rest_from-rest.result.now = rw (len, ← at_is, c.rest_from-rest.ensures) in
    map_fails a_string a_string content c.args.at c.in-Err-count_pairs.why (omega (arith, len, at_is, size, c.in-Ok.ensures.field.ends))
    (subst (λ (b : List ℕ). MapStops a_string a_string b c.in-Err-count_pairs.why) (sym bytes) c.in-Err-count_pairs.ensures)
