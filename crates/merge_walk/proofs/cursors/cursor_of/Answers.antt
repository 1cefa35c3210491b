use Rattle.std.proofs.Common.{List, ◌≡◌, ◌++◌, length, refl, sym, ap, subst, ◌∙◌, Err, arith}
use Rattle.std.specs.Prelude.{IsPermutation}
use Rattle.std.specs.Prelude.{vec_len}
use Rattle.std.proofs.lemmas.Bool.{both_ways, eqb-true}
use Rattle.merge_walk.specs.declared.turns.WalkRefused.{WalkRefused}
use Rattle.mcap_scan.specs.declared.message_heads.MessageHead.{MessageHead}
use Rattle.mcap_scan.specs.Heads.{heads_in}
use Rattle.merge_walk.specs.Heads.{AreInSpan}
use Rattle.merge_walk.specs.Cursors.{MakesCursor}
use Rattle.merge_walk.proofs.Fitting.{listed_apart, unfit_empty, unfit_many, unfit_outside}
use Rattle.merge_walk.proofs.cursors.cursor_of.Goals as goal

pub put_in_order-requires : goal.put_in_order-requires
put_in_order-requires c = listed_apart c.args.bytes.now c.list_heads.new.heads.items (c.in-Ok.ensures ∙ ap (λ (l : List MessageHead). l ++ heads_in c.args.bytes.now) c.new-heads.ensures.items)

pub returns-then-is_empty : goal.returns-then-is_empty
returns-then-is_empty c =
    let bytes = c.args.bytes.now in
    let sorted = c.put_in_order.new.heads.items in
    let listed : c.list_heads.new.heads.items ≡ heads_in bytes = c.in-Ok.ensures ∙ ap (λ (l : List MessageHead). l ++ heads_in bytes) c.new-heads.ensures.items in
    let same : IsPermutation (heads_in bytes) sorted = subst (λ (l : List MessageHead). IsPermutation l sorted) listed c.put_in_order.ensures.same in
    let empty : vec_len c.put_in_order.new.heads ≡ 0 = eqb-true (vec_len c.put_in_order.new.heads) 0 (sym c.is_empty.ensures ∙ c.if-is_empty.true) in
    let none : length sorted ≡ 0 = omega (arith, empty, c.put_in_order.new.heads.ok.0) in
    subst (λ (why : WalkRefused). MakesCursor c.args.piece bytes (Err why)) (sym c.changed.ensures) (refl, refl, unfit_empty c.args.piece.span bytes sorted same none)

pub returns-then-len-piece : goal.returns-then-len-piece
returns-then-len-piece c =
    let bytes = c.args.bytes.now in
    let sorted = c.put_in_order.new.heads.items in
    let listed : c.list_heads.new.heads.items ≡ heads_in bytes = c.in-Ok.ensures ∙ ap (λ (l : List MessageHead). l ++ heads_in bytes) c.new-heads.ensures.items in
    let same : IsPermutation (heads_in bytes) sorted = subst (λ (l : List MessageHead). IsPermutation l sorted) listed c.put_in_order.ensures.same in
    subst (λ (why : WalkRefused). MakesCursor c.args.piece bytes (Err why)) (sym c.changed-then-len-piece.ensures) (
      refl,
      refl,
      unfit_many c.args.piece.span bytes sorted same (λ many. omega (arith, many, c.if-len-piece.true, c.len.ensures, c.put_in_order.new.heads.ok.0)),
    )

pub returns-then-not-are_within : goal.returns-then-not-are_within
returns-then-not-are_within c =
    let bytes = c.args.bytes.now in
    let span = c.args.piece.span in
    let sorted = c.put_in_order.new.heads.items in
    let listed : c.list_heads.new.heads.items ≡ heads_in bytes = c.in-Ok.ensures ∙ ap (λ (l : List MessageHead). l ++ heads_in bytes) c.new-heads.ensures.items in
    let same : IsPermutation (heads_in bytes) sorted = subst (λ (l : List MessageHead). IsPermutation l sorted) listed c.put_in_order.ensures.same in
    subst (λ (why : WalkRefused). MakesCursor c.args.piece bytes (Err why)) (sym c.changed-then-not-are_within.ensures) (
      refl,
      refl,
      unfit_outside span bytes sorted same (λ within.
          both_ways c.are_within.result c.if-not-are_within.true (c.are_within.ensures.1 (subst (AreInSpan span) (sym c.deref.ensures.value) within))),
    )
