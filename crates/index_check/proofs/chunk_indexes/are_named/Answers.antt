use Rattle.std.proofs.Common.{◌<◌, length, false, refl, arith}
use Rattle.std.proofs.lemmas.Bool.{both_ways}
use Rattle.mcap_model.proofs.Places.{at_read, at_within}
use Rattle.index_check.specs.declared.chunk_indexes.IndexNote.{IndexNote}
use Rattle.index_check.specs.Chunks.{IsNamedOrEmpty}
use Rattle.index_check.proofs.Apart.{front_more}
use Rattle.index_check.proofs.chunk_indexes.are_named.Goals as goal

pub returns-then-not-is_named_or_empty : goal.returns-then-not-is_named_or_empty
returns-then-not-is_named_or_empty c = (
  λ e. absurd (both_ways false refl e),
  λ named.
      let within : c.notes.i < length c.args.notes.now = omega (arith, c.notes-test.true) in
      absurd (both_ways c.is_named_or_empty.result c.if-not-is_named_or_empty.true (c.is_named_or_empty.ensures.1 (named c.notes.i _ (at_read c.args.notes.now c.notes.i _ within)))),
)

pub notes-preserved : goal.notes-preserved
notes-preserved c =
    let within : c.notes.i < length c.args.notes.now = omega (arith, c.notes-test.true) in
    front_more (λ (note : IndexNote). IsNamedOrEmpty c.args.map.now note) c.args.notes.now c.notes.i _ c.notes.invariant (at_read c.args.notes.now c.notes.i _ within) (c.is_named_or_empty.ensures.0 c.if-not-is_named_or_empty.false)

pub returns : goal.returns
returns c = (
  λ e n x at. c.notes.invariant n x at (let within = at_within c.args.notes.now n x at in omega (arith, within, c.notes-test.false)),
  λ named. refl,
)
