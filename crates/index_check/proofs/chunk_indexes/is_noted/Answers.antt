use Rattle.std.proofs.Common.{◌<◌, length, false, refl, arith}
use Rattle.std.proofs.lemmas.Bool.{both_ways}
use Rattle.mcap_model.proofs.Places.{at_read, at_within}
use Rattle.index_check.specs.declared.chunk_indexes.IndexNote.{IndexNote}
use Rattle.index_check.specs.Chunks.{IsNoteAt}
use Rattle.index_check.proofs.Apart.{front_more}
use Rattle.index_check.proofs.chunk_indexes.is_noted.Goals as goal

pub returns-then-is_note_at : goal.returns-then-is_note_at
returns-then-is_note_at c =
    let within : c.args.guess < length c.args.notes.now = omega arith in
    (λ e. (c.args.guess, _, at_read c.args.notes.now c.args.guess _ within, c.is_note_at.ensures.0 c.if-is_note_at.true), λ has. refl)

pub returns-then-is_note_at-2 : goal.returns-then-is_note_at-2
returns-then-is_note_at-2 c =
    let within : c.notes.i < length c.args.notes.now = omega (arith, c.notes-test.true) in
    (λ e. (c.notes.i, _, at_read c.args.notes.now c.notes.i _ within, c.is_note_at-in-notes.ensures.0 c.if-is_note_at-2.true), λ has. refl)

pub notes-preserved : goal.notes-preserved
notes-preserved c =
    let within : c.notes.i < length c.args.notes.now = omega (arith, c.notes-test.true) in
    front_more (λ (note : IndexNote). IsNoteAt note c.args.channel c.args.offset → ⊥) c.args.notes.now c.notes.i _ c.notes.invariant (at_read c.args.notes.now c.notes.i _ within) (λ is. both_ways c.is_note_at-in-notes.result c.if-is_note_at-2.false (c.is_note_at-in-notes.ensures.1 is))

pub returns : goal.returns
returns c = (
  λ e. absurd (both_ways false refl e),
  λ has. absurd (c.notes.invariant has.0 has.1 has.2 (let within = at_within c.args.notes.now has.0 has.1 has.2 in omega (arith, within, c.notes-test.false)) has.3),
)
