-- The last block is taken and noted.
use Rattle.chunk_writer.proofs.Noting.{few_blocks, last_none, last_some, last_err, built_last, no_fault}
use Rattle.chunk_writer.proofs.plan.last_block.Goals as goal

pub returns-in-Ok-None-clause-ok : goal.returns-in-Ok-None-clause-ok
returns-in-Ok-None-clause-ok c = λ size span at history so.
    last_none size span at history c.args.body.now c.take_last.new.body _ _ _ c.in-Ok-None.field-0-is c.in-Ok-None.ensures.ok so

pub note-requires-clause-few : goal.note-requires-clause-few
note-requires-clause-few c = let so = c.requires.stands in few_blocks so.0 so.1 so.2 so.3 c.args.body.now _ _ _ so.4 c.requires.within c.in-Ok-Some.ensures.blocks

pub note-requires-clause-built : goal.note-requires-clause-built
note-requires-clause-built c = let so = c.requires.stands in
    built_last so.0 so.1 so.2 so.3 c.args.body.now c.take_last.new.body _ _ _ c.in-Ok-Some.block c.in-Ok-Some.field-0-is c.in-Ok-Some.ensures.ok so.4

pub returns-in-Ok-clause-ok : goal.returns-in-Ok-clause-ok
returns-in-Ok-clause-ok c = λ size span at history so.
    last_some size span at history c.args.body.now c.take_last.new.body _ _ _ c.in-Ok-Some.block c.note.new.summary c.in-Ok-Some.field-0-is c.in-Ok-Some.ensures.ok c.in-Ok.ensures.ok so

pub returns-in-Err-note-clause-err : goal.returns-in-Err-note-clause-err
returns-in-Err-note-clause-err c = λ size span at history so.
    last_err size span at history c.args.body.now c.take_last.new.body _ _ _ c.in-Ok-Some.block c.in-Err-note.stop c.in-Ok-Some.field-0-is c.in-Ok-Some.ensures.ok c.in-Err-note.ensures.limit so

pub returns-in-Err-note-clause-no_fault : goal.returns-in-Err-note-clause-no_fault
returns-in-Err-note-clause-no_fault c = no_fault _ _ _ c.in-Err-note.stop c.in-Err-note.ensures.limit
