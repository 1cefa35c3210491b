-- The last block was appended, or refused.
use Rattle.live_entry.specs.declared.entry.Entry.{Entry}
use Rattle.live_entry.specs.Entries.{seen_before}
use Rattle.chunk_writer.proofs.Stopping.{added_err}
use Rattle.chunk_writer.proofs.Writing.{adds_last, last_entry, block_last_refused, last_stopped}
use Rattle.chunk_writer.proofs.scribe.Scribe.append_last.Goals as goal

pub returns-in-Ok-clause-last : goal.returns-in-Ok-clause-last
returns-in-Ok-clause-last g c = λ options extras opened history (stands, waits, through).
    adds_last options opened.held _ _ history c.args.self.now.plan c.last.new.self c.append_block.new.self.plan _ c.in-Ok-Some.block c.in-Ok-Some.field-0-is c.in-Ok-Some.ensures.ok c.in-Ok.ensures.ok c.requires.going
    c.in-Ok.ensures.appends.0 stands

pub returns-in-Ok-clause-entry : goal.returns-in-Ok-clause-entry
returns-in-Ok-clause-entry g c = λ options extras opened history (stands, waits, through).
    last_entry {X = g.row.L-Extent.Denot} (seen_before (λ e. g.L.Extent.Extent.tells e) (λ e. g.L.Extent.Extent.size e) (g.L.LiveStore.state c.args.self.now.store)) options opened.held (g.L.LiveStore.state c.args.self.now.store).held history c.args.self.now.plan c.last.new.self _ c.in-Ok-Some.block
    c.in-Ok.entry _ c.in-Ok-Some.field-0-is c.in-Ok-Some.ensures.ok c.requires.going c.bytes-bytes.ensures.value c.in-Ok.ensures.entry c.in-Ok.ensures.appends.1 c.in-Ok.ensures.appends.2 stands

pub returns-in-Err-append_block-clause-refused : goal.returns-in-Err-append_block-clause-refused
returns-in-Err-append_block-clause-refused g c = λ options extras opened history (stands, waits, through).
    block_last_refused options extras opened.held _ (g.L.LiveStore.state c.append_block.new.self.store).held history c.args.self.now.plan c.last.new.self c.append_block.new.self.plan _ c.in-Ok-Some.block c.in-Err-append_block.stop _ _
    c.in-Ok-Some.field-0-is c.in-Ok-Some.ensures.ok c.in-Ok-Some.ensures.room c.blocks-blocks.ensures.value c.bytes-bytes.ensures.value c.in-Err-append_block.ensures.err c.requires.going
    (added_err {X = Entry g.row.L-Extent.Denot} (λ e. g.L.Extent.Extent.tells e.extent) (λ e. g.L.Extent.Extent.size e.extent) (g.L.LiveStore.state c.args.self.now.store) (g.L.LiveStore.state c.append_block.new.self.store) c.in-Ok-Some.block.bytes
    c.in-Err-append_block.stop c.in-Err-append_block.ensures.appends) stands

pub returns-in-Err-clause-refused : goal.returns-in-Err-clause-refused
returns-in-Err-clause-refused g c = λ options extras opened history (stands, waits, through).
    last_stopped options extras opened.held _ history c.args.self.now.plan c.last.new.self c.in-Err.stop c.requires.going c.in-Err.ensures.err c.in-Err.ensures.stopped stands

pub returns-in-Ok-clause-waiting : goal.returns-in-Ok-clause-waiting
returns-in-Ok-clause-waiting g c = c.in-Ok.ensures.waiting

pub returns-in-Err-append_block-clause-waiting : goal.returns-in-Err-append_block-clause-waiting
returns-in-Err-append_block-clause-waiting g c = c.in-Err-append_block.ensures.waiting
