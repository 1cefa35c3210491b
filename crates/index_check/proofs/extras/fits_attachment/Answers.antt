use Rattle.rec_index.specs.Parsed.{attachment_index_fields}
use Rattle.index_check.specs.declared.extras.AttachmentNote.{AttachmentNote}
use Rattle.index_check.specs.Extras.{IsOfAttachment}
use Rattle.index_check.proofs.Apart.{at_index, past_end}
use Rattle.index_check.proofs.Numbered.{first_named, none_named}
use Rattle.index_check.proofs.extras.fits_attachment.Goals as goal

pub returns-in-Some : goal.returns-in-Some
returns-in-Some c =
    let place = c.in-First.place in
    let note = c.in-Some.note.now in
    first_named (λ (n : AttachmentNote). IsOfAttachment n (attachment_index_fields c.args.index.now)) c.args.notes.now c.args.naming place note c.is_of_attachment.result c.in-First.is
    (at_index c.args.notes.now place note c.in-Some.ensures.lookup.3.0 c.in-Some.ensures.lookup.1) c.is_of_attachment.ensures

pub returns-in-None : goal.returns-in-None
returns-in-None c =
    none_named (λ (n : AttachmentNote). IsOfAttachment n (attachment_index_fields c.args.index.now)) c.args.notes.now c.args.naming c.in-First.place c.in-First.is
    (past_end c.args.notes.now c.in-First.place c.in-None.ensures.lookup.3)
