use Rattle.std.proofs.Common.{refl}
use Rattle.rec_index.specs.Parsed.{attachment_index_fields}
use Rattle.rec_index.proofs.Contents.{attachment_index_framed}
use Rattle.rec_index.proofs.attachment_index.AttachmentIndex.frame.Goals as goal

pub returns-clause-ok : goal.returns-clause-ok
returns-clause-ok c =
    let self = c.args.self.now in
    rw (
      c.add_text-2.ensures.items,
      c.add_text.ensures.items,
      c.add_u64-5.ensures.items,
      c.add_u64-4.ensures.items,
      c.add_u64-3.ensures.items,
      c.add_u64-2.ensures.items,
      c.add_u64.ensures.items,
      c.add_head.ensures.items,
      c.make_room.ensures.items,
    )
    (attachment_index_framed _ _ (attachment_index_fields self) refl)
