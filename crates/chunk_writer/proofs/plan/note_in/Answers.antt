-- An extra is noted by its opcode.
use Rattle.std.proofs.Common.{arith}
use Rattle.std.proofs.lemmas.Result.{on_ok_weaker}
use Rattle.chunk_writer.proofs.Gathered.{long, attachment_meets, metadata_meets, noted_attachment, noted_metadata, noted_other}
use Rattle.chunk_writer.proofs.plan.note_in.Goals as goal

pub content_of-content-requires : goal.content_of-content-requires
content_of-content-requires c = let (t, is, extra) = c.requires.extra in omega (arith, long c.args.framed.now t is)

pub note_attachment-requires-clause-meets : goal.note_attachment-requires-clause-meets
note_attachment-requires-clause-meets c = attachment_meets c.args.framed.now c.content_of-content.result.now c.requires.extra c.if-framed-eq-ATTACHMENT.true c.content_of-content.ensures

pub note_metadata-requires-clause-meets : goal.note_metadata-requires-clause-meets
note_metadata-requires-clause-meets c = metadata_meets c.args.framed.now c.content_of-content.result.now c.requires.extra c.if-framed-eq-METADATA.true c.content_of-content.ensures

pub returns-then-framed-eq-ATTACHMENT : goal.returns-then-framed-eq-ATTACHMENT
returns-then-framed-eq-ATTACHMENT c = on_ok_weaker c.note_attachment.result
    (λ noted t is n stands. noted_attachment c.args.framed.now c.content_of-content.result.now t c.args.at n c.note_attachment.new.self is c.if-framed-eq-ATTACHMENT.true c.content_of-content.ensures (noted n stands)) c.note_attachment.ensures.ok

pub returns-then-framed-eq-METADATA : goal.returns-then-framed-eq-METADATA
returns-then-framed-eq-METADATA c = on_ok_weaker c.note_metadata.result
    (λ noted t is n stands. noted_metadata c.args.framed.now c.content_of-content.result.now t c.args.at n c.note_metadata.new.self is c.if-framed-eq-METADATA.true c.content_of-content.ensures (noted n stands)) c.note_metadata.ensures.ok

pub returns : goal.returns
returns c = λ t is n stands. noted_other c.args.framed.now t c.args.at n c.args.summary.now is c.if-framed-eq-ATTACHMENT.false c.if-framed-eq-METADATA.false stands
