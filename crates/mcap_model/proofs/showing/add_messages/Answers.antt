use Rattle.std.proofs.Common.{refl, arith}
use Rattle.rec_index.specs.Parsed.{chunk_fields}
use Rattle.mcap_model.proofs.ShownMessages.{ok_then, message_alone, chunk_layouts, chunk_opened, other_silent}
use Rattle.mcap_model.proofs.showing.add_messages.Goals as goal

pub add_inside-requires : goal.add_inside-requires
add_inside-requires c =
    chunk_layouts c.args.op c.args.content.now (chunk_fields c.in-Ok.chunk) c.in-6.is (record { kind = refl; layout = c.in-Ok.ensures.shown }) c.requires.v8 c.requires.plain

pub unreachable-requires : goal.unreachable-requires
unreachable-requires c = let (f, is) = c.requires.v6.chunk c.in-6.is in c.in-Err.ensures.none f is.layout

pub returns-in-Ok : goal.returns-in-Ok
returns-in-Ok c =
    let k = c.in-Ok.chunk in
    let f = chunk_fields k in
    ok_then c.add_inside.result c.add_inside.ensures (λ adds. chunk_opened c.args.offset c.args.op c.args.content.now f c.args.shown.now.items c.add_inside.new.shown.items c.in-6.is (record { kind = refl; layout = c.in-Ok.ensures.shown }) adds)

pub returns-in-5 : goal.returns-in-5
returns-in-5 c = ok_then c.add_message.result c.add_message.ensures (λ adds. message_alone c.args.offset c.args.op c.args.content.now c.args.shown.now.items c.add_message.new.shown.items c.in-5.is adds)

pub returns-in_default : goal.returns-in_default
returns-in_default c = other_silent c.args.offset c.args.op c.args.content.now c.args.shown.now.items (λ e. omega (arith, e)) (λ e. omega (arith, e))
