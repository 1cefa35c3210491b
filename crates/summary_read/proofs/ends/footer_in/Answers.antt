use Rattle.std.proofs.Common.{sym, subst, drop, arith}
use Rattle.rec_data.specs.Parsed.{footer_fields}
use Rattle.rec_data.specs.Records.{ShowsFooter as ShowsContent}
use Rattle.mcap_wire.proofs.Framing.{record_not_refused, record_decided}
use Rattle.mcap_model.specs.Plain.{cut_top}
use Rattle.summary_read.proofs.FileEnds.{footer_size}
use Rattle.summary_read.proofs.ends.footer_in.Goals as goal

pub returns-in-Err : goal.returns-in-Err
returns-in-Err c = λ f t rest split is.
    record_not_refused c.args.bytes.now 0 t.op t.content rest c.in-Err.field-0 (λ zero. absurd (omega (arith, is.kind, zero))) (omega (arith, footer_size t f is)) split c.in-Err.ensures

pub returns-in-Ok-parse : goal.returns-in-Ok-parse
returns-in-Ok-parse c = (
  cut_top c.args.bytes.now c.in-Ok.cut,
  drop c.in-Ok.cut.to c.args.bytes.now,
  c.in-Ok.ensures.stands.framed_there,
  record { kind = c.if-cut-ne-FOOTER.false; layout = c.in-Ok-parse.ensures.shown },
)

pub returns-in-Err-parse : goal.returns-in-Err-parse
returns-in-Err-parse c = λ f t rest split is.
    let there = record_decided c.args.bytes.now 0 c.in-Ok.cut t.op t.content rest c.in-Ok.ensures (omega (arith, footer_size t f is)) split in
    c.in-Err-parse.ensures.none (footer_fields f) (subst (λ l. ShowsContent l (footer_fields f)) (sym there.1) is.layout)
