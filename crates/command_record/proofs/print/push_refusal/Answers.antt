use Rattle.std.proofs.Common.{List, ℕ, ◌++◌, ◌∙◌, ap, sym, append_assoc, codes}
use Rattle.std.specs.Prelude.{decimal}
use Rattle.mcap_model.specs.declared.refusals.ReadingRefused.{ReadingRefused}
use Rattle.command_record.specs.ReportTexts.{refusal_text}
use Rattle.command_record.proofs.print.push_refusal.Goals as goal

pub returns-in-Compressed-clause-text : goal.returns-in-Compressed-clause-text
returns-in-Compressed-clause-text c =
    c.push_number-in-Compressed.ensures.text
    ∙ ap (λ (l : List ℕ). l ++ decimal c.in-Compressed.offset) c.push_text-in-Compressed.ensures.text
    ∙ append_assoc c.args.line.now (codes "compressed ") (decimal c.in-Compressed.offset)
    ∙ sym (ap (λ (w : ReadingRefused). c.args.line.now ++ refusal_text w) c.in-Compressed.is)
