use Rattle.std.proofs.Common.{true, refl, sym, ap, ◌∙◌}
use Rattle.std.proofs.lemmas.Bool.{both_ways}
use Rattle.std.proofs.Common.{List, subst}
use Rattle.mcap_model.specs.Tops.{Top, offset_behind, records_in}
use Rattle.index_check.specs.Messages.{HoldsMessages}
use Rattle.file_check.proofs.Followed.{open_chunk}
use Rattle.file_check.proofs.last_chunk.LastChunk.begin.Goals as goal

pub returns : goal.returns
returns c = λ tops t f is same there.
    let messages = c.refill.new.self in
    let holds = subst (λ (l : List Top). HoldsMessages l messages) (ap records_in (sym same)) c.in-Ok.ensures.ok in
    let begun = open_chunk tops t f messages c.new.result is holds c.new.ensures in
    record {
      kept = λ e. record { is = begun.0; there = there ∙ sym (ap offset_behind begun.1) };
      none = λ e. absurd (both_ways true e refl);
    }
