use Rattle.std.proofs.Common.{sym, ap, take, ◌∙◌}
use Rattle.summary_read.proofs.FileFront.{magic_begins, begins_magic}
use Rattle.summary_read.proofs.loading.read_magic.Goals as goal

pub returns-in-Ok-clause-told : goal.returns-in-Ok-clause-told
returns-in-Ok-clause-told g c = λ file told size.
    let gives = sym (c.in-Ok.ensures.gives file told ∙ ap (λ n. take n file) c.read_at.auto.out) in (
      λ is. magic_begins 8 file c.read_at.new.out gives (c.begins_with_magic.ensures.0 is),
      λ v1. c.begins_with_magic.ensures.1 (begins_magic file c.read_at.new.out gives v1),
    )
