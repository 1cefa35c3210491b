use Rattle.std.proofs.Common.{sym, subst}
use Rattle.rec_data.specs.Records.{ShowsHeader}
use Rattle.summary_read.proofs.loaded.Loaded.header.Goals as goal

pub unreachable-requires : goal.unreachable-requires
unreachable-requires c =
    let is = c.self.invariant.0 in
    c.in-Err.ensures.none (record { profile = is.profile; library = is.library }) (subst (λ l. ShowsHeader l (record { profile = is.profile; library = is.library })) (sym c.deref.ensures.value) is.layout)
