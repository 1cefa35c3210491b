use Rattle.std.proofs.Common.{drop}
use Rattle.std.proofs.lemmas.Bool.Decides.{Decides-eqb}
use Rattle.std.proofs.lemmas.Slice.Eq.{starts_is}
use Rattle.mcap_wire.specs.Layout.{magic}
use Rattle.file_check.proofs.ends.are_begun.Goals as goal

pub returns : goal.returns
returns c =
    let is = starts_is Decides-eqb c.args.bytes.now magic c.starts_with.result c.starts_with.ensures.value in
    (λ e. (drop 8 c.args.bytes.now, is.0 e), λ begins. is.1 begins.0 begins.1)
