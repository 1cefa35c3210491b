use Rattle.std.proofs.Common.{length, take, ◌-◌}
use Rattle.std.proofs.lemmas.Bool.Decides.{Decides-eqb}
use Rattle.std.proofs.lemmas.Slice.Eq.{ends_is}
use Rattle.mcap_wire.specs.Layout.{magic}
use Rattle.file_check.proofs.ends.are_ended.Goals as goal

pub returns : goal.returns
returns c =
    let is = ends_is Decides-eqb c.args.bytes.now magic c.ends_with.result c.ends_with.ensures.value in
    (λ e. (take (length c.args.bytes.now - 8) c.args.bytes.now, is.0 e), λ ends. is.1 ends.0 ends.1)
