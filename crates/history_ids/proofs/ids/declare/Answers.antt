use Rattle.std.specs.Prelude.{Option}
use Rattle.std.proofs.Common.{ℕ, subst}
use Rattle.history_ids.specs.Tables.{ids_in, MayShare}
use Rattle.history_ids.proofs.TableIds.{shares}
use Rattle.history_ids.proofs.ids.declare.Goals as goal

pub declare_like-requires : goal.declare_like-requires
declare_like-requires c = shares c.args.table.now c.args.channel.now.schema c.in-Some.like c.requires.schemas (subst (λ (o : Option ℕ). MayShare (ids_in c.args.table.now) c.args.channel.now.schema o) c.in-Some.is c.requires.shares)
