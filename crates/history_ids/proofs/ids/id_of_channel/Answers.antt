use Rattle.std.specs.Prelude.{Option}
use Rattle.std.proofs.Common.{ℕ, subst}
use Rattle.history_ids.specs.Tables.{ids_in, MayShare}
use Rattle.history_ids.proofs.TableIds.{id_found, shares}
use Rattle.history_ids.proofs.ids.id_of_channel.Goals as goal

pub returns-in-None : goal.returns-in-None
returns-in-None c = id_found c.args.table.now c.args.channel.now c.find.result c.requires.schemas c.find.ensures.once c.find.ensures.found

pub returns-in-Some : goal.returns-in-Some
returns-in-Some c = id_found c.args.table.now c.args.channel.now c.find_like.result c.requires.schemas c.find_like.ensures.once c.find_like.ensures.found

pub find_like-requires : goal.find_like-requires
find_like-requires c = shares c.args.table.now c.args.channel.now.schema c.in-Some.like c.requires.schemas (subst (λ (o : Option ℕ). MayShare (ids_in c.args.table.now) c.args.channel.now.schema o) c.in-Some.is c.requires.shares)
