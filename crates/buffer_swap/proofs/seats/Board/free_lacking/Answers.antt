use Rattle.std.proofs.Common.{rules, sym, subst}
use Rattle.rec_data.specs.declared.channel.ChannelDef.{ChannelDef}
use Rattle.record_core.specs.declared.answers.CallRefused.{CallRefused}
use Rattle.buffer_swap.specs.Plays.{LacksIdAt}
use Rattle.buffer_swap.proofs.Keeps.{frees_lacking}
use Rattle.buffer_swap.proofs.seats.Board.free_lacking.Goals as goal

pub store-requires : goal.store-requires
store-requires g c = (c.requires.id, search rules, frees_lacking _ _ _ _ c.requires.desk (subst (λ (pair : ChannelDef × CallRefused). LacksIdAt c.args.seat.now.me.0.hand pair) (sym c.requires.said) c.requires.lacks))
