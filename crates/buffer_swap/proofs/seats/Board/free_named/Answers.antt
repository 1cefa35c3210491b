use Rattle.std.proofs.Common.{rules, sym, subst, ℕ}
use Rattle.rec_data.specs.declared.channel.ChannelDef.{ChannelDef}
use Rattle.buffer_swap.specs.Plays.{NamedAt}
use Rattle.buffer_swap.proofs.Keeps.{frees_named}
use Rattle.buffer_swap.proofs.seats.Board.free_named.Goals as goal

pub store-requires : goal.store-requires
store-requires g c = (c.requires.id, search rules, frees_named _ _ _ _ c.requires.desk (subst (λ (pair : ℕ × ChannelDef). NamedAt c.args.seat.now.me.0.hand pair) (sym c.requires.said) c.requires.named))
