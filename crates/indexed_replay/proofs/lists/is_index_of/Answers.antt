use Rattle.std.proofs.Common.{ℕ, subst}
use Rattle.std.proofs.lemmas.Bool.{eqb-true, eq-eqb}
use Rattle.rec_index.specs.Records.{ShowsMessageIndex}
use Rattle.indexed_replay.proofs.Wanting.{index_once}
use Rattle.indexed_replay.proofs.lists.is_index_of.Goals as goal

pub returns-in-Ok : goal.returns-in-Ok
returns-in-Ok c = (
  λ is. (c.in-Ok.index.entries, subst (λ (n : ℕ). ShowsMessageIndex c.args.content.now n c.in-Ok.index.entries) (eqb-true c.in-Ok.index.channel_id c.args.channel is) c.in-Ok.ensures.shown),
  λ shows. eq-eqb c.in-Ok.index.channel_id c.args.channel (index_once c.args.content.now c.in-Ok.index.channel_id c.args.channel c.in-Ok.index.entries shows.0 c.in-Ok.ensures.shown shows.1).0,
)

pub returns-in-Err : goal.returns-in-Err
returns-in-Err c = (λ is. absurd (Rattle.std.proofs.lemmas.Bool.false≢true is), λ shows. absurd (c.in-Err.ensures.none c.args.channel shows.0 shows.1))
