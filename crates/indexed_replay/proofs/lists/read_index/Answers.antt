use Rattle.std.proofs.Common.{ℕ, List, sym, subst}
use Rattle.std.proofs.lemmas.Bool.{both_ways}
use Rattle.rec_index.specs.Records.{ShowsMessageIndex}
use Rattle.mcap_model.specs.Tops.{Top}
use Rattle.mcap_model.specs.Made.{top}
use Rattle.mcap_model.specs.Fields.{IsMessageIndex}
use Rattle.indexed_replay.proofs.Adding.{same_there}
use Rattle.indexed_replay.proofs.lists.read_index.Goals as goal

pub returns-clause-told : goal.returns-clause-told
returns-clause-told g c = λ file told size t entries there is.
    let here = rw c.in-Some.is at (c.in-Ok.ensures.told file told size) in
    let same = same_there file c.args.spot.list t (top 7 c.in-Some.content.items) there here in
    let shows = subst (λ (u : Top). IsMessageIndex u c.args.spot.channel entries) same is in
    both_ways c.is_index_of.result c.if-is_index_of.false (c.is_index_of.ensures.1 (entries, subst (λ (l : List ℕ). ShowsMessageIndex l c.args.spot.channel entries) (sym c.deref.ensures.value) shows.layout))
