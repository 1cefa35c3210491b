use Rattle.std.proofs.Common.{List, inl, inr, sym, subst, ap, ◌∙◌, arith}
use Rattle.mcap_model.specs.declared.replay.Shown.{Shown}
use Rattle.mcap_model.specs.declared.replay.Topic.{Topic}
use Rattle.mcap_model.specs.Plain.{AreNamed}
use Rattle.time_player.specs.Keeping.{kept_in}
use Rattle.time_player.specs.DataOfMessages.{data_in}
use Rattle.time_player.specs.Ordering.{IsOrdered}
use Rattle.indexed_replay.specs.Reaching.{nothing}
use Rattle.indexed_replay.proofs.Choosing.{chosen_on}
use Rattle.indexed_replay.proofs.Summed.{knows, loaded_summary}
use Rattle.indexed_replay.proofs.Playing.{are_indexed, added_led}
use Rattle.indexed_replay.proofs.Overfull.{apart_of, fills_reason}
use Rattle.indexed_replay.proofs.replaying.play.Goals as goal

pub returns-in-Err-gather-clause-plays : goal.returns-in-Err-gather-clause-plays
returns-in-Err-gather-clause-plays g c = λ file told loaded.
    let size = sym (c.requires.measured file told) in
    let known = knows file c.args.loaded.now loaded c.in-Ok.tables.channels c.in-Ok.ensures in
    let listed = loaded.listed in
    let indexed = are_indexed file ((c.args.loaded.now).footer).summary_start loaded.tops (c.args.loaded.now).chunk_indexes (c.args.loaded.now).chunk_index_offsets (loaded_summary file c.args.loaded.now loaded) listed.chunk_indexes loaded.placed in
    elim (c.in-Err-gather.ensures.told file told size known (apart_of file c.args.loaded.now loaded c.requires.apart)) [
      | inl refused ↦ refused indexed
      | inr fills ↦ fills_reason file _ c.args.loaded.now (kept_in c.new-shown.result) c.in-Err-gather.why loaded known indexed c.new-shown.ensures.none fills
    ]

pub returns-in-Ok-topics_of_kept-clause-plays : goal.returns-in-Ok-topics_of_kept-clause-plays
returns-in-Ok-topics_of_kept-clause-plays g c = λ file told loaded.
    let size = sym (c.requires.measured file told) in
    let known = knows file c.args.loaded.now loaded c.in-Ok.tables.channels c.in-Ok.ensures in
    let listed = loaded.listed in
    let adds = c.in-Ok-gather.ensures.told file told size known (apart_of file c.args.loaded.now loaded c.requires.apart) in
    let shown = sym c.new.ensures.shown in
    let named = subst (λ (l : List Topic). AreNamed c.in-Ok.tables.channels c.new.result.shown.items l) (sym (ap (λ v. v.items) c.new.ensures.topics)) (subst (λ (l : List Shown). AreNamed c.in-Ok.tables.channels l c.in-Ok-topics_of_kept.topics.items) shown c.in-Ok-topics_of_kept.ensures) in
    added_led file _ ((c.args.loaded.now).footer).summary_start loaded.tops (c.args.loaded.now).chunk_indexes (kept_in c.new-shown.result) (kept_in c.gather.new.shown) c.new.result adds c.new-shown.ensures.none (loaded_summary file c.args.loaded.now loaded) listed.chunk_indexes known
    (subst (λ (l : List Shown). IsOrdered (kept_in c.gather.new.shown) l) shown c.put_in_order_without_doubles.ensures.order) named

pub returns-in-Err-clause-asks : goal.returns-in-Err-clause-asks
returns-in-Err-clause-asks g c = λ file chosen cost told loaded on are. (0, nothing, omega arith)

pub returns-in-Err-gather-clause-asks : goal.returns-in-Err-gather-clause-asks
returns-in-Err-gather-clause-asks g c = λ file chosen cost told loaded on are.
    let size = sym (c.requires.measured file told) in
    let known = knows file c.args.loaded.now loaded c.in-Ok.tables.channels c.in-Ok.ensures in
    let listed = loaded.listed in
    c.in-Err-gather.ensures.asks file chosen cost told (chosen_on file _ chosen known on) size are known (are_indexed file ((c.args.loaded.now).footer).summary_start loaded.tops (c.args.loaded.now).chunk_indexes (c.args.loaded.now).chunk_index_offsets (loaded_summary file c.args.loaded.now loaded) listed.chunk_indexes loaded.placed)

pub returns-in-Ok-topics_of_kept-clause-asks : goal.returns-in-Ok-topics_of_kept-clause-asks
returns-in-Ok-topics_of_kept-clause-asks g c = λ file chosen cost told loaded on are. (0, nothing, omega (arith, c.in-Ok-gather.ensures.asks file chosen cost told (chosen_on file _ chosen (knows file c.args.loaded.now loaded c.in-Ok.tables.channels c.in-Ok.ensures) on) (sym (c.requires.measured file told)) are))

pub returns-in-Err-topics_of_kept-clause-asks : goal.returns-in-Err-topics_of_kept-clause-asks
returns-in-Err-topics_of_kept-clause-asks g c = λ file chosen cost told loaded on are. (0, nothing, omega (arith, c.in-Ok-gather.ensures.asks file chosen cost told (chosen_on file _ chosen (knows file c.args.loaded.now loaded c.in-Ok.tables.channels c.in-Ok.ensures) on) (sym (c.requires.measured file told)) are))

pub gather-requires-clause-fits : goal.gather-requires-clause-fits
gather-requires-clause-fits g c = record {
  exact = c.new-shown.ensures.empty ∙ sym (ap data_in c.new-shown.ensures.none);
  within = omega (arith, c.new-shown.ensures.empty);
}

pub returns-in-Ok-topics_of_kept-clause-room : goal.returns-in-Ok-topics_of_kept-clause-room
returns-in-Ok-topics_of_kept-clause-room g c = λ file told.
    let holds = c.in-Ok-gather.ensures.holds in
    omega (arith, ap data_in c.new.ensures.shown, c.put_in_order_without_doubles.ensures.fewer, holds.exact, holds.within, c.requires.measured file told)
