use Rattle.std.proofs.Common.{ℕ, ◌^◌, ◌<◌, Err, List, length, inl, sym, subst, ◌∙◌, arith}
use Rattle.mcap_model.specs.declared.replay.Replayed.{Replayed}
use Rattle.mcap_model.specs.Tops.{Top}
use Rattle.mcap_model.specs.Plain.{asked_topic}
use Rattle.mcap_model.specs.declared.refusals.IndexedRefused.TheVariants as by_index
use Rattle.indexed_replay.specs.Reaching.{nothing}
use Rattle.indexed_replay.specs.Costs.{IndexesCost}
use Rattle.summary_read.specs.Parts.{Parts, of_kind}
use Rattle.summary_read.specs.Loading.{AskedFor, LoadCause}
use Rattle.indexed_replay.proofs.Summed.{loaded_summary, summary_once}
use Rattle.indexed_replay.proofs.Bounded.{asked_bound}
use Rattle.indexed_replay.proofs.Apart.{apart_reason, tells_one}
use Rattle.indexed_replay.proofs.Ending.{load_reason, load_cause, load_unsummed, counts_reason, counts_agree, scan_replayed, asked_unplayed, asked_played}
use Rattle.indexed_replay.proofs.replaying.replay_kept.Goals as goal

pub returns-in-Err-load-clause-plays : goal.returns-in-Err-load-clause-plays
returns-in-Err-load-clause-plays g c = λ file told. load_reason file c.args.range c.in-Err-load.why (c.in-Err-load.ensures.loads file (c.in-Ok.ensures.bytes ∙ told))

pub returns-in-Err-load-clause-scanned : goal.returns-in-Err-load-clause-scanned
returns-in-Err-load-clause-scanned g c = λ file tops end messages told full halts scan.
    let few : length file < 2 ^ 64 = omega (arith, c.in-Ok.ensures.tells file told) in
    let reason = load_reason file c.args.range c.in-Err-load.why (c.in-Err-load.ensures.loads file (c.in-Ok.ensures.bytes ∙ told)) in
    scan_replayed file tops end messages c.args.range (asked_topic c.args.topic) (Err c.in-Err-load.why) few full halts scan reason

pub returns-in-Err-load-clause-cause : goal.returns-in-Err-load-clause-cause
returns-in-Err-load-clause-cause g c =
    let now = (g.T.Store.state c.load.new.store).faults in
    let measured = c.in-Ok.ensures.cause in
    load_cause Parts Replayed (g.T.Store.state c.args.store.now).faults now c.in-Err-load.why (subst (λ (n : ℕ). LoadCause {P = Parts} n now (Err c.in-Err-load.why)) measured.still c.in-Err-load.ensures.cause)

pub returns-in-Err-load-clause-unsummed : goal.returns-in-Err-load-clause-unsummed
returns-in-Err-load-clause-unsummed g c = λ file told none. load_unsummed file c.in-Err-load.why (c.in-Err-load.ensures.loads file (c.in-Ok.ensures.bytes ∙ told)) none

pub returns-in-Err-load-clause-asks : goal.returns-in-Err-load-clause-asks
returns-in-Err-load-clause-asks g c = λ file start summary header chosen cost told has there on are.
    asked_unplayed file c.args.range start summary header (g.T.Store.state c.args.store.now).asked (g.T.Store.state c.len.new.self).asked (g.T.Store.state c.load.new.store).asked cost has there (c.in-Err-load.ensures.asks file (c.in-Ok.ensures.bytes ∙ told)) (omega (arith, c.in-Ok.ensures.asked))

pub returns-in-Err-load-clause-bounded : goal.returns-in-Err-load-clause-bounded
returns-in-Err-load-clause-bounded g c = λ file tops end chosen bound told full halts on asked.
    asked_bound file tops end chosen bound (g.T.Store.state c.args.store.now).asked (g.T.Store.state c.load.new.store).asked c.args.range full halts asked (λ start summary header cost has there are. returns-in-Err-load-clause-asks g c file start summary header chosen cost told has there on are)

pub returns-in-Err-judge_counts-clause-plays : goal.returns-in-Err-judge_counts-clause-plays
returns-in-Err-judge_counts-clause-plays g c = λ file told. counts_reason file c.args.range c.in-Ok-load.loaded c.in-Err-judge_counts.why (c.in-Ok-load.ensures.loads file (c.in-Ok.ensures.bytes ∙ told)).0 c.in-Err-judge_counts.ensures

pub returns-in-Err-judge_counts-clause-scanned : goal.returns-in-Err-judge_counts-clause-scanned
returns-in-Err-judge_counts-clause-scanned g c = λ file tops end messages told full halts scan.
    let few : length file < 2 ^ 64 = omega (arith, c.in-Ok.ensures.tells file told) in
    scan_replayed file tops end messages c.args.range (asked_topic c.args.topic) (Err (by_index.NotIndexed c.in-Err-judge_counts.why)) few full halts scan
    (counts_reason file c.args.range c.in-Ok-load.loaded c.in-Err-judge_counts.why (c.in-Ok-load.ensures.loads file (c.in-Ok.ensures.bytes ∙ told)).0 c.in-Err-judge_counts.ensures)

pub returns-in-Err-judge_counts-clause-asks : goal.returns-in-Err-judge_counts-clause-asks
returns-in-Err-judge_counts-clause-asks g c = λ file start summary header chosen cost told has there on are.
    asked_unplayed file c.args.range start summary header (g.T.Store.state c.args.store.now).asked (g.T.Store.state c.len.new.self).asked (g.T.Store.state c.load.new.store).asked cost has there (c.in-Ok-load.ensures.asks file (c.in-Ok.ensures.bytes ∙ told)) (omega (arith, c.in-Ok.ensures.asked))

pub returns-in-Err-judge_counts-clause-bounded : goal.returns-in-Err-judge_counts-clause-bounded
returns-in-Err-judge_counts-clause-bounded g c = λ file tops end chosen bound told full halts on asked.
    asked_bound file tops end chosen bound (g.T.Store.state c.args.store.now).asked (g.T.Store.state c.load.new.store).asked c.args.range full halts asked (λ start summary header cost has there are. returns-in-Err-judge_counts-clause-asks g c file start summary header chosen cost told has there on are)

pub returns-clause-scanned : goal.returns-clause-scanned
returns-clause-scanned g c = λ file tops end messages told full halts scan.
    let few : length file < 2 ^ 64 = omega (arith, c.in-Ok.ensures.tells file told) in
    let now = c.in-Ok.ensures.bytes ∙ told in
    scan_replayed file tops end messages c.args.range (asked_topic c.args.topic) c.play.result few full halts scan (c.play.ensures.plays file (c.in-Ok-load.ensures.leaves.bytes ∙ now) (c.in-Ok-load.ensures.loads file now).0)

pub returns-clause-asks : goal.returns-clause-asks
returns-clause-asks g c = λ file start summary header chosen cost told has there on are.
    let now = c.in-Ok.ensures.bytes ∙ told in
    let loaded = (c.in-Ok-load.ensures.loads file now).0 in
    let listed = loaded.listed in
    let same = summary_once file start ((c.in-Ok-load.loaded).footer).summary_start summary loaded.tops has (loaded_summary file c.in-Ok-load.loaded loaded) in
    let own = subst (λ (l : List Top). IndexesCost file c.args.range chosen l cost) (sym listed.chunk_indexes) (subst (λ (l : List Top). IndexesCost file c.args.range chosen (of_kind 8 l) cost) same are) in
    asked_played file c.args.range start summary header (g.T.Store.state c.args.store.now).asked (g.T.Store.state c.len.new.self).asked (g.T.Store.state c.load.new.store).asked (g.T.Store.state c.play.new.store).asked cost has there (c.in-Ok-load.ensures.asks file now) (omega (arith, c.in-Ok.ensures.asked)) (c.play.ensures.asks file chosen cost (c.in-Ok-load.ensures.leaves.bytes ∙ now) loaded on own)

pub returns-clause-bounded : goal.returns-clause-bounded
returns-clause-bounded g c = λ file tops end chosen bound told full halts on asked.
    asked_bound file tops end chosen bound (g.T.Store.state c.args.store.now).asked (g.T.Store.state c.play.new.store).asked c.args.range full halts asked (λ start summary header cost has there are. returns-clause-asks g c file start summary header chosen cost told has there on are)

pub returns-clause-counted : goal.returns-clause-counted
returns-clause-counted g c = λ file told. counts_agree file c.in-Ok-load.loaded c.play.result (c.in-Ok-load.ensures.loads file (c.in-Ok.ensures.bytes ∙ told)).0 c.in-Ok-judge_counts.ensures

pub returns-in-Err-clause-unloaded : goal.returns-in-Err-clause-unloaded
returns-in-Err-clause-unloaded g c = λ file told none. inl (omega (arith, c.in-Err.ensures.asked))

pub returns-in-Err-load-clause-unloaded : goal.returns-in-Err-load-clause-unloaded
returns-in-Err-load-clause-unloaded g c = λ file told none. subst (λ (n : ℕ). AskedFor file n (g.T.Store.state c.load.new.store).asked) c.in-Ok.ensures.asked (c.in-Err-load.ensures.asks file (c.in-Ok.ensures.bytes ∙ told))

pub returns-in-Err-judge_counts-clause-unloaded : goal.returns-in-Err-judge_counts-clause-unloaded
returns-in-Err-judge_counts-clause-unloaded g c = λ file told none. subst (λ (n : ℕ). AskedFor file n (g.T.Store.state c.load.new.store).asked) c.in-Ok.ensures.asked (c.in-Ok-load.ensures.asks file (c.in-Ok.ensures.bytes ∙ told))

pub returns-clause-unloaded : goal.returns-clause-unloaded
returns-clause-unloaded g c = λ file told none. absurd (none c.in-Ok-load.loaded (c.in-Ok-load.ensures.loads file (c.in-Ok.ensures.bytes ∙ told)).0 c.in-Ok-judge_counts.ensures)

pub returns-in-Err-clause-asks : goal.returns-in-Err-clause-asks
returns-in-Err-clause-asks g c = λ file start summary header chosen cost told has there on are. (0, nothing, omega (arith, c.in-Err.ensures.asked))

pub returns-in-Err-check_apart-clause-plays : goal.returns-in-Err-check_apart-clause-plays
returns-in-Err-check_apart-clause-plays g c = λ file told. apart_reason file c.in-Ok-load.loaded (c.in-Ok-load.ensures.loads file (c.in-Ok.ensures.bytes ∙ told)).0 c.args.range c.in-Err-check_apart.why c.in-Err-check_apart.ensures

pub returns-in-Err-check_apart-clause-scanned : goal.returns-in-Err-check_apart-clause-scanned
returns-in-Err-check_apart-clause-scanned g c = λ file tops end messages told full halts scan.
    let few : length file < 2 ^ 64 = omega (arith, c.in-Ok.ensures.tells file told) in
    scan_replayed file tops end messages c.args.range (asked_topic c.args.topic) (Err (by_index.Refused c.in-Err-check_apart.why)) few full halts scan
    (apart_reason file c.in-Ok-load.loaded (c.in-Ok-load.ensures.loads file (c.in-Ok.ensures.bytes ∙ told)).0 c.args.range c.in-Err-check_apart.why c.in-Err-check_apart.ensures)

pub returns-in-Err-check_apart-clause-asks : goal.returns-in-Err-check_apart-clause-asks
returns-in-Err-check_apart-clause-asks g c = λ file start summary header chosen cost told has there on are.
    asked_unplayed file c.args.range start summary header (g.T.Store.state c.args.store.now).asked (g.T.Store.state c.len.new.self).asked (g.T.Store.state c.load.new.store).asked cost has there (c.in-Ok-load.ensures.asks file (c.in-Ok.ensures.bytes ∙ told)) (omega (arith, c.in-Ok.ensures.asked))

pub returns-in-Err-check_apart-clause-bounded : goal.returns-in-Err-check_apart-clause-bounded
returns-in-Err-check_apart-clause-bounded g c = λ file tops end chosen bound told full halts on asked.
    asked_bound file tops end chosen bound (g.T.Store.state c.args.store.now).asked (g.T.Store.state c.load.new.store).asked c.args.range full halts asked (λ start summary header cost has there are. returns-in-Err-check_apart-clause-asks g c file start summary header chosen cost told has there on are)

pub returns-in-Err-check_apart-clause-unloaded : goal.returns-in-Err-check_apart-clause-unloaded
returns-in-Err-check_apart-clause-unloaded g c = λ file told none. absurd (none c.in-Ok-load.loaded (c.in-Ok-load.ensures.loads file (c.in-Ok.ensures.bytes ∙ told)).0 c.in-Ok-judge_counts.ensures)

pub returns-clause-apart : goal.returns-clause-apart
returns-clause-apart g c = λ file told. tells_one file c.in-Ok-load.loaded (c.in-Ok-load.ensures.loads file (c.in-Ok.ensures.bytes ∙ told)).0 c.play.result c.in-Ok-check_apart.ensures
