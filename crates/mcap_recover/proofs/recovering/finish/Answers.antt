-- The file was ended, or the writer stopped.
use Rattle.std.proofs.Common.{Result, refl, subst}
use Rattle.mcap_model.specs.declared.ends.Stop.{Stop}
use Rattle.record_keeping.specs.declared.ending.KeptCounts.{KeptCounts}
use Rattle.record_keeping.specs.Ending.{EndedFile, new_file}
use Rattle.mcap_recover.proofs.recovering.finish.Goals as goal

pub returns-in-Ok : goal.returns-in-Ok
returns-in-Ok g c = record {
  ends = λ options extras opened history keeps.
      let state = g.L.LiveStore.state in
      let k = c.args.k in
      let (adds, counts, holds, still, through) =
      subst (λ (e : Result KeptCounts Stop). EndedFile (state k.scribe.store) (new_file options extras history) opened (state c.end_file-store.result.0) e) c.in-Ok.is (c.end_file-store.ensures.ends options extras opened history keeps) in
      let (messages, records, others) = counts in
      (adds, (refl, refl, messages, records, others), holds, still, through);
}

pub returns-in-Err : goal.returns-in-Err
returns-in-Err g c = record {
  ends = λ options extras opened history keeps.
      let state = g.L.LiveStore.state in
      subst (λ (e : Result KeptCounts Stop). EndedFile (state c.args.k.scribe.store) (new_file options extras history) opened (state c.end_file-store.result.0) e) c.in-Err.is (c.end_file-store.ensures.ends options extras opened history keeps);
}
