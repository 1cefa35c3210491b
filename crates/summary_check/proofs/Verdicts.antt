-- The verdict on a valid file.
use Rattle.std.proofs.Common.{◌≡◌, ℕ, ◌+◌, Bool, true, List, [], ◌∷◌, ◌++◌, length, ap, ◌∙◌}
use Rattle.std.specs.Prelude.{◌↔◌}
use Rattle.mcap_wire.specs.declared.faults.Cut.{Cut}
use Rattle.mcap_model.specs.Places.{At}
use Rattle.mcap_model.specs.Tops.{Top, spelled}
use Rattle.mcap_model.specs.Plain.{cut_top}
use Rattle.mcap_model.specs.Whole.{V12}
use Rattle.summary_read.specs.PartSteps.{cut_tops}
use Rattle.index_check.specs.declared.section.Section.{Section}
use Rattle.summary_check.specs.Cutting.{AreCutBehind}
use Rattle.summary_check.specs.Files.{spelled_file}
use Rattle.summary_check.specs.Filed.{records_of}
use Rattle.summary_check.specs.FullIndex.{MakesFullyIndexed}
use Rattle.summary_check.specs.Judging.{KnownOf, IsJudged}
use Rattle.summary_check.proofs.Filing.{tops_are}
use Rattle.summary_check.proofs.FullyIndexing.{full_is, is_full}
use Rattle.summary_check.proofs.Laying.{body_there}

module _ (tops : List Top) (rest : List ℕ) (cuts : List Cut) (foot : Cut) (known : Section) (of : KnownOf tops rest cuts foot known) where
  pub rules_of : (k : ℕ) (t : Top) → At (cut_tops rest cuts) k t → (n : ℕ) × V12 (records_of tops rest cuts foot) n t
  rules_of k t at =
      let valid = of.valid in
      let v12 = valid.v12 in
      (length tops + k, v12 (length tops + k) t (body_there tops (cut_tops rest cuts) (cut_top rest foot) k t at))

  pub judged_of : (indexed : Bool) → AreCutBehind rest (cuts ++ foot ∷ []) → (indexed ≡ true) ↔ MakesFullyIndexed (records_of tops rest cuts foot) (cut_tops rest cuts) known.chunks.spots known.has_messages → IsJudged tops rest indexed
  judged_of indexed are iff =
      let told = of.told in
      let body = cut_tops rest cuts in
      let end = cut_top rest foot in
      let chunks = known.chunks in
      let has = known.has_messages in record {
        behind = body ++ end ∷ [];
        split = are.split ∙ ap spelled (tops_are tops rest cuts foot are);
        valid = of.valid;
        full = (
          (λ e. full_is (spelled_file tops rest) tops body end of.valid of.ended of.kinds of.judged of.foot_is chunks has told.chunks told.chunks_named of.at_top (iff.0 e)),
          λ full. iff.1 (is_full (spelled_file tops rest) tops body end of.valid of.ended of.kinds of.judged of.foot_is chunks has told.chunks told.chunks_named of.at_top full),
        );
      }
