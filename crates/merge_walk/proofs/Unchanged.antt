-- When a walk finds a piece changed.
use Rattle.std.proofs.Common.{◌≡◌, ℕ, ◌+◌, List, length, map, refl, sym, ap, subst, inl, inr, ◌∙◌}
use Rattle.std.proofs.lemmas.List.{length-map}
use Rattle.mcap_model.specs.Places.{At}
use Rattle.mcap_model.specs.Tops.{records_in}
use Rattle.mcap_model.proofs.Places.{at_none}
use Rattle.mcap_model.proofs.Flat.{at_mapped}
use Rattle.merge_walk.specs.SpanHeads.{times_in}
use Rattle.merge_walk.proofs.ListedSpans.{times_listed}
use Rattle.mcap_scan.specs.declared.message_heads.MessageHead.{MessageHead}
use Rattle.mcap_scan.specs.Heads.{heads_in}
use Rattle.merge_walk.specs.Heads.{FitsSpan}
use Rattle.merge_walk.specs.WalkLaws.{SurveyedBytesFit, ToldPiecesStay}
use Rattle.merge_walk.proofs.Places.{undropped}

abbrev time_of : MessageHead → ℕ
time_of h = h.time

pub surveyed_fit : SurveyedBytesFit
surveyed_fit span bytes are many =
    let times = times_listed 0 (records_in bytes) in
    let long : length (times_in (heads_in bytes)) ≡ length (heads_in bytes) = length-map (heads_in bytes) time_of in
    record {
      many = sym long ∙ ap length times ∙ sym many;
      some = λ none.
          let there = are.least_there in
          at_none there.0 span.least (subst (λ (l : List ℕ). At l there.0 span.least) (sym times ∙ ap (map time_of) none) there.1);
      within = λ n e at. are.within n e.time (subst (λ (l : List ℕ). At l n e.time) times (at_mapped time_of (heads_in bytes) n e at));
    }

pub told_stay : ToldPiecesStay
told_stay files w input offset told apart (p, has, input_is, offset_is, cause) = elim cause [
  | inl changed ↦
      let (bytes, are, unfit) = changed in
      let there = undropped w.pieces.items w.next (w.next + has.0) has.0 p refl has.1 in
      let (file, at_file, fits) = told (w.next + has.0) p there in
      unfit (subst (FitsSpan p.span) (sym (are.told_is file at_file)) fits)
  | inr second ↦
      let (i, j, q, less, at_q, at_p, together) = second in
      apart i j q p less at_q at_p together
]
