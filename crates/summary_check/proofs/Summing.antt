-- All records of a file that were judged.
use Rattle.std.proofs.Common.{◌≡◌, ℕ, ◌+◌, List, [], ◌∷◌, ◌++◌, length, take, None, refl, sym, ap, subst, inl, ◌∙◌, append_assoc, append-nil, arith}
use Rattle.mcap_wire.specs.declared.faults.Cut.{Cut}
use Rattle.mcap_model.specs.Places.{At, Each}
use Rattle.mcap_model.specs.Tops.{Top, flattened, flat}
use Rattle.mcap_model.specs.Rules.{V7}
use Rattle.mcap_model.specs.Declarations.{TablesOf}
use Rattle.mcap_model.specs.declared.tables.Tables.{Tables}
use Rattle.mcap_model.specs.Plain.{cut_top}
use Rattle.mcap_model.specs.Valid.{Valid}
use Rattle.mcap_model.specs.Whole.{IsDataSection, V11, V12, V13, V14, V15, V16}
use Rattle.mcap_model.proofs.Flat.{flat_more}
use Rattle.mcap_model.proofs.Front.{IsTail, tail_not}
use Rattle.mcap_model.proofs.Lists.{each_cons, each_joined}
use Rattle.mcap_model.proofs.Places.{at_none}
use Rattle.index_check.specs.declared.section.Section.{Section}
use Rattle.index_check.specs.Chunks.{IndexesChunk}
use Rattle.index_check.specs.Extras.{IndexesAttachment, IndexesMetadata}
use Rattle.summary_read.specs.PartSteps.{cut_tops}
use Rattle.summary_read.specs.Steps.{Judged}
use Rattle.summary_check.specs.Body.{OrderJudged}
use Rattle.summary_check.specs.Files.{spelled_file}
use Rattle.summary_check.specs.Filed.{records_of, Filed}
use Rattle.summary_check.specs.Sectioned.{IsSectioned}
use Rattle.summary_check.specs.Told.{ToldOf}
use Rattle.summary_check.proofs.Declaring.{silent_flat}
use Rattle.summary_check.proofs.Keeping.{AllJudged, all_valid}
use Rattle.summary_check.proofs.Staying.{named_stay, chunks_stay, attachments_stay, metadata_stay}

module _ (tops : List Top) (bytes : List ℕ) (cuts : List Cut) (foot : Cut) (s : Section) (is : IsSectioned tops s) (filed : Filed tops bytes cuts foot s.behind) where
  abbrev body : List Top
  body = cut_tops bytes cuts

  abbrev end : Top
  end = cut_top bytes foot

  abbrev all : List Top
  all = records_of tops bytes cuts foot

  foot_not : (k : ℕ) → (k ≡ 2 → ⊥) → end.op ≡ k → ⊥
  foot_not k other e = let (summary, offsets, crc, footer) = filed.footer in other (sym e ∙ footer.kind)

  foot_silent : flattened end ≡ []
  foot_silent = silent_flat end (foot_not 3 (λ e. omega (arith, e))) (foot_not 4 (λ e. omega (arith, e))) (foot_not 5 (λ e. omega (arith, e))) (foot_not 6 (λ e. omega (arith, e)))

  none_more : (k : ℕ) → (k ≡ 2 → ⊥) → ((t : Top) → IsTail t → t.op ≡ k → ⊥) → Each (λ t. Judged t None) body → Each (λ t. t.op ≡ k → ⊥) (body ++ end ∷ [])
  none_more k other none judged =
      each_joined (λ t. t.op ≡ k → ⊥) body (end ∷ []) (λ n t at. let one = judged n t at in none t (record { kind = one.0; v6 = one.1 }))
      (each_cons (λ t. t.op ≡ k → ⊥) end [] (foot_not k other) (λ n t at. absurd (at_none n t at)))

  pub told_whole : Each (λ t. Judged t None) body → ToldOf all (length tops) s.chunks s.attachments s.metadata
  told_whole judged =
      let kept = is.kept in
      let laid = filed.laid in
      record {
        chunks = chunks_stay tops (body ++ end ∷ []) laid.ended s.chunks kept.chunks (none_more 6 (λ e. omega (arith, e)) (λ t tail. tail_not t 6 tail refl) judged);
        chunks_named = named_stay IndexesChunk tops (body ++ end ∷ []) s.chunks.spots kept.chunks_unnamed;
        attachments = attachments_stay tops (body ++ end ∷ []) s.attachments kept.attachments (none_more 9 (λ e. omega (arith, e)) (λ t tail. tail_not t 9 tail refl) judged);
        attachments_named = named_stay IndexesAttachment tops (body ++ end ∷ []) s.attachments.spots kept.attachments_unnamed;
        metadata = metadata_stay tops (body ++ end ∷ []) s.metadata kept.metadata (none_more 12 (λ e. omega (arith, e)) (λ t tail. tail_not t 12 tail refl) judged);
        metadata_named = named_stay IndexesMetadata tops (body ++ end ∷ []) s.metadata.spots kept.metadata_unnamed;
      }

  pub section_whole : IsDataSection all (let kept = is.kept in kept.section)
  section_whole =
      let kept = is.kept in
      let section = kept.is in
      inl (record {
        end = section.end;
        behind = section.behind ++ (body ++ end ∷ []);
        joined = ap (λ (l : List Top). l ++ (body ++ end ∷ [])) section.joined ∙ append_assoc kept.section (section.end ∷ section.behind) (body ++ end ∷ []);
        kind = section.kind;
        unended = section.unended;
      })

  pub tables_whole : (tables : Tables) → TablesOf (flat (tops ++ body)) tables → TablesOf (flat all) tables
  tables_whole tables are =
      let parts : all ≡ (tops ++ body) ++ end ∷ [] = sym (append_assoc tops body (end ∷ [])) in
      subst (λ (l : List Top). TablesOf l tables) (sym (ap flat parts ∙ flat_more (tops ++ body) end ∙ ap (λ (l : List Top). flat (tops ++ body) ++ l) foot_silent ∙ append-nil (flat (tops ++ body)))) are

  pub judged_valid : Each (λ t. Judged t None) body → ((k : ℕ) (t : Top) → At body k t → V7 (tops ++ take k body) t) → OrderJudged body None
      → ((k : ℕ) (t : Top) → At body k t → V12 all (length tops + k) t × V13 all (length tops + k) t)
      → ((k : ℕ) (t : Top) → At body k t → V14 all (length tops + k) t)
      → ((k : ℕ) (t : Top) → At body k t → V15 all (length tops + k) t)
      → V11 all (length tops + length body) end × V16 (spelled_file tops bytes) all (length tops + length body) end → Valid (spelled_file tops bytes) all
  judged_valid judged v7 order indexes statistics named last =
      let laid = filed.laid in
      let (summary, offsets, crc, footer) = filed.footer in
      let j : AllJudged (spelled_file tops bytes) tops body end = record {
        whole = filed.whole;
        ended = laid.ended;
        kinds = laid.kinds;
        good = is.good;
        v9 = is.v9;
        judged = judged;
        summary = summary;
        offsets = offsets;
        crc = crc;
        footer = footer;
        v7 = v7;
        order = order;
        indexes = indexes;
        statistics = statistics;
        named = named;
        places = last.0;
        v16 = last.1;
      } in
      all_valid (spelled_file tops bytes) tops body end j foot_silent
