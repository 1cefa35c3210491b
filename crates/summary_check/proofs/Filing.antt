-- A file of a data section and the records that were cut behind it.
use Rattle.std.proofs.Common.{◌≡◌, ℕ, ◌+◌, ◌-◌, ◌^◌, ◌<◌, ◌≤◌, List, [], ◌∷◌, ◌++◌, length, take, drop, refl, sym, ap, subst, inl, inr, ◌∙◌, append_assoc, arith}
use Rattle.std.proofs.lemmas.List.{length-drop, length-take, take-append-le}
use Rattle.std.proofs.Math.Seq.{take-append_seam}
use Rattle.std.proofs.lemmas.Grind.{flat_map-append}
use Rattle.mcap_wire.specs.declared.faults.Cut.{Cut}
use Rattle.mcap_wire.specs.Layout.{magic}
use Rattle.rec_data.specs.declared.footer.Footer.{Footer}
use Rattle.mcap_model.specs.Places.{At, Each}
use Rattle.mcap_model.specs.Tops.{Top, top_bytes, spelled, offset_behind}
use Rattle.mcap_model.specs.Fields.{IsFooter}
use Rattle.mcap_model.specs.Kept.{reading_limits, Good}
use Rattle.mcap_model.specs.Rules.{HasDataEnd, V3, V5}
use Rattle.mcap_model.specs.Whole.{AreShort, IsWhole, V17}
use Rattle.mcap_model.specs.Valid.{Flaw, flaw_17, IsPlain}
use Rattle.mcap_model.specs.Plain.{cut_top}
use Rattle.mcap_model.proofs.Flat.{map-append}
use Rattle.mcap_model.proofs.Lists.{each_joined}
use Rattle.mcap_model.proofs.Places.{at_none, at_within, at_kept, at_last, last_apart}
use Rattle.mcap_model.proofs.Readings.{short_there}
use Rattle.mcap_model.proofs.TakenRecords.{ended_more}
use Rattle.mcap_model.specs.declared.rules.Rule.TheVariants as rules
use Rattle.index_check.specs.declared.section.Section.{Section}
use Rattle.summary_read.specs.PartSteps.{cut_tops, AreInside}
use Rattle.summary_read.proofs.FileEnds.{footer_size}
use Rattle.summary_check.specs.Closing.{IsOfFooter, NoFooter}
use Rattle.summary_check.specs.Cutting.{ArePlaced, AreCutBehind}
use Rattle.summary_check.specs.Files.{spelled_file}
use Rattle.summary_check.specs.Filed.{records_of, Filed}
use Rattle.summary_check.specs.Laid.{EndsWithDataEnd, IsFrontRecord}
use Rattle.summary_check.specs.Sectioned.{IsSectioned}
use Rattle.summary_check.proofs.Cuts.{size_of}
use Rattle.summary_check.proofs.Onward.{length-tops}

-- ---- the data section

nothing_behind : (tops section behind : List Top) (end : Top) → Good reading_limits tops → tops ≡ section ++ end ∷ behind → end.op ≡ 15 → behind ≡ []
nothing_behind tops section [] end good joined kind = refl
nothing_behind tops section (t ∷ ts) end good joined kind =
    let same : tops ≡ (section ++ end ∷ []) ++ t ∷ ts = joined ∙ sym (append_assoc section (end ∷ []) (t ∷ ts)) in
    let at : At tops (length (section ++ end ∷ [])) t = subst (λ (l : List Top). At l (length (section ++ end ∷ [])) t) (sym same) (at_last (section ++ end ∷ []) t ts) in
    let front : take (length (section ++ end ∷ [])) tops ≡ section ++ end ∷ [] = ap (take (length (section ++ end ∷ []))) same ∙ take-append_seam (section ++ end ∷ []) (t ∷ ts) in
    let fits = good (length (section ++ end ∷ [])) t at in
    absurd (fits.unended (subst HasDataEnd (sym front) (ended_more section end kind)))

pub sectioned_ended : (tops : List Top) (s : Section) → IsSectioned tops s → EndsWithDataEnd tops
sectioned_ended tops s is =
    let kept = is.kept in
    let section = kept.is in
    let none = nothing_behind tops kept.section section.behind section.end is.good section.joined section.kind in
    record {
      section = kept.section;
      end = section.end;
      joined = section.joined ∙ ap (λ (l : List Top). kept.section ++ section.end ∷ l) none;
      kind = section.kind;
      unended = section.unended;
    }

pub section_is : (tops : List Top) (s : Section) (is : IsSectioned tops s) → (let kept = is.kept in kept.section) ≡ (let ended = sectioned_ended tops s is in ended.section)
unfolding sectioned_ended
section_is tops s is = refl

pub sectioned_kinds : (tops : List Top) (s : Section) → IsSectioned tops s → Each IsFrontRecord tops
sectioned_kinds tops s is n t at =
    let fits = is.good n t at in
    by (take n tops) fits.v3 fits.v5 fits.unended
  where
    by : (before : List Top) → V3 before t → V5 before t → (HasDataEnd before → ⊥) → IsFrontRecord t
    by [] v3 v5 unended = inl v3.kind
    by (x ∷ xs) v3 v5 unended = elim v5.1 [
      | inl has ↦ absurd (unended has)
      | inr stands ↦ inr stands
    ]

pub sectioned_plain : (tops : List Top) (s : Section) → IsSectioned tops s → Each IsPlain tops
sectioned_plain tops s is n t at = let fits = is.good n t at in fits.plain

pub sectioned_short : (tops : List Top) (s : Section) → IsSectioned tops s → AreShort tops
sectioned_short tops s is n t at = let fits = is.good n t at in short_there (offset_behind (take n tops)) (length t.content) fits.within

-- ---- the whole file

module _ (tops : List Top) (bytes : List ℕ) (cuts : List Cut) (foot : Cut) (are : AreCutBehind bytes (cuts ++ foot ∷ [])) where
  pub tops_are : cut_tops bytes (cuts ++ foot ∷ []) ≡ cut_tops bytes cuts ++ cut_top bytes foot ∷ []
  tops_are = map-append (cut_top bytes) cuts (foot ∷ [])

  pub whole_of : AreShort tops → IsWhole (spelled_file tops bytes) (records_of tops bytes cuts foot)
  whole_of short = record {
    split =
        let text : spelled (records_of tops bytes cuts foot) ≡ spelled tops ++ bytes =
        flat_map-append top_bytes tops (cut_tops bytes cuts ++ cut_top bytes foot ∷ []) ∙ ap (λ (l : List ℕ). spelled tops ++ l) (ap spelled (sym tops_are) ∙ sym are.split) in
        ap (λ (l : List ℕ). magic ++ l) (sym (append_assoc (spelled tops) bytes magic) ∙ ap (λ (l : List ℕ). l ++ magic) (sym text));
    short = each_joined (λ (t : Top). length t.content < 2 ^ 64) tops (cut_tops bytes cuts ++ cut_top bytes foot ∷ []) short (λ n t at.
        let read = are.read n t (subst (λ (l : List Top). At l n t) (sym tops_are) at) in
        let few = read.short in
        omega (arith, few));
  }

  pub foot_inside : (foot.from ≤ foot.to) × (foot.to ≤ length bytes)
  foot_inside = are.inside (length cuts) foot (at_last cuts foot [])

  foot_placed : foot.from ≡ length (spelled (cut_tops bytes cuts)) + 9
  foot_placed =
      let placed = are.placed (length cuts) foot (at_last cuts foot []) in
      let count : length cuts ≡ length (cut_tops bytes cuts) = sym (length-tops bytes cuts) in
      let front : take (length cuts) (cut_tops bytes (cuts ++ foot ∷ [])) ≡ cut_tops bytes cuts =
      ap (take (length cuts)) tops_are ∙ ap (λ (n : ℕ). take n (cut_tops bytes cuts ++ cut_top bytes foot ∷ [])) count ∙ take-append_seam (cut_tops bytes cuts) (cut_top bytes foot ∷ []) in
      placed ∙ ap (λ (l : List Top). length (spelled l) + 9) front

  pub body_inside : AreInside bytes cuts
  body_inside n c at = are.inside n c (at_kept cuts (foot ∷ []) n c at)

  body_placed : ArePlaced bytes cuts
  body_placed k c at =
      let within = at_within cuts k c at in
      let front : take k (cut_tops bytes (cuts ++ foot ∷ [])) ≡ take k (cut_tops bytes cuts) =
      ap (take k) tops_are ∙ take-append-le k (cut_tops bytes cuts) (cut_top bytes foot ∷ []) (omega (arith, within, length-tops bytes cuts)) in
      are.placed k c (at_kept cuts (foot ∷ []) k c at) ∙ ap (λ (l : List Top). length (spelled l) + 9) front

  pub filed_of : (s : Section) (f : Footer) → IsSectioned tops s → IsOfFooter bytes foot f → s.behind + length bytes < 2 ^ 64 → Filed tops bytes cuts foot s.behind
  filed_of s f is footer room =
      let kept = is.kept in
      record {
        laid = record {
          ended = sectioned_ended tops s is;
          kinds = sectioned_kinds tops s is;
          there = kept.behind;
          inside = body_inside;
          placed = body_placed;
          fits = room;
        };
        whole = whole_of (sectioned_short tops s is);
        plain = sectioned_plain tops s is;
        begins = foot_inside.0;
        ends = foot_inside.1;
        placed = foot_placed;
        footer = (f.summary_start, f.summary_offset_start, f.summary_crc, footer);
      }

  -- a Footer has twenty bytes
  pub footer_room : (f : Footer) → IsOfFooter bytes foot f → foot.from + 16 ≤ length bytes
  footer_room f footer =
      let size = footer_size (cut_top bytes foot) f footer in
      omega (arith, size, length-take (foot.to - foot.from) (drop foot.from bytes), length-drop foot.from bytes, foot_inside.0, foot_inside.1)

-- ---- a file without a Footer

last_same : (xs ys : List Top) (x y : Top) → xs ++ x ∷ [] ≡ ys ++ y ∷ [] → x ≡ y
last_same xs ys x y same = (last_apart (λ (t : Top). ⊥) xs ys x y [] [] same (λ e. e) (λ e. e) (λ n t at. absurd (at_none n t at)) (λ n t at. absurd (at_none n t at))).0

no_end : (tops before : List Top) (last : Top) → tops ≡ before ++ last ∷ [] → ((summary offsets crc : ℕ) → IsFooter last summary offsets crc → ⊥) → V17 tops → ⊥
no_end tops before last joined none (front, t, same, (summary, offsets, crc, footer), _) =
    none summary offsets crc (subst (λ (x : Top). IsFooter x summary offsets crc) (last_same front before t last (sym same ∙ joined)) footer)

end_flaw : (tops all : List Top) (rest : List ℕ) (offset : ℕ) → IsWhole (spelled_file tops rest) all → (V17 all → ⊥) → offset ≡ offset_behind tops + (length rest + 8) - 37 → Flaw (spelled_file tops rest) rules.V17 offset
end_flaw tops all rest offset whole bad there =
    let same : length (spelled_file tops rest) - 37 ≡ offset = omega (arith, size_of tops rest, there) in
    subst (Flaw (spelled_file tops rest) rules.V17) same (flaw_17 (inr (all, whole, bad)))

-- nothing stands behind the Data End
pub nothing_flaw : (tops : List Top) (bytes : List ℕ) (offset : ℕ) → EndsWithDataEnd tops → AreShort tops → AreCutBehind bytes [] → offset ≡ offset_behind tops + (length bytes + 8) - 37 → Flaw (spelled_file tops bytes) rules.V17 offset
nothing_flaw tops bytes offset ended short are there =
    end_flaw tops tops bytes offset (record { split = ap (λ (l : List ℕ). magic ++ (spelled tops ++ (l ++ magic))) are.split; short = short })
    (no_end tops ended.section ended.end ended.joined (λ summary offsets crc footer. omega (arith, ended.kind, footer.kind))) there

-- the last record is no Footer
pub footless_flaw : (tops : List Top) (bytes : List ℕ) (cuts : List Cut) (foot : Cut) (offset : ℕ) → AreShort tops → AreCutBehind bytes (cuts ++ foot ∷ []) → NoFooter bytes foot → offset ≡ offset_behind tops + (length bytes + 8) - 37 → Flaw (spelled_file tops bytes) rules.V17 offset
footless_flaw tops bytes cuts foot offset short are none there =
    end_flaw tops (records_of tops bytes cuts foot) bytes offset (whole_of tops bytes cuts foot are short)
    (no_end (records_of tops bytes cuts foot) (tops ++ cut_tops bytes cuts) (cut_top bytes foot) (sym (append_assoc tops (cut_tops bytes cuts) (cut_top bytes foot ∷ []))) none) there
