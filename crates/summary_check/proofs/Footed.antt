-- The Footer, and the places and the CRC that it names.
use Rattle.std.proofs.Common.{◌≡◌, ℕ, suc, ◌+◌, ◌-◌, ◌^◌, ◌<◌, ◌≤◌, List, [], ◌∷◌, ◌++◌, length, take, drop, Some, None, sym, ap, subst, inl, inr, ◌∙◌, append_assoc, arith}
use Rattle.std.specs.Prelude.{◌≢◌}
use Rattle.std.proofs.lemmas.List.{length-append, take-append-le, take_all, drop_at}
use Rattle.mcap_wire.specs.declared.faults.Cut.{Cut}
use Rattle.mcap_wire.specs.Layout.{magic, part}
use Rattle.rec_data.specs.declared.footer.Footer.{Footer}
use Rattle.mcap_model.specs.Places.{At, Each}
use Rattle.mcap_model.specs.Tops.{Top, spelled}
use Rattle.mcap_model.specs.Whole.{offset_of, is_last, NamesSummary, V11, V16}
use Rattle.mcap_model.specs.Valid.{FailsIn, Flaw, flaw_11, flaw_16}
use Rattle.mcap_model.specs.Plain.{cut_top}
use Rattle.mcap_model.proofs.Files.{footer_once}
use Rattle.mcap_model.proofs.Flat.{at_mapped}
use Rattle.mcap_model.proofs.Places.{at_within, at_kept, at_last}
use Rattle.mcap_model.proofs.Lists.{has_taken}
use Rattle.mcap_model.proofs.ReadBack.{at_map}
use Rattle.mcap_model.specs.declared.rules.Rule.TheVariants as rules
use Rattle.index_check.specs.declared.summary_places.SummaryPlaces.{SummaryPlaces}
use Rattle.index_check.proofs.Ends.{named_start}
use Rattle.index_check.specs.SummaryPlaces.{FirstStands, PlacesOf}
use Rattle.summary_read.specs.PartSteps.{cut_tops}
use Rattle.summary_check.specs.Closing.{IsOfFooter}
use Rattle.summary_check.specs.Files.{spelled_file}
use Rattle.summary_check.specs.Filed.{records_of, Filed}
use Rattle.summary_check.specs.Laid.{all_of, Laid}
use Rattle.summary_check.specs.Offsets.{Spans, SpanIs}
use Rattle.summary_check.proofs.Laying.{length-all, body_there, foot_there, body_back, body_within, within_body, behind_body, unended_front, offset_cut, offset_before}
use Rattle.summary_check.proofs.Onward.{length-tops}

-- ---- the first Summary Offset

module _ (tops : List Top) (bytes : List ℕ) (cuts : List Cut) (start : ℕ) (foot : Top) (laid : Laid tops bytes cuts start) where
  abbrev body : List Top
  body = cut_tops bytes cuts

  pub first_stands : (from to : ℕ) → Spans cuts 14 from to → (offset : ℕ) → offset ≡ start + (from - 9) → FirstStands (all_of tops body foot) (Some offset)
  first_stands from to s offset is =
      let c = s.first_cut in
      let at = at_mapped (cut_top bytes) cuts s.first c s.at_first in
      let within = at_within body s.first (cut_top bytes c) at in (
        length tops + s.first,
        cut_top bytes c,
        (
          body_there tops body foot s.first (cut_top bytes c) at,
          body_within tops body foot laid.ended s.first within,
          s.first_is,
          subst (Each (λ u. u.op ≢ 14)) (sym (behind_body tops body foot laid.ended s.first (omega (arith, within)))) none_before,
        ),
        omega (arith, is, s.from_is, offset_cut tops bytes cuts start foot laid s.first c s.at_first),
      )
    where
      none_before : Each (λ u. u.op ≢ 14) (take s.first body)
      none_before k u at same =
          let there = has_taken body s.first k u at in
          let cut = at_map (cut_top bytes) cuts k u there.1 in
          let from_first = (s.between k cut.0 cut.1 (ap (λ (t : Top). t.op) (sym cut.2) ∙ same)).0 in
          let below = there.0 in
          omega (arith, below, from_first)

  pub none_stands : SpanIs cuts 14 None → FirstStands (all_of tops body foot) None
  none_stands none k t (at, within, kind, _) =
      let (m, place, less) = within_body tops body foot laid.ended k within in
      let there = body_back tops body foot m t less (subst (λ (n : ℕ). At (all_of tops body foot) n t) place at) in
      let cut = at_map (cut_top bytes) cuts m t there in
      none m cut.0 cut.1 (ap (λ (u : Top). u.op) (sym cut.2) ∙ kind)

-- ---- the places

module _ (tops : List Top) (bytes : List ℕ) (cuts : List Cut) (foot : Cut) (start : ℕ) (filed : Filed tops bytes cuts foot start) where
  abbrev records : List Top
  records = cut_tops bytes cuts

  abbrev all : List Top
  all = records_of tops bytes cuts foot

  abbrev last : ℕ
  last = length tops + length records

  pub footer_offset : offset_of all last ≡ start + (foot.from - 9)
  footer_offset =
      let few : length records ≡ length cuts = length-tops bytes cuts in
      let here = ap (λ (n : ℕ). offset_of all (length tops + n)) few in
      let full = ap (λ (l : List Top). length (spelled l)) (take_all (length cuts) records (omega (arith, few))) in
      omega (arith, here, offset_before tops bytes cuts start (cut_top bytes foot) filed.laid (length cuts) (omega arith), full, filed.placed)

  pub fits : start + (foot.from - 9) < 2 ^ 64
  fits = let laid = filed.laid in omega (arith, laid.fits, filed.begins, filed.ends)

  pub places_are : (places : SummaryPlaces) → places.behind ≡ start → places.footer ≡ start + (foot.from - 9) → FirstStands all places.first_offset → PlacesOf all last places
  places_are places behind footer first =
      let laid = filed.laid in
      let e = laid.ended in
      let size = ap length e.joined in
      let room : length tops ≡ suc (length e.section) = omega (arith, size, length-append e.section (e.end ∷ [])) in
      let start_of : offset_of all (length tops) ≡ start =
      (let here : length tops ≡ length tops + 0 = omega arith in
      ap (offset_of all) here ∙ omega (arith, offset_before tops bytes cuts start (cut_top bytes foot) laid 0 (omega arith))) in
      record {
        end = length e.section;
        top = e.end;
        at = at_kept tops (records ++ cut_top bytes foot ∷ []) (length e.section) e.end (subst (λ (l : List Top). At l (length e.section) e.end) (sym e.joined) (at_last e.section e.end []));
        kind = e.kind;
        first = unended_front tops (records ++ cut_top bytes foot ∷ []) (length e.section) e (omega (arith, room));
        foot = cut_top bytes foot;
        at_foot = foot_there tops records (cut_top bytes foot);
        follows = omega (arith, room);
        behind = behind ∙ sym start_of ∙ ap (offset_of all) room;
        footer = footer ∙ sym footer_offset;
        offset = first;
      }

  module _ (f : Footer) (is : IsOfFooter bytes foot f) where
    pub places_keep : NamesSummary all last f.summary_start f.summary_offset_start → V11 all last (cut_top bytes foot)
    places_keep names = (
      λ summary offsets crc is_end other.
          let same = footer_once (cut_top bytes foot).content f.summary_start f.summary_offset_start f.summary_crc summary offsets crc is.layout other.layout in
          subst (λ (s : ℕ). NamesSummary all last s offsets) same.0 (subst (NamesSummary all last f.summary_start) same.1 names),
      λ within. absurd (let room = within.1 in omega (arith, room, length-all tops records (cut_top bytes foot))),
    )

    is_end : is_last all last
    is_end = length-all tops records (cut_top bytes foot)

    fails_last : (R : List Top → ℕ → Top → Type 0) (offset : ℕ) → offset ≡ start + (foot.from - 9) → (R all last (cut_top bytes foot) → ⊥) → FailsIn R (spelled_file tops bytes) offset
    fails_last R offset there breaks = record {
      tops = all;
      whole = filed.whole;
      place = last;
      top = cut_top bytes foot;
      at = foot_there tops records (cut_top bytes foot);
      there = there ∙ sym footer_offset;
      breaks = breaks;
    }

    pub places_flaw : (offset : ℕ) → offset ≡ start + (foot.from - 9) → (NamesSummary all last f.summary_start f.summary_offset_start → ⊥) → Flaw (spelled_file tops bytes) rules.V11 offset
    places_flaw offset there bad = flaw_11 offset (fails_last V11 offset there (λ v. bad (v.0 f.summary_start f.summary_offset_start f.summary_crc is_end is)))

    pub crc_unasked : f.summary_start ≡ 0 → V16 (spelled_file tops bytes) all last (cut_top bytes foot)
    crc_unasked none = λ summary offsets crc end other some asked.
        let same = footer_once (cut_top bytes foot).content f.summary_start f.summary_offset_start f.summary_crc summary offsets crc is.layout other.layout in
        absurd (some (sym same.0 ∙ none))

    pub crc_flaw : (offset : ℕ) → offset ≡ start + (foot.from - 9) → (V16 (spelled_file tops bytes) all last (cut_top bytes foot) → ⊥) → Flaw (spelled_file tops bytes) rules.V16 offset
    crc_flaw offset there bad = flaw_16 offset (fails_last (V16 (spelled_file tops bytes)) offset there bad)

    -- the bytes that the CRC covers
    pub covered : (places : SummaryPlaces) → PlacesOf all last places → places.behind ≡ start → foot.from + 16 ≤ length bytes → NamesSummary all last f.summary_start f.summary_offset_start → f.summary_start ≢ 0
        → take (foot.from + 16) bytes ≡ part f.summary_start (offset_of all last + 25) (spelled_file tops bytes)
    covered places are behind room names some =
        let laid = filed.laid in
        let front : f.summary_start ≡ length (magic ++ spelled tops) = starts ∙ laid.there ∙ sym (length-append magic (spelled tops)) in
        let split : spelled_file tops bytes ≡ (magic ++ spelled tops) ++ (bytes ++ magic) = sym (append_assoc magic (spelled tops) (bytes ++ magic)) in
        let rest : drop f.summary_start (spelled_file tops bytes) ≡ bytes ++ magic = ap (drop f.summary_start) split ∙ drop_at (magic ++ spelled tops) (bytes ++ magic) f.summary_start (sym front) in
        let count : (offset_of all last + 25) - f.summary_start ≡ foot.from + 16 = omega (arith, footer_offset, starts, filed.placed) in
        sym (ap (λ (l : List ℕ). take ((offset_of all last + 25) - f.summary_start) l) rest ∙ ap (λ (n : ℕ). take n (bytes ++ magic)) count ∙ take-append-le (foot.from + 16) bytes magic room)
      where
        starts : f.summary_start ≡ start
        starts = elim (named_start all last f.summary_start f.summary_offset_start places are names) [
          | inl there ↦ there ∙ behind
          | inr none ↦ absurd (some none.0)
        ]
