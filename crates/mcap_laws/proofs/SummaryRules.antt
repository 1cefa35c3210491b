-- The order of a summary, its Summary Offsets and its CRC.
use Rattle.std.proofs.Common.{◌≡◌, ℕ, zero, suc, ◌+◌, ◌-◌, ◌<◌, ◌≤◌, ◌⊎◌, Bool, true, false, List, [], ◌∷◌, ◌++◌, length, get_or, take, drop, map, cond, refl, sym, ap, subst, inl, inr, ◌∙◌, append_assoc, arith}
use Rattle.std.specs.Prelude.{◌≢◌, filter}
use Rattle.std.specs.List.{flat_map}
use Rattle.std.proofs.Math.Seq.{take-append_seam}
use Rattle.std.proofs.lemmas.Bool.{both_ways, cases_lt, ne_eqb}
use Rattle.std.proofs.lemmas.List.{append-nil, length-append, take-append-le, take_at, drop_at}
use Rattle.std.proofs.lemmas.Grind.{flat_map-append}
use Rattle.mcap_wire.specs.Layout.{le, framed, magic, part}
use Rattle.mcap_wire.proofs.Numbers.{length-le}
use Rattle.mcap_crc.specs.Remainder.{remainder}
use Rattle.mcap_crc.proofs.RemainderLemmas.{remainder-lt}
use Rattle.rec_data.specs.Records.{footer_text}
use Rattle.rec_data.proofs.Contents.{footer_shown, length-footer_text}
use Rattle.rec_index.specs.Records.{summary_offset_text}
use Rattle.mcap_model.specs.Places.{At, Each}
use Rattle.mcap_model.specs.Tops.{Top, top_bytes, spelled, offset_behind}
use Rattle.mcap_model.specs.Fields.{IsHeader, IsFooter, IsSummaryOffset}
use Rattle.mcap_model.specs.Rules.{HasDataEnd}
use Rattle.mcap_model.specs.Whole.{offset_of, is_last, InSummary, behind_end, is_known, known_behind_end, StartsWith, EndsWith, NamesSummary, IsInPlace, V11, IsGroup, V15, V16}
use Rattle.mcap_model.specs.Valid.{Keeps}
use Rattle.mcap_model.specs.Summary.{Noted, Group, group_bytes, groups_of, has_some, offset_contents, footer_of_offsets, group_fields}
use Rattle.mcap_model.proofs.Places.{at_none, at_within, at_one, at_kept, at_read}
use Rattle.mcap_model.proofs.ReadBack.{at_map}
use Rattle.mcap_model.proofs.Readings.{top_of, length-top}
use Rattle.mcap_model.proofs.Lists.{at_second, cut_flat, each_taken, has_taken, at_either, at_taken, take_second, filter_passed, pairs_at}
use Rattle.mcap_model.proofs.Cutting.{last_of}
use Rattle.mcap_model.proofs.Flat.{map-append}
use Rattle.mcap_model.proofs.Edges.{end_top}
use Rattle.mcap_model.proofs.Shape.{whole, ends_there, ends_never, at_summary, end_there, before_summary, before_end}
use Rattle.mcap_model.proofs.Section.{IsRight}
use Rattle.mcap_model.proofs.Files.{group_tops, groups_tops, offset_tops, footer_top, summary_crc, groups_spelled, offsets_spelled, framed_spelled, length-spelled_append, footer_once}
use Rattle.mcap_model.proofs.Groups.{in_front, in_group, op_of, same_group, inside_group, stand_together, stands_once, offset_group, bytes_front, IsOfKind, of_kind_there, kinds_rise}
use Rattle.mcap_model.proofs.ShownBack.{summary_offset_shows}
use Rattle.mcap_model.proofs.Front.{IsTail, summary_only, last_is, unended}
use Rattle.mcap_laws.proofs.Tails.{all_groups, full_groups, full_tops, full_apart, each_full, with_offsets, with_offsets_tops, groups_apart, six_kinds, offsets_group, NotedFits, summary_tail, group_room}
use Rattle.mcap_model.proofs.OneMore.{take_next}

-- what stands behind the Data End
pub cut_end : (section more : List Top) → Each (λ t. t.op ≢ 15) section → behind_end (section ++ end_top ∷ more) ≡ more
cut_end [] more none = refl
cut_end (t ∷ ts) more none =
    ap (λ (b : Bool). cond b (ts ++ end_top ∷ more) (behind_end (ts ++ end_top ∷ more))) (ne_eqb t.op 15 (none 0 t refl))
    ∙ cut_end ts more (λ n x at. none (suc n) x at)

all_known : (tops : List Top) → Each (λ t. is_known t.op ≡ true) tops → filter (λ t. is_known t.op) tops ≡ tops
all_known [] each = refl
all_known (t ∷ ts) each =
    ap (λ (b : Bool). cond b (t ∷ filter (λ x. is_known x.op) ts) (filter (λ x. is_known x.op) ts)) (each 0 t refl)
    ∙ ap (λ (l : List Top). t ∷ l) (all_known ts (λ n x at. each (suc n) x at))

-- the records of a group that isn't empty
starts_by : (op : ℕ) (contents : List (List ℕ)) → has_some contents ≡ true → StartsWith op (map (top_of op) contents)
starts_by op [] some = absurd (both_ways false refl some)
starts_by op (c ∷ cs) some = (top_of op c, map (top_of op) cs, refl, refl)

ends_by : (op : ℕ) (contents : List (List ℕ)) → has_some contents ≡ true → EndsWith op (map (top_of op) contents)
ends_by op [] some = absurd (both_ways false refl some)
ends_by op (c ∷ cs) some = let (front, l, same) = last_of c cs in (map (top_of op) front, top_of op l, ap (map (top_of op)) same ∙ map-append (top_of op) front (l ∷ []), refl)

join_group : (s a g m o f : List Top) (e : Top) → s ++ e ∷ (((a ++ (g ++ m)) ++ o) ++ f) ≡ (s ++ e ∷ a) ++ (g ++ ((m ++ o) ++ f))
join_group s a g m o f e = simp append_assoc refl

-- the first 25 bytes of a Footer are those in front of its CRC
footer_front : (a b c : ℕ) → take 25 (framed 2 (footer_text (footer_of_offsets a b c))) ≡ 2 ∷ (le 8 20 ++ (le 8 a ++ le 8 b))
footer_front a b c =
    let size : length (2 ∷ (le 8 20 ++ (le 8 a ++ le 8 b))) ≡ 25 = omega (arith, length-append (le 8 20) (le 8 a ++ le 8 b), length-append (le 8 a) (le 8 b), length-le 8 20, length-le 8 a, length-le 8 b) in
    let parts : framed 2 (footer_text (footer_of_offsets a b c)) ≡ (2 ∷ (le 8 20 ++ (le 8 a ++ le 8 b))) ++ (le 4 c ++ []) =
    ap (λ (n : ℕ). 2 ∷ (le 8 n ++ (le 8 a ++ (le 8 b ++ (le 4 c ++ []))))) (length-footer_text (footer_of_offsets a b c))
    ∙ ap (λ (l : List ℕ). 2 ∷ (le 8 20 ++ l)) (sym (append_assoc (le 8 a) (le 8 b) (le 4 c ++ [])))
    ∙ ap (λ (l : List ℕ). 2 ∷ l) (sym (append_assoc (le 8 20) (le 8 a ++ le 8 b) (le 4 c ++ []))) in
    ap (take 25) parts ∙ take_at (2 ∷ (le 8 20 ++ (le 8 a ++ le 8 b))) (le 4 c ++ []) 25 size

module _ (header : Top) (body : List Top) (n : Noted) (at : ℕ) (is_header : IsHeader header) (right : Each IsRight body) (fits : NotedFits n at) (at_is : at ≡ offset_behind ((header ∷ body) ++ end_top ∷ [])) where
  abbrev summary : List Top
  summary = groups_tops (groups_of n) ++ offset_tops at (groups_of n)

  abbrev behind_groups : ℕ
  behind_groups = at + length (flat_map group_bytes (groups_of n))

  abbrev foot : Top
  foot = footer_top at behind_groups (summary_crc n at)

  abbrev tops : List Top
  tops = whole (header ∷ body) summary foot

  pub foot_is : IsFooter foot at behind_groups (summary_crc n at)
  foot_is =
      let room = fits.room in
      record { kind = refl; layout = footer_shown (footer_of_offsets at behind_groups (summary_crc n at)) (omega (arith, room)) (omega (arith, room)) (remainder-lt _) }

  tail : Each IsTail summary
  tail = summary_tail n at fits

  pub never : Each (λ t. t.op ≢ 15) (header ∷ body)
  never = unended header body summary foot at behind_groups (summary_crc n at) is_header right tail foot_is

  -- the offsets of the records of the summary
  pub summary_offset : (k : ℕ) → k ≤ length summary → offset_of tops (suc (suc (length body)) + k) ≡ at + length (spelled (take k summary))
  summary_offset k few =
      let front = ap offset_behind (before_summary (header ∷ body) summary foot k few ∙ sym (append_assoc (header ∷ body) (end_top ∷ []) (take k summary))) in
      let parts = length-spelled_append ((header ∷ body) ++ end_top ∷ []) (take k summary) in
      omega (arith, front, parts, at_is)

  full_at : (k : ℕ) (t : Top) → At summary k t → At (groups_tops (full_groups at n)) k t
  full_at k t there = subst (λ (l : List Top). At l k t) (sym (full_tops at n)) there

  offsets_at : (k : ℕ) (t : Top) → At summary k t → At (groups_tops (with_offsets at n)) k t
  offsets_at k t there = subst (λ (l : List Top). At l k t) (sym (with_offsets_tops at n)) there

  -- a Summary Offset
  offset_there : (k : ℕ) (t : Top) → At summary k t → t.op ≡ 14 → IsOfKind (full_groups at n) 14 (offset_contents at (groups_of n)) k t
  offset_there k t there kind = of_kind_there (full_groups at n) 14 (offset_contents at (groups_of n))
      (each_full (λ g. g.op ≡ 14 → g ≡ record { op = 14; contents = offset_contents at (groups_of n) }) at n (λ e. absurd (omega (arith, e))) (λ e. absurd (omega (arith, e))) (λ e. absurd (omega (arith, e))) (λ e. absurd (omega (arith, e))) (λ e. absurd (omega (arith, e))) (λ e. absurd (omega (arith, e))) (λ e. refl))
      k t (full_at k t there) kind

  -- Summary Offsets stand behind the groups
  offset_late : (k : ℕ) (t : Top) → At summary k t → t.op ≡ 14 → length (groups_tops (groups_of n)) ≤ k
  offset_late k t there kind = elim (cases_lt k (length (groups_tops (groups_of n)))) [
    | inl early ↦
        let i = in_group (groups_of n) k t (early_at (groups_tops (groups_of n)) k early there) in
        let other = six_kinds (λ op. op ≢ 14) (λ e. omega (arith, e)) (λ e. omega (arith, e)) (λ e. omega (arith, e)) (λ e. omega (arith, e)) (λ e. omega (arith, e)) (λ e. omega (arith, e)) n i.k i.group i.at in
        absurd (other (sym (op_of (groups_of n) k t i) ∙ kind))
    | inr late ↦ late
  ]
    where
      early_at : (xs : List Top) (k : ℕ) → k < length xs → At (xs ++ offset_tops at (groups_of n)) k t → At xs k t
      early_at xs k less there = elim (at_either xs (offset_tops at (groups_of n)) k t there) [
        | inl first ↦ first
        | inr (j, is, second) ↦ absurd (omega (arith, less, is))
      ]

  late_is : (k : ℕ) (t : Top) → At summary k t → length (groups_tops (groups_of n)) ≤ k → t.op ≡ 14
  late_is k t there late = elim (at_either (groups_tops (groups_of n)) (offset_tops at (groups_of n)) k t there) [
    | inl first ↦ absurd (let early = at_within (groups_tops (groups_of n)) k t first in omega (arith, early, late))
    | inr (j, is, second) ↦ let (c, at_c, same) = at_map (top_of 14) (offset_contents at (groups_of n)) j t second in ap (λ (x : Top). x.op) same
  ]

  foot_decided : (t : Top) (s o c : ℕ) → t ≡ foot → IsFooter t s o c → (at ≡ s) × (behind_groups ≡ o) × (summary_crc n at ≡ c)
  foot_decided t s o c same is =
      let own = foot_is in
      let shown : IsFooter foot s o c = subst (λ (x : Top). IsFooter x s o c) same is in
      footer_once (footer_text (footer_of_offsets at behind_groups (summary_crc n at))) at behind_groups (summary_crc n at) s o c own.layout shown.layout

  -- ---- V11

  groups_size : length (flat_map group_bytes (groups_of n)) ≡ length (spelled (groups_tops (groups_of n)))
  groups_size = ap length (groups_spelled (groups_of n))

  front_groups : take (length (groups_tops (groups_of n))) summary ≡ groups_tops (groups_of n)
  front_groups = take-append_seam (groups_tops (groups_of n)) (offset_tops at (groups_of n))

  -- the records of the summary are known ones
  known_summary : Each (λ t. is_known t.op ≡ true) summary
  known_summary k t there =
      let i = in_group (full_groups at n) k t (full_at k t there) in
      ap is_known (op_of (full_groups at n) k t i) ∙ each_full (λ g. is_known g.op ≡ true) at n refl refl refl refl refl refl refl i.k i.group i.at

  -- what stands in front of a record of the summary, and behind the Data End
  before_behind : (p c : ℕ) → p ≡ suc (suc (length body)) + c → c ≤ length summary → behind_end (take p tops) ≡ take c summary
  before_behind p c is few =
      ap behind_end (ap (λ (m : ℕ). take m tops) is ∙ before_summary (header ∷ body) summary foot c few)
      ∙ cut_end (header ∷ body) (take c summary) never

  before_known : (p c : ℕ) → p ≡ suc (suc (length body)) + c → c ≤ length summary → known_behind_end (take p tops) ≡ take c summary
  before_known p c is few =
      ap (filter (λ t. is_known t.op)) (before_behind p c is few) ∙ all_known (take c summary) (each_taken (λ t. is_known t.op ≡ true) summary c known_summary)

  first_offset : (k : ℕ) (t : Top) → At tops k t → t.op ≡ 14 → Each (λ u. u.op ≢ 14) (behind_end (take k tops)) → behind_groups ≡ offset_of tops k
  first_offset k t there kind none =
      let (j, is, second) = summary_only header body summary foot at behind_groups (summary_crc n at) is_header right tail foot_is 14 (λ e. omega (arith, e)) (λ e. omega (arith, e)) (λ e. omega (arith, e)) refl k t there kind in
      let late = offset_late j t second kind in
      let within = at_within summary j t second in
      let first : j ≡ length (groups_tops (groups_of n)) = only j t second late is none in
      let offset = summary_offset (length (groups_tops (groups_of n))) (omega (arith, within, late)) in
      let size = ap (λ (l : List Top). length (spelled l)) front_groups in
      let place = ap (offset_of tops) (is ∙ ap (λ (m : ℕ). suc (suc (length body)) + m) first) in
      omega (arith, offset, size, place, groups_size)
    where
      only : (j : ℕ) (t : Top) → At summary j t → length (groups_tops (groups_of n)) ≤ j → k ≡ suc (suc (length body)) + j → Each (λ u. u.op ≢ 14) (behind_end (take k tops)) → j ≡ length (groups_tops (groups_of n))
      only j t second late is none = elim (cases_lt (length (groups_tops (groups_of n))) j) [
        | inl less ↦
            let m = length (groups_tops (groups_of n)) in
            let within = at_within summary j t second in
            let u = get_or summary m t in
            let there : At summary m u = at_read summary m t (omega (arith, less, within)) in
            let kind = late_is m u there (omega arith) in
            let front = before_behind k j is (omega (arith, within)) in
            let before : At (behind_end (take k tops)) m u = subst (λ (l : List Top). At l m u) (sym front) (at_taken summary j m u less there) in
            absurd (none m u before kind)
        | inr more ↦ omega (arith, more, late)
      ]

  names : (p s o c : ℕ) (t : Top) → At tops p t → is_last tops p → IsFooter t s o c → NamesSummary tops p s o
  names p s o c t there last is =
      let own = last_is header body summary foot at behind_groups (summary_crc n at) is_header right tail foot_is p t there last in
      let same = foot_decided t s o c own.1 is in
      let zero_offset = summary_offset 0 (omega arith) in
      let front : take (length (header ∷ body)) tops ≡ header ∷ body = before_end (header ∷ body) summary foot in
      let place : suc (suc (length body)) + 0 ≡ suc (length (header ∷ body)) = omega arith in
      let offsets_same = ap (offset_of tops) place in
      record {
        start = (length (header ∷ body), end_top, end_there (header ∷ body) summary foot, refl, (λ ended. ends_never (header ∷ body) never (subst HasDataEnd front ended)), inr (omega (arith, same.0, zero_offset, offsets_same)));
        first_offset = λ k u at_u within kind none. sym same.1 ∙ first_offset k u at_u kind none;
      }

  together_at : (c : ℕ) (t : Top) → At summary c t → EndsWith t.op (take c summary) ⊎ Each (λ u. u.op ≢ t.op) (take c summary)
  together_at zero t at_c = inr (λ a u at_u. absurd (at_none a u at_u))
  together_at (suc c) t at_c =
      let within = at_within summary (suc c) t at_c in
      let u = get_or summary c t in
      by u (at_read summary c t (omega (arith, within)))
    where
      apart : (u : Top) → At summary c u → u.op ≢ t.op → Each (λ v. v.op ≢ t.op) (take (suc c) summary)
      apart u there other a v at_v kind =
          let (less, at_a) = has_taken summary (suc c) a v at_v in
          elim (cases_lt a c) [
            | inl under ↦ other (stand_together (full_groups at n) (full_apart at n) a c (suc c) v u t under (omega arith) (full_at a v at_a) (full_at c u there) (full_at (suc c) t at_c) kind)
            | inr over ↦
                let same : a ≡ c = omega (arith, less, over) in
                other (ap (λ (x : Top). x.op) (at_one summary c u v there (subst (λ (m : ℕ). At summary m v) same at_a)) ∙ kind)
          ]

      by : (u : Top) → At summary c u → EndsWith t.op (take (suc c) summary) ⊎ Each (λ v. v.op ≢ t.op) (take (suc c) summary)
      by u there = elim (cases_lt u.op t.op) [
        | inl low ↦ inr (apart u there (λ e. omega (arith, low, e)))
        | inr not_low ↦ elim (cases_lt t.op u.op) [
          | inl high ↦ inr (apart u there (λ e. omega (arith, high, e)))
          | inr not_high ↦ inl (take c summary, u, take_next summary c u there, omega (arith, not_low, not_high))
        ]
      ]

  in_place_at : (c : ℕ) (t : Top) → At summary c t → IsInPlace (take c summary) t
  in_place_at c t at_c = record {
    together = together_at c t at_c;
    one_statistics = λ kind a u at_u other.
        let (less, at_a) = has_taken summary c a u at_u in
        stands_once (full_groups at n) (full_apart at n) 11
        (each_full (λ g. g.op ≡ 11 → length g.contents ≤ 1) at n (λ e. absurd (omega (arith, e))) (λ e. absurd (omega (arith, e))) (λ e. omega arith) (λ e. absurd (omega (arith, e))) (λ e. absurd (omega (arith, e))) (λ e. absurd (omega (arith, e))) (λ e. absurd (omega (arith, e))))
        a c u t less (full_at a u at_a) (full_at c t at_c) kind other;
    offsets_last = λ other a u at_u kind.
        let (less, at_a) = has_taken summary c a u at_u in
        let late = offset_late a u at_a kind in
        other (late_is c t at_c (omega (arith, late, less)));
  }

  in_place : (p : ℕ) (t : Top) → At tops p t → InSummary tops p → IsInPlace (known_behind_end (take p tops)) t
  in_place p t there within =
      let (c, is, at_c) = at_summary (header ∷ body) summary foot never p t there within in
      let front = before_known p c is (let room = at_within summary c t at_c in omega (arith, room)) in
      subst (λ (l : List Top). IsInPlace l t) (sym front) (in_place_at c t at_c)

  pub keeps_11 : Keeps V11 tops
  keeps_11 p t there = ((λ s o c last is. names p s o c t there last is), λ within known. in_place p t there within)

  -- ---- V15

  -- the group of a place among those that are there
  group_is : (i : ℕ) (g : Group) → At (groups_of n) i g → IsGroup tops g.op (at + bytes_front (groups_of n) i) (length (group_bytes g))
  group_is i g own =
      let cut = cut_flat group_tops (groups_of n) i g own in
      by cut.0 cut.1
    where
      some : has_some g.contents ≡ true
      some = (filter_passed (λ (h : Group). has_some h.contents) (all_groups n) i g own).1

      front_same : in_front group_tops (with_offsets at n) i ≡ in_front group_tops (groups_of n) i
      front_same = ap (λ (l : List Group). length (groups_tops l)) (take-append-le i (groups_of n) (offsets_group at n ∷ []) (let within = at_within (groups_of n) i g own in omega (arith, within)))

      -- records of its kind stand in it
      outside : (k : ℕ) (u : Top) → At summary k u → u.op ≡ g.op → (in_front group_tops (groups_of n) i ≤ k) × (k < in_front group_tops (groups_of n) i + length (group_tops g))
      outside k u at_u kind =
          let m = in_group (with_offsets at n) k u (offsets_at k u at_u) in
          let at_g : At (with_offsets at n) i g = at_kept (groups_of n) (offsets_group at n ∷ []) i g own in
          let same = same_group (with_offsets at n) (groups_apart at n) m.k i m.group g m.at at_g (sym (op_of (with_offsets at n) k u m) ∙ kind) in
          let group_same : m.group ≡ g = at_one (with_offsets at n) i m.group g (subst (λ (j : ℕ). At (with_offsets at n) j m.group) same m.at) at_g in
          let range = inside_group (with_offsets at n) (groups_apart at n) k u m in
          let start = ap (in_front group_tops (with_offsets at n)) same in
          let len = ap (λ (h : Group). length (group_tops h)) group_same in
          (omega (arith, range.0, start, front_same), omega (arith, range.1, start, len, front_same))

      by : (more : List Group) → groups_tops (groups_of n) ≡ groups_tops (take i (groups_of n)) ++ (group_tops g ++ groups_tops more) → IsGroup tops g.op (at + bytes_front (groups_of n) i) (length (group_bytes g))
      by more parts =
          let before = groups_tops (take i (groups_of n)) in
          let own_tops = group_tops g in
          let back = groups_tops more ++ offset_tops at (groups_of n) in
          let split : summary ≡ before ++ (own_tops ++ back) =
          ap (λ (l : List Top). l ++ offset_tops at (groups_of n)) parts ∙ append_assoc before (own_tops ++ groups_tops more) (offset_tops at (groups_of n)) ∙ ap (λ (l : List Top). before ++ l) (append_assoc own_tops (groups_tops more) (offset_tops at (groups_of n))) in
          let section = (header ∷ body) ++ end_top ∷ [] in
          let size = ap offset_behind (append_assoc (header ∷ body) (end_top ∷ []) before) in
          let sum = length-spelled_append section before in
          let bytes = ap length (groups_spelled (take i (groups_of n))) in
          record {
            front = (header ∷ body) ++ end_top ∷ before;
            group = own_tops;
            back = back;
            footer = foot;
            joined = ap (λ (l : List Top). (header ∷ body) ++ end_top ∷ ((l ++ offset_tops at (groups_of n)) ++ foot ∷ [])) parts ∙ join_group (header ∷ body) before own_tops (groups_tops more) (offset_tops at (groups_of n)) (foot ∷ []) end_top;
            within = ends_there (header ∷ body) before;
            starts = starts_by g.op g.contents some;
            ends = ends_by g.op g.contents some;
            none_before = subst (Each (λ u. u.op ≢ g.op)) (sym (cut_end (header ∷ body) before never)) (λ k u at_u kind.
                let room = at_within before k u at_u in
                let out = outside k u (subst (λ (l : List Top). At l k u) (sym split) (at_kept before (own_tops ++ back) k u at_u)) kind in
                let low = out.0 in
                omega (arith, low, room));
            none_behind = λ k u at_u kind.
                let place = length before + (length own_tops + k) in
                let out = outside place u (subst (λ (l : List Top). At l place u) (sym split) (at_second before (own_tops ++ back) (length own_tops + k) u (at_second own_tops back k u at_u))) kind in
                let high = out.1 in
                omega (arith, high);
            offset_is = omega (arith, at_is, size, sum, bytes);
            size_is = ap length (framed_spelled g.op g.contents);
          }

  -- the Summary Offset at a place shows the group there
  shows_group : (k : ℕ) (t : Top) (op offset size : ℕ) → (kind : IsOfKind (full_groups at n) 14 (offset_contents at (groups_of n)) k t) → IsSummaryOffset t op offset size → (g : Group) × At (groups_of n) kind.i g × (g.op ≡ op) × (at + bytes_front (groups_of n) kind.i ≡ offset) × (length (group_bytes g) ≡ size)
  shows_group k t op offset size kind is =
      let (g, own, same) = offset_group at (groups_of n) kind.i kind.content kind.content_at in
      let low = six_kinds (λ m. m < 256) (omega arith) (omega arith) (omega arith) (omega arith) (omega arith) (omega arith) n kind.i g own in
      let start = at + bytes_front (groups_of n) kind.i in
      let shown : IsSummaryOffset (top_of 14 (summary_offset_text (group_fields g start))) op offset size = subst (λ (x : Top). IsSummaryOffset x op offset size) (kind.is ∙ ap (top_of 14) same) is in
      let shows = summary_offset_shows g.op start (length (group_bytes g)) op offset size low (group_room n at kind.i g fits own) shown in
      (g, own, shows.0, shows.1, shows.2)

  pub keeps_15 : Keeps V15 tops
  keeps_15 p t there op offset size is =
      let only = summary_only header body summary foot at behind_groups (summary_crc n at) is_header right tail foot_is 14 (λ e. omega (arith, e)) (λ e. omega (arith, e)) (λ e. omega (arith, e)) refl in
      let (k, is_k, at_k) = only p t there is.kind in
      let kind = offset_there k t at_k is.kind in
      let (g, own, op_is, offset_is, size_is) = shows_group k t op offset size kind is in
      record {
        group = subst (λ (m : ℕ). IsGroup tops m offset size) op_is (subst (λ (m : ℕ). IsGroup tops g.op m size) offset_is (subst (λ (m : ℕ). IsGroup tops g.op (at + bytes_front (groups_of n) kind.i) m) size_is (group_is kind.i g own)));
        only = λ i other other_size u less at_u is_u.
            let (j, is_j, at_j) = only i u at_u is_u.kind in
            let kind_u = offset_there j u at_j is_u.kind in
            let (h, own_h, op_h, offset_h, size_h) = shows_group j u op other other_size kind_u is_u in
            let rise = kinds_rise (full_groups at n) 14 (offset_contents at (groups_of n)) j k u t (full_apart at n) (omega (arith, less, is_j, is_k)) kind_u kind in
            let apart = pairs_at (λ (a b : Group). a.op ≢ b.op) (with_offsets at n) (groups_apart at n) kind_u.i kind.i h g rise (at_kept (groups_of n) (offsets_group at n ∷ []) kind_u.i h own_h) (at_kept (groups_of n) (offsets_group at n ∷ []) kind.i g own) in
            apart (op_h ∙ sym op_is);
      }

  -- ---- V16

  crc_part : (file : List ℕ) → file ≡ magic ++ (spelled tops ++ magic) → part at (offset_of tops (suc (suc (length body)) + length summary) + 25) file
      ≡ flat_map group_bytes (groups_of n) ++ (flat_map (framed 14) (offset_contents at (groups_of n)) ++ take 25 (framed 2 (footer_text (footer_of_offsets at behind_groups 0))))
  crc_part file split =
      let section = (header ∷ body) ++ end_top ∷ [] in
      let z = spelled summary in
      let f = top_bytes foot in
      let offset = summary_offset (length summary) (omega arith) in
      let all : take (length summary) summary ≡ summary = ap (take (length summary)) (sym (append-nil summary)) ∙ take-append_seam summary [] in
      let size = ap (λ (l : List Top). length (spelled l)) all in
      let parts : spelled tops ≡ spelled section ++ (z ++ (f ++ [])) =
      ap spelled (sym (append_assoc (header ∷ body) (end_top ∷ []) (summary ++ foot ∷ []))) ∙ flat_map-append top_bytes section (summary ++ foot ∷ []) ∙ ap (λ (l : List ℕ). spelled section ++ l) (flat_map-append top_bytes summary (foot ∷ [])) in
      let bytes : file ≡ (magic ++ spelled section) ++ (z ++ (f ++ magic)) = split ∙ ap (λ (l : List ℕ). magic ++ (l ++ magic)) parts ∙ join_parts magic (spelled section) z f in
      let there : drop at file ≡ z ++ (f ++ magic) = ap (drop at) bytes ∙ drop_at (magic ++ spelled section) (z ++ (f ++ magic)) at (omega (arith, length-append magic (spelled section), at_is, magic_size)) in
      let count : offset_of tops (suc (suc (length body)) + length summary) + 25 - at ≡ length z + 25 = omega (arith, offset, size) in
      let foot_size : length f ≡ 29 = omega (arith, length-top foot, length-footer_text (footer_of_offsets at behind_groups (summary_crc n at))) in
      ap (λ (m : ℕ). take m (drop at file)) count
      ∙ ap (take (length z + 25)) there
      ∙ take_second z (f ++ magic) 25
      ∙ ap (λ (l : List ℕ). z ++ l) (take-append-le 25 f magic (omega (arith, foot_size)) ∙ footer_front at behind_groups (summary_crc n at) ∙ sym (footer_front at behind_groups 0))
      ∙ ap (λ (l : List ℕ). l ++ take 25 (framed 2 (footer_text (footer_of_offsets at behind_groups 0)))) (flat_map-append top_bytes (groups_tops (groups_of n)) (offset_tops at (groups_of n)))
      ∙ append_assoc (spelled (groups_tops (groups_of n))) (spelled (offset_tops at (groups_of n))) (take 25 (framed 2 (footer_text (footer_of_offsets at behind_groups 0))))
      ∙ ap (λ (l : List ℕ). l ++ (spelled (offset_tops at (groups_of n)) ++ take 25 (framed 2 (footer_text (footer_of_offsets at behind_groups 0))))) (sym (groups_spelled (groups_of n)))
      ∙ ap (λ (l : List ℕ). flat_map group_bytes (groups_of n) ++ (l ++ take 25 (framed 2 (footer_text (footer_of_offsets at behind_groups 0))))) (sym (offsets_spelled at (groups_of n)))
    where
      magic_size : length magic ≡ 8
      magic_size = refl

      join_parts : (m s z f : List ℕ) → m ++ ((s ++ (z ++ (f ++ []))) ++ magic) ≡ (m ++ s) ++ (z ++ (f ++ magic))
      join_parts m s z f = simp (append_assoc, append-nil) refl

  pub keeps_16 : (file : List ℕ) → file ≡ magic ++ (spelled tops ++ magic) → Keeps (V16 file) tops
  keeps_16 file split p t there s o c last is some known =
      let own = last_is header body summary foot at behind_groups (summary_crc n at) is_header right tail foot_is p t there last in
      let same = foot_decided t s o c own.1 is in
      sym same.2 ∙ ap remainder (sym (crc_part file split))
      ∙ ap (λ (m : ℕ). remainder (part at (offset_of tops m + 25) file)) (sym own.0)
      ∙ ap (λ (m : ℕ). remainder (part m (offset_of tops p + 25) file)) same.0
