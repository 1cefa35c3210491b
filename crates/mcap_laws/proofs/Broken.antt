-- Records that break the rules on summaries: one number is wrong in each.
use Rattle.std.proofs.Common.{◌≡◌, ℕ, suc, ◌+◌, List, [], ◌∷◌, ◌++◌, length, take, refl, sym, ap, subst, inl, inr, ◌∙◌, append_assoc, arith}
use Rattle.std.proofs.lemmas.List.{length-append, take_at}
use Rattle.mcap_wire.proofs.Contents.{row_shown}
use Rattle.rec_index.specs.Records.{statistics_text, statistics_kinds, statistics_values, ShowsStatistics}
use Rattle.mcap_model.specs.Places.{At}
use Rattle.mcap_model.specs.Tops.{Top, offset_behind, flat}
use Rattle.mcap_model.specs.Fields.{AttachmentIndexFields}
use Rattle.mcap_model.specs.Whole.{offset_of, count_of, IsSection, NamesSummary, V14, IsGroup, AttachmentIndexIsRight}
use Rattle.mcap_model.proofs.Edges.{header_top, end_top}
use Rattle.mcap_laws.proofs.Smallest.{offset, footer, crc_smallest, tops_smallest, by_place, offset_of_2, offset_of_3}
use Rattle.mcap_model.proofs.Places.{at_kept, at_last}
use Rattle.mcap_model.proofs.Lists.{at_second}
use Rattle.mcap_model.proofs.Files.{length-spelled_append}
use Rattle.rec_index.specs.Fields.{StatisticsFields}

-- ---- Statistics of one message, where there is none

abbrev one_counted : StatisticsFields
one_counted = record { messages = 1; schemas = 0; channels = 0; attachments = 0; metadata = 0; chunks = 0; start = 0; end = 0; counts = [] }

abbrev counts_one : Top
counts_one = record { op = 11; content = statistics_text one_counted }

one_shown : ShowsStatistics (statistics_text one_counted) one_counted
one_shown = row_shown statistics_kinds (statistics_values one_counted) (omega arith, (omega arith, (omega arith, (omega arith, (omega arith, (omega arith, (omega arith, (omega arith, ((omega arith, (λ k d less. absurd (omega (arith, less))), λ i j d less within. absurd (omega (arith, within))), tt)))))))))

first_top : Top → List Top → Top
first_top t [] = t
first_top t (x ∷ xs) = x

rest_of : List Top → List Top
rest_of [] = []
rest_of (x ∷ xs) = xs

abbrev tops_of_one : List Top
tops_of_one = header_top [] ∷ end_top ∷ counts_one ∷ offset ∷ footer crc_smallest ∷ []

no_messages : (section : List Top) → IsSection tops_of_one section → count_of 5 (flat section) ≡ 0
unfolding first_top rest_of
no_messages [] is = absurd (let kind = ap (λ (l : List Top). (first_top end_top l).op) is.joined in omega (arith, kind, is.kind))
no_messages (x ∷ []) is =
    let same : header_top [] ≡ x = ap (first_top end_top) is.joined in
    subst (λ (t : Top). count_of 5 (flat (t ∷ [])) ≡ 0) same refl
no_messages (x ∷ y ∷ ys) is =
    let same : end_top ≡ y = ap (λ (l : List Top). first_top end_top (rest_of l)) is.joined in
    let unended = is.unended in
    absurd (unended (inr (inl (ap (λ (t : Top). t.op) (sym same)))))

one_breaks : V14 tops_of_one 2 counts_one → ⊥
one_breaks keeps =
    let right = keeps (record { messages = 1; schemas = 0; channels = 0; attachments = 0; metadata = 0; chunks = 0; start = 0; end = 0; counts = [] }) (record { kind = refl; layout = one_shown }) in
    let messages = right.messages in
    let none : count_of 5 (flat right.section) ≡ 0 = elim right.is [
      | inl is ↦ no_messages right.section is
      | inr all ↦ absurd (all.0 (inr (inl refl)))
    ] in
    omega (arith, messages, none)

-- ---- a group that is one byte too short

short_breaks : IsGroup tops_smallest 11 47 54 → ⊥
short_breaks g = let (first, t, same, kind) = g.ends in by first t same kind
  where
    by : (first : List Top) (t : Top) → g.group ≡ first ++ t ∷ [] → t.op ≡ 11 → ⊥
    by first t same kind =
        let rest = g.back ++ g.footer ∷ [] in
        let place = length g.front + length first in
        let inner : At (g.group ++ rest) (length first) t = at_kept g.group rest (length first) t (subst (λ (l : List Top). At l (length first) t) (sym same) (at_last first t [])) in
        let there : At tops_smallest place t = subst (λ (l : List Top). At l place t) (sym g.joined) (at_second g.front (g.group ++ rest) (length first) t inner) in
        let two : place ≡ 2 = by_place (λ k u. u.op ≡ 11 → k ≡ 2) (λ e. absurd (omega (arith, e))) (λ e. absurd (omega (arith, e))) (λ e. refl) (λ e. absurd (omega (arith, e))) (λ e. absurd (omega (arith, e))) place t there kind in
        let size : length (g.front ++ g.group) ≡ 3 = let own = ap length same in omega (arith, two, own, length-append g.front g.group, length-append first (t ∷ [])) in
        let front : take 3 tops_smallest ≡ g.front ++ g.group = ap (take 3) (g.joined ∙ sym (append_assoc g.front g.group rest)) ∙ take_at (g.front ++ g.group) rest 3 size in
        let bytes : offset_of tops_smallest 3 ≡ offset_behind (g.front ++ g.group) = ap offset_behind front in
        omega (arith, bytes, offset_of_3, length-spelled_append g.front g.group, g.offset_is, g.size_is)

-- ---- a summary that begins one byte too late

late_breaks : (offsets : ℕ) → NamesSummary tops_smallest 4 48 offsets → ⊥
late_breaks offsets names =
    let (k, t, at, kind, unended, start) = names.start in
    elim start [
      | inl none ↦ omega (arith, none.0)
      | inr there ↦
          let first = by_place (λ n u. u.op ≡ 15 → n ≡ 1) (λ e. absurd (omega (arith, e))) (λ e. refl) (λ e. absurd (omega (arith, e))) (λ e. absurd (omega (arith, e))) (λ e. absurd (omega (arith, e))) k t at kind in
          let place = ap (λ (n : ℕ). offset_of tops_smallest (suc n)) first in
          omega (arith, there, place, offset_of_2)
    ]

-- ---- an Attachment Index of a file without Attachments

none_breaks : (n : ℕ) (f : AttachmentIndexFields) → AttachmentIndexIsRight tops_smallest n f → ⊥
none_breaks n f right =
    let place = right.at in
    let is = right.is in
    by_place (λ k u. u.op ≡ 9 → ⊥) (λ e. omega (arith, e)) (λ e. omega (arith, e)) (λ e. omega (arith, e)) (λ e. omega (arith, e)) (λ e. omega (arith, e)) place.0 right.top place.1 is.kind
