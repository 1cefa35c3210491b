-- The smallest indexed file is fully indexed.
use Rattle.std.proofs.Common.{◌≡◌, ℕ, zero, suc, ◌+◌, ◌^◌, ◌<◌, ◌≤◌, List, [], ◌∷◌, ◌++◌, length, take, refl, sym, ap, subst, inl, inr, ◌∙◌, arith}
use Rattle.std.specs.Prelude.{◌≢◌}
use Rattle.mcap_wire.specs.Layout.{le, number, magic, part}
use Rattle.mcap_wire.proofs.Contents.{row_shown, shows_decided}
use Rattle.mcap_crc.specs.Remainder.{remainder}
use Rattle.mcap_crc.proofs.RemainderLemmas.{remainder-lt}
use Rattle.rec_data.specs.Records.{footer_text}
use Rattle.rec_data.proofs.Contents.{footer_shown, data_end_shown}
use Rattle.rec_index.specs.Records.{statistics_text, statistics_kinds, statistics_values, summary_offset_text, summary_offset_kinds, summary_offset_values, ShowsStatistics}
use Rattle.mcap_model.specs.Places.{At, Each}
use Rattle.mcap_model.specs.Tops.{Top, top_bytes, spelled, flat}
use Rattle.mcap_model.specs.Fields.{StatisticsFields, IsStatistics, IsSummaryOffset, IsFooter}
use Rattle.mcap_model.specs.Rules.{HasDataEnd, V3, V5, V6, V7}
use Rattle.mcap_model.specs.Whole.{offset_of, InSummary, V2, V5Behind, NamesSummary, IsInPlace, V11, AreIds, StatisticsAreRight, V14, V15, V16, V17, IsGroup}
use Rattle.mcap_model.specs.Valid.{Keeps, Valid, FullyIndexed}
use Rattle.mcap_model.specs.Summary.{summary_text, footer_of_offsets}
use Rattle.mcap_model.specs.File.{front, data_end, file_of}
use Rattle.mcap_model.proofs.Places.{at_none}
use Rattle.mcap_model.proofs.Histories.{header_meets, data_end_meets, flat_none}
use Rattle.mcap_model.proofs.Edges.{header_top, end_top}
use Rattle.mcap_laws.proofs.Readouts.{is_header}
use Rattle.mcap_laws.proofs.Sizes.{in_chunks}
use Rattle.rec_index.specs.Fields.{SummaryOffsetFields}
use Rattle.mcap_model.proofs.Files.{footer_once}
use Rattle.std.proofs.lemmas.Option.{same_Some}

abbrev no_statistics : StatisticsFields
no_statistics = record { messages = 0; schemas = 0; channels = 0; attachments = 0; metadata = 0; chunks = 0; start = 0; end = 0; counts = [] }

abbrev offset_fields : SummaryOffsetFields
offset_fields = record { op = 11; offset = 47; size = 55 }

abbrev pub statistics : Top
statistics = record { op = 11; content = statistics_text no_statistics }

abbrev pub offset : Top
offset = record { op = 14; content = summary_offset_text offset_fields }

abbrev pub footer : ℕ → Top
footer crc = record { op = 2; content = footer_text (footer_of_offsets 47 102 crc) }

abbrev file_smallest : List ℕ
file_smallest = file_of (in_chunks 786432) [] []

abbrev pub crc_smallest : ℕ
crc_smallest = remainder (spelled (statistics ∷ offset ∷ []) ++ take 25 (top_bytes (footer 0)))

abbrev pub tops_smallest : List Top
tops_smallest = header_top [] ∷ end_top ∷ statistics ∷ offset ∷ footer crc_smallest ∷ []

whole_smallest : file_smallest ≡ magic ++ (spelled tops_smallest ++ magic)
unfolding file_of front data_end le summary_text number remainder
whole_smallest = refl

-- what holds of each of the five records holds of what stands at a place
pub by_place : (P : ℕ → Top → Type 0) → P 0 (header_top []) → P 1 end_top → P 2 statistics → P 3 offset → P 4 (footer crc_smallest) → (n : ℕ) (t : Top) → At tops_smallest n t → P n t
by_place P a b c d e zero t at = subst (P 0) (same_Some (header_top []) t at) a
by_place P a b c d e (suc zero) t at = subst (P 1) (same_Some end_top t at) b
by_place P a b c d e (suc (suc zero)) t at = subst (P 2) (same_Some statistics t at) c
by_place P a b c d e (suc (suc (suc zero))) t at = subst (P 3) (same_Some offset t at) d
by_place P a b c d e (suc (suc (suc (suc zero)))) t at = subst (P 4) (same_Some (footer crc_smallest) t at) e
by_place P a b c d e (suc (suc (suc (suc (suc n))))) t at = absurd (at_none n t at)

pub no_end : HasDataEnd (header_top [] ∷ []) → ⊥
no_end (inl e) = omega (arith, e)
no_end (inr e) = e

pub behind : (i : ℕ) → InSummary tops_smallest i → (2 ≤ i) × (i ≤ 3)
behind zero within = absurd within.0
behind (suc zero) within = absurd (no_end within.0)
behind (suc (suc i)) within = let room : suc (suc (suc i)) < 5 = within.1 in (omega arith, omega (arith, room))

-- ---- V5

v5 : Keeps V5Behind tops_smallest
v5 = by_place (V5Behind tops_smallest)
    ((λ within. let b = behind 0 within in absurd (omega (arith, b.0))), λ last. inr (inl refl))
    ((λ within. let b = behind 1 within in absurd (omega (arith, b.0))), λ last. inr (inl refl))
    ((λ within. refl), λ last. inr (inl refl))
    ((λ within. refl), λ last. inr (inl refl))
    ((λ within. let b = behind 4 within in absurd (omega (arith, b.1))), λ last. inr (inl refl))

-- ---- V17

footer_crc_fits : crc_smallest < 2 ^ 32
footer_crc_fits = remainder-lt (spelled (statistics ∷ offset ∷ []) ++ take 25 (top_bytes (footer 0)))

v17 : V17 tops_smallest
v17 = (header_top [] ∷ end_top ∷ statistics ∷ offset ∷ [], footer crc_smallest, refl, (47, 102, crc_smallest, record { kind = refl; layout = footer_shown (footer_of_offsets 47 102 crc_smallest) (omega arith) (omega arith) footer_crc_fits }), none)
  where
    none : Each (λ u. u.op ≢ 2) (header_top [] ∷ end_top ∷ statistics ∷ offset ∷ [])
    none zero u at e = omega (arith, e, ap (λ (t : Top). t.op) (same_Some (header_top []) u at))
    none (suc zero) u at e = omega (arith, e, ap (λ (t : Top). t.op) (same_Some end_top u at))
    none (suc (suc zero)) u at e = omega (arith, e, ap (λ (t : Top). t.op) (same_Some statistics u at))
    none (suc (suc (suc zero))) u at e = omega (arith, e, ap (λ (t : Top). t.op) (same_Some offset u at))
    none (suc (suc (suc (suc n)))) u at e = at_none n u at

-- ---- V16

footer_is : (summary offsets crc : ℕ) → IsFooter (footer crc_smallest) summary offsets crc → (summary ≡ 47) × (offsets ≡ 102) × (crc ≡ crc_smallest)
footer_is summary offsets crc is = footer_once (footer_text (footer_of_offsets 47 102 crc_smallest)) summary offsets crc 47 102 crc_smallest is.layout (footer_shown (footer_of_offsets 47 102 crc_smallest) (omega arith) (omega arith) footer_crc_fits)

crc_there : crc_smallest ≡ remainder (part 47 (offset_of tops_smallest 4 + 25) file_smallest)
unfolding file_of front data_end le summary_text number remainder
crc_there = refl

v16 : Keeps (V16 file_smallest) tops_smallest
v16 = by_place (V16 file_smallest tops_smallest)
    (λ s o c last is some crc. absurd (omega (arith, is.kind)))
    (λ s o c last is some crc. absurd (omega (arith, is.kind)))
    (λ s o c last is some crc. absurd (omega (arith, is.kind)))
    (λ s o c last is some crc. absurd (omega (arith, is.kind)))
    (λ s o c last is some crc. let same = footer_is s o c is in
    same.2 ∙ crc_there ∙ ap (λ (k : ℕ). remainder (part k (offset_of tops_smallest 4 + 25) file_smallest)) (sym same.0))

-- ---- V15

pub offset_of_2 : offset_of tops_smallest 2 ≡ 47
unfolding le front
offset_of_2 = refl

pub offset_of_3 : offset_of tops_smallest 3 ≡ 102
unfolding le front
offset_of_3 = refl

offset_is : (op at size : ℕ) → IsSummaryOffset offset op at size → (op ≡ 11) × (at ≡ 47) × (size ≡ 55)
offset_is op at size is =
    let same = shows_decided summary_offset_kinds (summary_offset_text offset_fields) (summary_offset_values (record { op = op; offset = at; size = size })) (summary_offset_values offset_fields) is.layout (row_shown summary_offset_kinds (summary_offset_values offset_fields) (omega arith, (omega arith, (omega arith, tt)))) in
    (ap (λ v. v.0) same, ap (λ v. v.1.0) same, ap (λ v. v.1.1.0) same)

group : IsGroup tops_smallest 11 47 55
unfolding le
group = record {
  front = header_top [] ∷ end_top ∷ [];
  group = statistics ∷ [];
  back = offset ∷ [];
  footer = footer crc_smallest;
  joined = refl;
  within = inr (inl refl);
  starts = (statistics, [], refl, refl);
  ends = ([], statistics, refl, refl);
  none_before = λ n u at. absurd (at_none n u at);
  none_behind = alone;
  offset_is = sym offset_of_2;
  size_is = refl;
}
  where
    alone : Each (λ u. u.op ≢ 11) (offset ∷ [])
    alone zero u at e = omega (arith, e, ap (λ (t : Top). t.op) (same_Some offset u at))
    alone (suc n) u at e = at_none n u at

v15 : Keeps V15 tops_smallest
v15 = by_place (V15 tops_smallest)
    (λ op at size is. absurd (omega (arith, is.kind)))
    (λ op at size is. absurd (omega (arith, is.kind)))
    (λ op at size is. absurd (omega (arith, is.kind)))
    (λ op at size is. let same = offset_is op at size is in record {
      group = subst (λ (k : ℕ). IsGroup tops_smallest k at size) (sym same.0) (subst (λ (k : ℕ). IsGroup tops_smallest 11 k size) (sym same.1) (subst (λ (k : ℕ). IsGroup tops_smallest 11 47 k) (sym same.2) group));
      only = λ i o s u less there other. none i u less there other.kind;
    })
    (λ op at size is. absurd (omega (arith, is.kind)))
  where
    none : (i : ℕ) (u : Top) → i < 3 → At tops_smallest i u → u.op ≡ 14 → ⊥
    none zero u less at e = omega (arith, e, ap (λ (t : Top). t.op) (same_Some (header_top []) u at))
    none (suc zero) u less at e = omega (arith, e, ap (λ (t : Top). t.op) (same_Some end_top u at))
    none (suc (suc zero)) u less at e = omega (arith, e, ap (λ (t : Top). t.op) (same_Some statistics u at))
    none (suc (suc (suc i))) u less at e = omega (arith, less)

-- ---- V11

names : (offsets : ℕ) → offsets ≡ 102 → NamesSummary tops_smallest 4 47 offsets
names offsets is = record {
  start = (1, end_top, refl, refl, no_end, inr (sym offset_of_2));
  first_offset = λ k t at within kind none. is ∙ sym offset_of_3 ∙ ap (offset_of tops_smallest) (sym (third k t at kind));
}
  where
    third : (k : ℕ) (t : Top) → At tops_smallest k t → t.op ≡ 14 → k ≡ 3
    third k t at kind = by_place (λ n u. u.op ≡ 14 → n ≡ 3) (λ e. absurd (omega (arith, e))) (λ e. absurd (omega (arith, e))) (λ e. absurd (omega (arith, e))) (λ e. refl) (λ e. absurd (omega (arith, e))) k t at kind

second_in_place : IsInPlace [] statistics
second_in_place = record {
  together = inr (λ n u at. absurd (at_none n u at));
  one_statistics = λ kind n u at. absurd (at_none n u at);
  offsets_last = λ other n u at. absurd (at_none n u at);
}

third_in_place : IsInPlace (statistics ∷ []) offset
third_in_place = record {
  together = inr alone;
  one_statistics = λ kind. absurd (omega (arith, kind));
  offsets_last = λ other. absurd (other refl);
}
  where
    alone : Each (λ u. u.op ≢ 14) (statistics ∷ [])
    alone zero u at e = omega (arith, e, ap (λ (t : Top). t.op) (same_Some statistics u at))
    alone (suc n) u at e = at_none n u at

v11 : Keeps V11 tops_smallest
v11 = by_place (V11 tops_smallest)
    ((λ s o c last is. absurd (omega (arith, is.kind))), λ within known. let b = behind 0 within in absurd (omega (arith, b.0)))
    ((λ s o c last is. absurd (omega (arith, is.kind))), λ within known. let b = behind 1 within in absurd (omega (arith, b.0)))
    ((λ s o c last is. absurd (omega (arith, is.kind))), λ within known. second_in_place)
    ((λ s o c last is. absurd (omega (arith, is.kind))), λ within known. third_in_place)
    ((λ s o c last is. let same = footer_is s o c is in subst (λ (k : ℕ). NamesSummary tops_smallest 4 k o) (sym same.0) (names o same.1)), λ within known. let b = behind 4 within in absurd (omega (arith, b.1)))

-- ---- V14

zeros : StatisticsFields
zeros = record { messages = 0; schemas = 0; channels = 0; attachments = 0; metadata = 0; chunks = 0; start = 0; end = 0; counts = [] }

none_counted : (P : ℕ → Type 0) → ((id : ℕ) → P id → ⊥) → AreIds P []
none_counted P none = record {
  apart = λ i j d less within. absurd (omega (arith, within));
  have = λ n x at. absurd (at_none n x at);
  all = λ id p. absurd (none id p);
}

right : StatisticsAreRight tops_smallest zeros
unfolding zeros
right = record {
  section = header_top [] ∷ [];
  is = inl (record { end = end_top; behind = statistics ∷ offset ∷ footer crc_smallest ∷ []; joined = refl; kind = refl; unended = no_end });
  messages = refl;
  attachments = refl;
  metadata = refl;
  chunks = refl;
  times = λ time logs. absurd (at_none logs.place logs.top logs.at);
  counts = inl refl;
  schemas = (
    [],
    [],
    none_counted _ (λ id has. at_none has.place has.top has.at),
    none_counted _ (λ id has. at_none has.place has.top has.at),
    omega arith,
    omega arith,
  );
  channels = (
    [],
    [],
    none_counted _ (λ id has. at_none has.place has.top has.at),
    none_counted _ (λ id has. at_none has.place has.top has.at),
    omega arith,
    omega arith,
  );
}

zeros_shown : ShowsStatistics (statistics_text no_statistics) no_statistics
zeros_shown = row_shown statistics_kinds (statistics_values no_statistics) (omega arith, (omega arith, (omega arith, (omega arith, (omega arith, (omega arith, (omega arith, (omega arith, ((omega arith, (λ k d less. absurd (omega (arith, less))), λ i j d less within. absurd (omega (arith, within))), tt)))))))))

statistics_is : (f : StatisticsFields) → IsStatistics statistics f → f ≡ zeros
unfolding zeros
statistics_is f is =
    let same = shows_decided statistics_kinds (statistics_text no_statistics) (statistics_values f) (statistics_values no_statistics) is.layout zeros_shown in
    ap (λ v. record { messages = v.0; schemas = v.1.0; channels = v.1.1.0; attachments = v.1.1.1.0; metadata = v.1.1.1.1.0; chunks = v.1.1.1.1.1.0; start = v.1.1.1.1.1.1.0; end = v.1.1.1.1.1.1.1.0; counts = v.1.1.1.1.1.1.1.1.0 }) same

v14 : Keeps V14 tops_smallest
v14 = by_place (V14 tops_smallest)
    (λ f is. absurd (omega (arith, is.kind)))
    (λ f is. absurd (omega (arith, is.kind)))
    (λ f is. subst (StatisticsAreRight tops_smallest) (sym (statistics_is f is)) right)
    (λ f is. absurd (omega (arith, is.kind)))
    (λ f is. absurd (omega (arith, is.kind)))

-- ---- the rules on each record's content

statistics_meets : V6 statistics
unfolding zeros
statistics_meets = record {
  header = λ e. absurd (omega (arith, e));
  footer = λ e. absurd (omega (arith, e));
  schema = λ e. absurd (omega (arith, e));
  channel = λ e. absurd (omega (arith, e));
  message = λ e. absurd (omega (arith, e));
  chunk = λ e. absurd (omega (arith, e));
  message_index = λ e. absurd (omega (arith, e));
  chunk_index = λ e. absurd (omega (arith, e));
  attachment = λ e. absurd (omega (arith, e));
  attachment_index = λ e. absurd (omega (arith, e));
  statistics = λ e. (zeros, record { kind = refl; layout = zeros_shown });
  metadata = λ e. absurd (omega (arith, e));
  metadata_index = λ e. absurd (omega (arith, e));
  summary_offset = λ e. absurd (omega (arith, e));
  data_end = λ e. absurd (omega (arith, e));
}

offset_meets : V6 offset
offset_meets = record {
  header = λ e. absurd (omega (arith, e));
  footer = λ e. absurd (omega (arith, e));
  schema = λ e. absurd (omega (arith, e));
  channel = λ e. absurd (omega (arith, e));
  message = λ e. absurd (omega (arith, e));
  chunk = λ e. absurd (omega (arith, e));
  message_index = λ e. absurd (omega (arith, e));
  chunk_index = λ e. absurd (omega (arith, e));
  attachment = λ e. absurd (omega (arith, e));
  attachment_index = λ e. absurd (omega (arith, e));
  statistics = λ e. absurd (omega (arith, e));
  metadata = λ e. absurd (omega (arith, e));
  metadata_index = λ e. absurd (omega (arith, e));
  summary_offset = λ e. (11, 47, 55, record { kind = refl; layout = row_shown summary_offset_kinds (summary_offset_values offset_fields) (omega arith, (omega arith, (omega arith, tt))) });
  data_end = λ e. absurd (omega (arith, e));
}

footer_meets : V6 (footer crc_smallest)
footer_meets = record {
  header = λ e. absurd (omega (arith, e));
  footer = λ e. (47, 102, crc_smallest, record { kind = refl; layout = footer_shown (footer_of_offsets 47 102 crc_smallest) (omega arith) (omega arith) footer_crc_fits });
  schema = λ e. absurd (omega (arith, e));
  channel = λ e. absurd (omega (arith, e));
  message = λ e. absurd (omega (arith, e));
  chunk = λ e. absurd (omega (arith, e));
  message_index = λ e. absurd (omega (arith, e));
  chunk_index = λ e. absurd (omega (arith, e));
  attachment = λ e. absurd (omega (arith, e));
  attachment_index = λ e. absurd (omega (arith, e));
  statistics = λ e. absurd (omega (arith, e));
  metadata = λ e. absurd (omega (arith, e));
  metadata_index = λ e. absurd (omega (arith, e));
  summary_offset = λ e. absurd (omega (arith, e));
  data_end = λ e. absurd (omega (arith, e));
}

-- none of them is a Schema, a Channel, a Message, a Chunk or an Attachment
other_kind : (n : ℕ) (t : Top) → At tops_smallest n t → (t.op ≡ 3 → ⊥) × (t.op ≡ 4 → ⊥) × (t.op ≡ 5 → ⊥) × (t.op ≡ 6 → ⊥) × (t.op ≡ 7 → ⊥) × (t.op ≡ 8 → ⊥) × (t.op ≡ 9 → ⊥) × (t.op ≡ 10 → ⊥) × (t.op ≡ 13 → ⊥)
other_kind = by_place (λ n t. (t.op ≡ 3 → ⊥) × (t.op ≡ 4 → ⊥) × (t.op ≡ 5 → ⊥) × (t.op ≡ 6 → ⊥) × (t.op ≡ 7 → ⊥) × (t.op ≡ 8 → ⊥) × (t.op ≡ 9 → ⊥) × (t.op ≡ 10 → ⊥) × (t.op ≡ 13 → ⊥))
    ((λ e. omega (arith, e)), (λ e. omega (arith, e)), (λ e. omega (arith, e)), (λ e. omega (arith, e)), (λ e. omega (arith, e)), (λ e. omega (arith, e)), (λ e. omega (arith, e)), (λ e. omega (arith, e)), (λ e. omega (arith, e)))
    ((λ e. omega (arith, e)), (λ e. omega (arith, e)), (λ e. omega (arith, e)), (λ e. omega (arith, e)), (λ e. omega (arith, e)), (λ e. omega (arith, e)), (λ e. omega (arith, e)), (λ e. omega (arith, e)), (λ e. omega (arith, e)))
    ((λ e. omega (arith, e)), (λ e. omega (arith, e)), (λ e. omega (arith, e)), (λ e. omega (arith, e)), (λ e. omega (arith, e)), (λ e. omega (arith, e)), (λ e. omega (arith, e)), (λ e. omega (arith, e)), (λ e. omega (arith, e)))
    ((λ e. omega (arith, e)), (λ e. omega (arith, e)), (λ e. omega (arith, e)), (λ e. omega (arith, e)), (λ e. omega (arith, e)), (λ e. omega (arith, e)), (λ e. omega (arith, e)), (λ e. omega (arith, e)), (λ e. omega (arith, e)))
    ((λ e. omega (arith, e)), (λ e. omega (arith, e)), (λ e. omega (arith, e)), (λ e. omega (arith, e)), (λ e. omega (arith, e)), (λ e. omega (arith, e)), (λ e. omega (arith, e)), (λ e. omega (arith, e)), (λ e. omega (arith, e)))

v7_smallest : (n : ℕ) (t : Top) → At tops_smallest n t → V7 (take n tops_smallest) t
v7_smallest = by_place (λ n t. V7 (take n tops_smallest) t) (flat_none (take 0 tops_smallest) (header_top []) refl) (flat_none (take 1 tops_smallest) end_top refl) (flat_none (take 2 tops_smallest) statistics refl) (flat_none (take 3 tops_smallest) offset refl) (flat_none (take 4 tops_smallest) (footer crc_smallest) refl)

size_smallest : (n : ℕ) (t : Top) → At tops_smallest n t → length t.content < 2 ^ 64
unfolding le
size_smallest = by_place (λ n t. length t.content < 2 ^ 64) (omega arith) (omega arith) (omega arith) (omega arith) (omega arith)

starts_smallest : V2 file_smallest
unfolding file_of front data_end le summary_text number remainder
starts_smallest = (omega arith, (magic ++ spelled tops_smallest, refl))

valid_smallest : Valid file_smallest tops_smallest
valid_smallest = record {
  some = λ e. let size : 5 ≡ 0 = ap length e in omega (arith, size);
  v1 = (spelled tops_smallest ++ magic, whole_smallest);
  v2 = starts_smallest;
  v3 = by_place (λ n t. V3 (take n tops_smallest) t) is_header tt tt tt tt;
  v4 = record { split = whole_smallest; short = size_smallest };
  v5 = by_place (λ n t. V5 (take n tops_smallest) t) (λ e. omega (arith, e)) ((λ e. omega (arith, e)), inr refl) ((λ e. omega (arith, e)), inl (inr (inl refl))) ((λ e. omega (arith, e)), inl (inr (inl refl))) ((λ e. omega (arith, e)), inl (inr (inl refl)));
  v5_behind = v5;
  v6 = by_place (λ n t. V6 t) (header_meets (header_top []) is_header) (data_end_meets end_top (record { kind = refl; crc = 0; layout = data_end_shown 0 (omega arith) })) statistics_meets offset_meets footer_meets;
  v7 = v7_smallest;
  v8 = λ n t at f is. let k = other_kind n t at in let six = k.3 in absurd (six is.kind);
  v9 = λ n t at. let k = other_kind n t at in ((λ e. let seven = k.4 in absurd (seven e)), λ e. let six = k.3 in absurd (six e));
  v10 = λ n t at f place e. let k = other_kind n t at in let nine = k.6 in absurd (nine e);
  v11 = v11;
  v12 = λ n t at f is. let k = other_kind n t at in let eight = k.5 in absurd (eight is.kind);
  v13 = λ n t at. let k = other_kind n t at in ((λ f is. let ten = k.7 in absurd (ten is.kind)), λ offset size name is. let thirteen = k.8 in absurd (thirteen is.kind));
  v14 = v14;
  v15 = v15;
  v16 = v16;
  v17 = v17;
  plain = λ n t at name named. let k = other_kind n t at in let six = k.3 in let chunk = named.is in absurd (six chunk.kind);
}

flat_smallest : flat tops_smallest ≡ []
flat_smallest = refl

fully_indexed_smallest : FullyIndexed file_smallest tops_smallest
fully_indexed_smallest = record {
  valid = valid_smallest;
  statistics = (2, statistics, refl, (inr (inl refl), omega arith), refl);
  no_message = λ n t at e. let k = other_kind n t at in let five = k.2 in five e;
  chunks = λ n t at e. let k = other_kind n t at in let six = k.3 in absurd (six e);
  empty_maps = λ n t f at is. let k = other_kind n t at in let eight = k.5 in absurd (eight is.kind);
  channels = λ n channel t m at is. absurd (at_none n t at);
}
