-- Where a reading of the bytes in front of the last magic halts, a rule of the file fails.
use Rattle.std.proofs.Common.{◌≡◌, ◌⊎◌, ℕ, zero, suc, ◌+◌, ◌-◌, ◌^◌, ◌<◌, ◌≤◌, Bool, true, false, ◌&&◌, ◌||◌, eqb, List, [], ◌∷◌, ◌++◌, length, take, drop, refl, sym, ap, subst, inl, inr, ◌∙◌, append_assoc, arith}
use Rattle.std.specs.Prelude.{if◌then◌else◌}
use Rattle.std.proofs.lemmas.Bool.{both_ways, leb-true, ne_eqb, eq-eqb}
use Rattle.std.proofs.lemmas.List.{append-nil, take-append-drop, take_all, drop-drop, drop_at, take_at, take-append-le, length-append, length-take-le, length-drop}
use Rattle.std.proofs.lemmas.Grind.{flat_map-append}
use Rattle.mcap_wire.specs.Layout.{le, number, magic}
use Rattle.mcap_wire.proofs.Framing.{records_apart}
use Rattle.mcap_wire.proofs.Numbers.{number-le}
use Rattle.mcap_model.specs.Places.{At, Each}
use Rattle.mcap_model.specs.Tops.{Top, Tops, top_bytes, spelled, offset_behind, opcode, declared_length, has_head, is_whole, first_top, behind_first}
use Rattle.mcap_model.specs.Fields.{IsHeader}
use Rattle.mcap_model.specs.Rules.{V1, V3, HasDataEnd, V5, V6, V7, V8, V10, stands_in_section, Breaks, breaks_3, breaks_5, breaks_6, breaks_7, breaks_8, breaks_10}
use Rattle.mcap_model.specs.Kept.{reading_limits, Good, grammar, IsDue, IsPacked, HaltsThere, short_head, zero_opcode, cut_short, broken_rule, HaltsAt, no_magic, behind_kept}
use Rattle.mcap_model.specs.Whole.{V2, AreShort, IsWhole, V17}
use Rattle.mcap_model.specs.Valid.{IsPlain, Behind, WherePlain, FailsAmong, FailsToFit, FailsByZero, StartsWithHeader, Flaw, flaw_1, flaw_3, flaw_4, flaw_5, flaw_6, flaw_7, flaw_8, flaw_10, flaw_17}
use Rattle.mcap_model.proofs.Places.{at_none, at_last, at_more}
use Rattle.mcap_model.proofs.Readings.{top_of, short_there, length-top}
use Rattle.mcap_model.proofs.Flaws.{left_size}
use Rattle.mcap_model.specs.declared.rules.Rule.{Rule}
use Rattle.mcap_model.specs.declared.rules.Rule.TheVariants as rules
use Rattle.mcap_model.specs.RuleNumbers.{same_rule}
use Rattle.summary_check.proofs.Cuts.{inner_is}
use Rattle.file_check.specs.declared.flaws.FailedRule.{FailedRule}
use Rattle.file_check.specs.Halting.{failed, failed_at}
use Rattle.file_check.specs.HaltFlaws.{told_flaw, HasLengthAt, HaltsAreFlaws}

-- ---- the record at the front of some bytes

-- it is framed there, and has the length that it declares
-- its length is spelled in eight bytes
abbrev HasLength : List ℕ → Type 0
HasLength rest = (n : ℕ) × (n < 2 ^ 64) × (take 8 (drop 1 rest) ≡ le 8 n)

record Framed (rest : List ℕ) : Type 0 where
  same : rest ≡ top_bytes (first_top rest) ++ behind_first rest
  size : length (first_top rest).content ≡ declared_length rest

framed_first : (rest : List ℕ) → has_head rest ≡ true → is_whole rest ≡ true → HasLength rest → Framed rest
framed_first [] head whole fit = absurd (both_ways false refl head)
framed_first (x ∷ xs) head whole (n, small, is) =
    let nine : 9 ≤ length (x ∷ xs) = leb-true 9 (length (x ∷ xs)) head in
    let len = number (take 8 xs) in
    let all : 9 + len ≤ length (x ∷ xs) = leb-true (9 + len) (length (x ∷ xs)) whole in
    let content = take len (drop 8 xs) in
    let size : length content ≡ len = length-take-le len (drop 8 xs) (omega (arith, all, length-drop 8 xs)) in
    let back : le 8 (length content) ≡ take 8 xs = ap (le 8) size ∙ ap (λ (l : List ℕ). le 8 (number l)) is ∙ ap (le 8) (number-le 8 n small) ∙ sym is in
    let count : 9 + len ≡ suc (8 + len) = omega arith in
    let after : drop (9 + len) (x ∷ xs) ≡ drop len (drop 8 xs) = ap (λ (n : ℕ). drop n (x ∷ xs)) count ∙ sym (drop-drop len 8 xs) in
    let inner : (le 8 (length content) ++ content) ++ drop (9 + len) (x ∷ xs) ≡ xs =
    ap (λ (l : List ℕ). (l ++ content) ++ drop (9 + len) (x ∷ xs)) back
    ∙ ap (λ (l : List ℕ). (take 8 xs ++ content) ++ l) after
    ∙ append_assoc (take 8 xs) content (drop len (drop 8 xs))
    ∙ ap (λ (l : List ℕ). take 8 xs ++ l) (take-append-drop len (drop 8 xs))
    ∙ take-append-drop 8 xs in
    record { same = ap (λ (l : List ℕ). x ∷ l) (sym inner); size = size }

-- ---- what stands behind the records

pub left_there : (inner : List ℕ) (tops : List Top) (rest : List ℕ) → Tops inner tops rest → drop (offset_behind tops) inner ≡ rest
left_there inner tops rest stand =
    ap (drop (offset_behind tops)) (stand.split ∙ sym (append_assoc magic (spelled tops) rest))
    ∙ drop_at (magic ++ spelled tops) rest (offset_behind tops) (length-append magic (spelled tops))

length_there : (inner : List ℕ) (tops : List Top) (rest : List ℕ) → Tops inner tops rest → HasLengthAt inner (offset_behind tops) → HasLength rest
length_there inner tops rest stand (n, small, is) =
    (n, small, sym (ap (λ (l : List ℕ). take 8 l) (sym (drop-drop 1 (offset_behind tops) inner) ∙ ap (drop 1) (left_there inner tops rest stand))) ∙ is)

regroup : (m s r e : List ℕ) → (m ++ (s ++ r)) ++ e ≡ m ++ (s ++ (r ++ e))
regroup m s r e = simp (append_assoc) refl

-- the same records stand at the front of a file that ends with some more bytes
pub stand_with : (inner last : List ℕ) (tops : List Top) (rest : List ℕ) → Tops inner tops rest → Tops (inner ++ last) tops (rest ++ last)
stand_with inner last tops rest stand = record { split = ap (λ (l : List ℕ). l ++ last) stand.split ∙ regroup magic (spelled tops) rest last }

-- and so at that of the whole file
pub stand_whole : (inner : List ℕ) (tops : List Top) (rest : List ℕ) → Tops inner tops rest → Tops (inner ++ magic) tops (rest ++ magic)
stand_whole inner tops rest stand = stand_with inner magic tops rest stand

regroup_more : (m s b r e : List ℕ) → m ++ (s ++ ((b ++ r) ++ e)) ≡ m ++ ((s ++ (b ++ [])) ++ (r ++ e))
regroup_more m s b r e = simp (append_assoc, append-nil) refl

stand_more : (inner last : List ℕ) (tops : List Top) (rest : List ℕ) (t : Top) (behind : List ℕ) → Tops inner tops rest → rest ≡ top_bytes t ++ behind → Tops (inner ++ last) (tops ++ t ∷ []) (behind ++ last)
stand_more inner last tops rest t behind stand is =
    let whole = stand_with inner last tops rest stand in record {
      split =
          whole.split
          ∙ ap (λ (l : List ℕ). magic ++ (spelled tops ++ (l ++ last))) is
          ∙ regroup_more magic (spelled tops) (top_bytes t) behind last
          ∙ ap (λ (l : List ℕ). magic ++ (l ++ (behind ++ last))) (sym (flat_map-append top_bytes tops (t ∷ [])));
    }

pub good_short : (tops : List Top) → Good reading_limits tops → AreShort tops
good_short tops good n t at = let fits = good n t at in short_there (offset_behind (take n tops)) (length t.content) fits.within

short_more : (tops : List Top) (t : Top) → AreShort tops → length t.content < 2 ^ 64 → AreShort (tops ++ t ∷ [])
short_more tops t short last n u at = elim (at_more tops t n u at) [
  | inl old ↦ short n u old
  | inr new ↦ subst (λ (x : Top). length x.content < 2 ^ 64) (sym new.1) last
]

-- ---- what the record there breaks

-- records, and one more behind them that is framed there
pub record Next (inner : List ℕ) (tops : List Top) (t : Top) : Type 0 where
  pub rest : List ℕ
  pub behind : List ℕ
  pub stand : Tops inner tops rest
  pub good : Good reading_limits tops
  pub is : rest ≡ top_bytes t ++ behind
  pub short : length t.content < 2 ^ 64

-- where a file ends with the magic, it does so behind them
abbrev pub Ends : List ℕ → List ℕ → Type 0
Ends inner last = V2 (inner ++ last) → 8 ≤ length last

fails_among : (R : List Top → ℕ → Top → Type 0) (inner last : List ℕ) (tops : List Top) (t : Top) → Ends inner last → Next inner tops t → (R (tops ++ t ∷ []) (length tops) t → ⊥) → FailsAmong R (inner ++ last) (offset_behind tops)
fails_among R inner last tops t ends next bad =
    let before : take (length tops) (tops ++ t ∷ []) ≡ tops = take_at tops (t ∷ []) (length tops) refl in record {
      tops = tops ++ t ∷ [];
      rest = next.behind ++ last;
      stand = stand_more inner last tops next.rest t next.behind next.stand next.is;
      short = short_more tops t (good_short tops next.good) next.short;
      inside = λ v2. omega (arith, ends v2, length-append next.behind last);
      place = length tops;
      top = t;
      at = at_last tops t [];
      there = ap offset_behind (sym before);
      breaks = bad;
    }

behind_bad : (R : List Top → Top → Type 0) (tops : List Top) (t : Top) → (R tops t → ⊥) → Behind R (tops ++ t ∷ []) (length tops) t → ⊥
behind_bad R tops t bad kept = bad (subst (λ (l : List Top). R l t) (take_at tops (t ∷ []) (length tops) refl) kept)

plain_all : (tops : List Top) (t : Top) → Good reading_limits tops → IsPlain t → Each IsPlain (take (suc (length tops)) (tops ++ t ∷ []))
plain_all tops t good plain =
    subst (Each IsPlain) (sym (take_all (suc (length tops)) (tops ++ t ∷ []) (omega (arith, length-append tops (t ∷ []))))) each
  where
    each : Each IsPlain (tops ++ t ∷ [])
    each n u at = elim (at_more tops t n u at) [
      | inl old ↦ let fits = good n u old in fits.plain
      | inr new ↦ subst IsPlain (sym new.1) plain
    ]

where_plain_bad : (R : List Top → ℕ → Top → Type 0) (tops : List Top) (t : Top) → Good reading_limits tops → IsPlain t → (R (tops ++ t ∷ []) (length tops) t → ⊥) → WherePlain R (tops ++ t ∷ []) (length tops) t → ⊥
where_plain_bad R tops t good plain bad kept = bad (kept (plain_all tops t good plain))

-- ---- the first record

-- a record at the front is no Header, so no Header stands there
no_header : (inner last : List ℕ) (t : Top) → Next inner [] t → length inner + length last < 2 ^ 64 → (IsHeader t → ⊥) → StartsWithHeader (inner ++ last) → ⊥
no_header inner last t next fits bad (u, stands, header) =
    let whole = stand_with inner last [] next.rest next.stand in
    let left : drop 8 (inner ++ last) ≡ top_bytes t ++ (next.behind ++ last) =
    ap (drop 8) whole.split ∙ ap (λ (l : List ℕ). l ++ last) next.is ∙ append_assoc (top_bytes t) next.behind last in
    let bytes : top_bytes u ++ stands.rest ≡ top_bytes t ++ (next.behind ++ last) = sym stands.there ∙ left in
    let size : length (drop 8 (inner ++ last)) ≡ length (top_bytes u) + length stands.rest = ap length stands.there ∙ length-append (top_bytes u) stands.rest in
    let short : length u.content < 2 ^ 64 = omega (arith, size, fits, length-top u, length-drop 8 (inner ++ last), length-append inner last) in
    let parts = records_apart u.op t.op u.content t.content stands.rest (next.behind ++ last) short next.short bytes in
    let heads : u ≡ t = ap (λ (o : ℕ). top_of o u.content) parts.0 ∙ ap (top_of t.op) parts.1 in
    bad (subst IsHeader heads header)

header_agrees : (content : List ℕ) → V7 [] (top_of 1 content)
header_agrees content n u at = absurd (at_none n u at)

header_v7 : (t : Top) → IsHeader t → V7 [] t
header_v7 t header = subst (λ (o : ℕ). V7 [] (top_of o t.content)) (sym header.kind) (header_agrees t.content)

header_v8 : (t : Top) → IsHeader t → V8 t
header_v8 t header f is plain = let six = is.kind in let one = header.kind in absurd (omega (arith, six, one))

-- ---- what is told

pub as_told : (file : List ℕ) (f : FailedRule) (rule : Rule) (offset : ℕ) → f ≡ failed rule offset → Flaw file rule offset → Flaw file f.rule f.offset
as_told file f rule offset same flaw = subst (λ (g : FailedRule). Flaw file g.rule g.offset) (sym same) flaw

and_no : (b : Bool) → (b && false) ≡ false
and_no true = refl
and_no false = refl

-- rules other than V7 and V8 are told as they are, and so are these behind the first record
pub at_plain : (offset : ℕ) (rule : Rule) → (same_rule rule rules.V7 || same_rule rule rules.V8) ≡ false → failed_at offset rule ≡ failed rule offset
at_plain offset rule others = ap (λ (b : Bool). if b then failed rules.V3 8 else failed rule offset) (ap (λ (b : Bool). eqb offset 8 && b) others ∙ and_no (eqb offset 8))

at_later : (offset : ℕ) (rule : Rule) → (offset ≡ 8 → ⊥) → failed_at offset rule ≡ failed rule offset
at_later offset rule apart = ap (λ (b : Bool). if b && (same_rule rule rules.V7 || same_rule rule rules.V8) then failed rules.V3 8 else failed rule offset) (ne_eqb offset 8 apart)

-- rules other than V4 are told where they are broken, and so is V4 in front of the end
told_other : (end offset : ℕ) (rule : Rule) → same_rule rule rules.V4 ≡ false → told_flaw end offset rule ≡ failed_at offset rule
told_other end offset rule four = ap (λ (b : Bool). if b && eqb offset end then failed rules.V17 (end - 29) else failed_at offset rule) four

told_short : (end offset : ℕ) → (offset ≡ end → ⊥) → told_flaw end offset rules.V4 ≡ failed rules.V4 offset
told_short end offset apart = ap (λ (b : Bool). if b then failed rules.V17 (end - 29) else failed_at offset rules.V4) (ne_eqb offset end apart) ∙ at_plain offset rules.V4 refl

told_end : (end : ℕ) → told_flaw end end rules.V4 ≡ failed rules.V17 (end - 29)
told_end end = ap (λ (b : Bool). if b then failed rules.V17 (end - 29) else failed_at end rules.V4) (eq-eqb end end refl)

-- ---- each halt

-- no Footer stands among the records of a data section that goes on
no_footer : (tops : List Top) → Good reading_limits tops → (HasDataEnd tops → ⊥) → V17 tops → ⊥
no_footer tops good unended (before, t, joined, footer, none) =
    let at : At tops (length before) t = subst (λ (l : List Top). At l (length before) t) (sym joined) (at_last before t []) in
    let fits = good (length before) t at in
    let front : take (length before) tops ≡ before = ap (take (length before)) joined ∙ take_at before (t ∷ []) (length before) refl in
    let is = footer.3 in
    by before front (subst (λ (l : List Top). V3 l t) front fits.v3) (subst (λ (l : List Top). V5 l t) front fits.v5) is.kind joined
  where
    longer : (ts : List Top) (n : ℕ) → HasDataEnd (take n ts) → HasDataEnd ts
    longer ts zero ended = absurd ended
    longer [] (suc n) ended = absurd ended
    longer (u ∷ us) (suc n) (inl here) = inl here
    longer (u ∷ us) (suc n) (inr more) = inr (longer us n more)

    ended_early : (xs : List Top) → take (length before) tops ≡ xs → HasDataEnd xs → ⊥
    ended_early xs front ended = unended (longer tops (length before) (subst HasDataEnd (sym front) ended))

    by : (xs : List Top) → take (length before) tops ≡ xs → V3 xs t → V5 xs t → t.op ≡ 2 → tops ≡ before ++ t ∷ [] → ⊥
    by [] front header v5 two joined = let one = header.kind in omega (arith, one, two)
    by (x ∷ xs) front v3 (some, inl ended) two joined = ended_early (x ∷ xs) front ended
    by (x ∷ xs) front v3 (some, inr stands) two joined =
        both_ways false refl (sym (ap stands_in_section two) ∙ stands)

-- whole records, and the last magic directly behind them
at_the_end : (inner : List ℕ) (tops : List Top) → Tops inner tops [] → Good reading_limits tops → (HasDataEnd tops → ⊥) → Flaw (inner ++ magic) rules.V17 (length inner - 29)
at_the_end inner tops stand good unended =
    let whole = stand_whole inner tops [] stand in
    let is : IsWhole (inner ++ magic) tops = record { split = whole.split; short = good_short tops good } in
    let size = length-append inner magic in
    let there : length (inner ++ magic) - 37 ≡ length inner - 29 = omega (arith, size) in
    subst (λ (n : ℕ). Flaw (inner ++ magic) rules.V17 n) there (flaw_17 (inr (tops, is, no_footer tops good unended)))

cut_off : (inner : List ℕ) (tops : List Top) (rest : List ℕ) → Tops inner tops rest → Good reading_limits tops → 0 < length rest → (has_head rest ≡ false) ⊎ (is_whole rest ≡ false) → FailsToFit (inner ++ magic) (offset_behind tops)
cut_off inner tops rest stand good some cut = record {
  tops = tops;
  rest = rest ++ magic;
  stand = stand_whole inner tops rest stand;
  short = good_short tops good;
  there = refl;
  inside = omega (arith, some, left_size inner tops rest stand, length-append inner magic);
  cut = elim cut [
    | inl headless ↦ inl (ap has_head (inner_is rest) ∙ headless)
    | inr short ↦ inr (ap is_whole (inner_is rest) ∙ short)
  ];
}

cut_there : (inner : List ℕ) (tops : List Top) (rest : List ℕ) → Tops inner tops rest → Good reading_limits tops → (HasDataEnd tops → ⊥) → (has_head rest ≡ false) ⊎ (is_whole rest ≡ false)
    → Flaw (inner ++ magic) (told_flaw (length inner) (offset_behind tops) rules.V4).rule (told_flaw (length inner) (offset_behind tops) rules.V4).offset
cut_there inner tops [] stand good unended cut =
    let end : length inner ≡ offset_behind tops = omega (arith, left_size inner tops [] stand) in
    as_told (inner ++ magic) (told_flaw (length inner) (offset_behind tops) rules.V4) rules.V17 (length inner - 29)
    (ap (λ (n : ℕ). told_flaw (length inner) n rules.V4) (sym end) ∙ told_end (length inner)) (at_the_end inner tops stand good unended)
cut_there inner tops (b ∷ bs) stand good unended cut =
    let size = left_size inner tops (b ∷ bs) stand in
    as_told (inner ++ magic) (told_flaw (length inner) (offset_behind tops) rules.V4) rules.V4 (offset_behind tops)
    (told_short (length inner) (offset_behind tops) (λ e. omega (arith, e, size)))
    (flaw_4 (offset_behind tops) (cut_off inner tops (b ∷ bs) stand good (omega arith) cut))

zero_there : (inner : List ℕ) (tops : List Top) (rest : List ℕ) → Tops inner tops rest → Good reading_limits tops → has_head rest ≡ true → opcode rest ≡ 0 → FailsByZero (inner ++ magic) (offset_behind tops)
zero_there inner tops [] stand good head none = absurd (both_ways false refl head)
zero_there inner tops (b ∷ bs) stand good head none = record {
  tops = tops;
  rest = (b ∷ bs) ++ magic;
  stand = stand_whole inner tops (b ∷ bs) stand;
  short = good_short tops good;
  there = refl;
  inside = omega (arith, leb-true 9 (length (b ∷ bs)) head, left_size inner tops (b ∷ bs) stand, length-append inner magic);
  zero = none;
}

no_cons : (x : Top) (xs : List Top) → x ∷ xs ≡ [] → ⊥
no_cons x xs e = let size = ap length e in omega (arith, size)

later : (x : Top) (xs : List Top) → offset_behind (x ∷ xs) ≡ 8 → ⊥
later x xs e = omega (arith, e, length-append (top_bytes x) (spelled xs), length-top x)

-- the record there breaks a rule
pub broken_there : (inner last : List ℕ) (tops : List Top) (t : Top) (rule : Rule) → Ends inner last → Next inner tops t → length inner + length last < 2 ^ 64 → ((name : List ℕ) → IsPacked tops t name → ⊥) → Breaks tops t rule
    → Flaw (inner ++ last) (failed_at (offset_behind tops) rule).rule (failed_at (offset_behind tops) rule).offset
broken_there inner last [] t rule ends next fits plain (breaks_3 bad) =
    as_told (inner ++ last) (failed_at 8 rules.V3) rules.V3 8 (at_plain 8 rules.V3 refl) (flaw_3 (no_header inner last t next fits bad))
broken_there inner last (x ∷ xs) t rule ends next fits plain (breaks_3 bad) = absurd (bad tt)
broken_there inner last tops t rule ends next fits plain (breaks_5 bad) =
    as_told (inner ++ last) (failed_at (offset_behind tops) rules.V5) rules.V5 (offset_behind tops) (at_plain (offset_behind tops) rules.V5 refl)
    (flaw_5 (offset_behind tops) (inl (fails_among (Behind V5) inner last tops t ends next (behind_bad V5 tops t bad))))
broken_there inner last tops t rule ends next fits plain (breaks_6 bad) =
    as_told (inner ++ last) (failed_at (offset_behind tops) rules.V6) rules.V6 (offset_behind tops) (at_plain (offset_behind tops) rules.V6 refl)
    (flaw_6 (offset_behind tops) (fails_among (λ l n. V6) inner last tops t ends next bad))
broken_there inner last [] t rule ends next fits plain (breaks_7 bad) =
    as_told (inner ++ last) (failed_at 8 rules.V7) rules.V3 8 refl (flaw_3 (no_header inner last t next fits (λ header. bad (header_v7 t header))))
broken_there inner last (x ∷ xs) t rule ends next fits plain (breaks_7 bad) =
    let at = offset_behind (x ∷ xs) in
    as_told (inner ++ last) (failed_at at rules.V7) rules.V7 at (at_later at rules.V7 (later x xs))
    (flaw_7 at (fails_among (WherePlain (Behind V7)) inner last (x ∷ xs) t ends next
    (where_plain_bad (Behind V7) (x ∷ xs) t next.good (λ name names. plain name (no_cons x xs, names)) (behind_bad V7 (x ∷ xs) t bad))))
broken_there inner last [] t rule ends next fits plain (breaks_8 bad) =
    as_told (inner ++ last) (failed_at 8 rules.V8) rules.V3 8 refl (flaw_3 (no_header inner last t next fits (λ header. bad (header_v8 t header))))
broken_there inner last (x ∷ xs) t rule ends next fits plain (breaks_8 bad) =
    let at = offset_behind (x ∷ xs) in
    as_told (inner ++ last) (failed_at at rules.V8) rules.V8 at (at_later at rules.V8 (later x xs))
    (flaw_8 at (fails_among (WherePlain (λ l n. V8)) inner last (x ∷ xs) t ends next
    (where_plain_bad (λ l n. V8) (x ∷ xs) t next.good (λ name names. plain name (no_cons x xs, names)) bad)))
broken_there inner last tops t rule ends next fits plain (breaks_10 bad) =
    as_told (inner ++ last) (failed_at (offset_behind tops) rules.V10) rules.V10 (offset_behind tops) (at_plain (offset_behind tops) rules.V10 refl)
    (flaw_10 (offset_behind tops) (fails_among (λ l n. V10) inner last tops t ends next bad))

-- it isn't that a record isn't whole
pub not_four : (tops : List Top) (t : Top) (rule : Rule) → Breaks tops t rule → same_rule rule rules.V4 ≡ false
not_four tops t rule (breaks_3 bad) = refl
not_four tops t rule (breaks_5 bad) = refl
not_four tops t rule (breaks_6 bad) = refl
not_four tops t rule (breaks_7 bad) = refl
not_four tops t rule (breaks_8 bad) = refl
not_four tops t rule (breaks_10 bad) = refl

-- the record there, as it is framed
pub next_there : (inner : List ℕ) (tops : List Top) (rest : List ℕ) → Tops inner tops rest → Good reading_limits tops → IsDue reading_limits tops rest → is_whole rest ≡ true
    → (offset_behind tops + 9 ≤ length inner → HasLengthAt inner (offset_behind tops)) → Next inner tops (first_top rest)
next_there inner tops rest stand good due whole bytes =
    let head = due.head.0 in
    let nine = leb-true 9 (length rest) head in
    let there = length_there inner tops rest stand (bytes (omega (arith, nine, left_size inner tops rest stand))) in
    let framed = framed_first rest head whole there in
    let small = short_there (offset_behind tops) (declared_length rest) due.within in
    record { rest = rest; behind = behind_first rest; stand = stand; good = good; is = framed.same; short = omega (arith, framed.size, small) }

-- ---- all of them

by_cause : (inner : List ℕ) (tops : List Top) (rest : List ℕ) (offset : ℕ) (rule : Rule) → Tops inner tops rest → Good reading_limits tops → (HasDataEnd tops → ⊥) → length inner + 8 < 2 ^ 64
    → (offset + 9 ≤ length inner → HasLengthAt inner offset) → HaltsThere reading_limits tops rest (grammar offset rule)
    → Flaw (inner ++ magic) (told_flaw (length inner) offset rule).rule (told_flaw (length inner) offset rule).offset
by_cause inner tops rest offset rule stand good unended fits bytes (short_head headless) = cut_there inner tops rest stand good unended (inl headless)
by_cause inner tops rest offset rule stand good unended fits bytes (zero_opcode head none) =
    as_told (inner ++ magic) (told_flaw (length inner) (offset_behind tops) rules.V5) rules.V5 (offset_behind tops) (told_other (length inner) (offset_behind tops) rules.V5 refl ∙ at_plain (offset_behind tops) rules.V5 refl)
    (flaw_5 (offset_behind tops) (inr (inl (zero_there inner tops rest stand good head none))))
by_cause inner tops rest offset rule stand good unended fits bytes (cut_short due short) = cut_there inner tops rest stand good unended (inr short)
by_cause inner tops rest offset rule stand good unended fits bytes (broken_rule r due whole plain breaks) =
    let t = first_top rest in
    let flaw = broken_there inner magic tops t r (λ v2. omega arith) (next_there inner tops rest stand good due whole bytes) fits plain breaks in
    subst (λ (g : FailedRule). Flaw (inner ++ magic) g.rule g.offset) (sym (told_other (length inner) (offset_behind tops) r (not_four tops t r breaks))) flaw

-- without the magic in front of them
no_magic_there : (inner : List ℕ) → 8 ≤ length inner → (V1 inner → ⊥) → V1 (inner ++ magic) → ⊥
no_magic_there inner long bad (rest, is) =
    let front : take 8 inner ≡ magic = sym (take_first) ∙ ap (take 8) is ∙ take_at magic rest 8 refl in
    bad (drop 8 inner, sym (take-append-drop 8 inner) ∙ ap (λ (l : List ℕ). l ++ drop 8 inner) front)
  where
    take_first : take 8 (inner ++ magic) ≡ take 8 inner
    take_first = take-append-le 8 inner magic long

halted : (inner : List ℕ) (tops : List Top) (offset : ℕ) (rule : Rule) → 8 ≤ length inner → length inner + 8 < 2 ^ 64 → (offset + 9 ≤ length inner → HasLengthAt inner offset) → Good reading_limits tops
    → HaltsAt reading_limits inner tops (grammar offset rule) → Flaw (inner ++ magic) (told_flaw (length inner) offset rule).rule (told_flaw (length inner) offset rule).offset
halted inner tops offset rule long fits bytes good (no_magic bad) =
    as_told (inner ++ magic) (told_flaw (length inner) 0 rules.V1) rules.V1 0 refl (flaw_1 (no_magic_there inner long bad))
halted inner tops offset rule long fits bytes good (behind_kept rest stand unended halt there) = by_cause inner tops rest offset rule stand good unended fits bytes there

pub halts_are_flaws : HaltsAreFlaws
halts_are_flaws inner tops offset rule long fits bytes halts = let kept = halts.kept in halted inner tops offset rule long fits bytes kept.good halts.there
