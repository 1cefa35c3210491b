-- Judging a record of the top level.
use Rattle.std.proofs.Common.{◌≡◌, ℕ, zero, suc, Some, ◌<◌, ◌≤◌, Bool, true, false, eqb, List, [], ◌∷◌, ◌++◌, length, take, filter, cond, refl, sym, ap, subst, inl, inr, ◌∙◌, arith}
use Rattle.std.specs.Prelude.{nat_le, if◌then◌else◌}
use Rattle.std.specs.List.{list_any}
use Rattle.std.proofs.lemmas.Bool.{both_ways, ne_eqb, le-leb, or_right}
use Rattle.std.proofs.lemmas.List.{append-nil}
use Rattle.std.proofs.lemmas.Grind.{common_steps}
use Rattle.mcap_wire.proofs.Contents.{shows_decided}
use Rattle.rec_index.specs.Records.{chunk_kinds, chunk_values}
use Rattle.mcap_model.specs.Places.{At}
use Rattle.mcap_model.specs.Tops.{Top, records_in, is_chunk, inner_tops, is_flat_kind, flattened, flat}
use Rattle.mcap_model.specs.Fields.{ChunkFields, IsChunk}
use Rattle.mcap_model.specs.Kept.{Limits, Fits}
use Rattle.mcap_model.specs.Rules.{V5, V6, V8, V10, HasDataEnd, stands_in_section, Agrees, ChunkIsRight, Breaks, breaks_6, breaks_7, breaks_8, breaks_10, HasSizeAndCrc}
use Rattle.mcap_model.proofs.Places.{at_none}
use Rattle.mcap_model.proofs.Unpacking.{chunks_are_opened}
use Rattle.mcap_model.specs.declared.tables.Tables.{Tables}
use Rattle.mcap_model.specs.declared.tables.Ruling.{Ruling}
use Rattle.mcap_model.specs.declared.tables.Ruling.TheVariants as rulings
use Rattle.mcap_model.specs.Made.{top}
use Rattle.mcap_model.specs.declared.tops.Judged.TheVariants as judged
use Rattle.mcap_model.specs.Declarations.{TablesOf, Judges, AttachmentJudged}
use Rattle.mcap_model.specs.WantsOfMemory.{AgreesButMetadata, NamesNoCompression, MayWantMemory}
use Rattle.mcap_model.specs.Chunked.{flat_of, AgreeBehind, ChunkTaken}
use Rattle.mcap_model.specs.Judging.{as_judged, kept_or_breaks, KeepsRules, JudgedAs}
use Rattle.mcap_model.proofs.Meets.{chunk_meets, unknown_meets}
use Rattle.mcap_model.proofs.Agreeing.{but_metadata}
use Rattle.mcap_model.proofs.Inside.{unknown_not_flat}
use Rattle.mcap_model.proofs.Flat.{named_or, flat_more}
use Rattle.mcap_model.specs.declared.rules.Rule.{Rule}
use Rattle.mcap_model.specs.declared.rules.Rule.TheVariants as rules

-- ---- flat records

-- a record that stands for itself alone
flat_alone : (t : Top) → flattened t ≡ t ∷ [] → (before : List Top) → Agrees before t → (n : ℕ) (u : Top) → At (flattened t) n u → Agrees (before ++ take n (flattened t)) u
flat_alone t alone before agrees = subst (AgreeBehind before) (sym alone) by
  where
    some_one : (x y : Top) → Some x ≡ Some y → x ≡ y
    some_one x y e = cc

    by : (n : ℕ) (u : Top) → At (t ∷ []) n u → Agrees (before ++ take n (t ∷ [])) u
    by zero u at = subst (λ (l : List Top). Agrees l u) (sym (append-nil before)) (subst (Agrees before) (some_one t u at) agrees)
    by (suc n) u at = absurd (at_none n u at)

flat_not : (t : Top) → flattened t ≡ t ∷ [] → (before : List Top) → (Agrees before t → ⊥) → AgreeBehind before (flattened t) → ⊥
flat_not t alone before apart agree =
    let first : Agrees (before ++ []) t = subst (AgreeBehind before) alone agree 0 t refl in
    apart (subst (λ (l : List Top). Agrees l t) (append-nil before) first)

silent_agrees : (t : Top) → flattened t ≡ [] → (before : List Top) → AgreeBehind before (flattened t)
silent_agrees t silent before = subst (AgreeBehind before) (sym silent) (λ n u at. absurd (at_none n u at))

-- ---- kinds

not_chunk : (t : Top) → (t.op ≡ 6 → ⊥) → NamesNoCompression t
not_chunk t other name names = let is = names.is in other is.kind

no_v8 : (t : Top) → (t.op ≡ 6 → ⊥) → V8 t
no_v8 t other f is plain = absurd (other is.kind)

no_v10 : (t : Top) → (t.op ≡ 9 → ⊥) → V10 t
no_v10 t other f place kind stands = absurd (other kind)

pub unknown_in_section : (op : ℕ) → 16 ≤ op → stands_in_section op ≡ true
unknown_in_section op high = or_right (list_any (λ kind. eqb kind op) (3 ∷ 4 ∷ 5 ∷ 6 ∷ 7 ∷ 9 ∷ 12 ∷ 15 ∷ [])) (nat_le 16 op) (le-leb 16 op high)

flat_unknown : (t : Top) → 16 ≤ t.op → flattened t ≡ []
flat_unknown t high =
    let closed : is_chunk t ≡ false = ne_eqb t.op 6 (λ (e : t.op ≡ 6). omega (arith, e, high)) in
    ap (λ (b : Bool). filter is_flat_kind (if b then inner_tops t else t ∷ [])) closed ∙ ap (λ (b : Bool). cond b (t ∷ []) []) (unknown_not_flat t high)

-- ---- a record that isn't a chunk

pub flat_judged : (first : Top) (more : List Top) (op n : ℕ) (content : List ℕ) (tables : Tables) (ruling : Ruling) → op ≡ n → stands_in_section n ≡ true → (n ≡ 0 → ⊥) → (n ≡ 6 → ⊥) → (n ≡ 9 → ⊥) → flattened (top n content) ≡ top n content ∷ []
    → Judges (flat (first ∷ more)) (top n content) tables ruling → JudgedAs (first ∷ more) (top op content) tables (as_judged ruling)
flat_judged first more op n content tables ruling is stands some closed other alone judges =
    subst (λ (m : ℕ). JudgedAs (first ∷ more) (top m content) tables (as_judged ruling)) (sym is) (by ruling judges)
  where
    t : Top
    t = top n content

    by : (v : Ruling) → Judges (flat (first ∷ more)) t tables v → JudgedAs (first ∷ more) t tables (as_judged v)
    by rulings.Fits j = (
      record { v3 = tt; v5 = (some, inr stands); v6 = j.0; v7 = flat_alone t alone (flat (first ∷ more)) j.1; v8 = no_v8 t closed; v10 = no_v10 t other; plain = not_chunk t closed },
      subst (λ (l : List Top). TablesOf l tables) (ap (λ (l : List Top). flat (first ∷ more) ++ l) (sym alone) ∙ sym (flat_more (first ∷ more) t)) j.2,
    )
    by (rulings.Breaks rule) (inl layout) = ((λ some. not_chunk t closed), subst (Breaks (first ∷ more) t) (sym layout.0) (breaks_6 layout.1))
    by (rulings.Breaks rule) (inr ids) = ((λ some. not_chunk t closed), subst (Breaks (first ∷ more) t) (sym ids.0) (breaks_7 (flat_not t alone (flat (first ∷ more)) ids.2)))
    by rulings.Memory j =
        record { v3 = tt; v5 = (some, inr stands); v6 = j.0; v10 = no_v10 t other; plain = not_chunk t closed; chunk = λ f is. absurd (closed is.kind); agrees = λ apart. j.1 }

-- one of another kind
pub silent_keeps : (first : Top) (more : List Top) (t : Top) (tables : Tables) → stands_in_section t.op ≡ true → (t.op ≡ 0 → ⊥) → (t.op ≡ 6 → ⊥) → flattened t ≡ [] → V6 t → V10 t → TablesOf (flat (first ∷ more)) tables
    → KeepsRules (first ∷ more) t × TablesOf (flat (first ∷ more ++ t ∷ [])) tables
silent_keeps first more t tables stands some closed silent v6 v10 are = (
  record { v3 = tt; v5 = (some, inr stands); v6 = v6; v7 = silent_agrees t silent (flat (first ∷ more)); v8 = no_v8 t closed; v10 = v10; plain = not_chunk t closed },
  subst (λ (l : List Top). TablesOf l tables) (sym (append-nil (flat (first ∷ more))) ∙ ap (λ (l : List Top). flat (first ∷ more) ++ l) (sym silent) ∙ sym (flat_more (first ∷ more) t)) are,
)

pub silent_fits : (first : Top) (more : List Top) (op n : ℕ) (content : List ℕ) (tables : Tables) → op ≡ n → stands_in_section n ≡ true → (n ≡ 0 → ⊥) → (n ≡ 6 → ⊥) → (n ≡ 9 → ⊥) → flattened (top n content) ≡ [] → V6 (top n content) → TablesOf (flat (first ∷ more)) tables
    → KeepsRules (first ∷ more) (top op content) × TablesOf (flat (first ∷ more ++ top op content ∷ [])) tables
silent_fits first more op n content tables is stands some closed other silent v6 are =
    subst (λ (m : ℕ). KeepsRules (first ∷ more) (top m content) × TablesOf (flat (first ∷ more ++ top m content ∷ [])) tables) (sym is)
    (silent_keeps first more (top n content) tables stands some closed silent v6 (no_v10 (top n content) other) are)

pub attachment_fits : (first : Top) (more : List Top) (op : ℕ) (content : List ℕ) (tables : Tables) → op ≡ 9 → V6 (top 9 content) → V10 (top 9 content) → TablesOf (flat (first ∷ more)) tables
    → KeepsRules (first ∷ more) (top op content) × TablesOf (flat (first ∷ more ++ top op content ∷ [])) tables
attachment_fits first more op content tables is v6 v10 are =
    subst (λ (m : ℕ). KeepsRules (first ∷ more) (top m content) × TablesOf (flat (first ∷ more ++ top m content ∷ [])) tables) (sym is)
    (silent_keeps first more (top 9 content) tables refl (λ e. omega (arith, e)) (λ e. omega (arith, e)) refl v6 v10 are)

pub unknown_fits : (first : Top) (more : List Top) (op : ℕ) (content : List ℕ) (tables : Tables) → 16 ≤ op → TablesOf (flat (first ∷ more)) tables
    → KeepsRules (first ∷ more) (top op content) × TablesOf (flat (first ∷ more ++ top op content ∷ [])) tables
unknown_fits first more op content tables high are =
    let t = top op content in
    silent_keeps first more t tables (unknown_in_section op high) (λ e. omega (arith, e, high)) (λ e. omega (arith, e, high)) (flat_unknown t high) (unknown_meets t high) (no_v10 t (λ e. omega (arith, e, high))) are

-- a broken rule of a record that is no chunk
pub breaks_plain : (tops : List Top) (op n : ℕ) (content : List ℕ) (rule : Rule) → op ≡ n → (n ≡ 6 → ⊥) → Breaks tops (top n content) rule → ((tops ≡ [] → ⊥) → NamesNoCompression (top op content)) × Breaks tops (top op content) rule
breaks_plain tops op n content rule is closed breaks =
    subst (λ (m : ℕ). ((tops ≡ [] → ⊥) → NamesNoCompression (top m content)) × Breaks tops (top m content) rule) (sym is) ((λ some. not_chunk (top n content) closed), breaks)

-- ---- chunks

chunk_once : (t : Top) (f g : ChunkFields) → IsChunk t f → IsChunk t g → f ≡ g
chunk_once t f g one other =
    let same = shows_decided chunk_kinds t.content (chunk_values f) (chunk_values g) one.layout other.layout in
    ap (λ v. record { start = v.0; end = v.1.0; size = v.1.1.0; crc = v.1.1.1.0; compression = v.1.1.1.1.0; records = v.1.1.1.1.1.0 }) same

chunk_plain : (t : Top) (f : ChunkFields) → IsChunk t f → f.compression ≡ [] → NamesNoCompression t
chunk_plain t f is plain name names =
    let some = names.some in
    some (sym names.named ∙ ap (λ (g : ChunkFields). g.compression) (chunk_once t names.shown f names.is is) ∙ plain)

flat_chunk : (content : List ℕ) (f : ChunkFields) → IsChunk (top 6 content) f → flat_of (records_in f.records) ≡ flattened (top 6 content)
flat_chunk content f is = ap (λ (l : List ℕ). flat_of (records_in l)) (sym (chunks_are_opened (top 6 content) f is))

pub chunk_judged : (first : Top) (more : List Top) (content : List ℕ) (f : ChunkFields) (tables : Tables) (ruling : Ruling) → IsChunk (top 6 content) f → f.compression ≡ []
    → ChunkTaken (flat (first ∷ more)) f tables ruling → JudgedAs (first ∷ more) (top 6 content) tables (as_judged ruling)
chunk_judged first more content f tables rulings.Fits is plain (right, agree, are) =
    let t = top 6 content in
    let same = flat_chunk content f is in (
      record {
        v3 = tt;
        v5 = ((λ e. omega (arith, e)), inr refl);
        v6 = chunk_meets t f is;
        v7 = subst (AgreeBehind (flat (first ∷ more))) same agree;
        v8 = λ g shown none. subst ChunkIsRight (chunk_once t f g is shown) right;
        v10 = no_v10 t (λ e. omega (arith, e));
        plain = chunk_plain t f is plain;
      },
      subst (λ (l : List Top). TablesOf l tables) (ap (λ (l : List Top). flat (first ∷ more) ++ l) same ∙ sym (flat_more (first ∷ more) t)) are,
    )
chunk_judged first more content f tables (rulings.Breaks rule) is plain (inl ids) =
    let t = top 6 content in
    let apart = ids.1 in
    ((λ some. chunk_plain t f is plain), subst (Breaks (first ∷ more) t) (sym ids.0) (breaks_7 (λ agree. apart (subst (AgreeBehind (flat (first ∷ more))) (sym (flat_chunk content f is)) agree))))
chunk_judged first more content f tables (rulings.Breaks rule) is plain (inr wrong) =
    let t = top 6 content in
    let not_right = wrong.1 in
    ((λ some. chunk_plain t f is plain), subst (Breaks (first ∷ more) t) (sym wrong.0) (breaks_8 (λ v8. not_right (v8 f is plain))))
chunk_judged first more content f tables rulings.Memory is plain taken =
    let t = top 6 content in
    record {
      v3 = tt;
      v5 = ((λ e. omega (arith, e)), inr refl);
      v6 = chunk_meets t f is;
      v10 = no_v10 t (λ e. omega (arith, e));
      plain = chunk_plain t f is plain;
      chunk = λ g shown. subst HasSizeAndCrc (chunk_once t f g is shown) taken;
      agrees = λ other. absurd (other refl);
    }

pub chunk_unshown : (tops : List Top) (content : List ℕ) → ((f : ChunkFields) → IsChunk (top 6 content) f → ⊥) → ((tops ≡ [] → ⊥) → NamesNoCompression (top 6 content)) × Breaks tops (top 6 content) rules.V6
chunk_unshown tops content none = ((λ some name names. none names.shown names.is), breaks_6 (λ v6. let s = v6.chunk refl in none s.0 s.1))

-- ---- a record that fits

flat_op : (n : ℕ) (t : Top) → list_any (λ kind. eqb kind n) (3 ∷ 4 ∷ 5 ∷ []) ≡ true → t.op ≡ n → is_flat_kind t ≡ true
flat_op n t is kind = subst (λ (m : ℕ). list_any (λ k. eqb k m) (3 ∷ 4 ∷ 5 ∷ []) ≡ true) (sym kind) is

alone_agrees : (b : Bool) (before : List Top) (t : Top) → is_flat_kind t ≡ b → (t.op ≡ 6 → ⊥) → AgreeBehind before (flattened t) → AgreesButMetadata before t
alone_agrees true before t is closed agree =
    let alone : flattened t ≡ t ∷ [] = ap (λ (b : Bool). filter is_flat_kind (if b then inner_tops t else t ∷ [])) (ne_eqb t.op 6 closed) ∙ ap (λ (b : Bool). cond b (t ∷ []) []) is in
    let first : Agrees (before ++ []) t = subst (AgreeBehind before) alone agree 0 t refl in
    but_metadata before t (subst (λ (l : List Top). Agrees l t) (append-nil before) first)
alone_agrees false before t is closed agree = record {
  schemas = λ id f g n u shown. absurd (both_ways (is_flat_kind t) is (flat_op 3 t refl shown.kind));
  channels = λ id f g n u shown. absurd (both_ways (is_flat_kind t) is (flat_op 4 t refl shown.kind));
  schema = λ id f shown. absurd (both_ways (is_flat_kind t) is (flat_op 4 t refl shown.kind));
  channel = λ id m shown. absurd (both_ways (is_flat_kind t) is (flat_op 5 t refl shown.kind));
}

-- so does one with which nothing is wrong at all
pub fits_may_want : (limits : Limits) (tops : List Top) (t : Top) → Fits limits tops t → MayWantMemory tops t
fits_may_want limits tops t fits = record {
  v3 = fits.v3;
  v5 = fits.v5;
  v6 = fits.v6;
  v10 = fits.v10;
  plain = fits.plain;
  chunk = λ f is. let v8 = fits.v8 in let right = v8 f is (named_or t f f.compression is refl fits.plain) in record { size = right.size; crc = right.crc };
  agrees = λ closed. alone_agrees (is_flat_kind t) (flat tops) t refl closed fits.v7;
}

-- ---- records that may not stand there

pub misplaced : (first : Top) (more : List Top) (t : Top) → (HasDataEnd (first ∷ more) → ⊥) → stands_in_section t.op ≡ false → V5 (first ∷ more) t → ⊥
misplaced first more t unended stands (some, inl ended) = unended ended
misplaced first more t unended stands (some, inr is) = both_ways (stands_in_section t.op) stands is

pub other_section : (op : ℕ) → (op ≡ 3 → ⊥) → (op ≡ 4 → ⊥) → (op ≡ 5 → ⊥) → (op ≡ 6 → ⊥) → (op ≡ 7 → ⊥) → (op ≡ 9 → ⊥) → (op ≡ 12 → ⊥) → (op ≡ 15 → ⊥) → op < 16 → stands_in_section op ≡ false
other_section op a b c d e f g h low = grind (arith, common_steps)

-- ---- tests

pub judged_by : (tops : List Top) (t : Top) (tables : Tables) (b : Bool) (rule : Rule) → (b ≡ true → JudgedAs tops t tables judged.Fits) → (b ≡ false → JudgedAs tops t tables (judged.Breaks rule)) → JudgedAs tops t tables (kept_or_breaks b rule)
judged_by tops t tables true rule fits breaks = fits refl
judged_by tops t tables false rule fits breaks = breaks refl

pub attachment_broken : (tops : List Top) (op : ℕ) (content : List ℕ) (rule : Rule) → op ≡ 9 → AttachmentJudged content (Some rule) → ((tops ≡ [] → ⊥) → NamesNoCompression (top op content)) × Breaks tops (top op content) rule
attachment_broken tops op content rule is (inl layout) =
    breaks_plain tops op 9 content rule is (λ e. omega (arith, e)) (subst (Breaks tops (top 9 content)) (sym layout.0) (breaks_6 (λ v6. let s = v6.attachment refl in let none = layout.1 in none s.0 s.1)))
attachment_broken tops op content rule is (inr crc) =
    breaks_plain tops op 9 content rule is (λ e. omega (arith, e)) (subst (Breaks tops (top 9 content)) (sym crc.0) (breaks_10 crc.1))

pub nothing : (l : List ℕ) → length l ≤ 0 → l ≡ []
nothing [] few = refl
nothing (b ∷ bs) few = absurd (omega (arith, few))
