-- What a first part of some bytes keeps, where the bytes may be longer than what is read.
use Rattle.std.proofs.Common.{◌≡◌, ◌⊎◌, ℕ, ◌+◌, ◌<◌, ◌≤◌, Bool, true, false, List, [], ◌∷◌, ◌++◌, length, take, refl, sym, ap, subst, inl, inr, ◌∙◌, append_assoc, arith}
use Rattle.std.specs.Prelude.{nat_lt, ◌||◌}
use Rattle.std.proofs.lemmas.Bool.{both_ways, cases_lt, leb-true, ltb-false, lt-leb, or_parts}
use Rattle.std.proofs.lemmas.List.{append-nil, append_cancel_left, length-append}
use Rattle.std.proofs.lemmas.Grind.{flat_map-append}
use Rattle.mcap_wire.specs.Layout.{magic}
use Rattle.mcap_model.specs.Tops.{Top, Tops, top_bytes, spelled, offset_behind, opcode, declared_length, has_head}
use Rattle.mcap_model.specs.Rules.{HasDataEnd}
use Rattle.mcap_model.specs.Kept.{reading_limits, is_beyond, Fits, Good, Kept, Halt, Halts, at_end, grammar, beyond, HasOpcode, HaltsThere, short_head, past_limit, cut_short, at_data_end, behind_kept}
use Rattle.mcap_model.proofs.Places.{each_front, each_at}
use Rattle.mcap_model.proofs.Lists.{cut_at}
use Rattle.mcap_model.proofs.Readings.{begun, length-top, fits_opcode, halts_are_last}
use Rattle.mcap_model.proofs.Cutting.{one_front}
use Rattle.mcap_model.proofs.Fronts.{length_kept}
use Rattle.mcap_model.specs.declared.rules.Rule.TheVariants as rules
use Rattle.mcap_laws.specs.Parts.{HaltsAtNext}
use Rattle.mcap_laws.proofs.Scanned.{sized, within_most, near_in}

-- ---- limits

content_short : (most at len : ℕ) → is_beyond (sized most) at len ≡ false → len ≤ 268435456
content_short most at len within = ltb-false 268435456 len (or_parts (nat_lt 268435456 len) (nat_lt most (at + 9 + len)) within).0

-- a record that ends sooner is within a lower limit
fits_sooner : (most less : ℕ) (before : List Top) (t : Top) → Fits (sized most) before t → offset_behind before + 9 + length t.content ≤ less → Fits (sized less) before t
fits_sooner most less before t fits near = record {
  v3 = fits.v3;
  v5 = fits.v5;
  v6 = fits.v6;
  v7 = fits.v7;
  v8 = fits.v8;
  v10 = fits.v10;
  plain = fits.plain;
  within = within_most less (offset_behind before) (length t.content) (content_short most (offset_behind before) (length t.content) fits.within) near;
  unended = fits.unended;
}

good_sooner : (most less : ℕ) (tops : List Top) → Good (sized most) tops → offset_behind tops ≤ less → Good (sized less) tops
good_sooner most less tops good near n t at =
    let split = cut_at tops n t at in
    let inner = near_in (take n tops) t split.0 in
    let whole = ap offset_behind split.1 in
    fits_sooner most less (take n tops) t (good n t at) (omega (arith, inner, whole, near))

-- ---- lists that begin alike

none_more : (xs more : List ℕ) → length (xs ++ more) ≤ length xs → more ≡ []
none_more xs [] few = refl
none_more xs (y ∷ ys) few = absurd (omega (arith, few, length-append xs (y ∷ ys)))

-- the shorter of two fronts, and what the longer one has behind it
longer_front : (a b part behind : List ℕ) → a ++ b ≡ part ++ behind → length a ≤ length part → (f : List ℕ) × (part ≡ a ++ f) × (b ≡ f ++ behind)
longer_front a b part behind same few = elim (one_front a part b behind same) [
  | inl (more, is) ↦ (more, is, append_cancel_left a b (more ++ behind) (same ∙ ap (λ (l : List ℕ). l ++ behind) is ∙ append_assoc a more behind))
  | inr (more, is) ↦
      let none = none_more part more (subst (λ (l : List ℕ). length l ≤ length part) is few) in
      let equal : part ≡ a = sym (is ∙ ap (λ (l : List ℕ). part ++ l) none ∙ append-nil part) in
      ([], equal ∙ sym (append-nil a), append_cancel_left a b behind (same ∙ ap (λ (l : List ℕ). l ++ behind) equal))
]

shorter_front : (a b part behind : List ℕ) → a ++ b ≡ part ++ behind → length part < length a → (m : List ℕ) × (a ≡ part ++ m)
shorter_front a b part behind same less = elim (one_front a part b behind same) [
  | inl (more, is) ↦ let size = ap length is in absurd (omega (arith, size, less, length-append a more))
  | inr (more, is) ↦ (more, is)
]

-- ---- records, as far as they are whole

-- the next record is cut short there
record IsCutShort (others : List Top) (rest : List ℕ) : Type 0 where
  top : Top
  more : List Top
  are : others ≡ top ∷ more
  missing : List ℕ
  begun_there : top_bytes top ≡ rest ++ missing
  short : length rest < length (top_bytes top)

record IsCut (tops : List Top) (bytes : List ℕ) : Type 0 where
  whole : List Top
  others : List Top
  rest : List ℕ
  joined : tops ≡ whole ++ others
  are : bytes ≡ spelled whole ++ rest
  why : (others ≡ []) ⊎ IsCutShort others rest

first_whole : (t : Top) (ts : List Top) (bytes more : List ℕ) → bytes ≡ top_bytes t ++ more → IsCut ts more → IsCut (t ∷ ts) bytes
first_whole t ts bytes more is later = record {
  whole = t ∷ later.whole;
  others = later.others;
  rest = later.rest;
  joined = ap (λ (l : List Top). t ∷ l) later.joined;
  are = is ∙ (ap (λ (l : List ℕ). top_bytes t ++ l) later.are ∙ sym (append_assoc (top_bytes t) (spelled later.whole) later.rest));
  why = later.why;
}

cut : (tops : List Top) (rest bytes behind : List ℕ) → spelled tops ++ rest ≡ bytes ++ behind → IsCut tops bytes
cut [] rest bytes behind same = record { whole = []; others = []; rest = bytes; joined = refl; are = refl; why = inl refl }
cut (t ∷ ts) rest bytes behind same =
    let assoc : top_bytes t ++ (spelled ts ++ rest) ≡ bytes ++ behind = sym (append_assoc (top_bytes t) (spelled ts) rest) ∙ same in
    elim (cases_lt (length bytes) (length (top_bytes t))) [
      | inl less ↦
          let (missing, is) = shorter_front (top_bytes t) (spelled ts ++ rest) bytes behind assoc less in
          record { whole = []; others = t ∷ ts; rest = bytes; joined = refl; are = refl; why = inr (record { top = t; more = ts; are = refl; missing = missing; begun_there = is; short = less }) }
      | inr enough ↦
          let (more, is, left) = longer_front (top_bytes t) (spelled ts ++ rest) bytes behind assoc (omega (arith, enough)) in
          first_whole t ts bytes more is (cut ts rest more behind left)
    ]

-- ---- a record that is cut short

first_kept : (r m : List ℕ) → 1 ≤ length r → opcode (r ++ m) ≡ opcode r
first_kept [] m some = absurd (omega (arith, some))
first_kept (x ∷ xs) m some = refl

-- what stands of it halts the reading, as a record that is cut short or one that passes the limit
abbrev HaltsNext : List Top → Top → List ℕ → Type 0
HaltsNext tops t r = HaltsThere reading_limits tops r (grammar (offset_behind tops) rules.V4)
    ⊎ ((1099511627776 < offset_behind tops + 9 + length t.content) × HaltsThere reading_limits tops r (beyond (offset_behind tops)))

module _ (most : ℕ) (tops : List Top) (t : Top) (r m : List ℕ) (fits : Fits (sized most) tops t) (is : top_bytes t ≡ r ++ m) (less : length r < length (top_bytes t)) where
  content_fits : length t.content ≤ 268435456
  content_fits = content_short most (offset_behind tops) (length t.content) fits.within

  with_head : (b : Bool) → is_beyond reading_limits (offset_behind tops) (length t.content) ≡ b → HasOpcode r → declared_length r ≡ length t.content → HaltsNext tops t r
  with_head true far opened len = elim (cases_lt 1099511627776 (offset_behind tops + 9 + length t.content)) [
    | inl past ↦ inr (past, past_limit opened (ap (is_beyond reading_limits (offset_behind tops)) len ∙ far))
    | inr near ↦ absurd (both_ways (is_beyond reading_limits (offset_behind tops) (length t.content)) (within_most 1099511627776 (offset_behind tops) (length t.content) content_fits near) far)
  ]
  with_head false near opened len = inl (cut_short (record {
    head = opened;
    within = ap (is_beyond reading_limits (offset_behind tops)) len ∙ near;
  }) (lt-leb (9 + declared_length r) (length r) (omega (arith, len, length-top t, less))))

  halts_next : HaltsNext tops t r
  halts_next = by (has_head r) refl
    where
      by : (b : Bool) → has_head r ≡ b → HaltsNext tops t r
      by false headless = inl (short_head headless)
      by true head =
          let nine = leb-true 9 (length r) head in
          let front = begun (top_bytes t) t [] (sym (append-nil (top_bytes t))) (omega (arith, content_fits)) in
          let op : opcode r ≡ t.op = sym (ap opcode is ∙ first_kept r m (omega (arith, nine))) ∙ front.op_is in
          let len : declared_length r ≡ length t.content = sym (ap declared_length is ∙ length_kept r m nine) ∙ front.len_is in
          with_head (is_beyond reading_limits (offset_behind tops) (length t.content)) refl (head, λ none. fits_opcode (sized most) tops t fits (sym op ∙ none)) len

-- ---- all of it

-- The first records are whole in the part, which is read just so far: up to the Data End, or to the next record.
pub record KeepsPart (part : List ℕ) (tops : List Top) : Type 0 where
  pub whole : List Top
  pub others : List Top
  pub joined : tops ≡ whole ++ others
  pub kept : Kept reading_limits part whole
  pub within : offset_behind whole ≤ length part
  pub complete : others ≡ [] → Halts reading_limits part whole (at_end (offset_behind whole))
  pub cut : (t : Top) (more : List Top) → others ≡ t ∷ more → length part < offset_behind (whole ++ t ∷ [])
  pub short : (t : Top) (more : List Top) → others ≡ t ∷ more → HaltsAtNext part whole t

behind_next : (whole : List Top) (t : Top) → offset_behind (whole ++ t ∷ []) ≡ offset_behind whole + length (top_bytes t)
behind_next whole t =
    let all = ap length (flat_map-append top_bytes whole (t ∷ [])) in
    omega (arith, all, length-append (spelled whole) (top_bytes t ++ []), length-append (top_bytes t) [])

pub parts_keep : (most : ℕ) (bytes part behind : List ℕ) (tops : List Top) (rest : List ℕ) → Tops bytes tops rest → Good (sized most) tops → HasDataEnd tops → bytes ≡ part ++ behind → 8 ≤ length part → length part ≤ 1099511627776 → KeepsPart part tops
parts_keep most bytes part behind tops rest stand good ended is enough few =
    let (f, begins, left) = longer_front magic (spelled tops ++ rest) part behind (sym stand.split ∙ is) enough in
    let c = cut tops rest f behind left in
    let there : Tops part c.whole c.rest = record { split = begins ∙ ap (λ (l : List ℕ). magic ++ l) c.are } in
    let size = ap length there.split in
    let within : offset_behind c.whole ≤ length part = omega (arith, size, length-append magic (spelled c.whole ++ c.rest), length-append (spelled c.whole) c.rest) in
    let firsts = each_front (Fits (sized most)) c.whole c.others (subst (Good (sized most)) c.joined good) in
    let here : Good reading_limits c.whole = good_sooner most 1099511627776 c.whole firsts (omega (arith, within, few)) in
    elim c.why [
      | inl none ↦
          let all : tops ≡ c.whole = c.joined ∙ ap (λ (l : List Top). c.whole ++ l) none ∙ append-nil c.whole in
          let end : HasDataEnd c.whole = subst HasDataEnd all ended in
          let kept = halts_are_last part c.whole c.rest (grammar 0 rules.V4) there here (inl end) in
          record {
            whole = c.whole;
            others = c.others;
            joined = c.joined;
            kept = kept;
            within = within;
            complete = λ e. record { kept = kept; there = at_data_end c.rest there end };
            cut = λ t more e. absurd (apart t more (sym none ∙ e));
            short = λ t more e. absurd (apart t more (sym none ∙ e));
          }
      | inr short ↦
          let whole_good = subst (Good (sized most)) (c.joined ∙ ap (λ (l : List Top). c.whole ++ l) short.are) good in
          let fits = each_at (Fits (sized most)) c.whole short.top short.more whole_good in
          let why = halts_next most c.whole short.top c.rest short.missing fits short.begun_there short.short in
          let same : (t : Top) (more : List Top) → c.others ≡ t ∷ more → short.top ≡ t = λ t more e. first_is short.top short.more t more (sym short.are ∙ e) in
          let less : length part < offset_behind (c.whole ++ short.top ∷ []) =
          let missing = short.short in
          omega (arith, size, length-append magic (spelled c.whole ++ c.rest), length-append (spelled c.whole) c.rest, behind_next c.whole short.top, missing) in
          record {
            whole = c.whole;
            others = c.others;
            joined = c.joined;
            kept = elim why [
              | inl cut_off ↦ halts_are_last part c.whole c.rest (grammar (offset_behind c.whole) rules.V4) there here (inr cut_off)
              | inr past ↦ halts_are_last part c.whole c.rest (beyond (offset_behind c.whole)) there here (inr past.1)
            ];
            within = within;
            complete = λ none. absurd (apart short.top short.more (sym none ∙ short.are));
            cut = λ t more e. subst (λ (x : Top). length part < offset_behind (c.whole ++ x ∷ [])) (same t more e) less;
            short = λ t more e. subst (HaltsAtNext part c.whole) (same t more e) (elim why [
              | inl cut_off ↦ inl (halted c.whole c.rest (grammar (offset_behind c.whole) rules.V4) there here fits.unended cut_off)
              | inr past ↦ inr (let far = past.0 in omega (arith, far, behind_next c.whole short.top, length-top short.top), halted c.whole c.rest (beyond (offset_behind c.whole)) there here fits.unended past.1)
            ]);
          }
    ]
  where
    apart : (t : Top) (more : List Top) → [] ≡ t ∷ more → ⊥
    apart t more e = cc

    first_is : (s : Top) (some : List Top) (t : Top) (more : List Top) → s ∷ some ≡ t ∷ more → s ≡ t
    first_is s some t more e = cc

    halted : (whole : List Top) (r : List ℕ) (halt : Halt) → Tops part whole r → Good reading_limits whole → (HasDataEnd whole → ⊥) → HaltsThere reading_limits whole r halt → Halts reading_limits part whole halt
    halted whole r halt there here unended why = record { kept = halts_are_last part whole r halt there here (inr why); there = behind_kept r there unended halt why }
