-- Where a reading of a file without the last magic halts, a rule of the file fails.
use Rattle.std.proofs.Common.{◌≡◌, ◌⊎◌, ℕ, ◌+◌, ◌-◌, ◌^◌, ◌<◌, ◌≤◌, Bool, true, false, ◌&&◌, List, [], length, take, drop, refl, sym, ap, subst, inl, inr, ◌∙◌, arith}
use Rattle.std.specs.Prelude.{if◌then◌else◌, nat_le, nat_lt}
use Rattle.std.proofs.lemmas.Bool.{cases_lt, leb-true, leb-false, ltb-false, false_from_ne_true}
use Rattle.std.proofs.lemmas.List.{append-nil, drop-take, take-take, length-take-le}
use Rattle.mcap_wire.specs.Layout.{number}
use Rattle.mcap_model.specs.Tops.{Top, Tops, offset_behind, opcode, declared_length, has_head, is_whole, first_top}
use Rattle.mcap_model.specs.Kept.{reading_limits, Good, grammar, HaltsThere, short_head, zero_opcode, cut_short, broken_rule, HaltsAt, no_magic, behind_kept}
use Rattle.mcap_model.specs.Whole.{V2}
use Rattle.mcap_model.specs.Valid.{Flaw, flaw_1, flaw_2, flaw_4, flaw_5}
use Rattle.mcap_model.proofs.Flaws.{left_size}
use Rattle.mcap_model.specs.declared.rules.Rule.{Rule}
use Rattle.mcap_model.specs.RuleNumbers.{same_rule}
use Rattle.mcap_model.specs.declared.rules.Rule.TheVariants as rules
use Rattle.file_check.specs.declared.flaws.FailedRule.{FailedRule}
use Rattle.file_check.specs.Halting.{failed_at, lacks_magic, told_cut}
use Rattle.file_check.specs.HaltFlaws.{HasLengthAt, CutsAreFlaws}
use Rattle.file_check.proofs.Halted.{good_short, as_told, at_plain, broken_there, next_there, not_four}

-- ---- a record that is cut off

-- it declares the same length in front of the file's last bytes
taken_length : (rest : List ℕ) (k : ℕ) → 9 ≤ k → declared_length (take k rest) ≡ declared_length rest
taken_length rest k head =
    let split : k ≡ 1 + (k - 1) = omega (arith, head) in
    ap number (ap (take 8) (ap (λ (n : ℕ). drop 1 (take n rest)) split ∙ drop-take 1 (k - 1) rest) ∙ take-take 8 (k - 1) (drop 1 rest) (omega (arith, head)))

-- and isn't whole there either
cut_inner : (rest : List ℕ) → (has_head rest ≡ false) ⊎ (is_whole rest ≡ false) → (has_head (take (length rest - 8) rest) ≡ false) ⊎ (is_whole (take (length rest - 8) rest) ≡ false)
cut_inner rest cut = elim (cases_lt (length rest - 8) 9) [
  | inl few ↦ inl (false_from_ne_true (nat_le 9 (length inner)) (λ yes. absurd (omega (arith, leb-true 9 (length inner) yes, size, few))))
  | inr head ↦ elim cut [
    | inl headless ↦ absurd (omega (arith, leb-false 9 (length rest) headless, head))
    | inr short ↦
        let missing = leb-false (9 + declared_length rest) (length rest) short in
        let same = taken_length rest (length rest - 8) head in
        inr (false_from_ne_true (nat_le (9 + declared_length inner) (length inner)) (λ yes. absurd (omega (arith, leb-true (9 + declared_length inner) (length inner) yes, size, same, missing))))
  ]
]
  where
    inner : List ℕ
    inner = take (length rest - 8) rest

    size : length inner ≡ length rest - 8
    size = length-take-le (length rest - 8) rest (omega arith)

-- ---- what is told

-- the last magic lacks, or the rule fails there
unless : (file : List ℕ) (b : Bool) (g : FailedRule) → (V2 file → ⊥) → (b ≡ false → Flaw file g.rule g.offset)
    → Flaw file (if b then lacks_magic (length file) else g).rule (if b then lacks_magic (length file) else g).offset
unless file true g none flaw = flaw_2 none
unless file false g none flaw = flaw refl

cut_there : (file : List ℕ) (tops : List Top) (rest : List ℕ) → (V2 file → ⊥) → Tops file tops rest → Good reading_limits tops → (has_head rest ≡ false) ⊎ (is_whole rest ≡ false)
    → Flaw file (told_cut (length file) (offset_behind tops) rules.V4).rule (told_cut (length file) (offset_behind tops) rules.V4).offset
cut_there file tops rest none stand good cut =
    let at = offset_behind tops in
    let size = left_size file tops rest stand in
    unless file (nat_le (length file - at) 8) (failed_at at rules.V4) none
    (λ far. as_told file (failed_at at rules.V4) rules.V4 at (at_plain at rules.V4 refl) (flaw_4 at (record {
      tops = tops;
      rest = rest;
      stand = stand;
      short = good_short tops good;
      there = refl;
      inside = omega (arith, leb-false (length file - at) 8 far);
      cut = cut_inner rest cut;
    })))

zero_there : (file : List ℕ) (tops : List Top) (rest : List ℕ) → (V2 file → ⊥) → Tops file tops rest → Good reading_limits tops → opcode rest ≡ 0
    → Flaw file (told_cut (length file) (offset_behind tops) rules.V5).rule (told_cut (length file) (offset_behind tops) rules.V5).offset
zero_there file tops rest none stand good zero =
    let at = offset_behind tops in
    unless file (nat_lt (length file - at) 17) (failed_at at rules.V5) none
    (λ far. as_told file (failed_at at rules.V5) rules.V5 at (at_plain at rules.V5 refl) (flaw_5 at (inr (inl (record {
      tops = tops;
      rest = rest;
      stand = stand;
      short = good_short tops good;
      there = refl;
      inside = omega (arith, ltb-false (length file - at) 17 far);
      zero = zero;
    })))))

-- a rule that a whole record breaks
broken_here : (file : List ℕ) (offset : ℕ) (rule : Rule) → (V2 file → ⊥) → same_rule rule rules.V4 ≡ false → Flaw file (failed_at offset rule).rule (failed_at offset rule).offset
    → Flaw file (told_cut (length file) offset rule).rule (told_cut (length file) offset rule).offset
broken_here file offset rule none four flaw =
    let zero = unless file (same_rule rule rules.V5 && nat_lt (length file - offset) 17) (failed_at offset rule) none (λ far. flaw) in
    let len = length file in
    subst (λ (b : Bool). Flaw file
    (if b && nat_le (len - offset) 8 then lacks_magic len else if same_rule rule rules.V5 && nat_lt (len - offset) 17 then lacks_magic len else failed_at offset rule).rule
    (if b && nat_le (len - offset) 8 then lacks_magic len else if same_rule rule rules.V5 && nat_lt (len - offset) 17 then lacks_magic len else failed_at offset rule).offset)
    (sym four) zero

by_cause : (file : List ℕ) (tops : List Top) (rest : List ℕ) (offset : ℕ) (rule : Rule) → length file < 2 ^ 64 → (V2 file → ⊥) → Tops file tops rest → Good reading_limits tops
    → (offset + 9 ≤ length file → HasLengthAt file offset) → HaltsThere reading_limits tops rest (grammar offset rule)
    → Flaw file (told_cut (length file) offset rule).rule (told_cut (length file) offset rule).offset
by_cause file tops rest offset rule fits none stand good bytes (short_head headless) = cut_there file tops rest none stand good (inl headless)
by_cause file tops rest offset rule fits none stand good bytes (zero_opcode head zero) = zero_there file tops rest none stand good zero
by_cause file tops rest offset rule fits none stand good bytes (cut_short due short) = cut_there file tops rest none stand good (inr short)
by_cause file tops rest offset rule fits none stand good bytes (broken_rule r due whole plain breaks) =
    let t = first_top rest in
    let same = append-nil file in
    let at = offset_behind tops in
    let flaw = broken_there file [] tops t r (λ v2. absurd (none (subst V2 same v2))) (next_there file tops rest stand good due whole bytes) (omega (arith, fits)) plain breaks in
    broken_here file at r none (not_four tops t r breaks) (subst (λ (l : List ℕ). Flaw l (failed_at at r).rule (failed_at at r).offset) same flaw)

halted : (file : List ℕ) (tops : List Top) (offset : ℕ) (rule : Rule) → length file < 2 ^ 64 → (V2 file → ⊥) → (offset + 9 ≤ length file → HasLengthAt file offset) → Good reading_limits tops
    → HaltsAt reading_limits file tops (grammar offset rule) → Flaw file (told_cut (length file) offset rule).rule (told_cut (length file) offset rule).offset
halted file tops offset rule fits none bytes good (no_magic bad) = flaw_1 bad
halted file tops offset rule fits none bytes good (behind_kept rest stand unended halt there) = by_cause file tops rest offset rule fits none stand good bytes there

pub cuts_are_flaws : CutsAreFlaws
cuts_are_flaws file tops offset rule fits none bytes halts =
    let kept = halts.kept in halted file tops offset rule fits (λ v2. none v2.1) bytes kept.good halts.there
