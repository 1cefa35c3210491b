-- In a file of whole records a limit is met only at a record that passes it.
use Rattle.std.proofs.Common.{◌≡◌, ℕ, ◌+◌, ◌≤◌, true, List, [], ◌∷◌, ◌++◌, length, take, refl, sym, ap, subst, inl, inr, ◌∙◌, append_assoc, arith}
use Rattle.std.specs.Prelude.{nat_lt}
use Rattle.std.proofs.lemmas.Bool.{leb-true, lt-ltb, or_left}
use Rattle.std.proofs.lemmas.List.{append_cancel_left, length-append, take_at}
use Rattle.mcap_wire.specs.Layout.{magic, content_limit}
use Rattle.mcap_wire.specs.Limits.{file_limit}
use Rattle.mcap_model.specs.Places.{At}
use Rattle.mcap_model.specs.Tops.{Top, Tops, top_bytes, spelled, offset_behind, declared_length}
use Rattle.mcap_model.specs.Kept.{reading_limits, is_beyond, Halt, beyond, HaltsThere, short_head, zero_opcode, past_limit, cut_short, packed_chunk, broken_rule, HaltsAt, no_magic, at_data_end, behind_kept}
use Rattle.mcap_model.specs.Whole.{AreShort, IsWhole}
use Rattle.mcap_model.proofs.Places.{at_last}
use Rattle.mcap_model.proofs.Readings.{all_short, one_follows, begun}
use Rattle.mcap_model.proofs.Flaws.{left_size}
use Rattle.summary_check.specs.PassedLimits.{PassesLimit}
use Rattle.summary_check.proofs.Cuts.{front_length}
use Rattle.file_check.specs.Checking.{HaltsBefore}
use Rattle.file_check.specs.Laws.{IsPastLimits, LimitsAreReal}
use Rattle.file_check.proofs.Halted.{stand_whole, good_short}

-- behind the first records of a file, and in front of its last magic, a record begins that passes a limit
record Passing (file : List ℕ) (offset : ℕ) : Type 0 where
  tops : List Top
  rest : List ℕ
  stand : Tops file tops rest
  short : AreShort tops
  there : offset ≡ offset_behind tops
  room : 17 ≤ length rest
  past : is_beyond reading_limits offset (declared_length rest) ≡ true

-- ---- it is a record of the file

stands_there : (file : List ℕ) (tops : List Top) (offset : ℕ) → IsWhole file tops → (p : Passing file offset) → (t : Top) (ts : List Top) → tops ≡ p.tops ++ t ∷ ts → p.rest ≡ top_bytes t ++ (spelled ts ++ magic) → IsPastLimits tops offset
stands_there file tops offset whole p t ts joined left =
    let short = whole.short in
    let at : At tops (length p.tops) t = subst (λ (l : List Top). At l (length p.tops) t) (sym joined) (at_last p.tops t ts) in
    let front = begun p.rest t (spelled ts ++ magic) left (short (length p.tops) t at) in
    let before = ap offset_behind (ap (λ (l : List Top). take (length p.tops) l) joined ∙ take_at p.tops (t ∷ ts) (length p.tops) refl) in
    record {
      top = t;
      at = (length p.tops, at, p.there ∙ sym before);
      past = subst (λ (n : ℕ). is_beyond reading_limits offset n ≡ true) front.len_is p.past;
    }

passing : (file : List ℕ) (tops : List Top) (offset : ℕ) → IsWhole file tops → Passing file offset → IsPastLimits tops offset
passing file tops offset whole p =
    let same : spelled p.tops ++ p.rest ≡ spelled tops ++ magic = append_cancel_left magic (spelled p.tops ++ p.rest) (spelled tops ++ magic) (sym p.stand.split ∙ whole.split) in
    elim (one_follows p.tops tops p.rest magic (all_short p.tops p.short) (all_short tops whole.short) same) [
      | inl behind ↦ by behind.more behind.longer behind.left
      | inr behind ↦ (let size : 8 ≡ length (spelled behind.more ++ p.rest) = ap length behind.left in absurd (omega (arith, size, length-append (spelled behind.more) p.rest, p.room)))
    ]
  where
    by : (more : List Top) → tops ≡ p.tops ++ more → p.rest ≡ spelled more ++ magic → IsPastLimits tops offset
    by [] joined left = let size : length p.rest ≡ 8 = ap length left in absurd (omega (arith, size, p.room))
    by (t ∷ ts) joined left = stands_there file tops offset whole p t ts joined (left ∙ append_assoc (top_bytes t) (spelled ts) magic)

-- ---- behind the data section

passed_behind : (file : List ℕ) (offset : ℕ) → PassesLimit file offset → Passing file offset
passed_behind file offset passes = record {
  tops = passes.tops;
  rest = passes.rest;
  stand = passes.stand;
  short = passes.short;
  there = passes.there;
  room = omega (arith, left_size file passes.tops passes.rest passes.stand, passes.there, passes.inside);
  past = or_left (nat_lt content_limit (declared_length passes.rest)) (nat_lt file_limit (offset + 9 + declared_length passes.rest)) (lt-ltb content_limit (declared_length passes.rest) passes.past);
}

-- ---- in the data section

-- what stands behind the records where the reading halts at a limit
record PastThere (tops : List Top) (rest : List ℕ) (offset : ℕ) : Type 0 where
  there : offset ≡ offset_behind tops
  head : 9 ≤ length rest
  past : is_beyond reading_limits offset (declared_length rest) ≡ true

same_place : (n m : ℕ) → beyond n ≡ beyond m → n ≡ m
same_place n m e = cc

past_there : (tops : List Top) (rest : List ℕ) (halt : Halt) (offset : ℕ) → HaltsThere reading_limits tops rest halt → halt ≡ beyond offset → PastThere tops rest offset
past_there tops rest halt offset (short_head headless) is = absurd cc
past_there tops rest halt offset (zero_opcode head zero) is = absurd cc
past_there tops rest halt offset (past_limit head past) is =
    let there : offset ≡ offset_behind tops = sym (same_place (offset_behind tops) offset is) in
    record { there = there; head = leb-true 9 (length rest) head.0; past = subst (λ (n : ℕ). is_beyond reading_limits n (declared_length rest) ≡ true) (sym there) past }
past_there tops rest halt offset (cut_short due cut) is = absurd cc
past_there tops rest halt offset (packed_chunk name due all packed) is = absurd cc
past_there tops rest halt offset (broken_rule rule due all plain bad) is = absurd cc

halted_before : (file : List ℕ) (offset : ℕ) → HaltsBefore file (beyond offset) → Passing file offset
halted_before file offset (inner, tops, is, halts) = by (beyond offset) halts.there refl
  where
    by : (halt : Halt) → HaltsAt reading_limits inner tops halt → halt ≡ beyond offset → Passing file offset
    by halt (no_magic none) same = absurd cc
    by halt (at_data_end rest stand ended) same = absurd cc
    by halt (behind_kept rest stand unended why found) same =
        let at = past_there tops rest why offset found same in record {
          tops = tops;
          rest = rest ++ magic;
          stand = subst (λ (l : List ℕ). Tops l tops (rest ++ magic)) (sym is) (stand_whole inner tops rest stand);
          short = good_short tops halts.kept.good;
          there = at.there;
          room = omega (arith, at.head, length-append rest magic);
          past = subst (λ (n : ℕ). is_beyond reading_limits offset n ≡ true) (sym (front_length rest at.head)) at.past;
        }

pub limits_are_real : LimitsAreReal
limits_are_real file tops offset whole (inl halts) = passing file tops offset whole (halted_before file offset halts)
limits_are_real file tops offset whole (inr passes) = passing file tops offset whole (passed_behind file offset passes)
