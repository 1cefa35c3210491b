-- A file whose reading halts for a compression isn't valid.
use Rattle.std.proofs.Common.{◌≡◌, ℕ, ◌+◌, ◌^◌, ◌<◌, ◌≤◌, List, [], ◌∷◌, ◌++◌, length, take, drop, refl, sym, ap, subst, inl, inr, ◌∙◌, append_assoc, arith}
use Rattle.std.proofs.lemmas.Bool.{leb-true}
use Rattle.std.proofs.lemmas.List.{append_cancel_left, drop-append-le, take-append-le, length-append, length-drop}
use Rattle.mcap_wire.specs.Layout.{magic}
use Rattle.mcap_model.specs.Places.{At}
use Rattle.mcap_model.specs.Tops.{Top, Tops, top_bytes, spelled, declared_length, first_top}
use Rattle.mcap_model.specs.Kept.{reading_limits, NamesCompression, Halt, compressed, HaltsThere, short_head, zero_opcode, past_limit, cut_short, packed_chunk, broken_rule, HaltsAt, no_magic, at_data_end, behind_kept}
use Rattle.mcap_model.specs.Valid.{Valid}
use Rattle.mcap_model.proofs.Places.{at_last}
use Rattle.mcap_model.proofs.Readings.{top_of, all_short, one_follows, begun}
use Rattle.summary_check.proofs.Cuts.{front_length}
use Rattle.file_check.specs.Laws.{CompressionsExcludeValidity}
use Rattle.file_check.proofs.Halted.{stand_whole, good_short}

-- a record that halts the reading names a compression
record Packed (rest : List ℕ) : Type 0 where
  name : List ℕ
  head : 9 ≤ length rest
  whole : 9 + declared_length rest ≤ length rest
  named : NamesCompression (first_top rest) name

packed_there : (tops : List Top) (rest : List ℕ) (halt : Halt) (offset : ℕ) (name : List ℕ) → HaltsThere reading_limits tops rest halt → halt ≡ compressed offset name → Packed rest
packed_there tops rest halt offset name (short_head headless) is = absurd cc
packed_there tops rest halt offset name (zero_opcode head zero) is = absurd cc
packed_there tops rest halt offset name (past_limit head past) is = absurd cc
packed_there tops rest halt offset name (cut_short due cut) is = absurd cc
packed_there tops rest halt offset name (packed_chunk own due all packed) is = record { name = own; head = leb-true 9 (length rest) due.head.0; whole = leb-true (9 + declared_length rest) (length rest) all; named = packed.1 }
packed_there tops rest halt offset name (broken_rule rule due all plain bad) is = absurd cc

-- a whole record is the same in front of more bytes
first_more : (rest : List ℕ) → 9 + declared_length rest ≤ length rest → first_top (rest ++ magic) ≡ first_top rest
first_more [] whole = absurd (omega (arith, whole))
first_more (b ∷ bytes) whole =
    let rest : List ℕ = b ∷ bytes in
    let len = declared_length rest in
    let size = front_length rest (omega (arith, whole)) in
    let room : len ≤ length (drop 9 rest) = omega (arith, whole, length-drop 9 rest) in
    ap (top_of b)
    (ap (λ (n : ℕ). take n (drop 9 (rest ++ magic))) size
    ∙ ap (take len) (drop-append-le 9 rest magic (omega (arith, whole)))
    ∙ take-append-le len (drop 9 rest) magic room)

-- it is one of the file's records
not_plain : (inner : List ℕ) (tops all : List Top) (rest : List ℕ) → Tops inner tops rest → Packed rest → Valid (inner ++ magic) all → ((n : ℕ) (t : Top) → At tops n t → length t.content < 2 ^ 64) → ⊥
not_plain inner tops all rest stand packed valid short =
    let whole = valid.v4 in
    let split = stand_whole inner tops rest stand in
    let same : spelled tops ++ (rest ++ magic) ≡ spelled all ++ magic = append_cancel_left magic (spelled tops ++ (rest ++ magic)) (spelled all ++ magic) (sym split.split ∙ whole.split) in
    elim (one_follows tops all (rest ++ magic) magic (all_short tops short) (all_short all whole.short) same) [
      | inl behind ↦ by behind.more behind.longer behind.left
      | inr behind ↦ (let size : 8 ≡ length (spelled behind.more ++ (rest ++ magic)) = ap length behind.left in absurd (omega (arith, size, length-append (spelled behind.more) (rest ++ magic), length-append rest magic, packed.head)))
    ]
  where
    by : (more : List Top) → all ≡ tops ++ more → rest ++ magic ≡ spelled more ++ magic → ⊥
    by [] joined left = let size : length (rest ++ magic) ≡ 8 = ap length left in omega (arith, size, length-append rest magic, packed.head)
    by (t ∷ ts) joined left =
        let at : At all (length tops) t = subst (λ (l : List Top). At l (length tops) t) (sym joined) (at_last tops t ts) in
        let sound = valid.v4.short (length tops) t at in
        let front = begun (rest ++ magic) t (spelled ts ++ magic) (left ∙ append_assoc (top_bytes t) (spelled ts) magic) sound in
        valid.plain (length tops) t at packed.name (subst (λ (u : Top). NamesCompression u packed.name) (first_same ∙ front.first) packed.named)
      where
        first_same : first_top rest ≡ first_top (rest ++ magic)
        first_same = sym (first_more rest packed.whole)

pub compressions_exclude_validity : CompressionsExcludeValidity
compressions_exclude_validity file name offset (inner, tops, is, halts) (all, valid) = by (compressed offset name) halts.there refl
  where
    by : (halt : Halt) → HaltsAt reading_limits inner tops halt → halt ≡ compressed offset name → ⊥
    by halt (no_magic none) same = absurd cc
    by halt (at_data_end rest stand ended) same = absurd cc
    by halt (behind_kept rest stand unended why found) same =
        not_plain inner tops all rest stand (packed_there tops rest why offset name found same) (subst (λ (l : List ℕ). Valid l all) is valid) (good_short tops halts.kept.good)
