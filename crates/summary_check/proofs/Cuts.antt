-- Records that are cut one after the other.
use Rattle.std.proofs.Common.{◌≡◌, ◌⊎◌, ℕ, suc, ◌+◌, ◌-◌, ◌^◌, ◌<◌, ◌≤◌, false, List, [], ◌∷◌, ◌++◌, length, take, drop, refl, sym, ap, subst, inl, inr, ◌∙◌, append_assoc, append-nil, arith}
use Rattle.std.proofs.lemmas.Bool.{lt-leb}
use Rattle.std.proofs.lemmas.List.{length-append, length-drop, length-take, take-append-le, take_at}
use Rattle.std.proofs.Math.Seq.{take-append_seam}
use Rattle.std.proofs.lemmas.Grind.{flat_map-append}
use Rattle.mcap_wire.specs.declared.faults.Cut.{Cut}
use Rattle.mcap_wire.specs.declared.faults.CutFault.TheVariants as cut_faults
use Rattle.mcap_wire.specs.Layout.{number, magic}
use Rattle.mcap_wire.specs.Reading.{IsCut, CutFails}
use Rattle.mcap_model.specs.Places.{Each}
use Rattle.mcap_model.specs.Tops.{Top, top_bytes, spelled, offset_behind, opcode, declared_length, has_head, is_whole}
use Rattle.mcap_model.specs.Whole.{AreShort}
use Rattle.mcap_model.specs.Valid.{Flaw, flaw_4, flaw_5}
use Rattle.mcap_model.specs.Plain.{cut_top}
use Rattle.mcap_model.proofs.Flat.{map-append}
use Rattle.mcap_model.proofs.Lists.{each_joined}
use Rattle.mcap_model.proofs.Places.{at_none, at_within, at_more}
use Rattle.mcap_model.proofs.Readings.{length-top}
use Rattle.mcap_model.proofs.TakenRecords.{spelled_more}
use Rattle.mcap_model.proofs.OneMore.{each_last}
use Rattle.summary_read.specs.PartSteps.{cut_tops}
use Rattle.summary_read.proofs.Walking.{declared_there, opcode_there}
use Rattle.mcap_model.specs.declared.refusals.ReadingRefused.{ReadingRefused}
use Rattle.mcap_model.specs.declared.refusals.ReadingRefused.TheVariants as refusals
use Rattle.mcap_model.specs.declared.rules.Rule.TheVariants as rules
use Rattle.summary_check.specs.Files.{spelled_file, FailsThere}
use Rattle.summary_check.specs.Cutting.{IsRead, CutsBehindTo, AreCutBehind}

-- ---- why none is cut

pub inner_is : (rest : List ℕ) → take (length (rest ++ magic) - 8) (rest ++ magic) ≡ rest
inner_is rest =
    let size : length (rest ++ magic) - 8 ≡ length rest = omega (arith, length-append rest magic) in
    ap (λ (k : ℕ). take k (rest ++ magic)) size ∙ take_at rest magic (length rest) refl

pub size_of : (tops : List Top) (rest : List ℕ) → length (spelled_file tops rest) ≡ offset_behind tops + (length rest + 8)
size_of tops rest = omega (arith, length-append magic (spelled tops ++ (rest ++ magic)), length-append (spelled tops) (rest ++ magic), length-append rest magic)

unfits : (tops : List Top) (rest : List ℕ) (offset : ℕ) → AreShort tops → offset ≡ offset_behind tops → 0 < length rest → (has_head rest ≡ false) ⊎ (is_whole rest ≡ false) → Flaw (spelled_file tops rest) rules.V4 offset
unfits tops rest offset short there some none = flaw_4 offset (record {
  tops = tops;
  rest = rest ++ magic;
  stand = record { split = refl };
  short = short;
  there = there;
  inside = omega (arith, size_of tops rest, there, some);
  cut = subst (λ (l : List ℕ). (has_head l ≡ false) ⊎ (is_whole l ≡ false)) (sym (inner_is rest)) none;
})

front_opcode : (rest : List ℕ) → 9 ≤ length rest → opcode (rest ++ magic) ≡ opcode rest
front_opcode [] some = absurd (omega (arith, some))
front_opcode (b ∷ bytes) some = refl

pub front_length : (rest : List ℕ) → 9 ≤ length rest → declared_length (rest ++ magic) ≡ declared_length rest
front_length [] some = absurd (omega (arith, some))
front_length (b ∷ bytes) some = ap number (take-append-le 8 bytes magic (omega (arith, some)))

zero_fails : (tops : List Top) (rest : List ℕ) (offset : ℕ) → AreShort tops → offset ≡ offset_behind tops → 9 ≤ length rest → opcode rest ≡ 0 → Flaw (spelled_file tops rest) rules.V5 offset
zero_fails tops rest offset short there head none = flaw_5 offset (inr (inl (record {
  tops = tops;
  rest = rest ++ magic;
  stand = record { split = refl };
  short = short;
  there = there;
  inside = omega (arith, size_of tops rest, there, head);
  zero = front_opcode rest head ∙ none;
})))

pub short_refused : (bytes : List ℕ) (at offset : ℕ) (tops : List Top) → at < length bytes → CutFails bytes at cut_faults.Short → AreShort tops → offset ≡ offset_behind tops → FailsThere (spelled_file tops (drop at bytes)) (refusals.Grammar offset rules.V4)
short_refused bytes at offset tops inside (inl head) short there =
    unfits tops (drop at bytes) offset short there (omega (arith, length-drop at bytes, inside)) (inl (lt-leb 9 (length (drop at bytes)) (omega (arith, length-drop at bytes, head))))
short_refused bytes at offset tops inside (inr content) short there =
    let rest = drop at bytes in
    unfits tops rest offset short there (omega (arith, length-drop at bytes, inside)) (inr (lt-leb (9 + declared_length rest) (length rest) (omega (arith, length-drop at bytes, declared_there bytes at, content.2))))

pub zero_refused : (bytes : List ℕ) (at offset : ℕ) (tops : List Top) → CutFails bytes at cut_faults.ZeroOp → AreShort tops → offset ≡ offset_behind tops → FailsThere (spelled_file tops (drop at bytes)) (refusals.Grammar offset rules.V5)
zero_refused bytes at offset tops fails short there =
    zero_fails tops (drop at bytes) offset short there (omega (arith, length-drop at bytes, fails.0)) (opcode_there bytes at ∙ fails.1)

pub long_refused : (bytes : List ℕ) (at len offset : ℕ) (tops : List Top) → CutFails bytes at (cut_faults.TooLong len) → AreShort tops → offset ≡ offset_behind tops → FailsThere (spelled_file tops (drop at bytes)) (refusals.Limit offset)
long_refused bytes at len offset tops fails short there =
    let rest = drop at bytes in
    let head : 9 ≤ length rest = omega (arith, length-drop at bytes, fails.0.0) in
    record {
      tops = tops;
      rest = rest ++ magic;
      stand = record { split = refl };
      short = short;
      there = there;
      inside = omega (arith, size_of tops rest, there, head);
      valid = λ none. fails.0.1 (sym (opcode_there bytes at) ∙ (sym (front_opcode rest head) ∙ none));
      past = omega (arith, front_length rest head, declared_there bytes at, fails.1, fails.2);
    }

-- ---- one record more

pub cuts_none : (bytes : List ℕ) → CutsBehindTo bytes 0 []
cuts_none bytes = record {
  within = omega arith;
  split = refl;
  there = refl;
  inside = λ n c at. absurd (at_none n c at);
  placed = λ k c at. absurd (at_none k c at);
  read = λ n t at. absurd (at_none n t at);
}

pub cuts_more : (bytes : List ℕ) (at : ℕ) (cuts : List Cut) (c : Cut) → CutsBehindTo bytes at cuts → IsCut bytes at c → CutsBehindTo bytes c.to (cuts ++ c ∷ [])
cuts_more bytes at cuts c so_far is =
    let t = cut_top bytes c in
    let stands = is.stands in
    let size : length t.content ≡ c.to - c.from = omega (arith, length-take (c.to - c.from) (drop c.from bytes), length-drop c.from bytes, stands.ends) in
    let tops_are : cut_tops bytes (cuts ++ c ∷ []) ≡ cut_tops bytes cuts ++ t ∷ [] = map-append (cut_top bytes) cuts (c ∷ []) in
    let text : spelled (cut_tops bytes (cuts ++ c ∷ [])) ≡ spelled (cut_tops bytes cuts) ++ top_bytes t = ap spelled tops_are ∙ spelled_more (cut_tops bytes cuts) t in
    record {
      within = stands.ends;
      split = so_far.split
          ∙ ap (λ (l : List ℕ). spelled (cut_tops bytes cuts) ++ l) stands.framed_there
          ∙ sym (append_assoc (spelled (cut_tops bytes cuts)) (top_bytes t) (drop c.to bytes))
          ∙ ap (λ (l : List ℕ). l ++ drop c.to bytes) (sym text);
      there = omega (arith, ap length text, length-append (spelled (cut_tops bytes cuts)) (top_bytes t), length-top t, size, so_far.there, stands.head, stands.begins);
      inside = each_last (λ (d : Cut). (d.from ≤ d.to) × (d.to ≤ length bytes)) cuts c so_far.inside (stands.begins, stands.ends);
      placed = λ k d there. elim (at_more cuts c k d there) [
        | inl old ↦
            let within = at_within cuts k d old in
            so_far.placed k d old ∙ ap (λ (l : List Top). length (spelled l) + 9) (sym (ap (take k) tops_are ∙ take-append-le k (cut_tops bytes cuts) (t ∷ []) (omega (arith, length-map_cuts cuts, within))))
        | inr (last, same) ↦
            let front : take k (cut_tops bytes (cuts ++ c ∷ [])) ≡ cut_tops bytes cuts =
            ap (take k) tops_are ∙ ap (λ (m : ℕ). take m (cut_tops bytes cuts ++ t ∷ [])) (last ∙ sym (length-map_cuts cuts)) ∙ take-append_seam (cut_tops bytes cuts) (t ∷ []) in
            let from = ap (λ (x : Cut). x.from) same in
            let size_front = ap (λ (l : List Top). length (spelled l)) front in
            omega (arith, from, stands.head, so_far.there, size_front)
      ];
      read = subst (Each IsRead) (sym tops_are) (each_last IsRead (cut_tops bytes cuts) t so_far.read (record { valid = is.valid; short = omega (arith, size, is.within) }));
    }
  where
    length-map_cuts : (list : List Cut) → length (cut_tops bytes list) ≡ length list
    length-map_cuts [] = refl
    length-map_cuts (d ∷ ds) = ap suc (length-map_cuts ds)

pub cuts_all : (bytes : List ℕ) (at : ℕ) (cuts : List Cut) → CutsBehindTo bytes at cuts → length bytes ≤ at → AreCutBehind bytes cuts
cuts_all bytes at cuts so_far end = record {
  split = so_far.split ∙ ap (λ (l : List ℕ). spelled (cut_tops bytes cuts) ++ l) (dropped bytes at end) ∙ append-nil (spelled (cut_tops bytes cuts));
  inside = so_far.inside;
  placed = so_far.placed;
  read = so_far.read;
}
  where
    empty : (l : List ℕ) → length l ≤ 0 → l ≡ []
    empty [] few = refl
    empty (x ∷ xs) few = absurd (omega (arith, few))

    dropped : (l : List ℕ) (n : ℕ) → length l ≤ n → drop n l ≡ []
    dropped l n few = empty (drop n l) (omega (arith, length-drop n l, few))

-- what is wrong behind records that were cut is wrong with the file
pub refused_behind : (bytes : List ℕ) (at start : ℕ) (cuts : List Cut) (why : ReadingRefused) → CutsBehindTo bytes at cuts
    → ((tops : List Top) → AreShort tops → start + at ≡ offset_behind tops → FailsThere (spelled_file tops (drop at bytes)) why)
    → (tops : List Top) → AreShort tops → start ≡ offset_behind tops → FailsThere (spelled_file tops bytes) why
refused_behind bytes at start cuts why so_far refused tops short there =
    let done = cut_tops bytes cuts in
    let text : spelled (tops ++ done) ≡ spelled tops ++ spelled done = flat_map-append top_bytes tops done in
    let same : spelled_file (tops ++ done) (drop at bytes) ≡ spelled_file tops bytes =
    ap (λ (l : List ℕ). magic ++ (l ++ (drop at bytes ++ magic))) text
    ∙ ap (λ (l : List ℕ). magic ++ l) (append_assoc (spelled tops) (spelled done) (drop at bytes ++ magic))
    ∙ ap (λ (l : List ℕ). magic ++ (spelled tops ++ l)) (sym (append_assoc (spelled done) (drop at bytes) magic))
    ∙ ap (λ (l : List ℕ). magic ++ (spelled tops ++ (l ++ magic))) (sym so_far.split) in
    subst (λ (l : List ℕ). FailsThere l why) same (
    refused (tops ++ done)
    (each_joined (λ (t : Top). length t.content < 2 ^ 64) tops done short (λ n t at_t. let read = so_far.read n t at_t in let near = read.short in omega (arith, near)))
    (omega (arith, ap length text, length-append (spelled tops) (spelled done), so_far.there, there)))
