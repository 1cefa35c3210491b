-- What a reader with a buffer has left.
use Rattle.std.proofs.Common.{◌≡◌, ℕ, ◌+◌, ◌-◌, ◌≤◌, List, [], ◌++◌, length, take, drop, Option, Some, None, Result, min, subst, ap, sym, ◌∙◌, arith, refl, length-take, length-drop, length-append}
use Rattle.std.proofs.lemmas.List.{take-append-le, drop-drop, drop-take, take-append-drop, take-take, drop-append-le}
use Rattle.mcap_io.specs.declared.outside.Failed.{Failed}
use Rattle.io_files.specs.Ahead.{ahead, AheadReads}
use Rattle.mcap_io.specs.OutsideCalls.{GivesFront}

-- nothing was read ahead
pub ahead-none : (buffer : List ℕ) (from to : ℕ) (known : Option (List ℕ)) → to ≤ from → ahead buffer from to known ≡ known
ahead-none buffer from to None passed = refl
ahead-none buffer from to (Some rest) passed =
    let none : to - from ≡ 0 = omega arith in
    ap (λ n. Some (take n (drop from buffer) ++ rest)) none

-- what a buffer was filled with, and then the rest
pub ahead-filled : (buffer : List ℕ) (n : ℕ) (known : Option (List ℕ)) (rest : List ℕ) → take n buffer ≡ take n rest → known ≡ Some (drop n rest) → ahead buffer 0 n known ≡ Some rest
ahead-filled buffer n known rest given after =
    let whole : n - 0 ≡ n = omega arith in
    ap (λ k. ahead buffer 0 n k) after
    ∙ ap (λ m. Some (take m buffer ++ drop n rest)) whole
    ∙ ap (λ l. Some (l ++ drop n rest)) given
    ∙ ap Some (take-append-drop n rest)

-- what is read ahead without its first n bytes
rest_of-front : (buffer : List ℕ) (from to n : ℕ) → n ≤ to - from → take (to - (from + n)) (drop (from + n) buffer) ≡ drop n (take (to - from) (drop from buffer))
rest_of-front buffer from to n within =
    let more : n + (to - (from + n)) ≡ to - from = omega arith in
    ap (take (to - (from + n))) (sym (drop-drop n from buffer))
    ∙ sym (drop-take n (to - (from + n)) (drop from buffer))
    ∙ ap (λ m. drop n (take m (drop from buffer))) more

-- some first bytes of what was read ahead are given
pub ahead-given : (buffer : List ℕ) (from to : ℕ) (known : Option (List ℕ)) (rest : List ℕ) (n : ℕ) → n ≤ to - from → to ≤ length buffer → ahead buffer from to known ≡ Some rest → (take n (drop from buffer) ≡ take n rest) × (n ≤ length rest) × (ahead buffer (from + n) to known ≡ Some (drop n rest))
ahead-given buffer from to None rest n within inside told = absurd (cc)
ahead-given buffer from to (Some xs) rest n within inside told =
    let front : List ℕ = take (to - from) (drop from buffer) in
    let whole : front ++ xs ≡ rest = cc in
    let fits : n ≤ length front = omega (arith, length-take (to - from) (drop from buffer), length-drop from buffer) in (
      sym (take-take n (to - from) (drop from buffer) within) ∙ sym (take-append-le n front xs fits) ∙ ap (take n) whole,
      omega (arith, fits, ap length whole, length-append front xs),
      ap Some (ap (λ l. l ++ xs) (rest_of-front buffer from to n within) ∙ sym (drop-append-le n front xs fits) ∙ ap (drop n) whole),
    )

-- a read of what was read ahead, where nothing is only given at the end
pub ahead-gives : (buffer buffer' : List ℕ) (from from' to to' n : ℕ) (known known' : Option (List ℕ)) (out rest : List ℕ) → buffer' ≡ buffer → from' ≡ from + n → to' ≡ to → known' ≡ known → n ≡ min (to - from) (length out) → to ≤ length buffer → take n out ≡ take n (drop from buffer) → (to ≤ from → rest ≡ []) → ahead buffer from to known ≡ Some rest → GivesFront rest (ahead buffer' from' to' known') n out
ahead-gives buffer buffer' from from' to to' n known known' out rest same_buffer moved same_end same_rest bound inside copied at_end told =
    let within : n ≤ to - from = omega arith in
    let front = ahead-given buffer from to known rest n within inside told in
    record {
      given = copied ∙ front.0;
      enough = front.1;
      after = ap (λ b. ahead b from' to' known') same_buffer
          ∙ ap (λ m. ahead buffer m to' known') moved
          ∙ ap (λ m. ahead buffer (from + n) m known') same_end
          ∙ ap (λ k. ahead buffer (from + n) to k) same_rest
          ∙ front.2;
      at_end = λ none room. at_end (omega arith);
    }

-- a read past an empty buffer
pub gives-past : (buffer : List ℕ) (from to : ℕ) (known known' : Option (List ℕ)) (out : List ℕ) (result : Result ℕ Failed) → to ≤ from → AheadReads known known' out result → AheadReads (ahead buffer from to known) (ahead buffer from to known') out result
gives-past buffer from to known known' out result passed gives =
    subst (λ k. AheadReads k (ahead buffer from to known') out result) (sym (ahead-none buffer from to known passed))
    (subst (λ k. AheadReads known k out result) (sym (ahead-none buffer from to known' passed)) gives)
