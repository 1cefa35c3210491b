-- What several additions in a row come to.
use Rattle.std.proofs.Common.{◌≡◌, ℕ, ◌+◌, ◌<◌, Bool, true, false, List, [], ◌++◌, length, take, Option, Some, Result, Ok, Err, append_assoc, refl, ap, sym, ◌∙◌, arith, length-append}
use Rattle.std.proofs.Math.Seq.{take-append-add}
use Rattle.std.specs.Prelude.{◌==◌, IsErr}
use Rattle.std.proofs.lemmas.Bool.{both_ways, eqb-true, eqb-false}
use Rattle.std.proofs.lemmas.List.{nil_from_length}
use Rattle.mcap_io.specs.declared.outside.Failed.{Failed}
use Rattle.mcap_io.specs.Outside.{Adds, AddsPart}
use Rattle.mcap_io.specs.OutsideCalls.{HasCause}

-- two additions are one of both pieces
pub adds-adds : (old mid new : Option (List ℕ)) (xs ys : List ℕ) → Adds old mid xs → Adds mid new ys → Adds old new (xs ++ ys)
adds-adds old mid new xs ys first second before told =
    second (before ++ xs) (first before told) ∙ ap Some (append_assoc before xs ys)

-- an addition and then a part are a part of both pieces, at least the first
pub adds-part : (old mid new : Option (List ℕ)) (xs ys : List ℕ) (least : ℕ) → Adds old mid xs → AddsPart mid new least ys → AddsPart old new (length xs + least) (xs ++ ys)
adds-part old mid new xs ys least first second before told =
    let part = second (before ++ xs) (first before told) in
    let front : take (length xs + part.0) (xs ++ ys) ≡ xs ++ take part.0 ys = take-append-add xs ys part.0 in
    (length xs + part.0, omega arith, omega (arith, length-append xs ys), part.3 ∙ ap Some (append_assoc before xs (take part.0 ys) ∙ ap (λ l. before ++ l) (sym front)))

-- ---- pieces with and without bytes

pub some_there : (n : ℕ) (b : Bool) → b ≡ (n == 0) → b ≡ false → 0 < n
some_there n b is none = let some = eqb-false n 0 (sym is ∙ none) in omega (arith, some)

pub none_there : (bytes : List ℕ) (b : Bool) → b ≡ (length bytes == 0) → b ≡ true → bytes ≡ []
none_there bytes b is empty = nil_from_length bytes (eqb-true (length bytes) 0 (sym is ∙ empty))

-- a call whose count of faults stands at none didn't fail
pub never_fails : (r : Result ℕ Failed) → HasCause 0 0 r → IsErr r → ⊥
never_fails (Ok n) cause e = both_ways false refl e
never_fails (Err why) cause e = absurd (cc cause.failed.once)
