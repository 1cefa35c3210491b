-- Texts that are gathered and written one after the other.
use Rattle.std.proofs.Common.{◌≡◌, ℕ, ◌+◌, ◌<◌, ◌≤◌, List, [], ◌∷◌, ◌++◌, length, take, Option, Some, Result, Ok, Err, refl, sym, ap, subst, ◌∙◌, append_assoc, length-append, arith}
use Rattle.std.proofs.lemmas.List.{append-nil, take-append-le}
use Rattle.std.specs.Prelude.{OnOk}
use Rattle.mcap_io.specs.declared.outside.Failed.{Failed}
use Rattle.mcap_io.specs.declared.outside.Short.{Short}
use Rattle.mcap_io.specs.Outside.{SinkState, RisesOnce, Adds, AddsPart}
use Rattle.mcap_io.specs.OutsideCalls.{WritesAll}
use Rattle.mcap_io.proofs.Calls.{adds-adds, adds-part}
use Rattle.time_player.specs.Putting.{PutsOn, PutsPart, Puts}

first_none : (xs ys : List ℕ) → xs ++ ys ≡ [] → xs ≡ []
first_none [] ys none = refl
first_none (x ∷ xs) ys none = absurd cc

second_none : (xs ys : List ℕ) → xs ++ ys ≡ [] → ys ≡ []
second_none [] ys none = none
second_none (x ∷ xs) ys none = absurd cc

-- nothing was put
pub puts_none : (s : SinkState) (piece : List ℕ) → PutsOn s s piece piece []
puts_none s piece = record {
  written = [];
  still = refl;
  adds = λ before told. told ∙ ap (λ (l : List ℕ). Some l) (sym (append-nil before));
  whole = sym (append-nil piece);
  silent = λ none. refl;
}

-- a line more waits
pub puts_line : (a b : SinkState) (first piece more text line : List ℕ) → PutsOn a b first piece text → more ≡ piece ++ line → PutsOn a b first more (text ++ line)
puts_line a b first piece more text line p is = record {
  written = p.written;
  still = p.still;
  adds = p.adds;
  whole =
      ap (λ (l : List ℕ). p.written ++ l) is
      ∙ sym (append_assoc p.written piece line)
      ∙ ap (λ (l : List ℕ). l ++ line) p.whole
      ∙ append_assoc first text line;
  silent = p.silent;
}

-- what was put, and what was put after it
pub puts_after : (a b c : SinkState) (first piece more text other : List ℕ) → PutsOn a b first piece text → PutsOn b c piece more other → PutsOn a c first more (text ++ other)
puts_after a b c first piece more text other p q = record {
  written = p.written ++ q.written;
  still = q.still ∙ p.still;
  adds = adds-adds a.took b.took c.took p.written q.written p.adds q.adds;
  whole =
      append_assoc p.written q.written more
      ∙ ap (λ (l : List ℕ). p.written ++ l) q.whole
      ∙ sym (append_assoc p.written piece other)
      ∙ ap (λ (l : List ℕ). l ++ other) p.whole
      ∙ append_assoc first text other;
  silent = λ none. q.silent (second_none p.written q.written none) ∙ p.silent (first_none p.written q.written none);
}

-- a text of which a part was taken
part_of : (old new : Option (List ℕ)) (some : ℕ) (text other : List ℕ) → AddsPart old new some text → text ≡ other → AddsPart old new 0 other
part_of old new some text other part is before told =
    let p = part before told in
    (p.0, omega arith, subst (λ (l : List ℕ). p.0 ≤ length l) is p.2, p.3 ∙ ap (λ (l : List ℕ). Some (before ++ take p.0 l)) is)

-- the same, where the second was put in part
pub part_after : (a b c : SinkState) (first piece text other : List ℕ) → PutsOn a b first piece text → PutsPart b c piece other → PutsPart a c first (text ++ other)
part_after a b c first piece text other p q =
    let is : p.written ++ (piece ++ other) ≡ first ++ (text ++ other) =
    sym (append_assoc p.written piece other) ∙ ap (λ (l : List ℕ). l ++ other) p.whole ∙ append_assoc first text other in
    record {
      rises = subst (λ (n : ℕ). RisesOnce n c.faults) p.still q.rises;
      adds = part_of a.took c.took (length p.written + 0) (p.written ++ (piece ++ other)) (first ++ (text ++ other)) (adds-part a.took b.took c.took p.written (piece ++ other) 0 p.adds q.adds) is;
      some = λ none. q.some (second_none p.written (piece ++ other) (is ∙ none));
    }

-- what was put in part is a part of more
pub part_more : (a b : SinkState) (first text other : List ℕ) → PutsPart a b first text → PutsPart a b first (text ++ other)
part_more a b first text other p =
    let is : first ++ (text ++ other) ≡ (first ++ text) ++ other = sym (append_assoc first text other) in
    record {
      rises = p.rises;
      adds = λ before told.
          let q = p.adds before told in
          let size = length-append (first ++ text) other in (
            q.0,
            q.1,
            subst (λ (l : List ℕ). q.0 ≤ length l) (sym is) (let few = q.2 in omega (arith, few, size)),
            q.3 ∙ ap (λ (l : List ℕ). Some (before ++ l)) (sym (take-append-le q.0 (first ++ text) other q.2) ∙ ap (take q.0) (sym is)),
          );
      some = λ none. p.some (first_none (first ++ text) other (sym is ∙ none));
    }

pub all_after : (a b c : SinkState) (first piece more text other : List ℕ) (result : Result Unit Failed) → PutsOn a b first piece text → Puts b c piece more other result → Puts a c first more (text ++ other) result
all_after a b c first piece more text other (Ok it) p q = puts_after a b c first piece more text other p q
all_after a b c first piece more text other (Err why) p q = part_after a b c first piece text other p q

-- the piece was written
pub piece_put : (a b : SinkState) (piece given fresh : List ℕ) → given ≡ piece → WritesAll a b given (Ok tt) → 1 ≤ length piece → fresh ≡ [] → PutsOn a b piece fresh []
piece_put a b piece given fresh same wrote some none = record {
  written = piece;
  still = wrote.0;
  adds = subst (λ (l : List ℕ). Adds a.took b.took l) same wrote.1;
  whole = ap (λ (l : List ℕ). piece ++ l) none;
  silent = λ is. absurd (let size : length piece ≡ 0 = ap (λ (l : List ℕ). length l) is in omega (arith, some, size));
}

pub piece_part : (a b : SinkState) (piece given : List ℕ) (short : Short) → given ≡ piece → WritesAll a b given (Err short) → 1 ≤ length piece → PutsPart a b piece []
piece_part a b piece given short same wrote some = record {
  rises = wrote.0;
  adds = part_of a.took b.took short.taken given (piece ++ []) wrote.2 (same ∙ sym (append-nil piece));
  some = λ is. absurd (let size : length (piece ++ []) ≡ 0 = ap (λ (l : List ℕ). length l) is in let long = length-append piece [] in omega (arith, some, size, long));
}

-- nothing waits at the end
pub puts_last : (a b c : SinkState) (first piece fresh text : List ℕ) (size : ℕ) (result : Result Unit Failed) → first ≡ [] → PutsOn a b first piece text → Puts b c piece fresh [] result → size ≡ length fresh → OnOk result (size < 1)
    → Puts a c [] [] text result
puts_last a b c first piece fresh text size (Ok it) none p q same short =
    subst (λ (l : List ℕ). PutsOn a c [] l text) (no_length fresh (omega (arith, same, short)))
    (subst (λ (l : List ℕ). PutsOn a c l fresh text) none (subst (λ (l : List ℕ). PutsOn a c first fresh l) (append-nil text) (puts_after a b c first piece fresh text [] p q)))
  where
    no_length : (xs : List ℕ) → length xs < 1 → xs ≡ []
    no_length [] less = refl
    no_length (x ∷ xs) less = absurd (omega (arith, less))
puts_last a b c first piece fresh text size (Err why) none p q same short =
    subst (λ (l : List ℕ). PutsPart a c l text) none (subst (λ (l : List ℕ). PutsPart a c first l) (append-nil text) (part_after a b c first piece text [] p q))

pub part_last : (a c : SinkState) (first text : List ℕ) → first ≡ [] → PutsPart a c first text → PutsPart a c [] text
part_last a c first text none p = subst (λ (l : List ℕ). PutsPart a c l text) none p

-- equal texts are put alike
pub puts_same : (a b : SinkState) (first piece text other : List ℕ) → PutsOn a b first piece text → text ≡ other → PutsOn a b first piece other
puts_same a b first piece text other p is = subst (PutsOn a b first piece) is p
