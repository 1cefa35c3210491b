-- What texts that are printed or put one behind the other leave.
use Rattle.std.proofs.Common.{◌≡◌, ℕ, ◌+◌, ◌<◌, false, List, [], ◌∷◌, ◌++◌, length, take, get_or, Option, Some, Result, Ok, Err, refl, subst, ap, sym, inl, inr, ◌∙◌, append_assoc, arith, length-append}
use Rattle.std.specs.List.{flat_map}
use Rattle.std.proofs.lemmas.List.{append-nil, take-append-le, take_more}
use Rattle.std.proofs.lemmas.Grind.{flat_map-append}
use Rattle.mcap_io.specs.Outside.{SinkState, RisesOnce, AddsPart}
use Rattle.mcap_io.proofs.Calls.{adds-adds, adds-part}
use Rattle.mcap_io.specs.declared.outside.Failed.{Failed}
use Rattle.command_base.specs.declared.waiting.Waiting.{Waiting}
use Rattle.command_base.specs.Printing.{TellsAll, TellsTextPart, Takes}
use Rattle.command_base.specs.Putting.{TakesAll, TakesTextPart, GoesOn, PutsText, Prints}

-- a count that stood still and then rose by one rose by one
pub rises_on : (before middle now : ℕ) → middle ≡ before → RisesOnce middle now → RisesOnce before now
rises_on before middle now still rises = subst (λ (n : ℕ). RisesOnce n now) still rises

-- a first part of a text is one of every longer text
pub part-longer : (old new : Option (List ℕ)) (least : ℕ) (xs ys : List ℕ) → AddsPart old new least xs → AddsPart old new 0 (xs ++ ys)
part-longer old new least xs ys part before told =
    let p = part before told in (
      p.0,
      omega arith,
      omega (arith, p.2, length-append xs ys),
      p.3 ∙ ap (λ l. Some (before ++ l)) (sym (take-append-le p.0 xs ys p.2)),
    )

-- ---- printing

tells-all : (old mid new : SinkState) (xs ys : List ℕ) → TellsAll old mid xs → TellsAll mid new ys → TellsAll old new (xs ++ ys)
tells-all old mid new xs ys first second = record { still = second.still ∙ first.still; adds = adds-adds old.took mid.took new.took xs ys first.adds second.adds }

tells-part : (old mid new : SinkState) (xs ys : List ℕ) → TellsAll old mid xs → TellsTextPart mid new ys → TellsTextPart old new (xs ++ ys)
tells-part old mid new xs ys first second = record {
  rises = rises_on old.faults mid.faults new.faults first.still second.rises;
  adds = let whole = adds-part old.took mid.took new.took xs ys 0 first.adds second.adds in λ before told. let p = whole before told in (p.0, omega arith, p.2, p.3);
}

-- a text that was printed behind one that was
pub prints-behind : (old mid new : SinkState) (xs ys : List ℕ) (r : Result Unit Failed) → TellsAll old mid xs → Prints mid new ys r → Prints old new (xs ++ ys) r
prints-behind old mid new xs ys (Ok it) first prints = tells-all old mid new xs ys first prints
prints-behind old mid new xs ys (Err why) first prints = tells-part old mid new xs ys first prints

-- ---- putting

first_empty : (xs ys : List ℕ) → xs ++ ys ≡ [] → xs ≡ []
first_empty [] ys none = refl
first_empty (x ∷ xs) ys none = absurd cc

second_empty : (xs ys : List ℕ) → xs ++ ys ≡ [] → ys ≡ []
second_empty [] ys none = none
second_empty (x ∷ xs) ys none = absurd cc

takes-all : (old mid new : SinkState) (xs ys : List ℕ) → TakesAll old mid xs → TakesAll mid new ys → TakesAll old new (xs ++ ys)
takes-all old mid new xs ys first second = record {
  all = tells-all old mid new xs ys first.all second.all;
  silent = λ none. second.silent (second_empty xs ys none) ∙ first.silent (first_empty xs ys none);
}

takes-part : (old mid new : SinkState) (xs ys : List ℕ) → TakesAll old mid xs → TakesTextPart mid new ys → TakesTextPart old new (xs ++ ys)
takes-part old mid new xs ys first second = record {
  part = tells-part old mid new xs ys first.all second.part;
  some = λ none. second.some (second_empty xs ys none);
}

-- what waited and the first text, and the second behind them
regrouped : (taken waits left xs ys : List ℕ) → taken ++ left ≡ waits ++ xs → taken ++ (left ++ ys) ≡ waits ++ (xs ++ ys)
regrouped taken waits left xs ys is = sym (append_assoc taken left ys) ∙ ap (λ (l : List ℕ). l ++ ys) is ∙ append_assoc waits xs ys

goes-on : (s0 s1 s2 : SinkState) (w0 w1 w2 xs ys : List ℕ) → GoesOn s0 s1 w0 w1 xs → GoesOn s1 s2 w1 w2 ys → GoesOn s0 s2 w0 w2 (xs ++ ys)
goes-on s0 s1 s2 w0 w1 w2 xs ys first second = record {
  taken = first.taken ++ second.taken;
  takes = takes-all s0 s1 s2 first.taken second.taken first.takes second.takes;
  waiting = append_assoc first.taken second.taken w2 ∙ ap (λ (l : List ℕ). first.taken ++ l) second.waiting ∙ regrouped first.taken w0 w1 xs ys first.waiting;
}

breaks-off : (s0 s1 s2 : SinkState) (w0 w1 xs ys : List ℕ) → GoesOn s0 s1 w0 w1 xs → TakesTextPart s1 s2 (w1 ++ ys) → TakesTextPart s0 s2 (w0 ++ (xs ++ ys))
breaks-off s0 s1 s2 w0 w1 xs ys first second =
    subst (λ (l : List ℕ). TakesTextPart s0 s2 l) (regrouped first.taken w0 w1 xs ys first.waiting) (takes-part s0 s1 s2 first.taken (w1 ++ ys) first.takes second)

stays-broken : (s0 s1 : SinkState) (w0 xs ys : List ℕ) → TakesTextPart s0 s1 (w0 ++ xs) → TakesTextPart s0 s1 (w0 ++ (xs ++ ys))
stays-broken s0 s1 w0 xs ys is = subst (λ (l : List ℕ). TakesTextPart s0 s1 l) (append_assoc w0 xs ys) (record {
  part = record { rises = is.part.rises; adds = part-longer s0.took s1.took 0 (w0 ++ xs) ys is.part.adds };
  some = λ none. is.some (first_empty (w0 ++ xs) ys none);
})

-- a text that was put behind one that was
pub puts_behind : (s0 s1 s2 : SinkState) (w0 w1 w2 : Waiting) (xs ys : List ℕ) → PutsText s0 w0 s1 w1 xs → PutsText s1 w1 s2 w2 ys → PutsText s0 w0 s2 w2 (xs ++ ys)
puts_behind s0 s1 s2 w0 w1 w2 xs ys first second = record {
  puts = λ on. elim (first.puts on) [
    | inl (on_one, goes) ↦ elim (second.puts on_one) [
      | inl (on_two, more) ↦ inl (on_two, goes-on s0 s1 s2 w0.bytes.items w1.bytes.items w2.bytes.items xs ys goes more)
      | inr (off, part) ↦ inr (off, breaks-off s0 s1 s2 w0.bytes.items w1.bytes.items xs ys goes part)
    ]
    | inr (off, part) ↦
        let still = second.silent off in
        inr (still.0, subst (λ (s : SinkState). TakesTextPart s0 s (w0.bytes.items ++ (xs ++ ys))) (sym still.1) (stays-broken s0 s1 w0.bytes.items xs ys part))
  ];
  silent = λ off. let one = first.silent off in let two = second.silent one.0 in (two.0, two.1 ∙ one.1);
}

pub puts_same : (s0 s1 : SinkState) (w0 w1 : Waiting) (xs ys : List ℕ) → xs ≡ ys → PutsText s0 w0 s1 w1 xs → PutsText s0 w0 s1 w1 ys
puts_same s0 s1 w0 w1 xs ys same puts = subst (λ (l : List ℕ). PutsText s0 w0 s1 w1 l) same puts

-- the text of one element more
pub puts_more : {X : Type 0} (f : X → List ℕ) (xs : List X) (i : ℕ) (d : X) (s0 s1 s2 : SinkState) (w0 w1 w2 : Waiting) → i < length xs → PutsText s0 w0 s1 w1 (flat_map f (take i xs)) → PutsText s1 w1 s2 w2 (f (get_or xs i d))
    → PutsText s0 w0 s2 w2 (flat_map f (take (i + 1) xs))
puts_more f xs i d s0 s1 s2 w0 w1 w2 within first second =
    puts_same s0 s2 w0 w2 (flat_map f (take i xs) ++ f (get_or xs i d)) (flat_map f (take (i + 1) xs))
    (ap (λ (l : List ℕ). flat_map f (take i xs) ++ l) (sym (append-nil (f (get_or xs i d)))) ∙ sym (ap (flat_map f) (take_more xs i d within) ∙ flat_map-append f (take i xs) (get_or xs i d ∷ [])))
    (puts_behind s0 s1 s2 w0 w1 w2 (flat_map f (take i xs)) (f (get_or xs i d)) first second)

-- one byte more
pub puts_next : (xs : List ℕ) (i d : ℕ) (s0 s1 s2 : SinkState) (w0 w1 w2 : Waiting) → i < length xs → PutsText s0 w0 s1 w1 (take i xs) → PutsText s1 w1 s2 w2 (get_or xs i d ∷ []) → PutsText s0 w0 s2 w2 (take (i + 1) xs)
puts_next xs i d s0 s1 s2 w0 w1 w2 within first second =
    puts_same s0 s2 w0 w2 (take i xs ++ get_or xs i d ∷ []) (take (i + 1) xs) (sym (take_more xs i d within))
    (puts_behind s0 s1 s2 w0 w1 w2 (take i xs) (get_or xs i d ∷ []) first second)

-- a text that was put from the beginning, and of which nothing waits, was taken
pub all_put : (s0 s1 s2 : SinkState) (old mid new : Waiting) (text : List ℕ) → old.broken ≡ false → old.bytes.items ≡ [] → PutsText s0 old s1 mid text → PutsText s1 mid s2 new [] → (new.broken ≡ false → new.bytes.items ≡ []) → Takes s0 s2 text
all_put s0 s1 s2 old mid new text on empty first last none = taken (puts_same s0 s2 old new (text ++ []) text (append-nil text) (puts_behind s0 s1 s2 old mid new text [] first last))
  where
    taken : PutsText s0 old s2 new text → Takes s0 s2 text
    taken put = elim (put.puts on) [
      | inl (still, goes) ↦
          let whole : goes.taken ≡ text = sym (append-nil goes.taken) ∙ ap (λ (l : List ℕ). goes.taken ++ l) (sym (none still)) ∙ goes.waiting ∙ ap (λ (l : List ℕ). l ++ text) empty in
          subst (λ (l : List ℕ). Takes s0 s2 l) whole (record { tells = inl goes.takes.all; silent = goes.takes.silent })
      | inr (off, part) ↦
          let whole : TakesTextPart s0 s2 text = subst (λ (l : List ℕ). TakesTextPart s0 s2 (l ++ text)) empty part in
          record { tells = inr whole.part; silent = λ nothing. absurd (whole.some nothing) }
    ]
