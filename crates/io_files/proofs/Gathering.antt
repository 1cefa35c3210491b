-- Putting pieces behind those that wait.
use Rattle.std.proofs.Common.{◌≡◌, ℕ, ◌+◌, List, [], ◌++◌, length, Option, Some, Result, Ok, Err, append-nil, ap, sym, ◌∙◌, arith, subst, zero-add, length-append}
use Rattle.std.proofs.lemmas.List.{take-append-le}
use Rattle.mcap_io.specs.declared.outside.Short.{Short}
use Rattle.mcap_io.specs.Outside.{Adds, AddsPart}
use Rattle.io_files.specs.Gathered.{Puts}
use Rattle.mcap_io.proofs.Calls.{adds-part}

-- a part of a piece is a part of any longer one
pub part-longer : (old new : Option (List ℕ)) (xs ys : List ℕ) → AddsPart old new 0 xs → AddsPart old new 0 (xs ++ ys)
part-longer old new xs ys part before told =
    let n = part before told in
    (n.0, n.1, omega (arith, n.2, length-append xs ys), n.3 ∙ ap (λ l. Some (before ++ l)) (sym (take-append-le n.0 xs ys n.2)))

-- at least so many bytes are at least none
pub part-weaker : (old new : Option (List ℕ)) (least : ℕ) (xs : List ℕ) → AddsPart old new least xs → AddsPart old new 0 xs
part-weaker old new least xs part before told =
    let n = part before told in (n.0, omega arith, n.2, n.3)

-- a piece that goes past the room, where nothing waits
pub puts-past : (old new : Option (List ℕ)) (waits bytes : List ℕ) → waits ≡ [] → Adds old new bytes → Puts old [] new waits bytes (Ok tt)
puts-past old new waits bytes none adds before told =
    (before ++ bytes, adds before told, ap (λ l. (before ++ bytes) ++ l) none ∙ append-nil (before ++ bytes) ∙ ap (λ l. l ++ bytes) (sym (append-nil before)))

-- a piece that is put once all that waited is written
pub puts-after : (old mid new : Option (List ℕ)) (waited waits bytes : List ℕ) (result : Result Unit Short) → Adds old mid waited → Puts mid [] new waits bytes result → Puts old waited new waits bytes result
puts-after old mid new waited waits bytes (Ok it) written puts = λ before told.
    let put = puts (before ++ waited) (written before told) in
    (put.0, put.1, put.2 ∙ ap (λ l. l ++ bytes) (append-nil (before ++ waited)))
puts-after old mid new waited waits bytes (Err short) written puts = (
  puts.0,
  part-weaker old new (length waited + 0) (waited ++ bytes) (adds-part old mid new waited bytes 0 written puts.1),
  λ some. adds-part old mid new waited bytes short.taken written (let P : ℕ → Type 0 = λ n. AddsPart mid new n bytes in subst P (zero-add short.taken) (puts.2 some)),
)
