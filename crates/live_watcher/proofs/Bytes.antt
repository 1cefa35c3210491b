-- Bytes that were written, in one call or two.
use Rattle.std.proofs.Common.{◌≡◌, ℕ, List, ◌++◌, Option, Some, Ok, Err, sym, ap, subst, ◌∙◌, length-append, arith}
use Rattle.std.proofs.lemmas.List.{take-append-le}
use Rattle.mcap_io.specs.declared.outside.Short.{Short}
use Rattle.mcap_io.specs.Outside.{SinkState, RisesOnce, AddsPart}
use Rattle.mcap_io.specs.OutsideCalls.{WritesAll}
use Rattle.mcap_io.proofs.Calls.{adds-adds, adds-part}
use Rattle.live_watcher.specs.declared.report.WatchEnd.{WatchEnd}
use Rattle.live_watcher.specs.declared.report.WatchEnd.TheVariants as watch_ends
use Rattle.live_watcher.specs.Putting.{PutsBytes}

part_from : (old new : Option (List ℕ)) (least : ℕ) (bytes : List ℕ) → AddsPart old new least bytes → AddsPart old new 0 bytes
part_from old new least bytes part before told = let q = part before told in (q.0, omega arith, q.2, q.3)

part_more : (old new : Option (List ℕ)) (xs ys : List ℕ) → AddsPart old new 0 xs → AddsPart old new 0 (xs ++ ys)
part_more old new xs ys part before told =
    let q = part before told in
    (q.0, omega arith, omega (arith, q.2, length-append xs ys), q.3 ∙ ap (λ (l : List ℕ). Some (before ++ l)) (sym (take-append-le q.0 xs ys q.2)))

pub bytes_refused : (old new : SinkState) (bytes : List ℕ) (short : Short) (why : WatchEnd) → WritesAll old new bytes (Err short) → why ≡ watch_ends.Fault new.faults → PutsBytes old new bytes (Err why)
bytes_refused old new bytes short why wrote is = (wrote.0, is, part_from old.took new.took short.taken bytes wrote.2)

pub both_written : (old mid new : SinkState) (xs ys : List ℕ) → PutsBytes old mid xs (Ok tt) → PutsBytes mid new ys (Ok tt) → PutsBytes old new (xs ++ ys) (Ok tt)
both_written old mid new xs ys first second = (second.0 ∙ first.0, adds-adds old.took mid.took new.took xs ys first.1 second.1)

pub first_refused : (old new : SinkState) (xs ys : List ℕ) (why : WatchEnd) → PutsBytes old new xs (Err why) → PutsBytes old new (xs ++ ys) (Err why)
first_refused old new xs ys why first = (first.0, first.1, part_more old.took new.took xs ys first.2)

pub second_refused : (old mid new : SinkState) (xs ys : List ℕ) (why : WatchEnd) → PutsBytes old mid xs (Ok tt) → PutsBytes mid new ys (Err why) → PutsBytes old new (xs ++ ys) (Err why)
second_refused old mid new xs ys why first second = (
  subst (λ (n : ℕ). RisesOnce n new.faults) first.0 second.0,
  second.1,
  part_from old.took new.took _ (xs ++ ys) (adds-part old.took mid.took new.took xs ys 0 first.1 second.2),
)
