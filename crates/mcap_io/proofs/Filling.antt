-- What a loop of reads has filled so far, and a loop of writes has written.
use Rattle.std.proofs.Common.{◌≡◌, ℕ, ◌+◌, ◌-◌, ◌≤◌, ◌<◌, min, List, [], ◌++◌, length, take, drop, Option, Some, append_assoc, ap, sym, ◌∙◌, arith, length-take, length-drop, take-add}
use Rattle.std.proofs.Math.Seq.{take-append-add}
use Rattle.std.proofs.Math.ListN.{drop_of_length-le}
use Rattle.std.proofs.lemmas.List.{take-append-le, drop-drop, length-take-le, take_all, take_rest, take-append-drop}
use borrow.Rule.Slice.PartMut.{put_mid, post_of}
use Rattle.mcap_io.specs.Outside.{Adds, AddsPart}
use Rattle.mcap_io.specs.OutsideCalls.{GivesFront, TakesFront}
use Rattle.mcap_io.proofs.Calls.{adds-adds}

-- the slice begins with the first n bytes of what was left, and these were taken
pub record FilledSoFar (rest : List ℕ) (left : Option (List ℕ)) (out : List ℕ) (n : ℕ) : Type 0 where
  pub given : take n out ≡ take n rest
  pub enough : n ≤ length rest
  pub after : left ≡ Some (drop n rest)

-- the front of a slice into whose rest a part was written: what stood there, and the front of the part
front_of-put_mid : (out part : List ℕ) (filled k n : ℕ) → filled ≤ length out → n ≤ length part → take (filled + n) (put_mid filled k out part) ≡ take filled out ++ take n part
front_of-put_mid out part filled k n within fits =
    ap (λ m. take (m + n) (put_mid filled k out part)) (sym (length-take-le filled out within))
    ∙ take-append-add (take filled out) (part ++ post_of filled k out) n
    ∙ ap (λ l. take filled out ++ l) (take-append-le n part (post_of filled k out) fits)

-- one read more
pub filled-more : (rest out part : List ℕ) (mid now : Option (List ℕ)) (filled k n : ℕ) → filled ≤ length out → n ≤ length part → FilledSoFar rest mid out filled → ((r : List ℕ) → mid ≡ Some r → GivesFront r now n part) → FilledSoFar rest now (put_mid filled k out part) (filled + n)
filled-more rest out part mid now filled k n within fits so_far gives =
    let read = gives (drop filled rest) so_far.after in
    record {
      given = front_of-put_mid out part filled k n within fits
          ∙ ap (λ l. l ++ take n part) so_far.given
          ∙ ap (λ l. take filled rest ++ l) read.given
          ∙ sym (take-add filled n rest);
      enough = omega (arith, so_far.enough, read.enough, length-drop filled rest);
      after = read.after ∙ ap Some (drop-drop n filled rest);
    }

-- a read that gives nothing where there is room: the input has ended
pub filled-all : (rest out part : List ℕ) (mid now : Option (List ℕ)) (filled k len n : ℕ) → n ≡ 0 → filled ≤ length out → filled ≤ len → 0 < length part → FilledSoFar rest mid out filled → ((r : List ℕ) → mid ≡ Some r → GivesFront r now n part) → TakesFront rest now len (take filled (put_mid filled k out part))
filled-all rest out part mid now filled k len n zero within room some so_far gives =
    let read = gives (drop filled rest) so_far.after in
    let none : drop filled rest ≡ [] = read.at_end zero some in
    let ended : length rest ≤ len = omega (arith, length-drop filled rest, ap length none) in
    let short : length rest ≤ filled = omega (arith, length-drop filled rest, ap length none) in
    record {
      given = take-append-le filled (take filled out) (part ++ post_of filled k out) (omega (arith, length-take-le filled out within))
          ∙ take_all filled (take filled out) (omega (arith, length-take-le filled out within))
          ∙ so_far.given
          ∙ take_all filled rest short
          ∙ sym (take_all len rest ended);
      after = read.after ∙ ap Some (ap (λ m. drop m (drop filled rest)) zero ∙ none ∙ sym (drop_of_length-le rest ended));
    }

-- ---- a buffer that grows in steps

-- the front of a buffer, and what was read behind it
behind_front : (rest out out' : List ℕ) (filled n k : ℕ) → take filled out' ≡ take filled out → take filled out ≡ take filled rest → take n (drop filled out') ≡ take k (drop filled rest) → take (filled + n) out' ≡ take filled rest ++ take k (drop filled rest)
behind_front rest out out' filled n k front given got =
    take-add filled n out' ∙ ap (λ l. l ++ take n (drop filled out')) (front ∙ given) ∙ ap (λ l. take filled rest ++ l) got

-- what was read is as long as is said, and no longer than what was left
length-read : (rest out' : List ℕ) (filled n k : ℕ) → n ≤ length (drop filled out') → take n (drop filled out') ≡ take k (drop filled rest) → n ≡ min k (length rest - filled)
length-read rest out' filled n k within got =
    omega (arith, sym (length-take-le n (drop filled out') within) ∙ ap length got ∙ length-take k (drop filled rest), length-drop filled rest)

-- one step more, which filled its room
pub filled-on : (rest out out' : List ℕ) (mid now : Option (List ℕ)) (filled n k : ℕ) → take filled out' ≡ take filled out → n ≤ length (drop filled out') → n ≡ k → FilledSoFar rest mid out filled → ((r : List ℕ) → mid ≡ Some r → TakesFront r now k (take n (drop filled out'))) → FilledSoFar rest now out' (filled + n)
filled-on rest out out' mid now filled n k front within whole so_far takes =
    let read = takes (drop filled rest) so_far.after in
    let size = length-read rest out' filled n k within read.given in
    record {
      given = behind_front rest out out' filled n k front so_far.given read.given ∙ ap (λ m. take filled rest ++ take m (drop filled rest)) (sym whole) ∙ sym (take-add filled n rest);
      enough = omega (arith, size, whole, so_far.enough);
      after = read.after ∙ ap Some (drop-drop k filled rest ∙ ap (λ m. drop (filled + m) rest) (sym whole));
    }

-- a step that didn't fill its room: the input has ended
pub filled-end : (rest out out' : List ℕ) (mid now : Option (List ℕ)) (filled n k len : ℕ) → take filled out' ≡ take filled out → n ≤ length (drop filled out') → n < k → filled + k ≤ len → FilledSoFar rest mid out filled → ((r : List ℕ) → mid ≡ Some r → TakesFront r now k (take n (drop filled out'))) → TakesFront rest now len (take (filled + n) out')
filled-end rest out out' mid now filled n k len front within short room so_far takes =
    let read = takes (drop filled rest) so_far.after in
    let size = length-read rest out' filled n k within read.given in
    let few : length rest ≤ filled + k = omega (arith, size, short, so_far.enough) in
    let ended : length rest ≤ len = omega (arith, size, short, so_far.enough, room) in
    let all : length (drop filled rest) ≤ k = omega (arith, size, short, length-drop filled rest) in
    record {
      given = behind_front rest out out' filled n k front so_far.given read.given
          ∙ ap (λ l. take filled rest ++ l) (take_all k (drop filled rest) all)
          ∙ take-append-drop filled rest
          ∙ sym (take_all len rest ended);
      after = read.after ∙ ap Some (drop-drop k filled rest ∙ drop_of_length-le rest few ∙ sym (drop_of_length-le rest ended));
    }

-- a step that was refused, behind what was filled
pub filled-lost : (rest out : List ℕ) (mid now : Option (List ℕ)) (filled k len : ℕ) → filled + k ≤ len → FilledSoFar rest mid out filled → ((r : List ℕ) → mid ≡ Some r → (n : ℕ) × (n < k) × (now ≡ Some (drop n r))) → (n : ℕ) × (n < len) × (now ≡ Some (drop n rest))
filled-lost rest out mid now filled k len room so_far lost =
    let part = lost (drop filled rest) so_far.after in
    (filled + part.0, omega (arith, room, part.1), part.2 ∙ ap Some (drop-drop part.0 filled rest))

-- ---- pieces that were written

-- one write more
pub written-more : (old mid now : Option (List ℕ)) (bytes : List ℕ) (taken n : ℕ) → Adds old mid (take taken bytes) → Adds mid now (take n (take (length bytes - taken) (drop taken bytes))) → Adds old now (take (taken + n) bytes)
written-more old mid now bytes taken n so_far more before told =
    adds-adds old mid now (take taken bytes) _ so_far more before told
    ∙ ap (λ l. Some (before ++ l)) (ap (λ l. take taken bytes ++ take n l) (take_rest bytes taken) ∙ sym (take-add taken n bytes))

-- a write that failed
pub written-part : (old mid now : Option (List ℕ)) (bytes : List ℕ) (taken : ℕ) → taken ≤ length bytes → Adds old mid (take taken bytes) → AddsPart mid now 0 (take (length bytes - taken) (drop taken bytes)) → AddsPart old now taken bytes
written-part old mid now bytes taken within so_far part before told =
    let more = part (before ++ take taken bytes) (so_far before told) in
    let rest : List ℕ = take (length bytes - taken) (drop taken bytes) in (
      taken + more.0,
      omega arith,
      omega (arith, more.2, length-take (length bytes - taken) (drop taken bytes), length-drop taken bytes),
      more.3
          ∙ ap Some (append_assoc before (take taken bytes) (take more.0 rest))
          ∙ ap (λ l. Some (before ++ (take taken bytes ++ take more.0 l))) (take_rest bytes taken)
          ∙ ap (λ l. Some (before ++ l)) (sym (take-add taken more.0 bytes)),
    )
