-- Lines that are printed in pieces.
use Rattle.std.proofs.Common.{◌≡◌, ℕ, ◌+◌, ◌-◌, ◌^◌, ◌<◌, ◌≤◌, min, List, [], ◌∷◌, ◌++◌, length, take, drop, zero, suc, Option, Some, Ok, Err, refl, sym, ap, subst, inl, inr, ◌∙◌, append_assoc, length-append, arith}
use Rattle.std.proofs.Math.ListN.{drop_of_length-le}
use Rattle.std.proofs.lemmas.List.{append-nil, take-append-le}
use Rattle.std.proofs.lemmas.Bool.{cases_lt}
use Rattle.std.proofs.lemmas.Option.{same_Some}
use Rattle.mcap_crc.specs.Checksums.{IsChecksumOf}
use Rattle.mcap_io.specs.declared.outside.Short.{Short}
use Rattle.mcap_io.specs.Outside.{SinkState, RisesOnce, Adds}
use Rattle.mcap_io.specs.OutsideCalls.{WritesAll}
use Rattle.mcap_io.proofs.Calls.{adds-adds, adds-part}
use Rattle.mcap_model.specs.declared.replay.Shown.{Shown}
use Rattle.mcap_model.specs.declared.table.Declared.{Declared}
use Rattle.mcap_model.specs.Places.{At}
use Rattle.mcap_model.proofs.Places.{at_none}
use Rattle.time_player.specs.Lines.{spelling, line_of, line_room, lines_of, HasLineRoom}
use Rattle.time_player.specs.Printing.{CountsAllBut}

-- ---- the longest line

pub longest_more : (shown : List Shown) (table : List Declared) (i longest room more : ℕ) (s : Shown) (text : List ℕ) → At shown i s → text ≡ spelling table s.channel → room ≡ line_room s text → room ≤ more → longest ≤ more
    → ((n : ℕ) (t : Shown) → n < i → At shown n t → line_room t (spelling table t.channel) ≤ longest)
    → (n : ℕ) (t : Shown) → n < i + 1 → At shown n t → line_room t (spelling table t.channel) ≤ more
longest_more shown table i longest room more s text at is room_is room_below below so_far n t within there = elim (cases_lt n i) [
  | inl less ↦ let old = so_far n t less there in omega (arith, old, below)
  | inr last ↦
      let n_is : n ≡ i = omega (arith, last, within) in
      let same : s ≡ t = same_Some s t (sym at ∙ subst (λ (k : ℕ). At shown k t) n_is there) in
      subst (λ (u : Shown). line_room u (spelling table u.channel) ≤ more) same
      (subst (λ (l : List ℕ). line_room s l ≤ more) is (omega (arith, room_is, room_below)))
]

-- ---- the rest of a list

drop_at : {X : Type 0} (xs : List X) (i : ℕ) (x : X) → At xs i x → drop i xs ≡ x ∷ drop (suc i) xs
drop_at [] i x at = absurd (at_none i x at)
drop_at {X} (y ∷ ys) zero x at = ap (λ (z : X). z ∷ ys) (same_Some y x at)
drop_at (y ∷ ys) (suc i) x at = drop_at ys i x at

drop_next : {X : Type 0} (xs : List X) (i : ℕ) (x : X) → At xs i x → drop i xs ≡ x ∷ drop (i + 1) xs
drop_next {X} xs i x at =
    let next : suc i ≡ i + 1 = omega arith in
    subst (λ (k : ℕ). drop i xs ≡ x ∷ drop k xs) next (drop_at xs i x at)

pub none_left : (table : List Declared) (shown : List Shown) (i : ℕ) → length shown ≤ i → lines_of table (drop i shown) ≡ []
none_left table shown i past = ap (lines_of table) (drop_of_length-le shown past)

pub room_on : (table : List Declared) (shown : List Shown) (i : ℕ) (m : Shown) (text : List ℕ) (len room : ℕ) → HasLineRoom shown table room → At shown i m → text ≡ spelling table m.channel → len < 65536 → len + line_room m text ≤ room
room_on table shown i m text len room ready at is short =
    let one = ready.fits i m at in
    let same : length text ≡ length (spelling table m.channel) = ap length is in
    omega (arith, one, same, short)

pub ready_on : (table : List Declared) (shown : List Shown) (room more : ℕ) → HasLineRoom shown table room → room ≤ more → HasLineRoom shown table more
ready_on table shown room more ready grows = record {
  apart = ready.apart;
  fits = λ n s at. let one = ready.fits n s at in omega (arith, one, grows);
}

-- ---- what was written

-- a first part of the text was written, with so many bytes counted; a piece is gathered behind it, and the rest is left
pub record Printing (before now : SinkState) (text piece left : List ℕ) (taken : ℕ) : Type 0 where
  pub done : List ℕ
  pub still : now.faults ≡ before.faults
  pub adds : Adds before.took now.took done
  pub whole : done ++ (piece ++ left) ≡ text
  pub count : taken ≤ length done
  pub all_counted : taken < 2 ^ 64 - 1 → length done ≤ taken
  pub silent : text ≡ [] → now ≡ before

pub begins : (s : SinkState) (text piece : List ℕ) → piece ≡ [] → Printing s s text piece text 0
begins s text piece none = record {
  done = [];
  still = refl;
  adds = λ before told. told ∙ ap (λ (l : List ℕ). Some l) (sym (append-nil before));
  whole = ap (λ (l : List ℕ). l ++ text) none;
  count = omega arith;
  all_counted = λ small. omega arith;
  silent = λ is. refl;
}

pub line_on : (a b : SinkState) (text piece left more line rest : List ℕ) (taken : ℕ) → Printing a b text piece left taken → left ≡ line ++ rest → more ≡ piece ++ line → Printing a b text more rest taken
line_on a b text piece left more line rest taken p is gathered = record {
  done = p.done;
  still = p.still;
  adds = p.adds;
  whole =
      ap (λ (l : List ℕ). p.done ++ l) (ap (λ (l : List ℕ). l ++ rest) gathered ∙ append_assoc piece line rest ∙ ap (λ (l : List ℕ). piece ++ l) (sym is))
      ∙ p.whole;
  count = p.count;
  all_counted = p.all_counted;
  silent = p.silent;
}

some_written : (done piece left text : List ℕ) → done ++ (piece ++ left) ≡ text → 0 < length piece → text ≡ [] → 0 < 0
some_written done piece left text whole some none =
    let lengths : length (done ++ (piece ++ left)) ≡ length text = ap length whole in
    let zero_is : length text ≡ 0 = ap length none in
    omega (arith, lengths, zero_is, length-append done (piece ++ left), length-append piece left, some)

-- a text of which there is a piece is not empty
pub not_silent : (a b : SinkState) (text piece left : List ℕ) (taken : ℕ) → Printing a b text piece left taken → 0 < length piece → text ≡ [] → ⊥
not_silent a b text piece left taken p some none = absurd (omega (arith, some_written p.done piece left text p.whole some none))

pub piece_on : (a b c : SinkState) (text piece left fresh : List ℕ) (taken more : ℕ) → Printing a b text piece left taken → WritesAll b c piece (Ok tt) → 0 < length piece → fresh ≡ [] → more ≡ min (taken + length piece) (2 ^ 64 - 1) → Printing a c text fresh left more
piece_on a b c text piece left fresh taken more p wrote some none sum = record {
  done = p.done ++ piece;
  still = wrote.0 ∙ p.still;
  adds = adds-adds a.took b.took c.took p.done piece p.adds wrote.1;
  whole = ap (λ (l : List ℕ). (p.done ++ piece) ++ (l ++ left)) none ∙ append_assoc p.done piece left ∙ p.whole;
  count = let both = length-append p.done piece in omega (arith, both, sum, p.count);
  all_counted = λ small.
      let old = p.all_counted (omega (arith, small, sum)) in
      omega (arith, length-append p.done piece, sum, small, old);
  silent = λ is. absurd (omega (arith, some_written p.done piece left text p.whole some is));
}

-- all was written
pub printed : (a b c : SinkState) (text piece left : List ℕ) (taken : ℕ) → Printing a b text piece left taken → WritesAll b c piece (Ok tt) → left ≡ [] → WritesAll a c text (Ok tt)
printed a b c text piece left taken p wrote none =
    let is : p.done ++ piece ≡ text = ap (λ (l : List ℕ). p.done ++ l) (sym (append-nil piece) ∙ ap (λ (l : List ℕ). piece ++ l) (sym none)) ∙ p.whole in
    (wrote.0 ∙ p.still, subst (λ (l : List ℕ). Adds a.took c.took l) is (adds-adds a.took b.took c.took p.done piece p.adds wrote.1))

-- or a first part of it
pub printed_part : (a b c : SinkState) (text piece left : List ℕ) (taken all : ℕ) (short : Short) → Printing a b text piece left taken → WritesAll b c piece (Err short) → all ≤ taken + short.taken → WritesAll a c text (Err (record { taken = all }))
printed_part a b c text piece left taken all short p wrote below =
    let lengths : length (p.done ++ (piece ++ left)) ≡ length text = ap length p.whole in
    let parts = length-append p.done (piece ++ left) in
    let ends = length-append piece left in (
      subst (λ (n : ℕ). RisesOnce n c.faults) p.still wrote.0,
      omega (arith, below, p.count, wrote.1, lengths, parts, ends),
      λ before told.
          let q = adds-part a.took b.took c.took p.done piece short.taken p.adds wrote.2 before told in
          let longer = length-append p.done piece in
          let whole : (p.done ++ piece) ++ left ≡ text = append_assoc p.done piece left ∙ p.whole in (
            q.0,
            omega (arith, q.1, below, p.count),
            omega (arith, q.2, longer, lengths, parts, ends),
            q.3 ∙ ap (λ (l : List ℕ). Some (before ++ l)) (sym (take-append-le q.0 (p.done ++ piece) left q.2) ∙ ap (take q.0) whole),
          ),
    )

-- of which all but some bytes of the last piece are counted
pub printed_counted : (a b : SinkState) (took : Option (List ℕ)) (text piece left : List ℕ) (taken all most : ℕ) (short : Short) → Printing a b text piece left taken → CountsAllBut most b.took took (Err short) → all ≡ min (taken + short.taken) (2 ^ 64 - 1)
    → CountsAllBut most a.took took (Err (record { taken = all }))
printed_counted a b took text piece left taken all most short p counts sum before told =
    let (now, is, size) = counts (before ++ p.done) (p.adds before told) in (
      now,
      is,
      λ small.
          let done = p.all_counted (omega (arith, small, sum)) in
          let more = size (omega (arith, small, sum)) in
          omega (arith, small, sum, done, more, length-append before p.done),
    )

-- ---- a message more

pub message_on : (a b : SinkState) (text piece more spelled : List ℕ) (table : List Declared) (shown : List Shown) (i : ℕ) (m : Shown) (taken : ℕ) → Printing a b text piece (lines_of table (drop i shown)) taken → At shown i m
    → spelled ≡ spelling table m.channel → more ≡ piece ++ line_of m spelled → Printing a b text more (lines_of table (drop (i + 1) shown)) taken
message_on a b text piece more spelled table shown i m taken p at first gathered =
    line_on a b text piece (lines_of table (drop i shown)) more (line_of m spelled) (lines_of table (drop (i + 1) shown)) taken p
    (ap (lines_of table) (drop_next shown i m at) ∙ ap (λ (l : List ℕ). line_of m l ++ lines_of table (drop (i + 1) shown)) (sym first)) gathered

-- an equal piece
pub same_piece : (a b : SinkState) (text piece given left : List ℕ) (taken : ℕ) → Printing a b text piece left taken → given ≡ piece → Printing a b text given left taken
same_piece a b text piece given left taken p is = subst (λ (l : List ℕ). Printing a b text l left taken) (sym is) p

-- ---- what was summed

-- a checksum is that of the lines of the first messages
pub record Summed (table : List Declared) (shown : List Shown) (i : ℕ) (crc : ℕ) : Type 0 where
  pub done : List ℕ
  pub sum : IsChecksumOf crc done
  pub whole : done ++ lines_of table (drop i shown) ≡ lines_of table shown

pub summed_on : (table : List Declared) (shown : List Shown) (i old new : ℕ) (m : Shown) (spelled piece fresh line : List ℕ) → Summed table shown i old → At shown i m → spelled ≡ spelling table m.channel
    → fresh ≡ [] → piece ≡ fresh ++ line_of m spelled → line ≡ piece → ((before : List ℕ) → IsChecksumOf old before → IsChecksumOf new (before ++ line)) → Summed table shown (i + 1) new
summed_on table shown i old new m spelled piece fresh line s at first none is same update =
    let line_is : line ≡ line_of m (spelling table m.channel) = same ∙ is ∙ ap (λ (l : List ℕ). l ++ line_of m spelled) none ∙ ap (line_of m) first in
    record {
      done = s.done ++ line;
      sum = update s.done s.sum;
      whole =
          append_assoc s.done line (lines_of table (drop (i + 1) shown))
          ∙ ap (λ (l : List ℕ). s.done ++ (l ++ lines_of table (drop (i + 1) shown))) line_is
          ∙ ap (λ (l : List ℕ). s.done ++ l) (sym (ap (lines_of table) (drop_next shown i m at)))
          ∙ s.whole;
    }

-- at the end it is that of all
pub summed_all : (table : List Declared) (shown : List Shown) (i crc : ℕ) → Summed table shown i crc → length shown ≤ i → IsChecksumOf crc (lines_of table shown)
summed_all table shown i crc s past =
    subst (IsChecksumOf crc) (sym (append-nil s.done) ∙ ap (λ (l : List ℕ). s.done ++ l) (sym (none_left table shown i past)) ∙ s.whole) s.sum
