-- Bytes that are read into room behind others.
use Rattle.std.proofs.Common.{◌≡◌, ℕ, ◌-◌, ◌≤◌, List, [], ◌++◌, length, take, drop, Option, Some, refl, ap, ◌∙◌, arith, length-append, length-drop}
use Rattle.std.proofs.Math.ListN.{drop_of_length-le}
use Rattle.std.proofs.lemmas.List.{append-nil, take_at, take_all}
use borrow.Rule.Slice.PartMut.{put_mid, post_of}
use Rattle.time_player.specs.Reading.{IsAdded}

-- the room was filled whole, with bytes that stand there
pub room_filled : (told : Option (List ℕ)) (at len from k size to : ℕ) (old room items mid out : List ℕ) → mid ≡ items → items ≡ take to old ++ room → length old ≤ to → from ≡ length old → size ≡ length items → k ≡ length mid - from → length out ≡ k → k ≡ len
    → ((file : List ℕ) → told ≡ Some file → out ≡ take (length out) (drop at file)) → IsAdded told at len old (take size (put_mid from k mid out ++ drop (length (put_mid from k mid out)) items))
room_filled told at len from k size to old room items mid out mid_is resized grows from_is size_is k_is long whole gives =
    let items_is : items ≡ old ++ room = resized ∙ ap (λ (l : List ℕ). l ++ room) (take_all to old grows) in
    let all : List ℕ = put_mid from k mid out in
    let front : take from mid ≡ old = ap (take from) (mid_is ∙ items_is) ∙ ap (λ (n : ℕ). take n (old ++ room)) from_is ∙ take_at old room (length old) refl in
    let none : post_of from k mid ≡ [] = drop_of_length-le (drop from mid) (omega (arith, length-drop from mid, k_is)) in
    let joined : all ≡ old ++ out = ap (λ (l : List ℕ). l ++ (out ++ post_of from k mid)) front ∙ ap (λ (l : List ℕ). old ++ (out ++ l)) none ∙ ap (λ (l : List ℕ). old ++ l) (append-nil out) in
    let many : length all ≡ size = omega (arith, ap length joined, length-append old out, long, k_is, ap length mid_is, size_is, from_is, ap length items_is, length-append old room) in
    record {
      part = out;
      added = take_at all (drop (length all) items) size many ∙ joined;
      size = long ∙ whole;
      told_is = λ file told. gives file told ∙ ap (λ (n : ℕ). take n (drop at file)) (long ∙ whole);
    }
