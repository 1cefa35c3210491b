-- Reading the front of a store in pieces.
use Rattle.std.proofs.Common.{◌≡◌, refl, ℕ, ◌+◌, ◌-◌, ◌≤◌, List, ◌++◌, length, take, drop, Option, Some, None, Result, ap, sym, ◌∙◌, arith, length-take, length-drop}
use Rattle.std.proofs.lemmas.List.{take-append-le, drop-drop, drop-take, take-take}
use Rattle.mcap_io.specs.OutsideCalls.{GivesFront}
use Rattle.mcap_io.specs.Stores.{StoreState}
use Rattle.mcap_io.specs.StoreAnswers.{ReadsPart}
use Rattle.mcap_io.specs.declared.outside.Failed.{Failed}
use Rattle.mcap_io.specs.StoreSources.{front_left, StaysStore}

-- a first part of what is left of the front
pub front_part : (bytes : List ℕ) (next len n : ℕ) → next + n ≤ len → take n (drop next (take len bytes)) ≡ take n (drop next bytes)
front_part bytes next len n within =
    let split : next + (len - next) ≡ len = omega (arith, within) in
    let front : drop next (take len bytes) ≡ take (len - next) (drop next bytes) = ap (λ m. drop next (take m bytes)) (sym split) ∙ drop-take next (len - next) bytes in
    ap (take n) front ∙ take-take n (len - next) (drop next bytes) (omega (arith, within))

-- so many bytes of a store, some, are the front of what was left of it
pub part_gives : (told told' : Option (List ℕ)) (next len n : ℕ) (part behind rest : List ℕ) → told' ≡ told → ((bytes : List ℕ) → told ≡ Some bytes → len ≤ length bytes)
    → next + n ≤ len → (n ≡ 0 → ⊥) → length part ≡ n → ((bytes : List ℕ) → told ≡ Some bytes → part ≡ take (length part) (drop next bytes))
    → front_left told next len ≡ Some rest → GivesFront rest (front_left told' (next + n) len) n (part ++ behind)
part_gives None told' next len n part behind rest same inside within some size gives left = absurd (cc)
part_gives (Some bytes) told' next len n part behind rest same inside within some size gives left =
    let is : drop next (take len bytes) ≡ rest = cc in
    let there : part ≡ take (length part) (drop next bytes) = gives bytes (refl) in
    record {
      given = take-append-le n part behind (omega (arith, size))
          ∙ ap (take n) there
          ∙ ap (λ m. take n (take m (drop next bytes))) size
          ∙ take-take n n (drop next bytes) (omega arith)
          ∙ sym (front_part bytes next len n within)
          ∙ ap (take n) is;
      enough = omega (arith, sym (ap length is), length-drop next (take len bytes), length-take len bytes, inside bytes (refl), within);
      after = ap (λ t. front_left t (next + n) len) same ∙ ap Some (sym (drop-drop n next (take len bytes)) ∙ ap (drop n) is);
      at_end = λ none room. absurd (some none);
    }

-- a store that was read is the same
pub store_read : (old new : StoreState) (at : ℕ) (out : List ℕ) (result : Result Unit Failed) → ReadsPart old new at out result → StaysStore old new
store_read old new at out result reads = record {
  bytes = reads.bytes;
  known = reads.known;
  faults = reads.cause.later;
}
