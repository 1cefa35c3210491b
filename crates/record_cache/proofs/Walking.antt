-- A walk over the records of a buffer, from 0 on.
use Rattle.std.proofs.Common.{◌≡◌, ◌⊎◌, ℕ, suc, ◌<◌, ◌≤◌, List, length, take, refl, ap, inl, inr, arith}
use Rattle.std.proofs.lemmas.List.{take_all}
use Rattle.mcap_wire.proofs.Framing.{length-framed}
use Rattle.rec_data.specs.declared.owned.Rec.{Rec}
use Rattle.rec_data.specs.Owned.{rec_opcode, rec_text}
use Rattle.mcap_model.specs.History.{history_bytes}
use Rattle.record_cache.specs.Offers.{StartsAt, RecordAt}
use Rattle.record_cache.proofs.Kept.{there}

-- so many records stand before that offset
abbrev pub IsBehind : List Rec → ℕ → Type 0
IsBehind records at = (n : ℕ) × (n ≤ length records) × (at ≡ length (history_bytes (take n records)))

pub behind_none : (records : List Rec) → IsBehind records 0
behind_none records = (0, omega arith, refl)

-- a record begins where bytes are left
pub starts_there : (records : List Rec) (at : ℕ) → IsBehind records at → at < length (history_bytes records) → StartsAt records at
starts_there records at (n, within, same) less = elim (below_or_all n (length records)) [
  | inl below ↦ (n, below, same)
  | inr all ↦
      let whole : length (history_bytes (take n records)) ≡ length (history_bytes records) = ap (λ (l : List Rec). length (history_bytes l)) (take_all n records all) in
      absurd (omega (arith, whole, same, less))
]
  where
    below_or_all : (n m : ℕ) → (n < m) ⊎ (m ≤ n)
    below_or_all n m = grind arith

-- the next one begins further on
pub next_there : (records : List Rec) (at next : ℕ) (framed : List ℕ) → StartsAt records at → RecordAt records at framed next → IsBehind records next × (at < next)
next_there records at next framed (n, below, same) is =
    let stands = is n below same in
    let found = there records n below in
    ((suc n, omega (arith, below), stands.behind), omega (arith, stands.behind, found.behind, same, length-framed (rec_opcode found.rec) (rec_text found.rec)))
