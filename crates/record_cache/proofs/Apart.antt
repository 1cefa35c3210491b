-- Framed records, each by itself.
use Rattle.std.proofs.Common.{◌≡◌, ℕ, zero, suc, ◌<◌, List, [], ◌∷◌, ◌++◌, length, map, get_or, refl, ap, arith}
use Rattle.std.specs.Prelude.{All}
use Rattle.std.specs.List.{concat}
use Rattle.mcap_wire.proofs.Framing.{length-framed}
use Rattle.rec_data.specs.declared.owned.Rec.{Rec}
use Rattle.rec_data.specs.Owned.{rec_bytes, rec_opcode, rec_text}
use Rattle.mcap_model.specs.History.{history_bytes}

-- one behind the other they are the bytes of all
pub framed_bytes : (records : List Rec) → concat (map rec_bytes records) ≡ history_bytes records
framed_bytes [] = refl
framed_bytes (r ∷ rs) = ap (λ (l : List ℕ). rec_bytes r ++ l) (framed_bytes rs)

-- none is empty
some_at : (records : List Rec) (k : ℕ) (d : List ℕ) → k < length (map rec_bytes records) → 0 < length (get_or (map rec_bytes records) k d)
some_at [] k d less = absurd (omega (arith, less))
some_at (r ∷ rs) zero d less = omega (arith, length-framed (rec_opcode r) (rec_text r))
some_at (r ∷ rs) (suc k) d less = some_at rs k d (omega (arith, less))

pub framed_some : (records : List Rec) → All (λ (p : List ℕ). 0 < length p) (map rec_bytes records)
framed_some records = λ k d less. some_at records k d less
