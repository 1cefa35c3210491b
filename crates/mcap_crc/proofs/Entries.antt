-- Each entry of the tables is what its place asks for, as the checker computes.
use Rattle.std.proofs.Common.{◌≡◌, ℕ, ◌+◌, ◌*◌, ◌<◌, Bool, true, ◌==◌, get_or, [], refl, eqb-true}
use Rattle.mcap_crc.specs.Register.{shifted, shifted_by}
use Rattle.mcap_crc.proofs.Below.{all_below, each_below}
use Rattle.mcap_crc.specs.declared.tables.TheConstants.{TABLES}

entry_ok : ℕ → ℕ → Bool
entry_ok k i = get_or (get_or TABLES k []) i 0 == shifted_by (8 * k + 8) i

all_ok : all_below (λ k. all_below (entry_ok k) 256) 16 ≡ true
unfolding all_below entry_ok shifted shifted_by
all_ok = refl

-- table k has at each byte the register after that byte and k zero bytes
pub entry_is : (k i : ℕ) → k < 16 → i < 256 → get_or (get_or TABLES k []) i 0 ≡ shifted_by (8 * k + 8) i
unfolding entry_ok
entry_is k i hk hi =
    let row : all_below (entry_ok k) 256 ≡ true = each_below (λ k. all_below (entry_ok k) 256) 16 k all_ok hk in
    let at : entry_ok k i ≡ true = each_below (entry_ok k) 256 i row hi in
    eqb-true _ _ at
