-- What openings and keepings do to the counts of a world.
use Rattle.std.proofs.Common.{◌≡◌, ◌⊎◌, ℕ, zero, suc, ◌-◌, ◌^◌, ◌<◌, ◌≤◌, not, Bool, true, false, if◌then◌else◌, Result, Ok, Err, refl, ap, inl, inr, arith}
use Rattle.std.proofs.lemmas.Bool.{ne_eqb}
use Rattle.mcap_io.specs.Outside.{Rose, added}
use Rattle.mcap_io.specs.OutsideCalls.{HasCause, went_well}
use Rattle.mcap_io.specs.declared.outside.Failed.{Failed}
use Rattle.command_base.specs.Ran.{failed_so}

-- nothing is added where nothing failed
pub added_none : (total now : ℕ) → total < 2 ^ 64 → now ≡ total → now ≡ added total 0
added_none total now fits same = omega (arith, same)

-- a keeping adds its own failure
pub kept_adds : (before now : ℕ) (result : Result Unit Failed) → before < 2 ^ 64 → HasCause before now result → now ≡ added before (if went_well result then 0 else 1)
kept_adds before now (Ok it) fits cause = added_none before now fits cause.still
kept_adds before now (Err why) fits cause = cause.failed.once

-- a fault of an object that is kept shows in the count of the kept ones
added_some : (total now faults : ℕ) → total < 2 ^ 64 → now ≡ added total faults → (faults ≡ 0 → ⊥) → Rose total now
added_some total now faults fits is some = omega (arith, kind faults some)
  where
    kind : (n : ℕ) → (n ≡ 0 → ⊥) → 1 ≤ n
    kind zero some = absurd (some refl)
    kind (suc n) some = omega arith

-- a count that goes on and rose had something added
added_more : (before now faults : ℕ) → before < 2 ^ 64 - 1 → now ≡ added before faults → Rose before now → faults ≡ 0 → ⊥
added_more before now faults on is rose none = omega (arith, on, is, rose, none)

-- an object that failed is blamed
pub failed_often : (well : Bool) (faults : ℕ) → (faults ≡ 0 → ⊥) → failed_so well faults ≡ true
failed_often false faults some = refl
failed_often true faults some = ap not (ne_eqb faults 0 some)

-- an object whose faults raised the count has failed
pub kept_shows : (total now faults : ℕ) (well : Bool) → total < 2 ^ 64 - 1 → now ≡ added total faults → Rose total now → failed_so well faults ≡ true
kept_shows total now faults well on is rose = failed_often well faults (added_more total now faults on is rose)

-- a count that stood still didn't rise
pub not_risen : (A : Type 0) (before now : ℕ) → before < 2 ^ 64 - 1 → now ≡ before → Rose before now → A
not_risen A before now on same rose = absurd (omega (arith, on, same, rose))

-- a keeping that raised the count failed
pub keeping_shows : (before now faults : ℕ) (result : Result Unit Failed) → before < 2 ^ 64 - 1 → HasCause before now result → Rose before now → failed_so (went_well result) faults ≡ true
keeping_shows before now faults (Ok it) on cause rose = not_risen _ before now on cause.still rose
keeping_shows before now faults (Err why) on cause rose = refl

-- of two keepings one did
pub keepings_show : (before middle now faults others : ℕ) (result other : Result Unit Failed) → before < 2 ^ 64 - 1 → HasCause before middle result → HasCause middle now other → Rose before now
    → (failed_so (went_well result) faults ≡ true) ⊎ (failed_so (went_well other) others ≡ true)
keepings_show before middle now faults others (Ok it) other on first second rose =
    inr (keeping_shows middle now others other (omega (arith, on, first.still)) second (omega (arith, first.still, rose)))
keepings_show before middle now faults others (Err why) other on first second rose = inl refl

-- a failure has one of two reasons
failed_why : (well : Bool) (faults : ℕ) → failed_so well faults ≡ true → (well ≡ false) ⊎ (faults ≡ 0 → ⊥)
failed_why false faults is = inl refl
failed_why true zero is = absurd cc
failed_why true (suc n) is = inr (λ zero_is. omega (arith, zero_is))

-- a keeping without a failure went well
pub kept_well : (well : Bool) (faults : ℕ) → failed_so well faults ≡ false → well ≡ true
kept_well true faults is = refl
kept_well false faults is = absurd cc

pub still_where : (before now : ℕ) (result : Result Unit Failed) → HasCause before now result → went_well result ≡ true → now ≡ before
still_where before now (Ok it) cause well = cause.still
still_where before now (Err why) cause well = absurd cc

rose_where : (before now : ℕ) (result : Result Unit Failed) → HasCause before now result → went_well result ≡ false → Rose before now
rose_where before now (Ok it) cause ill = absurd cc
rose_where before now (Err why) cause ill = omega (arith, cause.failed.once)

-- a failure since a later moment is one since an earlier one
rose_since : (before middle now later : ℕ) → before ≤ middle → Rose middle now → now ≤ later → Rose before later
rose_since before middle now later first rose last = omega (arith, first, rose, last)

-- why a name is blamed: its keeping failed, or its object did
pub blamed : (before middle now later total total_now faults : ℕ) (result : Result Unit Failed) → before ≤ middle → HasCause middle now result → now ≤ later → total < 2 ^ 64 → total_now ≡ added total faults
    → failed_so (went_well result) faults ≡ true → Rose before later ⊎ Rose total total_now
blamed before middle now later total total_now faults result first cause last fits is failed = elim (failed_why (went_well result) faults failed) [
  | inl ill ↦ inl (rose_since before middle now later first (rose_where middle now result cause ill) last)
  | inr some ↦ inr (added_some total total_now faults fits is some)
]
