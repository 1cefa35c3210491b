-- The table of counts.
use Rattle.std.proofs.Common.{◌≡◌, ℕ, ◌<◌, ◌==◌, Bool, true, false, cond, List, [], ◌∷◌, length, get_or, drop, set, refl, sym, subst, arith}
use Rattle.std.proofs.lemmas.Bool.Decides.{Decides-eqb}
use Rattle.mcap_model.specs.Places.{At}
use Rattle.mcap_model.proofs.Places.{at_read, at_within, at_set_same, at_set_other}
use Rattle.command_read.specs.Counts.{count_under}

-- the counts so far stand in the table
abbrev pub HoldsCounts : List (ℕ × ℕ) → List ℕ → Type 0
HoldsCounts counts table = (id : ℕ) → id < 65536 → At table id (count_under counts id)

-- one count more in front
pub counts_more : (counts : List (ℕ × ℕ)) (table : List ℕ) (c : ℕ × ℕ) → HoldsCounts counts table → HoldsCounts (c ∷ counts) (set table c.0 c.1)
counts_more counts table c was id less = by (c.0 == id) refl
  where
    by : (b : Bool) → (c.0 == id) ≡ b → At (set table c.0 c.1) id (cond b c.1 (count_under counts id))
    by true is =
        let same : c.0 ≡ id = (Decides-eqb c.0 id).0 is in
        subst (λ (n : ℕ). At (set table c.0 c.1) n c.1) same (at_set_same table c.0 c.1 (subst (λ (n : ℕ). n < length table) (sym same) (at_within table id (count_under counts id) (was id less))))
    by false is = at_set_other table c.0 id (count_under counts id) c.1 (λ e. cc ((Decides-eqb c.0 id).1 (sym e), is)) (was id less)

-- no count yet
pub none_counted : (counts : List (ℕ × ℕ)) (table : List ℕ) → length table ≡ 65536 → ((id : ℕ) → id < 65536 → get_or table id 0 ≡ 0) → HoldsCounts (drop (length counts) counts) table
none_counted counts table size each id less =
    subst (λ (l : List (ℕ × ℕ)). At table id (count_under l id)) (sym (drop_all counts))
    (subst (At table id) (each id less) (at_read table id 0 (omega (arith, less, size))))
  where
    drop_all : (l : List (ℕ × ℕ)) → drop (length l) l ≡ []
    drop_all [] = refl
    drop_all (c ∷ cs) = drop_all cs
