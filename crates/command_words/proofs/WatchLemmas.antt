-- The names of watchers' files: no two are equal, and none is the output's.
use Rattle.std.proofs.Common.{◌≡◌, ◌≢◌, ◌<◌, ◌≤◌, ◌++◌, ◌+◌, ◌^◌, ℕ, suc, List, [], ◌∷◌, Option, Some, None, sym, ap, ap₂, inl, inr, ◌∙◌, codes, arith}
use Rattle.std.specs.Prelude.{AllPairs, MatchOption, decimal, slice_index_or}
use Rattle.std.specs.Borrow.{Bor}
use Rattle.std.specs.List.{All, range_with_len}
use Rattle.std.proofs.lemmas.Bool.{cases_lt}
use Rattle.std.proofs.lemmas.Fmt.{decimal_injective}
use Rattle.std.proofs.lemmas.List.{append_cancel_left}
use Rattle.std.proofs.lemmas.List.Elements.{All-map}
use Rattle.std.proofs.lemmas.List.FromFn.{get_or-map-range_with_len, length-map-range_with_len, map-range_with_len_more}
use Rattle.command_words.specs.Items.{Word}
use Rattle.command_words.specs.Commands.{NamesDiffer, IsUnwatched}
use Rattle.command_words.specs.Defaults.{watch_name, watch_names}

-- a text with more behind it is another
grows : (out : Word) (x : ℕ) (more : Word) → out ≡ out ++ x ∷ more → ⊥
grows [] x more same = cc
grows (o ∷ out) x more same = grows out x more (cc)

-- two numbers have two names
one_number_of : (out : Word) (j k : ℕ) → j < 2 ^ 64 → k < 2 ^ 64 → watch_name out j ≡ watch_name out k → j ≡ k
one_number_of out j k low high same =
    let behind : codes ".watch" ++ decimal j ≡ codes ".watch" ++ decimal k = append_cancel_left out (codes ".watch" ++ decimal j) (codes ".watch" ++ decimal k) same in
    decimal_injective j k low high (append_cancel_left (codes ".watch") (decimal j) (decimal k) behind)

-- what stands behind a name's front is the same
pub behind_both : (out name rest : Word) (behind : Option (Bor Word)) → name ≡ out ++ rest → MatchOption behind ((more : Word) → rest ≢ codes ".watch" ++ more) (λ more. rest ≡ codes ".watch" ++ more.now)
    → MatchOption behind ((more : Word) → name ≢ out ++ (codes ".watch" ++ more)) (λ more. name ≡ out ++ (codes ".watch" ++ more.now))
behind_both out name rest None is none = λ more same. none more (append_cancel_left out rest (codes ".watch" ++ more) (sym is ∙ same))
behind_both out name rest (Some more) is found = is ∙ ap (λ (w : Word). out ++ w) found

-- a name that isn't the next watcher's file either
pub next_unwatched : (out name text : Word) (n : ℕ) → name ≡ out ++ (codes ".watch" ++ text) → (text ≡ decimal (n + 1) → ⊥) → IsUnwatched out n name → IsUnwatched out (n + 1) name
next_unwatched out name text n is other before j low high same = elim (cases_lt n j) [
  | inl above ↦
      let last : j ≡ n + 1 = omega (arith, above, high) in
      let named : name ≡ watch_name out (n + 1) = same ∙ ap (watch_name out) last in
      other (append_cancel_left (codes ".watch") text (decimal (n + 1)) (append_cancel_left out (codes ".watch" ++ text) (codes ".watch" ++ decimal (n + 1)) (sym is ∙ named)))
  | inr below ↦ before j low below same
]

-- the names of one number more
pub one_more : (out : Word) (names after : List Word) (n : ℕ) (name : Word) → names ≡ watch_names out n → name ≡ watch_name out (n + 1) → after ≡ names ++ name ∷ [] → after ≡ watch_names out (n + 1)
one_more out names after n name so_far is pushed =
    pushed ∙ ap₂ (λ (l : List Word) (w : Word). l ++ w ∷ []) so_far is ∙ sym (map-range_with_len_more (watch_name out) 1 n (n + 1) (omega arith))

pub names_apart : (out : Word) (many : ℕ) → many ≤ 16 → NamesDiffer out (watch_names out many)
names_apart out many few = (others, pairs)
  where
    others : All (λ name. out ≢ name) (watch_names out many)
    others = All-map (λ name. out ≢ name) (watch_name out) (range_with_len 1 many) (λ i d less. grows out 46 (codes "watch" ++ decimal (slice_index_or (range_with_len 1 many) i d)))

    pairs : AllPairs (λ a b. a ≢ b) (watch_names out many)
    pairs i j d before less same =
        let below : j < many = omega (arith, less, length-map-range_with_len (watch_name out) 1 many) in
        let first = get_or-map-range_with_len (watch_name out) 1 many i (suc i) d (omega (arith, before, below)) (omega arith) in
        let second = get_or-map-range_with_len (watch_name out) 1 many j (suc j) d below (omega arith) in
        let equal : suc i ≡ suc j = one_number_of out (suc i) (suc j) (omega (arith, before, below, few)) (omega (arith, below, few)) (sym first ∙ same ∙ second) in
        omega (arith, before, equal)
