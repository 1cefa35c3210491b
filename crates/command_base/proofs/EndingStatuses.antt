-- Which status the troubles of a command ask for that reads some files and writes one.
use Rattle.std.proofs.Common.{◌≡◌, ◌⊎◌, ℕ, zero, suc, ◌≤◌, Bool, true, false, cond, ◌||◌, List, [], ◌∷◌, ◌++◌, length, drop, Some, None, refl, sym, ap, subst, inl, inr, ◌∙◌, unwrap_or, arith}
use Rattle.std.proofs.lemmas.List.Folds.{list_any-append}
use Rattle.mcap_model.specs.Places.{Each}
use Rattle.command_base.specs.declared.statuses.Status.{Status}
use Rattle.command_base.specs.declared.statuses.Status.TheVariants as statuses
use Rattle.command_base.specs.Texts.{Trouble, fault, output_fault, output_limit, no_memory, is_status, asked_status, status_is_asked, status_of}
use Rattle.command_base.specs.OneFileSteps.{IsHalt}
use Rattle.command_base.specs.Ran.{when, first_failed, told_of}
use Rattle.command_base.specs.Endings.{all_halts}
use Rattle.command_base.specs.Outputs.{some_failed}

asks-append : (s : Status) (xs ys : List Trouble) → status_is_asked (xs ++ ys) s ≡ (status_is_asked xs s || status_is_asked ys s)
asks-append s xs ys = list_any-append (λ (t : Trouble). is_status s (asked_status t)) xs ys

-- ---- what the inputs ask for

-- by their faults
abbrev faults_ask : Status → List (List ℕ) → List Bool → Bool
faults_ask s [] flags = false
faults_ask s (name ∷ names) flags = status_is_asked (when (first_failed flags) (fault name)) s || faults_ask s names (drop 1 flags)

or_none : (a : Bool) → (a || false) ≡ a
or_none true = refl
or_none false = refl

grouped : (a b c : Bool) → ((a || b) || c) ≡ (a || (b || c))
grouped true b c = refl
grouped false b c = refl

shuffled : (a b c d e : Bool) → (a || (b || (c || (d || e)))) ≡ ((a || c) || ((b || d) || e))
shuffled true b c d e = refl
shuffled false true true d e = refl
shuffled false true false d e = refl
shuffled false false true d e = refl
shuffled false false false d e = refl

asked_told : (s : Status) (names : List (List ℕ)) (halts : List (List Trouble)) (flags : List Bool) (behind : List Trouble) → length halts ≤ length names
    → status_is_asked (told_of names halts flags behind) s ≡ (status_is_asked (all_halts halts) s || (faults_ask s names flags || status_is_asked behind s))
asked_told s [] [] flags behind few = refl
asked_told s [] (h ∷ halts) flags behind few = absurd (omega (arith, few))
asked_told s (name ∷ names) [] flags behind few =
    let first = when (first_failed flags) (fault name) in
    asks-append s first (told_of names [] (drop 1 flags) behind)
    ∙ ap (λ (b : Bool). status_is_asked first s || b) (asked_told s names [] (drop 1 flags) behind (omega arith))
    ∙ sym (grouped (status_is_asked first s) (faults_ask s names (drop 1 flags)) (status_is_asked behind s))
asked_told s (name ∷ names) (h ∷ halts) flags behind few =
    let first = when (first_failed flags) (fault name) in
    let rest = told_of names halts (drop 1 flags) behind in
    asks-append s h (first ++ rest)
    ∙ ap (λ (b : Bool). status_is_asked h s || b) (asks-append s first rest)
    ∙ ap (λ (b : Bool). status_is_asked h s || (status_is_asked first s || b)) (asked_told s names halts (drop 1 flags) behind (omega (arith, few)))
    ∙ shuffled (status_is_asked h s) (status_is_asked first s) (status_is_asked (all_halts halts) s) (faults_ask s names (drop 1 flags)) (status_is_asked behind s)
    ∙ ap (λ (b : Bool). b || ((status_is_asked first s || faults_ask s names (drop 1 flags)) || status_is_asked behind s)) (sym (asks-append s h (all_halts halts)))

-- faults ask for no other status
fault_apart : (s : Status) (name : List ℕ) (b : Bool) → is_status s statuses.Fault ≡ false → status_is_asked (when b (fault name)) s ≡ false
fault_apart s name true other = ap (λ (b : Bool). b || false) other
fault_apart s name false other = refl

faults_apart : (s : Status) (names : List (List ℕ)) (flags : List Bool) → is_status s statuses.Fault ≡ false → faults_ask s names flags ≡ false
faults_apart s [] flags other = refl
faults_apart s (name ∷ names) flags other = ap (λ (b : Bool). b || faults_ask s names (drop 1 flags)) (fault_apart s name (first_failed flags) other) ∙ faults_apart s names (drop 1 flags) other

fault_asks : (name : List ℕ) (b : Bool) → status_is_asked (when b (fault name)) statuses.Fault ≡ b
fault_asks name true = refl
fault_asks name false = refl

none_blamed : (names : List (List ℕ)) → faults_ask statuses.Fault names [] ≡ false
none_blamed [] = refl
none_blamed (name ∷ names) = none_blamed names

faults_ask_so : (names : List (List ℕ)) (flags : List Bool) → length flags ≤ length names → faults_ask statuses.Fault names flags ≡ some_failed flags
faults_ask_so [] [] few = refl
faults_ask_so [] (b ∷ flags) few = absurd (omega (arith, few))
faults_ask_so (name ∷ names) [] few = none_blamed names
faults_ask_so (name ∷ names) (b ∷ flags) few = ap (λ (x : Bool). x || faults_ask statuses.Fault names flags) (fault_asks name b) ∙ ap (λ (x : Bool). b || x) (faults_ask_so names flags (omega (arith, few)))

-- what halts asks neither for a want of memory nor for a fault
halt_apart : (t : Trouble) → IsHalt t → (is_status statuses.Memory (asked_status t) ≡ false) × (is_status statuses.Fault (asked_status t) ≡ false)
halt_apart t (inl is) = (ap (is_status statuses.Memory) is, ap (is_status statuses.Fault) is)
halt_apart t (inr is) = (ap (is_status statuses.Memory) is, ap (is_status statuses.Fault) is)

halts_apart : (troubles : List Trouble) → Each IsHalt troubles → (status_is_asked troubles statuses.Memory ≡ false) × (status_is_asked troubles statuses.Fault ≡ false)
halts_apart [] halt = (refl, refl)
halts_apart (t ∷ ts) halt =
    let first = halt_apart t (halt 0 t refl) in
    let rest = halts_apart ts (λ n x at. halt (suc n) x at) in (
      ap (λ (b : Bool). b || status_is_asked ts statuses.Memory) first.0 ∙ rest.0,
      ap (λ (b : Bool). b || status_is_asked ts statuses.Fault) first.1 ∙ rest.1,
    )

-- ---- what the rest asks for

passed_over : (s : Status) (b : Bool) (t : Trouble) (behind : List Trouble) → is_status s (asked_status t) ≡ false → status_is_asked (when b t ++ behind) s ≡ status_is_asked behind s
passed_over s true t behind other = ap (λ (x : Bool). x || status_is_asked behind s) other
passed_over s false t behind other = refl

counted : (s : Status) (b : Bool) (t : Trouble) (behind : List Trouble) → is_status s (asked_status t) ≡ true → status_is_asked (when b t ++ behind) s ≡ (b || status_is_asked behind s)
counted s true t behind own = ap (λ (x : Bool). x || status_is_asked behind s) own
counted s false t behind own = refl

last_passed : (s : Status) (b : Bool) (t : Trouble) → is_status s (asked_status t) ≡ false → status_is_asked (when b t) s ≡ false
last_passed s true t other = ap (λ (x : Bool). x || false) other
last_passed s false t other = refl

last_counted : (s : Status) (b : Bool) (t : Trouble) → is_status s (asked_status t) ≡ true → status_is_asked (when b t) s ≡ b
last_counted s true t own = ap (λ (x : Bool). x || false) own
last_counted s false t own = refl

-- that the output failed, that it would pass a limit, that standard output failed, and that memory lacked
abbrev pub rest_of : List ℕ → Bool → Bool → Bool → Bool → List Trouble
rest_of out o l p m = when o (fault out) ++ (when l (output_limit out) ++ (when p output_fault ++ when m no_memory))

module _ (out : List ℕ) (o l p m : Bool) where
  abbrev behind_out : List Trouble
  behind_out = when l (output_limit out) ++ (when p output_fault ++ when m no_memory)

  abbrev behind_limit : List Trouble
  behind_limit = when p output_fault ++ when m no_memory

  rest_memory : status_is_asked (rest_of out o l p m) statuses.Memory ≡ m
  rest_memory =
      passed_over statuses.Memory o (fault out) behind_out refl ∙ passed_over statuses.Memory l (output_limit out) behind_limit refl
      ∙ passed_over statuses.Memory p output_fault (when m no_memory) refl ∙ last_counted statuses.Memory m no_memory refl

  rest_fault : status_is_asked (rest_of out o l p m) statuses.Fault ≡ (o || p)
  rest_fault =
      counted statuses.Fault o (fault out) behind_out refl
      ∙ ap (λ (x : Bool). o || x) (passed_over statuses.Fault l (output_limit out) behind_limit refl
      ∙ counted statuses.Fault p output_fault (when m no_memory) refl ∙ ap (λ (x : Bool). p || x) (last_passed statuses.Fault m no_memory refl) ∙ or_none p)

  rest_limit : status_is_asked (rest_of out o l p m) statuses.Limit ≡ l
  rest_limit =
      passed_over statuses.Limit o (fault out) behind_out refl
      ∙ counted statuses.Limit l (output_limit out) behind_limit refl
      ∙ ap (λ (x : Bool). l || x) (passed_over statuses.Limit p output_fault (when m no_memory) refl ∙ last_passed statuses.Limit m no_memory refl) ∙ or_none l

  rest_refused : status_is_asked (rest_of out o l p m) statuses.Refused ≡ false
  rest_refused =
      passed_over statuses.Refused o (fault out) behind_out refl ∙ passed_over statuses.Refused l (output_limit out) behind_limit refl
      ∙ passed_over statuses.Refused p output_fault (when m no_memory) refl ∙ last_passed statuses.Refused m no_memory refl

-- ---- the status

-- the first of these that is asked for
abbrev picked : Bool → Bool → Bool → Bool → Status
picked a b c d = cond a statuses.Memory (cond b statuses.Fault (cond c statuses.Limit (cond d statuses.Refused statuses.Done)))

picks : (a b c d : Bool) → unwrap_or (cond a (Some statuses.Memory) (cond b (Some statuses.Fault) (cond c (Some statuses.Limit) (cond d (Some statuses.Refused) None)))) statuses.Done ≡ picked a b c d
picks true b c d = refl
picks false true c d = refl
picks false false true d = refl
picks false false false true = refl
picks false false false false = refl

status_picks : (due : List Trouble) (a b c d : Bool) → status_is_asked due statuses.Memory ≡ a → status_is_asked due statuses.Fault ≡ b → status_is_asked due statuses.Limit ≡ c → status_is_asked due statuses.Refused ≡ d → status_of due ≡ picked a b c d
status_picks due a b c d memory fault_is limit refused =
    picks (status_is_asked due statuses.Memory) (status_is_asked due statuses.Fault) (status_is_asked due statuses.Limit) (status_is_asked due statuses.Refused)
    ∙ ap (λ (x : Bool). picked x (status_is_asked due statuses.Fault) (status_is_asked due statuses.Limit) (status_is_asked due statuses.Refused)) memory
    ∙ ap (λ (x : Bool). picked a x (status_is_asked due statuses.Limit) (status_is_asked due statuses.Refused)) fault_is
    ∙ ap (λ (x : Bool). picked a b x (status_is_asked due statuses.Refused)) limit
    ∙ ap (λ (x : Bool). picked a b c x) refused

-- the status where memory lacked, or something failed, and that is asked for besides
abbrev pub status_where : Bool → Bool → Status → Status
status_where lacks some other = cond lacks statuses.Memory (cond some statuses.Fault other)

besides : (l hl hr m any : Bool) → picked m any (hl || l) (hr || false) ≡ status_where m any (cond l statuses.Limit (picked false false hl hr))
besides l hl hr true any = refl
besides l hl hr false true = refl
besides true true hr false false = refl
besides false true hr false false = refl
besides true false hr false false = refl
besides false false true false false = refl
besides false false false false false = refl

-- what all troubles ask for
pub due_status : (out : List ℕ) (names : List (List ℕ)) (halts : List (List Trouble)) (flags : List Bool) (o l p m : Bool) → length halts ≤ length names → Each IsHalt (all_halts halts) → length flags ≤ length names
    → status_of (told_of names halts flags (rest_of out o l p m)) ≡ status_where m (some_failed flags || (o || p)) (cond l statuses.Limit (status_of (all_halts halts)))
due_status out names halts flags o l p m few halt few_flags =
    let due = told_of names halts flags (rest_of out o l p m) in
    let all = all_halts halts in
    let apart = halts_apart all halt in
    let hl = status_is_asked all statuses.Limit in
    let hr = status_is_asked all statuses.Refused in
    let asks : (s : Status) (a b : Bool) → faults_ask s names flags ≡ a → status_is_asked (rest_of out o l p m) s ≡ b → status_is_asked due s ≡ (status_is_asked all s || (a || b)) = λ s a b faults rest.
    asked_told s names halts flags (rest_of out o l p m) few
    ∙ ap (λ (x : Bool). status_is_asked all s || (x || status_is_asked (rest_of out o l p m) s)) faults
    ∙ ap (λ (x : Bool). status_is_asked all s || (a || x)) rest in
    let any = some_failed flags || (o || p) in
    status_picks due m any (hl || l) (hr || false)
    (asks statuses.Memory false m (faults_apart statuses.Memory names flags refl) (rest_memory out o l p m) ∙ ap (λ (b : Bool). b || m) apart.0)
    (asks statuses.Fault (some_failed flags) (o || p) (faults_ask_so names flags few_flags) (rest_fault out o l p m) ∙ ap (λ (b : Bool). b || any) apart.1)
    (asks statuses.Limit false l (faults_apart statuses.Limit names flags refl) (rest_limit out o l p m))
    (asks statuses.Refused false false (faults_apart statuses.Refused names flags refl) (rest_refused out o l p m))
    ∙ besides l hl hr m any
    ∙ ap (λ (s : Status). status_where m any (cond l statuses.Limit s)) (sym (status_picks all false false hl hr apart.0 apart.1 refl refl))

-- what is asked for besides is neither a want of memory nor a fault
pub besides_apart : (l : Bool) (troubles : List Trouble) (s : Status) → Each IsHalt troubles → cond l statuses.Limit (status_of troubles) ≡ s → (s ≡ statuses.Fault) ⊎ (s ≡ statuses.Memory) → ⊥
besides_apart l troubles s halt same other =
    let apart = halts_apart troubles halt in
    let hl = status_is_asked troubles statuses.Limit in
    let hr = status_is_asked troubles statuses.Refused in
    let is = ap (λ (x : Status). cond l statuses.Limit x) (sym (status_picks troubles false false hl hr apart.0 apart.1 refl refl)) ∙ same in
    clear l hl hr s is other
  where
    clear : (l hl hr : Bool) (s : Status) → cond l statuses.Limit (picked false false hl hr) ≡ s → (s ≡ statuses.Fault) ⊎ (s ≡ statuses.Memory) → ⊥
    clear true hl hr s is (inl other) = absurd cc
    clear true hl hr s is (inr other) = absurd cc
    clear false true hr s is (inl other) = absurd cc
    clear false true hr s is (inr other) = absurd cc
    clear false false true s is (inl other) = absurd cc
    clear false false true s is (inr other) = absurd cc
    clear false false false s is (inl other) = absurd cc
    clear false false false s is (inr other) = absurd cc

-- where nothing is asked for nothing halts
none_asked : (t : Trouble) (ts : List Trouble) → IsHalt t → Each IsHalt ts → status_of (t ∷ ts) ≡ statuses.Done → ⊥
none_asked t ts first rest done =
    let apart = halts_apart (t ∷ ts) (both t ts first rest) in
    let hl = status_is_asked (t ∷ ts) statuses.Limit in
    let hr = status_is_asked (t ∷ ts) statuses.Refused in
    let is = sym (status_picks (t ∷ ts) false false hl hr apart.0 apart.1 refl refl) ∙ done in
    elim first [
      | inl refused ↦ asked hl hr (inr (ap (λ (s : Status). is_status statuses.Refused s || status_is_asked ts statuses.Refused) refused)) is
      | inr limit ↦ asked hl hr (inl (ap (λ (s : Status). is_status statuses.Limit s || status_is_asked ts statuses.Limit) limit)) is
    ]
  where
    both : (t : Trouble) (ts : List Trouble) → IsHalt t → Each IsHalt ts → Each IsHalt (t ∷ ts)
    both t ts first rest zero x at = let same : t ≡ x = cc in subst IsHalt same first
    both t ts first rest (suc n) x at = rest n x at

    asked : (hl hr : Bool) → (hl ≡ true) ⊎ (hr ≡ true) → picked false false hl hr ≡ statuses.Done → ⊥
    asked true hr some e = absurd cc
    asked false true some e = absurd cc
    asked false false (inl on) e = absurd cc
    asked false false (inr on) e = absurd cc

pub done_halts_none : (troubles : List Trouble) → Each IsHalt troubles → status_of troubles ≡ statuses.Done → troubles ≡ []
done_halts_none [] halt done = refl
done_halts_none (t ∷ ts) halt done = absurd (none_asked t ts (halt 0 t refl) (λ n x at. halt (suc n) x at) done)
