-- What statuses some troubles ask for, and which one they give.
use Rattle.std.proofs.Common.{◌≡◌, ℕ, ◌≤◌, Bool, true, false, cond, ◌||◌, ◌&&◌, List, [], ◌∷◌, ◌++◌, length, drop, Some, None, refl, sym, ap, ◌∙◌, unwrap_or, arith}
use Rattle.std.specs.List.{list_any}
use Rattle.std.proofs.lemmas.List.Folds.{list_any-append}
use Rattle.command_base.specs.declared.statuses.Status.{Status}
use Rattle.command_base.specs.declared.statuses.Status.TheVariants as statuses
use Rattle.command_base.specs.Texts.{Trouble, fault, output_fault, grammar, compressed, limit, output_limit, not_indexed, flaw, bad_line, no_memory, is_status, asked_status, status_is_asked, status_of}
use Rattle.command_base.specs.Ran.{when, first_halts, first_failed, told_of}

-- ---- what some troubles ask for

or_false : (a : Bool) → (a || false) ≡ a
or_false true = refl
or_false false = refl

and_false : (a : Bool) → (a && false) ≡ false
and_false true = refl
and_false false = refl

and_true : (a : Bool) → (a && true) ≡ a
and_true true = refl
and_true false = refl

-- two lists ask for what one of them does
pub both_asked : (s : Status) (first second : List Trouble) → status_is_asked (first ++ second) s ≡ (status_is_asked first s || status_is_asked second s)
both_asked s first second = list_any-append (λ (t : Trouble). is_status s (asked_status t)) first second

-- a trouble asks for its status, where it is there
pub asks_when : (s : Status) (there : Bool) (trouble : Trouble) → status_is_asked (when there trouble) s ≡ (is_status s (asked_status trouble) && there)
asks_when s true trouble = or_false (is_status s (asked_status trouble)) ∙ sym (and_true (is_status s (asked_status trouble)))
asks_when s false trouble = sym (and_false (is_status s (asked_status trouble)))

-- where names halt asks for a status, and one of them is blamed
abbrev pub halts_ask : Status → List (List ℕ) → List (List Trouble) → Bool
halts_ask s [] halts = false
halts_ask s (name ∷ names) halts = status_is_asked (first_halts halts) s || halts_ask s names (drop 1 halts)

abbrev pub some_blamed : List (List ℕ) → List Bool → Bool
some_blamed [] failed = false
some_blamed (name ∷ names) failed = first_failed failed || some_blamed names (drop 1 failed)

pub none_halts : (s : Status) (names : List (List ℕ)) → halts_ask s names [] ≡ false
none_halts s [] = refl
none_halts s (name ∷ names) = none_halts s names

none_blamed : (names : List (List ℕ)) → some_blamed names [] ≡ false
none_blamed [] = refl
none_blamed (name ∷ names) = none_blamed names

-- each that is blamed is so of a name, where there are not more
pub all_blamed : (names : List (List ℕ)) (failed : List Bool) → length failed ≤ length names → some_blamed names failed ≡ list_any (λ (b : Bool). b) failed
all_blamed [] [] few = refl
all_blamed [] (b ∷ failed) few = absurd (omega (arith, few))
all_blamed (name ∷ names) [] few = none_blamed names
all_blamed (name ∷ names) (b ∷ failed) few = ap (λ (x : Bool). b || x) (all_blamed names failed (omega (arith, few)))

shuffled : (h hs x f b r : Bool) → (h || ((x && f) || (hs || ((x && b) || r)))) ≡ ((h || hs) || ((x && (f || b)) || r))
shuffled true hs x f b r = refl
shuffled false true true true b r = refl
shuffled false true true false b r = refl
shuffled false true false f b r = refl
shuffled false false true true b r = refl
shuffled false false true false b r = refl
shuffled false false false f b r = refl

-- what is told of names asks for what they halt at, and for a fault where one is blamed
pub asked_told : (s : Status) (names : List (List ℕ)) (halts : List (List Trouble)) (failed : List Bool) (behind : List Trouble)
    → status_is_asked (told_of names halts failed behind) s ≡ (halts_ask s names halts || ((is_status s statuses.Fault && some_blamed names failed) || status_is_asked behind s))
asked_told s [] halts failed behind = sym (ap (λ (b : Bool). b || status_is_asked behind s) (and_false (is_status s statuses.Fault)))
asked_told s (name ∷ names) halts failed behind =
    let first = first_halts halts in
    let blamed = when (first_failed failed) (fault name) in
    let rest = told_of names (drop 1 halts) (drop 1 failed) behind in
    both_asked s first (blamed ++ rest)
    ∙ ap (λ (b : Bool). status_is_asked first s || b) (both_asked s blamed rest
    ∙ ap (λ (b : Bool). b || status_is_asked rest s) (asks_when s (first_failed failed) (fault name))
    ∙ ap (λ (b : Bool). (is_status s statuses.Fault && first_failed failed) || b) (asked_told s names (drop 1 halts) (drop 1 failed) behind))
    ∙ shuffled (status_is_asked first s) (halts_ask s names (drop 1 halts)) (is_status s statuses.Fault) (first_failed failed) (some_blamed names (drop 1 failed)) (status_is_asked behind s)

-- ---- the status

-- the first that is asked for: that memory lacked, that something failed, that a limit was passed, that something was refused
abbrev pub picked : Bool → Bool → Bool → Bool → Status
picked lacks fails limits refuses = cond lacks statuses.Memory (cond fails statuses.Fault (cond limits statuses.Limit (cond refuses statuses.Refused statuses.Done)))

abbrev found : Bool → Bool → Bool → Bool → Status
found lacks fails limits refuses = unwrap_or (cond lacks (Some statuses.Memory) (cond fails (Some statuses.Fault) (cond limits (Some statuses.Limit) (cond refuses (Some statuses.Refused) None)))) statuses.Done

picks : (lacks fails limits refuses : Bool) → found lacks fails limits refuses ≡ picked lacks fails limits refuses
picks true fails limits refuses = refl
picks false true limits refuses = refl
picks false false true refuses = refl
picks false false false true = refl
picks false false false false = refl

pub status_picks : (due : List Trouble) (lacks fails limits refuses : Bool) → status_is_asked due statuses.Memory ≡ lacks → status_is_asked due statuses.Fault ≡ fails → status_is_asked due statuses.Limit ≡ limits → status_is_asked due statuses.Refused ≡ refuses
    → status_of due ≡ picked lacks fails limits refuses
status_picks due lacks fails limits refuses is_memory is_fault is_limit is_refusal =
    picks (status_is_asked due statuses.Memory) (status_is_asked due statuses.Fault) (status_is_asked due statuses.Limit) (status_is_asked due statuses.Refused)
    ∙ ap (λ (x : Bool). picked x (status_is_asked due statuses.Fault) (status_is_asked due statuses.Limit) (status_is_asked due statuses.Refused)) is_memory
    ∙ ap (λ (x : Bool). picked lacks x (status_is_asked due statuses.Limit) (status_is_asked due statuses.Refused)) is_fault
    ∙ ap (λ (x : Bool). picked lacks fails x (status_is_asked due statuses.Refused)) is_limit
    ∙ ap (λ (x : Bool). picked lacks fails limits x) is_refusal

-- ---- all was done

asked_memory : (fails limits refuses : Bool) → found true fails limits refuses ≡ statuses.Done → ⊥
asked_memory fails limits refuses is = cc

asked_fault : (lacks limits refuses : Bool) → found lacks true limits refuses ≡ statuses.Done → ⊥
asked_fault true limits refuses is = cc
asked_fault false limits refuses is = cc

asked_limit : (lacks fails refuses : Bool) → found lacks fails true refuses ≡ statuses.Done → ⊥
asked_limit true fails refuses is = cc
asked_limit false true refuses is = cc
asked_limit false false refuses is = cc

asked_refusal : (lacks fails limits : Bool) → found lacks fails limits true ≡ statuses.Done → ⊥
asked_refusal true fails limits is = cc
asked_refusal false true limits is = cc
asked_refusal false false true is = cc
asked_refusal false false false is = cc

-- then there is no trouble
pub none_due : (due : List Trouble) → status_of due ≡ statuses.Done → due ≡ []
none_due [] is = refl
none_due (fault name ∷ ts) is = absurd (asked_fault (status_is_asked ts statuses.Memory) (status_is_asked ts statuses.Limit) (status_is_asked ts statuses.Refused) is)
none_due (output_fault ∷ ts) is = absurd (asked_fault (status_is_asked ts statuses.Memory) (status_is_asked ts statuses.Limit) (status_is_asked ts statuses.Refused) is)
none_due (grammar name n ∷ ts) is = absurd (asked_refusal (status_is_asked ts statuses.Memory) (status_is_asked ts statuses.Fault) (status_is_asked ts statuses.Limit) is)
none_due (compressed name compression n ∷ ts) is = absurd (asked_refusal (status_is_asked ts statuses.Memory) (status_is_asked ts statuses.Fault) (status_is_asked ts statuses.Limit) is)
none_due (limit name n ∷ ts) is = absurd (asked_limit (status_is_asked ts statuses.Memory) (status_is_asked ts statuses.Fault) (status_is_asked ts statuses.Refused) is)
none_due (output_limit name ∷ ts) is = absurd (asked_limit (status_is_asked ts statuses.Memory) (status_is_asked ts statuses.Fault) (status_is_asked ts statuses.Refused) is)
none_due (not_indexed name why ∷ ts) is = absurd (asked_refusal (status_is_asked ts statuses.Memory) (status_is_asked ts statuses.Fault) (status_is_asked ts statuses.Limit) is)
none_due (flaw name rule n ∷ ts) is = absurd (asked_refusal (status_is_asked ts statuses.Memory) (status_is_asked ts statuses.Fault) (status_is_asked ts statuses.Limit) is)
none_due (bad_line name n ∷ ts) is = absurd (asked_refusal (status_is_asked ts statuses.Memory) (status_is_asked ts statuses.Fault) (status_is_asked ts statuses.Limit) is)
none_due (no_memory ∷ ts) is = absurd (asked_memory (status_is_asked ts statuses.Fault) (status_is_asked ts statuses.Limit) (status_is_asked ts statuses.Refused) is)
