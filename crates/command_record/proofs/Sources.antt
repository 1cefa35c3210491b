-- What the openings of feeds show of their sources.
use Rattle.std.proofs.Common.{ℕ, zero, suc, List, [], ◌∷◌}
use Rattle.std.specs.List.{AllZip}
use Rattle.std.proofs.Common.{◌≡◌, subst}
use Rattle.std.proofs.lemmas.Option.{same_Some}
use Rattle.mcap_io.specs.Outside.{WorldState, SourceState, TellsName}
use Rattle.mcap_model.specs.Places.{Each}
use Rattle.mcap_model.proofs.Places.{at_none}
use Rattle.command_base.specs.InputsSteps.{SourceSeen}
use Rattle.command_record.specs.Sources.{FeedsOpened}

seen_tell : (w : WorldState) (fs : List (List ℕ)) (ss : List SourceState) → AllZip (SourceSeen w) fs ss → AllZip (TellsName w) fs ss
seen_tell w [] [] all = tt
seen_tell w [] (s ∷ ss) all = absurd all
seen_tell w (f ∷ fs) [] all = absurd all
seen_tell w (f ∷ fs) (s ∷ ss) all = (all.0.tells, seen_tell w fs ss all.1)

seen_unused : (w : WorldState) (fs : List (List ℕ)) (ss : List SourceState) → AllZip (SourceSeen w) fs ss → Each (λ (s : SourceState). s.faults ≡ 0) ss
seen_unused w [] [] all n s at = absurd (at_none n s at)
seen_unused w [] (x ∷ ss) all n s at = absurd all
seen_unused w (f ∷ fs) [] all n s at = absurd all
seen_unused w (f ∷ fs) (x ∷ ss) all zero s at = subst (λ (y : SourceState). y.faults ≡ 0) (same_Some x s at) all.0.unused
seen_unused w (f ∷ fs) (x ∷ ss) all (suc n) s at = seen_unused w fs ss all.1 n s at

-- each tells the bytes under its name
pub feeds_tell : (old new : WorldState) (feeds : List (List ℕ)) (sources : List SourceState) → FeedsOpened old new feeds sources → AllZip (TellsName old) feeds sources
feeds_tell old new feeds sources it = seen_tell old feeds sources it.seen

-- and none has failed
pub feeds_unused : (old new : WorldState) (feeds : List (List ℕ)) (sources : List SourceState) → FeedsOpened old new feeds sources → Each (λ (s : SourceState). s.faults ≡ 0) sources
feeds_unused old new feeds sources it = seen_unused old feeds sources it.seen
