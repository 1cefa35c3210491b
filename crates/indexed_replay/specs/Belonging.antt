-- Whether a Message Index belongs to a chunk.
use Rattle.std.specs.Prelude.{◌≡◌, ◌⊎◌, ℕ, ◌+◌, ◌*◌, ◌<◌, ◌≤◌, List, length, Bool, true, false, Option, Some, Result, Ok, Err}
use Rattle.mcap_io.specs.Stores.{StoreState}
use Rattle.mcap_model.specs.declared.refusals.ReadingRefused.{ReadingRefused}
use Rattle.mcap_model.specs.declared.refusals.ReadingRefused.TheVariants as refusals
use Rattle.mcap_model.specs.declared.rules.Rule.TheVariants as rules
use Rattle.indexed_replay.specs.Reaching.{IndexesStand, IsTooLong, head_length}

-- why it can't be seen whether Message Indexes alone stand from the first offset up to the other
abbrev pub WalkRefused : List ℕ → ℕ → ℕ → ReadingRefused → Type 0
WalkRefused file from to (refusals.Fault faults) = Unit {0}
WalkRefused file from to (refusals.Grammar offset rule) = ⊥
WalkRefused file from to (refusals.Compressed offset name) = ⊥
WalkRefused file from to (refusals.Limit offset) = IndexesStand file from offset × (offset < to) × IsTooLong file offset
WalkRefused file from to refusals.Memory = ⊥

abbrev pub StandsUpTo : List ℕ → ℕ → ℕ → Result Bool ReadingRefused → Type 0
StandsUpTo file from to (Ok true) = IndexesStand file from to
StandsUpTo file from to (Ok false) = IndexesStand file from to → ⊥
StandsUpTo file from to (Err why) = WalkRefused file from to why

abbrev pub TellsWalk : Option (List ℕ) → ℕ → ℕ → ℕ → Result Bool ReadingRefused → Type 0
TellsWalk told len from to result =
    (file : List ℕ) → told ≡ Some file → length file ≡ len → StandsUpTo file from to result

-- the heads of Message Indexes that stand there were asked for, and that of one record more
abbrev pub HeadsAsked : List ℕ → ℕ → ℕ → ℕ → Type 0
HeadsAsked file from before now = (place : ℕ) × (walked : IndexesStand file from place)
    × (now ≤ before + (head_length * length walked.indexes + head_length))

abbrev pub AsksHeads : ℕ → ℕ → StoreState → StoreState → Type 0
AsksHeads len from old new =
    (file : List ℕ) → old.bytes ≡ Some file → length file ≡ len → HeadsAsked file from old.asked new.asked

-- ---- a Message Index with an entry that leads to no message

-- why it is refused: it belongs to the chunk, which ends at the second offset; or the Chunk Index at the first one names a
-- Message Index that doesn't; or that can't be seen
abbrev pub AstrayRefused : List ℕ → ℕ → ℕ → ℕ → ReadingRefused → Type 0
AstrayRefused file at end list (refusals.Fault faults) = Unit {0}
AstrayRefused file at end list (refusals.Grammar offset rule) = ((rule ≡ rules.V9) × (offset ≡ list) × IndexesStand file end list)
    ⊎ ((rule ≡ rules.V12) × (offset ≡ at) × (IndexesStand file end list → ⊥))
AstrayRefused file at end list (refusals.Compressed offset name) = ⊥
AstrayRefused file at end list (refusals.Limit offset) =
    IndexesStand file end offset × (offset < list) × IsTooLong file offset
AstrayRefused file at end list refusals.Memory = ⊥

abbrev pub JudgesAstray : Option (List ℕ) → ℕ → ℕ → ℕ → ℕ → ReadingRefused → Type 0
JudgesAstray told len at end list why =
    (file : List ℕ) → told ≡ Some file → length file ≡ len → AstrayRefused file at end list why
