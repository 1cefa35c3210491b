-- Which files are open as inputs.
use Rattle.std.specs.Prelude.{◌≡◌, ◌⊎◌, List, ◌∷◌, ◌++◌, All}
use Rattle.io_files.specs.declared.inputs.FileId.{FileId}

-- the file goes once from among them; where it isn't there, they stay
abbrev pub LetsGo : List FileId → List FileId → FileId → Type 0
LetsGo old new id = ((before behind : List FileId) × (old ≡ before ++ id ∷ behind) × (new ≡ before ++ behind))
    ⊎ (All (λ input. input ≡ id → ⊥) old × (new ≡ old))
