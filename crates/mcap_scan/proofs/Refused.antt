-- The refusals that a reader hands out.
use Rattle.std.proofs.Common.{◌≡◌, List, [], refl, sym, subst, inl, ◌∙◌}
use Rattle.mcap_io.specs.Outside.{SourceState}
use Rattle.mcap_model.specs.Tops.{Top}
use Rattle.mcap_model.proofs.Places.{at_none}
use Rattle.mcap_model.specs.declared.refusals.ReadingRefused.{ReadingRefused}
use Rattle.mcap_scan.specs.declared.reader.Reader.{Reader}
use Rattle.mcap_scan.specs.declared.reader.Stage.TheVariants as stages
use Rattle.mcap_scan.specs.Scanning.{Refuses}
use Rattle.mcap_scan.specs.RefusedReadings.{RefusalStands, MemoryStands}

-- nothing was read, for want of memory
pub nothing_read : (before : SourceState) → MemoryStands before before []
nothing_read before = record {
  still = refl;
  good = λ n t at. absurd (at_none n t at);
  leaves = λ bytes told. inl (refl, told);
}

-- the refusal that a reader hands out is the one that it keeps
pub refusal_stands : (reader : Reader) (before now : SourceState) (tops : List Top) (why : ReadingRefused) → Refuses reader before now tops → reader.stage ≡ stages.Stopped why → RefusalStands why before now tops
refusal_stands reader before now tops why refuses is =
    subst (λ (w : ReadingRefused). RefusalStands w before now tops) (same (sym refuses.stage ∙ is)) refuses.stands
  where
    same : {a b : ReadingRefused} → stages.Stopped a ≡ stages.Stopped b → a ≡ b
    same e = cc
