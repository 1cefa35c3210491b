use Rattle.std.proofs.Common.{◌≡◌, true, false, [], ◌∷◌, refl, arith}
use Rattle.std.specs.Str.{IsUtf8}
use Rattle.mcap_wire.proofs.Framing.{length-framed}
use Rattle.rec_data.specs.Records.{schema_text}
use Rattle.rec_data.proofs.OwnedLengths.{length-schema_text}
use Rattle.recording_tests.proofs.caches.schema.Goals as goal

name : IsUtf8 (115 ∷ [])
unfolding lib.Utf8.encode
name = (115 ∷ [], (refl, refl))

pub returns-clause-kept : goal.returns-clause-kept
returns-clause-kept c = record {
  fits = (omega arith, ((omega arith, name), ((omega arith, ([], (refl, refl))), (omega arith, tt))));
  short = omega (arith, length-framed 3 (schema_text 1 (record { name = 115 ∷ []; encoding = []; payload = 1 ∷ 2 ∷ [] })), length-schema_text 1 (record { name = 115 ∷ []; encoding = []; payload = 1 ∷ 2 ∷ [] }));
  extra = λ aside. absurd (let no : true ≡ false = aside in cc);
}

pub returns-clause-short : goal.returns-clause-short
returns-clause-short c = omega (arith, length-framed 3 (schema_text 1 (record { name = 115 ∷ []; encoding = []; payload = 1 ∷ 2 ∷ [] })), length-schema_text 1 (record { name = 115 ∷ []; encoding = []; payload = 1 ∷ 2 ∷ [] }))
