use Rattle.std.proofs.Common.{◌≡◌, true, false, ◌≤◌, ℕ, List, [], ◌∷◌, length, refl, sym, subst, arith}
use Rattle.std.specs.Str.{IsUtf8}
use Rattle.mcap_wire.specs.Maps.{IsTextMap}
use Rattle.mcap_wire.proofs.Framing.{length-framed}
use Rattle.rec_data.specs.declared.owned.Rec.TheVariants.{Channel}
use Rattle.rec_data.specs.Owned.{rec_bytes}
use Rattle.rec_data.specs.Records.{channel_text}
use Rattle.rec_data.proofs.OwnedLengths.{length-channel_text}
use Rattle.record_cache.specs.KeptRecords.{IsKept}
use Rattle.recording_tests.proofs.caches.channel.Goals as goal

topic : IsUtf8 (47 ∷ 97 ∷ [])
unfolding lib.Utf8.encode
topic = (47 ∷ 97 ∷ [], (refl, refl))

no_pairs : IsTextMap []
no_pairs = record { texts = λ k d less. absurd (omega (arith, less)); keys_differ = λ i j d less within. absurd (omega (arith, within)) }

kept : IsKept (Channel 1 0 (47 ∷ 97 ∷ []) [] [])
kept = record {
  fits = (omega arith, (omega arith, ((omega arith, topic), ((omega arith, ([], (refl, refl))), ((omega arith, no_pairs), tt)))));
  short = omega (arith, length-framed 4 (channel_text 1 (record { schema = 0; topic = 47 ∷ 97 ∷ []; encoding = []; metadata = [] })), length-channel_text 1 (record { schema = 0; topic = 47 ∷ 97 ∷ []; encoding = []; metadata = [] }));
  extra = λ aside. absurd (let no : true ≡ false = aside in cc);
}

pub returns-clause-kept : goal.returns-clause-kept
returns-clause-kept c = subst (λ (pairs : List (List ℕ × List ℕ)). IsKept (Channel 1 0 (47 ∷ 97 ∷ []) [] pairs)) (sym c.of.ensures) kept

pub returns-clause-short : goal.returns-clause-short
returns-clause-short c = subst (λ (pairs : List (List ℕ × List ℕ)). length (rec_bytes (Channel 1 0 (47 ∷ 97 ∷ []) [] pairs)) ≤ 100) (sym c.of.ensures)
    (omega (arith, length-framed 4 (channel_text 1 (record { schema = 0; topic = 47 ∷ 97 ∷ []; encoding = []; metadata = [] })), length-channel_text 1 (record { schema = 0; topic = 47 ∷ 97 ∷ []; encoding = []; metadata = [] })))
