-- What fails at the ends of a file is a rule of the whole file that fails there.
use Rattle.std.proofs.Common.{◌≡◌, ◌⊎◌, ℕ, ◌-◌, false, List, [], ◌++◌, length, take, drop, refl, sym, ap, subst, inl, ◌∙◌, arith}
use Rattle.std.proofs.lemmas.List.{length-drop}
use Rattle.mcap_wire.specs.Layout.{magic}
use Rattle.mcap_model.specs.Tops.{has_head, is_whole}
use Rattle.mcap_model.specs.Valid.{FailsToFit, Flaw, flaw_1, flaw_2, flaw_3, flaw_4, flaw_17}
use Rattle.mcap_model.proofs.Places.{at_none}
use Rattle.mcap_model.specs.declared.rules.Rule.{Rule}
use Rattle.summary_read.specs.Reached.{CutsFirst, FailsAtEnds, first_magic, last_magic, no_header, header_cut, no_footer}

-- the first record doesn't fit
fails_to_fit : (file : List ℕ) → CutsFirst file → FailsToFit file 8
fails_to_fit file cuts =
    let v = cuts.v1 in
    let size : length file - 8 - 8 ≡ length (drop 8 file) - 8 = omega (arith, length-drop 8 file) in
    record {
      tops = [];
      rest = drop 8 file;
      stand = record { split = v.1 ∙ ap (λ (l : List ℕ). magic ++ l) (sym (ap (drop 8) v.1)) };
      short = λ n t at. absurd (at_none n t at);
      there = refl;
      inside = cuts.some;
      cut = subst (λ (n : ℕ). let inner = take n (drop 8 file) in (has_head inner ≡ false) ⊎ (is_whole inner ≡ false)) size cuts.cut;
    }

pub flawed : (file : List ℕ) (rule : Rule) (offset : ℕ) → FailsAtEnds file rule offset → Flaw file rule offset
flawed file rule offset (first_magic none) = flaw_1 none
flawed file rule offset (last_magic v1 none) = flaw_2 none
flawed file rule offset (no_header v1 none) = flaw_3 none
flawed file rule offset (header_cut cuts) = flaw_4 8 (fails_to_fit file cuts)
flawed file rule offset (no_footer v1 none) = flaw_17 (inl none)
