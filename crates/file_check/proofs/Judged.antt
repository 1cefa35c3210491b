-- What a file comes to whose records behind the data section were judged.
use Rattle.std.proofs.Common.{◌≡◌, ℕ, ◌-◌, ◌≤◌, Bool, true, false, List, ◌∷◌, ◌++◌, Result, length, take, drop, Ok, Err, refl, sym, ap, subst, inr, ◌∙◌, append_assoc, arith}
use Rattle.std.specs.Prelude.{IfOk, IfErr}
use Rattle.std.proofs.lemmas.Bool.{both_ways}
use Rattle.std.proofs.lemmas.List.{take_at}
use Rattle.mcap_wire.specs.Layout.{magic}
use Rattle.mcap_model.specs.declared.checked.Counts.{Counts}
use Rattle.mcap_model.specs.Tops.{Top, Tops}
use Rattle.mcap_model.specs.Valid.{Valid, FullyIndexed, IsFullyIndexed}
use Rattle.mcap_model.proofs.Flaws.{left_size, whole_once}
use Rattle.index_check.specs.declared.section.Section.{Section}
use Rattle.mcap_model.specs.declared.refusals.ReadingRefused.{ReadingRefused}
use Rattle.mcap_model.specs.declared.refusals.ReadingRefused.TheVariants as refusals
use Rattle.summary_check.specs.Files.{spelled_file, FailsThere}
use Rattle.summary_check.specs.Judging.{IsJudged}
use Rattle.summary_check.specs.Sectioned.{IsSectioned}
use Rattle.file_check.specs.Checking.{CountsSection, Checked}
use Rattle.file_check.specs.CheckSteps.{EndsAtMagic, IsSectionRead, JudgesBehind, told_by}
use Rattle.file_check.proofs.Halted.{left_there, stand_whole}
use Rattle.file_check.proofs.Refusing.{inner_size, inner_whole}

module _ (file : List ℕ) (end : ℕ) (section : Section) (ended : EndsAtMagic file end) (front : IsSectionRead file end section) where
  pub sectioned : IsSectioned front.tops section
  sectioned = record { kept = front.kept; good = front.good; v9 = front.v9; ended = front.ended }

  -- the file is its data section, what stands behind that, and the magic
  pub parts : file ≡ spelled_file front.tops front.rest
  parts =
      let whole = stand_whole (take end file) front.tops front.rest front.stand in
      inner_whole file end ended ∙ whole.split

  rest_size : length front.rest ≡ end - section.behind
  rest_size =
      let kept = front.kept in
      let behind = kept.behind in
      omega (arith, left_size (take end file) front.tops front.rest front.stand, inner_size file end ended, behind)

  -- what is read from there on
  pub rest_is : (bytes : List ℕ) → bytes ≡ take (end - section.behind) (drop section.behind file) → bytes ≡ front.rest
  rest_is bytes is =
      let kept = front.kept in
      let behind = kept.behind in
      let whole = stand_whole (take end file) front.tops front.rest front.stand in
      let there : Tops file front.tops (front.rest ++ magic) = record { split = parts } in
      is
      ∙ ap (λ (n : ℕ). take (end - section.behind) (drop n file)) behind
      ∙ ap (take (end - section.behind)) (left_there file front.tops (front.rest ++ magic) there)
      ∙ take_at front.rest magic (end - section.behind) rest_size

  pub within : section.behind ≤ end
  within =
      let kept = front.kept in
      let behind = kept.behind in
      omega (arith, left_size (take end file) front.tops front.rest front.stand, inner_size file end ended, behind)

pub judges : (section : Section) (bytes : List ℕ) (judged : Result Bool ReadingRefused) → IfOk judged (λ indexed. (tops : List Top) → IsSectioned tops section → IsJudged tops bytes indexed)
    → IfErr judged (λ why. (tops : List Top) → IsSectioned tops section → FailsThere (spelled_file tops bytes) why) → (tops : List Top) → IsSectioned tops section → JudgesBehind tops bytes judged
judges section bytes (Ok indexed) ok err = ok
judges section bytes (Err why) ok err = err

-- the numbers of a data section are those of the file
counted_more : (tops more : List Top) (c : Counts) → CountsSection tops c → CountsSection (tops ++ more) c
counted_more tops more c counted =
    let is = counted.is in record {
      section = counted.section;
      is = record {
        end = is.end;
        behind = is.behind ++ more;
        joined = ap (λ (l : List Top). l ++ more) is.joined ∙ append_assoc counted.section (is.end ∷ is.behind) more;
        kind = is.kind;
        unended = is.unended;
      };
      messages_are = counted.messages_are;
      channels_are = counted.channels_are;
      schemas_are = counted.schemas_are;
      chunks_are = counted.chunks_are;
      attachments_are = counted.attachments_are;
      metadata_are = counted.metadata_are;
    }

-- a file that isn't fully indexed with these records isn't with any others
never_full : (file : List ℕ) (tops : List Top) → Valid file tops → (FullyIndexed file tops → ⊥) → IsFullyIndexed file → ⊥
never_full file tops valid none (others, full) =
    let other = full.valid in
    none (subst (FullyIndexed file) (whole_once file others tops other.v4 valid.v4) full)

told : (tops : List Top) (rest : List ℕ) (judged : Result Bool ReadingRefused) (c : Counts) → CountsSection tops c → JudgesBehind tops rest judged → Checked (spelled_file tops rest) (told_by judged c)
told tops rest (Ok true) c counted is = (tops ++ is.behind, let full = is.full in full.0 refl, counted_more tops is.behind c counted)
told tops rest (Ok false) c counted is =
    let full = is.full in
    (tops ++ is.behind, is.valid, never_full (spelled_file tops rest) (tops ++ is.behind) is.valid (λ f. both_ways false refl (full.1 f)), counted_more tops is.behind c counted)
told tops rest (Err (refusals.Fault faults)) c counted is = absurd is
told tops rest (Err (refusals.Grammar offset rule)) c counted is = is
told tops rest (Err (refusals.Compressed offset name)) c counted is = absurd is
told tops rest (Err (refusals.Limit offset)) c counted is = inr is
told tops rest (Err refusals.Memory) c counted is = tt

pub told_file : (file : List ℕ) (end : ℕ) (section : Section) (ended : EndsAtMagic file end) (front : IsSectionRead file end section) (bytes : List ℕ) (judged : Result Bool ReadingRefused) (c : Counts)
    → bytes ≡ take (end - section.behind) (drop section.behind file) → ((tops : List Top) → IsSectioned tops section → JudgesBehind tops bytes judged) → CountsSection front.tops c → Checked file (told_by judged c)
told_file file end section ended front bytes judged c is judges counted =
    let so = subst (λ (l : List ℕ). JudgesBehind front.tops l judged) (rest_is file end section ended front bytes is) (judges front.tops (sectioned file end section ended front)) in
    subst (λ (l : List ℕ). Checked l (told_by judged c)) (sym (parts file end section ended front)) (told front.tops front.rest judged c counted so)
