-- What the steps of loading come to together.
use Rattle.std.proofs.Common.{◌≡◌, ℕ, ◌+◌, ◌-◌, ◌≤◌, List, length, take, drop, Err, refl, sym, ap, subst, inr, ◌∙◌, arith}
use Rattle.std.proofs.lemmas.List.{length-take}
use Rattle.rec_data.specs.declared.footer.Footer.{Footer}
use Rattle.mcap_wire.specs.declared.faults.Cut.{Cut}
use Rattle.mcap_model.specs.Tops.{declared_length, spelled, StandsIn}
use Rattle.mcap_model.specs.Fields.{IsHeader}
use Rattle.mcap_model.specs.Made.{top}
use Rattle.mcap_model.specs.Rules.{V1}
use Rattle.mcap_model.specs.declared.refusals.ReadingRefused.{ReadingRefused}
use Rattle.mcap_model.specs.declared.refusals.ReadingRefused.TheVariants as refusals
use Rattle.summary_read.specs.Reached.{EndsIn, SummaryStartsAt, summary_part, inside, record_passes, FailsInside, PassesInside}
use Rattle.summary_read.specs.Parts.{Parts, IsLoaded, offsets_of_kind}
use Rattle.summary_read.specs.PartSteps.{ListsParts, cut_tops}
use Rattle.summary_read.specs.Loading.{IsUnloaded, AskedFor}
use Rattle.summary_read.specs.Steps.{NamesPart, HasHeader, AreCut, SummaryCut}

pub starts : (file : List ℕ) (f : Footer) → NamesPart file f → SummaryStartsAt file f.summary_start
starts file f names = record { footer = f; ends = names.ends; named = refl; behind = names.behind; before = names.before }

-- the bytes that were read are the summary
pub part_is : (file bytes : List ℕ) (len start : ℕ) → length file ≡ len → bytes ≡ take (len - 37 - start) (drop start file) → bytes ≡ summary_part file start
part_is file bytes len start size is = is ∙ ap (λ (n : ℕ). take (n - 37 - start) (drop start file)) (sym size)

pub refused_inside : (Y : Type 0) (file bytes : List ℕ) (f : Footer) (why : ReadingRefused) → V1 file → NamesPart file f → bytes ≡ summary_part file f.summary_start → SummaryCut {Y = Y} bytes f.summary_start (Err why) → IsUnloaded file why
refused_inside Y file bytes f (refusals.Fault faults) v1 names is cut = tt
refused_inside Y file bytes f (refusals.Compressed offset name) v1 names is cut = absurd cut
refused_inside Y file bytes f (refusals.Grammar offset rule) v1 names is cut =
    (inside v1 f.summary_start rule offset (starts file f names) (subst (λ (l : List ℕ). FailsInside l f.summary_start rule offset) is cut), names.some)
refused_inside Y file bytes f (refusals.Limit offset) v1 names is cut =
    (record_passes f.summary_start offset (starts file f names) (subst (λ (l : List ℕ). PassesInside l f.summary_start offset) is cut), names.some)
refused_inside Y file bytes f refusals.Memory v1 names is cut = tt

pub loaded : (file header bytes : List ℕ) (f : Footer) (cuts : List Cut) (p : Parts) → NamesPart file f → HasHeader file header → IsHeader (top 1 header) → bytes ≡ summary_part file f.summary_start → AreCut bytes cuts → ListsParts header f bytes cuts p → IsLoaded file p
loaded file header bytes f cuts p names has is part cut listed =
    let footer = sym listed.footer_is in
    let split : summary_part file f.summary_start ≡ spelled (cut_tops bytes cuts) = sym part ∙ cut.split in
    record {
      v1 = has.v1;
      v2 = names.v2;
      header_stands = subst (StandsIn file 8) (sym listed.header_is) has.stands;
      header_is = subst IsHeader (sym listed.header_is) is;
      ends = subst (EndsIn file) footer names.ends;
      starts = subst (λ (g : Footer). SummaryStartsAt file g.summary_start) footer (starts file f names);
      tops = cut_tops bytes cuts;
      split = subst (λ (g : Footer). summary_part file g.summary_start ≡ spelled (cut_tops bytes cuts)) footer split;
      sound = cut.sound;
      listed = listed.listed;
      placed = subst (λ (g : Footer). p.chunk_index_offsets ≡ offsets_of_kind 8 g.summary_start (cut_tops bytes cuts)) footer listed.placed;
      file_fits = names.file_fits;
      summary_fits = omega (arith, ap length split, length-take (length file - 37 - f.summary_start) (drop f.summary_start file), names.summary_fits);
    }

-- at most the ends and the summary were asked for
pub asked_for : (file : List ℕ) (f : Footer) (before ended headed now len : ℕ) → NamesPart file f → length file ≡ len → ended ≤ before + 37 → headed ≤ ended + 17 + declared_length (drop 8 file) → now ≤ headed + (len - 37 - f.summary_start) → AskedFor file before now
asked_for file f before ended headed now len names size end front rest =
    inr (f.summary_start, starts file f names, omega (arith, size, end, front, rest))
