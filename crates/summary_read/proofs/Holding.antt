-- Records that are held as places in the summary.
use Rattle.std.proofs.Common.{◌≡◌, ℕ, List, sym, ap, subst, ◌∙◌}
use Rattle.mcap_wire.specs.declared.faults.Cut.{Cut}
use Rattle.mcap_wire.specs.Layout.{part}
use Rattle.mcap_model.specs.Places.{At}
use Rattle.mcap_model.specs.Rules.{V6}
use Rattle.mcap_model.specs.Made.{top}
use Rattle.mcap_model.specs.Plain.{cut_top}
use Rattle.mcap_model.proofs.Flat.{at_mapped}
use Rattle.summary_read.specs.PartSteps.{IsSummaryCut, AreHeld, AreInside, IsContentAt, cut_tops}

-- the record at that place, by its content
pub record FoundAt (summary : List ℕ) (op : ℕ) (cuts : List Cut) (i : ℕ) (content : List ℕ) : Type 0 where
  pub at : At (cut_tops summary cuts) i (top op content)
  pub layout : V6 (top op content)

pub found_at : (summary : List ℕ) (op : ℕ) (cuts : List Cut) (i : ℕ) (content : List ℕ) → AreHeld summary op cuts → IsContentAt summary cuts i content → FoundAt summary op cuts i content
found_at summary op cuts i content held here =
    let c = here.0 in
    let is : IsSummaryCut summary op c = held i c here.1 in
    let same : cut_top summary c ≡ top op content = ap (λ (o : ℕ). top o (part c.from c.to summary)) is.kind ∙ ap (top op) (sym here.2) in
    record {
      at = subst (At (cut_tops summary cuts) i) same (at_mapped (cut_top summary) cuts i c here.1);
      layout = subst V6 same is.layout;
    }

pub held_inside : (summary : List ℕ) (op : ℕ) (cuts : List Cut) → AreHeld summary op cuts → AreInside summary cuts
held_inside summary op cuts held n c at = let is = held n c at in (is.begins, is.ends)

-- the same, of slices that are these lists
pub slices_inside : (bytes summary : List ℕ) (op : ℕ) (slice cuts : List Cut) → bytes ≡ summary → slice ≡ cuts → AreHeld summary op cuts → AreInside bytes slice
slices_inside bytes summary op slice cuts same equal held =
    subst (λ (l : List ℕ). AreInside l slice) (sym same) (subst (AreInside summary) (sym equal) (held_inside summary op cuts held))

pub found : (bytes summary : List ℕ) (op : ℕ) (slice cuts : List Cut) (i : ℕ) (content : List ℕ) → bytes ≡ summary → slice ≡ cuts → AreHeld summary op cuts → IsContentAt bytes slice i content → FoundAt summary op cuts i content
found bytes summary op slice cuts i content same equal held here =
    found_at summary op cuts i content held (subst (λ (l : List ℕ). IsContentAt l cuts i content) same (subst (λ (l : List Cut). IsContentAt bytes l i content) equal here))
