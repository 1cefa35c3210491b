-- The records of one kind among those that were cut.
use Rattle.std.proofs.Common.{◌≡◌, ℕ, zero, suc, ◌+◌, ◌-◌, ◌≤◌, Bool, true, false, List, [], ◌∷◌, length, take, drop, filter, cond, refl, ap, subst, ◌∙◌, ◌==◌, arith}
use Rattle.std.proofs.lemmas.Bool.Decides.{Decides-eqb}
use Rattle.std.proofs.lemmas.List.{length-append, length-drop, length-take}
use Rattle.std.proofs.lemmas.Option.{same_Some}
use Rattle.mcap_wire.specs.declared.faults.Cut.{Cut}
use Rattle.mcap_model.specs.Places.{At}
use Rattle.mcap_model.specs.Tops.{Top, top_bytes, spelled}
use Rattle.mcap_model.specs.Whole.{offset_among}
use Rattle.mcap_model.specs.Plain.{cut_top}
use Rattle.mcap_model.proofs.Flat.{at_mapped}
use Rattle.mcap_model.proofs.Lists.{filter_passed}
use Rattle.mcap_model.proofs.Places.{at_none}
use Rattle.mcap_model.proofs.Readings.{length-top}
use Rattle.summary_read.specs.Parts.{of_kind, offsets_of_kind}
use Rattle.summary_read.specs.PartSteps.{AreHeld, AreInside, offsets_of, cut_tops}
use Rattle.summary_read.specs.Steps.{InRow, AreCut}

row_head : (at end : ℕ) (cuts : List Cut) (n : ℕ) (c : Cut) → InRow at cuts end → At cuts n c → 9 ≤ c.from
row_head at end [] n c row there = absurd (at_none n c there)
row_head at end (d ∷ ds) zero c row there = subst (λ (e : Cut). 9 ≤ e.from) (same_Some d c there) (omega (arith, row.0))
row_head at end (d ∷ ds) (suc n) c row there = row_head d.to end ds n c row.1 there

pub held_of : (summary : List ℕ) (cuts items : List Cut) (op : ℕ) → AreCut summary cuts → items ≡ filter (λ c. c.op == op) cuts → AreHeld summary op items
held_of summary cuts items op cut is n c at =
    let passed = filter_passed (λ (d : Cut). d.op == op) cuts n c (subst (λ (l : List Cut). At l n c) is at) in
    let place = passed.0.0 in
    let there = passed.0.1 in
    let inside = cut.inside place c there in
    record {
      kind = (Decides-eqb c.op op).0 passed.1;
      head = row_head 0 (length summary) cuts place c cut.row there;
      begins = inside.0;
      ends = inside.1;
      layout = (cut.sound place (cut_top summary c) (at_mapped (cut_top summary) cuts place c there)).layout;
    }

map_filter : (summary : List ℕ) (op : ℕ) (cuts : List Cut) → cut_tops summary (filter (λ c. c.op == op) cuts) ≡ of_kind op (cut_tops summary cuts)
map_filter summary op [] = refl
map_filter summary op (c ∷ cs) = by (c.op == op) (map_filter summary op cs)
  where
    rest : List Cut
    rest = filter (λ d. d.op == op) cs

    others : List Top
    others = of_kind op (cut_tops summary cs)

    by : (b : Bool) → cut_tops summary rest ≡ others → cut_tops summary (cond b (c ∷ rest) rest) ≡ cond b (cut_top summary c ∷ others) others
    by true same = ap (λ (l : List Top). cut_top summary c ∷ l) same
    by false same = same

pub listed_of : (summary : List ℕ) (cuts items : List Cut) (op : ℕ) → items ≡ filter (λ c. c.op == op) cuts → cut_tops summary items ≡ of_kind op (cut_tops summary cuts)
listed_of summary cuts items op is = ap (cut_tops summary) is ∙ map_filter summary op cuts

-- ---- their offsets

offsets_listed : (summary : List ℕ) (op start at end : ℕ) (cuts : List Cut) → InRow at cuts end → AreInside summary cuts → offsets_of start (filter (λ c. c.op == op) cuts) ≡ offsets_of_kind op (start + at) (cut_tops summary cuts)
offsets_listed summary op start at end [] row inside = refl
offsets_listed summary op start at end (c ∷ cs) row inside =
    by (c.op == op) (
    offsets_listed summary op start c.to end cs row.1 (λ n d there. inside (suc n) d there)
    ∙ ap (λ (n : ℕ). offsets_of_kind op n (cut_tops summary cs)) (omega (arith, size, row.0, within.0))
    )
  where
    within : (c.from ≤ c.to) × (c.to ≤ length summary)
    within = inside zero c refl

    size : length (top_bytes (cut_top summary c)) ≡ 9 + (c.to - c.from)
    size = omega (arith, length-top (cut_top summary c), length-take (c.to - c.from) (drop c.from summary), length-drop c.from summary, within.0, within.1)

    first : start + (c.from - 9) ≡ start + at
    first = omega (arith, row.0)

    rest : List Cut
    rest = filter (λ d. d.op == op) cs

    others : List ℕ
    others = offsets_of_kind op (start + at + length (top_bytes (cut_top summary c))) (cut_tops summary cs)

    by : (b : Bool) → offsets_of start rest ≡ others → offsets_of start (cond b (c ∷ rest) rest) ≡ cond b ((start + at) ∷ others) others
    by true same = ap (λ (n : ℕ). n ∷ offsets_of start rest) first ∙ ap (λ (l : List ℕ). (start + at) ∷ l) same
    by false same = same

pub placed_of : (summary : List ℕ) (cuts items : List Cut) (op start : ℕ) → AreCut summary cuts → items ≡ filter (λ c. c.op == op) cuts → offsets_of start items ≡ offsets_of_kind op start (cut_tops summary cuts)
placed_of summary cuts items op start cut is =
    ap (offsets_of start) is
    ∙ offsets_listed summary op start 0 (length summary) cuts cut.row cut.inside
    ∙ ap (λ (n : ℕ). offsets_of_kind op n (cut_tops summary cuts)) (omega arith)

-- the record at a place among those of one opcode stands at the offset at that place
pub offset_at : (op start : ℕ) (tops : List Top) (i : ℕ) (t : Top) (offset : ℕ) → At (of_kind op tops) i t → At (offsets_of_kind op start tops) i offset
    → (n : ℕ) × At tops n t × (offset ≡ start + offset_among tops n)
offset_at op start [] i t offset at there = absurd (at_none i t at)
offset_at op start (u ∷ us) i t offset at there = by (u.op == op) i at there (λ j here found. offset_at op (start + size) us j t offset here found)
  where
    size : ℕ
    size = length (top_bytes u)

    behind : (j : ℕ) → (At (of_kind op us) j t → At (offsets_of_kind op (start + size) us) j offset → (n : ℕ) × At us n t × (offset ≡ start + size + offset_among us n)) → At (of_kind op us) j t → At (offsets_of_kind op (start + size) us) j offset → (n : ℕ) × At (u ∷ us) n t × (offset ≡ start + offset_among (u ∷ us) n)
    behind j later here found = let (n, stands, is) = later here found in (suc n, stands, omega (arith, is, length-append (top_bytes u) (spelled (take n us))))

    by : (b : Bool) (j : ℕ) → At (cond b (u ∷ of_kind op us) (of_kind op us)) j t → At (cond b (start ∷ offsets_of_kind op (start + size) us) (offsets_of_kind op (start + size) us)) j offset → ((k : ℕ) → At (of_kind op us) k t → At (offsets_of_kind op (start + size) us) k offset → (n : ℕ) × At us n t × (offset ≡ start + size + offset_among us n))
        → (n : ℕ) × At (u ∷ us) n t × (offset ≡ start + offset_among (u ∷ us) n)
    by true zero here found later = (zero, here, omega (arith, same_Some start offset found))
    by true (suc j) here found later = behind j (later j) here found
    by false j here found later = behind j (later j) here found
