-- Records that are cut from a summary one after the other.
use Rattle.std.proofs.Common.{◌≡◌, ℕ, ◌+◌, ◌-◌, ◌≤◌, true, List, [], ◌∷◌, ◌++◌, length, get_or, take, drop, Some, refl, sym, ap, subst, inl, inr, ◌∙◌, append_assoc, append-nil, arith}
use Rattle.std.specs.Prelude.{slice_index}
use Rattle.std.proofs.lemmas.Bool.{le-leb, lt-leb}
use Rattle.std.proofs.lemmas.List.{append-nil, length-append, length-drop, length-take, drop-drop, get_or-drop, nil_from_length}
use Rattle.std.proofs.lemmas.Grind.{flat_map-append}
use Rattle.mcap_wire.specs.declared.faults.Cut.{Cut}
use Rattle.mcap_wire.specs.declared.faults.CutFault.TheVariants as cut_faults
use Rattle.mcap_wire.specs.Layout.{number}
use Rattle.mcap_wire.specs.Reading.{IsCut, CutFails, content_length}
use Rattle.mcap_model.specs.Places.{Each}
use Rattle.mcap_model.specs.Tops.{Top, top_bytes, spelled, opcode, declared_length, has_head}
use Rattle.mcap_model.specs.Whole.{stands_in_summary}
use Rattle.mcap_model.specs.Plain.{cut_top}
use Rattle.mcap_model.proofs.Flat.{map-append}
use Rattle.mcap_model.proofs.Lists.{each_cons, each_joined}
use Rattle.mcap_model.proofs.Places.{at_none}
use Rattle.mcap_model.proofs.Readings.{length-top}
use Rattle.mcap_model.specs.declared.rules.Rule.{Rule}
use Rattle.mcap_model.specs.declared.rules.Rule.TheVariants as rules
use Rattle.summary_read.specs.Reached.{BreaksFirst, breaks_4, breaks_5, breaks_6, DeclaresPast}
use Rattle.summary_read.specs.Parts.{IsSummaryRecord}
use Rattle.summary_read.specs.PartSteps.{cut_tops}
use Rattle.summary_read.specs.Steps.{Judged, IsTaken, InRow, CutsTo, AreCut}

-- ---- what stands at an offset

pub declared_there : (bytes : List ℕ) (at : ℕ) → declared_length (drop at bytes) ≡ content_length bytes at
declared_there bytes at = ap (λ (l : List ℕ). number (take 8 l)) (drop-drop 1 at bytes)

pub opcode_there : (bytes : List ℕ) (at : ℕ) → opcode (drop at bytes) ≡ slice_index bytes at
opcode_there bytes at =
    let here : at + 0 ≡ at = omega arith in
    get_or-drop at bytes 0 0 ∙ ap (λ (n : ℕ). get_or bytes n 0) here

pub head_there : (bytes : List ℕ) (at : ℕ) → at + 9 ≤ length bytes → has_head (drop at bytes) ≡ true
head_there bytes at whole = le-leb 9 (length (drop at bytes)) (omega (arith, length-drop at bytes, whole))

-- ---- why none is cut

pub short_breaks : (bytes : List ℕ) (at : ℕ) → CutFails bytes at cut_faults.Short → BreaksFirst (drop at bytes) rules.V4
short_breaks bytes at (inl head) = breaks_4 (inl (lt-leb 9 (length (drop at bytes)) (omega (arith, length-drop at bytes, head))))
short_breaks bytes at (inr content) =
    let rest = drop at bytes in
    breaks_4 (inr (lt-leb (9 + declared_length rest) (length rest) (omega (arith, length-drop at bytes, declared_there bytes at, content.2))))

pub zero_breaks : (bytes : List ℕ) (at : ℕ) → CutFails bytes at cut_faults.ZeroOp → BreaksFirst (drop at bytes) rules.V5
zero_breaks bytes at zero =
    breaks_5 (head_there bytes at zero.0) (ap stands_in_summary (opcode_there bytes at ∙ zero.1))

pub long_passes : (bytes : List ℕ) (at len : ℕ) → CutFails bytes at (cut_faults.TooLong len) → DeclaresPast (drop at bytes)
long_passes bytes at len long = record {
  head = head_there bytes at long.0.0;
  past = omega (arith, declared_there bytes at, long.1, long.2);
}

pub record_breaks : (bytes : List ℕ) (at : ℕ) (c : Cut) (rule : Rule) → IsCut bytes at c → Judged (cut_top bytes c) (Some rule) → BreaksFirst (drop at bytes) rule
record_breaks bytes at c rule is (inl kind) =
    let op_is : opcode (drop at bytes) ≡ c.op = ap opcode is.stands.framed_there in
    let whole : at + 9 ≤ length bytes = omega (arith, is.stands.head, is.stands.begins, is.stands.ends) in
    subst (λ (r : Rule). BreaksFirst (drop at bytes) r) (sym kind.0) (breaks_5 (head_there bytes at whole) (ap stands_in_summary op_is ∙ kind.1))
record_breaks bytes at c rule is (inr layout) =
    subst (λ (r : Rule). BreaksFirst (drop at bytes) r) (sym layout.0) (breaks_6 (cut_top bytes c) (drop c.to bytes) is.stands.framed_there layout.1)

-- ---- one record more

each_more : {X : Type 0} (P : X → Type 0) (xs : List X) (x : X) → Each P xs → P x → Each P (xs ++ x ∷ [])
each_more P xs x each one = each_joined P xs (x ∷ []) each (each_cons P x [] one (λ n y at. absurd (at_none n y at)))

spelled_more : (tops : List Top) (t : Top) → spelled (tops ++ t ∷ []) ≡ spelled tops ++ top_bytes t
spelled_more tops t = flat_map-append top_bytes tops (t ∷ []) ∙ ap (λ (l : List ℕ). spelled tops ++ l) (append-nil (top_bytes t))

row_more : (at end : ℕ) (cuts : List Cut) (c : Cut) → InRow at cuts end → c.from ≡ end + 9 → InRow at (cuts ++ c ∷ []) c.to
row_more at end [] c row next = (next ∙ ap (λ (n : ℕ). n + 9) (sym row), refl)
row_more at end (d ∷ ds) c row next = (row.0, row_more d.to end ds c row.1 next)

pub cuts_more : (bytes : List ℕ) (at : ℕ) (cuts : List Cut) (c : Cut) → CutsTo bytes at cuts → IsTaken bytes at c → CutsTo bytes c.to (cuts ++ c ∷ [])
cuts_more bytes at cuts c so_far taken =
    let t = cut_top bytes c in
    let stands = taken.is.stands in
    let size : length t.content ≡ c.to - c.from = omega (arith, length-take (c.to - c.from) (drop c.from bytes), length-drop c.from bytes, stands.ends) in
    let tops_are : cut_tops bytes (cuts ++ c ∷ []) ≡ cut_tops bytes cuts ++ t ∷ [] = map-append (cut_top bytes) cuts (c ∷ []) in
    let text : spelled (cut_tops bytes (cuts ++ c ∷ [])) ≡ spelled (cut_tops bytes cuts) ++ top_bytes t = ap spelled tops_are ∙ spelled_more (cut_tops bytes cuts) t in
    record {
      within = stands.ends;
      split = so_far.split
          ∙ ap (λ (l : List ℕ). spelled (cut_tops bytes cuts) ++ l) stands.framed_there
          ∙ sym (append_assoc (spelled (cut_tops bytes cuts)) (top_bytes t) (drop c.to bytes))
          ∙ ap (λ (l : List ℕ). l ++ drop c.to bytes) (sym text);
      there = omega (
        arith,
        ap length text,
        length-append (spelled (cut_tops bytes cuts)) (top_bytes t),
        length-top t,
        size,
        so_far.there,
        stands.head,
        stands.begins,
      );
      row = row_more 0 at cuts c so_far.row stands.head;
      inside = each_more (λ (d : Cut). (d.from ≤ d.to) × (d.to ≤ length bytes)) cuts c so_far.inside (stands.begins, stands.ends);
      sound = subst (Each IsSummaryRecord) (sym tops_are) (
          each_more IsSummaryRecord (cut_tops bytes cuts) t so_far.sound (record {
            kind = taken.kind;
            layout = taken.layout;
            short = omega (arith, size, taken.is.within);
          })
          );
    }

-- all of them
pub all_cut : (bytes : List ℕ) (at : ℕ) (cuts : List Cut) → CutsTo bytes at cuts → length bytes ≤ at → AreCut bytes cuts
all_cut bytes at cuts to past =
    let end : at ≡ length bytes = omega (arith, past, to.within) in
    record {
      split = to.split
          ∙ ap (λ (l : List ℕ). spelled (cut_tops bytes cuts) ++ l) (nil_from_length (drop at bytes) (omega (arith, length-drop at bytes, past)))
          ∙ append-nil (spelled (cut_tops bytes cuts));
      row = subst (InRow 0 cuts) end to.row;
      inside = to.inside;
      sound = to.sound;
    }
