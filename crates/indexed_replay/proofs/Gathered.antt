-- What the Chunk Indexes of a summary add.
use Rattle.std.proofs.Common.{◌≡◌, ℕ, suc, ◌+◌, ◌≤◌, Bool, true, false, List, ◌∷◌, take, refl, sym, subst, inl, inr, ◌∙◌, arith}
use Rattle.std.proofs.lemmas.Bool.{both_ways}
use Rattle.mcap_model.specs.declared.replay.Range.{Range}
use Rattle.mcap_model.specs.declared.replay.Shown.{Shown}
use Rattle.mcap_model.specs.Places.{At}
use Rattle.mcap_model.specs.Tops.{Top}
use Rattle.mcap_model.specs.Fields.{ChunkIndexFields, IsChunkIndex}
use Rattle.mcap_model.specs.Led.{Meets}
use Rattle.mcap_model.proofs.Places.{at_none}
use Rattle.mcap_model.proofs.Lists.{has_taken}
use Rattle.mcap_model.proofs.Once.{chunk_index_once}
use Rattle.mcap_model.specs.declared.refusals.IndexedRefused.{IndexedRefused}
use Rattle.indexed_replay.specs.declared.spots.Request.{Request}
use Rattle.indexed_replay.specs.Steps.{AddsEachOnce}
use Rattle.indexed_replay.specs.Lists.{IsLedOnChannel}
use Rattle.indexed_replay.specs.Chunks.{IsLedAmong, NameFills}
use Rattle.indexed_replay.specs.Costs.{spot_of, ChunkCost, IndexesCost, next_index, last_index}
use Rattle.indexed_replay.specs.Gathering.{AreApart, IndexFills, IsLedFrom}
use Rattle.indexed_replay.proofs.Adding.{taken_or, taken_front, taken_last, adds_none, adds_same, adds_both}
use Rattle.indexed_replay.proofs.Filling.{over_both}

from_front : (file : List ℕ) (request : Request) (tops : List Top) (i k : ℕ) (s : Shown) → i ≤ k → IsLedFrom file request (take i tops) s → IsLedFrom file request (take k tops) s
from_front file request tops i k s few led = record { index = led.index; shown = led.shown; there = taken_front tops i k few led.index led.there; is = led.is; meets = led.meets; led = led.led }

pub from_none : (file : List ℕ) (request : Request) (tops : List Top) (old : List Shown) → AddsEachOnce (IsLedFrom file request (take 0 tops)) old old
from_none file request tops old = adds_none (IsLedFrom file request (take 0 tops)) old (λ s led. let has = led.there in at_none has.0 led.index has.1)

pub from_skip : (file : List ℕ) (request : Request) (tops : List Top) (i k : ℕ) (t : Top) (f : ChunkIndexFields) (old new : List Shown) → At tops i t → k ≡ suc i → IsChunkIndex t f → (Meets request.range f → ⊥) → AddsEachOnce (IsLedFrom file request (take i tops)) old new
    → AddsEachOnce (IsLedFrom file request (take k tops)) old new
from_skip file request tops i k t f old new at is shows missed adds =
    adds_same (IsLedFrom file request (take i tops)) (IsLedFrom file request (take k tops)) old new adds
    (λ s led. from_front file request tops i k s (omega (arith, is)) led)
    (λ s led. elim (taken_or tops i t at k is led.index led.there) [
      | inl there ↦ record { index = led.index; shown = led.shown; there = there; is = led.is; meets = led.meets; led = led.led }
      | inr same ↦
          let fields = chunk_index_once t led.shown f (subst (λ (u : Top). IsChunkIndex u led.shown) same led.is) shows in
          absurd (missed (subst (λ (h : ChunkIndexFields). Meets request.range h) fields led.meets))
    ])

-- the Chunk Indexes of other chunks lead to other messages
from_apart : (file : List ℕ) (request : Request) (tops : List Top) (i : ℕ) (t : Top) (f : ChunkIndexFields) → At tops i t → IsChunkIndex t f → AreApart tops
    → (s : Shown) → IsLedFrom file request (take i tops) s → IsLedAmong file request f.offset f.indexes s → ⊥
from_apart file request tops i t f at shows apart s from among =
    let (n, there) = from.there in
    let (less, at_n) = has_taken tops i n from.index there in
    let first = from.led in
    let first_by = first.led in
    let first_led = first_by.led in
    let first_message = first_led.message in
    let other_by = among.led in
    let other_led = other_by.led in
    let other_message = other_led.message in
    let same = apart n i from.index t from.shown f at_n at from.is shows (sym first_message.place ∙ other_message.place) in
    omega (arith, less, same)

-- of which there is no room for those of one more
pub from_over : (file : List ℕ) (request : Request) (tops : List Top) (i : ℕ) (t : Top) (f : ChunkIndexFields) (old mid : List Shown) (why : IndexedRefused) → At tops i t → IsChunkIndex t f → Meets request.range f → AreApart tops → AddsEachOnce (IsLedFrom file request (take i tops)) old mid
    → NameFills file request f mid why → IndexFills file request tops old why
from_over file request tops i t f old mid why at shows meets apart first name =
    let (is, over) = name.fills in
    record {
      place = i;
      index = t;
      shown = f;
      at = at;
      is = shows;
      meets = meets;
      named = name.named;
      there = name.there;
      fills = (
        is,
        over_both (IsLedFrom file request (take i tops)) (IsLedAmong file request f.offset f.indexes) (IsLedFrom file request tops) (IsLedOnChannel file request (spot_of f.offset name.named)) (IsLedOnChannel file request (spot_of f.offset name.named)) file old mid first over
            (from_apart file request tops i t f at shows apart)
            (λ s led. let (n, there) = led.there in record { index = led.index; shown = led.shown; there = (n, (has_taken tops i n led.index there).1); is = led.is; meets = led.meets; led = led.led })
            (λ s led. record { index = t; shown = f; there = (i, at); is = shows; meets = meets; led = led })
            (λ s is_named. is_named),
      );
    }

pub from_more : (file : List ℕ) (request : Request) (tops : List Top) (i k : ℕ) (t : Top) (f : ChunkIndexFields) (old mid new : List Shown) → At tops i t → k ≡ suc i → IsChunkIndex t f → Meets request.range f → AreApart tops → AddsEachOnce (IsLedFrom file request (take i tops)) old mid
    → AddsEachOnce (IsLedAmong file request f.offset f.indexes) mid new → AddsEachOnce (IsLedFrom file request (take k tops)) old new
from_more file request tops i k t f old mid new at is shows meets apart first second =
    adds_both (IsLedFrom file request (take i tops)) (IsLedAmong file request f.offset f.indexes) (IsLedFrom file request (take k tops)) old mid new first second
    (from_apart file request tops i t f at shows apart)
    (λ s led. elim (taken_or tops i t at k is led.index led.there) [
      | inl there ↦ inl (record { index = led.index; shown = led.shown; there = there; is = led.is; meets = led.meets; led = led.led })
      | inr same ↦
          let fields = chunk_index_once t led.shown f (subst (λ (u : Top). IsChunkIndex u led.shown) same led.is) shows in
          inr (subst (λ (h : ChunkIndexFields). IsLedAmong file request h.offset h.indexes s) fields led.led)
    ])
    (λ s led. from_front file request tops i k s (omega (arith, is)) led)
    (λ s led. record { index = t; shown = f; there = taken_last tops i k t at (omega (arith, is)); is = shows; meets = meets; led = led })

-- ---- what they cost

-- the chunk of a Chunk Index that meets the range costs so much; and where a replay doesn't end there, the others behind it
pub record IndexMet (file : List ℕ) (range : Range) (chosen : ℕ → Bool) (f : ChunkIndexFields) (others : List Top) (all : ℕ) : Type 0 where
  pub cost : ℕ
  pub ends : Bool
  pub is : ChunkCost file range chosen f cost ends
  pub within : cost ≤ all
  pub behind : ends ≡ false → (rest : ℕ) × IndexesCost file range chosen others rest × (cost + rest ≤ all)

-- the first Chunk Index, and those behind it
pub record OneIndex (file : List ℕ) (range : Range) (chosen : ℕ → Bool) (f : ChunkIndexFields) (others : List Top) (all : ℕ) : Type 0 where
  pub missed : (Meets range f → ⊥) → (rest : ℕ) × IndexesCost file range chosen others rest × (rest ≤ all)
  pub met : Meets range f → IndexMet file range chosen f others all

pub one_index : (file : List ℕ) (range : Range) (chosen : ℕ → Bool) (t : Top) (f : ChunkIndexFields) (others : List Top) (all : ℕ) → IsChunkIndex t f → IndexesCost file range chosen (t ∷ others) all → OneIndex file range chosen f others all
one_index file range chosen t f others all is (next_index u us cost rest costs more) = record {
  missed = λ none. (rest, more, omega arith);
  met = λ meets.
      let (n, own, few) = costs f is meets in
      record { cost = n; ends = false; is = own; within = omega (arith, few); behind = λ e. (rest, more, omega (arith, few)) };
}
one_index file range chosen t f others all is (last_index u us g cost shows meets own) =
    let same = chunk_index_once t g f shows is in
    record {
      missed = λ none. absurd (none (subst (λ (h : ChunkIndexFields). Meets range h) same meets));
      met = λ here. record { cost = cost; ends = true; is = subst (λ (h : ChunkIndexFields). ChunkCost file range chosen h cost true) same own; within = omega arith; behind = λ e. absurd (both_ways false refl (sym e)) };
    }
