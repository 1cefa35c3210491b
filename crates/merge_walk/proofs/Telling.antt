-- What spans say of messages.
use Rattle.std.proofs.Common.{◌≡◌, ℕ, zero, suc, Bool, true, false, List, [], ◌∷◌, length, fold, refl, subst, Option, Some, None}
use Rattle.std.specs.Prelude.{if◌then◌else◌}
use Rattle.std.proofs.lemmas.Option.{same_Some}
use Rattle.mcap_model.specs.Places.{At, Has}
use Rattle.mcap_model.specs.Tops.{is_chunk, inner_tops}
use Rattle.mcap_model.proofs.Places.{at_none}
use Rattle.merge_walk.specs.declared.spans.Span.{Span}
use Rattle.merge_walk.specs.declared.times.Extent.{Extent}
use Rattle.merge_walk.specs.Times.{times_of, extent_of, with_time}
use Rattle.merge_walk.specs.Surveys.{TimesSpan}
use Rattle.merge_walk.specs.Spans.{spans_made, spans_in_chunk, spans_alone}
use Rattle.merge_walk.specs.SurveyLaws.{SpansTellTimes, SilentRecordsHaveNone}
use Rattle.merge_walk.proofs.Facts.{extent_is}

abbrev IsTold : ℕ → List ℕ → Span → Type 0
IsTold offset times s = (s.offset ≡ offset) × TimesSpan times s.least s.greatest s.in_order × (s.messages ≡ length times)

made_of : (offset at len : ℕ) (times : List ℕ) (e : Option Extent) (s : Span) → extent_of times ≡ e → Has (spans_made offset at len (length times) e) s → IsTold offset times s
made_of offset at len times None s is has = absurd (at_none has.0 s has.1)
made_of offset at len times (Some e) s is has = by has.0 has.1
  where
    made : Span
    made = record { offset = offset; at = at; length = len; messages = length times; least = e.least; greatest = e.greatest; in_order = e.in_order }

    by : (n : ℕ) → At (made ∷ []) n s → IsTold offset times s
    by zero there =
        let same : made ≡ s = same_Some made s there in
        subst (IsTold offset times) same (refl, extent_is times e is, refl)
    by (suc n) there = absurd (at_none n s there)

pub spans_tell_times : SpansTellTimes
spans_tell_times offset t s has = by (is_chunk t) has
  where
    by : (b : Bool) → Has (if b then spans_in_chunk offset t else spans_alone offset t) s → IsTold offset (times_of (if b then inner_tops t else t ∷ [])) s
    by true there = made_of offset _ _ (times_of (inner_tops t)) (extent_of (times_of (inner_tops t))) s refl there
    by false there = made_of offset _ _ (times_of (t ∷ [])) (extent_of (times_of (t ∷ []))) s refl there

-- times that are some have an extent
goes_on : (times : List ℕ) (e : Extent) → fold with_time (Some e) times ≡ None → ⊥
goes_on [] e is = some_none e is
  where
    some_none : (x : Extent) → Some x ≡ None → ⊥
    some_none x same = cc
goes_on (t ∷ ts) e is = goes_on ts _ is

silent : (offset at len count : ℕ) (times : List ℕ) (e : Option Extent) → extent_of times ≡ e → spans_made offset at len count e ≡ [] → times ≡ []
silent offset at len count [] e is none = refl
silent offset at len count (t ∷ ts) None is none = absurd (goes_on ts _ is)
silent offset at len count (t ∷ ts) (Some e) is none = absurd (cons_none none)
  where
    cons_none : {X : Type 0} {x : X} {xs : List X} → x ∷ xs ≡ [] → ⊥
    cons_none same = cc

pub silent_records_have_none : SilentRecordsHaveNone
silent_records_have_none offset t none = by (is_chunk t) none
  where
    by : (b : Bool) → (if b then spans_in_chunk offset t else spans_alone offset t) ≡ [] → times_of (if b then inner_tops t else t ∷ []) ≡ []
    by true is = silent offset _ _ _ (times_of (inner_tops t)) (extent_of (times_of (inner_tops t))) refl is
    by false is = silent offset _ _ _ (times_of (t ∷ [])) (extent_of (times_of (t ∷ []))) refl is
