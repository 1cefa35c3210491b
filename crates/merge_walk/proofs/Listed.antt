-- The messages of a piece, one after the other.
use Rattle.std.proofs.Common.{◌≡◌, ◌⊎◌, ℕ, zero, suc, ◌+◌, ◌<◌, Bool, true, false, List, [], ◌∷◌, ◌++◌, length, cond, sym, ap, refl, inl, inr, arith}
use Rattle.std.proofs.lemmas.List.{length-append}
use Rattle.std.proofs.lemmas.Option.{same_Some}
use Rattle.mcap_model.specs.Places.{At}
use Rattle.mcap_model.specs.Tops.{Top, top_bytes, spelled}
use Rattle.mcap_model.proofs.Places.{at_none}
use Rattle.mcap_model.proofs.Lists.{at_either, pairs_at, pairs_from}
use Rattle.mcap_model.proofs.Readings.{length-top}
use Rattle.mcap_scan.specs.Heads.{head_of}
use Rattle.mcap_scan.specs.HeadTimes.{time_in, is_headed}
use Rattle.merge_walk.specs.SpanHeads.{set_at, heads_one, heads_from}
use Rattle.mcap_scan.specs.declared.message_heads.MessageHead.{MessageHead}
use Rattle.merge_walk.specs.Heads.{OffsetsRise}

-- ---- messages that are listed

-- a message that is listed, with its record
pub record HeadFound (at : ℕ) (tops : List Top) (e : MessageHead) : Type 0 where
  pub front : List Top
  pub found : Top
  pub back : List Top
  pub split : tops ≡ front ++ found ∷ back
  pub place : e.offset ≡ at + length (spelled front)
  pub kind : is_headed found ≡ true
  pub time : e.time ≡ time_in found.content

pub head_found : (at : ℕ) (tops : List Top) (n : ℕ) (e : MessageHead) → At (heads_from at tops) n e → HeadFound at tops e
head_found at [] n e there = absurd (at_none n e there)
head_found at (t ∷ ts) n e there = by (λ k behind. head_found (at + length (top_bytes t)) ts k e behind) (at_either (heads_one at t) (heads_from (at + length (top_bytes t)) ts) n e there)
  where
    one : (b : Bool) → is_headed t ≡ b → (k : ℕ) → At (cond b (head_of (set_at at t) ∷ []) []) k e → HeadFound at (t ∷ ts) e
    one false is k here = absurd (at_none k e here)
    one true is zero here =
        let same : head_of (set_at at t) ≡ e = same_Some (head_of (set_at at t)) e here in
        let inner : at ≡ e.offset = ap (λ (x : MessageHead). x.offset) same in
        record {
          front = [];
          found = t;
          back = ts;
          split = refl;
          place = omega (arith, inner);
          kind = is;
          time = sym (ap (λ (x : MessageHead). x.time) same);
        }
    one true is (suc k) here = absurd (at_none k e here)

    by : ((k : ℕ) → At (heads_from (at + length (top_bytes t)) ts) k e → HeadFound (at + length (top_bytes t)) ts e)
        → At (heads_one at t) n e ⊎ ((k : ℕ) × (n ≡ length (heads_one at t) + k) × At (heads_from (at + length (top_bytes t)) ts) k e) → HeadFound at (t ∷ ts) e
    by later (inl here) = one (is_headed t) refl n here
    by later (inr (k, is, behind)) =
        let f = later k behind in
        let place = f.place in
        record {
          front = t ∷ f.front;
          found = f.found;
          back = f.back;
          split = ap (λ (l : List Top). t ∷ l) f.split;
          place = omega (arith, place, length-append (top_bytes t) (spelled f.front));
          kind = f.kind;
          time = f.time;
        }

only_one : (at : ℕ) (t : Top) (c : Bool) (k : ℕ) (e : MessageHead) → At (cond c (head_of (set_at at t) ∷ []) []) k e → (k ≡ 0) × (e.offset ≡ at)
only_one at t false k e here = absurd (at_none k e here)
only_one at t true zero e here = (refl, sym (ap (λ (x : MessageHead). x.offset) (same_Some (head_of (set_at at t)) e here)))
only_one at t true (suc k) e here = absurd (at_none k e here)

module _ (at : ℕ) (t : Top) (ts : List Top) where
  abbrev behind : List MessageHead
  behind = heads_from (at + length (top_bytes t)) ts

  -- one of a record, or of those behind it
  abbrev Stands : ℕ → MessageHead → Type 0
  Stands i a = At (heads_one at t) i a ⊎ ((k : ℕ) × (i ≡ length (heads_one at t) + k) × At behind k a)

  apart_by : OffsetsRise behind → (i j : ℕ) (a b : MessageHead) → i < j → Stands i a → Stands j b → a.offset < b.offset
  apart_by rest i j a b less (inl one) (inl other) =
      let here = only_one at t (is_headed t) i a one in
      let there = only_one at t (is_headed t) j b other in
      let first = here.0 in
      let second = there.0 in
      absurd (omega (arith, less, first, second))
  apart_by rest i j a b less (inl one) (inr (k, is, at_b)) =
      let here = only_one at t (is_headed t) i a one in
      let f = head_found (at + length (top_bytes t)) ts k b at_b in
      let place = f.place in
      let inner = here.1 in
      omega (arith, inner, place, length-top t)
  apart_by rest i j a b less (inr (k, is, at_a)) (inl other) =
      let there = only_one at t (is_headed t) j b other in
      let second = there.0 in
      absurd (omega (arith, less, second))
  apart_by rest i j a b less (inr (k, is, at_a)) (inr (l, js, at_b)) = pairs_at (λ (x : MessageHead) (y : MessageHead). x.offset < y.offset) behind rest k l a b (omega (arith, less, is, js)) at_a at_b

-- each stands behind those in front of it
pub heads_apart : (at : ℕ) (tops : List Top) → OffsetsRise (heads_from at tops)
heads_apart at [] = pairs_from (λ (a : MessageHead) (b : MessageHead). a.offset < b.offset) [] (λ i j a b less at_a at_b. absurd (at_none i a at_a))
heads_apart at (t ∷ ts) =
    let rest = heads_apart (at + length (top_bytes t)) ts in
    let behind = heads_from (at + length (top_bytes t)) ts in
    pairs_from (λ (a : MessageHead) (b : MessageHead). a.offset < b.offset) (heads_from at (t ∷ ts)) (λ i j a b less at_a at_b.
    apart_by at t ts rest i j a b less (at_either (heads_one at t) behind i a at_a) (at_either (heads_one at t) behind j b at_b))
