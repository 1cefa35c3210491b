-- Heads of messages, and the parts of the payloads that are theirs.
use Rattle.std.proofs.Common.{◌≡◌, ℕ, Bool, true, false, cond, suc, ◌+◌, ◌-◌, ◌<◌, ◌≤◌, List, [], ◌∷◌, ◌++◌, length, get_or, take, drop, map, refl, sym, ap, subst, ◌∙◌, length-append, length-drop, inl, inr, Some, arith}
use Rattle.std.specs.Prelude.{IsPermutation, Contains}
use Rattle.std.specs.List.{dedup, dedup_from}
use Rattle.std.specs.Option.{option_map}
use Rattle.std.proofs.lemmas.List.Kept.{Contains-from_dedup}
use Rattle.std.proofs.lemmas.List.{take-append-le, drop-append-le, map-append, get_or-map, length-map}
use Rattle.std.proofs.lemmas.Option.{slice_get-map}
use Rattle.std.proofs.lemmas.List.Sorted.{Contains-permutation, IsPermutation-sym}
use Rattle.std.proofs.Math.Seq.{drop-append_seam, take-length}
use Rattle.mcap_wire.specs.Layout.{part}
use Rattle.mcap_model.specs.declared.replay.Shown.{Shown}
use Rattle.mcap_model.specs.declared.table.Declared.{Declared}
use Rattle.mcap_model.specs.Places.{At, Has}
use Rattle.mcap_model.specs.Plain.{NotBehind, InOrder}
use Rattle.mcap_model.proofs.Places.{at_none, at_read, at_kept, at_last, at_more}
use Rattle.mcap_model.proofs.NamedTopics.{contained, has_there}
use Rattle.time_player.specs.declared.kept.Head.{Head}
use Rattle.time_player.specs.Heads.{shown_in, same_place, AreWithin, HeadsInOrder, Represents}

-- whether two heads have one time and one place
abbrev pub same_head : Head → Head → Bool
same_head h i = same_place (shown_in [] h) (shown_in [] i)

part_kept : (from to : ℕ) (xs ys : List ℕ) → from ≤ to → to ≤ length xs → part from to (xs ++ ys) ≡ part from to xs
part_kept from to xs ys begins ends =
    ap (take (to - from)) (drop-append-le from xs ys (omega arith)) ∙ take-append-le (to - from) (drop from xs) ys (omega (arith, length-drop from xs))

part_last : (xs ys : List ℕ) → part (length xs) (length (xs ++ ys)) (xs ++ ys) ≡ ys
part_last xs ys =
    let many : length (xs ++ ys) - length xs ≡ length ys = omega (arith, length-append xs ys) in
    ap (take (length (xs ++ ys) - length xs)) (drop-append_seam xs ys) ∙ ap (λ (n : ℕ). take n ys) many ∙ take-length ys

abbrev pub with_payload : Head → List ℕ → Shown
with_payload h payload = record { place = h.place; log_time = h.log_time; publish_time = h.publish_time; channel = h.channel; sequence = h.sequence; payload = payload }

-- messages keep their parts where payloads are added
still_shown : (heads : List Head) (xs ys : List ℕ) → AreWithin heads (length xs) → map (shown_in (xs ++ ys)) heads ≡ map (shown_in xs) heads
still_shown [] xs ys within = refl
still_shown (h ∷ hs) xs ys within =
    let here = within 0 h refl in
    ap (λ (s : Shown). s ∷ map (shown_in (xs ++ ys)) hs) (ap (with_payload h) (part_kept h.from h.to xs ys here.0 here.1))
    ∙ ap (λ (l : List Shown). shown_in xs h ∷ l) (still_shown hs xs ys (λ n i at. within (suc n) i at))

pub one_more : (heads : List Head) (xs ys : List ℕ) (h : Head) (all : List ℕ) (more : List Head) → AreWithin heads (length xs) → all ≡ xs ++ ys → more ≡ heads ++ h ∷ [] → h.from ≡ length xs → h.to ≡ length all
    → map (shown_in all) more ≡ map (shown_in xs) heads ++ with_payload h ys ∷ []
one_more heads xs ys h all more within all_is more_is from_is to_is =
    let last : part h.from h.to all ≡ ys = ap (λ (n : ℕ). part n h.to all) from_is ∙ ap (λ (n : ℕ). part (length xs) n all) to_is ∙ ap (λ (l : List ℕ). part (length xs) (length l) l) all_is ∙ part_last xs ys in
    ap (map (shown_in all)) more_is
    ∙ map-append (shown_in all) heads (h ∷ [])
    ∙ ap (λ (s : Shown). map (shown_in all) heads ++ s ∷ []) (ap (with_payload h) last)
    ∙ ap (λ (l : List ℕ). map (shown_in l) heads ++ with_payload h ys ∷ []) all_is
    ∙ ap (λ (l : List Shown). l ++ with_payload h ys ∷ []) (still_shown heads xs ys within)

-- the message of the head at a place, where the payload is its part
pub shown_there : (heads : List Head) (payloads : List ℕ) (i : ℕ) (h : Head) (payload : List ℕ) → i < length heads → h ≡ get_or heads i h → payload ≡ part h.from h.to payloads → At (map (shown_in payloads) heads) i (with_payload h payload)
shown_there heads payloads i h payload within is part_is =
    slice_get-map (shown_in payloads) heads i
    ∙ ap (option_map (shown_in payloads)) (at_read heads i h within)
    ∙ ap (λ (x : Head). Some (shown_in payloads x)) (sym is)
    ∙ ap (λ (l : List ℕ). Some (with_payload h l)) (sym part_is)

-- ---- order

made_head : Shown → Head
made_head s = record { place = s.place; log_time = s.log_time; publish_time = s.publish_time; channel = s.channel; sequence = s.sequence; from = 0; to = 0 }

pub shown_in_order : (heads : List Head) (payloads : List ℕ) → HeadsInOrder heads → InOrder (map (shown_in payloads) heads)
shown_in_order heads payloads order k d within =
    let e = made_head d in
    let f = shown_in payloads in
    let lt : k + 1 < length heads = omega (arith, within, length-map heads f) in
    let one : get_or (map f heads) k d ≡ f (get_or heads k e) = get_or-map f heads k e d (omega (arith, lt)) in
    let next : get_or (map f heads) (k + 1) d ≡ f (get_or heads (k + 1) e) = get_or-map f heads (k + 1) e d lt in
    subst (λ (s : Shown). NotBehind s (get_or (map f heads) (k + 1) d)) (sym one) (subst (NotBehind (f (get_or heads k e))) (sym next) (order k e lt))

-- heads in another order keep their parts
pub still_within : (old new : List Head) (len : ℕ) → IsPermutation old new → AreWithin old len → AreWithin new len
still_within old new len moved within n h at =
    let there = has_there old h (Contains-permutation new old h (IsPermutation-sym old new moved) (contained new h (n, at))) in
    within there.0 h there.1

-- ---- one of each time and place

dedup_shown : (payloads : List ℕ) (h : Head) (hs : List Head) → map (shown_in payloads) (dedup_from same_head h hs) ≡ dedup_from same_place (shown_in payloads h) (map (shown_in payloads) hs)
dedup_shown payloads h [] = refl
dedup_shown payloads h (i ∷ hs) = by (same_head i h) (dedup_shown payloads h hs) (dedup_shown payloads i hs)
  where
    by : (b : Bool) → map (shown_in payloads) (dedup_from same_head h hs) ≡ dedup_from same_place (shown_in payloads h) (map (shown_in payloads) hs) → map (shown_in payloads) (dedup_from same_head i hs) ≡ dedup_from same_place (shown_in payloads i) (map (shown_in payloads) hs)
        → map (shown_in payloads) (cond b (dedup_from same_head h hs) (h ∷ dedup_from same_head i hs)) ≡ cond b (dedup_from same_place (shown_in payloads h) (map (shown_in payloads) hs)) (shown_in payloads h ∷ dedup_from same_place (shown_in payloads i) (map (shown_in payloads) hs))
    by true skipped kept = skipped
    by false skipped kept = ap (λ (l : List Shown). shown_in payloads h ∷ l) kept

pub doubles_dropped : (payloads : List ℕ) (heads : List Head) → map (shown_in payloads) (dedup same_head heads) ≡ dedup same_place (map (shown_in payloads) heads)
doubles_dropped payloads [] = refl
doubles_dropped payloads (h ∷ hs) = dedup_shown payloads h hs

pub fewer_within : (old new : List Head) (len : ℕ) → new ≡ dedup same_head old → AreWithin old len → AreWithin new len
fewer_within old new len is within n h at =
    let there = has_there old h (Contains-from_dedup same_head old h (subst (λ (l : List Head). Contains l h) is (contained new h (n, at)))) in
    within there.0 h there.1

-- ---- one message of each channel

pub represents_none : (known : List Declared) (few : List Shown) → known ≡ [] → few ≡ [] → Represents [] known few
represents_none known few unknown none = record {
  are = record {
    are = λ s has. absurd (at_none has.0 s (subst (λ (l : List Shown). At l has.0 s) none has.1));
    each = λ r has. absurd (at_none has.0 r has.1);
  };
  named = λ k d at. absurd (at_none k d (subst (λ (l : List Declared). At l k d) unknown at));
}

front : {X : Type 0} (xs : List X) (x y : X) → Has xs y → Has (xs ++ x ∷ []) y
front xs x y has = (has.0, at_kept xs (x ∷ []) has.0 y has.1)

last : {X : Type 0} (xs : List X) (x : X) → Has (xs ++ x ∷ []) x
last xs x = (length xs, at_last xs x [])

-- a message whose channel has one already
pub known_channel : (before : List Shown) (known : List Declared) (few : List Shown) (s : Shown) → Represents before known few → (k : ℕ) × (d : Declared) × At known k d × (d.id ≡ s.channel) → Represents (before ++ s ∷ []) known few
known_channel before known few s was found = record {
  are = record {
    are = λ t has. let r = was.are.are t has in (r.0, front before s r.0 r.1, r.2);
    each = λ r has. elim (at_more before s has.0 r has.1) [
      | inl old ↦ was.are.each r (has.0, old)
      | inr new ↦
          let t = was.named found.0 found.1 found.2 in
          (t.0, t.1, t.2 ∙ found.3 ∙ ap (λ (u : Shown). u.channel) (sym new.1))
    ];
  };
  named = was.named;
}

-- a message whose channel has none yet
pub new_channel : (before : List Shown) (known : List Declared) (few : List Shown) (s t : Shown) (e : Declared) → Represents before known few → t.channel ≡ s.channel → t.channel ≡ e.id → Represents (before ++ s ∷ []) (known ++ e ∷ []) (few ++ t ∷ [])
new_channel before known few s t e was of is = record {
  are = record {
    are = λ u has. elim (at_more few t has.0 u has.1) [
      | inl old ↦ let r = was.are.are u (has.0, old) in (r.0, front before s r.0 r.1, r.2)
      | inr new ↦ (s, last before s, sym of ∙ ap (λ (v : Shown). v.channel) (sym new.1))
    ];
    each = λ r has. elim (at_more before s has.0 r has.1) [
      | inl old ↦ let u = was.are.each r (has.0, old) in (u.0, front few t u.0 u.1, u.2)
      | inr new ↦ (t, last few t, of ∙ ap (λ (v : Shown). v.channel) (sym new.1))
    ];
  };
  named = λ k d at. elim (at_more known e k d at) [
    | inl old ↦ let u = was.named k d old in (u.0, front few t u.0 u.1, u.2)
    | inr new ↦ (t, last few t, is ∙ ap (λ (v : Declared). v.id) (sym new.1))
  ];
}
