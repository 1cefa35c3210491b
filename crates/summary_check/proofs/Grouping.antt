-- The group of a summary's records of one opcode.
use Rattle.std.proofs.Common.{◌≡◌, ℕ, zero, suc, ◌+◌, ◌-◌, ◌<◌, ◌≤◌, List, [], ◌∷◌, ◌++◌, length, take, drop, refl, sym, ap, subst, inl, inr, ◌∙◌, append_assoc, arith}
use Rattle.std.specs.Prelude.{◌≢◌}
use Rattle.std.proofs.lemmas.Bool.{cases_lt}
use Rattle.std.proofs.lemmas.List.{length-append, length-drop, length-take-le, take-append-drop}
use Rattle.std.proofs.lemmas.Grind.{flat_map-append}
use Rattle.std.proofs.Math.Seq.{take-add, take-append_seam}
use Rattle.mcap_model.specs.Places.{At, Each}
use Rattle.mcap_model.specs.Tops.{Top, top_bytes, spelled, offset_behind}
use Rattle.mcap_model.specs.Rules.{HasDataEnd}
use Rattle.mcap_model.specs.Whole.{offset_of, behind_end, StartsWith, EndsWith, IsGroup}
use Rattle.mcap_model.proofs.Places.{at_none, at_within, at_kept, at_last}
use Rattle.mcap_model.proofs.Lists.{at_either, at_second, at_taken, cut_at}
use Rattle.summary_check.specs.Laid.{all_of, EndsWithDataEnd}
use Rattle.mcap_model.proofs.TakenRecords.{ended_front}
use Rattle.summary_check.proofs.Laying.{length-all, body_there, body_back, before_body, within_body, behind_ended, has_end}

at_dropped : {X : Type 0} (n : ℕ) (xs : List X) (k : ℕ) (x : X) → At (drop n xs) k x → At xs (n + k) x
at_dropped zero xs k x at = let same : k ≡ 0 + k = omega arith in subst (λ (m : ℕ). At xs m x) same at
at_dropped (suc n) [] k x at = absurd (at_none k x at)
at_dropped (suc n) (y ∷ ys) k x at =
    let same : suc (n + k) ≡ suc n + k = omega arith in
    subst (λ (m : ℕ). At (y ∷ ys) m x) same (at_dropped n ys k x at)

dropped_at : {X : Type 0} (n : ℕ) (xs : List X) (k : ℕ) (x : X) → At xs (n + k) x → At (drop n xs) k x
dropped_at zero xs k x at = let same : 0 + k ≡ k = omega arith in subst (λ (m : ℕ). At xs m x) same at
dropped_at (suc n) [] k x at = absurd (at_none (suc n + k) x at)
dropped_at (suc n) (y ∷ ys) k x at =
    let same : suc n + k ≡ suc (n + k) = omega arith in
    dropped_at n ys k x (subst (λ (m : ℕ). At (y ∷ ys) m x) same at)

ends_there : (op : ℕ) (group : List Top) (m : ℕ) (u : Top) → At group m u → u.op ≡ op → length group ≡ suc m → EndsWith op group
ends_there op group m u at kind size =
    let cut = cut_at group m u at in
    let parts = ap length cut.1 in
    let front = length-take-le m group (omega (arith, size)) in
    let none = empty cut.0 (omega (arith, size, parts, front, length-append (take m group) (u ∷ cut.0))) in
    (take m group, u, cut.1 ∙ ap (λ (l : List Top). take m group ++ u ∷ l) none, kind)
  where
    empty : (l : List Top) → length l ≤ 0 → l ≡ []
    empty [] few = refl
    empty (x ∷ xs) few = absurd (omega (arith, few))

some_first : (op : ℕ) (group : List Top) → StartsWith op group → 0 < length group
some_first op group (x, others, is, kind) = let size_is = ap length is in omega (arith, size_is)

-- a group begins with a record of the summary
pub group_first : (tops body : List Top) (foot : Top) → EndsWithDataEnd tops → (op offset size : ℕ) (g : IsGroup (all_of tops body foot) op offset size)
    → (k : ℕ) × (x : Top) × (length g.front ≡ length tops + k) × (k < length body) × At body k x × (x.op ≡ op)
group_first tops body foot ended op offset size g =
    let (x, others, is, kind) = g.starts in
    let some = some_first op g.group g.starts in
    let parts = length-append g.front (g.group ++ (g.back ++ g.footer ∷ [])) in
    let room : suc (length g.front) < length (all_of tops body foot) = omega (arith, ap length g.joined, parts, length-append g.group (g.back ++ g.footer ∷ []), length-append g.back (g.footer ∷ []), some) in
    let front : take (length g.front) (all_of tops body foot) ≡ g.front = ap (take (length g.front)) g.joined ∙ take-append_seam g.front (g.group ++ (g.back ++ g.footer ∷ [])) in
    let there : At (all_of tops body foot) (length g.front) x =
    subst (λ (l : List Top). At l (length g.front) x) (sym g.joined) (subst (λ (l : List Top). At (g.front ++ (l ++ (g.back ++ g.footer ∷ []))) (length g.front) x) (sym is) (at_last g.front x (others ++ (g.back ++ g.footer ∷ [])))) in
    let (k, place, less) = within_body tops body foot ended (length g.front) (subst HasDataEnd (sym front) g.within, room) in
    (k, x, place, less, body_back tops body foot k x less (subst (λ (m : ℕ). At (all_of tops body foot) m x) place there), kind)

module _ (tops body : List Top) (foot : Top) (ended : EndsWithDataEnd tops) (op i j : ℕ) (t u : Top) (at_i : At body i t) (is_i : t.op ≡ op) (at_j : At body j u) (is_j : u.op ≡ op) (between : (k : ℕ) (x : Top) → At body k x → x.op ≡ op → (i ≤ k) × (k ≤ j)) where
  abbrev all : List Top
  all = all_of tops body foot

  abbrev width : ℕ
  width = suc (j - i)

  rising : i ≤ j
  rising = (between i t at_i is_i).1

  near : j < length body
  near = at_within body j u at_j

  abbrev group : List Top
  group = take width (drop i body)

  abbrev back : List Top
  back = drop width (drop i body)

  size_group : length group ≡ width
  size_group = length-take-le (suc (j - i)) (drop i body) (omega (arith, rising, near, length-drop i body))

  parts : body ≡ take i body ++ (group ++ back)
  parts = sym (take-append-drop i body) ∙ ap (λ (l : List Top). take i body ++ l) (sym (take-append-drop width (drop i body)))

  joined : all ≡ (tops ++ take i body) ++ (group ++ (back ++ foot ∷ []))
  joined =
      ap (λ (l : List Top). tops ++ (l ++ foot ∷ [])) parts
      ∙ ap (λ (l : List Top). tops ++ l) (append_assoc (take i body) (group ++ back) (foot ∷ []) ∙ ap (λ (l : List Top). take i body ++ l) (append_assoc group back (foot ∷ [])))
      ∙ sym (append_assoc tops (take i body) (group ++ (back ++ foot ∷ [])))

  begins : StartsWith op group
  begins =
      let first : At (drop i body) 0 t = dropped_at i body 0 t (let same : i ≡ i + 0 = omega arith in subst (λ (m : ℕ). At body m t) same at_i) in
      let cut = cut_at (take (suc (j - i)) (drop i body)) 0 t (at_taken (drop i body) (suc (j - i)) 0 t (omega arith) first) in
      (t, cut.0, cut.1, is_i)

  ends : EndsWith op group
  ends =
      let last : At (drop i body) (j - i) u = dropped_at i body (j - i) u (let same : j ≡ i + (j - i) = omega (arith, rising) in subst (λ (m : ℕ). At body m u) same at_j) in
      ends_there op (take (suc (j - i)) (drop i body)) (j - i) u (at_taken (drop i body) (suc (j - i)) (j - i) u (omega arith) last) is_j size_group

  none_before : Each (λ x. x.op ≢ op) (take i body)
  none_before k x at same =
      let there = taken_below body i k x at in
      let from = (between k x there.1 same).0 in
      let below = there.0 in
      omega (arith, from, below)
    where
      taken_below : (xs : List Top) (n m : ℕ) (y : Top) → At (take n xs) m y → (m < n) × At xs m y
      taken_below xs zero m y here = absurd (at_none m y here)
      taken_below [] (suc n) m y here = absurd (at_none m y here)
      taken_below (x ∷ xs) (suc n) zero y here = (omega arith, here)
      taken_below (x ∷ xs) (suc n) (suc m) y here = let more = taken_below xs n m y here in (let less = more.0 in omega (arith, less), more.1)

  none_behind : Each (λ x. x.op ≢ op) back
  none_behind k x at same =
      let there = at_dropped i body (suc (j - i) + k) x (at_dropped (suc (j - i)) (drop i body) k x at) in
      let upto = (between (i + (suc (j - i) + k)) x there same).1 in
      omega (arith, upto, rising)

  size_there : offset_of all (suc (length tops + j)) ≡ offset_of all (length tops + i) + length (spelled group)
  size_there =
      let here : suc (length tops + j) ≡ length tops + (i + suc (j - i)) = omega (arith, rising) in
      let one = ap offset_behind (before_body tops body foot i (omega (arith, rising, near))) in
      let two = ap offset_behind (ap (λ (m : ℕ). take m (all_of tops body foot)) here ∙ before_body tops body foot (i + suc (j - i)) (omega (arith, rising, near)) ∙ ap (λ (l : List Top). tops ++ l) (take-add i (suc (j - i)) body)) in
      let a = ap length (flat_map-append top_bytes tops (take i body)) in
      let b = ap length (flat_map-append top_bytes tops (take i body ++ take (suc (j - i)) (drop i body))) in
      let c = ap length (flat_map-append top_bytes (take i body) (take (suc (j - i)) (drop i body))) in
      omega (
        arith,
        one,
        two,
        a,
        b,
        c,
        length-append (spelled tops) (spelled (take i body)),
        length-append (spelled tops) (spelled (take i body ++ take (suc (j - i)) (drop i body))),
        length-append (spelled (take i body)) (spelled (take (suc (j - i)) (drop i body))),
      )

  pub group_there : (offset size : ℕ) → offset ≡ offset_of (all_of tops body foot) (length tops + i) → offset + size ≡ offset_of (all_of tops body foot) (suc (length tops + j)) → IsGroup (all_of tops body foot) op offset size
  group_there offset size first last = record {
    front = tops ++ take i body;
    group = group;
    back = back;
    footer = foot;
    joined = joined;
    within = ended_front tops (take i body) (has_end tops ended);
    starts = begins;
    ends = ends;
    none_before = subst (Each (λ x. x.op ≢ op)) (sym (behind_ended tops (take i body) ended)) none_before;
    none_behind = none_behind;
    offset_is = first ∙ ap offset_behind (before_body tops body foot i (omega (arith, rising, near)));
    size_is = omega (arith, first, last, size_there);
  }

  module _ (offset size : ℕ) (g : IsGroup (all_of tops body foot) op offset size) where
    length-parts : length (all_of tops body foot) ≡ length g.front + (length g.group + (length g.back + 1))
    length-parts = omega (arith, ap length g.joined, length-append g.front (g.group ++ (g.back ++ g.footer ∷ [])), length-append g.group (g.back ++ g.footer ∷ []), length-append g.back (g.footer ∷ []))

    front_is : take (length g.front) (all_of tops body foot) ≡ g.front
    front_is = ap (take (length g.front)) g.joined ∙ take-append_seam g.front (g.group ++ (g.back ++ g.footer ∷ []))

    -- the first record of a group is the first of its opcode
    first_place : length g.front ≡ length tops + i
    first_place =
        let (k, x, place, less, at, kind) = group_first tops body foot ended op offset size g in
        by k place less x kind at
      where
        by : (k : ℕ) → length g.front ≡ length tops + k → k < length body → (x : Top) → x.op ≡ op → At body k x → length g.front ≡ length tops + i
        by k place less x kind at = elim (cases_lt i k) [
          | inl under ↦
              let none = g.none_before in
              let front : g.front ≡ tops ++ take k body = sym front_is ∙ ap (λ (m : ℕ). take m (all_of tops body foot)) place ∙ before_body tops body foot k (omega (arith, less)) in
              let behind = ap (λ (l : List Top). l) (behind_ended tops (take k body) ended) in
              absurd (subst (Each (λ y. y.op ≢ op)) behind (subst (λ (l : List Top). Each (λ y. y.op ≢ op) (behind_end l)) front none) i t (at_taken body k i t under at_i) is_i)
          | inr over ↦ let from = (between k x at kind).0 in omega (arith, place, over, from)
        ]

    -- and the last is the last
    last_place : length g.front + length g.group ≡ suc (length tops + j)
    last_place =
        let (front, x, is, kind) = g.ends in
        let some = some_first op g.group g.starts in
        let size_is = ap length is in
        let last = length g.front + length front in
        let count : length g.group ≡ suc (length front) = omega (arith, size_is, length-append front (x ∷ [])) in
        let there : At (all_of tops body foot) (length g.front + length front) x =
        subst (λ (l : List Top). At l (length g.front + length front) x) (sym g.joined)
        (at_second g.front (g.group ++ (g.back ++ g.footer ∷ [])) (length front) x
        (at_kept g.group (g.back ++ g.footer ∷ []) (length front) x (subst (λ (l : List Top). At l (length front) x) (sym is) (at_last front x [])))) in
        let k = i + length front in
        let place : length g.front + length front ≡ length tops + (i + length front) = omega (arith, first_place) in
        let inside : i + length front < length body = omega (arith, length-parts, length-all tops body foot, first_place, count) in
        by (i + length front) (omega (arith, place, count)) inside x kind (body_back tops body foot (i + length front) x inside (subst (λ (m : ℕ). At (all_of tops body foot) m x) place there))
      where
        later : (q : ℕ) (y : Top) → At (g.front ++ (g.group ++ (g.back ++ g.footer ∷ []))) (length g.front + (length g.group + q)) y → q < length g.back → At g.back q y
        later q y at less = in_back (dropped_at (length g.group) (g.group ++ (g.back ++ g.footer ∷ [])) q y (second g.front (g.group ++ (g.back ++ g.footer ∷ [])) (length g.group + q) y at))
          where
            second : (xs ys : List Top) (m : ℕ) (z : Top) → At (xs ++ ys) (length xs + m) z → At ys m z
            second [] ys m z here = let same : 0 + m ≡ m = omega arith in subst (λ (n : ℕ). At ys n z) same here
            second (w ∷ ws) ys m z here = let same : suc (length ws) + m ≡ suc (length ws + m) = omega arith in second ws ys m z (subst (λ (n : ℕ). At (w ∷ (ws ++ ys)) n z) same here)

            in_back : At (drop (length g.group) (g.group ++ (g.back ++ g.footer ∷ []))) q y → At g.back q y
            in_back here = elim (at_either g.back (g.footer ∷ []) q y (second g.group (g.back ++ g.footer ∷ []) q y (at_dropped (length g.group) (g.group ++ (g.back ++ g.footer ∷ [])) q y here))) [
              | inl first ↦ first
              | inr (k, is, _) ↦ absurd (omega (arith, is, less))
            ]

        by : (k : ℕ) → length g.front + length g.group ≡ suc (length tops + k) → k < length body → (x : Top) → x.op ≡ op → At body k x → length g.front + length g.group ≡ suc (length tops + j)
        by k place less x kind at = elim (cases_lt k j) [
          | inl under ↦
              let none = g.none_behind in
              let q = j - suc k in
              let there = subst (λ (l : List Top). At l (length tops + j) u) g.joined (body_there tops body foot j u at_j) in
              let spot : length tops + j ≡ length g.front + (length g.group + (j - suc k)) = omega (arith, place, under) in
              let inside : j - suc k < length g.back = omega (arith, length-parts, length-all tops body foot, place, under, near) in
              absurd (none (j - suc k) u (later (j - suc k) u (subst (λ (m : ℕ). At (g.front ++ (g.group ++ (g.back ++ g.footer ∷ []))) m u) spot there) inside) is_j)
          | inr over ↦ let upto = (between k x at kind).1 in omega (arith, place, over, upto)
        ]

    pub group_offset : offset ≡ offset_of (all_of tops body foot) (length tops + i)
    group_offset = g.offset_is ∙ ap offset_behind (sym front_is) ∙ ap (offset_of (all_of tops body foot)) first_place

    pub group_end : offset + size ≡ offset_of (all_of tops body foot) (suc (length tops + j))
    group_end =
        let all_front = g.joined ∙ sym (append_assoc g.front g.group (g.back ++ g.footer ∷ [])) in
        let front : take (length g.front + length g.group) (all_of tops body foot) ≡ g.front ++ g.group =
        ap (take (length g.front + length g.group)) all_front
        ∙ ap (λ (m : ℕ). take m ((g.front ++ g.group) ++ (g.back ++ g.footer ∷ []))) (sym (length-append g.front g.group))
        ∙ take-append_seam (g.front ++ g.group) (g.back ++ g.footer ∷ []) in
        let text = ap length (flat_map-append top_bytes g.front g.group) in
        let whole : offset_of (all_of tops body foot) (length g.front + length g.group) ≡ offset_behind g.front + length (spelled g.group) =
        omega (arith, ap offset_behind front, text, length-append (spelled g.front) (spelled g.group)) in
        omega (arith, g.offset_is, g.size_is, whole, ap (offset_of (all_of tops body foot)) last_place)
