-- The replay of messages that are shown.
use Rattle.std.proofs.Common.{◌≡◌, ℕ, zero, suc, ◌+◌, ◌-◌, ◌<◌, Bool, true, false, List, [], ◌∷◌, length, get_or, map, Option, Some, None, refl, sym, ap, subst, inl, inr, ◌∙◌, cond, leb-true, arith}
use Rattle.std.specs.Prelude.{AllPairs, filter, IsPermutation, ◌&&◌, ◌==◌, nat_eq, nat_le, nat_lt}
use Rattle.std.specs.Bool.{Decides}
use Rattle.std.specs.declared.cmp.Ordering.TheVariants.{Less, Equal, Greater}
use Rattle.std.specs.Ordering.{nat_cmp, is_lt, ordering_then}
use Rattle.std.specs.List.{IsDistinct}
use Rattle.std.specs.Cmp.Lexicographic.{pointwise, bytes_decides}
use Rattle.std.proofs.lemmas.Bool.{le-leb, ne_eqb, cases_lt, ltb-false, eqb-true, eqb-false}
use Rattle.std.proofs.lemmas.Bool.Decides.{Decides-eqb, Decides-ltb, Decides-and, Decides-like, not_from_Decides}
use Rattle.std.proofs.lemmas.List.Elements.{recursion_from_All, All-from_recursion}
use Rattle.std.proofs.lemmas.List.Folds.{Any-from_list_any, list_any-from_Any}
use Rattle.std.proofs.lemmas.List.Kept.{AllPairs-filter}
use Rattle.std.proofs.lemmas.List.Sorted.{Contains-permutation, IsPermutation-sym}
use Rattle.std.proofs.lemmas.Map.Keys.{IsDistinct-IsPermutation}
use Rattle.mcap_model.specs.declared.replay.Place.{Place}
use Rattle.mcap_model.specs.declared.replay.Range.{Range}
use Rattle.mcap_model.specs.declared.replay.Shown.{Shown}
use Rattle.mcap_model.specs.declared.replay.Topic.{Topic}
use Rattle.mcap_model.specs.declared.replay.Replayed.{Replayed}
use Rattle.mcap_model.specs.Places.{At, Has}
use Rattle.mcap_model.specs.Scan.{Seen, InRange, OnTopic, IsAsked, ComesBefore, Replay, is_before_end, is_within}
use Rattle.mcap_model.specs.Showing.{shown_as, topic_as, TopicsOf, Shows}
use Rattle.mcap_model.specs.Plain.{is_used, is_named, is_chosen, PlacesDiffer, NotBehind, InOrder}
use Rattle.mcap_model.proofs.Places.{at_none, at_within, at_read, at_one}
use Rattle.mcap_model.proofs.Lists.{pairs_at, pairs_from, pairs_cons, filter_passed, filter_has}
use Rattle.mcap_model.proofs.Flat.{at_mapped}
use Rattle.mcap_model.proofs.NamedTopics.{contained, has_there, unmapped}
use Rattle.std.proofs.lemmas.Option.{same_Some}

-- ---- places that differ, in any order

abbrev same_place : Shown → Shown → Bool
same_place s r = (s.place.top == r.place.top) && (s.place.inner == r.place.inner)

same_parts : (p q : Place) → (p.top ≡ q.top) × (p.inner ≡ q.inner) → p ≡ q
same_parts p q (top, inner) = ap (λ (n : ℕ). made n p.inner) top ∙ ap (λ (n : ℕ). made q.top n) inner
  where
    made : ℕ → ℕ → Place
    made top inner = record { top = top; inner = inner }

place_decided : (s r : Shown) → Decides (same_place s r) (s.place ≡ r.place)
place_decided s r =
    Decides-like (same_place s r) (same_parts s.place r.place) (λ e. (ap (λ (p : Place). p.top) e, ap (λ (p : Place). p.inner) e))
    (Decides-and (s.place.top == r.place.top) (s.place.inner == r.place.inner) (Decides-eqb s.place.top r.place.top) (Decides-eqb s.place.inner r.place.inner))

places_apart : (s r : Shown) → (s.place ≡ r.place → ⊥) → same_place s r ≡ false
places_apart s r differ = by (same_place s r) refl
  where
    by : (b : Bool) → same_place s r ≡ b → same_place s r ≡ false
    by true is = absurd (differ ((place_decided s r).0 is))
    by false is = is

same_flips : (s r : Shown) → same_place s r ≡ same_place r s
same_flips s r = by (same_place s r) refl
  where
    by : (b : Bool) → same_place s r ≡ b → same_place s r ≡ same_place r s
    by true is = is ∙ sym ((place_decided r s).1 (sym ((place_decided s r).0 is)))
    by false is = is ∙ sym (places_apart r s (λ e. not_from_Decides (same_place s r) (place_decided s r) is (sym e)))

to_distinct : (xs : List Shown) → PlacesDiffer xs → IsDistinct same_place xs
unfolding IsDistinct
to_distinct [] differ = tt
to_distinct (x ∷ xs) differ = (
  recursion_from_All (λ y. same_place x y ≡ false) xs (λ k d within. places_apart x (get_or xs k d) (differ 0 (suc k) d (omega arith) (omega (arith, within)))),
  to_distinct xs (λ i j d less within. differ (suc i) (suc j) d (omega (arith, less)) (omega (arith, within))),
)

from_distinct : (xs : List Shown) → IsDistinct same_place xs → PlacesDiffer xs
unfolding IsDistinct
from_distinct [] distinct = λ i j d less within. absurd (omega (arith, within))
from_distinct (x ∷ xs) distinct =
    pairs_cons (λ s r. s.place ≡ r.place → ⊥) x xs
    (λ n y at. let within = at_within xs n y at in
    let is : get_or xs n y ≡ y = at_one xs n (get_or xs n y) y (at_read xs n y within) at in
    not_from_Decides (same_place x y) (place_decided x y) (subst (λ (z : Shown). same_place x z ≡ false) is (All-from_recursion (λ z. same_place x z ≡ false) xs distinct.0 n y within)))
    (from_distinct xs distinct.1)

differ_moved : (xs ys : List Shown) → IsPermutation xs ys → PlacesDiffer xs → PlacesDiffer ys
differ_moved xs ys moved differ = from_distinct ys (IsDistinct-IsPermutation same_place same_flips xs ys moved (to_distinct xs differ))

-- ---- order

behind_next : (a b c : Shown) → NotBehind a b → NotBehind b c → NotBehind a c
behind_next a b c (inl p) (inl q) = inl (omega (arith, p, q))
behind_next a b c (inl p) (inr q) = inl (omega (arith, p, q.0))
behind_next a b c (inr p) (inl q) = inl (omega (arith, p.0, q))
behind_next a b c (inr (e, inl p)) (inr (f, inl q)) = inr (e ∙ f, inl (omega (arith, p, q)))
behind_next a b c (inr (e, inl p)) (inr (f, inr q)) = inr (e ∙ f, inl (omega (arith, p, q.0)))
behind_next a b c (inr (e, inr p)) (inr (f, inl q)) = inr (e ∙ f, inl (omega (arith, p.0, q)))
behind_next a b c (inr (e, inr p)) (inr (f, inr q)) = inr (e ∙ f, inr (p.0 ∙ q.0, omega (arith, p.1, q.1)))

order_far : (xs : List Shown) → InOrder xs → (i n : ℕ) (d : Shown) → suc (i + n) < length xs → NotBehind (get_or xs i d) (get_or xs (suc (i + n)) d)
order_far xs order i zero d within =
    let is : i + 1 ≡ suc (i + 0) = omega arith in
    subst (λ (k : ℕ). NotBehind (get_or xs i d) (get_or xs k d)) is (order i d (omega (arith, within)))
order_far xs order i (suc n) d within =
    let is : suc (i + n) + 1 ≡ suc (i + suc n) = omega arith in
    behind_next (get_or xs i d) (get_or xs (suc (i + n)) d) (get_or xs (suc (i + suc n)) d) (order_far xs order i n d (omega (arith, within)))
    (subst (λ (k : ℕ). NotBehind (get_or xs (suc (i + n)) d) (get_or xs k d)) is (order (suc (i + n)) d (omega (arith, within))))

pub order_pairs : (xs : List Shown) → InOrder xs → AllPairs NotBehind xs
order_pairs xs order i j d less within =
    let is : suc (i + (j - suc i)) ≡ j = omega (arith, less) in
    subst (λ (k : ℕ). NotBehind (get_or xs i d) (get_or xs k d)) is (order_far xs order i (j - suc i) d (omega (arith, within, less)))

not_so : true ≡ false → ⊥
not_so e = cc

-- what the order of the keys says
pub not_less : (s r : Shown) → is_lt (ordering_then (ordering_then (nat_cmp s.log_time r.log_time) (nat_cmp s.place.top r.place.top)) (nat_cmp s.place.inner r.place.inner)) ≡ false → NotBehind r s
not_less s r = by (nat_lt s.log_time r.log_time) (s.log_time == r.log_time) (nat_lt s.place.top r.place.top) (s.place.top == r.place.top) (nat_lt s.place.inner r.place.inner) (s.place.inner == r.place.inner) refl refl refl refl refl
  where
    by : (l e m f n g : Bool) → nat_lt s.log_time r.log_time ≡ l → (s.log_time == r.log_time) ≡ e → nat_lt s.place.top r.place.top ≡ m → (s.place.top == r.place.top) ≡ f → nat_lt s.place.inner r.place.inner ≡ n
        → is_lt (ordering_then (ordering_then (cond l Less (cond e Equal Greater)) (cond m Less (cond f Equal Greater))) (cond n Less (cond g Equal Greater))) ≡ false → NotBehind r s
    by true e m f n g l_is e_is m_is f_is n_is less = absurd (not_so less)
    by false false m f n g l_is e_is m_is f_is n_is less = inl (omega (arith, ltb-false s.log_time r.log_time l_is, eqb-false s.log_time r.log_time e_is))
    by false true true f n g l_is e_is m_is f_is n_is less = absurd (not_so less)
    by false true false false n g l_is e_is m_is f_is n_is less = inr (sym (eqb-true s.log_time r.log_time e_is), inl (omega (arith, ltb-false s.place.top r.place.top m_is, eqb-false s.place.top r.place.top f_is)))
    by false true false true true g l_is e_is m_is f_is n_is less = absurd (not_so less)
    by false true false true false g l_is e_is m_is f_is n_is less = inr (sym (eqb-true s.log_time r.log_time e_is), inr (sym (eqb-true s.place.top r.place.top f_is), ltb-false s.place.inner r.place.inner n_is))

-- ---- messages, from how they are shown

abbrev pub first_topic : List Topic → ℕ → List ℕ
first_topic [] channel = []
first_topic (t ∷ ts) channel = cond (t.channel == channel) t.topic (first_topic ts channel)

abbrev pub seen_as : List Topic → Shown → Seen
seen_as topics s = record { place = s.place; channel = s.channel; topic = first_topic topics s.channel; message = record { sequence = s.sequence; log_time = s.log_time; publish_time = s.publish_time; payload = s.payload } }

comes_before : (topics : List Topic) (s r : Shown) → NotBehind s r → (s.place ≡ r.place → ⊥) → ComesBefore (seen_as topics s) (seen_as topics r)
comes_before topics s r (inl p) differ = inl p
comes_before topics s r (inr (e, inl p)) differ = inr (e, inl p)
comes_before topics s r (inr (e, inr (f, q))) differ = elim (cases_lt s.place.inner r.place.inner) [
  | inl less ↦ inr (e, inr (f, less))
  | inr more ↦ absurd (differ (same_parts s.place r.place (f, omega (arith, q, more))))
]

pub first_found : (topics : List Topic) → AllPairs (λ t u. t.channel < u.channel) topics → (n : ℕ) (t : Topic) → At topics n t → first_topic topics t.channel ≡ t.topic
first_found [] rises n t at = absurd (at_none n t at)
first_found (u ∷ us) rises zero t at =
    let same : u ≡ t = same_Some u t at in
    subst (λ (v : Topic). first_topic (u ∷ us) v.channel ≡ v.topic) same (ap (λ (b : Bool). cond b u.topic (first_topic us u.channel)) ((Decides-eqb u.channel u.channel).1 refl))
first_found (u ∷ us) rises (suc n) t at =
    let less : u.channel < t.channel = pairs_at (λ (v : Topic) (w : Topic). v.channel < w.channel) (u ∷ us) rises 0 (suc n) u t (omega arith) refl at in
    ap (λ (b : Bool). cond b u.topic (first_topic us t.channel)) (ne_eqb u.channel t.channel (λ e. omega (arith, less, e)))
    ∙ first_found us (λ i j d lower within. rises (suc i) (suc j) d (omega (arith, lower)) (omega (arith, within))) n t at

seen_back : (messages : List Seen) (topics : List Topic) (m : Seen) → TopicsOf messages topics → Has messages m → seen_as topics (shown_as m) ≡ m
seen_back messages topics m of has =
    let there = of.all m has in
    ap (made m) (first_found topics of.rises there.0 (topic_as m) there.1)
  where
    made : Seen → List ℕ → Seen
    made m topic = record { place = m.place; channel = m.channel; topic = topic; message = m.message }

shown_back : (topics : List Topic) (xs : List Shown) → map shown_as (map (seen_as topics) xs) ≡ xs
shown_back topics [] = refl
shown_back topics (x ∷ xs) = ap (λ (l : List Shown). x ∷ l) (shown_back topics xs)

-- ---- what is asked for

before_decided : (end : Option ℕ) (time : ℕ) → Decides (is_before_end end time) ((e : ℕ) → end ≡ Some e → time < e)
before_decided None time = (λ yes e is. absurd (none_some e is), λ all. refl)
  where
    none_some : (e : ℕ) → None ≡ Some e → ⊥
    none_some e is = cc
before_decided (Some end) time = (
  λ yes e is. subst (λ (n : ℕ). time < n) (same_Some end e is) ((Decides-ltb time end).0 yes),
  λ all. (Decides-ltb time end).1 (all end refl),
)

pub range_decided : (range : Range) (time : ℕ) → Decides (is_within range time) (InRange range time)
range_decided range time =
    Decides-like (is_within range time) (λ e. record { from = e.0; before = e.1 }) (λ in_range. (in_range.from, in_range.before))
    (Decides-and (nat_le range.start time) (is_before_end range.end time) (leb-true range.start time, le-leb range.start time) (before_decided range.end time))

abbrev gives : ℕ → List ℕ → Topic → Bool
gives channel asked t = (t.channel == channel) && pointwise nat_eq t.topic asked

gives_decided : (channel : ℕ) (asked : List ℕ) (t : Topic) → Decides (gives channel asked t) ((t.channel ≡ channel) × (t.topic ≡ asked))
gives_decided channel asked t = Decides-and (t.channel == channel) (pointwise nat_eq t.topic asked) (Decides-eqb t.channel channel) (bytes_decides t.topic asked)

pub topic_decided : (messages : List Seen) (topics : List Topic) (m : Seen) (asked : Option (List ℕ)) → TopicsOf messages topics → Has messages m → Decides (is_named topics m.channel asked) (OnTopic asked m.topic)
topic_decided messages topics m None of has = (λ yes t is. absurd (none_some t is), λ all. refl)
  where
    none_some : (t : List ℕ) → None ≡ Some t → ⊥
    none_some t is = cc
topic_decided messages topics m (Some asked) of has =
    let there = of.all m has in (
      λ yes t is.
          let any = Any-from_list_any (gives m.channel asked) topics yes in
          let parts = (gives_decided m.channel asked any.1).0 any.4 in
          let at : At topics any.0 any.1 = subst (λ (x : Topic). At topics any.0 x) any.3 (at_read topics any.0 any.1 any.2) in
          sym (first_found topics of.rises there.0 (topic_as m) there.1)
          ∙ ap (first_topic topics) (sym parts.0)
          ∙ first_found topics of.rises any.0 any.1 at
          ∙ parts.1
          ∙ same_Some asked t is,
      λ all.
          let c = contained topics (topic_as m) there in
          list_any-from_Any (gives m.channel asked) topics (c.0, topic_as m, c.1, c.2, (gives_decided m.channel asked (topic_as m)).1 (refl, all asked refl)),
    )

pub asked_decided : (messages : List Seen) (topics : List Topic) (range : Range) (topic : Option (List ℕ)) (m : Seen) → TopicsOf messages topics → Has messages m → Decides (is_chosen topics range topic (shown_as m)) (IsAsked range topic m)
asked_decided messages topics range topic m of has =
    Decides-and (is_within range m.message.log_time) (is_named topics m.channel topic) (range_decided range m.message.log_time) (topic_decided messages topics m topic of has)

-- ---- the replay

-- the messages that were chosen, put in order
pub record IsPut (all : Replayed) (range : Range) (topic : Option (List ℕ)) (chosen shown : List Shown) : Type 0 where
  pub chosen_are : chosen ≡ filter (is_chosen all.topics.items range topic) all.shown.items
  pub moved : IsPermutation chosen shown
  pub order : InOrder shown
  pub differ : PlacesDiffer all.shown.items

-- where one stands among them
record StandsFor (messages : List Seen) (topics : List Topic) (range : Range) (topic : Option (List ℕ)) (s : Shown) : Type 0 where
  seen : Has messages (seen_as topics s)
  asked : IsAsked range topic (seen_as topics s)

stands_for : (all : Replayed) (range : Range) (topic : Option (List ℕ)) (messages : List Seen) (chosen shown : List Shown) (s : Shown) → Shows all messages → IsPut all range topic chosen shown → Has shown s → StandsFor messages all.topics.items range topic s
stands_for all range topic messages chosen shown s shows put has =
    let topics = all.topics.items in
    let test = is_chosen topics range topic in
    let back = has_there chosen s (Contains-permutation shown chosen s (IsPermutation-sym chosen shown put.moved) (contained shown s has)) in
    let passed = filter_passed test all.shown.items back.0 s (subst (λ (l : List Shown). At l back.0 s) put.chosen_are back.1) in
    let there = passed.0 in
    let m = unmapped shown_as messages there.0 s (subst (λ (l : List Shown). At l there.0 s) shows.shown there.1) in
    let has_m : Has messages m.0 = (there.0, m.1) in
    let same : m.0 ≡ seen_as topics s = sym (seen_back messages topics m.0 shows.topics has_m) ∙ ap (seen_as topics) m.2 in
    let asked = (asked_decided messages topics range topic m.0 shows.topics has_m).0 (subst (λ (r : Shown). test r ≡ true) (sym m.2) passed.1) in
    record { seen = subst (Has messages) same has_m; asked = subst (IsAsked range topic) same asked }

chosen_there : (all : Replayed) (range : Range) (topic : Option (List ℕ)) (messages : List Seen) (chosen shown : List Shown) (m : Seen) → Shows all messages → IsPut all range topic chosen shown → Has messages m → IsAsked range topic m → Has (map (seen_as all.topics.items) shown) m
chosen_there all range topic messages chosen shown m shows put has asked =
    let topics = all.topics.items in
    let test = is_chosen topics range topic in
    let in_all : At all.shown.items has.0 (shown_as m) = subst (λ (l : List Shown). At l has.0 (shown_as m)) (sym shows.shown) (at_mapped shown_as messages has.0 m has.1) in
    let picked = filter_has test all.shown.items has.0 (shown_as m) in_all ((asked_decided messages topics range topic m shows.topics has).1 asked) in
    let in_chosen : Has chosen (shown_as m) = subst (λ (l : List Shown). Has l (shown_as m)) (sym put.chosen_are) picked in
    let there = has_there shown (shown_as m) (Contains-permutation chosen shown (shown_as m) put.moved (contained chosen (shown_as m) in_chosen)) in
    (there.0, subst (At (map (seen_as topics) shown) there.0) (seen_back messages topics m shows.topics has) (at_mapped (seen_as topics) shown there.0 (shown_as m) there.1))

pub used_there : (shown : List Shown) (s : Shown) (channel : ℕ) → Has shown s → s.channel ≡ channel → is_used shown channel ≡ true
used_there shown s channel has is =
    let c = contained shown s has in
    list_any-from_Any (λ r. r.channel == channel) shown (c.0, s, c.1, c.2, (Decides-eqb s.channel channel).1 is)

used_topics : (all : Replayed) (range : Range) (topic : Option (List ℕ)) (messages : List Seen) (chosen shown : List Shown) → Shows all messages → IsPut all range topic chosen shown → TopicsOf (map (seen_as all.topics.items) shown) (filter (λ t. is_used shown t.channel) all.topics.items)
used_topics all range topic messages chosen shown shows put =
    let topics = all.topics.items in
    let of = shows.topics in
    record {
      rises = AllPairs-filter (λ t u. t.channel < u.channel) (λ t. is_used shown t.channel) topics of.rises;
      are = λ t has.
          let passed = filter_passed (λ u. is_used shown u.channel) topics has.0 t has.1 in
          let there = passed.0 in
          let any = Any-from_list_any (λ s. s.channel == t.channel) shown passed.1 in
          let s = any.1 in
          let is : s.channel ≡ t.channel = (Decides-eqb s.channel t.channel).0 any.4 in
          let at : At shown any.0 s = subst (At shown any.0) any.3 (at_read shown any.0 s any.2) in
          (seen_as topics s, (any.0, at_mapped (seen_as topics) shown any.0 s at), ap (λ (n : ℕ). entry n (first_topic topics n)) is ∙ ap (entry t.channel) (first_found topics of.rises there.0 t there.1));
      all = λ s has.
          let r = unmapped (seen_as topics) shown has.0 s has.1 in
          let stands = stands_for all range topic messages chosen shown r.0 shows put (has.0, r.1) in
          let there = of.all (seen_as topics r.0) stands.seen in
          let kept = filter_has (λ t. is_used shown t.channel) topics there.0 (topic_as (seen_as topics r.0)) there.1 (used_there shown r.0 r.0.channel (has.0, r.1) refl) in
          subst (λ (m : Seen). Has (filter (λ t. is_used shown t.channel) topics) (topic_as m)) r.2 kept;
    }
  where
    entry : ℕ → List ℕ → Topic
    entry channel topic = record { channel = channel; topic = topic }

pub replayed : (all out : Replayed) (range : Range) (topic : Option (List ℕ)) (messages : List Seen) (chosen : List Shown) → Shows all messages → IsPut all range topic chosen out.shown.items
    → out.topics.items ≡ filter (λ t. is_used out.shown.items t.channel) all.topics.items → (shown : List Seen) × Replay range topic messages shown × Shows out shown
replayed all out range topic messages chosen shows put used =
    let topics = all.topics.items in
    let shown = out.shown.items in
    let differ : PlacesDiffer shown = differ_moved chosen shown put.moved (subst PlacesDiffer (sym put.chosen_are) (AllPairs-filter (λ s r. s.place ≡ r.place → ⊥) (is_chosen topics range topic) all.shown.items put.differ)) in (
      map (seen_as topics) shown,
      record {
        rises = pairs_from ComesBefore (map (seen_as topics) shown) (λ i j s r less at_s at_r.
            let a = unmapped (seen_as topics) shown i s at_s in
            let b = unmapped (seen_as topics) shown j r at_r in
            let before = comes_before topics a.0 b.0 (pairs_at NotBehind shown (order_pairs shown put.order) i j a.0 b.0 less a.1 b.1) (pairs_at (λ p q. p.place ≡ q.place → ⊥) shown differ i j a.0 b.0 less a.1 b.1) in
            subst (λ (z : Seen). ComesBefore z r) a.2 (subst (ComesBefore (seen_as topics a.0)) b.2 before));
        are = λ s has.
            let r = unmapped (seen_as topics) shown has.0 s has.1 in
            let stands = stands_for all range topic messages chosen shown r.0 shows put (has.0, r.1) in
            (subst (Has messages) r.2 stands.seen, subst (IsAsked range topic) r.2 stands.asked);
        all = λ s has asked. chosen_there all range topic messages chosen shown s shows put has asked;
      },
      record {
        shown = sym (shown_back topics shown);
        topics = subst (TopicsOf (map (seen_as topics) shown)) (sym used) (used_topics all range topic messages chosen shown shows put);
      },
    )
