-- The places of all messages of a recording whose feeds were recorded whole.
use Rattle.std.proofs.Common.{◌≡◌, ℕ, zero, suc, ◌+◌, ◌-◌, ◌<◌, ◌≤◌, List, [], ◌∷◌, ◌++◌, length, get_or, map, refl, sym, ap, subst, inl, inr, ◌∙◌, arith}
use Rattle.std.specs.List.{AllZip, sum_by, flat_map}
use Rattle.std.proofs.lemmas.List.Sums.{sum_by-cons, sum_by-append}
use Rattle.std.proofs.lemmas.Option.{same_Some}
use Rattle.rec_data.specs.declared.owned.Rec.{Rec}
use Rattle.rec_data.specs.declared.channel.ChannelDef.{ChannelDef}
use Rattle.mcap_model.specs.Places.{At, Has, Each}
use Rattle.mcap_model.specs.Fields.{MessageFields}
use Rattle.mcap_model.specs.History.{message_of}
use Rattle.mcap_model.specs.declared.ends.End.{End}
use Rattle.mcap_model.proofs.Places.{at_none, at_one, at_within, at_read, at_kept}
use Rattle.mcap_model.proofs.Lists.{each_cons, each_joined, at_either, at_second, pairs_at}
use Rattle.mcap_model.proofs.Flat.{at_mapped}
use Rattle.mcap_model.proofs.ReadBack.{at_map}
use Rattle.feed_lane.specs.declared.report.Accepted.{Accepted}
use Rattle.feed_lane.specs.declared.report.DeclaredAt.{DeclaredAt}
use Rattle.feed_lane.specs.Pass.{AreAdded}
use Rattle.feed_lane.specs.Lanes.{IsGiven}
use Rattle.recorder.specs.Assembled.{LanePart, LanePartStands, Assembled}
use Rattle.recorder.specs.Recorded.{FeedRecorded, lane_of}
use Rattle.recorder.proofs.OneHistory.{lane_says}
use Rattle.command_generate.proofs.Totals.{Spot, of_spot, IsThere, AreApart, AreAll, apart_joined}
use Rattle.command_generate.proofs.Recordings.{IsPlaced}

-- ---- the places of a feed

abbrev spot : Accepted → MessageFields → Spot
spot a m = record { place = a.place; message = m }

-- recorded messages and their places
abbrev placed : List Accepted → List MessageFields → List Spot
placed [] ms = []
placed (a ∷ accepted) [] = []
placed (a ∷ accepted) (m ∷ ms) = spot a m ∷ placed accepted ms

placed_there : (history : List Rec) (accepted : List Accepted) (ms : List MessageFields) → AllZip (IsPlaced history) accepted ms → Each (IsThere history) (placed accepted ms)
placed_there history [] ms zip k p at = absurd (at_none k p at)
placed_there history (a ∷ accepted) [] zip k p at = absurd zip
placed_there history (a ∷ accepted) (m ∷ ms) zip k p at = each_cons (IsThere history) (spot a m) (placed accepted ms) zip.0 (placed_there history accepted ms zip.1) k p at

placed_from : (accepted : List Accepted) (ms : List MessageFields) (k : ℕ) (p : Spot) → At (placed accepted ms) k p → (a : Accepted) × At accepted k a × (a.place ≡ p.place)
placed_from [] ms k p at = absurd (at_none k p at)
placed_from (a ∷ accepted) [] k p at = absurd (at_none k p at)
placed_from (a ∷ accepted) (m ∷ ms) zero p at = (a, refl, ap (λ (q : Spot). q.place) (same_Some (spot a m) p at))
placed_from (a ∷ accepted) (m ∷ ms) (suc k) p at = placed_from accepted ms k p at

placed_has : (history : List Rec) (accepted : List Accepted) (ms : List MessageFields) (k : ℕ) (a : Accepted) → AllZip (IsPlaced history) accepted ms → At accepted k a → (p : Spot) × Has (placed accepted ms) p × (p.place ≡ a.place)
placed_has history [] ms k a zip at = absurd (at_none k a at)
placed_has history (b ∷ accepted) [] k a zip at = absurd zip
placed_has history (b ∷ accepted) (m ∷ ms) zero a zip at = (spot b m, (0, refl), ap (λ (c : Accepted). c.place) (same_Some b a at))
placed_has history (b ∷ accepted) (m ∷ ms) (suc k) a zip at = let more = placed_has history accepted ms k a zip.1 at in let has = more.1 in (more.0, (suc has.0, has.1), more.2)

abbrev PlacesRise : List Accepted → Type 0
PlacesRise accepted = (i j : ℕ) (a b : Accepted) → i < j → At accepted i a → At accepted j b → a.place < b.place

placed_apart : (accepted : List Accepted) (ms : List MessageFields) → PlacesRise accepted → AreApart (placed accepted ms)
placed_apart [] ms rise = tt
placed_apart (a ∷ accepted) [] rise = tt
placed_apart (a ∷ accepted) (m ∷ ms) rise = (
  (λ k q at same.
      let from = placed_from accepted ms k q at in
      let later = rise 0 (suc k) a from.0 (omega arith) refl from.1 in
      omega (arith, later, same, from.2)),
  placed_apart accepted ms (λ i j b c less at other. rise (suc i) (suc j) b c (omega (arith, less)) at other),
)

placed_total : (f : MessageFields → ℕ) (history : List Rec) (accepted : List Accepted) (ms : List MessageFields) → AllZip (IsPlaced history) accepted ms → sum_by (of_spot f) (placed accepted ms) ≡ sum_by f ms
placed_total f history [] [] zip = refl
placed_total f history [] (m ∷ ms) zip = absurd zip
placed_total f history (a ∷ accepted) [] zip = absurd zip
placed_total f history (a ∷ accepted) (m ∷ ms) zip =
    let more = placed_total f history accepted ms zip.1 in
    let one : sum_by (of_spot f) (spot a m ∷ placed accepted ms) ≡ f m + sum_by (of_spot f) (placed accepted ms) = sum_by-cons (of_spot f) (spot a m) (placed accepted ms) in
    let other = sum_by-cons f m ms in
    omega (arith, more, one, other)

-- ---- all feeds

-- a feed has that place
abbrev HasPlace : FeedRecorded → ℕ → Type 0
HasPlace f place = (a : Accepted) × Has f.feed.accepted.items a × (a.place ≡ place)

-- each place is one feed's
abbrev PlacesOnce : List FeedRecorded → Type 0
PlacesOnce fs = (j k place : ℕ) (one other : FeedRecorded) → At fs j one → At fs k other → HasPlace one place → HasPlace other place → j ≡ k

abbrev IsOther : Rec → Type 0
IsOther r = (channel : ℕ) (m : MessageFields) → r ≡ message_of channel m → ⊥

one_other : (x : Rec) (added : List Rec) (k channel : ℕ) (m : MessageFields) → added ≡ x ∷ [] → IsOther x → At added k (message_of channel m) → ⊥
one_other x added k channel m is other at =
    each_cons IsOther x [] other (λ n r there. absurd (at_none n r there)) k (message_of channel m) (subst (λ (l : List Rec). At l k (message_of channel m)) is at) channel m refl

two_other : (x y : Rec) (added : List Rec) (k channel : ℕ) (m : MessageFields) → added ≡ x ∷ y ∷ [] → IsOther x → IsOther y → At added k (message_of channel m) → ⊥
two_other x y added k channel m is first second at =
    each_cons IsOther x (y ∷ []) first (each_cons IsOther y [] second (λ n r there. absurd (at_none n r there))) k (message_of channel m) (subst (λ (l : List Rec). At l k (message_of channel m)) is at) channel m refl

-- a record that a declaration added is no message
added_no : (d : ChannelDef) (id : ℕ) (added : List Rec) (k channel : ℕ) (m : MessageFields) → AreAdded d id added → At added k (message_of channel m) → ⊥
added_no d id added k channel m (inl none) at = at_none k (message_of channel m) (subst (λ (l : List Rec). At l k (message_of channel m)) none at)
added_no d id added k channel m (inr (inl (w, is))) at = one_other _ added k channel m is (λ c n same. absurd cc) at
added_no d id added k channel m (inr (inr (w, s, some, is))) at = two_other _ _ added k channel m is (λ c n same. absurd cc) (λ c n same. absurd cc) at

-- the messages of each feed, by what it is named
module _ (made : ℕ → List MessageFields) where
  abbrev pub spots : List FeedRecorded → List ℕ → List Spot
  spots [] gs = []
  spots (f ∷ fs) [] = []
  spots (f ∷ fs) (g ∷ gs) = placed f.feed.accepted.items (made g) ++ spots fs gs

  -- it was recorded whole
  abbrev pub IsWhole : List Rec → FeedRecorded → ℕ → Type 0
  IsWhole history f g = AllZip (IsPlaced history) f.feed.accepted.items (made g)

  pub spots_there : (history : List Rec) (fs : List FeedRecorded) (gs : List ℕ) → AllZip (IsWhole history) fs gs → Each (IsThere history) (spots fs gs)
  spots_there history [] gs zip k p at = absurd (at_none k p at)
  spots_there history (f ∷ fs) [] zip k p at = absurd zip
  spots_there history (f ∷ fs) (g ∷ gs) zip k p at =
      each_joined (IsThere history) (placed f.feed.accepted.items (made g)) (spots fs gs) (placed_there history f.feed.accepted.items (made g) zip.0) (spots_there history fs gs zip.1) k p at

  spots_from : (fs : List FeedRecorded) (gs : List ℕ) (n : ℕ) (p : Spot) → At (spots fs gs) n p → (k : ℕ) × (f : FeedRecorded) × At fs k f × HasPlace f p.place
  spots_from [] gs n p at = absurd (at_none n p at)
  spots_from (f ∷ fs) [] n p at = absurd (at_none n p at)
  spots_from (f ∷ fs) (g ∷ gs) n p at = elim (at_either (placed f.feed.accepted.items (made g)) (spots fs gs) n p at) [
    | inl here ↦ let from = placed_from f.feed.accepted.items (made g) n p here in (0, f, refl, (from.0, (n, from.1), from.2))
    | inr (k, is, there) ↦ let more = spots_from fs gs k p there in (suc more.0, more.1, more.2, more.3)
  ]

  pub spots_apart : (fs : List FeedRecorded) (gs : List ℕ) → Each (λ f. PlacesRise f.feed.accepted.items) fs → PlacesOnce fs → AreApart (spots fs gs)
  spots_apart [] gs rise once = tt
  spots_apart (f ∷ fs) [] rise once = tt
  spots_apart (f ∷ fs) (g ∷ gs) rise once =
      apart_joined (placed f.feed.accepted.items (made g)) (spots fs gs) (placed_apart f.feed.accepted.items (made g) (rise 0 f refl))
      (spots_apart fs gs (λ k x at. rise (suc k) x at) (λ j k place one other at_j at_k has has_other. let same = once (suc j) (suc k) place one other at_j at_k has has_other in omega (arith, same)))
      (λ p q has other same.
      let from = placed_from f.feed.accepted.items (made g) has.0 p has.1 in
      let (k, x, there, (a, in_x, is)) = spots_from fs gs other.0 q other.1 in
      let zero_is = once 0 (suc k) p.place f x refl there (from.0, (has.0, from.1), from.2) (a, in_x, is ∙ sym same) in
      omega (arith, zero_is))

  has_front : (ps qs : List Spot) (p : Spot) → Has ps p → Has (ps ++ qs) p
  has_front ps qs p has = (has.0, at_kept ps qs has.0 p has.1)

  has_behind : (ps qs : List Spot) (p : Spot) → Has qs p → Has (ps ++ qs) p
  has_behind ps qs p has = (length ps + has.0, at_second ps qs has.0 p has.1)

  spots_has : (history : List Rec) (fs : List FeedRecorded) (gs : List ℕ) (k place : ℕ) (f : FeedRecorded) → AllZip (IsWhole history) fs gs → At fs k f → HasPlace f place → (p : Spot) × Has (spots fs gs) p × (p.place ≡ place)
  spots_has history [] gs k place f zip at has = absurd (at_none k f at)
  spots_has history (x ∷ fs) [] k place f zip at has = absurd zip
  spots_has history (x ∷ fs) (g ∷ gs) zero place f zip at (a, (n, in_f), is) =
      let here : At x.feed.accepted.items n a = subst (λ (y : FeedRecorded). At y.feed.accepted.items n a) (sym (same_Some x f at)) in_f in
      let found = placed_has history x.feed.accepted.items (made g) n a zip.0 here in
      (found.0, has_front (placed x.feed.accepted.items (made g)) (spots fs gs) found.0 found.1, found.2 ∙ is)
  spots_has history (x ∷ fs) (g ∷ gs) (suc k) place f zip at has =
      let found = spots_has history fs gs k place f zip.1 at has in
      (found.0, has_behind (placed x.feed.accepted.items (made g)) (spots fs gs) found.0 found.1, found.2)

  pub spots_total : (f : MessageFields → ℕ) (history : List Rec) (fs : List FeedRecorded) (gs : List ℕ) → AllZip (IsWhole history) fs gs → sum_by (of_spot f) (spots fs gs) ≡ sum_by f (flat_map made gs)
  spots_total f history [] [] zip = refl
  spots_total f history [] (g ∷ gs) zip = absurd zip
  spots_total f history (x ∷ fs) [] zip = absurd zip
  spots_total f history (x ∷ fs) (g ∷ gs) zip =
      let first = placed_total f history x.feed.accepted.items (made g) zip.0 in
      let more = spots_total f history fs gs zip.1 in
      let one = sum_by-append (of_spot f) (placed x.feed.accepted.items (made g)) (spots fs gs) in
      let other = sum_by-append f (made g) (flat_map made gs) in
      omega (arith, first, more, one, other)

  -- ---- those of a history

  module _ (limit : ℕ) (history : List Rec) (end : End) (fs : List FeedRecorded) (gs : List ℕ) (is : Assembled limit (map lane_of fs) history end) (whole : AllZip (IsWhole history) fs gs) where
    given_by : (k place : ℕ) (f : FeedRecorded) → At fs k f → HasPlace f place → IsGiven (lane_of f).lists place
    given_by k place f at has = inl has

    pub once : PlacesOnce fs
    once j k place one other at_j at_k has has_other =
        is.once j k place (lane_of one) (lane_of other) (at_mapped lane_of fs j one at_j) (at_mapped lane_of fs k other at_k) (given_by j place one at_j has) (given_by k place other at_k has_other)

    stands : (k : ℕ) (f : FeedRecorded) → At fs k f → LanePartStands limit history is.swaps end (lane_of f)
    stands k f at = is.stand k (lane_of f) (at_mapped lane_of fs k f at)

    pub rise : Each (λ f. PlacesRise f.feed.accepted.items) fs
    rise k f at = λ i j a b less at_a at_b.
        let stood = stands k f at in
        let fits = stood.fits in
        (pairs_at (λ (x y : Accepted). (x.index < y.index) × (x.place < y.place)) f.feed.accepted.items fits.accepted_rise i j a b less at_a at_b).1

    declared_not : (k place channel : ℕ) (m : MessageFields) (f : FeedRecorded) (d : DeclaredAt) → At fs k f → Has f.feed.declared.items d → d.first ≤ place → place < d.first + d.count → At history place (message_of channel m) → ⊥
    declared_not k place channel m f d at has from to there =
        let says = lane_says limit history is.swaps end (lane_of f) (stands k f at) in
        let adds = says.declares has.0 d has.1 in
        let i = place - d.first in
        let here : d.first + i ≡ place = omega (arith, from) in
        let r = get_or adds.added i (message_of channel m) in
        let at_added : At adds.added i r = at_read adds.added i (message_of channel m) (omega (arith, from, to, adds.many)) in
        let same : r ≡ message_of channel m = at_one history place r (message_of channel m) (subst (λ (n : ℕ). At history n r) here (adds.there i r at_added)) there in
        added_no adds.content d.channel adds.added i channel m adds.are (subst (λ (x : Rec). At adds.added i x) same at_added)

    pub all : AreAll history (spots fs gs)
    all place channel m there =
        let (k, lane, at_lane, given) = is.given place (at_within history place (message_of channel m) there) in
        let (f, at, same) = at_map lane_of fs k lane at_lane in
        by k f at (subst (λ (l : LanePart). IsGiven l.lists place) same given)
      where
        by : (k : ℕ) (f : FeedRecorded) → At fs k f → IsGiven (lane_of f).lists place → (p : Spot) × Has (spots fs gs) p × (p.place ≡ place)
        by k f at (inl has) = spots_has history fs gs k place f whole at has
        by k f at (inr (d, has, from, to)) = absurd (declared_not k place channel m f d at has from to there)
