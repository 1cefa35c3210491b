-- What the records at the places of first ids show.
use Rattle.std.proofs.Common.{◌≡◌, ℕ, ◌+◌, ◌<◌, List, [], ◌∷◌, ◌++◌, length, get_or, take, map, sym, subst}
use Rattle.std.specs.List.{AllZip}
use Rattle.mcap_model.specs.Places.{At, Each}
use Rattle.mcap_model.specs.Tops.{Top}
use Rattle.mcap_model.proofs.Places.{at_within, at_one, at_read}
use Rattle.mcap_model.proofs.Lists.{pairs_from}
use Rattle.mcap_model.proofs.Flat.{at_mapped}
use Rattle.mcap_model.proofs.NamedTopics.{zip_front, zip_back, zip_more}
use Rattle.command_read.specs.Firsts.{AreFirsts}
use Rattle.command_read.specs.IdTables.{ArePlaces}
use Rattle.command_read.specs.Writing.{ShownAt, ShowIds}

module _ {F : Type 0} (Is : Top → ℕ → F → Type 0) (tops : List Top) where
  pub ids_more : (ids : List ℕ) (i : ℕ) (t : Top) (id : ℕ) (f : F) → At tops i t → Is t id f → ShowIds Is (take i tops) ids → ShowIds Is (take (i + 1) tops) (ids ++ id ∷ [])
  ids_more ids i t id f at is was =
      let within = at_within tops i t at in
      let there : t ≡ get_or tops i t = sym (at_one tops i (get_or tops i t) t (at_read tops i t within) at) in
      zip_more (λ u n. (g : F) × Is u n g) tops ids i t id within there was (f, is)

  pub places_within : (ids places : List ℕ) → ShowIds Is tops ids → ArePlaces ids places → Each (λ p. p < length tops) places
  places_within ids places are first k p at =
      let (id, stands) = first.are k p at in
      let there = zip_back (λ u n. (g : F) × Is u n g) tops ids p id are stands.at in
      at_within tops p there.0 there.1

  module _ (once : (t : Top) (id other : ℕ) (f g : F) → Is t id f → Is t other g → (id ≡ other) × (f ≡ g)) (ids places : List ℕ) (shown : List (ℕ × F)) (are : ShowIds Is tops ids) (first : ArePlaces ids places)
      (zip : AllZip (ShownAt Is tops) places shown) where
    id_at : (n id : ℕ) (t : Top) (f : F) → At tops n t → Is t id f → At ids n id
    id_at n id t f at is =
        let (other, there, (g, shows)) = zip_front (λ u m. (h : F) × Is u m h) tops ids n t are at in
        subst (λ (m : ℕ). At ids n m) (once t other id g f shows is).0 there

    pub firsts_are : AreFirsts Is tops shown
    firsts_are = record {
      rises = pairs_from (λ c d. c.0 < d.0) shown (λ j k c d less at_j at_k.
          let (p, at_p, (t, in_t, is_c)) = zip_back (ShownAt Is tops) places shown j c zip at_j in
          let (q, at_q, (u, in_u, is_d)) = zip_back (ShownAt Is tops) places shown k d zip at_k in
          first.rises j k p q c.0 d.0 less at_p at_q (id_at p c.0 t c.1 in_t is_c) (id_at q d.0 u d.1 in_u is_d));
      are = λ k c at.
          let (p, at_p, (t, in_t, is)) = zip_back (ShownAt Is tops) places shown k c zip at in
          let (id, stands) = first.are k p at_p in
          let same : id ≡ c.0 = at_one ids p id c.0 stands.at (id_at p c.0 t c.1 in_t is) in
          record {
            place = p;
            top = t;
            at = in_t;
            is = is;
            first = λ n u f less in_u shows. stands.first n less (subst (λ (m : ℕ). At ids n m) (sym same) (id_at n c.0 u f in_u shows));
          };
      all = λ n id t f at is.
          let (p, (k, at_p), stands) = first.all n id (id_at n id t f at is) in
          let (c, at_k, (u, in_u, shows)) = zip_front (ShownAt Is tops) places shown k p zip at_p in
          let same : c.0 ≡ id = at_one ids p c.0 id (id_at p c.0 u c.1 in_u shows) stands in
          (k, subst (λ (m : ℕ). At (map (λ d. d.0) shown) k m) same (at_mapped (λ d. d.0) shown k c at_k));
    }
