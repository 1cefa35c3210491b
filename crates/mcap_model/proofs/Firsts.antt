-- One record more, and the first declarations of its kind.
use Rattle.std.proofs.Common.{◌≡◌, ℕ, List, [], ◌∷◌, ◌++◌, length, sym, ap, subst, inl, inr, ◌∙◌}
use Rattle.mcap_model.specs.Places.{At, Has}
use Rattle.mcap_model.specs.Tops.{Top}
use Rattle.mcap_model.proofs.Places.{at_kept, at_last, at_more, has_kept, has_last}
use Rattle.mcap_model.specs.declared.table.Declared.{Declared}
use Rattle.mcap_model.specs.Made.{top}
use Rattle.mcap_model.specs.Declarations.{FirstOf}

module _ {F : Type 0} (op : ℕ) (Is : Top → ℕ → F → Type 0) (Same : F → F → Type 0) where
  -- a record of another kind
  pub first_other : (records : List Top) (first : List Declared) (t : Top) → FirstOf op Is Same records first → ((id : ℕ) (g : F) → Is t id g → ⊥) → FirstOf op Is Same (records ++ t ∷ []) first
  first_other records first t was none = record {
    holds = λ k d at. let h = was.holds k d at in (h.0, h.1, has_kept records (t ∷ []) (top op d.content) h.2);
    covers = λ n id u g at is. elim (at_more records t n u at) [
      | inl old ↦ was.covers n id u g old is
      | inr last ↦ absurd (none id g (subst (λ (x : Top). Is x id g) last.1 is))
    ];
    apart = was.apart;
  }

  -- a declaration of an id that was declared
  pub first_again : (records : List Top) (first : List Declared) (t : Top) (k : ℕ) (d : Declared) → FirstOf op Is Same records first → At first k d
      → ((id : ℕ) (g : F) → Is t id g → (h : F) × (d.id ≡ id) × Is (top op d.content) id h × Same h g) → FirstOf op Is Same (records ++ t ∷ []) first
  first_again records first t k d was at_k same = record {
    holds = λ j e at. let h = was.holds j e at in (h.0, h.1, has_kept records (t ∷ []) (top op e.content) h.2);
    covers = λ n id u g at is. elim (at_more records t n u at) [
      | inl old ↦ was.covers n id u g old is
      | inr last ↦ let s = same id g (subst (λ (x : Top). Is x id g) last.1 is) in (k, d, s.0, at_k, s.1, s.2, s.3)
    ];
    apart = was.apart;
  }

  -- a declaration of a new id
  pub first_new : (records : List Top) (first : List Declared) (d : Declared) (f : F) → FirstOf op Is Same records first → Is (top op d.content) d.id f
      → ((id : ℕ) (g : F) → Is (top op d.content) id g → (d.id ≡ id) × Same f g) → ((k : ℕ) (e : Declared) → At first k e → e.id ≡ d.id → ⊥)
      → FirstOf op Is Same (records ++ top op d.content ∷ []) (first ++ d ∷ [])
  first_new records first d f was is once lacks = record {
    holds = λ k e at. elim (at_more first d k e at) [
      | inl old ↦ let h = was.holds k e old in (h.0, h.1, has_kept records (t ∷ []) (top op e.content) h.2)
      | inr last ↦ subst (λ (x : Declared). (g : F) × Is (top op x.content) x.id g × Has (records ++ t ∷ []) (top op x.content)) (sym last.1) (f, is, has_last records t [])
    ];
    covers = λ n id u g at isu. elim (at_more records t n u at) [
      | inl old ↦ let c = was.covers n id u g old isu in (c.0, c.1, c.2, at_kept first (d ∷ []) c.0 c.1 c.3, c.4, c.5, c.6)
      | inr last ↦
          let s = once id g (subst (λ (x : Top). Is x id g) last.1 isu) in
          (length first, d, f, at_last first d [], s.0, subst (λ (m : ℕ). Is t m f) s.0 is, s.1)
    ];
    apart = λ j k x y at_j at_k ids. elim (at_more first d j x at_j) [
      | inl old ↦ elim (at_more first d k y at_k) [
        | inl older ↦ was.apart j k x y old older ids
        | inr last ↦ absurd (lacks j x old (ids ∙ ap (λ (z : Declared). z.id) last.1))
      ]
      | inr here ↦ elim (at_more first d k y at_k) [
        | inl older ↦ absurd (lacks k y older (sym ids ∙ ap (λ (z : Declared). z.id) here.1))
        | inr last ↦ here.1 ∙ sym last.1
      ]
    ];
  }
    where
      t : Top
      t = top op d.content
