-- The Channels among records that grow.
use Rattle.std.proofs.Common.{◌≡◌, ◌⊎◌, ℕ, List, [], ◌∷◌, ◌++◌, length, sym, subst, inl, inr}
use Rattle.mcap_model.specs.Places.{Has}
use Rattle.mcap_model.specs.Tops.{Top}
use Rattle.mcap_model.specs.Fields.{ChannelFields, IsChannel}
use Rattle.mcap_model.proofs.Maps.{shows_once}
use Rattle.mcap_model.proofs.Places.{at_none, at_last, at_more, has_kept, has_last}
use Rattle.mcap_model.proofs.OneMore.{channel_kept, channel_either}
use Rattle.index_check.specs.Ids.{AddsOnce}
use Rattle.summary_check.specs.Declaring.{AreChannelIds}

pub declared_other : (before : List Top) (t : Top) (ids : List ℕ) → AreChannelIds before ids → ((id : ℕ) (f : ChannelFields) → IsChannel t id f → ⊥) → AreChannelIds (before ++ t ∷ []) ids
declared_other before t ids was other id = (
  λ has. channel_kept before t id ((was id).0 has),
  λ has. elim (channel_either before t id has) [
    | inl old ↦ (was id).1 old
    | inr (f, is) ↦ absurd (other id f is)
  ],
)

pub declared_once : (before : List Top) (t : Top) (own : ℕ) (f : ChannelFields) (old new : List ℕ) → AreChannelIds before old → IsChannel t own f → AddsOnce old own new → AreChannelIds (before ++ t ∷ []) new
declared_once before t own f old new was is adds id = (
  λ has. elim (was_there has) [
    | inl there ↦ channel_kept before t id ((was id).0 there)
    | inr same ↦ record { place = length before; top = t; shown = f; at = at_last before t []; is = subst (λ (n : ℕ). IsChannel t n f) (sym same) is }
  ],
  λ has. elim (channel_either before t id has) [
    | inl there ↦ kept ((was id).1 there)
    | inr (g, other) ↦ subst (Has new) (shows_once t own id f g is other).0 added
  ],
)
  where
    was_there : Has new id → Has old id ⊎ (id ≡ own)
    was_there has = elim adds [
      | inl (there, same) ↦ inl (subst (λ (l : List ℕ). Has l id) same has)
      | inr (fresh, more) ↦
          let there = subst (λ (l : List ℕ). Has l id) more has in
          elim (at_more old own there.0 id there.1) [
            | inl before_it ↦ inl (there.0, before_it)
            | inr (_, last) ↦ inr last
          ]
    ]

    kept : Has old id → Has new id
    kept has = elim adds [
      | inl (there, same) ↦ subst (λ (l : List ℕ). Has l id) (sym same) has
      | inr (fresh, more) ↦ subst (λ (l : List ℕ). Has l id) (sym more) (has_kept old (own ∷ []) id has)
    ]

    added : Has new own
    added = elim adds [
      | inl (there, same) ↦ subst (λ (l : List ℕ). Has l own) (sym same) there
      | inr (fresh, more) ↦ subst (λ (l : List ℕ). Has l own) (sym more) (has_last old own [])
    ]

pub declared_none : AreChannelIds [] []
declared_none id = (λ has. absurd (at_none has.0 id has.1), λ has. absurd (at_none has.place has.top has.at))
