-- A table of Channels that grows.
use Rattle.std.proofs.Common.{◌≡◌, List, [], ◌∷◌, ◌++◌, refl, sym, subst, inl, inr}
use Rattle.std.specs.Prelude.{Result, Ok, Err, OnOk, OnErr}
use Rattle.rec_data.specs.Records.{ShowsChannel}
use Rattle.mcap_model.specs.Places.{At}
use Rattle.mcap_model.specs.Fields.{ChannelFields, IsChannel}
use Rattle.mcap_model.specs.Made.{top}
use Rattle.mcap_model.specs.declared.table.Declared.{Declared}
use Rattle.mcap_model.specs.ChannelTables.{AreChannels}
use Rattle.mcap_model.proofs.Places.{at_none, at_more}

pub no_channels : (first : List Declared) → first ≡ [] → AreChannels first
no_channels first none = λ k d at. absurd (at_none k d (subst (λ (l : List Declared). At l k d) none at))

pub still_channels : {T E : Type 0} (old new : List Declared) (d : Declared) (r : Result T E) → OnOk r (new ≡ old ++ d ∷ []) → OnErr r (new ≡ old) → AreChannels old → (f : ChannelFields) → ShowsChannel d.content d.id f → AreChannels new
still_channels old new d (Ok v) more same were f shown = subst AreChannels (sym more) (λ k e at. elim (at_more old d k e at) [
  | inl before ↦ were k e before
  | inr last ↦ subst (λ (x : Declared). (g : ChannelFields) × IsChannel (top 4 x.content) x.id g) (sym last.1) (f, record { kind = refl; layout = shown })
])
still_channels old new d (Err e) more same were f shown = subst AreChannels (sym same) were
