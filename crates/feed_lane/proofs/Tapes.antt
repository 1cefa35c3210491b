-- A tape as a pass.
use Rattle.std.proofs.Common.{◌≡◌, ℕ, zero, suc, ◌+◌, ◌-◌, ◌<◌, List, [], ◌∷◌, ◌++◌, length, Bool, true, false, Option, Some, refl, sym, ap, subst, ◌∙◌, length-append, arith}
use Rattle.std.proofs.lemmas.Option.{same_Some, none-some}
use Rattle.rec_data.specs.declared.owned.Rec.{Rec}
use Rattle.rec_data.specs.declared.channel.ChannelDef.{ChannelDef}
use Rattle.mcap_model.specs.declared.ends.End.{End}
use Rattle.mcap_model.specs.Places.{At}
use Rattle.mcap_model.proofs.Places.{at_none}
use Rattle.record_core.specs.declared.answers.Found.{Found}
use Rattle.record_core.specs.declared.answers.CallRefused.{CallRefused}
use Rattle.feed_lane.specs.Pass.{NamedBy, named_by}
use Rattle.feed_lane.specs.PassCalls.{IsLater, Finds}
use Rattle.feed_lane.specs.Tapes.{numbered_from, end_when, found_now, found_when, tape_pass}
use Rattle.feed_lane.proofs.Members.{placed_at}

none_end : {e : End} → end_when false ≡ Some e → ⊥
none_end e = cc

numbered_at : (id : ℕ) (ds : List (ChannelDef × ℕ)) (k : ℕ) (name : NamedBy) → At (numbered_from id ds) k name → (name.id ≡ id + k) × (k < length ds)
numbered_at id [] k name at = absurd (at_none k name at)
numbered_at id (d ∷ ds) zero name at = let same : id ≡ name.id = ap (λ (x : NamedBy). x.id) (same_Some (named_by id d.0 d.1) name at) in (omega (arith, same), omega arith)
numbered_at id (d ∷ ds) (suc k) name at = let t = numbered_at (id + 1) ds k name at in (omega (arith, t.0), omega (arith, t.1))

-- a tape only grows
later : (asked was ended : Bool) (count channels a b : ℕ) → (was ≡ true → ended ≡ true) → (last : Found) → found_when asked (count - a) (channels - b) was ≡ Some last → IsLater last (found_now count channels ended)
later false was ended count channels a b stays last is = absurd (none-some _ is)
later true was ended count channels a b stays last is = subst (λ (f : Found). IsLater f (found_now count channels ended)) (same_Some _ _ is) (by was stays)
  where
    by : (w : Bool) → (w ≡ true → ended ≡ true) → IsLater (found_now (count - a) (channels - b) w) (found_now count channels ended)
    by true on = record { taken = omega arith; count = omega arith; schemas = omega arith; channels = omega arith; end = λ e same. subst (λ (x : Bool). end_when x ≡ Some e) (sym (on refl)) same }
    by false on = record { taken = omega arith; count = omega arith; schemas = omega arith; channels = omega arith; end = λ e same. absurd (none_end same) }

pub finds : (records : List Rec) (channels : List (ChannelDef × ℕ)) (reasons : List CallRefused) (asked was ended : Bool) (a b : ℕ) → (was ≡ true → ended ≡ true) → Finds (tape_pass records channels reasons (found_when asked (length records - a) (length channels - b) was)) (found_now (length records) (length channels) ended)
finds records channels reasons asked was ended a b stays = record {
  places = λ k pair at. let t = placed_at 0 records k pair at in omega (arith, t.0, t.1);
  ids = λ k name at. let t = numbered_at 1 channels k name at in (omega (arith, t.0), omega (arith, t.0, t.1));
  later = later asked was ended (length records) (length channels) a b stays;
  within = omega arith;
}
