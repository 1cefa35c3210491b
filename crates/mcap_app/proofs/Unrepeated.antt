-- A numbered history declares no id twice.
use Rattle.std.proofs.Common.{◌≡◌, ℕ, Bool, true, false, List, [], ◌∷◌, ◌++◌, refl, sym, ap, subst, ◌∙◌, append_assoc, arith}
use Rattle.std.specs.Prelude.{fold, if◌then◌else◌}
use Rattle.std.specs.List.{list_any}
use Rattle.std.proofs.lemmas.Bool.{both_ways, eqb-true, false_from_ne_true}
use Rattle.std.proofs.lemmas.List.{append-nil}
use Rattle.rec_data.specs.declared.owned.Rec.{Rec}
use Rattle.rec_data.specs.declared.owned.Rec.TheVariants.{Schema, Channel, Message, Extra}
use Rattle.mcap_model.specs.Places.{At}
use Rattle.mcap_model.specs.Fields.{SchemaFields, ChannelFields}
use Rattle.mcap_model.specs.History.{declare_same, kept_with, without_repeats, Follows, Numbered}
use Rattle.mcap_model.proofs.Places.{each_front, each_at}
use Rattle.mcap_model.proofs.ReadBack.{schema_id_below, channel_id_below}
use Rattle.mcap_model.proofs.Distinct.{any_has}

-- a record that follows others declares no id of theirs
apart : (done : List Rec) (r k : Rec) (n : ℕ) → Numbered done → Follows done r → At done n k → declare_same r k ≡ true → ⊥
apart done (Schema id s) (Schema other t) n numbered follows at same =
    let f : SchemaFields = record { name = t.name; encoding = t.encoding; payload = t.payload } in
    omega (arith, follows.numbered, schema_id_below done n other f numbered at, eqb-true id other same)
apart done (Schema id s) (Channel other schema topic encoding metadata) n numbered follows at same = both_ways false refl same
apart done (Schema id s) (Message channel sequence log_time publish_time payload) n numbered follows at same = both_ways false refl same
apart done (Schema id s) (Extra op content) n numbered follows at same = both_ways false refl same
apart done (Channel id schema topic encoding metadata) (Schema other t) n numbered follows at same = both_ways false refl same
apart done (Channel id schema topic encoding metadata) (Channel other other_schema other_topic other_encoding other_metadata) n numbered follows at same =
    let f : ChannelFields = record { schema = other_schema; topic = other_topic; encoding = other_encoding; metadata = other_metadata } in
    omega (arith, follows.numbered, channel_id_below done n other f numbered at, eqb-true id other same)
apart done (Channel id schema topic encoding metadata) (Message channel sequence log_time publish_time payload) n numbered follows at same = both_ways false refl same
apart done (Channel id schema topic encoding metadata) (Extra op content) n numbered follows at same = both_ways false refl same
apart done (Message channel sequence log_time publish_time payload) k n numbered follows at same = both_ways false refl same
apart done (Extra op content) k n numbered follows at same = both_ways false refl same

is_new : (done : List Rec) (r : Rec) → Numbered done → Follows done r → list_any (declare_same r) done ≡ false
is_new done r numbered follows =
    false_from_ne_true (list_any (declare_same r) done) (λ any. let (n, k, at, same) = any_has (declare_same r) done any in apart done r k n numbered follows at same)

all_kept : (done rs : List Rec) → Numbered (done ++ rs) → fold kept_with done rs ≡ done ++ rs
all_kept done [] numbered = sym (append-nil done)
all_kept done (r ∷ rs) numbered =
    let joined : done ++ r ∷ rs ≡ (done ++ r ∷ []) ++ rs = sym (append_assoc done (r ∷ []) rs) in
    let new = is_new done r (each_front Follows done (r ∷ rs) numbered) (each_at Follows done r rs numbered) in
    let kept : kept_with done r ≡ done ++ r ∷ [] = ap (λ (b : Bool). if b then done else done ++ r ∷ []) new in
    ap (λ (l : List Rec). fold kept_with l rs) kept ∙ all_kept (done ++ r ∷ []) rs (subst Numbered joined numbered) ∙ sym joined

pub unrepeated : (history : List Rec) → Numbered history → without_repeats history ≡ history
unrepeated history numbered = all_kept [] history numbered
