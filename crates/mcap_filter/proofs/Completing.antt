-- What the records of a good list name stands in what repairing makes of them.
use Rattle.std.proofs.Common.{◌≡◌, ℕ, zero, suc, Bool, true, false, ◌||◌, List, [], ◌∷◌, ◌++◌, take, refl, sym, ap, subst, inl, inr, ◌∙◌, eq-eqb}
use Rattle.std.specs.Prelude.{filter, find, is_some, eqb}
use Rattle.std.specs.List.{AllZip}
use Rattle.std.proofs.lemmas.Bool.{false≢true}
use Rattle.rec_data.specs.declared.owned.Rec.{Rec}
use Rattle.rec_data.specs.declared.owned.Rec.TheVariants.{Schema, Channel, Message, Extra}
use Rattle.rec_data.proofs.OwnedReading.{shown_once}
use Rattle.mcap_model.specs.Places.{At, Each, EachBehind}
use Rattle.mcap_model.specs.Tops.{Top, Placed, flat, is_flat_kind}
use Rattle.mcap_model.specs.WalkedRecords.{walked}
use Rattle.mcap_model.specs.Fields.{ChannelFields, MessageFields, IsChannel, IsMessage}
use Rattle.mcap_model.specs.Rules.{Agrees, HasSchema, HasChannel}
use Rattle.mcap_model.specs.Kept.{Good, reading_limits}
use Rattle.mcap_model.specs.History.{schema_of, channel_of, without_repeats}
use Rattle.mcap_model.specs.Written.{IsRec}
use Rattle.mcap_model.specs.Repaired.{Repairs}
use Rattle.mcap_model.proofs.Places.{at_none, each_front}
use Rattle.mcap_model.proofs.Lists.{has_taken}
use Rattle.mcap_model.proofs.Flat.{good_lists_agree}
use Rattle.record_keeping.specs.Keeping.{tops_at}
use Rattle.record_keeping.specs.Readings.{RepairsGiven}
use Rattle.record_keeping.proofs.Given.{flat_given}
use Rattle.mcap_model.specs.Needed.{is_schema_of, is_channel_of}
use Rattle.mcap_filter.specs.Picking.{is_complete, Complete}
use Rattle.mcap_filter.proofs.Finding.{finds, finds_kept, kept_from, schema_listed, channel_listed}

-- ---- lists side by side

zip_left : (us : List Top) (rs : List Rec) → AllZip IsRec us rs → (n : ℕ) (r : Rec) → At rs n r → (u : Top) × At us n u × IsRec u r
zip_left [] [] zip n r at = absurd (at_none n r at)
zip_left [] (s ∷ ss) zip n r at = absurd zip
zip_left (u ∷ us) [] zip n r at = absurd zip
zip_left (u ∷ us) (s ∷ ss) zip zero r at = let same : s ≡ r = cc in (u, refl, subst (IsRec u) same zip.0)
zip_left (u ∷ us) (s ∷ ss) zip (suc n) r at = zip_left us ss zip.1 n r at

zip_right : (us : List Top) (rs : List Rec) → AllZip IsRec us rs → (n : ℕ) (u : Top) → At us n u → (r : Rec) × At rs n r × IsRec u r
zip_right [] rs zip n u at = absurd (at_none n u at)
zip_right (v ∷ us) [] zip n u at = absurd zip
zip_right (v ∷ us) (s ∷ ss) zip zero u at = let same : v ≡ u = cc in (s, refl, subst (λ (t : Top). IsRec t s) same zip.0)
zip_right (v ∷ us) (s ∷ ss) zip (suc n) u at = zip_right us ss zip.1 n u at

or_right : (a b : Bool) → b ≡ true → (a || b) ≡ true
or_right true b is = refl
or_right false b is = is

or_left : (a b : Bool) → a ≡ true → (a || b) ≡ true
or_left true b is = refl
or_left false b is = absurd (false≢true is)

-- ---- records that agree

has_schema : (us : List Top) (rs : List Rec) (n id : ℕ) → AllZip IsRec us rs → HasSchema (take n us) id → is_some (find (is_schema_of id) rs) ≡ true
has_schema us rs n id zip has =
    let there = has_taken us n has.place has.top has.at in
    let (r, stands, is) = zip_right us rs zip has.place has.top there.1 in
    let shown = has.is in
    let same : r ≡ schema_of id has.shown = shown_once has.top.op has.top.content r (schema_of id has.shown) is (shown.kind, shown.layout) in
    finds (is_schema_of id) rs has.place r stands (ap (is_schema_of id) same ∙ eq-eqb id id refl)

has_channel : (us : List Top) (rs : List Rec) (n id : ℕ) → AllZip IsRec us rs → HasChannel (take n us) id → is_some (find (is_channel_of id) rs) ≡ true
has_channel us rs n id zip has =
    let there = has_taken us n has.place has.top has.at in
    let (r, stands, is) = zip_right us rs zip has.place has.top there.1 in
    let shown = has.is in
    let same : r ≡ channel_of id has.shown = shown_once has.top.op has.top.content r (channel_of id has.shown) is (shown.kind, shown.layout) in
    finds (is_channel_of id) rs has.place r stands (ap (is_channel_of id) same ∙ eq-eqb id id refl)

complete_one : (us : List Top) (rs : List Rec) (n : ℕ) (u : Top) (r : Rec) → AllZip IsRec us rs → Agrees (take n us) u → IsRec u r → is_complete rs r ≡ true
complete_one us rs n u (Schema id schema) zip agree is = refl
complete_one us rs n u (Channel id schema topic encoding metadata) zip agree is =
    let f : ChannelFields = record { schema = schema; topic = topic; encoding = encoding; metadata = metadata } in
    let shown : IsChannel u id f = record { kind = is.0; layout = is.1 } in
    elim (agree.schema id f shown) [
      | inl none ↦ or_left (eqb schema 0) (is_some (find (is_schema_of schema) rs)) (eq-eqb schema 0 none)
      | inr has ↦ or_right (eqb schema 0) (is_some (find (is_schema_of schema) rs)) (has_schema us rs n schema zip has)
    ]
complete_one us rs n u (Extra op content) zip agree is = refl
complete_one us rs n u (Message channel sequence log_time publish_time payload) zip agree is =
    let m : MessageFields = record { sequence = sequence; log_time = log_time; publish_time = publish_time; payload = payload } in
    let shown : IsMessage u channel m = record { kind = is.0; layout = is.1 } in
    has_channel us rs n channel zip (agree.channel channel m shown)

complete_flat : (us : List Top) (rs : List Rec) → EachBehind Agrees us → AllZip IsRec us rs → Each (λ (r : Rec). is_complete rs r ≡ true) rs
complete_flat us rs agree zip n r at = let (u, stands, is) = zip_left us rs zip n r at in complete_one us rs n u r zip (agree n u stands) is

-- ---- without what declares an id again

complete_kept : (rs : List Rec) (r : Rec) → is_complete rs r ≡ true → is_complete (without_repeats rs) r ≡ true
complete_kept rs (Schema id schema) is = refl
complete_kept rs (Channel id schema topic encoding metadata) is = by (eqb schema 0) is
  where
    by : (b : Bool) → (b || is_some (find (is_schema_of schema) rs)) ≡ true → (b || is_some (find (is_schema_of schema) (without_repeats rs))) ≡ true
    by true there = refl
    by false there = finds_kept (is_schema_of schema) (λ r history. schema_listed schema r history) [] rs (inr there)
complete_kept rs (Extra op content) is = refl
complete_kept rs (Message channel sequence log_time publish_time payload) is = finds_kept (is_channel_of channel) (λ r history. channel_listed channel r history) [] rs (inr is)

pub complete_repairs : (us : List Top) (rs : List Rec) → EachBehind Agrees us → AllZip IsRec us rs → Complete (without_repeats rs)
complete_repairs us rs agree zip =
    kept_from (λ (r : Rec). is_complete (without_repeats rs) r ≡ true) [] rs (λ n r at. absurd (at_none n r at)) (λ n r at. complete_kept rs r (complete_flat us rs agree zip n r at))

pub complete_whole : (tops extras : List Top) (profile : List ℕ) (history : List Rec) → Good reading_limits tops → Repairs tops profile extras history → Complete history
complete_whole tops extras profile history good repairs =
    subst Complete (sym repairs.history_is) (complete_repairs (flat tops) repairs.flattened (good_lists_agree reading_limits tops good).1 repairs.are_flattened)

pub complete_given : (tops : List Top) (given ahead : List Placed) (profile : List ℕ) (extras : List Top) (history : List Rec) → Good reading_limits tops → walked tops ≡ given ++ ahead → RepairsGiven tops given profile extras history → Complete history
complete_given tops given ahead profile extras history good all repairs =
    let agree : EachBehind Agrees (filter is_flat_kind (tops_at given)) =
    each_front Agrees (filter is_flat_kind (tops_at given)) (filter is_flat_kind (tops_at ahead)) (subst (EachBehind Agrees) (flat_given tops given ahead all) (good_lists_agree reading_limits tops good).1) in
    subst Complete (sym repairs.history_is) (complete_repairs (filter is_flat_kind (tops_at given)) repairs.flattened agree repairs.are_flattened)
