-- What lanes record are Schemas, Channels and Messages.
use Rattle.std.proofs.Common.{◌≡◌, ℕ, ◌+◌, ◌-◌, List, [], ◌∷◌, map, get_or, sym, subst, refl, inl, inr, arith}
use Rattle.rec_data.specs.declared.owned.Rec.{Rec}
use Rattle.rec_data.specs.declared.channel.ChannelDef.{ChannelDef}
use Rattle.mcap_model.specs.declared.ends.End.{End}
use Rattle.mcap_model.specs.Places.{At, Each}
use Rattle.mcap_model.specs.Tops.{Top}
use Rattle.mcap_model.specs.History.{schema_of, channel_of, message_of}
use Rattle.mcap_model.specs.Laws.{IsInner}
use Rattle.mcap_model.proofs.Places.{at_none, at_one, at_within, at_read}
use Rattle.mcap_model.proofs.Lists.{each_cons}
use Rattle.history_ids.specs.DeclarationFields.{fields_of_schema, fields_with}
use Rattle.feed_lane.specs.Pass.{AreAdded}
use Rattle.feed_lane.specs.Lanes.{ReportLists, IsGiven}
use Rattle.mcap_model.specs.declared.options.RecordOptions.{RecordOptions}
use Rattle.recorder.specs.declared.report.Report.{Report}
use Rattle.recorder.specs.Assembled.{LanePart, Assembled}
use Rattle.recorder.specs.Recorded.{lane_of, Sides, Recorded}
use Rattle.recorder.proofs.OneHistory.{Says, lane_says}

one_inner : (r : Rec) → IsInner r → Each IsInner (r ∷ [])
one_inner r inner = each_cons IsInner r [] inner (λ n x at. absurd (at_none n x at))

added_inner : (d : ChannelDef) (id : ℕ) (added : List Rec) → AreAdded d id added → Each IsInner added
added_inner d id added (inl none) = subst (Each IsInner) (sym none) (λ n x at. absurd (at_none n x at))
added_inner d id added (inr (inl (w, is))) = subst (Each IsInner) (sym is) (one_inner (channel_of id (fields_with d w)) refl)
added_inner d id added (inr (inr (w, s, some, is))) =
    let channel = channel_of id (fields_with d w) in
    subst (Each IsInner) (sym is) (each_cons IsInner (schema_of w (fields_of_schema s)) (channel ∷ []) refl (one_inner channel refl))

given_inner : (records : List Top) (lists : ReportLists) (history : List Rec) (place : ℕ) (r : Rec) → Says records lists history → IsGiven lists place → At history place r → IsInner r
given_inner records lists history place r says (inl (a, (k, at), here)) there =
    let stands = says.accepts k a at in
    let message = message_of stands.by.channel stands.message in
    subst IsInner (at_one history place message r (subst (λ (n : ℕ). At history n message) here stands.there) there) refl
given_inner records lists history place r says (inr (d, (k, at), from, to)) there =
    let adds = says.declares k d at in
    let x = get_or adds.added (place - d.first) r in
    let has : At adds.added (place - d.first) x = at_read adds.added (place - d.first) r (omega (arith, from, to, adds.many)) in
    let here : d.first + (place - d.first) ≡ place = omega (arith, from) in
    let same = at_one history place x r (subst (λ (n : ℕ). At history n x) here (adds.there (place - d.first) x has)) there in
    subst IsInner same (added_inner adds.content d.channel adds.added adds.are (place - d.first) x has)

pub assembled_inner : (limit : ℕ) (lanes : List LanePart) (history : List Rec) (end : End) → Assembled limit lanes history end → Each IsInner history
assembled_inner limit lanes history end it n r at =
    let (k, lane, there, given) = it.given n (at_within history n r at) in
    given_inner lane.records lane.lists history n r (lane_says limit history it.swaps end lane (it.stand k lane there)) given at

pub recorded_inner : (options : RecordOptions) (before now : Sides) (r : Report) → (it : Recorded options before now r) → Each IsInner it.history
recorded_inner options before now r it = assembled_inner options.limit (map lane_of it.feeds) it.history r.writer.end it.assembled
