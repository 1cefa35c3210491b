-- Which recordings refuse no message for a full buffer.
use Rattle.std.proofs.Common.{◌≡◌, ℕ, ◌+◌, ◌-◌, ◌≤◌, List, [], ◌++◌, length, take, drop, sym, ap, subst, ◌∙◌, length-append, arith}
use Rattle.std.proofs.lemmas.Grind.{flat_map-append}
use Rattle.std.proofs.lemmas.List.{take-append-drop}
use Rattle.rec_data.specs.declared.owned.Rec.{Rec}
use Rattle.rec_data.specs.Owned.{rec_bytes}
use Rattle.mcap_model.specs.Places.{At, Has, Each}
use Rattle.mcap_model.specs.Tops.{flat}
use Rattle.mcap_model.specs.History.{history_bytes}
use Rattle.mcap_model.proofs.Places.{at_none}
use Rattle.feed_lane.specs.declared.report.FeedReport.{FeedReport}
use Rattle.record_core.specs.declared.answers.CallRefused.{CallRefused}
use Rattle.feed_lane.specs.Pass.{FullAt, filled}
use Rattle.feed_lane.specs.Lanes.{CauseFits}
use Rattle.buffer_swap.specs.Shown.{HeldThere}
use Rattle.mcap_model.specs.declared.options.RecordOptions.{RecordOptions}
use Rattle.recorder.specs.declared.report.Report.{Report}
use Rattle.recorder.specs.Assembled.{LanePartStands}
use Rattle.recorder.specs.Recorded.{FeedRecorded, lane_of, Sides, Recorded}
use Rattle.recorder.specs.Laws.{RefusesNoneAsFull, FullBuffersAreNeeded, FullBuffersWereFull, LosslessRefusesNoneAsFull}
use Rattle.recorder.proofs.Assembling.{map_at, at_map}

has_none : (full : FullAt) → Has [] full → ⊥
has_none full (n, at) = at_none n full at

-- some records of a history have no more bytes than all
bytes_within : (history : List Rec) (from many : ℕ) → length (history_bytes (take many (drop from history))) ≤ length (history_bytes history)
bytes_within history from many =
    let behind = drop from history in
    let whole : take from history ++ behind ≡ history = take-append-drop from history in
    let parts : take many behind ++ drop many behind ≡ behind = take-append-drop many behind in
    let all : length (history_bytes (take from history)) + length (history_bytes behind) ≡ length (history_bytes history) =
    sym (length-append (history_bytes (take from history)) (history_bytes behind)) ∙ ap length (sym (flat_map-append rec_bytes (take from history) behind)) ∙ ap (λ (l : List Rec). length (history_bytes l)) whole in
    let some : length (history_bytes (take many behind)) + length (history_bytes (drop many behind)) ≡ length (history_bytes behind) =
    sym (length-append (history_bytes (take many behind)) (history_bytes (drop many behind))) ∙ ap length (sym (flat_map-append rec_bytes (take many behind) (drop many behind))) ∙ ap (λ (l : List Rec). length (history_bytes l)) parts in
    omega (arith, all, some)

-- a lane refuses none where it met no full buffer
none_full : (f : FeedRecorded) → ((full : FullAt) → Has f.pass.fulls full → f.pass.limit ≤ full.held → ⊥) → RefusesNoneAsFull f.feed
none_full f never n x at = λ held from to is.
    let fits = f.reports.fits.refuses n x at in
    let there = subst (λ (cause : CallRefused). CauseFits (flat f.reports.tops) f.reports.handled f.pass x.index cause) is fits in
    never (record { from = from; to = to; held = held }) there.0 there.1

each_report : (options : RecordOptions) (before now : Sides) (r : Report) (it : Recorded options before now r) → ((k : ℕ) (f : FeedRecorded) → At it.feeds k f → RefusesNoneAsFull f.feed) → Each RefusesNoneAsFull r.feeds.items
each_report options before now r it each k report at =
    let (f, at_f, is) = at_map (λ (x : FeedRecorded). x.feed) it.feeds k report (subst (λ (l : List FeedReport). At l k report) it.are.reports_are at) in
    subst RefusesNoneAsFull (sym is) (each k f at_f)

pub full_buffers_are_needed : FullBuffersAreNeeded
full_buffers_are_needed options before now r it less =
    each_report options before now r it (λ k f at. none_full f (λ full (n, there) over.
    let stands : LanePartStands options.limit it.history it.assembled.swaps r.writer.end (lane_of f) = it.assembled.stand k (lane_of f) (map_at lane_of it.feeds k f at) in
    let limit : f.pass.limit ≡ options.limit = stands.limit_is in
    let here : HeldThere f.pass.limit it.history it.assembled.swaps full = stands.shown.fulls n full there in
    let held : full.held ≡ length (history_bytes (take (full.to - full.from) (drop full.from it.history))) = here.held in
    let within = bytes_within it.history full.from (full.to - full.from) in
    omega (arith, less, over, limit, held, within)))

pub full_buffers_were_full : FullBuffersWereFull
full_buffers_were_full limit lanes history end it k lane at = λ n r at_r held from to is.
    let stands : LanePartStands limit history it.swaps end lane = it.stand k lane at in
    let there = subst (λ (cause : CallRefused). CauseFits lane.records lane.handled lane.pass r.index cause) is (stands.fits.refuses n r at_r) in
    let full = filled held from to in
    let limit_is : lane.pass.limit ≡ limit = stands.limit_is in (
      omega (arith, there.1, limit_is),
      subst (λ (l : ℕ). HeldThere l history it.swaps full) limit_is (stands.shown.fulls there.0.0 full there.0.1),
    )

pub lossless_refuses_none_as_full : LosslessRefusesNoneAsFull
lossless_refuses_none_as_full options before now r it lossless =
    each_report options before now r it (λ k f at. none_full f (λ full has over. has_none full (subst (λ (l : List FullAt). Has l full) (it.unfull lossless k f at) has)))
