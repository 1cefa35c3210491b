-- For which extras and histories a scribe stands, over its calls.
use Rattle.std.specs.Prelude.{◌≡◌, List, [], ◌++◌, Result}
use Rattle.std.proofs.Common.{sym, subst, ◌∙◌, append-nil, append_assoc}
use Rattle.rec_data.specs.declared.owned.Rec.{Rec}
use Rattle.mcap_io.specs.Outside.{LiveState}
use Rattle.mcap_model.specs.declared.options.FileOptions.{FileOptions}
use Rattle.mcap_model.specs.declared.ends.Stop.{Stop}
use Rattle.mcap_model.specs.Tops.{Top}
use Rattle.chunk_writer.specs.declared.phase.Phase.TheVariants as phases
use Rattle.chunk_writer.specs.declared.scribe.Scribe.{Scribe}
use Rattle.chunk_writer.specs.Stops.{numbers}
use Rattle.chunk_writer.specs.StopSteps.{StopsBehind}
use Rattle.chunk_writer.specs.Limits.{Holds}
use Rattle.chunk_writer.specs.Scribes.{WritesHistory, EndsFile, phase_of}
use Rattle.chunk_writer.specs.declared.tape.Written.{Written}

-- of whatever extras and history the first scribe stands, the second stands for these with those behind them
abbrev pub AddsTo : {L : Type 0} → (L → LiveState) → Scribe L → Scribe L → List Top → List Rec → Type 0
AddsTo seen before after extras records = (options : FileOptions) (others : List Top) (opened : LiveState)
    (history : List Rec) → WritesHistory seen options others opened history before
    → WritesHistory seen options (others ++ extras) opened (history ++ records) after

-- the second scribe is the first with its end, and what it counts is within the limits on files
abbrev pub EndsWithin : {L : Type 0} → (L → LiveState) → Scribe L → Scribe L → Result Unit Stop → Type 0
EndsWithin seen before after result =
    (written : Written) × EndsFile seen before after written result × Holds written.blocks written.bytes

pub adds_none : {L : Type 0} (seen : L → LiveState) (s : Scribe L) → AddsTo seen s s [] []
adds_none seen s = λ options others opened history writes.
    subst (λ (e : List Top). WritesHistory seen options e opened (history ++ []) s) (sym (append-nil others))
    (subst (λ (h : List Rec). WritesHistory seen options others opened h s) (sym (append-nil history)) writes)

pub adds_on : {L : Type 0} (seen : L → LiveState) (one two three : Scribe L) (extras others : List Top)
    (records behind : List Rec) → AddsTo seen one two extras records → AddsTo seen two three others behind
    → AddsTo seen one three (extras ++ others) (records ++ behind)
adds_on seen one two three extras others records behind first second = λ options all opened history writes.
    subst (λ (e : List Top). WritesHistory seen options e opened (history ++ (records ++ behind)) three)
    (append_assoc all extras others)
    (subst (λ (h : List Rec). WritesHistory seen options ((all ++ extras) ++ others) opened h three)
    (append_assoc history records behind)
    (second options (all ++ extras) opened (history ++ records) (first options all opened history writes)))

pub stopped_going : (stop : Stop) → phases.Stopped stop ≡ phases.Going → ⊥
stopped_going stop e = cc

pub adds_all : {L : Type 0} (seen : L → LiveState) (s : Scribe L) (stop : Stop) (extras : List Top) (records : List Rec)
    → phase_of s ≡ phases.Stopped stop → AddsTo seen s s extras records
adds_all seen s stop extras records is = λ options others opened history writes.
    let was = writes.0 in (
      record {
        going = λ going. absurd (stopped_going stop (sym is ∙ going));
        stopped = λ why at es behind. let stopped = was.stopped in
            subst
            (λ (h : List Rec). StopsBehind options es h opened.held (seen s.store).held why (numbers s.plan.blocks s.plan.bytes))
            (sym (append_assoc history records behind)) (stopped why at es (records ++ behind));
        unended = was.unended;
      },
      λ going. absurd (stopped_going stop (sym is ∙ going)),
      λ going. absurd (stopped_going stop (sym is ∙ going)),
    )
