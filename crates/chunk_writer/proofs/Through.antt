-- Where a scribe owes nothing of what waits in its store.
use Rattle.std.proofs.Common.{◌≡◌, ℕ, ◌+◌, ◌<◌, List, [], ◌∷◌, length, Option, Some, None, Result, Ok, Err, IsSome, true, false, refl, subst, ◌∙◌}
use Rattle.std.specs.Prelude.{OnOk}
use Rattle.mcap_wire.specs.Limits.{file_limit}
use Rattle.rec_data.specs.declared.owned.Rec.{Rec}
use Rattle.mcap_io.specs.Outside.{LiveState}
use Rattle.mcap_model.specs.declared.options.FileOptions.{FileOptions}
use Rattle.mcap_model.specs.declared.ends.Stop.{Stop}
use Rattle.mcap_model.specs.History.{history_bytes}
use Rattle.mcap_model.specs.Tops.{Top}
use Rattle.chunk_writer.specs.declared.phase.Phase.{Phase}
use Rattle.chunk_writer.specs.declared.phase.Phase.TheVariants as phases
use Rattle.chunk_writer.specs.declared.body.Body.{Body}
use Rattle.chunk_writer.specs.declared.scribe.Scribe.{Scribe}
use Rattle.chunk_writer.specs.Limits.{Holds}
use Rattle.chunk_writer.specs.Bodies.{BodyFor}
use Rattle.chunk_writer.specs.Planning.{Planning}
use Rattle.chunk_writer.specs.Scribes.{ScribeStands, AreThrough, WritesHistory, ScribeGrows, GoesThrough}
use Rattle.chunk_writer.proofs.Planned.{has_none}
use Rattle.chunk_writer.proofs.Plain.{past_limit}
use Rattle.chunk_writer.proofs.Writing.{going_apart}

-- it stopped
pub stopped_through : (options : FileOptions) (phase : Phase) (stop : Stop) (waiting : ℕ) → phase ≡ phases.Stopped stop → AreThrough options phase waiting
stopped_through options phase stop waiting is going some = absurd (going_apart phase stop is going)

not_some : false ≡ true → ⊥
not_some e = cc

-- its records stand at top level
pub plain_through : (options : FileOptions) (opened held : Option (List ℕ)) (history : List Rec) (p : Planning) (phase : Phase) (waiting : ℕ) → p.body ≡ None → p.phase ≡ phases.Going → ScribeStands options opened held history p
    → AreThrough options phase waiting
plain_through options opened held history p phase waiting none before stands going some =
    let plans = (stands.going before).0 in
    let is = has_none options history p none plans in
    absurd (not_some (subst (λ (o : Option ℕ). IsSome o) is some))

-- ---- a buffer's records

still_so : (records : List Rec) (before now : ℕ) → ((records ≡ [] → ⊥) → now ≡ 0) → (records ≡ [] → now ≡ before) → before ≡ 0 → now ≡ 0
still_so [] before now some none zero = none refl ∙ zero
still_so (r ∷ rs) before now some none zero = some (λ e. absurd (cc))

-- they stand at top level, and the last of them was appended through
pub goes_plain : (options : FileOptions) (opened held : Option (List ℕ)) (history records : List Rec) (p : Planning) (before now : ℕ) → p.body ≡ None → p.phase ≡ phases.Going → ScribeStands options opened held history p
    → ((records ≡ [] → ⊥) → now ≡ 0) → (records ≡ [] → now ≡ before) → GoesThrough options records before now
goes_plain options opened held history records p before now none going stands some still = record {
  chunked = plain_through options opened held history p p.phase now none going stands going;
  some = some;
  still = still_so records before now some still;
}

body_none : (size span : Option ℕ) (at : ℕ) (history : List Rec) (body : Option Body) → size ≡ None → BodyFor size span at history body → body ≡ None
body_none None span at history None is stands = refl
body_none None span at history (Some b) is stands = absurd stands
body_none (Some size) span at history body is stands = absurd (cc)

each_zero : (size : Option ℕ) (waiting : ℕ) → (IsSome size → waiting ≡ 0) → (size ≡ None → ⊥) → waiting ≡ 0
each_zero None waiting some none = absurd (none refl)
each_zero (Some size) waiting some none = some refl

-- they were put one by one, since there are chunks or a file may not hold them all
pub goes_each : {L : Type 0} (state : L → LiveState) (options : FileOptions) (extras : List Top) (opened : LiveState) (history records : List Rec) (old new : Scribe L) → WritesHistory state options extras opened history old → ScribeGrows state old new records
    → old.plan.phase ≡ phases.Going → new.plan.phase ≡ phases.Going → Holds new.plan.blocks new.plan.bytes → (old.plan.body ≡ None → file_limit < old.plan.bytes + length (history_bytes records))
    → GoesThrough options records (state old.store).waiting (state new.store).waiting
goes_each state options extras opened history records old new writes grows going on holds past =
    let later = grows options extras opened history writes in
    let before = (writes.0.going going).0 in
    let behind = (later.0.going on).0 in
    let chunked : options.chunk ≡ None → ⊥ = λ none.
    past_limit options history records old.plan new.plan none before behind (past (body_none options.chunk options.span _ history old.plan.body none before.body)) holds in
    let zero = each_zero options.chunk (state new.store).waiting (later.2 on) chunked in
    record { chunked = λ some. zero; some = λ some. zero; still = λ none. zero }

pub both_ok : (result : Result Unit Stop) (A B C : Type 0) → OnOk result A → OnOk result B → (A → B → C) → OnOk result C
both_ok (Ok done) A B C one other joined = joined one other
both_ok (Err stop) A B C one other joined = tt
