-- What the steps of the writer come to.
use Rattle.std.proofs.Common.{◌≡◌, ℕ, List, [], ◌++◌, All, ◌≤◌, Option, Some, None, Result, Ok, Err, inl, inr, refl, sym, ap, subst, ◌∙◌, append-nil, append_assoc, arith}
use Rattle.std.specs.Prelude.{IfSome, IfErr, OnOk, is_some, true}
use Rattle.std.proofs.lemmas.Bool.{false≢true}
use Rattle.std.proofs.lemmas.List.Elements.{All-append}
use Rattle.std.proofs.lemmas.Option.{same_Some, none-some}
use Rattle.rec_data.specs.declared.owned.Rec.{Rec}
use Rattle.mcap_model.specs.declared.ends.End.{End}
use Rattle.mcap_model.specs.declared.ends.End.TheVariants as ends
use Rattle.mcap_model.specs.declared.ends.Stop.{Stop}
use Rattle.mcap_model.specs.declared.ends.Stop.TheVariants as stops
use Rattle.mcap_model.specs.History.{Numbered}
use Rattle.mcap_model.proofs.Places.{at_none}
use Rattle.record_cache.specs.KeptRecords.{IsKept}
use Rattle.record_core.specs.Desk.{IsCause}
use Rattle.chunk_writer.specs.declared.phase.Phase.{Phase}
use Rattle.chunk_writer.specs.declared.phase.Phase.TheVariants as phases
use Rattle.live_entry.specs.declared.entry.Entry.{Entry}
use Rattle.mcap_io.specs.Outside.{one_more}
use Rattle.chunk_writer.specs.Tapes.{HasTaken, MayTake, StopsFor, EndsFor}
use Rattle.record_core.specs.declared.answers.Found.{Found}
use Rattle.feed_lane.specs.Pass.{PassState}
use Rattle.feed_lane.specs.PassCalls.{Finds, with_found}
use Rattle.buffer_swap.specs.Posts.{Post}
use Rattle.buffer_swap.specs.Calls.{stopped_at}
use Rattle.recorder.specs.Recorded.{answer_of}
use Rattle.recorder.specs.Writing.{MayWrite, Continues, StopsWith, StopsIntake, SeenTape, WritesOn}
use Rattle.recorder.specs.Onto.{phase_at}

-- ---- phases

pub going_stopped : (stop : Stop) → phases.Going ≡ phases.Stopped stop → ⊥
going_stopped stop e = cc

going_ended : phases.Going ≡ phases.Ended → ⊥
going_ended e = cc

stopped_ended : (stop : Stop) → phases.Stopped stop ≡ phases.Ended → ⊥
stopped_ended stop e = cc

stopped_same : (a b : Stop) → phases.Stopped a ≡ phases.Stopped b → a ≡ b
stopped_same a b e = cc

is_cause : (before now : ℕ) (limit_met : ℕ → ℕ → Type 0) (stop : Stop) → StopsFor before now limit_met stop → IsCause stop
is_cause before now limit_met (stops.Fault faults) cause = omega (arith, cause.1)
is_cause before now limit_met (stops.Limit blocks bytes) cause = tt
is_cause before now limit_met stops.Memory cause = tt

may_on : (limit_met : ℕ → ℕ → Type 0) (phase : Phase) (before now : ℕ) → Continues limit_met phase before now → MayWrite phase
may_on limit_met phases.Going before now continues = record { unended = going_ended; cause = λ stop e. absurd (going_stopped stop e) }
may_on limit_met (phases.Stopped stop) before now continues = record {
  unended = stopped_ended stop;
  cause = λ other e. subst IsCause (stopped_same stop other e) (is_cause before now limit_met stop continues);
}
may_on limit_met phases.Ended before now continues = absurd continues

pub continues_same : (limit_met : ℕ → ℕ → Type 0) (phase : Phase) (n : ℕ) → phase ≡ phases.Going → Continues limit_met phase n n
continues_same limit_met phase n is = subst (λ (p : Phase). Continues limit_met p n n) (sym is) (omega arith)

rose_later : (first mid last : ℕ) → mid ≡ first → one_more mid ≤ last → one_more first ≤ last
rose_later first mid last before rose = omega (arith, before, rose)

-- how far a tape has come once it was ended
pub phase_so : (phase : Phase) (end : End) (result : Result Unit Stop) → answer_of end ≡ result → OnOk result (phase ≡ phases.Ended) → IfErr result (λ stop. phase ≡ phases.Stopped stop) → phase ≡ phase_at end
phase_so phase ends.Closed result same ended stopped = subst (λ (r : Result Unit Stop). OnOk r (phase ≡ phases.Ended)) (sym same) ended
phase_so phase (ends.Stopped stop) result same ended stopped = subst (λ (r : Result Unit Stop). IfErr r (λ why. phase ≡ phases.Stopped why)) (sym same) stopped

-- what comes behind a call that didn't fail has the reason of both
for_later : (first mid last : ℕ) (limit_met : ℕ → ℕ → Type 0) (stop : Stop) → mid ≡ first → StopsFor mid last limit_met stop → StopsFor first last limit_met stop
for_later first mid last limit_met (stops.Fault faults) before (rose, some, told) = (rose_later first mid last before rose, some, told)
for_later first mid last limit_met (stops.Limit blocks bytes) before (met, later) = (met, omega (arith, before, later))
for_later first mid last limit_met stops.Memory before later = omega (arith, before, later)

pub continues_later : (first mid last : ℕ) (limit_met : ℕ → ℕ → Type 0) (phase : Phase) → mid ≡ first → Continues limit_met phase mid last → Continues limit_met phase first last
continues_later first mid last limit_met phases.Going before later = omega (arith, before, later)
continues_later first mid last limit_met (phases.Stopped stop) before later = for_later first mid last limit_met stop before later
continues_later first mid last limit_met phases.Ended before later = absurd later

pub ends_later : {X : Type 0} (first mid last : ℕ) (limit_met : ℕ → ℕ → Type 0) (end : Result X Stop) → mid ≡ first → EndsFor mid last limit_met end → EndsFor first last limit_met end
ends_later first mid last limit_met (Ok it) before later = omega (arith, before, later)
ends_later first mid last limit_met (Err stop) before later = for_later first mid last limit_met stop before later

-- ---- a stop of the drain

-- nothing was taken, and the intake was looked at
pub halts_later : (before after : PassState) (post now : Post) (phase : Phase) (found : Found) → Finds before found → after ≡ with_found before found → now ≡ post → StopsIntake before post phase → StopsIntake after now phase
halts_later before after post now phase found finds looks same halts = λ stop is. elim (halts stop is) [
  | inl stopped ↦ inl (ap (λ (p : Post). p.stop) same ∙ stopped)
  | inr ended ↦ inr (record {
    found = found;
    end = ended.end;
    shown = ap (λ (p : PassState). p.found) looks;
    ended = (finds.later ended.found ended.shown).end ended.end ended.ended;
  })
]

-- a tape that goes on hasn't stopped
pub halts_going : (pass : PassState) (post : Post) (phase : Phase) → phase ≡ phases.Going → StopsIntake pass post phase
halts_going pass post phase going = λ stop is. absurd (going_stopped stop (sym going ∙ is))

-- the intake was stopped
pub halts_stopped : (before after : PassState) (post now : Post) (phase : Phase) (found : Found) (stop : Stop) (o : Option End) → found.end ≡ o → after ≡ with_found before found → now ≡ stopped_at o stop post → phase ≡ phases.Stopped stop
    → StopsIntake after now phase
halts_stopped before after post now phase found stop None is looks same stopped = λ other so. inl (ap (λ (p : Post). p.stop) same ∙ ap (λ (s : Stop). Some s) (stopped_same stop other (sym stopped ∙ so)))
halts_stopped before after post now phase found stop (Some end) is looks same stopped = λ other so. inr (record { found = found; end = end; shown = ap (λ (p : PassState). p.found) looks; ended = is })

pub if_some : {X : Type 0} (o : Option X) (P Q : X → Type 0) → IfSome o P → ((x : X) → P x → Q x) → IfSome o Q
if_some None P Q it on = tt
if_some (Some x) P Q it on = on x it

pub end_there : (o : Option End) → is_some o ≡ true → (end : End) × (o ≡ Some end)
end_there None is = absurd (false≢true is)
end_there (Some end) is = (end, refl)

pub stopped_taken : (end : Option End) (stop : Stop) (post : Post) → (stopped_at end stop post).taken ≡ post.taken
stopped_taken None stop post = refl
stopped_taken (Some end) stop post = refl

-- a stop that was set is that one
pub stopped_for : (end : Option End) (stop : Stop) (post : Post) → post.stop ≡ None → (other : Stop) → (stopped_at end stop post).stop ≡ Some other → other ≡ stop
stopped_for None stop post none other is = sym (same_Some stop other is)
stopped_for (Some end) stop post none other is = absurd (none-some _ (sym none ∙ is))

pub stopped_with : (end : Option End) (stop : Stop) (post : Post) (phase : Phase) → StopsWith post.stop phase → phase ≡ phases.Stopped stop → StopsWith (stopped_at end stop post).stop phase
stopped_with None stop post phase was is = λ other e. is ∙ ap (λ (s : Stop). phases.Stopped s) (same_Some stop other e)
stopped_with (Some end) stop post phase was is = was

-- ---- steps

module _ {T : Type 0} (phase : T → Phase) (failures : T → ℕ) (limit_met : T → ℕ → ℕ → Type 0) (tape later : T) where
  continues_on : (first : ℕ) (p : Phase) → phase tape ≡ p → Continues (limit_met tape) p first (failures tape)
      → (phase tape ≡ phases.Going → Continues (limit_met later) (phase later) (failures tape) (failures later))
      → ((stop : Stop) → phase tape ≡ phases.Stopped stop → later ≡ tape) → Continues (limit_met later) (phase later) first (failures later)
  continues_on first phases.Going is before goes kept = continues_later first (failures tape) (failures later) (limit_met later) (phase later) before (goes is)
  continues_on first (phases.Stopped stop) is before goes kept =
      subst (λ (t : T). Continues (limit_met t) (phase t) first (failures t)) (sym (kept stop is))
      (subst (λ (q : Phase). Continues (limit_met tape) q first (failures tape)) (sym is) before)
  continues_on first phases.Ended is before goes kept = absurd before

  pub may_later : (p : Phase) → phase tape ≡ p → MayWrite (phase tape)
      → (phase tape ≡ phases.Going → Continues (limit_met later) (phase later) (failures tape) (failures later))
      → ((stop : Stop) → phase tape ≡ phases.Stopped stop → later ≡ tape) → MayWrite (phase later)
  may_later phases.Going is may goes kept = may_on (limit_met later) (phase later) (failures tape) (failures later) (goes is)
  may_later (phases.Stopped stop) is may goes kept = subst (λ (t : T). MayWrite (phase t)) (sym (kept stop is)) may
  may_later phases.Ended is may goes kept = absurd (may.unended is)

  -- a tape that was ended has the reason of all
  pub ended_for : (first : ℕ) (p : Phase) (end : End) → phase tape ≡ p → Continues (limit_met tape) p first (failures tape)
      → (phase tape ≡ phases.Going → EndsFor {X = Unit {0}} (failures tape) (failures later) (limit_met later) (answer_of end))
      → ((stop : Stop) → phase tape ≡ phases.Stopped stop → (answer_of end ≡ Err stop) × (later ≡ tape)) → EndsFor {X = Unit {0}} first (failures later) (limit_met later) (answer_of end)
  ended_for first phases.Going end is before goes kept = ends_later first (failures tape) (failures later) (limit_met later) (answer_of end) before (goes is)
  ended_for first (phases.Stopped stop) end is before goes kept =
      let (same, stays) = kept stop is in
      subst (λ (a : Result Unit Stop). EndsFor first (failures later) (limit_met later) a) (sym same)
      (subst (λ (t : T). StopsFor first (failures t) (limit_met t) stop) (sym stays) before)
  ended_for first phases.Ended end is before goes kept = absurd before

  pub stops_later : (halt : Option Stop) → StopsWith halt (phase tape) → ((stop : Stop) → phase tape ≡ phases.Stopped stop → later ≡ tape) → StopsWith halt (phase later)
  stops_later halt was kept = λ stop is. ap phase (kept stop (was stop is)) ∙ was stop is

module _ {T X : Type 0} (seen : SeenTape T X) where
  -- nothing was taken
  pub writes_none : ((t : T) → seen.grows t t [] []) → (t : T) (before : List Rec) (post : Post) → post.taken ≡ before → MayWrite (seen.phase t) → StopsWith post.stop (seen.phase t)
      → WritesOn seen t t before post
  writes_none none t before post same may stops = record {
    more = [];
    entries = [];
    taken = same ∙ sym (append-nil before);
    grown = none t;
    records = λ k d lt. absurd (omega (arith, lt));
    may = may;
    stops = stops;
    goes = continues_same (seen.limit_met t) (seen.phase t) (seen.failures t);
    kept = λ stop is. refl;
  }

  -- a buffer was taken
  pub writes_one : (t u : T) (before records : List Rec) (entries : List (Entry X)) (post : Post) → post.taken ≡ before ++ records → seen.grows t u records entries → All IsKept records → MayWrite (seen.phase t)
      → (seen.phase t ≡ phases.Going → Continues (seen.limit_met u) (seen.phase u) (seen.failures t) (seen.failures u)) → ((stop : Stop) → seen.phase t ≡ phases.Stopped stop → u ≡ t) → StopsWith post.stop (seen.phase u)
      → WritesOn seen t u before post
  writes_one t u before records entries post is more all may goes kept stops = record {
    more = records;
    entries = entries;
    taken = is;
    grown = more;
    records = all;
    may = may_later seen.phase seen.failures seen.limit_met t u (seen.phase t) refl may goes kept;
    stops = stops;
    goes = goes;
    kept = kept;
  }

  pub writes_on : ((t u v : T) (before behind : List Rec) (one other : List (Entry X)) → seen.grows t u before one → seen.grows u v behind other → seen.grows t v (before ++ behind) (one ++ other)) → (t u v : T) (a : List Rec) (one other : Post)
      → WritesOn seen t u a one → WritesOn seen u v one.taken other → WritesOn seen t v a other
  writes_on on t u v a one other first second = record {
    more = first.more ++ second.more;
    entries = first.entries ++ second.entries;
    taken = second.taken ∙ ap (λ (l : List Rec). l ++ second.more) first.taken ∙ append_assoc a first.more second.more;
    grown = on t u v first.more second.more first.entries second.entries first.grown second.grown;
    records = All-append IsKept first.more second.more first.records second.records;
    may = second.may;
    stops = second.stops;
    goes = λ going. continues_on seen.phase seen.failures seen.limit_met u v (seen.failures t) (seen.phase u) refl (first.goes going) second.goes second.kept;
    kept = λ stop is. let same = first.kept stop is in second.kept stop (ap seen.phase same ∙ is) ∙ same;
  }

-- ---- what a tape took since it was new

module _ {T X : Type 0} (is_new : T → Type 0) (grows : T → T → List Rec → List (Entry X) → Type 0) where
  pub has_none : ((t : T) → grows t t [] []) → (t : T) → is_new t → (before : List Rec) → before ≡ [] → HasTaken is_new grows t before
  has_none none t begun before is = subst (HasTaken is_new grows t) (sym is) (record {
    first = t;
    entries = [];
    begun = begun;
    grown = none t;
    numbered = λ n r at. absurd (at_none n r at);
    kept = λ k d lt. absurd (omega (arith, lt));
  })

  pub may_take : (t : T) (before records after : List Rec) → HasTaken is_new grows t before → after ≡ before ++ records → Numbered after → All IsKept records → MayTake is_new grows t records
  may_take t before records after has is numbered kept = record {
    taken = before;
    has = has;
    numbered = subst Numbered is numbered;
    kept = kept;
  }

  pub has_more : ((t u v : T) (a b : List Rec) (one other : List (Entry X)) → grows t u a one → grows u v b other → grows t v (a ++ b) (one ++ other))
      → (t u : T) (before records after : List Rec) (entries : List (Entry X)) → HasTaken is_new grows t before → grows t u records entries → All IsKept records → Numbered (before ++ records) → after ≡ before ++ records → HasTaken is_new grows u after
  has_more on t u before records after entries has more kept numbered is = subst (HasTaken is_new grows u) (sym is) (record {
    first = has.first;
    entries = has.entries ++ entries;
    begun = has.begun;
    grown = on has.first t u before records has.entries entries has.grown more;
    numbered = numbered;
    kept = All-append IsKept before records has.kept kept;
  })
