-- The statuses that the ends of feeds ask for.
use Rattle.std.proofs.Common.{◌≡◌, ℕ, ◌≤◌, Bool, true, false, cond, ◌||◌, List, [], ◌∷◌, length, map, refl, sym, ap, ◌∙◌, arith}
use Rattle.std.specs.List.{list_any}
use Rattle.feed_lane.specs.declared.report.FeedReport.{FeedReport}
use Rattle.feed_lane.specs.declared.report.FeedEnd.{FeedEnd}
use Rattle.feed_lane.specs.declared.report.FeedEnd.TheVariants as feed_ends
use Rattle.mcap_model.specs.declared.refusals.ReadingRefused.{ReadingRefused}
use Rattle.mcap_model.specs.declared.refusals.ReadingRefused.TheVariants as refusals
use Rattle.command_base.specs.declared.statuses.Status.{Status}
use Rattle.command_base.specs.declared.statuses.Status.TheVariants as statuses
use Rattle.command_base.specs.OneFile.{refusal_ending, troubles_in}
use Rattle.command_base.specs.Texts.{is_status, status_is_asked}
use Rattle.command_base.proofs.Asking.{halts_ask, none_halts}
use Rattle.command_record.specs.Record.{end_troubles, refusal_status, end_status, ends_of}

pub or_nothing : (a : Bool) → (a || false) ≡ a
or_nothing true = refl
or_nothing false = refl

-- ---- what the feeds ask for

-- an end asks for its own status
refusal_asks : (s : Status) (feed : List ℕ) (why : ReadingRefused) → is_status s statuses.Done ≡ false → status_is_asked (troubles_in (refusal_ending feed why)) s ≡ is_status s (refusal_status why)
refusal_asks s feed (refusals.Fault faults) undone = sym undone
refusal_asks s feed (refusals.Grammar n rule) undone = or_nothing (is_status s statuses.Refused)
refusal_asks s feed (refusals.Compressed n name) undone = or_nothing (is_status s statuses.Refused)
refusal_asks s feed (refusals.Limit n) undone = or_nothing (is_status s statuses.Limit)
refusal_asks s feed refusals.Memory undone = sym undone

end_asks : (s : Status) (feed : List ℕ) (end : FeedEnd) → is_status s statuses.Done ≡ false → status_is_asked (end_troubles feed end) s ≡ is_status s (end_status end)
end_asks s feed feed_ends.Done undone = sym undone
end_asks s feed (feed_ends.Refused why) undone = refusal_asks s feed why undone
end_asks s feed feed_ends.Ended undone = sym undone

-- the statuses of the feeds' ends
abbrev pub asked_ends : List FeedReport → List Status
asked_ends reports = map (λ (f : FeedReport). end_status f.end) reports

pub ends_ask : (s : Status) (feeds : List (List ℕ)) (reports : List FeedReport) → is_status s statuses.Done ≡ false → length reports ≤ length feeds → halts_ask s feeds (ends_of feeds reports) ≡ list_any (is_status s) (asked_ends reports)
ends_ask s [] [] undone few = refl
ends_ask s [] (report ∷ reports) undone few = absurd (omega (arith, few))
ends_ask s (feed ∷ feeds) [] undone few = none_halts s feeds
ends_ask s (feed ∷ feeds) (report ∷ reports) undone few =
    ap (λ (b : Bool). b || halts_ask s feeds (ends_of feeds reports)) (end_asks s feed report.end undone) ∙ ap (λ (b : Bool). is_status s (end_status report.end) || b) (ends_ask s feeds reports undone (omega (arith, few)))

-- none asks for a fault or for a want of memory
refused_calmly : (why : ReadingRefused) → (is_status statuses.Fault (refusal_status why) ≡ false) × (is_status statuses.Memory (refusal_status why) ≡ false)
refused_calmly (refusals.Fault faults) = (refl, refl)
refused_calmly (refusals.Grammar n rule) = (refl, refl)
refused_calmly (refusals.Compressed n name) = (refl, refl)
refused_calmly (refusals.Limit n) = (refl, refl)
refused_calmly refusals.Memory = (refl, refl)

ends_calmly : (end : FeedEnd) → (is_status statuses.Fault (end_status end) ≡ false) × (is_status statuses.Memory (end_status end) ≡ false)
ends_calmly feed_ends.Done = (refl, refl)
ends_calmly (feed_ends.Refused why) = refused_calmly why
ends_calmly feed_ends.Ended = (refl, refl)

none_asks : (s : Status) (reports : List FeedReport) → ((end : FeedEnd) → is_status s (end_status end) ≡ false) → list_any (is_status s) (asked_ends reports) ≡ false
none_asks s [] none = refl
none_asks s (f ∷ fs) none = ap (λ (b : Bool). b || list_any (is_status s) (asked_ends fs)) (none f.end) ∙ none_asks s fs none

pub no_fault_asked : (reports : List FeedReport) → list_any (is_status statuses.Fault) (asked_ends reports) ≡ false
no_fault_asked reports = none_asks statuses.Fault reports (λ end. (ends_calmly end).0)

pub no_memory_asked : (reports : List FeedReport) → list_any (is_status statuses.Memory) (asked_ends reports) ≡ false
no_memory_asked reports = none_asks statuses.Memory reports (λ end. (ends_calmly end).1)

-- ---- the status

-- a want of memory is answered by that, and nothing else
pub where_lacked : (lacked : Bool) (other answer : Status) → answer ≡ cond lacked statuses.Memory other → lacked ≡ true → answer ≡ statuses.Memory
where_lacked true other answer is lacks = is
where_lacked false other answer is lacks = absurd cc

pub where_enough : (lacked : Bool) (other answer : Status) → answer ≡ cond lacked statuses.Memory other → lacked ≡ false → answer ≡ other
where_enough true other answer is enough = absurd cc
where_enough false other answer is enough = is
