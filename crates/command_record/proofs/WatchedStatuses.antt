-- The status of the troubles of a recording with watchers.
use Rattle.std.proofs.Common.{◌≡◌, ℕ, ◌≤◌, Bool, true, false, cond, if◌then◌else◌, ◌||◌, ◌&&◌, List, [], ◌∷◌, ◌++◌, length, map, Option, refl, sym, ap, ◌∙◌, arith}
use Rattle.std.specs.List.{list_any}
use Rattle.std.proofs.lemmas.List.Folds.{list_any-append}
use Rattle.feed_lane.specs.declared.report.FeedReport.{FeedReport}
use Rattle.recorder.specs.declared.report.Report.{Report}
use Rattle.live_watcher.specs.declared.report.WatchEnd.{WatchEnd}
use Rattle.live_watcher.specs.declared.report.WatchEnd.TheVariants as watch_ends
use Rattle.live_watcher.specs.declared.report.WatchReport.{WatchReport}
use Rattle.command_base.specs.declared.statuses.Status.{Status}
use Rattle.command_base.specs.declared.statuses.Status.TheVariants as statuses
use Rattle.command_base.specs.Texts.{Trouble, fault, output_fault, output_limit, no_memory, is_status, status_is_asked, status_of}
use Rattle.command_base.specs.Ran.{when, told_of}
use Rattle.command_base.proofs.Asking.{both_asked, asks_when, halts_ask, some_blamed, none_halts, all_blamed, asked_told, status_picks}
use Rattle.recorder.specs.Findings.{limit_passed}
use Rattle.command_base.specs.Outputs.{some_failed}
use Rattle.command_record.specs.Record.{ends_of, reports_in, worst}
use Rattle.command_record.specs.Watched.{named, is_flaw}
use Rattle.command_record.specs.WatchedAnswer.{Blamed, watch_troubles, flaws_of, watch_status, ends_status_beside, watched_troubles}
use Rattle.command_record.specs.WatchedSteps.{some_flaw}
use Rattle.command_record.proofs.Statuses.{or_nothing, asked_ends, ends_ask, no_fault_asked, no_memory_asked}

-- ---- what the watchers ask for

-- an end asks for its own status
watch_asks : (s : Status) (name : List ℕ) (end : WatchEnd) → is_status s statuses.Done ≡ false → status_is_asked (watch_troubles name end) s ≡ is_status s (watch_status end)
watch_asks s name watch_ends.Whole undone = sym undone
watch_asks s name watch_ends.Unsealed undone = sym undone
watch_asks s name (watch_ends.Fault faults) undone = sym undone
watch_asks s name (watch_ends.Flaw rule n) undone = or_nothing (is_status s statuses.Refused)
watch_asks s name watch_ends.Memory undone = sym undone

-- the statuses of the watchers' ends
abbrev asked_watches : List WatchReport → List Status
asked_watches ends = map (λ (w : WatchReport). watch_status w.end) ends

flaws_ask : (s : Status) (names : List (List ℕ)) (reports : List WatchReport) → is_status s statuses.Done ≡ false → length reports ≤ length names → halts_ask s names (flaws_of names reports) ≡ list_any (is_status s) (asked_watches reports)
flaws_ask s [] [] undone few = refl
flaws_ask s [] (report ∷ reports) undone few = absurd (omega (arith, few))
flaws_ask s (name ∷ names) [] undone few = none_halts s names
flaws_ask s (name ∷ names) (report ∷ reports) undone few =
    ap (λ (b : Bool). b || halts_ask s names (flaws_of names reports)) (watch_asks s name report.end undone) ∙ ap (λ (b : Bool). is_status s (watch_status report.end) || b) (flaws_ask s names reports undone (omega (arith, few)))

-- a watcher asks for a refusal where it found a flaw, and for nothing else
flaw_refused : (end : WatchEnd) → is_status statuses.Refused (watch_status end) ≡ is_flaw end
flaw_refused watch_ends.Whole = refl
flaw_refused watch_ends.Unsealed = refl
flaw_refused (watch_ends.Fault faults) = refl
flaw_refused (watch_ends.Flaw rule n) = refl
flaw_refused watch_ends.Memory = refl

flaws_refused : (ends : List WatchReport) → list_any (is_status statuses.Refused) (asked_watches ends) ≡ some_flaw ends
flaws_refused [] = refl
flaws_refused (w ∷ ws) = ap (λ (b : Bool). b || list_any (is_status statuses.Refused) (asked_watches ws)) (flaw_refused w.end) ∙ ap (λ (b : Bool). is_flaw w.end || b) (flaws_refused ws)

watch_calm : (s : Status) (end : WatchEnd) → is_status s statuses.Done ≡ false → is_status s statuses.Refused ≡ false → is_status s (watch_status end) ≡ false
watch_calm s watch_ends.Whole undone other = undone
watch_calm s watch_ends.Unsealed undone other = undone
watch_calm s (watch_ends.Fault faults) undone other = undone
watch_calm s (watch_ends.Flaw rule n) undone other = other
watch_calm s watch_ends.Memory undone other = undone

others_unasked : (s : Status) (ends : List WatchReport) → is_status s statuses.Done ≡ false → is_status s statuses.Refused ≡ false → list_any (is_status s) (asked_watches ends) ≡ false
others_unasked s [] undone other = refl
others_unasked s (w ∷ ws) undone other = ap (λ (b : Bool). b || list_any (is_status s) (asked_watches ws)) (watch_calm s w.end undone other) ∙ others_unasked s ws undone other

-- ---- the worst of the ends

abbrev worse : Bool → Bool → Status
worse limits refuses = if limits then statuses.Limit else (if refuses then statuses.Refused else statuses.Done)

-- a limit of a feed, or a trouble of a feed or a flaw
worst_of_ends : (reports : List FeedReport) (ends : List WatchReport)
    → ends_status_beside reports ends ≡ worse (list_any (is_status statuses.Limit) (asked_ends reports)) (list_any (is_status statuses.Refused) (asked_ends reports) || some_flaw ends)
worst_of_ends reports ends =
    let first = asked_ends reports in
    let second = asked_watches ends in
    let limits : list_any (is_status statuses.Limit) (first ++ second) ≡ list_any (is_status statuses.Limit) first =
    list_any-append (is_status statuses.Limit) first second ∙ ap (λ (b : Bool). list_any (is_status statuses.Limit) first || b) (others_unasked statuses.Limit ends refl refl) ∙ or_nothing (list_any (is_status statuses.Limit) first) in
    let refuses : list_any (is_status statuses.Refused) (first ++ second) ≡ (list_any (is_status statuses.Refused) first || some_flaw ends) =
    list_any-append (is_status statuses.Refused) first second ∙ ap (λ (b : Bool). list_any (is_status statuses.Refused) first || b) (flaws_refused ends) in
    ap (λ (b : Bool). worse b (list_any (is_status statuses.Refused) (first ++ second))) limits ∙ ap (worse (list_any (is_status statuses.Limit) first)) refuses

-- without a flaw it is that of the feeds
pub worst_unflawed : (reports : List FeedReport) (ends : List WatchReport) → some_flaw ends ≡ false → ends_status_beside reports ends ≡ worst (asked_ends reports)
worst_unflawed reports ends none =
    let first = asked_ends reports in
    worst_of_ends reports ends ∙ ap (λ (b : Bool). worse (list_any (is_status statuses.Limit) first) (list_any (is_status statuses.Refused) first || b)) none
    ∙ ap (worse (list_any (is_status statuses.Limit) first)) (or_nothing (list_any (is_status statuses.Refused) first))

-- where all was done no watcher found a flaw
pub none_flawed : (reports : List FeedReport) (ends : List WatchReport) → ends_status_beside reports ends ≡ statuses.Done → some_flaw ends ≡ false
none_flawed reports ends is = unflawed (list_any (is_status statuses.Limit) (asked_ends reports)) (list_any (is_status statuses.Refused) (asked_ends reports)) (some_flaw ends) (sym (worst_of_ends reports ends) ∙ is)
  where
    unflawed : (limits refuses flaw : Bool) → worse limits (refuses || flaw) ≡ statuses.Done → flaw ≡ false
    unflawed true refuses flaw none = absurd cc
    unflawed false true flaw none = absurd cc
    unflawed false false true none = absurd cc
    unflawed false false false none = refl

-- ---- the status

abbrev pub any_part : List Bool → Bool → List Bool → Bool → Bool
any_part feeds o watches p = some_failed feeds || (o || (some_failed watches || p))

limits_first : (h l one : Bool) → cond (h || l) statuses.Limit (cond one statuses.Refused statuses.Done) ≡ cond l statuses.Limit (worse h one)
limits_first true true one = refl
limits_first true false one = refl
limits_first false true one = refl
limits_first false false one = refl

module _ (out : List ℕ) (watches feeds : List (List ℕ)) (reports : List FeedReport) (ends : List WatchReport) (flags : List Bool) (o : Bool) (watch_flags : List Bool) (l p m : Bool) (few : length reports ≤ length feeds) (few_ends : length ends ≤ length watches) (few_flags : length flags ≤ length feeds) (few_watches : length watch_flags ≤ length watches) where
  abbrev last : List Trouble
  last = when p output_fault ++ when m no_memory

  abbrev behind : List Trouble
  behind = told_of watches (flaws_of watches ends) watch_flags last

  abbrev limits : List Trouble
  limits = when l (output_limit out) ++ behind

  abbrev due : List Trouble
  due = told_of feeds (ends_of feeds reports) flags (when o (fault out) ++ limits)

  -- what the watchers ask for, and what stands behind them
  watches_ask : (s : Status) → is_status s statuses.Done ≡ false
      → status_is_asked behind s ≡ (list_any (is_status s) (asked_watches ends) || ((is_status s statuses.Fault && some_failed watch_flags) || ((is_status s statuses.Fault && p) || (is_status s statuses.Memory && m))))
  watches_ask s undone =
      asked_told s watches (flaws_of watches ends) watch_flags last
      ∙ ap (λ (b : Bool). b || ((is_status s statuses.Fault && some_blamed watches watch_flags) || status_is_asked last s)) (flaws_ask s watches ends undone few_ends)
      ∙ ap (λ (b : Bool). list_any (is_status s) (asked_watches ends) || ((is_status s statuses.Fault && b) || status_is_asked last s)) (all_blamed watches watch_flags few_watches)
      ∙ ap (λ (b : Bool). list_any (is_status s) (asked_watches ends) || ((is_status s statuses.Fault && some_failed watch_flags) || b)) (both_asked s (when p output_fault) (when m no_memory)
      ∙ ap (λ (b : Bool). b || status_is_asked (when m no_memory) s) (asks_when s p output_fault)
      ∙ ap (λ (b : Bool). (is_status s statuses.Fault && p) || b) (asks_when s m no_memory))

  due_asks : (s : Status) (others : Bool) → is_status s statuses.Done ≡ false → status_is_asked behind s ≡ others
      → status_is_asked due s ≡ (list_any (is_status s) (asked_ends reports) || ((is_status s statuses.Fault && some_failed flags) || ((is_status s statuses.Fault && o) || ((is_status s statuses.Limit && l) || others))))
  due_asks s others undone asks =
      asked_told s feeds (ends_of feeds reports) flags (when o (fault out) ++ limits)
      ∙ ap (λ (b : Bool). b || ((is_status s statuses.Fault && some_blamed feeds flags) || status_is_asked (when o (fault out) ++ limits) s)) (ends_ask s feeds reports undone few)
      ∙ ap (λ (b : Bool). list_any (is_status s) (asked_ends reports) || ((is_status s statuses.Fault && b) || status_is_asked (when o (fault out) ++ limits) s)) (all_blamed feeds flags few_flags)
      ∙ ap (λ (b : Bool). list_any (is_status s) (asked_ends reports) || ((is_status s statuses.Fault && some_failed flags) || b)) (both_asked s (when o (fault out)) limits
      ∙ ap (λ (b : Bool). b || status_is_asked limits s) (asks_when s o (fault out))
      ∙ ap (λ (b : Bool). (is_status s statuses.Fault && o) || b) (both_asked s (when l (output_limit out)) behind
      ∙ ap (λ (b : Bool). b || status_is_asked behind s) (asks_when s l (output_limit out))
      ∙ ap (λ (b : Bool). (is_status s statuses.Limit && l) || b) asks))

  asks_memory : status_is_asked due statuses.Memory ≡ m
  asks_memory = due_asks statuses.Memory m refl (watches_ask statuses.Memory refl ∙ ap (λ (b : Bool). b || m) (others_unasked statuses.Memory ends refl refl)) ∙ ap (λ (b : Bool). b || m) (no_memory_asked reports)

  asks_fault : status_is_asked due statuses.Fault ≡ any_part flags o watch_flags p
  asks_fault =
      due_asks statuses.Fault (some_failed watch_flags || p) refl (watches_ask statuses.Fault refl ∙ ap (λ (b : Bool). b || (some_failed watch_flags || (p || false))) (others_unasked statuses.Fault ends refl refl) ∙ ap (λ (b : Bool). some_failed watch_flags || b) (or_nothing p))
      ∙ ap (λ (b : Bool). b || any_part flags o watch_flags p) (no_fault_asked reports)

  asks_limit : status_is_asked due statuses.Limit ≡ (list_any (is_status statuses.Limit) (asked_ends reports) || l)
  asks_limit =
      due_asks statuses.Limit false refl (watches_ask statuses.Limit refl ∙ ap (λ (b : Bool). b || false) (others_unasked statuses.Limit ends refl refl))
      ∙ ap (λ (b : Bool). list_any (is_status statuses.Limit) (asked_ends reports) || b) (or_nothing l)

  asks_refusal : status_is_asked due statuses.Refused ≡ (list_any (is_status statuses.Refused) (asked_ends reports) || some_flaw ends)
  asks_refusal = due_asks statuses.Refused (some_flaw ends) refl (watches_ask statuses.Refused refl ∙ or_nothing (list_any (is_status statuses.Refused) (asked_watches ends)) ∙ flaws_refused ends)

  due_status : status_of due ≡ cond m statuses.Memory (cond (any_part flags o watch_flags p) statuses.Fault (cond l statuses.Limit (ends_status_beside reports ends)))
  due_status =
      let four = list_any (is_status statuses.Limit) (asked_ends reports) in
      let one = list_any (is_status statuses.Refused) (asked_ends reports) || some_flaw ends in
      status_picks due m (any_part flags o watch_flags p) (four || l) one asks_memory asks_fault asks_limit asks_refusal
      ∙ ap (λ (t : Status). cond m statuses.Memory (cond (any_part flags o watch_flags p) statuses.Fault t)) (limits_first four l one ∙ ap (cond l statuses.Limit) (sym (worst_of_ends reports ends)))

-- the status is a want of memory where memory lacked, and else that of the parts that failed, of a limit and of the ends
pub watched_status : (out : List ℕ) (watches feeds : List (List ℕ)) (report : Option Report) (ends : List WatchReport) (b : Blamed) (p lacked : Bool) → length (reports_in report) ≤ length feeds → length ends ≤ length watches → length b.feeds ≤ length feeds → length b.watches ≤ length watches
    → status_of (watched_troubles (named out watches feeds) report ends lacked b p) ≡ cond lacked statuses.Memory (cond (any_part b.feeds b.out b.watches p) statuses.Fault (cond (limit_passed report) statuses.Limit (ends_status_beside (reports_in report) ends)))
watched_status out watches feeds report ends b p lacked few few_ends few_flags few_watches = due_status out watches feeds (reports_in report) ends b.feeds b.out b.watches (limit_passed report) p lacked few few_ends few_flags few_watches
