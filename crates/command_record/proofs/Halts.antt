-- Where the feeds of a recording halt, as a list.
use Rattle.std.proofs.Common.{◌≡◌, ℕ, zero, suc, ◌≤◌, List, [], ◌∷◌, ◌++◌, length, drop, refl, sym, ap, subst, inl, inr, ◌∙◌, arith}
use Rattle.mcap_model.specs.Places.{At, Each}
use Rattle.mcap_model.proofs.Places.{at_none}
use Rattle.mcap_model.specs.declared.refusals.ReadingRefused.{ReadingRefused}
use Rattle.mcap_model.specs.declared.refusals.ReadingRefused.TheVariants as refusals
use Rattle.feed_lane.specs.declared.report.FeedReport.{FeedReport}
use Rattle.feed_lane.specs.declared.report.FeedEnd.{FeedEnd}
use Rattle.feed_lane.specs.declared.report.FeedEnd.TheVariants as feed_ends
use Rattle.command_base.specs.Texts.{Trouble}
use Rattle.command_base.specs.OneFile.{refusal_ending, troubles_in}
use Rattle.command_base.specs.OneFileSteps.{IsHalt}
use Rattle.command_base.specs.Ran.{first_halts}
use Rattle.command_base.specs.Endings.{all_halts}
use Rattle.command_record.specs.Record.{end_troubles, ends_of}
use Rattle.command_record.specs.RecordSteps.{first_end}

-- ---- of one index

none_end : (feeds : List (List ℕ)) → ends_of feeds [] ≡ []
none_end [] = refl
none_end (feed ∷ feeds) = refl

drop_ends : (i : ℕ) (feeds : List (List ℕ)) (reports : List FeedReport) → drop i (ends_of feeds reports) ≡ ends_of (drop i feeds) (drop i reports)
drop_ends zero feeds reports = refl
drop_ends (suc i) [] reports = refl
drop_ends (suc i) (feed ∷ feeds) [] = sym (none_end (drop i feeds))
drop_ends (suc i) (feed ∷ feeds) (report ∷ reports) = drop_ends i feeds reports

first_is : (feed : List ℕ) (feeds : List (List ℕ)) (reports : List FeedReport) → first_halts (ends_of (feed ∷ feeds) reports) ≡ first_end feed reports
first_is feed feeds [] = refl
first_is feed feeds (report ∷ reports) = refl

-- the feed there halts as its report says
pub halts_so : (i : ℕ) (feeds more : List (List ℕ)) (reports : List FeedReport) (feed : List ℕ) → drop i feeds ≡ feed ∷ more → first_halts (drop i (ends_of feeds reports)) ≡ first_end feed (drop i reports)
halts_so i feeds more reports feed is =
    ap first_halts (drop_ends i feeds reports) ∙ ap (λ (l : List (List ℕ)). first_halts (ends_of l (drop i reports))) is ∙ first_is feed more (drop i reports)

drop_past : {X : Type 0} (i : ℕ) (xs : List X) → length xs ≤ i → drop i xs ≡ []
drop_past zero [] past = refl
drop_past zero (x ∷ xs) past = absurd (omega (arith, past))
drop_past (suc i) [] past = refl
drop_past (suc i) (x ∷ xs) past = drop_past i xs (omega (arith, past))

-- behind the feeds nothing halts
pub halts_nowhere : (i : ℕ) (feeds : List (List ℕ)) (reports : List FeedReport) → length feeds ≤ i → first_halts (drop i (ends_of feeds reports)) ≡ []
halts_nowhere i feeds reports past = ap first_halts (drop_ends i feeds reports) ∙ ap (λ (l : List (List ℕ)). first_halts (ends_of l (drop i reports))) (drop_past i feeds past)

-- ---- of all

-- as many as feeds, or fewer
pub ends_long : (feeds : List (List ℕ)) (reports : List FeedReport) → length (ends_of feeds reports) ≤ length feeds
ends_long [] reports = omega arith
ends_long (feed ∷ feeds) [] = omega arith
ends_long (feed ∷ feeds) (report ∷ reports) = let more = ends_long feeds reports in omega (arith, more)

no_halt : Each IsHalt []
no_halt n other at = absurd (at_none n other at)

same_first : (a b : Trouble) → At (a ∷ []) 0 b → a ≡ b
same_first a b at = cc

one_halt : (trouble : Trouble) → IsHalt trouble → Each IsHalt (trouble ∷ [])
one_halt trouble is zero other at = subst IsHalt (same_first trouble other at) is
one_halt trouble is (suc n) other at = absurd (at_none n other at)

both_halt : (xs ys : List Trouble) → Each IsHalt xs → Each IsHalt ys → Each IsHalt (xs ++ ys)
both_halt [] ys first second n other at = second n other at
both_halt (x ∷ xs) ys first second zero other at = first zero other at
both_halt (x ∷ xs) ys first second (suc n) other at = both_halt xs ys (λ m t there. first (suc m) t there) second n other at

refusal_halts : (feed : List ℕ) (why : ReadingRefused) → Each IsHalt (troubles_in (refusal_ending feed why))
refusal_halts feed (refusals.Fault faults) = no_halt
refusal_halts feed (refusals.Grammar n rule) = one_halt _ (inl refl)
refusal_halts feed (refusals.Compressed n name) = one_halt _ (inl refl)
refusal_halts feed (refusals.Limit n) = one_halt _ (inr refl)
refusal_halts feed refusals.Memory = no_halt

end_halts : (feed : List ℕ) (end : FeedEnd) → Each IsHalt (end_troubles feed end)
end_halts feed feed_ends.Done = no_halt
end_halts feed (feed_ends.Refused why) = refusal_halts feed why
end_halts feed feed_ends.Ended = no_halt

-- each is one of a file that is refused, or of a limit
pub ends_halt : (feeds : List (List ℕ)) (reports : List FeedReport) → Each IsHalt (all_halts (ends_of feeds reports))
ends_halt [] reports = no_halt
ends_halt (feed ∷ feeds) [] = no_halt
ends_halt (feed ∷ feeds) (report ∷ reports) = both_halt (end_troubles feed report.end) (all_halts (ends_of feeds reports)) (end_halts feed report.end) (ends_halt feeds reports)
