-- The profile is what was found, or nothing.
use Rattle.std.proofs.Common.{◌≤◌, arith, length, subst}
use Rattle.command_words.specs.Items.{Word}
use Rattle.command_words.specs.Matches.{rows_found}
use Rattle.command_words.proofs.OptionLemmas.{profile_is, profile_only}
use Rattle.command_words.proofs.options.profile_of.Goals as goal

pub returns-then-profile-gt-LONGEST_PROFILE-clause-bad :
    goal.returns-then-profile-gt-LONGEST_PROFILE-clause-bad
returns-then-profile-gt-LONGEST_PROFILE-clause-bad c = λ items places shows profile has.
    let same = profile_only (rows_found c.args.found.now) items places shows c.profile_text-profile.result.now profile c.profile_text-profile.ensures has in
    let short : length c.profile_text-profile.result.now ≤ 65535 = subst (λ (w : Word). length w ≤ 65535) same has.short in
    absurd (omega arith)

pub returns-clause-profile : goal.returns-clause-profile
returns-clause-profile c = λ items places shows.
    profile_is (rows_found c.args.found.now) items places shows c.profile_text-profile.result.now c.profile_text-profile.ensures (omega arith)
