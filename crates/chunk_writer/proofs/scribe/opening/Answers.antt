-- The profile's length tells whether the Header can be read.
use Rattle.std.proofs.Common.{◌≤◌, ℕ, List, length, refl, ap, arith}
use Rattle.chunk_writer.specs.Limits.{HeaderFits}
use Rattle.chunk_writer.proofs.Contents.{header_fits, header_short}
use Rattle.chunk_writer.proofs.Planned.{length-front}
use Rattle.chunk_writer.proofs.scribe.opening.Goals as goal

pub returns-then-profile-gt-LONGEST_PROFILE-clause-limit : goal.returns-then-profile-gt-LONGEST_PROFILE-clause-limit
returns-then-profile-gt-LONGEST_PROFILE-clause-limit c = (
  refl,
  refl,
  λ fits.
      let short = header_short c.args.options.now.profile fits in
      omega (arith, short, c.if-profile-gt-LONGEST_PROFILE.true, ap (λ (l : List ℕ). length l) c.as_str-profile.ensures.same),
)

pub new-requires-clause-header : goal.new-requires-clause-header
new-requires-clause-header c =
    header_fits c.args.options.now.profile (omega (arith, c.if-profile-gt-LONGEST_PROFILE.false, ap (λ (l : List ℕ). length l) c.as_str-profile.ensures.same))

pub new-requires-clause-small : goal.new-requires-clause-small
new-requires-clause-small c =
    omega (arith, c.requires.profile, c.len.ensures, ap (λ (l : List ℕ). length l) c.in-Ok.ensures.piece, ap (λ (l : List ℕ). length l) c.as_str-profile.ensures.same, length-front c.as_str-profile.result.now)
