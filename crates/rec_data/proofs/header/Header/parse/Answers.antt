use Rattle.std.proofs.Common.{rules, subst, drop}
use Rattle.mcap_wire.specs.Reading.{TextAt, ReadsText}
use Rattle.mcap_wire.specs.Contents.{a_text}
use Rattle.mcap_wire.proofs.Contents.{begins, begins_end}
use Rattle.rec_data.proofs.Contents.{header_none}
use Rattle.rec_data.proofs.header.Header.parse.Goals as goal

pub returns-in_err-profile-clause-none : goal.returns-in_err-profile-clause-none
returns-in_err-profile-clause-none c = header_none c.args.content.now c.from_residual.result (search rules)

pub returns-in_err-library-clause-none : goal.returns-in_err-library-clause-none
returns-in_err-library-clause-none c = header_none c.args.content.now c.from_residual-in_err-library.result (search rules)

pub returns-clause-shown : goal.returns-clause-shown
returns-clause-shown c =
    let content = c.args.content.now in
    let first : TextAt content 0 c.in_ok-profile.profile.now c.in_ok-profile.end = subst (ReadsText content 0) c.in_ok-profile.ensures.ok c.take_text.ensures in
    let second : TextAt content c.in_ok-profile.end c.in_ok-library.library.now c.in_ok-library._after = subst (ReadsText content c.in_ok-profile.end) c.in_ok-library.ensures.ok c.take_text-2.ensures in
    (drop c.in_ok-library._after content, begins a_text _ content _ _ _ _ _ first (begins a_text _ content _ _ _ _ _ second (begins_end (drop c.in_ok-library._after content))))
