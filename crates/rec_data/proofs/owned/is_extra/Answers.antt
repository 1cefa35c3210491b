-- Whether a content is that of an extra.
use Rattle.std.proofs.Common.{inl, inr}
use Rattle.rec_data.proofs.OwnedReading.{not_attachment, not_metadata}
use Rattle.rec_data.proofs.owned.is_extra.Goals as goal

pub returns-in-Ok-clause-found : goal.returns-in-Ok-clause-found
returns-in-Ok-clause-found c = λ e. inl (c.in-9.is, _, c.in-Ok.ensures.shown)

pub returns-in-Err-clause-none : goal.returns-in-Err-clause-none
returns-in-Err-clause-none c = λ e. not_attachment c.args.op c.args.content.now c.in-9.is c.in-Err.ensures.none

pub returns-in-Ok-parse-clause-found : goal.returns-in-Ok-parse-clause-found
returns-in-Ok-parse-clause-found c = λ e. inr (inl (c.in-12.is, _, c.in-Ok-parse.ensures.shown))

pub returns-in-Err-parse-clause-none : goal.returns-in-Err-parse-clause-none
returns-in-Err-parse-clause-none c = λ e. not_metadata c.args.op c.args.content.now c.in-12.is c.in-Err-parse.ensures.none
