use Rattle.std.proofs.Common.{false, refl}
use Rattle.std.proofs.lemmas.Bool.{both_ways}
use Rattle.mcap_model.specs.Tops.{inner_tops}
use Rattle.index_check.proofs.Walked.{has_message, has_none}
use Rattle.file_check.proofs.Followed.{open_last}
use Rattle.file_check.proofs.last_chunk.LastChunk.holds_messages.Goals as goal

pub returns-then-is_empty : goal.returns-then-is_empty
returns-then-is_empty c = λ tops t last six meets. (
  λ e. absurd (both_ways false refl e),
  λ has. absurd (has_none (inner_tops t) c.args.self.now.messages meets (open_last tops t c.args.self.now last six) (c.is_empty.ensures.0 c.if-is_empty.true) has),
)

pub returns : goal.returns
returns c = λ tops t last six meets. (
  λ e. has_message (inner_tops t) c.args.self.now.messages (open_last tops t c.args.self.now last six) (λ none. both_ways c.is_empty.result c.if-is_empty.false (c.is_empty.ensures.1 none)),
  λ has. refl,
)
