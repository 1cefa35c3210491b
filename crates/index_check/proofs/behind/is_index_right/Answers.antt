use Rattle.std.proofs.Common.{ℕ, List, Bool, false, refl}
use Rattle.std.specs.Prelude.{◌↔◌, IsTrue}
use Rattle.std.proofs.lemmas.Bool.{both_ways}
use Rattle.rec_index.specs.Records.{ShowsMessageIndex}
use Rattle.mcap_model.specs.Tops.{Top, inner_tops}
use Rattle.mcap_model.specs.Whole.{AreEntries, BelongsTo}
use Rattle.mcap_model.specs.Made.{top}
use Rattle.index_check.specs.Behind.{IsChunkOpen}
use Rattle.index_check.specs.Messages.{HoldsMessages}
use Rattle.index_check.proofs.Answering.{if_ok}
use Rattle.index_check.proofs.Followers.{index_belongs, belongs_index}
use Rattle.index_check.proofs.behind.is_index_right.Goals as goal

pub returns-then-has : goal.returns-then-has
returns-then-has c = λ before content o shows. (
  λ e. absurd (both_ways false refl e),
  λ belongs. absurd ((belongs_index before c.args.messages.now c.args.channels.now content c.args.index.now.channel_id c.args.index.now.entries o shows belongs).1 (c.has.ensures.0 c.if-has.true)),
)

pub returns : goal.returns
returns c =
    let messages = c.args.messages.now in
    let channels = c.args.channels.now in
    let channel = c.args.index.now.channel_id in
    let entries = c.args.index.now.entries in
    if_ok (λ (right : Bool). (records : List Top) → HoldsMessages records messages → IsTrue right ↔ AreEntries records channel entries)
    (λ (right : Bool). (before : List Top) (content : List ℕ) → IsChunkOpen before messages channels → ShowsMessageIndex content channel entries → IsTrue right ↔ BelongsTo before (top 7 content))
    c.are_entries.result c.are_entries.ensures
    (λ right is before content o shows.
    let judged = is (inner_tops o.chunk) o.holds in (
      λ e. index_belongs before messages channels content channel entries o shows (judged.0 e) (λ has. both_ways c.has.result c.if-has.false (c.has.ensures.1 has)),
      λ belongs. judged.1 (belongs_index before messages channels content channel entries o shows belongs).0,
    ))
