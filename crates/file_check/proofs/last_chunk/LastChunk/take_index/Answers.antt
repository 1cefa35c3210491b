use Rattle.std.proofs.Common.{◌∷◌, ◌++◌, refl, sym, ap, subst, ◌∙◌}
use Rattle.std.proofs.lemmas.Bool.{both_ways}
use Rattle.mcap_model.specs.Tops.{offset_behind}
use Rattle.mcap_model.specs.Made.{top}
use Rattle.file_check.specs.CutFiles.{IndexFails}
use Rattle.file_check.proofs.Followed.{keeps_index, fails_index, ends_behind, open_index}
use Rattle.file_check.proofs.last_chunk.LastChunk.take_index.Goals as goal

pub returns-then-not-self : goal.returns-then-not-self
returns-then-not-self c = λ tops last keeps there more.
    let t = top 7 c.args.content.now in
    subst (IndexFails (tops ++ t ∷ more)) (sym there) (fails_index tops more t refl (λ belongs. last.none c.if-not-self.true (ends_behind tops t keeps belongs)))

pub unreachable-requires : goal.unreachable-requires
unreachable-requires c = let (channel, entries, is) = c.requires.message_index refl in c.in-Err.ensures.none channel entries is.layout

pub returns-in-Ok-false : goal.returns-in-Ok-false
returns-in-Ok-false c = λ tops last keeps there rest.
    let content = c.args.content.now in
    let chunk = c.args.self.now in
    let index = c.in-Ok.index in
    let kept = last.kept c.if-not-self.false in
    let judged = c.in-Ok-false.ensures tops content kept.is c.in-Ok.ensures.shown in
    subst (IndexFails (tops ++ top 7 content ∷ rest)) (sym there)
    (fails_index tops rest (top 7 content) refl (λ belongs. both_ways c.in-Ok-false.field-0 c.in-Ok-false.field-0-test (judged.1 belongs)))

pub returns-in-Ok-add : goal.returns-in-Ok-add
returns-in-Ok-add c = λ tops last keeps there.
    let content = c.args.content.now in
    let chunk = c.args.self.now in
    let index = c.in-Ok.index in
    let kept = last.kept c.if-not-self.false in
    let judged = c.in-Ok-true.ensures tops content kept.is c.in-Ok.ensures.shown in
    let more = open_index tops chunk.messages chunk.channels c.add.new.self content index.channel_id index.entries kept.is c.in-Ok.ensures.shown c.in-Ok-add.ensures.ok in (
      record {
        kept = λ e. record { is = more.0; there = kept.there ∙ sym (ap offset_behind more.1) };
        none = λ e. absurd (both_ways chunk.is_open e c.if-not-self.false);
      },
      keeps_index tops (top 7 content) keeps refl (judged.0 c.in-Ok-true.field-0-test),
    )
