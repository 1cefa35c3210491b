use Rattle.std.proofs.Common.{List, refl, sym, subst}
use Rattle.mcap_model.specs.Kept.{reading_limits, Fits, Good}
use Rattle.mcap_model.specs.Tops.{Top, Placed}
use Rattle.mcap_model.proofs.Places.{each_at}
use Rattle.mcap_scan.specs.Walking.{placed_at}
use Rattle.file_check.specs.Givens.{flat_given}
use Rattle.file_check.specs.RecordCounts.{CountsOf}
use Rattle.file_check.proofs.Given.{few_given, flat_last}
use Rattle.file_check.proofs.Taken.{still_inside, is_next, gathered_next}
use Rattle.file_check.proofs.gathering.Gathering.take.Goals as goal

pub take-requires-2-clause-chunks : goal.take-requires-2-clause-chunks
take-requires-2-clause-chunks c = let before = c.requires.before c.if-place-self.false in before.chunks

pub take-requires-2-clause-attachments : goal.take-requires-2-clause-attachments
take-requires-2-clause-attachments c = let before = c.requires.before c.if-place-self.false in before.attachments

pub take-requires-2-clause-metadata : goal.take-requires-2-clause-metadata
take-requires-2-clause-metadata c = let before = c.requires.before c.if-place-self.false in before.metadata

pub returns-then-place-self : goal.returns-then-place-self
returns-then-place-self c = λ given ahead tops was good same.
    let p : Placed = placed_at c.args.place c.args.op c.args.content.now in
    let counts = subst (λ (l : List Top). CountsOf l c.take.new.self) (sym (flat_last given p)) (c.in-Ok.ensures (flat_given given) was.counts (few_given given p ahead tops good same)) in
    record { tops = was.tops; last = still_inside given was.tops c.args.self.now.at tops p ahead was.last same c.if-place-self.true; counts = counts; tops_are = was.tops_are }

pub returns : goal.returns
returns c = λ given ahead tops was good same.
    let p : Placed = placed_at c.args.place c.args.op c.args.content.now in
    let counts = subst (λ (l : List Top). CountsOf l c.take.new.self) (sym (flat_last given p)) (c.in-Ok.ensures (flat_given given) was.counts (few_given given p ahead tops good same)) in
    let next = is_next given was.tops c.args.self.now.at tops p ahead was.last same c.if-place-self.false in
    let fits = each_at (Fits reading_limits) was.tops p.top next.more (subst (Good reading_limits) next.split good) in
    gathered_next given was.tops c.args.self.now.at tops p _ c.take-2.result next counts refl (c.take-2.ensures was.tops was.tops_are fits next.there)
