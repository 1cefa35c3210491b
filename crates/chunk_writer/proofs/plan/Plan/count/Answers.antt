-- The plan stands for the history with these records.
use Rattle.std.proofs.Common.{◌++◌, ap, ◌∙◌, arith}
use Rattle.chunk_writer.specs.Held.{planning}
use Rattle.chunk_writer.specs.Planning.{Planning}
use Rattle.chunk_writer.proofs.Plain.{whole_plans}
use Rattle.chunk_writer.proofs.plan.Plan.count.Goals as goal

pub invariant_of-self : goal.invariant_of-self
invariant_of-self c = record {
  within =
      let holds = c.self.invariant.within in
      let few = holds.few in
      record { few = few; small = omega (arith, c.requires.within, ap (λ (v : Planning). v.bytes) c.self.view_is) };
  stands = λ going.
      let (o, h, plans) = c.self.invariant.stands going in
      let (records, long) = c.requires.whole in
      (o, h ++ records, whole_plans o h records (planning c.self.inside) c.args.len (ap (λ (v : Planning). v.body) c.self.view_is ∙ c.requires.plain) long plans);
}
