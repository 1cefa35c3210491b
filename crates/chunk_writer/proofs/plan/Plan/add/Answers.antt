-- A record more is planned: the plan stands for the history with it.
use Rattle.std.proofs.Common.{ℕ, List, Option, [], ◌∷◌, ◌++◌, length, refl, ap, sym, subst, ◌∙◌, arith}
use Rattle.mcap_model.specs.declared.block.Block.{Block}
use Rattle.mcap_model.specs.File.{front}
use Rattle.mcap_model.specs.History.{rec_top}
use Rattle.chunk_writer.specs.Held.{planning}
use Rattle.chunk_writer.specs.Planning.{Planning}
use Rattle.chunk_writer.specs.Plans.{Plans, PutStopped, HoldsBlock}
use Rattle.chunk_writer.proofs.Gathered.{record_aside, framed_inner, framed_outer}
use Rattle.chunk_writer.proofs.Noting.{next_aside}
use Rattle.chunk_writer.proofs.Planned.{has_size, plans_waits, plans_block, plans_record, plans_aside, stopped_block, stopped_record, stopped_aside}
use Rattle.chunk_writer.proofs.plan.Plan.add.Goals as goal

-- ---- an extra, where there are blocks

pub note_aside-requires-clause-extra : goal.note_aside-requires-clause-extra
note_aside-requires-clause-extra c =
    let (r, framed) = c.requires.framed in
    record_aside c.args.framed.now r framed (framed_outer c.stands_inside.result r (c.stands_inside.ensures r framed) c.if-not-stands_inside.true)

pub invariant_of-self : goal.invariant_of-self
invariant_of-self c = record {
  within =
      let few = c.self.invariant.within.few in
      let holds = c.in-Ok.ensures.limit in
      let small = holds.small in
      record { few = few; small = small };
  stands = λ going.
      let (r, framed) = c.requires.framed in
      let (o, h, plans) = c.self.invariant.stands (ap (λ (v : Planning). v.phase) c.self.view_is ∙ c.requires.goes_on) in
      let extra = framed_outer c.stands_inside.result r (c.stands_inside.ensures r framed) c.if-not-stands_inside.true in
      let planned = plans_aside o h r (planning c.self.inside) c.in-Some.body (record { chunker = c.in-Some.body.chunker; summary = c.note_aside.new.summary }) c.args.framed.now c.self.inside.phase (length c.args.framed.now) c.in-Some.is refl framed.spelled plans
      (λ size span at hist so. next_aside size span at hist r c.in-Some.body c.note_aside.new.summary c.self.inside.blocks c.self.inside.bytes extra (c.in-Ok.ensures.ok (rec_top r) framed.spelled) so) in
      (o, h ++ r ∷ [], planned.stands);
}

pub returns-in-Ok-clause-ok : goal.returns-in-Ok-clause-ok
returns-in-Ok-clause-ok c = λ r framed o h plans.
    let extra = framed_outer c.stands_inside.result r (c.stands_inside.ensures r framed) c.if-not-stands_inside.true in
    plans_aside o h r (planning c.self.inside) c.in-Some.body (record { chunker = c.in-Some.body.chunker; summary = c.note_aside.new.summary }) c.args.framed.now c.self.inside.phase (length c.args.framed.now) c.in-Some.is refl framed.spelled
    (subst (λ (v : Planning). Plans o h v) (sym c.self.view_is) plans)
    (λ size span at hist so. next_aside size span at hist r c.in-Some.body c.note_aside.new.summary c.self.inside.blocks c.self.inside.bytes extra (c.in-Ok.ensures.ok (rec_top r) framed.spelled) so)

pub returns-in-Err-clause-err : goal.returns-in-Err-clause-err
returns-in-Err-clause-err c = λ r framed o h.
    let extra = framed_outer c.stands_inside.result r (c.stands_inside.ensures r framed) c.if-not-stands_inside.true in
    subst (λ (v : Planning). Plans o h v → PutStopped o.chunk o.span h r v.blocks v.bytes c.in-Err.stop) c.self.view_is
    (λ plans. stopped_aside o h r (planning c.self.inside) c.in-Some.body c.args.framed.now c.in-Err.stop c.in-Some.is extra framed.spelled plans c.in-Err.ensures.limit)

-- ---- another record, where there are blocks

pub next_block-requires-clause-framed : goal.next_block-requires-clause-framed
next_block-requires-clause-framed c =
    let (r, framed) = c.requires.framed in
    (r, framed_inner c.args.framed.now c.stands_inside.result r framed (c.stands_inside.ensures r framed) c.if-not-stands_inside.false)

pub next_block-requires-clause-stands : goal.next_block-requires-clause-stands
next_block-requires-clause-stands c =
    let (o, h, plans) = c.self.invariant.stands (ap (λ (v : Planning). v.phase) c.self.view_is ∙ c.requires.goes_on) in
    let (size, chunk, so) = has_size o h (planning c.self.inside) c.in-Some.body c.in-Some.is plans in
    (size, o.span, length (front o.profile), h, so)

pub invariant_of-self-in-Ok-None : goal.invariant_of-self-in-Ok-None
invariant_of-self-in-Ok-None c = record {
  within = c.self.invariant.within;
  stands = λ going.
      let (r, framed) = c.requires.framed in
      let inner = framed_inner c.args.framed.now c.stands_inside.result r framed (c.stands_inside.ensures r framed) c.if-not-stands_inside.false in
      let (o, h, plans) = c.self.invariant.stands (ap (λ (v : Planning). v.phase) c.self.view_is ∙ c.requires.goes_on) in
      let planned = plans_waits o h r (planning c.self.inside) c.in-Some.body c.next_block.new.body _ c.self.inside.phase c.in-Ok-None.field-0-is c.in-Some.is plans (c.in-Ok-None.ensures.ok r inner) in
      (o, h ++ r ∷ [], planned.stands);
}

pub returns-in-Ok-None-clause-ok : goal.returns-in-Ok-None-clause-ok
returns-in-Ok-None-clause-ok c = λ r framed o h plans.
    let inner = framed_inner c.args.framed.now c.stands_inside.result r framed (c.stands_inside.ensures r framed) c.if-not-stands_inside.false in
    plans_waits o h r (planning c.self.inside) c.in-Some.body c.next_block.new.body _ c.self.inside.phase c.in-Ok-None.field-0-is c.in-Some.is
    (subst (λ (v : Planning). Plans o h v) (sym c.self.view_is) plans) (c.in-Ok-None.ensures.ok r inner)

pub invariant_of-self-in-Ok-Some : goal.invariant_of-self-in-Ok-Some
invariant_of-self-in-Ok-Some c = record {
  within =
      let holds = subst (λ (x : Option Block). HoldsBlock c.self.inside.blocks c.self.inside.bytes x) c.in-Ok-Some.field-0-is c.in-Ok-Some.ensures.room in
      let few = holds.holds.few in
      let small = holds.holds.small in
      record { few = few; small = omega (arith, small, ap (λ (l : List ℕ). length l) c.as_slice.ensures) };
  stands = λ going.
      let (r, framed) = c.requires.framed in
      let inner = framed_inner c.args.framed.now c.stands_inside.result r framed (c.stands_inside.ensures r framed) c.if-not-stands_inside.false in
      let (o, h, plans) = c.self.invariant.stands (ap (λ (v : Planning). v.phase) c.self.view_is ∙ c.requires.goes_on) in
      let planned = plans_block o h r (planning c.self.inside) c.in-Some.body c.next_block.new.body _ c.in-Ok-Some.block c.self.inside.phase (length c.as_slice.result.now)
      c.in-Ok-Some.field-0-is c.in-Some.is (ap (λ (l : List ℕ). length l) c.as_slice.ensures) c.in-Ok-Some.ensures.room plans (c.in-Ok-Some.ensures.ok r inner) in
      (o, h ++ r ∷ [], planned.stands);
}

pub returns-in-Ok-Some-clause-ok : goal.returns-in-Ok-Some-clause-ok
returns-in-Ok-Some-clause-ok c = λ r framed o h plans.
    let inner = framed_inner c.args.framed.now c.stands_inside.result r framed (c.stands_inside.ensures r framed) c.if-not-stands_inside.false in
    plans_block o h r (planning c.self.inside) c.in-Some.body c.next_block.new.body _ c.in-Ok-Some.block c.self.inside.phase (length c.as_slice.result.now)
    c.in-Ok-Some.field-0-is c.in-Some.is (ap (λ (l : List ℕ). length l) c.as_slice.ensures) c.in-Ok-Some.ensures.room (subst (λ (v : Planning). Plans o h v) (sym c.self.view_is) plans) (c.in-Ok-Some.ensures.ok r inner)

pub returns-in-Err-next_block-clause-err : goal.returns-in-Err-next_block-clause-err
returns-in-Err-next_block-clause-err c = λ r framed o h.
    let inner = framed_inner c.args.framed.now c.stands_inside.result r framed (c.stands_inside.ensures r framed) c.if-not-stands_inside.false in
    subst (λ (v : Planning). Plans o h v → PutStopped o.chunk o.span h r v.blocks v.bytes c.in-Err-next_block.stop) c.self.view_is
    (λ plans. stopped_block o h r (planning c.self.inside) c.in-Some.body c.in-Err-next_block.stop c.in-Some.is plans (c.in-Err-next_block.ensures.err r inner))

-- ---- a record, where there are none

pub invariant_of-self-in-Ok-keep_limit : goal.invariant_of-self-in-Ok-keep_limit
invariant_of-self-in-Ok-keep_limit c = record {
  within =
      let few = c.self.invariant.within.few in
      let small = c.in-Ok-keep_limit.ensures.small in
      record { few = few; small = small };
  stands = λ going.
      let (r, framed) = c.requires.framed in
      let (o, h, plans) = c.self.invariant.stands (ap (λ (v : Planning). v.phase) c.self.view_is ∙ c.requires.goes_on) in
      let planned = plans_record o h r (planning c.self.inside) c.args.framed.now c.self.inside.phase (length c.args.framed.now) c.in-None.is refl framed.spelled plans in
      (o, h ++ r ∷ [], planned.stands);
}

pub returns-in-Ok-keep_limit-clause-ok : goal.returns-in-Ok-keep_limit-clause-ok
returns-in-Ok-keep_limit-clause-ok c = λ r framed o h plans.
    plans_record o h r (planning c.self.inside) c.args.framed.now c.self.inside.phase (length c.args.framed.now) c.in-None.is refl framed.spelled (subst (λ (v : Planning). Plans o h v) (sym c.self.view_is) plans)

pub returns-in-Err-keep_limit-clause-err : goal.returns-in-Err-keep_limit-clause-err
returns-in-Err-keep_limit-clause-err c = λ r framed o h.
    subst (λ (v : Planning). Plans o h v → PutStopped o.chunk o.span h r v.blocks v.bytes c.in-Err-keep_limit.stop) c.self.view_is
    (λ plans. stopped_record o h r (planning c.self.inside) c.args.framed.now c.in-Err-keep_limit.stop c.in-None.is framed.spelled plans c.in-Err-keep_limit.ensures)
