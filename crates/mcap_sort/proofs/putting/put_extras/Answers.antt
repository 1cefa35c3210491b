use Rattle.std.proofs.Common.{ℕ, List, [], ◌∷◌, ◌++◌, take, refl, sym, ap, subst, ◌∙◌, arith}
use Rattle.mcap_model.specs.Places.{At}
use Rattle.mcap_model.specs.Tops.{Top}
use Rattle.mcap_model.specs.Made.{top}
use Rattle.mcap_model.specs.ReadBack.{IsExtra}
use Rattle.mcap_model.specs.Rules.{V6, V10}
use Rattle.mcap_model.proofs.NamedTopics.{take_past}
use Rattle.mcap_model.proofs.Places.{at_read}
use Rattle.mcap_merge.specs.declared.input.Extra.{Extra}
use Rattle.mcap_merge.specs.Inputs.{extra_top, extra_tops}
use Rattle.mcap_merge.proofs.Profiles.{extras_next, extras_rest}
use Rattle.chunk_writer.specs.Stops.{StopCause}
use Rattle.record_keeping.specs.Keeping.{AddsRecords}
use Rattle.record_keeping.proofs.Keepings.{adds_none}
use Rattle.mcap_sort.proofs.Puts.{extra_kept, extras_on, extras_stop}
use Rattle.mcap_sort.proofs.putting.put_extras.Goals as goal

pub keep_other-requires-clause-v6 : goal.keep_other-requires-clause-v6
keep_other-requires-clause-v6 g c =
    let xs = c.args.extras.now in
    let i = c.extras.i in
    let x = c.index-extras-i.result in
    let at : At xs i x = subst (At xs i) (sym c.index-extras-i.is) (at_read xs i x (omega arith)) in
    let meet = c.requires.meet in
    subst (λ (l : List ℕ). V6 (top x.op l)) (sym c.as_slice.ensures) (meet i x at).v6

pub keep_other-requires-clause-v10 : goal.keep_other-requires-clause-v10
keep_other-requires-clause-v10 g c =
    let xs = c.args.extras.now in
    let i = c.extras.i in
    let x = c.index-extras-i.result in
    let at : At xs i x = subst (At xs i) (sym c.index-extras-i.is) (at_read xs i x (omega arith)) in
    let meet = c.requires.meet in
    subst (λ (l : List ℕ). V10 (top x.op l)) (sym c.as_slice.ensures) (meet i x at).v10

pub extras-init : goal.extras-init
extras-init g c = (c.requires.going, refl, adds_none g.L.LiveStore.state c.args.k.now)

pub extras-preserved : goal.extras-preserved
extras-preserved g c =
    let seen = g.L.LiveStore.state in
    let xs = c.args.extras.now in
    let i = c.extras.i in
    let x = c.index-extras-i.result in
    let at : At xs i x = subst (At xs i) (sym c.index-extras-i.is) (at_read xs i x (omega arith)) in
    let meet = c.requires.meet in
    let it = extra_kept seen c.extras.k c.keep_other.new.k x c.as_slice.result.now c.as_slice.ensures (meet i x at) c.in-Ok.ensures.takes in (
      c.in-Ok.ensures.goes_on,
      c.in-Ok.ensures.cause ∙ c.extras.invariant.1,
      subst (λ (l : List Top). AddsRecords seen c.args.k.now c.keep_other.new.k l []) (sym (extras_next xs i x at)) (extras_on seen c.args.k.now c.extras.k c.keep_other.new.k (extra_tops (take i xs)) (extra_top x ∷ []) c.extras.invariant.2 it),
    )

pub returns-in-Err-clause-adds : goal.returns-in-Err-clause-adds
returns-in-Err-clause-adds g c =
    let seen = g.L.LiveStore.state in
    let xs = c.args.extras.now in
    let i = c.extras.i in
    let x = c.index-extras-i.result in
    let at : At xs i x = subst (At xs i) (sym c.index-extras-i.is) (at_read xs i x (omega arith)) in
    let meet = c.requires.meet in
    let it = extra_kept seen c.extras.k c.keep_other.new.k x c.as_slice.result.now c.as_slice.ensures (meet i x at) c.in-Err.ensures.takes in
    let rest = extras_rest xs i x at in
    let before = extra_tops (take i xs) in
    let now = extras_on seen c.args.k.now c.extras.k c.keep_other.new.k before (extra_top x ∷ []) c.extras.invariant.2 it in
    subst (λ (l : List Top). AddsRecords seen c.args.k.now c.keep_other.new.k l []) (sym rest.1) (extras_stop seen c.args.k.now c.keep_other.new.k (before ++ extra_top x ∷ []) rest.0 c.in-Err.stop c.in-Err.ensures.stopped now)

pub returns-in-Err-clause-cause : goal.returns-in-Err-clause-cause
returns-in-Err-clause-cause g c = subst (λ (n : ℕ). StopCause n (g.L.LiveStore.state c.keep_other.new.k.scribe.store).faults c.in-Err.stop) c.extras.invariant.1 c.in-Err.ensures.cause

pub returns-clause-adds : goal.returns-clause-adds
returns-clause-adds g c = subst (λ (l : List Extra). AddsRecords g.L.LiveStore.state c.args.k.now c.extras.k (extra_tops l) []) (take_past c.extras.i c.args.extras.now c.extras-test.false) c.extras.invariant.2
