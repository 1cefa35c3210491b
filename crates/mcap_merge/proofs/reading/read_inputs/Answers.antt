use Rattle.std.proofs.Common.{sym, subst, arith}
use Rattle.mcap_model.specs.Places.{At}
use Rattle.mcap_model.proofs.Places.{at_read}
use Rattle.mcap_merge.proofs.Stores.{read_begin, read_on, keeps_all, still_all, asked_all, refused_at}
use Rattle.mcap_merge.proofs.reading.read_inputs.Goals as goal

pub inputs-init : goal.inputs-init
inputs-init g c = read_begin (λ s. g.T.Store.state s) c.args.stores.now.items c.new-inputs.result.items c.new-inputs.ensures.items

pub returns-in-Err-push-clause-keeps : goal.returns-in-Err-push-clause-keeps
returns-in-Err-push-clause-keeps g c =
    let nows = c.inputs.stores.items in
    let i = c.inputs.i in
    let x = c.index_mut.result.now in
    let at : At nows i x = subst (At nows i) (sym c.index_mut.ensures.value) (at_read nows i x (omega arith)) in
    keeps_all (λ s. g.T.Store.state s) c.args.stores.now.items nows i c.inputs.inputs.items x c.read_store.new.store c.inputs.invariant at c.read_store.ensures.keeps

pub returns-in-Err-clause-keeps : goal.returns-in-Err-clause-keeps
returns-in-Err-clause-keeps g c =
    let nows = c.inputs.stores.items in
    let i = c.inputs.i in
    let x = c.index_mut.result.now in
    let at : At nows i x = subst (At nows i) (sym c.index_mut.ensures.value) (at_read nows i x (omega arith)) in
    keeps_all (λ s. g.T.Store.state s) c.args.stores.now.items nows i c.inputs.inputs.items x c.read_store.new.store c.inputs.invariant at c.read_store.ensures.keeps

pub returns-in-Err-clause-refused : goal.returns-in-Err-clause-refused
returns-in-Err-clause-refused g c =
    let nows = c.inputs.stores.items in
    let i = c.inputs.i in
    let x = c.index_mut.result.now in
    let at : At nows i x = subst (At nows i) (sym c.index_mut.ensures.value) (at_read nows i x (omega arith)) in
    refused_at (λ s. g.T.Store.state s) c.args.stores.now.items nows i c.inputs.inputs.items x c.read_store.new.store c.in-Err.why c.refusal_at.result c.inputs.invariant at c.in-Err.ensures.reads c.refusal_at.ensures

pub inputs-preserved : goal.inputs-preserved
inputs-preserved g c =
    let nows = c.inputs.stores.items in
    let i = c.inputs.i in
    let x = c.index_mut.result.now in
    let at : At nows i x = subst (At nows i) (sym c.index_mut.ensures.value) (at_read nows i x (omega arith)) in
    read_on (λ s. g.T.Store.state s) c.args.stores.now.items nows i c.inputs.inputs.items c.push.new.self.items x c.read_store.new.store c.in-Ok.input c.inputs.invariant at c.read_store.ensures.keeps c.in-Ok.ensures.fits c.read_store.ensures.asked c.in-Ok.ensures.reads c.in-Ok-push.ensures.items

pub returns-in-Err-push-clause-refused : goal.returns-in-Err-push-clause-refused
returns-in-Err-push-clause-refused g c =
    let nows = c.inputs.stores.items in
    let i = c.inputs.i in
    let x = c.index_mut.result.now in
    let at : At nows i x = subst (At nows i) (sym c.index_mut.ensures.value) (at_read nows i x (omega arith)) in
    still_all (λ s. g.T.Store.state s) c.args.stores.now.items nows i c.inputs.inputs.items x c.read_store.new.store c.inputs.invariant at c.in-Ok.ensures.reads.3

pub returns-in-Err-push-clause-asked : goal.returns-in-Err-push-clause-asked
returns-in-Err-push-clause-asked g c =
    let nows = c.inputs.stores.items in
    let i = c.inputs.i in
    let x = c.index_mut.result.now in
    let at : At nows i x = subst (At nows i) (sym c.index_mut.ensures.value) (at_read nows i x (omega arith)) in
    asked_all (λ s. g.T.Store.state s) c.args.stores.now.items nows i c.inputs.inputs.items x c.read_store.new.store c.inputs.invariant at c.read_store.ensures.asked

pub returns-in-Err-clause-asked : goal.returns-in-Err-clause-asked
returns-in-Err-clause-asked g c =
    let nows = c.inputs.stores.items in
    let i = c.inputs.i in
    let x = c.index_mut.result.now in
    let at : At nows i x = subst (At nows i) (sym c.index_mut.ensures.value) (at_read nows i x (omega arith)) in
    asked_all (λ s. g.T.Store.state s) c.args.stores.now.items nows i c.inputs.inputs.items x c.read_store.new.store c.inputs.invariant at c.read_store.ensures.asked
