use Rattle.std.proofs.Common.{List, length, map, sym, ap, subst, ◌∙◌, arith}
use Rattle.std.proofs.lemmas.List.{length-map}
use Rattle.mcap_io.specs.Stores.{StoreState}
use Rattle.mcap_merge.specs.declared.input.Input.{Input}
use Rattle.mcap_merge.specs.Inputs.{HoldInputs}
use Rattle.mcap_merge.specs.GatheringSteps.{IsPrepared}
use Rattle.mcap_merge.specs.Writing.{extras_of}
use Rattle.mcap_merge.proofs.Profiles.{meet_all, held_length}
use Rattle.mcap_merge.proofs.gathering.gather.Goals as goal

pub prepare-requires-clause-some : goal.prepare-requires-clause-some
prepare-requires-clause-some g c =
    let state : g.row.T.Denot → StoreState = λ s. g.T.Store.state s in
    let same = ap length c.as_slice.ensures.value ∙ held_length (map state c.args.stores.now.items) c.in-Ok.inputs.items c.in-Ok.ensures.read ∙ length-map c.args.stores.now.items state in
    omega (arith, c.requires.some, same)

pub prepare-requires-clause-few : goal.prepare-requires-clause-few
prepare-requires-clause-few g c =
    let state : g.row.T.Denot → StoreState = λ s. g.T.Store.state s in
    let same = ap length c.as_slice.ensures.value ∙ held_length (map state c.args.stores.now.items) c.in-Ok.inputs.items c.in-Ok.ensures.read ∙ length-map c.args.stores.now.items state in
    omega (arith, c.requires.few, same)

pub returns-in-Ok-prepare-clause-gathered : goal.returns-in-Ok-prepare-clause-gathered
returns-in-Ok-prepare-clause-gathered g c =
    let state : g.row.T.Denot → StoreState = λ s. g.T.Store.state s in
    let inputs = c.in-Ok.inputs.items in
    let (reads, hold, are) = c.in-Ok.ensures.read in
    let same = held_length (map state c.args.stores.now.items) inputs c.in-Ok.ensures.read ∙ length-map c.args.stores.now.items state in
    let prepared = c.in-Ok-prepare.ensures.prepared in
    record {
      reads = reads;
      are = are;
      hold = hold;
      few = omega (arith, c.requires.few, same);
      meet = meet_all reads inputs hold;
      prepared = subst (λ (l : List Input). IsPrepared reads c.in-Ok-prepare.profile (extras_of l)) c.as_slice.ensures.value (prepared reads (subst (HoldInputs reads) (sym c.as_slice.ensures.value) hold));
    }
