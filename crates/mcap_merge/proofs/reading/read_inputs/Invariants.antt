use Rattle.mcap_merge.proofs.Stores.{ReadSoFar}
use Rattle.mcap_merge.proofs.reading.read_inputs.Given as goal

abbrev pub invariant-inputs : goal.invariant-inputs
invariant-inputs g l = ReadSoFar (λ s. g.T.Store.state s) l.fn.stores.items l.stores.items l.i l.inputs.items
