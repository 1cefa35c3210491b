use Rattle.std.proofs.Common.{List, sym, subst}
use Rattle.mcap_model.specs.Places.{At}
use Rattle.mcap_model.specs.declared.table.Declared.{Declared}
use Rattle.mcap_model.proofs.TablePlaces.{one_place}
use Rattle.mcap_model.proofs.table.Table.len.Goals as goal

pub returns-clause-apart : goal.returns-clause-apart
returns-clause-apart c = λ j k d e at other same.
    let stored = λ (n : _) (x : Declared) (there : At c.args.self.now n x). subst (λ (l : List Declared). At l n x) (sym c.self.view_is) there in
    one_place c.self.inside.places.items c.self.inside.first.items j k d e c.self.invariant (stored j d at) (stored k e other) same
