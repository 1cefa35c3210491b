use Rattle.std.proofs.Common.{◌≡◌, ◌-◌, List, [], ℕ, refl, sym, ap, subst, ◌∙◌, arith}
use Rattle.mcap_wire.specs.Layout.{part}
use Rattle.mcap_model.specs.Tops.{records_in, placed_inside}
use Rattle.mcap_model.specs.Walk.{walk_rest}
use Rattle.mcap_scan.specs.Scanning.{content_of}
use Rattle.mcap_scan.proofs.Steps.{nothing_due, finds_inside, due_inside, frame_inside}
use Rattle.mcap_scan.proofs.flat_reader.FlatReader.next_inside.Goals as goal

pub invariant_of-self : goal.invariant_of-self
invariant_of-self c =
    let self = c.args.self.now in
    let inner = c.in-Some.inner in
    let bytes = content_of self.reader in
    let steps = c.in-Some.ensures in
    let due : walk_rest c.new-walk.result ≡ part self.at self.to bytes = c.new-walk.ensures.rest ∙ ap (λ (l : List ℕ). part self.at self.to l) c.content-content.ensures in
    let found = finds_inside bytes self.at self.to inner.op inner.content.now (walk_rest c.next.new.self) (sym due ∙ steps.split) self.goes_on self.within in
    let fits = found.within in
    let begins = self.begins in
    let within = self.within in
    record {
      begins = omega (arith, begins);
      goes_on = omega (arith, fits);
      within = within;
      content = omega arith;
      content_within = omega (arith, fits, within);
      framed = λ is. omega arith;
    }

pub returns-in-Some : goal.returns-in-Some
returns-in-Some c =
    let self = c.args.self.now in
    let inner = c.in-Some.inner in
    let bytes = content_of self.reader in
    let behind = walk_rest c.next.new.self in
    let steps = c.in-Some.ensures in
    let due : walk_rest c.new-walk.result ≡ part self.at self.to bytes = c.new-walk.ensures.rest ∙ ap (λ (l : List ℕ). part self.at self.to l) c.content-content.ensures in
    let found = finds_inside bytes self.at self.to inner.op inner.content.now behind (sym due ∙ steps.split) self.goes_on self.within in
    let fits = found.within in
    record {
      same = refl;
      due = due_inside bytes self.top self.from self.at self.to inner.op inner.content.now behind found (ap records_in (sym due) ∙ steps.first) self.begins;
      frame = λ given is. frame_inside bytes self.at self.to inner.op inner.content.now behind given found is;
      lent = refl;
      less = omega (arith, fits);
    }

pub returns-then-self : goal.returns-then-self
returns-then-self c =
    let self = c.args.self.now in
    let bytes = content_of self.reader in
    let before = self.at - self.from in
    (subst (λ (n : ℕ). placed_inside self.top before (records_in (part self.at n bytes)) ≡ []) c.if-self.true (nothing_due self.top before self.at bytes), refl)
