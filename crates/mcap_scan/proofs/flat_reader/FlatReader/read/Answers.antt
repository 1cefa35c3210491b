use Rattle.std.proofs.Common.{◌≡◌, ◌++◌, List, ℕ, length, refl, sym, ap, subst, ◌∙◌, append-nil}
use Rattle.mcap_model.specs.Tops.{Placed}
use Rattle.mcap_model.specs.WalkedRecords.{walked}
use Rattle.mcap_model.specs.Made.{top}
use Rattle.mcap_scan.specs.declared.reader.Reader.{Reader}
use Rattle.mcap_scan.specs.Scanning.{Stands, StageStands}
use Rattle.mcap_scan.specs.Heads.{LiesInside}
use Rattle.mcap_scan.proofs.Steps.{given_top, still_stands}
use Rattle.mcap_scan.proofs.flat_reader.FlatReader.read.Goals as goal

pub returns-in-Record-clause-steps : goal.returns-in-Record-clause-steps
returns-in-Record-clause-steps g c = λ before tops given was none.
    let now = g.S.Source.state c.args.source.now in
    let stands : Stands c.clear.new.self.reader before now tops = subst (λ (r : Reader). Stands r before now tops) (sym c.clear.ensures.same) was.stands in
    let gives = c.in-Record.ensures.steps before tops stands in
    let whole : walked tops ≡ given = was.all ∙ ap (λ (l : List Placed). given ++ l) none ∙ append-nil given in
    let content = c.content-content.ensures in
    given_top _ before (g.S.Source.state c.advance.new.source) tops given c.in-Record.op c.in-Record.offset whole gives
    (record {
      place = refl;
      front = refl;
      lo = c.clear.ensures.lo;
      hi = ap length content;
      outside = c.clear.ensures.outside;
    })
    (subst (λ (l : List ℕ). LiesInside (top c.in-Record.op l) c.inside_of-from.result.0 c.inside_of-from.result.1) content c.inside_of-from.ensures)

pub returns-in-End-clause-steps : goal.returns-in-End-clause-steps
returns-in-End-clause-steps g c = λ before tops given was none.
    let stands : Stands c.clear.new.self.reader before (g.S.Source.state c.args.source.now) tops = subst (λ (r : Reader). Stands r before (g.S.Source.state c.args.source.now) tops) (sym c.clear.ensures.same) was.stands in
    let finds = c.in-End.ensures.steps before tops stands in
    let whole : walked tops ≡ given = was.all ∙ ap (λ (l : List Placed). given ++ l) none ∙ append-nil given in
    record {
      tops = tops;
      same = refl;
      finds = finds;
      whole = sym whole;
      stands = still_stands _ before (g.S.Source.state c.advance.new.source) tops given finds.stands whole c.clear.ensures.none c.clear.ensures.due;
    }

pub returns-in-Refused-clause-steps : goal.returns-in-Refused-clause-steps
returns-in-Refused-clause-steps g c = λ before tops given was none.
    let stands : Stands c.clear.new.self.reader before (g.S.Source.state c.args.source.now) tops = subst (λ (r : Reader). Stands r before (g.S.Source.state c.args.source.now) tops) (sym c.clear.ensures.same) was.stands in
    let now = g.S.Source.state c.advance.new.source in
    let refuses = c.in-Refused.ensures.steps before tops stands in
    let reader = c.advance.new.self in
    let whole : walked tops ≡ given = was.all ∙ ap (λ (l : List Placed). given ++ l) none ∙ append-nil given in
    record {
      tops = tops;
      same = refl;
      refuses = refuses;
      whole = sym whole;
      stands = still_stands _ before now tops given (subst (λ s. StageStands s reader.tables reader.offset before now tops) (sym refuses.stage) refuses.stands) whole c.clear.ensures.none c.clear.ensures.due;
    }
