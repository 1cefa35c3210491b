use Rattle.std.proofs.Common.{ℕ, List, [], ◌∷◌, ◌++◌, Option, Ok, refl, sym, subst}
use Rattle.mcap_model.specs.declared.refusals.ReadingRefused.{ReadingRefused}
use Rattle.mcap_model.specs.Declarations.{TablesOf}
use Rattle.mcap_model.specs.Tops.{Placed, flat}
use Rattle.mcap_model.specs.Made.{top}
use Rattle.mcap_model.specs.Rules.{V6}
use Rattle.mcap_scan.specs.RefusedReadings.{RefusalStands}
use Rattle.mcap_scan.proofs.Refused.{nothing_read}
use Rattle.mcap_scan.proofs.Scanning.{good_stand, lacks_behind}
use Rattle.mcap_scan.specs.Walking.{placed_at, ahead_of, flat_tables, FlatStands}
use Rattle.file_check.specs.Gathering.{RecordGathered}
use Rattle.file_check.proofs.ReadOut.{lacks_at_end, read_to_end, read_so_far}
use Rattle.file_check.proofs.Taken.{is_next, stand_before, gathered_all, some_read}
use Rattle.file_check.proofs.reading.read_section.Goals as goal

pub returns-in-Err-clause-reads : goal.returns-in-Err-clause-reads
returns-in-Err-clause-reads g c = ([], nothing_read (g.S.Source.state c.args.source.now))

pub returns-in-Err-clause-stays : goal.returns-in-Err-clause-stays
returns-in-Err-clause-stays g c = g.S.Source.stays_so _

pub records-init : goal.records-init
records-init g c = (([], ([], c.in-Ok.ensures (g.S.Source.state c.args.source.now)), c.new-gathering.ensures), g.S.Source.stays_so _)

pub take-requires-clause-v6 : goal.take-requires-clause-v6
take-requires-clause-v6 g c =
    let i = c.records.invariant in
    let s = c.in-Record.ensures.steps (g.S.Source.state c.args.source.now) i.0.1.0 i.0.0 i.0.1.1 in
    subst (λ (content : List ℕ). V6 (top c.in-Record.op content)) (sym c.content.ensures) s.v6

pub take-requires-clause-before : goal.take-requires-clause-before
take-requires-clause-before g c =
    let i = c.records.invariant in
    let given = i.0.0 in
    let gathered = i.0.2 in
    let s = c.in-Record.ensures.steps (g.S.Source.state c.args.source.now) i.0.1.0 given i.0.1.1 in
    let stands = s.stands in
    let flat = c.advance.new.self in
    λ other.
    let next = is_next given gathered.tops c.records.gathering.at s.tops _ (ahead_of flat) gathered.last stands.all other in
    let kept = gathered.tops_are in
    stand_before gathered.tops c.records.gathering.tops c.in-Record.place.top kept.indexed next.there

pub records-preserved : goal.records-preserved
records-preserved g c =
    let i = c.records.invariant in
    let before = g.S.Source.state c.args.source.now in
    let now = g.S.Source.state c.advance.new.source in
    let flat = c.advance.new.self in
    let given = i.0.0 in
    let s = c.in-Record.ensures.steps before i.0.1.0 given i.0.1.1 in
    let p : Placed = placed_at c.in-Record.place c.in-Record.op c.content.result.now in
    let here : FlatStands flat before now s.tops (given ++ p ∷ []) = subst (λ (content : List ℕ). FlatStands flat before now s.tops (given ++ placed_at c.in-Record.place c.in-Record.op content ∷ [])) (sym c.content.ensures) s.stands in
    let good = good_stand flat.reader before now s.tops s.going here.stands in
    ((given ++ p ∷ [], (s.tops, here), subst (λ (o : Option ℕ). RecordGathered (given ++ p ∷ []) s.tops c.take.new.self (Ok o)) c.in-Ok-None.field-0-is (c.in-Ok-None.ensures given (ahead_of flat) s.tops i.0.2 good here.all)), g.S.Source.stays_on _ _ _ i.1 c.in-Record.ensures.stays)

pub returns-in-Ok-Some-clause-reads : goal.returns-in-Ok-Some-clause-reads
returns-in-Ok-Some-clause-reads g c =
    let i = c.records.invariant in
    let before = g.S.Source.state c.args.source.now in
    let now = g.S.Source.state c.advance.new.source in
    let flat = c.advance.new.self in
    let given = i.0.0 in
    let s = c.in-Record.ensures.steps before i.0.1.0 given i.0.1.1 in
    let p : Placed = placed_at c.in-Record.place c.in-Record.op c.content.result.now in
    let here : FlatStands flat before now s.tops (given ++ p ∷ []) = subst (λ (content : List ℕ). FlatStands flat before now s.tops (given ++ placed_at c.in-Record.place c.in-Record.op content ∷ [])) (sym c.content.ensures) s.stands in
    let good = good_stand flat.reader before now s.tops s.going here.stands in
    let fails = subst (λ (o : Option ℕ). RecordGathered (given ++ p ∷ []) s.tops c.take.new.self (Ok o)) c.in-Ok-Some.field-0-is (c.in-Ok-Some.ensures given (ahead_of flat) s.tops i.0.2 good here.all) in
    (s.tops, record { are_read = read_so_far flat.reader before now s.tops (some_read given p (ahead_of flat) s.tops here.all) s.going here.stands; fails = fails; rule_is = refl })

pub returns-in-Ok-Some-clause-stays : goal.returns-in-Ok-Some-clause-stays
returns-in-Ok-Some-clause-stays g c = g.S.Source.stays_on _ _ _ c.records.invariant.1 c.in-Record.ensures.stays

pub returns-in-Err-take-clause-reads : goal.returns-in-Err-take-clause-reads
returns-in-Err-take-clause-reads g c =
    let i = c.records.invariant in
    let before = g.S.Source.state c.args.source.now in
    let now = g.S.Source.state c.advance.new.source in
    let flat = c.advance.new.self in
    let s = c.in-Record.ensures.steps before i.0.1.0 i.0.0 i.0.1.1 in
    let stands = s.stands in
    (s.tops, lacks_behind flat.reader before now s.tops s.going stands.stands)

pub returns-in-Err-take-clause-stays : goal.returns-in-Err-take-clause-stays
returns-in-Err-take-clause-stays g c = g.S.Source.stays_on _ _ _ c.records.invariant.1 c.in-Record.ensures.stays

pub returns-in-Ok-section_of-clause-reads : goal.returns-in-Ok-section_of-clause-reads
returns-in-Ok-section_of-clause-reads g c =
    let i = c.records.invariant in
    let before = g.S.Source.state c.args.source.now in
    let now = g.S.Source.state c.advance.new.source in
    let reader = c.advance.new.self in
    let s = c.in-End.ensures.steps before i.0.1.0 i.0.0 i.0.1.1 in
    let finds = s.finds in
    let is = finds.is in
    let gathered = gathered_all i.0.0 c.records.gathering s.tops i.0.2 s.whole in
    let tops_are = gathered.tops_are in (
      s.tops,
      record {
        are_read = read_to_end (flat_tables reader) c.in-End.offset before now s.tops is;
        ended = is.ended;
        v9 = tops_are.v9;
        kept = c.in-Ok-section_of.ensures s.tops (record {
          good = is.good;
          ended = is.ended;
          gathered = gathered;
          tables_are = subst (TablesOf (flat s.tops)) (sym c.into_tables.ensures) is.tables_are;
          behind_is = is.place;
        });
      },
    )

pub returns-in-Ok-section_of-clause-stays : goal.returns-in-Ok-section_of-clause-stays
returns-in-Ok-section_of-clause-stays g c = g.S.Source.stays_on _ _ _ c.records.invariant.1 c.in-End.ensures.stays

pub returns-in-Err-section_of-clause-reads : goal.returns-in-Err-section_of-clause-reads
returns-in-Err-section_of-clause-reads g c =
    let i = c.records.invariant in
    let before = g.S.Source.state c.args.source.now in
    let now = g.S.Source.state c.advance.new.source in
    let s = c.in-End.ensures.steps before i.0.1.0 i.0.0 i.0.1.1 in
    let finds = s.finds in
    (s.tops, lacks_at_end (flat_tables c.advance.new.self) c.in-End.offset before now s.tops finds.is)

pub returns-in-Err-section_of-clause-stays : goal.returns-in-Err-section_of-clause-stays
returns-in-Err-section_of-clause-stays g c = g.S.Source.stays_on _ _ _ c.records.invariant.1 c.in-End.ensures.stays

pub returns-in-Refused-clause-reads : goal.returns-in-Refused-clause-reads
returns-in-Refused-clause-reads g c =
    let i = c.records.invariant in
    let before = g.S.Source.state c.args.source.now in
    let now = g.S.Source.state c.advance.new.source in
    let s = c.in-Refused.ensures.steps before i.0.1.0 i.0.0 i.0.1.1 in
    let refuses = s.refuses in
    (s.tops, subst (λ (w : ReadingRefused). RefusalStands w before now s.tops) (sym (c.refusal_of.ensures refuses.why refuses.stage)) refuses.stands)

pub returns-in-Refused-clause-stays : goal.returns-in-Refused-clause-stays
returns-in-Refused-clause-stays g c = g.S.Source.stays_on _ _ _ c.records.invariant.1 c.in-Refused.ensures.stays
