use Rattle.std.proofs.Common.{[], ◌∷◌, ◌++◌, List, sym, subst}
use Rattle.std.proofs.lemmas.Bool.{both_ways}
use Rattle.mcap_model.specs.declared.replay.Shown.{Shown}
use Rattle.mcap_model.specs.Plain.{cut_top, AreNamed, PlacesDiffer}
use Rattle.mcap_model.proofs.TakenRecords.{unread, go_on}
use Rattle.mcap_model.proofs.ShownMessages.{tops_more}
use Rattle.mcap_model.proofs.NamedTopics.{scan_begins, scan_ends}
use Rattle.mcap_model.proofs.PlacesApart.{places_differ}
use Rattle.mcap_model.proofs.plain.scan_plain.Goals as goal

pub returns-then-not-has_magic : goal.returns-then-not-has_magic
returns-then-not-has_magic c = ([], unread c.args.bytes.now (λ magic. both_ways c.has_magic.result c.if-not-has_magic.true (c.has_magic.ensures.1 magic)))

pub records-init : goal.records-init
records-init c = scan_begins c.args.bytes.now c.new-tables.result c.new-shown.result.items (c.has_magic.ensures.0 c.if-not-has_magic.false) c.new-tables.ensures.schemas c.new-tables.ensures.channels c.new-shown.ensures.items

pub add_messages-requires-clause-v6 : goal.add_messages-requires-clause-v6
add_messages-requires-clause-v6 c =
    let i = c.records.invariant in
    let takes = c.in-Ok.ensures i.tops i.read in
    let fits = takes.fits in
    fits.v6

pub add_messages-requires-clause-v8 : goal.add_messages-requires-clause-v8
add_messages-requires-clause-v8 c =
    let i = c.records.invariant in
    let takes = c.in-Ok.ensures i.tops i.read in
    let fits = takes.fits in
    fits.v8

pub add_messages-requires-clause-plain : goal.add_messages-requires-clause-plain
add_messages-requires-clause-plain c =
    let i = c.records.invariant in
    let takes = c.in-Ok.ensures i.tops i.read in
    let fits = takes.fits in
    fits.plain

pub returns-in-Ok-topics_of : goal.returns-in-Ok-topics_of
returns-in-Ok-topics_of c =
    let i = c.records.invariant in
    let read = i.read in
    let takes = c.in-Ok.ensures i.tops read in
    let t = cut_top c.args.bytes.now c.in-Ok.cut in
    let adds = tops_more i.tops t c.records.at c.records.shown.items c.add_messages.new.shown.items read.place i.adds c.in-Ok-add_messages.ensures in
    scan_ends c.args.bytes.now c.records.at c.in-Ok.cut c.records.tables c.take_record.new.tables i.tops (record { topics = c.in-Ok-topics_of.topics; shown = c.add_messages.new.shown }) read takes c.if-cut-eq-DATA_END.true adds
    (subst (λ (l : List Shown). AreNamed c.take_record.new.tables.channels l c.in-Ok-topics_of.topics.items) c.deref.ensures.value c.in-Ok-topics_of.ensures)
    (subst PlacesDiffer (sym adds.added) (places_differ (i.tops ++ t ∷ []) adds.more adds.shows))

pub records-preserved : goal.records-preserved
records-preserved c =
    let i = c.records.invariant in
    let read = i.read in
    let takes = c.in-Ok.ensures i.tops read in
    let t = cut_top c.args.bytes.now c.in-Ok.cut in
    record {
      tops = i.tops ++ t ∷ [];
      read = go_on c.args.bytes.now c.records.at c.in-Ok.cut c.records.tables c.take_record.new.tables i.tops read takes c.if-cut-eq-DATA_END.false;
      adds = tops_more i.tops t c.records.at c.records.shown.items c.add_messages.new.shown.items read.place i.adds c.in-Ok-add_messages.ensures;
      within = takes.ends;
    }
