use Rattle.std.proofs.Common.{List, refl, sym, subst}
use Rattle.rec_index.specs.Parsed.{metadata_index_fields}
use Rattle.index_check.specs.declared.extras.MetadataNote.{MetadataNote}
use Rattle.index_check.specs.Spots.{FitsNamed}
use Rattle.index_check.specs.Extras.{IsOfMetadata}
use Rattle.index_check.proofs.Indexed.{metadata_right, right_metadata, metadata_kept, metadata_named}
use Rattle.index_check.proofs.extras.MetadataList.take_index.Goals as goal

pub returns-clause-right : goal.returns-clause-right
returns-clause-right c = λ tops n are named.
    let same = c.deref.ensures.value in
    let fits = λ (l : List MetadataNote). FitsNamed (λ note. IsOfMetadata note (metadata_index_fields c.args.index.now)) l c.name-naming.result in (
      λ e. metadata_right tops n c.args.self.now c.name-naming.new.self c.args.index.now.offset c.args.index.now.length c.args.index.now.name.now c.name-naming.result are named c.name-naming.ensures (subst fits same (c.fits_metadata.ensures.0 e)),
      λ right. c.fits_metadata.ensures.1 (subst fits (sym same) (right_metadata tops n c.args.self.now c.name-naming.new.self c.args.index.now.offset c.args.index.now.length c.args.index.now.name.now c.name-naming.result are named c.name-naming.ensures right)),
    )

pub returns-clause-kept : goal.returns-clause-kept
returns-clause-kept c = λ tops are. metadata_kept tops c.args.self.now (record { spots = c.name-naming.new.self; notes = c.args.self.now.notes }) c.args.index.now.offset c.name-naming.result are c.name-naming.ensures refl

pub returns-clause-named : goal.returns-clause-named
returns-clause-named c = λ tops n t named at is. metadata_named tops n t c.args.self.now.spots c.name-naming.new.self c.args.index.now.offset c.args.index.now.length c.args.index.now.name.now c.name-naming.result named at is c.name-naming.ensures
