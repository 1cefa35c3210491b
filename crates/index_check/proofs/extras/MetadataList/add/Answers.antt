use Rattle.std.proofs.Common.{refl}
use Rattle.mcap_model.specs.Made.{top}
use Rattle.index_check.specs.declared.extras.MetadataNote.{MetadataNote}
use Rattle.index_check.proofs.Indexed.{metadata_more}
use Rattle.index_check.proofs.extras.MetadataList.add.Goals as goal

pub returns-in-Ok-push-clause-kept : goal.returns-in-Ok-push-clause-kept
returns-in-Ok-push-clause-kept c = λ tops content are there size shows.
    let note : MetadataNote = record { length = c.args.length; name = c.in-Ok.name } in
    metadata_more tops (top 12 content) c.args.offset note c.args.self.now (record { spots = c.add.new.self; notes = c.push.new.self }) are there
    (record {
      name = c.args.metadata.now.name.now;
      pairs = c.args.metadata.now.metadata;
      is = record { kind = refl; layout = shows };
      size = size;
      name_is = c.in-Ok.ensures;
    })
    c.in-Ok-add.ensures.ok c.in-Ok-push.ensures.items
