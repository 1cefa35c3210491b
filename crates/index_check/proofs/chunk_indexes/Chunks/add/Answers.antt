use Rattle.std.proofs.Common.{ap, length, sym, refl, List}
use Rattle.rec_index.specs.Parsed.{chunk_fields}
use Rattle.mcap_model.specs.Tops.{Top, spelled}
use Rattle.mcap_model.specs.Made.{top}
use Rattle.index_check.proofs.Tracked.{chunks_more, none_behind, empty_notes}
use Rattle.index_check.proofs.chunk_indexes.Chunks.add.Goals as goal

pub returns-in-Ok-push-clause-kept : goal.returns-in-Ok-push-clause-kept
returns-in-Ok-push-clause-kept c = λ tops content are there size shows plain sized heard.
    let t = top 6 content in
    chunks_more tops t c.args.offset _ c.args.self.now (record { spots = c.add.new.self; notes = c.push.new.self; places = c.args.self.now.places }) are there refl
    (record {
      shown = chunk_fields c.args.chunk.now;
      is = record { kind = refl; layout = shows };
      plain = plain;
      size = size;
      start = refl;
      end = refl;
      records = sized;
      uncompressed = refl;
      indexes = empty_notes tops t c.new.result.items c.new.ensures.items;
      indexes_size = ap (λ (l : List Top). length (spelled l)) (sym (none_behind tops t));
      heard = heard;
    })
    c.in-Ok.ensures.ok c.in-Ok-push.ensures.items
