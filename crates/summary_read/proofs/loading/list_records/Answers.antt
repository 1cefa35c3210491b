use Rattle.std.proofs.Common.{refl, ap}
use Rattle.std.specs.Prelude.{slice_get}
use Rattle.summary_read.proofs.Listing.{held_of, listed_of, placed_of}
use Rattle.summary_read.proofs.loading.list_records.Goals as goal

pub invariant_of-result : goal.invariant_of-result
invariant_of-result c =
    let text = c.args.summary.items in
    let cuts = c.args.cuts.now in
    let cut = c.requires.cut in (
      c.requires.is,
      held_of text cuts c.in-Ok.statistics.items 11 cut c.in-Ok.ensures,
      held_of text cuts c.in-Ok-of_kind.schemas.items 3 cut c.in-Ok-of_kind.ensures,
      held_of text cuts c.in-Ok-of_kind-2.channels.items 4 cut c.in-Ok-of_kind-2.ensures,
      held_of text cuts c.in-Ok-of_kind-3.chunk_indexes.items 8 cut c.in-Ok-of_kind-3.ensures,
      held_of text cuts c.in-Ok-of_kind-4.attachment_indexes.items 10 cut c.in-Ok-of_kind-4.ensures,
      held_of text cuts c.in-Ok-of_kind-5.metadata_indexes.items 13 cut c.in-Ok-of_kind-5.ensures,
      held_of text cuts c.in-Ok-of_kind-6.summary_offsets.items 14 cut c.in-Ok-of_kind-6.ensures,
      c.requires.fits,
    )

pub returns : goal.returns
returns c =
    let text = c.args.summary.items in
    let cuts = c.args.cuts.now in
    record {
      header_is = refl;
      footer_is = refl;
      listed = record {
        statistics = ap (λ l. slice_get l 0) (listed_of text cuts c.in-Ok.statistics.items 11 c.in-Ok.ensures);
        schemas = listed_of text cuts c.in-Ok-of_kind.schemas.items 3 c.in-Ok-of_kind.ensures;
        channels = listed_of text cuts c.in-Ok-of_kind-2.channels.items 4 c.in-Ok-of_kind-2.ensures;
        chunk_indexes = listed_of text cuts c.in-Ok-of_kind-3.chunk_indexes.items 8 c.in-Ok-of_kind-3.ensures;
        attachment_indexes = listed_of text cuts c.in-Ok-of_kind-4.attachment_indexes.items 10 c.in-Ok-of_kind-4.ensures;
        metadata_indexes = listed_of text cuts c.in-Ok-of_kind-5.metadata_indexes.items 13 c.in-Ok-of_kind-5.ensures;
        summary_offsets = listed_of text cuts c.in-Ok-of_kind-6.summary_offsets.items 14 c.in-Ok-of_kind-6.ensures;
      };
      placed = placed_of text cuts c.in-Ok-of_kind-3.chunk_indexes.items 8 c.args.footer.summary_start c.requires.cut c.in-Ok-of_kind-3.ensures;
    }
