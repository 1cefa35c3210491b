-- No record of a recording's file is past a limit of reading.
use Rattle.std.proofs.Common.{◌≡◌, ℕ, suc, ◌+◌, ◌≤◌, false, List, [], ◌∷◌, ◌++◌, length, take, Option, Some, None, refl, sym, ap, subst, inl, inr, ◌∙◌, append-nil, append_assoc, arith}
use Rattle.std.specs.Prelude.{◌==◌}
use Rattle.std.specs.List.{flat_map}
use Rattle.std.proofs.lemmas.Bool.{eqb-true}
use Rattle.std.proofs.lemmas.List.{length-append, length-map, take-append-le}
use Rattle.mcap_wire.specs.Arrays.{entry_texts}
use Rattle.mcap_wire.specs.Layout.{le, string, prefixed}
use Rattle.mcap_wire.specs.Limits.{record_limit}
use Rattle.mcap_wire.specs.Maps.{text_map}
use Rattle.mcap_wire.proofs.Framing.{length-framed, length-string}
use Rattle.mcap_wire.proofs.Numbers.{length-le}
use Rattle.rec_data.specs.declared.owned.Rec.{Rec}
use Rattle.rec_data.specs.Owned.{rec_opcode, rec_text}
use Rattle.rec_data.proofs.OwnedReading.{rec_shown}
use Rattle.rec_data.proofs.Contents.{length-footer_text}
use Rattle.rec_index.specs.Records.{statistics_text, chunk_index_text, attachment_index_text, metadata_index_text, summary_offset_text}
use Rattle.mcap_model.specs.declared.options.FileOptions.{FileOptions}
use Rattle.mcap_model.specs.Places.{At, Each}
use Rattle.mcap_model.specs.Tops.{Top, top_bytes, spelled, offset_behind}
use Rattle.mcap_model.specs.Fields.{AttachmentFields, IsAttachment, IsMetadata}
use Rattle.mcap_model.specs.Rules.{V6}
use Rattle.mcap_model.specs.Blocks.{block, alone, logged_channels, chunk_bytes, pieces_of}
use Rattle.mcap_model.specs.Summary.{Noted, Group, group_bytes, groups_of, group_fields, offset_contents, footer_of_offsets, messages_on, schemas_of, channels_of, extras_of_kind, attachment_index_content, metadata_index_content, written_statistics, statistics_content, written_index, chunk_index_content}
use Rattle.mcap_model.specs.AttachmentIndexes.{indexed_attachment}
use Rattle.mcap_model.specs.File.{front, alone_from, file_of, noted}
use Rattle.mcap_model.specs.Kept.{reading_limits, is_beyond}
use Rattle.mcap_model.specs.Whole.{offset_of, IsWhole}
use Rattle.mcap_model.specs.Laws.{IsNumberedRec, CanBeWritten}
use Rattle.mcap_model.specs.Recovery.{piece_records}
use Rattle.mcap_model.specs.ReadBack.{IsReadBack}
use Rattle.mcap_model.proofs.Places.{at_none, at_within}
use Rattle.mcap_model.proofs.Lists.{at_either, cut_at, each_cons, filter_passed}
use Rattle.mcap_model.proofs.Asides.{each_body}
use Rattle.mcap_model.proofs.ExtraIndexes.{attachment_read_back, metadata_read_back}
use Rattle.mcap_model.proofs.Logged.{few_channels, length-entries}
use Rattle.mcap_model.proofs.OneMore.{each_last}
use Rattle.mcap_model.proofs.Readings.{top_of, length-top}
use Rattle.mcap_model.proofs.Histories.{rec_meets, numbered_ids_agree, within_there}
use Rattle.mcap_model.proofs.Section.{each_held, each_parts, each_flat}
use Rattle.mcap_model.proofs.ShownBack.{length-offsets}
use Rattle.mcap_model.proofs.Edges.{end_top}
use Rattle.mcap_model.proofs.Standing.{blocks_are, alone_are}
use Rattle.mcap_model.proofs.WrittenChunks.{each_map}
use Rattle.mcap_model.proofs.Files.{group_tops, groups_tops, offset_tops, summary_crc, summary_tops, summary_foot, summary_at, section_tops, written_tops, file_spelled, length-file, length-spelled_append, whole_of}
use Rattle.mcap_model.proofs.Body.{standing, pieces_back}
use Rattle.mcap_model.proofs.Flaws.{whole_once}
use Rattle.mcap_laws.proofs.Scanned.{read_so}
use Rattle.mcap_laws.proofs.Tails.{full_groups, full_tops, each_full, schemas_has, channels_has}
use Rattle.record_cache.specs.KeptRecords.{IsKept}
use Rattle.recorder.specs.Laws.{IsWithinLimits}
use Rattle.recorder.specs.Recorded.{AreReadable}
use Rattle.recorder.proofs.ReadBack.{recs_back, rec_short, extras_kept, can_be_read, IsClosedFile}

abbrev IsShort : Top → Type 0
IsShort t = length t.content ≤ 268435456

abbrev AreShort : List (List ℕ) → Type 0
AreShort contents = Each (λ c. length c ≤ 268435456) contents

-- ---- contents of the summary

statistics_short : (n : Noted) → Each IsReadBack n.records → length (statistics_content n) ≤ 268435456
statistics_short n back =
    let f = written_statistics n in
    let size : length (statistics_text f) ≡ 46 + length (entry_texts 2 f.counts) = simp (length-append, length-le) (omega arith) in
    let counts : length f.counts ≡ length (logged_channels n.records) = length-map (logged_channels n.records) (λ id. (id, messages_on n.records id)) in
    omega (arith, size, length-entries 2 f.counts, counts, few_channels n.records back)

chunk_index_short : (offset : ℕ) (records : List Rec) → Each IsReadBack records → length (chunk_index_content (offset, records)) ≤ 268435456
chunk_index_short offset records back =
    let f = written_index offset records in
    let size : length (chunk_index_text f) ≡ 64 + length (entry_texts 2 f.indexes) = simp (length-append, length-le) (omega arith) in
    let channels = length-offsets records (offset + length (chunk_bytes records)) (logged_channels records) in
    omega (arith, size, length-entries 2 f.indexes, channels, few_channels records back)

offsets_short : (at : ℕ) (groups : List Group) → AreShort (offset_contents at groups)
offsets_short at [] = λ k c there. absurd (at_none k c there)
offsets_short at (g ∷ gs) =
    let size : length (summary_offset_text (group_fields g at)) ≡ 17 = simp (length-append, length-le) (omega arith) in
    each_cons (λ c. length c ≤ 268435456) (summary_offset_text (group_fields g at)) (offset_contents (at + length (group_bytes g)) gs) (omega (arith, size)) (offsets_short (at + length (group_bytes g)) gs)

attachment_index_short : (offset : ℕ) (t : Top) (f : AttachmentFields) → IsAttachment t f → length t.content ≤ record_limit → length (attachment_index_content (offset, t)) ≤ 268435456
attachment_index_short offset t f is small =
    let row = is.layout.1 in
    let behind = prefixed 8 f.payload ++ (le 4 f.crc ++ is.layout.0) in
    let media = string f.media_type ++ behind in
    let name = string f.name ++ media in
    let there : length t.content ≡ length (le 8 f.log_time ++ (le 8 f.create_time ++ name)) = ap length row.spelled_there in
    let size : length (attachment_index_text (indexed_attachment offset t f)) ≡ 48 + length f.name + length f.media_type = simp (length-append, length-le) (omega arith) in
    omega (
      arith,
      small,
      size,
      there,
      ap length (attachment_read_back offset t f is),
      length-append (le 8 f.log_time) (le 8 f.create_time ++ name),
      length-append (le 8 f.create_time) name,
      length-append (string f.name) media,
      length-append (string f.media_type) behind,
      length-string f.name,
      length-string f.media_type,
    )

metadata_index_short : (offset : ℕ) (t : Top) (name : List ℕ) (pairs : List (List ℕ × List ℕ)) → IsMetadata t name pairs → length t.content ≤ record_limit → length (metadata_index_content (offset, t)) ≤ 268435456
metadata_index_short offset t name pairs is small =
    let row = is.layout.1 in
    let behind = text_map pairs ++ is.layout.0 in
    let there : length t.content ≡ length (string name ++ behind) = ap length row.spelled_there in
    let size : length (metadata_index_text (record { offset = offset; size = length (top_bytes t); name = name })) ≡ 20 + length name = simp (length-append, length-le) (omega arith) in
    omega (arith, small, size, there, ap length (metadata_read_back offset t name pairs is), length-append (string name) behind, length-string name)

-- ---- what stands behind the Data End

-- an extra of a history whose records were kept
record IsKeptExtra (op : ℕ) (t : Top) : Type 0 where
  pub kind : t.op ≡ op
  pub v6 : V6 t
  pub short : length t.content ≤ record_limit

module _ (options : FileOptions) (history : List Rec) (written : CanBeWritten options [] history) (kept : Each IsKept history) where
  abbrev n : Noted
  n = noted options [] history

  blocks_short : (k : ℕ) (b : ℕ × List Rec) → At n.blocks k b → length (chunk_index_content b) ≤ 268435456
  blocks_short k b there =
      let own = blocks_are (length (front options.profile)) (pieces_of options.chunk options.span history) k b there in
      chunk_index_short b.0 b.1 (pieces_back options [] history (standing options [] history written) own.k (block b.1) own.at)

  extra_there : (op k : ℕ) (e : ℕ × Top) → At (extras_of_kind op n.extras) k e → IsKeptExtra op e.1
  extra_there op k e at =
      let pieces = pieces_of options.chunk options.span history in
      let noted = alone_from (length (front options.profile)) pieces in
      let (has, kind) = filter_passed (λ (x : ℕ × Top). x.1.op == op) n.extras k e at in
      let there = alone_are (length (front options.profile)) pieces has.0 e (subst (λ (l : List (ℕ × Top)). At l has.0 e) (append-nil noted) has.1) in
      let r = there.record_there in
      let own : IsKept r = each_parts IsKept piece_records pieces (each_held IsKept options.chunk options.span history kept) there.k (alone r) there.at 0 r refl in
      let some : IsNumberedRec r = each_parts IsNumberedRec piece_records pieces (each_held IsNumberedRec options.chunk options.span history written.numbered) there.k (alone r) there.at 0 r refl in
      let same = ap (λ (t : Top). length t.content) there.top_is in
      record {
        kind = eqb-true e.1.op op kind;
        v6 = subst V6 (sym there.top_is) (rec_meets r (rec_shown r own.fits) some);
        short = (let long = own.short in omega (arith, same, long, length-framed (rec_opcode r) (rec_text r)));
      }

  attachments_short : (k : ℕ) (e : ℕ × Top) → At (extras_of_kind 9 n.extras) k e → length (attachment_index_content e) ≤ 268435456
  attachments_short k e at =
      let it = extra_there 9 k e at in
      let v6 = it.v6 in
      let (f, is) = v6.attachment it.kind in
      attachment_index_short e.0 e.1 f is it.short

  metadata_short : (k : ℕ) (e : ℕ × Top) → At (extras_of_kind 12 n.extras) k e → length (metadata_index_content e) ≤ 268435456
  metadata_short k e at =
      let it = extra_there 12 k e at in
      let v6 = it.v6 in
      let (name, pairs, is) = v6.metadata it.kind in
      metadata_index_short e.0 e.1 name pairs is it.short

  -- the records of the summary are the history's
  noted_kept : Each IsKept n.records
  noted_kept = each_body IsKept history kept

  groups_short : (at : ℕ) → Each (λ g. AreShort g.contents) (full_groups at n)
  groups_short at =
      each_full (λ g. AreShort g.contents) at n
      (each_map rec_text (λ c. length c ≤ 268435456) (schemas_of n.records) (λ k r there. let has = schemas_has n.records k r there in rec_short r (noted_kept has.0 r has.1)))
      (each_map rec_text (λ c. length c ≤ 268435456) (channels_of n.records) (λ k r there. let has = channels_has n.records k r there in rec_short r (noted_kept has.0 r has.1)))
      (each_cons (λ c. length c ≤ 268435456) (statistics_content n) [] (statistics_short n (each_body IsReadBack history written.records_fit)) (λ k c there. absurd (at_none k c there)))
      (each_map chunk_index_content (λ c. length c ≤ 268435456) n.blocks blocks_short)
      (each_map attachment_index_content (λ c. length c ≤ 268435456) (extras_of_kind 9 n.extras) attachments_short)
      (each_map metadata_index_content (λ c. length c ≤ 268435456) (extras_of_kind 12 n.extras) metadata_short)
      (offsets_short at (groups_of n))

  foot_short : (chunk : Option ℕ) (at : ℕ) → IsShort (summary_foot chunk n at)
  foot_short None at = omega (arith, length-footer_text (footer_of_offsets 0 0 0))
  foot_short (Some size) at = omega (arith, length-footer_text (footer_of_offsets at (at + length (flat_map group_bytes (groups_of n))) (summary_crc n at)))

  tail_short : (chunk : Option ℕ) (at : ℕ) → Each IsShort (summary_tops chunk n at ++ summary_foot chunk n at ∷ [])
  tail_short None at = each_cons IsShort (summary_foot None n at) [] (foot_short None at) (λ k t there. absurd (at_none k t there))
  tail_short (Some size) at =
      let tops : Each IsShort (groups_tops (full_groups at n)) = each_flat IsShort group_tops (full_groups at n) (λ k g there. each_map (top_of g.op) IsShort g.contents (groups_short at k g there)) in
      each_last IsShort (groups_tops (groups_of n) ++ offset_tops at (groups_of n)) (summary_foot (Some size) n at) (subst (Each IsShort) (full_tops at n) tops) (foot_short (Some size) at)

-- ---- the file

module _ (options : FileOptions) (history : List Rec) (blocks bytes : ℕ) (readable : AreReadable options) (it : IsClosedFile options history blocks bytes) (written : CanBeWritten options [] history) where
  abbrev file : List ℕ
  file = file_of options [] history

  abbrev all : List Top
  all = written_tops options [] history

  abbrev first : List Top
  first = section_tops options [] history ++ end_top ∷ []

  abbrev last : List Top
  last = summary_tops options.chunk (noted options [] history) (summary_at options [] history) ++ summary_foot options.chunk (noted options [] history) (summary_at options [] history) ∷ []

  parted : all ≡ first ++ last
  parted = sym (append_assoc (section_tops options [] history) (end_top ∷ []) last)

  small : length file ≤ 1099511627776
  small = let limit = it.within.small in omega (arith, limit, it.bytes_are)

  in_section : (n : ℕ) (t : Top) → At first n t → is_beyond reading_limits (offset_of all n) (length t.content) ≡ false
  in_section n t at =
      let back = recs_back history it.kept in
      let (agree, some) = numbered_ids_agree history back it.numbered in
      let reads = read_so options [] history readable.profile back some agree (extras_kept history it.kept) (can_be_read options history readable it.kept small) in
      let good = reads.halts.kept.good in
      let fits = good n t at in
      let near = at_within first n t at in
      let before : take n all ≡ take n first = ap (take n) parted ∙ take-append-le n first last (omega (arith, near)) in
      subst (λ (l : List Top). is_beyond reading_limits (offset_behind l) (length t.content) ≡ false) (sym before) fits.within

  behind : (n : ℕ) (t : Top) → At all n t → IsShort t → is_beyond reading_limits (offset_of all n) (length t.content) ≡ false
  behind n t at short =
      let cut = cut_at all n t at in
      let size = ap (λ (l : List Top). length (spelled l)) cut.1 in
      within_there (offset_of all n) (length t.content) short
      (omega (arith, small, length-file file all (file_spelled options [] history), size, length-spelled_append (take n all) (t ∷ cut.0), length-append (top_bytes t) (spelled cut.0), length-top t))

  each_within : (n : ℕ) (t : Top) → At all n t → is_beyond reading_limits (offset_of all n) (length t.content) ≡ false
  each_within n t at = elim (at_either first last n t (subst (λ (l : List Top). At l n t) parted at)) [
    | inl front ↦ in_section n t front
    | inr back ↦ behind n t at (tail_short options history written it.kept options.chunk (summary_at options [] history) back.0 t back.2)
  ]

  pub within_limits : IsWithinLimits (file_of options [] history)
  within_limits tops n t whole there =
      let same : tops ≡ all = whole_once file tops all whole (whole_of file all (file_spelled options [] history) written.size_fits) in
      subst (λ (l : List Top). is_beyond reading_limits (offset_of l n) (length t.content) ≡ false) (sym same) (each_within n t (subst (λ (l : List Top). At l n t) same there))
