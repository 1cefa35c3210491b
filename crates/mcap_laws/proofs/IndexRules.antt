-- The indexes of chunks, of attachments and of metadata in a summary, and what makes a file fully indexed.
use Rattle.std.proofs.Common.{◌≡◌, ℕ, suc, ◌+◌, ◌^◌, ◌<◌, ◌≤◌, ◌⊎◌, true, false, append_assoc, List, [], ◌∷◌, ◌++◌, length, take, map, refl, sym, ap, subst, inl, inr, ◌∙◌, arith}
use Rattle.std.specs.Prelude.{◌==◌, ◌≢◌, slice_get}
use Rattle.std.specs.List.{flat_map}
use Rattle.std.proofs.lemmas.Bool.{eqb-true, both_ways}
use Rattle.std.proofs.lemmas.List.{length-append, take-append-le}
use Rattle.std.proofs.lemmas.List.Kept.{AllPairs-filter}
use Rattle.rec_data.specs.declared.owned.Rec.{Rec}
use Rattle.rec_data.specs.declared.owned.Rec.TheVariants.{Schema, Channel, Message, Extra}
use Rattle.rec_data.proofs.OwnedReading.{extra_not}
use Rattle.std.proofs.Math.Seq.{take-append_seam}
use Rattle.rec_data.specs.Owned.{rec_text}
use Rattle.mcap_model.specs.Places.{At, Has, Each, EachBehind}
use Rattle.mcap_model.specs.Tops.{Top, top_bytes, spelled, offset_behind, flat}
use Rattle.mcap_model.specs.Fields.{IsHeader, MessageFields, IsMessage, IsChannel, ChunkIndexFields, IsChunkIndex, AttachmentFields, IsAttachment, AttachmentIndexFields, IsAttachmentIndex, IsMetadata, IsMetadataIndex}
use Rattle.mcap_model.specs.Rules.{Agrees, stands_in_section}
use Rattle.mcap_model.specs.History.{rec_top, channel_of, is_channel, is_inner, without_repeats}
use Rattle.mcap_model.specs.Blocks.{Piece, block, alone, Logged, logged, logged_channels, entries_for, least, greatest, chunk_bytes, indexes_bytes, pieces_bytes, written_fields}
use Rattle.mcap_model.specs.Summary.{Noted, Group, groups_of, extras_of_kind, statistics_content, chunk_index_content, attachment_index_content, metadata_index_content, channels_of, written_index, group_bytes}
use Rattle.mcap_model.specs.AttachmentIndexes.{indexed_attachment}
use Rattle.mcap_model.specs.File.{blocks_from, alone_from, extras_from}
use Rattle.mcap_model.specs.Whole.{StandsAt, InSummary, ChunkIndexIsRight, V12, AttachmentIndexIsRight, MetadataIndexIsRight, V13}
use Rattle.mcap_model.specs.Valid.{Keeps, HasIndex, SummaryHasChannel}
use Rattle.mcap_model.specs.Laws.{IsNumberedRec, chunk_top, index_top}
use Rattle.mcap_model.specs.ReadBack.{IsReadBack, IsExtra}
use Rattle.mcap_model.proofs.Places.{at_none, at_within, at_kept, at_last}
use Rattle.mcap_model.proofs.ReadBack.{at_map}
use Rattle.mcap_model.proofs.Readings.{top_of}
use Rattle.mcap_model.proofs.Histories.{channel_shown}
use Rattle.mcap_model.proofs.WrittenChunks.{each_map}
use Rattle.mcap_model.proofs.Lists.{each_cons, each_joined, at_second, take_second, has_taken, filter_passed, pairs_at, pairs_from, at_either, cut_flat}
use Rattle.mcap_model.proofs.Readings.{length-top}
use Rattle.mcap_model.proofs.Edges.{end_top}
use Rattle.mcap_model.proofs.Shape.{whole, summary_there, within_summary}
use Rattle.mcap_model.specs.Recovery.{piece_records}
use Rattle.mcap_model.proofs.Section.{piece_tops, PieceIsSound, IsRight, pieces_spelled, each_flat, extra_not_kind}
use Rattle.mcap_model.proofs.Files.{groups_tops, group_tops, offset_tops, footer_top, length-spelled_append}
use Rattle.mcap_model.proofs.Logged.{logs_channel}
use Rattle.mcap_model.proofs.ShownBack.{length-offsets, is_offset, chunk_index_shown, chunk_index_shows}
use Rattle.mcap_model.proofs.ExtraIndexes.{attachment_index_shows, metadata_index_shows}
use Rattle.mcap_model.proofs.Distinct.{rec_id, as_channel}
use Rattle.mcap_model.proofs.Groups.{in_front, IsOfKind, of_kind_there, kinds_rise, content_there}
use Rattle.mcap_model.proofs.Standing.{bytes_before, Rises, blocks_are, are_blocks, blocks_rise, IsAloneAt, alone_are, alone_rise, extras_are, extras_rise, block_stands}
use Rattle.mcap_laws.proofs.BlockIndexes.{block_index, block_names, is_named, message_logged, chunk_of}
use Rattle.mcap_model.proofs.Front.{summary_only, body_only, each_kind, tail_not}
use Rattle.mcap_laws.proofs.Tails.{full_groups, full_tops, full_apart, each_full, chunk_index_group, statistics_group, channel_group, NotedFits, summary_tail, channels_has}
use Rattle.mcap_laws.proofs.StatisticsRight.{id_of_channel, either_has}
use Rattle.mcap_laws.proofs.SummaryRules.{foot_is, never}
use Rattle.mcap_model.proofs.Files.{summary_crc}
use Rattle.mcap_model.proofs.Flat.{at_mapped}

-- the offset of the first piece
abbrev pub body_at : Top → ℕ
body_at header = 8 + length (top_bytes header)

abbrev pub noted_of : Top → List Piece → List Top → List Rec → Noted
noted_of header ps extras history = record {
  records = history;
  blocks = blocks_from (body_at header) ps;
  extras = alone_from (body_at header) ps ++ extras_from (body_at header + length (pieces_bytes ps)) extras;
}

module _ (header : Top) (ps : List Piece) (extras : List Top) (history : List Rec) (at : ℕ)
    (is_header : IsHeader header) (right : Each IsRight (flat_map piece_tops ps ++ extras)) (fits : NotedFits (noted_of header ps extras history) at) (at_is : at ≡ offset_behind ((header ∷ (flat_map piece_tops ps ++ extras)) ++ end_top ∷ []))
    (are : Each IsExtra extras) (back : (n : ℕ) (p : Piece) → At ps n p → Each IsReadBack (piece_records p)) (numbered : (n : ℕ) (p : Piece) → At ps n p → Each IsNumberedRec (piece_records p)) (sound : (n : ℕ) (p : Piece) → At ps n p → PieceIsSound p) where
  abbrev n : Noted
  n = noted_of header ps extras history

  abbrev body : List Top
  body = flat_map piece_tops ps ++ extras

  abbrev summary : List Top
  summary = groups_tops (groups_of n) ++ offset_tops at (groups_of n)

  abbrev behind_groups : ℕ
  behind_groups = at + length (flat_map group_bytes (groups_of n))

  abbrev foot : Top
  foot = footer_top at behind_groups (summary_crc n at)

  abbrev tops : List Top
  tops = whole (header ∷ body) summary foot

  -- the place of a record of the summary
  place_of : (op : ℕ) → (op ≡ 1 → ⊥) → (op ≡ 2 → ⊥) → (op ≡ 15 → ⊥) → stands_in_section op ≡ false → (p : ℕ) (t : Top) → At tops p t → t.op ≡ op → (j : ℕ) × (p ≡ suc (suc (length body)) + j) × At summary j t
  place_of = summary_only header body summary foot at behind_groups (summary_crc n at) is_header right (summary_tail n at fits) (foot_is header body n at is_header right fits at_is)

  full_at : (k : ℕ) (t : Top) → At summary k t → At (groups_tops (full_groups at n)) k t
  full_at k t there = subst (λ (l : List Top). At l k t) (sym (full_tops at n)) there

  -- a content of a group stands in the summary
  stands_there : (k : ℕ) (g : Group) (i : ℕ) (content : List ℕ) → At (full_groups at n) k g → At g.contents i content → (p : ℕ) × At tops p (top_of g.op content) × InSummary tops p
  stands_there k g i content own there =
      let j = in_front group_tops (full_groups at n) k + i in
      let here : At summary j (top_of g.op content) = subst (λ (l : List Top). At l j (top_of g.op content)) (full_tops at n) (content_there (full_groups at n) k g i content own there) in
      (suc (suc (length body)) + j, summary_there (header ∷ body) summary foot j (top_of g.op content) here, within_summary (header ∷ body) summary foot (never header body n at is_header right fits at_is) j (at_within summary j (top_of g.op content) here))

  -- ---- V12

  -- a Chunk Index is that of a block
  pub record IsIndexAt (j : ℕ) (t : Top) : Type 0 where
    pub kind : IsOfKind (full_groups at n) 8 (map chunk_index_content n.blocks) j t
    pub block : ℕ × List Rec
    pub at_block : At n.blocks kind.i block
    pub is : t ≡ top_of 8 (chunk_index_content block)

  index_at : (j : ℕ) (t : Top) → At summary j t → t.op ≡ 8 → IsIndexAt j t
  index_at j t there kind =
      let k = of_kind_there (full_groups at n) 8 (map chunk_index_content n.blocks)
      (each_full (λ g. g.op ≡ 8 → g ≡ record { op = 8; contents = map chunk_index_content n.blocks }) at n (λ e. absurd (omega (arith, e))) (λ e. absurd (omega (arith, e))) (λ e. absurd (omega (arith, e))) (λ e. refl) (λ e. absurd (omega (arith, e))) (λ e. absurd (omega (arith, e))) (λ e. absurd (omega (arith, e))))
      j t (full_at j t there) kind in
      let (b, at_b, same) = at_map chunk_index_content n.blocks k.i k.content k.content_at in
      record { kind = k; block = b; at_block = at_b; is = k.is ∙ ap (top_of 8) {y = chunk_index_content b} same }

  index_fields : (j : ℕ) (t : Top) (f : ChunkIndexFields) → (i : IsIndexAt j t) → IsChunkIndex t f → written_index i.block.0 i.block.1 ≡ f
  index_fields j t f i is =
      let b = i.block in
      let one = fits.blocks i.kind.i b i.at_block in
      chunk_index_shows b.0 b.1 f (chunk_index_shown b.0 b.1 one.0 one.1 one.2) (subst (λ (x : Top). IsChunkIndex x f) i.is is)

  abbrev before : ℕ → List Top
  before k = header ∷ flat_map piece_tops (take k ps)

  before_offset : (k : ℕ) → body_at header + bytes_before ps k ≡ offset_behind (before k)
  before_offset k = omega (arith, length-append (top_bytes header) (spelled (flat_map piece_tops (take k ps))))

  pub keeps_12 : Keeps V12 tops
  keeps_12 p t there f is =
      let (j, is_j, at_j) = place_of 8 (λ e. omega (arith, e)) (λ e. omega (arith, e)) (λ e. omega (arith, e)) refl p t there is.kind in
      let i = index_at j t at_j is.kind in
      let b = i.block in
      let own = blocks_are (body_at header) ps i.kind.i b i.at_block in
      let stands = block_stands header ps extras summary foot own.k b.1 back are own.at in
      let offset : b.0 ≡ offset_behind (before own.k) = own.offset ∙ before_offset own.k in
      let fields = index_fields j t f i is in
      subst (ChunkIndexIsRight tops p) fields (record {
        k = length (before own.k);
        chunk = chunk_top b.1;
        shown = written_fields b.1;
        is = block_index tops (before own.k) b.1 stands (back own.k (block b.1) own.at) (numbered own.k (block b.1) own.at) (sound own.k (block b.1) own.at) b.0 offset;
        names = block_names tops (before own.k) b.1 stands (back own.k (block b.1) own.at) (numbered own.k (block b.1) own.at) (sound own.k (block b.1) own.at) b.0 offset;
        only = λ q u other less at_u is_u same.
            let (m, is_m, at_m) = place_of 8 (λ e. omega (arith, e)) (λ e. omega (arith, e)) (λ e. omega (arith, e)) refl q u at_u is_u.kind in
            let iu = index_at m u at_m is_u.kind in
            let rise = kinds_rise (full_groups at n) 8 (map chunk_index_content n.blocks) m j u t (full_apart at n) (omega (arith, less, is_m, is_j)) iu.kind i.kind in
            let up = pairs_at (λ (x y : ℕ × List Rec). x.0 < y.0) n.blocks (blocks_rise (body_at header) ps) iu.kind.i i.kind.i iu.block b rise iu.at_block i.at_block in
            let offsets = ap (λ (g : ChunkIndexFields). g.offset) (index_fields m u other iu is_u) in
            omega (arith, up, offsets, same);
      })

  -- ---- V13

  -- an extra stands at its offset
  extra_stands : (k : ℕ) (t : Top) (offset : ℕ) → At extras k t → offset ≡ body_at header + length (pieces_bytes ps) + length (spelled (take k extras)) → StandsAt tops offset t
  extra_stands k t offset there is =
      let m = length (flat_map piece_tops ps) in
      let rest = end_top ∷ (summary ++ foot ∷ []) in
      let inner : At body (m + k) t = at_second (flat_map piece_tops ps) extras k t there in
      let here : At tops (suc (m + k)) t = at_kept body rest (m + k) t inner in
      let few : m + k ≤ length body = let within = at_within body (m + k) t inner in omega (arith, within) in
      let front : take (suc (m + k)) tops ≡ header ∷ (flat_map piece_tops ps ++ take k extras) = ap (λ (l : List Top). header ∷ l) (take-append-le (m + k) body rest few ∙ take_second (flat_map piece_tops ps) extras k) in
      let bytes = ap offset_behind front in
      let parts = length-append (top_bytes header) (spelled (flat_map piece_tops ps ++ take k extras)) in
      let more = length-spelled_append (flat_map piece_tops ps) (take k extras) in
      let pieces = ap length (pieces_spelled ps) in
      (suc (m + k), here, omega (arith, bytes, parts, more, pieces, is))

  -- a record at top level of a piece stands at its offset
  alone_stands : (e : ℕ × Top) → IsAloneAt (body_at header) ps e → StandsAt tops e.0 e.1
  alone_stands e is =
      let cut = cut_flat piece_tops ps is.k (alone is.record_there) is.at in
      let before_it = flat_map piece_tops (take is.k ps) in
      let rest = end_top ∷ (summary ++ foot ∷ []) in
      let joined : tops ≡ (header ∷ before_it) ++ (rec_top is.record_there ∷ ((flat_map piece_tops cut.0 ++ extras) ++ rest)) =
      ap (λ (l : List Top). header ∷ ((l ++ extras) ++ rest)) cut.1 ∙ join_alone header before_it (rec_top is.record_there) (flat_map piece_tops cut.0) extras rest in
      let here : At tops (length (header ∷ before_it)) e.1 = subst (λ (x : Top). At tops (length (header ∷ before_it)) x) (sym is.top_is) (subst (λ (l : List Top). At l (length (header ∷ before_it)) (rec_top is.record_there)) (sym joined) (at_last (header ∷ before_it) (rec_top is.record_there) ((flat_map piece_tops cut.0 ++ extras) ++ rest))) in
      let front : take (length (header ∷ before_it)) tops ≡ header ∷ before_it = ap (take (length (header ∷ before_it))) joined ∙ take-append_seam (header ∷ before_it) (rec_top is.record_there ∷ ((flat_map piece_tops cut.0 ++ extras) ++ rest)) in
      let bytes = ap offset_behind front in
      let parts = length-append (top_bytes header) (spelled before_it) in
      (length (header ∷ before_it), here, omega (arith, bytes, parts, is.offset))
    where
      join_alone : (h : Top) (a : List Top) (r : Top) (b e z : List Top) → h ∷ (((a ++ ((r ∷ []) ++ b)) ++ e) ++ z) ≡ (h ∷ a) ++ (r ∷ ((b ++ e) ++ z))
      join_alone h a r b e z = simp append_assoc refl

  -- each that is noted stands at its offset
  noted_stands : (k : ℕ) (e : ℕ × Top) → At n.extras k e → StandsAt tops e.0 e.1
  noted_stands k e there = elim (at_either (alone_from (body_at header) ps) (extras_from (body_at header + length (pieces_bytes ps)) extras) k e there) [
    | inl first ↦ alone_stands e (alone_are (body_at header) ps k e first)
    | inr (m, is, second) ↦ let own = extras_are (body_at header + length (pieces_bytes ps)) extras m e second in extra_stands m e.1 e.0 own.0 own.1
  ]

  -- their offsets rise
  noted_rise : Rises n.extras
  noted_rise = pairs_from (λ (x y : ℕ × Top). x.0 < y.0) n.extras (λ i j x y less at_x at_y.
      by i j x y less (at_either (alone_from (body_at header) ps) (extras_from (body_at header + length (pieces_bytes ps)) extras) i x at_x) (at_either (alone_from (body_at header) ps) (extras_from (body_at header + length (pieces_bytes ps)) extras) j y at_y))
    where
      by : (i j : ℕ) (x y : ℕ × Top) → i < j → At (alone_from (body_at header) ps) i x ⊎ ((k : ℕ) × (i ≡ length (alone_from (body_at header) ps) + k) × At (extras_from (body_at header + length (pieces_bytes ps)) extras) k x)
          → At (alone_from (body_at header) ps) j y ⊎ ((k : ℕ) × (j ≡ length (alone_from (body_at header) ps) + k) × At (extras_from (body_at header + length (pieces_bytes ps)) extras) k y) → x.0 < y.0
      by i j x y less (inl a) (inl b) = pairs_at (λ (u v : ℕ × Top). u.0 < v.0) (alone_from (body_at header) ps) (alone_rise (body_at header) ps) i j x y less a b
      by i j x y less (inl a) (inr (m, is, b)) =
          let one = alone_are (body_at header) ps i x a in
          let two = extras_are (body_at header + length (pieces_bytes ps)) extras m y b in
          let offset = two.1 in
          let cut = cut_flat piece_tops ps one.k (alone one.record_there) one.at in
          let size = ap (λ (l : List Top). length (spelled l)) cut.1 in
          let parts = length-spelled_append (flat_map piece_tops (take one.k ps)) (rec_top one.record_there ∷ flat_map piece_tops cut.0) in
          let own = length-append (top_bytes (rec_top one.record_there)) (spelled (flat_map piece_tops cut.0)) in
          let pieces = ap length (pieces_spelled ps) in
          omega (arith, one.offset, offset, size, parts, own, pieces, length-top (rec_top one.record_there))
      by i j x y less (inr (k, is, a)) (inl b) = let within = at_within (alone_from (body_at header) ps) j y b in absurd (omega (arith, less, is, within))
      by i j x y less (inr (k, is_k, a)) (inr (m, is_m, b)) =
          pairs_at (λ (u v : ℕ × Top). u.0 < v.0) (extras_from (body_at header + length (pieces_bytes ps)) extras) (extras_rise (body_at header + length (pieces_bytes ps)) extras) k m x y (omega (arith, less, is_k, is_m)) a b

  pub record IsExtraAt (op own : ℕ) (content : ℕ × Top → List ℕ) (j : ℕ) (t : Top) : Type 0 where
    pub kind : IsOfKind (full_groups at n) op (map content (extras_of_kind own n.extras)) j t
    pub extra : ℕ × Top
    pub at_extra : At (extras_of_kind own n.extras) kind.i extra
    pub is : t ≡ top_of op (content extra)
    pub own_kind : extra.1.op ≡ own
    pub stands : StandsAt tops extra.0 extra.1
    pub fits_there : IsExtra extra.1 × (extra.0 + length (top_bytes extra.1) < 2 ^ 64)

  extra_at : (op own : ℕ) (content : ℕ × Top → List ℕ) (j : ℕ) (t : Top) → IsOfKind (full_groups at n) op (map content (extras_of_kind own n.extras)) j t → IsExtraAt op own content j t
  extra_at op own content j t k =
      let (e, at_e, same) = at_map content (extras_of_kind own n.extras) k.i k.content k.content_at in
      let (has, passes) = filter_passed (λ (x : ℕ × Top). x.1.op == own) n.extras k.i e at_e in
      record {
        kind = k;
        extra = e;
        at_extra = at_e;
        is = k.is ∙ ap (top_of op) {y = content e} same;
        own_kind = eqb-true e.1.op own passes;
        stands = noted_stands has.0 e has.1;
        fits_there = fits.extras has.0 e has.1;
      }

  extras_up : (op own : ℕ) (content : ℕ × Top → List ℕ) (j m : ℕ) (t u : Top) → j < m → (a : IsExtraAt op own content j t) → (b : IsExtraAt op own content m u) → a.extra.0 < b.extra.0
  extras_up op own content j m t u less a b =
      let rise = kinds_rise (full_groups at n) op (map content (extras_of_kind own n.extras)) j m t u (full_apart at n) less a.kind b.kind in
      let ups = AllPairs-filter (λ (x y : ℕ × Top). x.0 < y.0) (λ x. x.1.op == own) n.extras noted_rise in
      pairs_at (λ (x y : ℕ × Top). x.0 < y.0) (extras_of_kind own n.extras) ups a.kind.i b.kind.i a.extra b.extra rise a.at_extra b.at_extra

  attachment_at : (j : ℕ) (t : Top) → At summary j t → t.op ≡ 10 → IsExtraAt 10 9 attachment_index_content j t
  attachment_at j t there kind = extra_at 10 9 attachment_index_content j t (of_kind_there (full_groups at n) 10 (map attachment_index_content (extras_of_kind 9 n.extras))
      (each_full (λ g. g.op ≡ 10 → g ≡ record { op = 10; contents = map attachment_index_content (extras_of_kind 9 n.extras) }) at n (λ e. absurd (omega (arith, e))) (λ e. absurd (omega (arith, e))) (λ e. absurd (omega (arith, e))) (λ e. absurd (omega (arith, e))) (λ e. refl) (λ e. absurd (omega (arith, e))) (λ e. absurd (omega (arith, e))))
      j t (full_at j t there) kind)

  metadata_at : (j : ℕ) (t : Top) → At summary j t → t.op ≡ 13 → IsExtraAt 13 12 metadata_index_content j t
  metadata_at j t there kind = extra_at 13 12 metadata_index_content j t (of_kind_there (full_groups at n) 13 (map metadata_index_content (extras_of_kind 12 n.extras))
      (each_full (λ g. g.op ≡ 13 → g ≡ record { op = 13; contents = map metadata_index_content (extras_of_kind 12 n.extras) }) at n (λ e. absurd (omega (arith, e))) (λ e. absurd (omega (arith, e))) (λ e. absurd (omega (arith, e))) (λ e. absurd (omega (arith, e))) (λ e. absurd (omega (arith, e))) (λ e. refl) (λ e. absurd (omega (arith, e))))
      j t (full_at j t there) kind)

  attachment_is : (j : ℕ) (t : Top) (a : IsExtraAt 10 9 attachment_index_content j t) → (f : AttachmentFields) × IsAttachment a.extra.1 f
  attachment_is j t a = let both = a.fits_there in let meets = both.0.v6 in meets.attachment a.own_kind

  attachment_shows : (j : ℕ) (t : Top) (f : AttachmentIndexFields) (a : IsExtraAt 10 9 attachment_index_content j t) (g : AttachmentFields) → IsAttachment a.extra.1 g → IsAttachmentIndex t f → indexed_attachment a.extra.0 a.extra.1 g ≡ f
  attachment_shows j t f a g is_g is = attachment_index_shows a.extra.0 a.extra.1 g f is_g a.fits_there.1 (subst (λ (x : Top). IsAttachmentIndex x f) a.is is)

  attachment_right : (p : ℕ) (t : Top) → At tops p t → (f : AttachmentIndexFields) → IsAttachmentIndex t f → AttachmentIndexIsRight tops p f
  attachment_right p t there f is =
      let (j, is_j, at_j) = place_of 10 (λ e. omega (arith, e)) (λ e. omega (arith, e)) (λ e. omega (arith, e)) refl p t there is.kind in
      let a = attachment_at j t at_j is.kind in
      let (g, is_g) = attachment_is j t a in
      let fields = attachment_shows j t f a g is_g is in
      subst (AttachmentIndexIsRight tops p) fields (record {
        top = a.extra.1;
        shown = g;
        at = a.stands;
        is = is_g;
        size = refl;
        log_time = refl;
        create_time = refl;
        payload_size = refl;
        name = refl;
        media_type = refl;
        only = λ q u other less at_u is_u same.
            let (m, is_m, at_m) = place_of 10 (λ e. omega (arith, e)) (λ e. omega (arith, e)) (λ e. omega (arith, e)) refl q u at_u is_u.kind in
            let b = attachment_at m u at_m is_u.kind in
            let (h, is_h) = attachment_is m u b in
            let up = extras_up 10 9 attachment_index_content m j u t (omega (arith, less, is_m, is_j)) b a in
            let offsets = ap (λ (x : AttachmentIndexFields). x.offset) (attachment_shows m u other b h is_h is_u) in
            omega (arith, up, offsets, same);
      })

  metadata_right : (p : ℕ) (t : Top) → At tops p t → (offset size : ℕ) (name : List ℕ) → IsMetadataIndex t offset size name → MetadataIndexIsRight tops p offset size name
  metadata_right p t there offset size name is =
      let (j, is_j, at_j) = place_of 13 (λ e. omega (arith, e)) (λ e. omega (arith, e)) (λ e. omega (arith, e)) refl p t there is.kind in
      let a = metadata_at j t at_j is.kind in
      let both = a.fits_there in
      let meets = both.0.v6 in
      let (own, pairs, is_own) = meets.metadata a.own_kind in
      let shows = metadata_index_shows a.extra.0 a.extra.1 own pairs offset size name is_own both.1 (subst (λ (x : Top). IsMetadataIndex x offset size name) a.is is) in
      record {
        top = a.extra.1;
        pairs = pairs;
        at = subst (λ (k : ℕ). StandsAt tops k a.extra.1) shows.0 a.stands;
        is = subst (λ (l : List ℕ). IsMetadata a.extra.1 l pairs) shows.2 is_own;
        size_is = sym shows.1;
        only = λ q other other_size u other_name less at_u is_u same.
            let (m, is_m, at_m) = place_of 13 (λ e. omega (arith, e)) (λ e. omega (arith, e)) (λ e. omega (arith, e)) refl q u at_u is_u.kind in
            let b = metadata_at m u at_m is_u.kind in
            let two = b.fits_there in
            let meets_u = two.0.v6 in
            let (own_u, pairs_u, is_own_u) = meets_u.metadata b.own_kind in
            let shows_u = metadata_index_shows b.extra.0 b.extra.1 own_u pairs_u other other_size other_name is_own_u two.1 (subst (λ (x : Top). IsMetadataIndex x other other_size other_name) b.is is_u) in
            let up = extras_up 13 12 metadata_index_content m j u t (omega (arith, less, is_m, is_j)) b a in
            omega (arith, up, shows.0, shows_u.0, same);
      }

  pub keeps_13 : Keeps V13 tops
  keeps_13 p t there = ((λ f is. attachment_right p t there f is), λ offset size name is. metadata_right p t there offset size name is)

  -- ---- what makes it fully indexed

  pub statistics_there : (p : ℕ) × (t : Top) × At tops p t × InSummary tops p × (t.op ≡ 11)
  statistics_there =
      let (p, there, within) = stands_there 2 (statistics_group n) 0 (statistics_content n) refl refl in
      (p, top_of 11 (statistics_content n), there, within, refl)

  -- the chunk of a piece has a Chunk Index
  block_has_index : (k : ℕ) (records : List Rec) → At ps k (block records) → HasIndex tops (length (before k)) (chunk_top records)
  block_has_index k records own =
      let offset = body_at header + bytes_before ps k in
      let b : ℕ × List Rec = (offset, records) in
      let has = are_blocks (body_at header) ps k records own in
      let content : At (map chunk_index_content n.blocks) has.0 (chunk_index_content (offset, records)) = at_mapped chunk_index_content n.blocks has.0 (offset, records) has.1 in
      let (p, there, within) = stands_there 3 (chunk_index_group n) has.0 (chunk_index_content (offset, records)) refl content in
      let one = fits.blocks has.0 (offset, records) has.1 in
      let stands = block_stands header ps extras summary foot k records back are own in
      let is = before_offset k in
      record {
        place = p;
        top = top_of 8 (chunk_index_content (offset, records));
        shown = written_index offset records;
        at = there;
        is = chunk_index_shown offset records one.0 one.1 one.2;
        of = (written_fields records, block_index tops (before k) records stands (back k (block records) own) (numbered k (block records) own) (sound k (block records) own) offset is);
        names = λ j channel u m at_u is_u.
            let logs = message_logged tops (before k) records stands (back k (block records) own) (numbered k (block records) own) (sound k (block records) own) j channel u m at_u is_u in (
              (offset + length (chunk_bytes records)) + length (indexes_bytes records (take logs.0 (logged_channels records))),
              entries_for records channel,
              is_named tops (before k) records stands (back k (block records) own) (numbered k (block records) own) (sound k (block records) own) offset logs.0 channel is logs.1,
              (logs.0, is_offset records (offset + length (chunk_bytes records)) (logged_channels records) logs.0 channel logs.1),
            );
      }

  pub chunks_indexed : (p : ℕ) (t : Top) → At tops p t → t.op ≡ 6 → HasIndex tops p t
  chunks_indexed p t there kind =
      let (j, is, at_j) = body_only header body summary foot at behind_groups (summary_crc n at) is_header right (summary_tail n at fits) (foot_is header body n at is_header right fits at_is) 6 (λ e. omega (arith, e)) (λ e. omega (arith, e)) (λ e. omega (arith, e)) refl p t there kind in
      let c = chunk_of header ps extras summary foot are back numbered sound j t at_j kind in
      subst (λ (k : ℕ). HasIndex tops k t) (sym (is ∙ c.there)) (subst (λ (x : Top). HasIndex tops (length (before c.k)) x) (sym c.is) (block_has_index c.k c.records c.at))

  -- where no Message Index is named there is no message, and the times are 0
  none_logged : (records : List Rec) (l : List Logged) → logged records ≡ l → length (logged_channels records) ≡ 0 → (least (map (λ e. e.time) l) ≡ 0) × (greatest (map (λ e. e.time) l) ≡ 0)
  none_logged records [] same none = (refl, refl)
  none_logged records (e ∷ es) same none =
      let has = logs_channel records e (0, ap (λ (l : List Logged). slice_get l 0) same) in
      let within = at_within (logged_channels records) has.0 e.channel has.1 in
      absurd (omega (arith, within, none))

  pub times_zero : (p : ℕ) (t : Top) (f : ChunkIndexFields) → At tops p t → IsChunkIndex t f → f.indexes ≡ [] → (f.start ≡ 0) × (f.end ≡ 0)
  times_zero p t f there is =
      let (j, is_j, at_j) = place_of 8 (λ e. omega (arith, e)) (λ e. omega (arith, e)) (λ e. omega (arith, e)) refl p t there is.kind in
      let i = index_at j t at_j is.kind in
      let b = i.block in
      subst (λ (g : ChunkIndexFields). g.indexes ≡ [] → (g.start ≡ 0) × (g.end ≡ 0)) (index_fields j t f i is)
      (λ none.
      let size = ap length none in
      let same = length-offsets b.1 (b.0 + length (chunk_bytes b.1)) (logged_channels b.1) in
      none_logged b.1 (logged b.1) refl (omega (arith, size, same)))

  pub channels_there : (copies : List Top) → flat tops ≡ map rec_top history ++ copies → Each (Has (map rec_top history)) copies → EachBehind Agrees (map rec_top history) → (i channel : ℕ) (t : Top) (m : MessageFields) → At (flat tops) i t → IsMessage t channel m → SummaryHasChannel tops channel
  channels_there copies same has agree i channel t m there is =
      let own = either_has (map rec_top history) copies has i t (subst (λ (l : List Top). At l i t) same there) in
      let agrees = agree own.0 t own.1 in
      let some = agrees.channel channel m is in
      let old = has_taken (map rec_top history) own.0 some.place some.top some.at in
      let id = id_of_channel history channel fits.back (record { place = some.place; top = some.top; shown = some.shown; at = old.1; is = some.is }) in
      let (x, at_x, id_is) = at_map rec_id (channels_of history) id.0 channel id.1 in
      let passed = filter_passed is_channel (without_repeats history) id.0 x at_x in
      let (f, x_is) = as_channel x passed.1 in
      let from = channels_has history id.0 x at_x in
      let back_x : IsReadBack (channel_of (rec_id x) f) = subst IsReadBack x_is (fits.back from.0 x from.1) in
      let (p, at_p, within) = stands_there 1 (channel_group n) id.0 (rec_text x) refl (at_mapped rec_text (channels_of history) id.0 x at_x) in
      let shown : IsChannel (top_of 4 (rec_text x)) channel f = subst (λ (k : ℕ). IsChannel (top_of 4 (rec_text x)) k f) (sym id_is) (subst (λ (r : Rec). IsChannel (top_of 4 (rec_text r)) (rec_id x) f) (sym x_is) (channel_shown (rec_id x) f back_x)) in
      record { place = p; top = top_of 4 (rec_text x); shown = f; at = at_p; within = within; is = shown }

  pub no_message : ((k : ℕ) (p : Piece) → At ps k p → ((records : List Rec) × (p ≡ block records)) ⊎ ((r : Rec) × (p ≡ alone r) × (is_inner r ≡ false))) → Each (λ t. t.op ≢ 5) tops
  no_message blocks = each_kind header body summary foot at behind_groups (summary_crc n at) is_header right (summary_tail n at fits) (foot_is header body n at is_header right fits at_is) (λ t. t.op ≢ 5)
      (λ e. omega (arith, is_header.kind, e))
      (each_joined (λ t. t.op ≢ 5) (flat_map piece_tops ps) extras
      (each_flat (λ t. t.op ≢ 5) piece_tops ps (λ k p own. elim (blocks k p own) [
        | inl (records, same) ↦ subst (λ (q : Piece). Each (λ t. t.op ≢ 5) (piece_tops q)) (sym same) (block_not records)
        | inr (r, same, aside) ↦
            let own_back : IsReadBack r = back k (alone r) (subst (λ (q : Piece). At ps k q) same own) 0 r refl in
            subst (λ (q : Piece). Each (λ t. t.op ≢ 5) (piece_tops q)) (sym same) (alone_not r own_back aside)
      ]))
      (λ k t own e. extra_not_kind t.op (are k t own).kind 5 (omega arith) (λ a. omega (arith, a)) (λ a. omega (arith, a)) e))
      (λ e. omega (arith, e))
      (λ k t own. tail_not t 5 (summary_tail n at fits k t own) refl)
      (λ e. omega (arith, e))
    where
      block_not : (records : List Rec) → Each (λ t. t.op ≢ 5) (piece_tops (block records))
      block_not records = each_cons (λ t. t.op ≢ 5) (chunk_top records) (map (index_top records) (logged_channels records)) (λ e. omega (arith, e)) (each_map (index_top records) (λ t. t.op ≢ 5) (logged_channels records) (λ k id own e. omega (arith, e)))

      alone_not : (r : Rec) → IsReadBack r → is_inner r ≡ false → Each (λ t. t.op ≢ 5) (piece_tops (alone r))
      alone_not (Schema id s) own aside = absurd (both_ways true aside refl)
      alone_not (Channel id schema topic encoding metadata) own aside = absurd (both_ways true aside refl)
      alone_not (Message channel sequence log_time publish_time payload) own aside = absurd (both_ways true aside refl)
      alone_not (Extra op content) own aside = each_cons (λ t. t.op ≢ 5) (rec_top (Extra op content)) [] (λ e. extra_not op content 5 own.2 (omega arith) e) (λ k t there. absurd (at_none k t there))
