-- A file that is written is valid.
use Rattle.std.proofs.Common.{◌≡◌, ℕ, zero, suc, ◌+◌, ◌^◌, ◌<◌, ◌≤◌, Bool, true, false, cond, List, [], ◌∷◌, ◌++◌, length, take, map, Option, Some, None, refl, sym, ap, subst, inl, inr, ◌∙◌, append_assoc, arith}
use Rattle.std.specs.Prelude.{◌≢◌}
use Rattle.std.specs.List.{flat_map}
use Rattle.std.proofs.lemmas.List.{append-nil, length-append}
use Rattle.std.proofs.lemmas.Grind.{flat_map-append}
use Rattle.mcap_wire.specs.Layout.{magic}
use Rattle.rec_data.specs.declared.owned.Rec.{Rec}
use Rattle.rec_data.specs.Owned.{rec_bytes}
use Rattle.rec_data.specs.Records.{footer_text}
use Rattle.rec_data.proofs.Contents.{footer_shown}
use Rattle.mcap_model.specs.declared.options.FileOptions.{FileOptions}
use Rattle.mcap_model.specs.Places.{At, Each, EachBehind}
use Rattle.mcap_model.specs.Tops.{Top, top_bytes, spelled, offset_behind, flat}
use Rattle.mcap_model.specs.Fields.{IsHeader, IsFooter, IsStatistics}
use Rattle.mcap_model.specs.Rules.{V10, HasDataEnd, Agrees, stands_in_section}
use Rattle.mcap_model.specs.History.{rec_top, is_inner, body_of, extras_in, history_bytes}
use Rattle.mcap_model.proofs.Asides.{inner_or, body_inner, each_body}
use Rattle.std.proofs.lemmas.Bool.{both_ways}
use Rattle.mcap_model.specs.Blocks.{Piece, block, alone, logged, logged_channels, pieces_of, pieces_bytes, chunk_bytes, indexes_bytes}
use Rattle.mcap_model.specs.Summary.{Noted, group_bytes, groups_of, statistics_content, footer_of_offsets}
use Rattle.mcap_model.specs.File.{front, blocks_from, alone_from, extras_from, noted, file_of}
use Rattle.mcap_model.specs.Whole.{count_of, is_last, BelongsTo, IsIndexed, V9, V11, V12, V13, V14, V15, V16, StatisticsAreRight}
use Rattle.mcap_model.specs.Valid.{Keeps, Valid, FullyIndexed}
use Rattle.mcap_model.specs.Laws.{IsValid, index_top, IsNumberedRec, CanBeWritten, FilesAreValid, FilesAreIndexed}
use Rattle.mcap_model.specs.ReadBack.{IsReadBack, IsExtra}
use Rattle.mcap_model.proofs.Places.{at_none}
use Rattle.mcap_model.proofs.Readings.{top_of}
use Rattle.mcap_model.proofs.Histories.{recs_agree}
use Rattle.mcap_model.proofs.Lists.{cut_flat, cut_at, at_either}
use Rattle.mcap_model.proofs.Edges.{header_top, end_top}
use Rattle.mcap_model.proofs.Shape.{whole, ends_never, before_end, end_there, length-whole, is_section, behind_end}
use Rattle.mcap_model.specs.Recovery.{piece_records}
use Rattle.mcap_model.proofs.Section.{piece_tops, held, pieces_body, pieces_extras, blocks_inner, extra_there, PieceIsSound, IsRight, block_within, pieces_spelled, piece_spelled, IsBlock, pieces_are_blocks, block_of}
use Rattle.mcap_model.proofs.Files.{body_tops, section_tops, summary_at, summary_tops, summary_foot, file_spelled, length-spelled_append, length-file, whole_of, magics_of, groups_tops, offset_tops, footer_top, summary_crc, groups_spelled, footer_once}
use Rattle.mcap_model.proofs.Body.{standing, header_is, section_within, extras_behind, pieces_sound, pieces_back, pieces_numbered, body_right, section_flat}
use Rattle.mcap_model.proofs.Groups.{of_kind_there}
use Rattle.mcap_model.proofs.Standing.{blocks_are, alone_are, extras_are}
use Rattle.mcap_laws.proofs.BlockIndexes.{index_belongs, chunk_indexed}
use Rattle.mcap_model.proofs.Front.{IsTail, keeps_3, keeps_5, keeps_5_behind, keeps_6, keeps_8, keeps_10, all_plain, keeps_17, body_only, summary_only, last_is, unended}
use Rattle.mcap_model.proofs.Copies.{copies_agree}
use Rattle.mcap_laws.proofs.Tails.{full_groups, full_tops, each_full, NotedFits, summary_tail, statistics_shows, copies, copies_has, summary_flat}
use Rattle.mcap_laws.proofs.StatisticsRight.{flat_whole, count_append, count_extras, statistics_right}
use Rattle.mcap_laws.proofs.SummaryRules.{foot_is, never, keeps_11, keeps_15, keeps_16}
use Rattle.mcap_laws.proofs.IndexRules.{body_at, noted_of, keeps_12, keeps_13, statistics_there, no_message, chunks_indexed, times_zero, channels_there}
use Rattle.mcap_laws.proofs.Scanned.{v7_of_flat}
use Rattle.std.proofs.lemmas.Option.{same_Some}
use Rattle.mcap_model.proofs.FewRecords.{logged_few}

-- ---- what is left where the first and the last rules are kept

module _ (header : Top) (ps : List Piece) (extras summary : List Top) (foot : Top) (s o c : ℕ)
    (is_header : IsHeader header) (right : Each IsRight (flat_map piece_tops ps ++ extras)) (tail : Each IsTail summary) (is_foot : IsFooter foot s o c)
    (are : Each IsExtra extras) (back : (n : ℕ) (p : Piece) → At ps n p → Each IsReadBack (piece_records p)) (numbered : (n : ℕ) (p : Piece) → At ps n p → Each IsNumberedRec (piece_records p)) (sound : (n : ℕ) (p : Piece) → At ps n p → PieceIsSound p) where
  abbrev body : List Top
  body = flat_map piece_tops ps ++ extras

  abbrev all : List Top
  all = whole (header ∷ body) summary foot

  pub keeps_9 : Keeps V9 all
  keeps_9 p t there = (
    (λ kind.
        let (j, is, at) = body_only header body summary foot s o c is_header right tail is_foot 7 (λ e. omega (arith, e)) (λ e. omega (arith, e)) (λ e. omega (arith, e)) refl p t there kind in
        subst (λ (k : ℕ). BelongsTo (take k all) t) (sym is) (index_belongs header ps extras summary foot are back numbered sound j t at kind)),
    λ kind followed.
        let (j, is, at) = body_only header body summary foot s o c is_header right tail is_foot 6 (λ e. omega (arith, e)) (λ e. omega (arith, e)) (λ e. omega (arith, e)) refl p t there kind in
        subst (λ (k : ℕ). IsIndexed all k t) (sym is) (chunk_indexed header ps extras summary foot are back numbered sound j t at kind),
  )

  pub valid_of : (file : List ℕ) → file ≡ magic ++ (spelled all ++ magic) → length file < 2 ^ 64 → EachBehind Agrees (flat all) → Keeps V11 all → Keeps V12 all → Keeps V13 all → Keeps V14 all → Keeps V15 all → Keeps (V16 file) all → Valid file all
  valid_of file split small agree v11 v12 v13 v14 v15 v16 = record {
    v1 = (spelled all ++ magic, split);
    v2 = magics_of file all split;
    some = λ e. let size = ap length e in let none : length all ≡ 0 = size in omega (arith, none, length-whole (header ∷ body) summary foot);
    v3 = keeps_3 header body summary foot s o c is_header right tail is_foot;
    v4 = whole_of file all split small;
    v5 = keeps_5 header body summary foot s o c is_header right tail is_foot;
    v5_behind = keeps_5_behind header body summary foot s o c is_header right tail is_foot;
    v6 = keeps_6 header body summary foot s o c is_header right tail is_foot;
    v7 = v7_of_flat all agree;
    v8 = keeps_8 header body summary foot s o c is_header right tail is_foot;
    v9 = keeps_9;
    v10 = keeps_10 header body summary foot s o c is_header right tail is_foot;
    v11 = v11;
    v12 = v12;
    v13 = v13;
    v14 = v14;
    v15 = v15;
    v16 = v16;
    v17 = keeps_17 header body summary foot s o c is_header right tail is_foot;
    plain = all_plain header body summary foot s o c is_header right tail is_foot;
  }

-- ---- bounds

piece_holds : (p : Piece) → length (history_bytes (piece_records p)) ≤ length (spelled (piece_tops p))
piece_holds (block records) = omega (arith, block_within records, length-append (chunk_bytes records) (spelled (map (index_top records) (logged_channels records))))
piece_holds (alone r) = omega arith

pieces_holds : (ps : List Piece) → length (history_bytes (held ps)) ≤ length (spelled (flat_map piece_tops ps))
pieces_holds [] = omega arith
pieces_holds (p ∷ ps) =
    let more = pieces_holds ps in
    let own = piece_holds p in
    let all : length (history_bytes (held (p ∷ ps))) ≡ length (history_bytes (piece_records p) ++ history_bytes (held ps)) = ap length (flat_map-append rec_bytes (piece_records p) (held ps)) in
    omega (arith, more, own, all, length-append (history_bytes (piece_records p)) (history_bytes (held ps)), length-spelled_append (piece_tops p) (flat_map piece_tops ps))

-- a history without its extras is no longer
body_shorter : (records : List Rec) → length (history_bytes (body_of records)) ≤ length (history_bytes records)
body_shorter [] = omega arith
body_shorter (r ∷ rs) = by (is_inner r) (body_shorter rs)
  where
    by : (b : Bool) → length (history_bytes (body_of rs)) ≤ length (history_bytes rs) → length (history_bytes (cond b (r ∷ body_of rs) (body_of rs))) ≤ length (history_bytes (r ∷ rs))
    by true less = omega (arith, less, length-append (rec_bytes r) (history_bytes (body_of rs)), length-append (rec_bytes r) (history_bytes rs))
    by false less = omega (arith, less, length-append (rec_bytes r) (history_bytes rs))

-- an extra of a history is one of a file
aside_right : (r : Rec) → IsReadBack r → IsNumberedRec r → is_inner r ≡ false → (is_inner r ≡ false → V10 (rec_top r)) → IsExtra (rec_top r)
aside_right r back numbered aside right = elim (inner_or r) [
  | inl inner ↦ absurd (both_ways (is_inner r) aside inner)
  | inr (op, content, is) ↦ extra_there r op content is back numbered right
]

length-front : (profile : List ℕ) → length (front profile) ≡ body_at (header_top profile)
unfolding front
length-front profile = let eight : length magic ≡ 8 = refl in omega (arith, length-append magic (top_bytes (header_top profile)), eight)

module _ (options : FileOptions) (extras : List Top) (history : List Rec) (written : CanBeWritten options extras history) where
  abbrev header : Top
  header = header_top options.profile

  abbrev ps : List Piece
  ps = pieces_of options.chunk options.span history

  abbrev at : ℕ
  at = summary_at options extras history

  abbrev file : List ℕ
  file = file_of options extras history

  abbrev n : Noted
  n = noted_of (header_top options.profile) (pieces_of options.chunk options.span history) extras (body_of history)

  noted_is : noted options extras history ≡ n
  noted_is = ap (λ (k : ℕ). record { records = body_of history; blocks = blocks_from k ps; extras = alone_from k ps ++ extras_from (k + length (pieces_bytes ps)) extras }) (length-front options.profile)

  own_extras : Each IsExtra extras
  own_extras = extras_behind options extras history (standing options extras history written)

  own_back : Each IsReadBack (body_of history)
  own_back = each_body IsReadBack history written.records_fit

  own_numbered : Each IsNumberedRec (body_of history)
  own_numbered = each_body IsNumberedRec history written.numbered

  own_agree : EachBehind Agrees (map rec_top (body_of history))
  own_agree = recs_agree history written.records_fit written.ids_agree

  -- ---- without a chunk size

  plain_file : options.chunk ≡ None → file ≡ magic ++ (spelled (whole (section_tops options extras history) [] (footer_top 0 0 0)) ++ magic)
  plain_file none =
      file_spelled options extras history
      ∙ ap (λ (k : Option ℕ). magic ++ (spelled (whole (section_tops options extras history) (summary_tops k (noted options extras history) at) (summary_foot k (noted options extras history) at)) ++ magic)) none

  no_foot : IsFooter (footer_top 0 0 0) 0 0 0
  no_foot = record { kind = refl; layout = footer_shown (footer_of_offsets 0 0 0) (omega arith) (omega arith) (omega arith) }

  no_tail : Each IsTail []
  no_tail k t there = absurd (at_none k t there)

  abbrev plain_tops : List Top
  plain_tops = whole (section_tops options extras history) [] (footer_top 0 0 0)

  -- nothing stands in the summary
  none_there : (op : ℕ) → (op ≡ 1 → ⊥) → (op ≡ 2 → ⊥) → (op ≡ 15 → ⊥) → stands_in_section op ≡ false → (p : ℕ) (t : Top) → At plain_tops p t → t.op ≡ op → ⊥
  none_there op one two fifteen other p t there kind =
      let (j, is, second) = summary_only header (body_tops options extras history) [] (footer_top 0 0 0) 0 0 0 (header_is options extras history (standing options extras history written)) (body_right options extras history (standing options extras history written)) no_tail no_foot op one two fifteen other p t there kind in
      at_none j t second

  plain_never : Each (λ t. t.op ≢ 15) (section_tops options extras history)
  plain_never = unended header (body_tops options extras history) [] (footer_top 0 0 0) 0 0 0 (header_is options extras history (standing options extras history written)) (body_right options extras history (standing options extras history written)) no_tail no_foot

  zeros : (p : ℕ) (t : Top) (s o c : ℕ) → At plain_tops p t → is_last plain_tops p → IsFooter t s o c → (p ≡ suc (length (section_tops options extras history)) + 0) × (0 ≡ s)
  zeros p t s o c there last is =
      let own = last_is header (body_tops options extras history) [] (footer_top 0 0 0) 0 0 0 (header_is options extras history (standing options extras history written)) (body_right options extras history (standing options extras history written)) no_tail no_foot p t there last in
      let shown : IsFooter (footer_top 0 0 0) s o c = subst (λ (x : Top). IsFooter x s o c) own.1 is in
      (own.0, (footer_once (footer_text (footer_of_offsets 0 0 0)) 0 0 0 s o c no_foot.layout shown.layout).0)

  plain_11 : Keeps V11 plain_tops
  plain_11 p t there = (
    (λ s o c last is.
        let z = zeros p t s o c there last is in
        record {
          start = (
            length (section_tops options extras history),
            end_top,
            end_there (section_tops options extras history) [] (footer_top 0 0 0),
            refl,
            (λ ended. ends_never (section_tops options extras history) plain_never (subst HasDataEnd (before_end (section_tops options extras history) [] (footer_top 0 0 0)) ended)),
            inl (sym z.1, (let place = z.0 in omega (arith, place))),
          );
          first_offset = λ k u at_u within kind none. absurd (none_there 14 (λ e. omega (arith, e)) (λ e. omega (arith, e)) (λ e. omega (arith, e)) refl k u at_u kind);
        }),
    λ within known. let (k, is, few) = behind_end (section_tops options extras history) [] (footer_top 0 0 0) plain_never p within in absurd (omega (arith, few)),
  )

  plain_flat : flat plain_tops ≡ map rec_top (body_of history)
  plain_flat = flat_whole (section_tops options extras history) [] (footer_top 0 0 0) refl ∙ append-nil (flat (section_tops options extras history)) ∙ section_flat options extras history (standing options extras history written)

  valid_plain : options.chunk ≡ None → Valid file plain_tops
  valid_plain none = valid_of header ps extras [] (footer_top 0 0 0) 0 0 0 (header_is options extras history (standing options extras history written)) (body_right options extras history (standing options extras history written)) no_tail no_foot
      own_extras (pieces_back options extras history (standing options extras history written)) (pieces_numbered options extras history (standing options extras history written)) (pieces_sound options extras history (standing options extras history written))
      file (plain_file none) written.size_fits
      (subst (EachBehind Agrees) (sym plain_flat) own_agree)
      plain_11
      (λ p t there f is. absurd (none_there 8 (λ e. omega (arith, e)) (λ e. omega (arith, e)) (λ e. omega (arith, e)) refl p t there is.kind))
      (λ p t there. ((λ f is. absurd (none_there 10 (λ e. omega (arith, e)) (λ e. omega (arith, e)) (λ e. omega (arith, e)) refl p t there is.kind)), λ offset size name is. absurd (none_there 13 (λ e. omega (arith, e)) (λ e. omega (arith, e)) (λ e. omega (arith, e)) refl p t there is.kind)))
      (λ p t there f is. absurd (none_there 11 (λ e. omega (arith, e)) (λ e. omega (arith, e)) (λ e. omega (arith, e)) refl p t there is.kind))
      (λ p t there op offset size is. absurd (none_there 14 (λ e. omega (arith, e)) (λ e. omega (arith, e)) (λ e. omega (arith, e)) refl p t there is.kind))
      (λ p t there s o c last is some known. let z = zeros p t s o c there last is in absurd (some (sym z.1)))

  -- ---- with a chunk size

  abbrev behind_groups : ℕ
  behind_groups = at + length (flat_map group_bytes (groups_of n))

  abbrev summary : List Top
  summary = groups_tops (groups_of n) ++ offset_tops at (groups_of n)

  abbrev foot : Top
  foot = footer_top at behind_groups (summary_crc n at)

  abbrev indexed_tops : List Top
  indexed_tops = whole (section_tops options extras history) summary foot

  pub indexed_file : (size : ℕ) → options.chunk ≡ Some size → file ≡ magic ++ (spelled indexed_tops ++ magic)
  indexed_file size some =
      file_spelled options extras history
      ∙ ap (λ (k : Option ℕ). magic ++ (spelled (whole (section_tops options extras history) (summary_tops k (noted options extras history) at) (summary_foot k (noted options extras history) at)) ++ magic)) some
      ∙ ap (λ (x : Noted). magic ++ (spelled (whole (section_tops options extras history) (groups_tops (groups_of x) ++ offset_tops at (groups_of x)) (footer_top at (at + length (flat_map group_bytes (groups_of x))) (summary_crc x at))) ++ magic)) noted_is

  section_split : offset_behind (section_tops options extras history ++ end_top ∷ []) ≡ body_at header + length (spelled (flat_map piece_tops ps)) + length (spelled extras) + length (top_bytes end_top)
  section_split = omega (
    arith,
    length-spelled_append (section_tops options extras history) (end_top ∷ []),
    length-append (top_bytes header) (spelled (body_tops options extras history)),
    length-spelled_append (flat_map piece_tops ps) extras,
    length-append (top_bytes end_top) [],
  )

  blocks_fit : (k : ℕ) (b : ℕ × List Rec) → At n.blocks k b → Each IsReadBack b.1 × (length (history_bytes b.1) < 2 ^ 64) × (b.0 + length (chunk_bytes b.1) + length (indexes_bytes b.1 (logged_channels b.1)) < 2 ^ 64)
  blocks_fit k b there =
      let own = blocks_are (body_at header) ps k b there in
      let sound = pieces_sound options extras history (standing options extras history written) own.k (block b.1) own.at in
      let room = section_within options extras history (standing options extras history written) in
      let cut = cut_flat piece_tops ps own.k (block b.1) own.at in
      let size : length (spelled (flat_map piece_tops ps)) ≡ length (spelled (flat_map piece_tops (take own.k ps) ++ (piece_tops (block b.1) ++ flat_map piece_tops cut.0))) = ap (λ (l : List Top). length (spelled l)) cut.1 in
      let parts = length-spelled_append (flat_map piece_tops (take own.k ps)) (piece_tops (block b.1) ++ flat_map piece_tops cut.0) in
      let more = length-spelled_append (piece_tops (block b.1)) (flat_map piece_tops cut.0) in
      let spelled_is = ap length (piece_spelled (block b.1)) in
      (pieces_back options extras history (standing options extras history written) own.k (block b.1) own.at, sound.0, omega (arith, own.offset, room, section_split, size, parts, more, spelled_is, length-append (chunk_bytes b.1) (indexes_bytes b.1 (logged_channels b.1))))

  extras_fit : (k : ℕ) (e : ℕ × Top) → At (extras_from (body_at header + length (pieces_bytes ps)) extras) k e → IsExtra e.1 × (e.0 + length (top_bytes e.1) < 2 ^ 64)
  extras_fit k e there =
      let own = extras_are (body_at header + length (pieces_bytes ps)) extras k e there in
      let offset = own.1 in
      let room = section_within options extras history (standing options extras history written) in
      let cut = cut_at extras k e.1 own.0 in
      let size = ap (λ (l : List Top). length (spelled l)) cut.1 in
      let parts = length-spelled_append (take k extras) (e.1 ∷ cut.0) in
      let pieces = ap length (pieces_spelled ps) in
      (own_extras k e.1 own.0, omega (arith, offset, room, section_split, size, parts, pieces, length-append (top_bytes e.1) (spelled cut.0)))

  -- with a chunk size the records at top level among the pieces are extras
  alone_fit : (size : ℕ) → options.chunk ≡ Some size → (k : ℕ) (e : ℕ × Top) → At (alone_from (body_at header) ps) k e → IsExtra e.1 × (e.0 + length (top_bytes e.1) < 2 ^ 64)
  alone_fit size some k e there =
      let stand = standing options extras history written in
      let own = alone_are (body_at header) ps k e there in
      let r = own.record_there in
      let blocks : Each IsBlock ps = subst (λ (c : Option ℕ). Each IsBlock (pieces_of c options.span history)) (sym some) (pieces_are_blocks size options.span history) in
      let aside : is_inner r ≡ false = blocks own.k (alone r) own.at in
      let back = pieces_back options extras history stand own.k (alone r) own.at 0 r refl in
      let right = pieces_sound options extras history stand own.k (alone r) own.at in
      let room = section_within options extras history stand in
      let cut = cut_flat piece_tops ps own.k (alone r) own.at in
      let size_is = ap (λ (l : List Top). length (spelled l)) cut.1 in
      let parts = length-spelled_append (flat_map piece_tops (take own.k ps)) (rec_top r ∷ flat_map piece_tops cut.0) in
      let more = length-append (top_bytes (rec_top r)) (spelled (flat_map piece_tops cut.0)) in
      let same = ap (λ (t : Top). length (top_bytes t)) own.top_is in
      (subst IsExtra (sym own.top_is) (aside_right r back (pieces_numbered options extras history stand own.k (alone r) own.at 0 r refl) aside right), omega (arith, own.offset, room, section_split, size_is, parts, more, same))

  all_fit : (size : ℕ) → options.chunk ≡ Some size → (k : ℕ) (e : ℕ × Top) → At n.extras k e → IsExtra e.1 × (e.0 + length (top_bytes e.1) < 2 ^ 64)
  all_fit size some k e there = elim (at_either (alone_from (body_at header) ps) (extras_from (body_at header + length (pieces_bytes ps)) extras) k e there) [
    | inl first ↦ alone_fit size some k e first
    | inr (m, is, second) ↦ extras_fit m e second
  ]

  -- there are as many extras of a kind in the file as in the history and behind it
  few_kind : (op : ℕ) → 5 < op → op ≢ 6 → op ≢ 7 → count_of op (extras_in history ++ extras) < 2 ^ 32 → count_of op (flat_map piece_tops ps ++ extras) < 2 ^ 32
  few_kind op high six seven few =
      let here = count_append op (flat_map piece_tops ps) extras in
      let there = count_append op (extras_in history) extras in
      let own = count_extras op ps high six seven (blocks_inner options.chunk options.span history) in
      let same = ap (count_of op) (pieces_extras options.chunk options.span history) in
      omega (arith, here, there, own, same, few)

  few_messages : length (logged (body_of history)) < 2 ^ 64
  few_messages =
      let few = logged_few 0 (body_of history) in
      let holds = pieces_holds ps in
      let less = body_shorter (held ps) in
      let same = ap (λ (l : List Rec). length (history_bytes l)) (pieces_body options.chunk options.span history) in
      let room = section_within options extras history (standing options extras history written) in
      omega (arith, few, holds, less, same, room, section_split)

  summary_room : (size : ℕ) → options.chunk ≡ Some size → behind_groups < 2 ^ 64
  summary_room size some =
      let all = length-file file indexed_tops (indexed_file size some) in
      let same : length (spelled ((section_tops options extras history ++ end_top ∷ []) ++ (summary ++ foot ∷ []))) ≡ length (spelled indexed_tops) = ap (λ (l : List Top). length (spelled l)) (append_assoc (section_tops options extras history) (end_top ∷ []) (summary ++ foot ∷ [])) in
      let parts = length-spelled_append (section_tops options extras history ++ end_top ∷ []) (summary ++ foot ∷ []) in
      let more = length-spelled_append summary (foot ∷ []) in
      let groups = length-spelled_append (groups_tops (groups_of n)) (offset_tops at (groups_of n)) in
      let bytes = ap length (groups_spelled (groups_of n)) in
      let small = written.size_fits in
      omega (arith, all, same, parts, more, groups, bytes, small)

  pub noted_fits : (size : ℕ) → options.chunk ≡ Some size → NotedFits n at
  noted_fits size some = record {
    back = own_back;
    numbered = own_numbered;
    messages = few_messages;
    blocks = blocks_fit;
    extras = all_fit size some;
    room = summary_room size some;
  }

  indexed_flat : flat indexed_tops ≡ map rec_top (body_of history) ++ map rec_top (copies n)
  indexed_flat = flat_whole (section_tops options extras history) summary foot refl ∙ ap (λ (l : List Top). l ++ flat summary) (section_flat options extras history (standing options extras history written)) ∙ ap (λ (l : List Top). map rec_top (body_of history) ++ l) (summary_flat at n)

  indexed_14 : (size : ℕ) → options.chunk ≡ Some size → Keeps V14 indexed_tops
  indexed_14 size some p t there f is =
      let fits = noted_fits size some in
      let tail = summary_tail n at fits in
      let is_foot = foot_is header (body_tops options extras history) n at (header_is options extras history (standing options extras history written)) (body_right options extras history (standing options extras history written)) fits refl in
      let (j, is_j, at_j) = summary_only header (body_tops options extras history) summary foot at behind_groups (summary_crc n at) (header_is options extras history (standing options extras history written)) (body_right options extras history (standing options extras history written)) tail is_foot 11 (λ e. omega (arith, e)) (λ e. omega (arith, e)) (λ e. omega (arith, e)) refl p t there is.kind in
      let k = of_kind_there (full_groups at n) 11 (statistics_content n ∷ [])
      (each_full (λ g. g.op ≡ 11 → g ≡ record { op = 11; contents = statistics_content n ∷ [] }) at n (λ e. absurd (omega (arith, e))) (λ e. absurd (omega (arith, e))) (λ e. refl) (λ e. absurd (omega (arith, e))) (λ e. absurd (omega (arith, e))) (λ e. absurd (omega (arith, e))) (λ e. absurd (omega (arith, e))))
      j t (subst (λ (l : List Top). At l j t) (sym (full_tops at n)) at_j) is.kind in
      let own : t ≡ top_of 11 (statistics_content n) = k.is ∙ ap (top_of 11) (alone_is k.i k.content k.content_at) in
      let shown = statistics_shows n at f fits (subst (λ (x : Top). IsStatistics x f) own is) in
      let never_ends = never header (body_tops options extras history) n at (header_is options extras history (standing options extras history written)) (body_right options extras history (standing options extras history written)) fits refl in
      subst (StatisticsAreRight indexed_tops) shown
      (statistics_right indexed_tops header ps extras (body_of history) (map rec_top (copies n)) (body_at header) (body_at header + length (pieces_bytes ps))
      (is_section (section_tops options extras history) summary foot never_ends) refl
      own_extras (pieces_back options extras history (standing options extras history written)) (body_inner history) own_back own_numbered (section_flat options extras history (standing options extras history written)) indexed_flat (copies_has n) written.few_blocks (few_kind 9 (omega arith) (λ e. omega (arith, e)) (λ e. omega (arith, e)) written.few_attachments) (few_kind 12 (omega arith) (λ e. omega (arith, e)) (λ e. omega (arith, e)) written.few_metadata))
    where
      alone_is : (i : ℕ) (content : List ℕ) → At (statistics_content n ∷ []) i content → content ≡ statistics_content n
      alone_is zero content there = sym (same_Some (statistics_content n) content there)
      alone_is (suc i) content there = absurd (at_none i content there)

  pub valid_indexed : (size : ℕ) → options.chunk ≡ Some size → Valid file indexed_tops
  valid_indexed size some =
      let fits = noted_fits size some in
      let tail = summary_tail n at fits in
      let body = body_tops options extras history in
      let is_header = header_is options extras history (standing options extras history written) in
      let right = body_right options extras history (standing options extras history written) in
      let back = pieces_back options extras history (standing options extras history written) in
      let numbered = pieces_numbered options extras history (standing options extras history written) in
      let sound = pieces_sound options extras history (standing options extras history written) in
      valid_of header ps extras summary foot at behind_groups (summary_crc n at) is_header right tail (foot_is header body n at is_header right fits refl)
      own_extras back numbered sound
      file (indexed_file size some) written.size_fits
      (subst (EachBehind Agrees) (sym indexed_flat) (copies_agree (map rec_top (body_of history)) own_agree (map rec_top (copies n)) (copies_has n)))
      (keeps_11 header body n at is_header right fits refl)
      (keeps_12 header ps extras (body_of history) at is_header right fits refl own_extras back numbered sound)
      (keeps_13 header ps extras (body_of history) at is_header right fits refl own_extras back numbered sound)
      (indexed_14 size some)
      (keeps_15 header body n at is_header right fits refl)
      (keeps_16 header body n at is_header right fits refl file (indexed_file size some))

  -- ---- and then it is fully indexed

  pub fully_indexed : (size : ℕ) → options.chunk ≡ Some size → FullyIndexed file indexed_tops
  fully_indexed size some =
      let fits = noted_fits size some in
      let is_header = header_is options extras history (standing options extras history written) in
      let right = body_right options extras history (standing options extras history written) in
      let back = pieces_back options extras history (standing options extras history written) in
      let numbered = pieces_numbered options extras history (standing options extras history written) in
      let sound = pieces_sound options extras history (standing options extras history written) in
      let blocks : Each IsBlock ps = subst (λ (k : Option ℕ). Each IsBlock (pieces_of k options.span history)) (sym some) (pieces_are_blocks size options.span history) in
      record {
        valid = valid_indexed size some;
        statistics = statistics_there header ps extras (body_of history) at is_header right fits refl own_extras back numbered sound;
        no_message = no_message header ps extras (body_of history) at is_header right fits refl own_extras back numbered sound (λ k p own. block_of p (blocks k p own));
        chunks = chunks_indexed header ps extras (body_of history) at is_header right fits refl own_extras back numbered sound;
        empty_maps = times_zero header ps extras (body_of history) at is_header right fits refl own_extras back numbered sound;
        channels = channels_there header ps extras (body_of history) at is_header right fits refl own_extras back numbered sound (map rec_top (copies n)) indexed_flat (copies_has n) own_agree;
      }

pub files_are_valid : FilesAreValid
files_are_valid options extras history written = by options.chunk refl
  where
    by : (chunk : Option ℕ) → options.chunk ≡ chunk → IsValid (file_of options extras history)
    by None is = (_, valid_plain options extras history written is)
    by (Some size) is = (_, valid_indexed options extras history written size is)

pub files_are_indexed : FilesAreIndexed
files_are_indexed options extras history size some written = (_, fully_indexed options extras history written size some)
