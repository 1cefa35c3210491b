-- The first pieces of a file, behind a Header, are a good list with right Message Indexes, wherever the file ends.
use Rattle.std.proofs.Common.{◌≡◌, ℕ, zero, suc, ◌+◌, ◌^◌, ◌<◌, ◌≤◌, false, List, [], ◌∷◌, ◌++◌, length, take, map, refl, sym, ap, subst, inr, ◌∙◌, append-nil, arith}
use Rattle.std.specs.Prelude.{◌≢◌, IsUtf8}
use Rattle.std.specs.List.{flat_map}
use Rattle.std.proofs.lemmas.List.{length-append, take-append-le}
use Rattle.std.proofs.lemmas.Option.{same_Some}
use Rattle.mcap_wire.proofs.Contents.{row_shown}
use Rattle.rec_data.specs.Records.{header_kinds}
use Rattle.rec_data.proofs.Contents.{length-header_text}
use Rattle.rec_data.specs.declared.owned.Rec.{Rec}
use Rattle.mcap_model.specs.Places.{At, Each, EachBehind}
use Rattle.mcap_model.specs.Tops.{Top, top_bytes, spelled, offset_behind, flat}
use Rattle.mcap_model.specs.Fields.{IsHeader}
use Rattle.mcap_model.specs.Rules.{Agrees}
use Rattle.mcap_model.specs.Kept.{reading_limits, Fits, Good}
use Rattle.mcap_model.specs.History.{rec_top, body_of}
use Rattle.mcap_model.specs.Blocks.{Piece, block, alone, logged_channels}
use Rattle.mcap_model.specs.File.{library}
use Rattle.mcap_model.specs.Whole.{is_index, BelongsTo, IsIndexed, V9}
use Rattle.mcap_model.specs.Valid.{Keeps}
use Rattle.mcap_model.specs.Recovery.{piece_records}
use Rattle.mcap_model.specs.Laws.{IsNumberedRec, PieceIsShort, chunk_top, index_top}
use Rattle.mcap_model.specs.ReadBack.{IsReadBack, IsExtra}
use Rattle.mcap_model.proofs.Places.{at_none, at_kept, at_within}
use Rattle.mcap_model.proofs.Lists.{BeginsOther, cut_at, at_second, each_cons, each_taken}
use Rattle.mcap_model.proofs.Readings.{length-top}
use Rattle.mcap_model.proofs.Histories.{rec_not, within_there}
use Rattle.std.proofs.lemmas.Bool.{ne_eqb}
use Rattle.std.proofs.lemmas.Grind.{flat_map-append}
use Rattle.rec_data.specs.Owned.{rec_opcode}
use Rattle.mcap_model.proofs.Edges.{header_top, end_top, header_fits, ascii}
use Rattle.mcap_model.proofs.Shape.{whole, ends_never}
use Rattle.mcap_model.proofs.Section.{piece_tops, held, PieceIsSound, IsRight, piece_right, piece_flat, pieces_flat, each_flat}
use Rattle.mcap_model.proofs.Files.{length-spelled_append}
use Rattle.mcap_model.proofs.Standing.{BlockStands, PiecesBack}
use Rattle.mcap_laws.proofs.BlockIndexes.{index_belongs, chunk_of, block_indexed}
use Rattle.mcap_laws.proofs.Scanned.{v7_of_flat, piece_short}

-- ---- Message Indexes

rec_other : (r : Rec) → IsReadBack r → is_index (rec_top r) ≡ false
rec_other r back = ne_eqb (rec_opcode r) 7 (λ e. rec_not r 7 back (omega arith) (omega arith) (λ a. omega (arith, a)) (λ a. omega (arith, a)) e)

begins_by : (x : Top) (xs : List Top) → is_index x ≡ false → BeginsOther is_index (x ∷ xs)
begins_by x xs other y at = ap is_index (sym (same_Some x y at)) ∙ other

-- pieces begin with no Message Index
pieces_begin : (ps : List Piece) → PiecesBack ps → BeginsOther is_index (flat_map piece_tops ps)
pieces_begin [] back = λ x at. absurd (at_none 0 x at)
pieces_begin (block records ∷ ps) back = begins_by (chunk_top records) (map (index_top records) (logged_channels records) ++ flat_map piece_tops ps) refl
pieces_begin (alone r ∷ ps) back = begins_by (rec_top r) (flat_map piece_tops ps) (rec_other r (back 0 (alone r) refl 0 r refl))

module _ (header : Top) (ps : List Piece) (kind : header.op ≡ 1) (back : (n : ℕ) (p : Piece) → At ps n p → Each IsReadBack (piece_records p)) (numbered : (n : ℕ) (p : Piece) → At ps n p → Each IsNumberedRec (piece_records p)) (sound : (n : ℕ) (p : Piece) → At ps n p → PieceIsSound p) where
  none : Each IsExtra []
  none n t at = absurd (at_none n t at)

  stands : (k : ℕ) (records : List Rec) → At ps k (block records) → BlockStands (header ∷ flat_map piece_tops ps) (header ∷ flat_map piece_tops (take k ps)) records
  stands k records at =
      let cut = cut_at ps k (block records) at in
      let parts : flat_map piece_tops ps ≡ flat_map piece_tops (take k ps) ++ (piece_tops (block records) ++ flat_map piece_tops cut.0) = ap (flat_map piece_tops) cut.1 ∙ flat_map-append piece_tops (take k ps) (block records ∷ cut.0) in
      let behind : PiecesBack cut.0 = λ n p there. back (length (take k ps) + suc n) p (subst (λ (l : List Piece). At l (length (take k ps) + suc n) p) (sym cut.1) (at_second (take k ps) (block records ∷ cut.0) (suc n) p there)) in
      record { after = flat_map piece_tops cut.0; joined = ap (λ (l : List Top). header ∷ l) parts; other = pieces_begin cut.0 behind }

  belongs : (j : ℕ) (t : Top) → At (flat_map piece_tops ps) j t → t.op ≡ 7 → BelongsTo (take (suc j) (header ∷ flat_map piece_tops ps)) t
  belongs j t at seven =
      let section = header ∷ (flat_map piece_tops ps ++ []) in
      let within = at_within (flat_map piece_tops ps) j t at in
      let front : take (suc j) (whole section [] end_top) ≡ take (suc j) (header ∷ flat_map piece_tops ps) =
      take-append-le (suc j) section (end_top ∷ (end_top ∷ [])) (omega (arith, within, length-append (flat_map piece_tops ps) []))
      ∙ ap (λ (l : List Top). take (suc j) (header ∷ l)) (append-nil (flat_map piece_tops ps)) in
      subst (λ (l : List Top). BelongsTo l t) front (index_belongs header ps [] [] end_top none back numbered sound j t (at_kept (flat_map piece_tops ps) [] j t at) seven)

  indexed_there : (j : ℕ) (t : Top) → At (flat_map piece_tops ps) j t → t.op ≡ 6 → IsIndexed (header ∷ flat_map piece_tops ps) (suc j) t
  indexed_there j t at six =
      let c = chunk_of header ps [] [] end_top none back numbered sound j t (at_kept (flat_map piece_tops ps) [] j t at) six in
      let tops = header ∷ flat_map piece_tops ps in
      let before = header ∷ flat_map piece_tops (take c.k ps) in
      let indexed = block_indexed tops before c.records (stands c.k c.records c.at) (back c.k (block c.records) c.at) (numbered c.k (block c.records) c.at) (sound c.k (block c.records) c.at) in
      subst (λ (k : ℕ). IsIndexed tops k t) (sym c.there) (subst (λ (x : Top). IsIndexed tops (length before) x) (sym c.is) indexed)

  pub pieces_indexed : Keeps V9 (header ∷ flat_map piece_tops ps)
  pieces_indexed zero t at =
      let same = ap (λ (x : Top). x.op) (same_Some header t at) in
      ((λ e. absurd (omega (arith, e, same, kind))), λ e followed. absurd (omega (arith, e, same, kind)))
  pieces_indexed (suc j) t at = (belongs j t at, λ six followed. indexed_there j t at six)

-- ---- good lists

-- the Header of a profile
pub header_shown : (profile : List ℕ) → IsUtf8 profile → length profile < 2 ^ 32 → IsHeader (header_top profile)
header_shown profile utf8 short = record { kind = refl; profile = profile; library = library; layout = row_shown header_kinds (profile, (library, tt)) ((short, utf8), ((omega arith, ascii), tt)) }

pub header_starts : (profile : List ℕ) → IsUtf8 profile → length profile ≤ 268435439 → Fits reading_limits [] (header_top profile)
header_starts profile utf8 short =
    let size = length-header_text (record { profile = profile; library = library }) in
    let nine : length library ≡ 9 = refl in
    header_fits profile (header_shown profile utf8 (omega (arith, short))) (omega (arith, size, nine, short))

within_all : (before : List Top) (t : Top) (more : List Top) → offset_behind before + 9 + length t.content ≤ offset_behind (before ++ t ∷ more)
within_all before t more =
    omega (arith, length-spelled_append before (t ∷ more), length-append (top_bytes t) (spelled more), length-top t)

module _ (profile : List ℕ) (ps : List Piece) (back : (n : ℕ) (p : Piece) → At ps n p → Each IsReadBack (piece_records p)) (numbered : (n : ℕ) (p : Piece) → At ps n p → Each IsNumberedRec (piece_records p)) (sound : (n : ℕ) (p : Piece) → At ps n p → PieceIsSound p) where
  pieces_right : Each IsRight (flat_map piece_tops ps)
  pieces_right = each_flat IsRight piece_tops ps (λ n p at. piece_right p (back n p at) (numbered n p at) (sound n p at))

  flat_there : flat (header_top profile ∷ flat_map piece_tops ps) ≡ map rec_top (body_of (held ps))
  flat_there = pieces_flat ps (λ n p at. piece_flat p (back n p at) (numbered n p at) (sound n p at))

  never : Each (λ t. t.op ≢ 15) (header_top profile ∷ flat_map piece_tops ps)
  never = each_cons (λ (t : Top). t.op ≢ 15) (header_top profile) (flat_map piece_tops ps) (λ e. omega (arith, e)) (λ n t at. let right = pieces_right n t at in right.unended)

  -- where each piece may be read, the records agree, and the pieces end within the limit of a file
  pub pieces_good : Fits reading_limits [] (header_top profile) → Each PieceIsShort ps → EachBehind Agrees (map rec_top (body_of (held ps))) → offset_behind (header_top profile ∷ flat_map piece_tops ps) ≤ 1099511627776 → Good reading_limits (header_top profile ∷ flat_map piece_tops ps)
  pieces_good first short agree near zero t at = subst (Fits reading_limits []) (same_Some (header_top profile) t at) first
  pieces_good first short agree near (suc n) t at =
      let tops = header_top profile ∷ flat_map piece_tops ps in
      let s = pieces_right n t at in
      let split = cut_at tops (suc n) t at in
      let close : offset_behind (take (suc n) tops) + 9 + length t.content ≤ 1099511627776 =
      let inner = within_all (take (suc n) tops) t split.0 in
      let joined = ap offset_behind split.1 in
      omega (arith, inner, joined, near) in
      let small = each_flat (λ (x : Top). length x.content ≤ 268435456) piece_tops ps (λ k p there. piece_short p (short k p there)) n t at in
      record {
        v3 = tt;
        v5 = (s.valid, inr s.kind);
        v6 = s.v6;
        v7 = v7_of_flat tops (subst (EachBehind Agrees) (sym flat_there) agree) (suc n) t at;
        v8 = s.v8;
        v10 = s.v10;
        plain = s.plain;
        within = within_there (offset_behind (take (suc n) tops)) (length t.content) small close;
        unended = λ ended. ends_never (take (suc n) tops) (each_taken (λ (x : Top). x.op ≢ 15) tops (suc n) never) ended;
      }
