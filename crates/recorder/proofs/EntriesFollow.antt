-- The entries of what was recorded follow one another.
use Rattle.std.proofs.Common.{◌≡◌, ℕ, zero, suc, ◌+◌, ◌<◌, ◌≤◌, Bool, cond, List, [], ◌∷◌, ◌++◌, length, map, Option, Some, refl, sym, ap, subst, ◌∙◌, arith}
use Rattle.std.specs.List.{flat_map, AllZip}
use Rattle.std.proofs.lemmas.Option.{same_Some}
use Rattle.std.proofs.lemmas.List.{length-append}
use Rattle.std.proofs.lemmas.Grind.{flat_map-append}
use Rattle.rec_data.specs.declared.owned.Rec.{Rec}
use Rattle.rec_data.proofs.Contents.{length-header_text}
use Rattle.mcap_model.specs.declared.options.FileOptions.{FileOptions}
use Rattle.mcap_model.specs.Places.{At, Each, EachBehind}
use Rattle.mcap_model.specs.Tops.{Top, top_bytes, spelled, offset_behind}
use Rattle.mcap_model.specs.Rules.{Agrees}
use Rattle.mcap_wire.specs.Limits.{chunk_size_limit}
use Rattle.mcap_model.specs.History.{rec_top, body_of, Numbered}
use Rattle.mcap_model.specs.Histories.{IdsAgree}
use Rattle.record_cache.specs.KeptRecords.{IsKept}
use Rattle.mcap_model.specs.Blocks.{Piece, block, alone, pieces_of, piece_bytes, pieces_bytes, block_bytes, blocks_in}
use Rattle.mcap_model.specs.File.{library, front, blocks_from}
use Rattle.mcap_model.specs.Recovery.{piece_records}
use Rattle.mcap_model.specs.Laws.{IsNumberedRec, PieceIsShort}
use Rattle.mcap_model.specs.ReadBack.{IsReadBack}
use Rattle.mcap_model.proofs.Places.{at_none, at_kept, each_front}
use Rattle.mcap_model.proofs.Lists.{each_cons, pairs_at, pairs_from}
use Rattle.mcap_model.proofs.Readings.{length-top}
use Rattle.mcap_model.proofs.Histories.{recs_agree, numbered_ids_agree}
use Rattle.mcap_model.proofs.WrittenChunks.{empty_utf8}
use Rattle.mcap_model.proofs.Edges.{header_top}
use Rattle.mcap_model.proofs.Flat.{map-append}
use Rattle.mcap_model.proofs.Asides.{body_append}
use Rattle.mcap_model.proofs.Section.{piece_tops, held, each_held, pieces_body, InnerBlock, blocks_inner, pieces_spelled, PieceIsSound, IsBlock, pieces_are_blocks, each_parts}
use Rattle.mcap_model.proofs.Standing.{Rises, blocks_are, blocks_rise}
use Rattle.mcap_laws.proofs.Ranges.{length-chunk, entries_short}
use Rattle.mcap_laws.proofs.FirstPieces.{pieces_indexed, pieces_good, header_shown, header_starts}
use Rattle.live_entry.specs.declared.entry.Entry.{Entry}
use Rattle.live_entry.specs.Following.{Stored, Stretch, all_tops, IsStretch, AreGood, Follow, IsStored}
use Rattle.live_entry.specs.Entries.{HasNumbers}
use Rattle.chunk_writer.proofs.Planned.{length-front}
use Rattle.recorder.specs.Entries.{IsEntryThere, AreFirst, RecordedEntriesFollow}
use Rattle.recorder.proofs.ReadBack.{recs_back, pieces_short}
use Rattle.recorder.proofs.BlockStretches.{stretch_of, MakeBlock, is_stretch, has_numbers}

-- ---- blocks, their entries, and the bytes that these tell

abbrev pub stretches_of : List (ℕ × List Rec) → List Stretch
stretches_of blocks = map (λ (b : ℕ × List Rec). stretch_of b.1) blocks

-- these bytes are those of the block, and stand at its offset
pub record IsBlockStored (b : ℕ × List Rec) (p : Stored) : Type 0 where
  pub at : b.0 ≡ p.at
  pub bytes : p.bytes ≡ block_bytes b.1

block_stored : {X : Type 0} (tells : X → Option (List ℕ)) (b : ℕ × List Rec) (e : Entry X) (p : Stored) → IsEntryThere tells b e → IsStored tells e p → IsBlockStored b p
block_stored tells b e p there stored = record { at = (let numbers = there.numbers in sym numbers.offset_is ∙ stored.offset); bytes = there.only p.bytes stored.told }

pub all_stored : {X : Type 0} (tells : X → Option (List ℕ)) (blocks : List (ℕ × List Rec)) (entries : List (Entry X)) (stored : List Stored) → AllZip (IsEntryThere tells) blocks entries → AllZip (IsStored tells) entries stored → AllZip IsBlockStored blocks stored
all_stored tells [] [] [] there told = tt
all_stored tells [] [] (p ∷ ps) there told = absurd told
all_stored tells [] (e ∷ es) stored there told = absurd there
all_stored tells (b ∷ bs) [] stored there told = absurd there
all_stored tells (b ∷ bs) (e ∷ es) [] there told = absurd told
all_stored tells (b ∷ bs) (e ∷ es) (p ∷ ps) there told = (block_stored tells b e p there.0 told.0, all_stored tells bs es ps there.1 told.1)

all_stretches : (blocks : List (ℕ × List Rec)) (stored : List Stored) → Each (λ (b : ℕ × List Rec). MakeBlock b.1) blocks → AllZip IsBlockStored blocks stored → AllZip (λ p s. IsStretch p.bytes s) stored (stretches_of blocks)
all_stretches [] [] can zip = tt
all_stretches [] (p ∷ ps) can zip = absurd zip
all_stretches (b ∷ bs) [] can zip = absurd zip
all_stretches (b ∷ bs) (p ∷ ps) can zip =
    let first = zip.0 in
    (subst (λ (l : List ℕ). IsStretch l (stretch_of b.1)) (sym first.bytes) (is_stretch b.1 (can 0 b refl)), all_stretches bs ps (λ n x at. can (suc n) x at) zip.1)

all_numbers : {X : Type 0} (tells : X → Option (List ℕ)) (blocks : List (ℕ × List Rec)) (entries : List (Entry X)) → Each (λ (b : ℕ × List Rec). MakeBlock b.1) blocks → AllZip (IsEntryThere tells) blocks entries → AllZip HasNumbers entries (stretches_of blocks)
all_numbers tells [] [] can zip = tt
all_numbers tells [] (e ∷ es) can zip = absurd zip
all_numbers tells (b ∷ bs) [] can zip = absurd zip
all_numbers tells (b ∷ bs) (e ∷ es) can zip =
    let first = zip.0 in
    (has_numbers b.1 (can 0 b refl) e b.0 first.numbers, all_numbers tells bs es (λ n x at. can (suc n) x at) zip.1)

-- what stands at a place belongs to the block there
stored_there : (blocks : List (ℕ × List Rec)) (stored : List Stored) → AllZip IsBlockStored blocks stored → (n : ℕ) (p : Stored) → At stored n p → (b : ℕ × List Rec) × At blocks n b × (b.0 ≡ p.at)
stored_there [] [] zip n p at = absurd (at_none n p at)
stored_there [] (q ∷ qs) zip n p at = absurd zip
stored_there (b ∷ bs) [] zip n p at = absurd zip
stored_there (b ∷ bs) (q ∷ qs) zip zero p at = let first = zip.0 in (b, refl, subst (λ (s : Stored). b.0 ≡ s.at) (same_Some q p at) first.at)
stored_there (b ∷ bs) (q ∷ qs) zip (suc n) p at = stored_there bs qs zip.1 n p at

risen : (blocks : List (ℕ × List Rec)) (stored : List Stored) → AllZip IsBlockStored blocks stored → Rises blocks → (i j : ℕ) (p q : Stored) → i < j → At stored i p → At stored j q → p.at < q.at
risen blocks stored zip rises i j p q less at_p at_q =
    let (b, at_b, own) = stored_there blocks stored zip i p at_p in
    let (c, at_c, other) = stored_there blocks stored zip j q at_q in
    let up = pairs_at (λ (x y : ℕ × List Rec). x.0 < y.0) blocks rises i j b c less at_b at_c in
    omega (arith, up, own, other)

-- ---- the blocks among pieces, where each other piece is an extra

abbrev only_blocks : List Piece → List Piece
only_blocks ps = map block (blocks_in ps)

blocks_kept : (P : Piece → Type 0) (ps : List Piece) → Each P ps → Each P (only_blocks ps)
blocks_kept P [] each = λ n p at. absurd (at_none n p at)
blocks_kept P (block records ∷ ps) each = each_cons P (block records) (only_blocks ps) (each 0 (block records) refl) (blocks_kept P ps (λ n p at. each (suc n) p at))
blocks_kept P (alone r ∷ ps) each = blocks_kept P ps (λ n p at. each (suc n) p at)

blocks_body : (ps : List Piece) → Each IsBlock ps → body_of (held (only_blocks ps)) ≡ body_of (held ps)
blocks_body [] each = refl
blocks_body (block records ∷ ps) each =
    body_append records (held (only_blocks ps)) ∙ ap (λ (l : List Rec). body_of records ++ l) (blocks_body ps (λ n p at. each (suc n) p at))
    ∙ sym (body_append records (held ps))
blocks_body (alone r ∷ ps) each =
    blocks_body ps (λ n p at. each (suc n) p at) ∙ sym (ap (λ (b : Bool). cond b (r ∷ body_of (held ps)) (body_of (held ps))) (each 0 (alone r) refl))

blocks_shorter : (ps : List Piece) → length (pieces_bytes (only_blocks ps)) ≤ length (pieces_bytes ps)
blocks_shorter [] = omega arith
blocks_shorter (block records ∷ ps) =
    omega (arith, blocks_shorter ps, length-append (piece_bytes (block records)) (pieces_bytes (only_blocks ps)), length-append (piece_bytes (block records)) (pieces_bytes ps))
blocks_shorter (alone r ∷ ps) = omega (arith, blocks_shorter ps, length-append (piece_bytes (alone r)) (pieces_bytes ps))

block_tops : (start : ℕ) (ps : List Piece) → all_tops (stretches_of (blocks_from start ps)) ≡ flat_map piece_tops (only_blocks ps)
block_tops start [] = refl
block_tops start (block records ∷ ps) = ap (λ (l : List Top). piece_tops (block records) ++ l) (block_tops (start + length (piece_bytes (block records))) ps)
block_tops start (alone r ∷ ps) = block_tops (start + length (piece_bytes (alone r))) ps

-- ---- the first pieces of a history with a chunk size

-- a Header without a profile is no longer than the front of a file
header_small : (tops : List Top) → offset_behind (header_top [] ∷ tops) ≡ 34 + length (spelled tops)
header_small tops =
    let size = length-header_text (record { profile = []; library = library }) in
    let nine : length library ≡ 9 = refl in
    omega (arith, length-append (top_bytes (header_top [])) (spelled tops), length-top (header_top []), size, nine)

sized : (options : FileOptions) (size : ℕ) → options.chunk ≡ Some size → (1 ≤ size) × (size ≤ 67108864) → (n : ℕ) → options.chunk ≡ Some n → (1 ≤ n) × (n ≤ 67108864)
sized options size some small n is = subst (λ (k : ℕ). (1 ≤ k) × (k ≤ 67108864)) (same_Some size n (sym some ∙ is)) small

piece_sound : (p : Piece) → PieceIsShort p → InnerBlock p → Each IsKept (piece_records p) → PieceIsSound p
piece_sound (block records) short inner kept = (omega (arith, length-chunk records, short), entries_short records short, inner)
piece_sound (alone r) short inner kept = λ outer. let extra = (kept 0 r refl).extra outer in extra.v10

module _ (options : FileOptions) (history : List Rec) (ps : List Piece) (kept : Each IsKept history) (numbered : Each IsNumberedRec history) (first : AreFirst options history ps) where
  holds : held (pieces_of options.chunk options.span history) ≡ held ps ++ held first.more
  holds = ap held first.first ∙ flat_map-append piece_records ps first.more

  body_holds : body_of history ≡ body_of (held ps) ++ body_of (held first.more)
  body_holds = sym (pieces_body options.chunk options.span history) ∙ ap body_of holds ∙ body_append (held ps) (held first.more)

  parts_are : (P : Rec → Type 0) → Each P history → (n : ℕ) (p : Piece) → At ps n p → Each P (piece_records p)
  parts_are P each = each_parts P piece_records ps (λ n r at. subst (Each P) holds (each_held P options.chunk options.span history each) n r (at_kept (held ps) (held first.more) n r at))

  pieces_are : (P : Piece → Type 0) → Each P (pieces_of options.chunk options.span history) → Each P ps
  pieces_are P each n p at = subst (Each P) first.first each n p (at_kept ps first.more n p at)

  pub first_agree : EachBehind Agrees (map rec_top (body_of history)) → EachBehind Agrees (map rec_top (body_of (held ps)))
  first_agree agree = each_front Agrees (map rec_top (body_of (held ps))) (map rec_top (body_of (held first.more)))
      (subst (EachBehind Agrees) (ap (map rec_top) body_holds ∙ map-append rec_top (body_of (held ps)) (body_of (held first.more))) agree)

  near : offset_behind (header_top [] ∷ flat_map piece_tops (only_blocks ps)) ≤ 1099511627776
  near =
      let within = first.within in
      let own = length-front options.profile in
      let bs = only_blocks ps in
      omega (arith, within, own, length-append (front options.profile) (pieces_bytes ps), blocks_shorter ps, ap length (pieces_spelled bs), header_small (flat_map piece_tops bs))

  pub first_kept : (n : ℕ) (p : Piece) → At ps n p → Each IsKept (piece_records p)
  first_kept = parts_are IsKept kept

  pub first_back : (n : ℕ) (p : Piece) → At ps n p → Each IsReadBack (piece_records p)
  first_back n p at = recs_back (piece_records p) (first_kept n p at)

  pub first_numbered : (n : ℕ) (p : Piece) → At ps n p → Each IsNumberedRec (piece_records p)
  first_numbered = parts_are IsNumberedRec numbered

  pub first_short : Each PieceIsShort (pieces_of options.chunk options.span history) → Each PieceIsShort ps
  first_short short = pieces_are PieceIsShort short

  pub first_sound : Each PieceIsShort (pieces_of options.chunk options.span history) → (n : ℕ) (p : Piece) → At ps n p → PieceIsSound p
  first_sound short n p at = piece_sound p (first_short short n p at) (pieces_are InnerBlock (blocks_inner options.chunk options.span history) n p at) (first_kept n p at)

  pub first_blocks : (size : ℕ) → options.chunk ≡ Some size → Each IsBlock ps
  first_blocks size some = pieces_are IsBlock (subst (λ (c : Option ℕ). Each IsBlock (pieces_of c options.span history)) (sym some) (pieces_are_blocks size options.span history))

  module _ (short : Each PieceIsShort (pieces_of options.chunk options.span history)) (agree : EachBehind Agrees (map rec_top (body_of history))) (blocks : Each IsBlock ps) where
    are_good : (start : ℕ) → AreGood (all_tops (stretches_of (blocks_from start ps)))
    are_good start =
        let bs = only_blocks ps in
        let back = blocks_kept (λ p. Each IsReadBack (piece_records p)) ps first_back in
        let some = blocks_kept (λ p. Each IsNumberedRec (piece_records p)) ps first_numbered in
        let sound = blocks_kept PieceIsSound ps (first_sound short) in
        let agrees = subst (λ (l : List Rec). EachBehind Agrees (map rec_top l)) (sym (blocks_body ps blocks)) (first_agree agree) in
        subst AreGood (sym (block_tops start ps)) (record {
          header = header_top [];
          is_header = header_shown [] empty_utf8 (omega arith);
          good = pieces_good [] bs back some sound (header_starts [] empty_utf8 (omega arith)) (blocks_kept PieceIsShort ps (first_short short)) agrees near;
          indexed = pieces_indexed (header_top []) bs refl back some sound;
        })

    can_make : (start : ℕ) → Each (λ (b : ℕ × List Rec). MakeBlock b.1) (blocks_from start ps)
    can_make start n b at =
        let is = blocks_are start ps n b at in
        record {
          back = first_back is.k (block b.1) is.at;
          numbered = first_numbered is.k (block b.1) is.at;
          sound = first_sound short is.k (block b.1) is.at;
        }

module _ {X : Type 0} (tells : X → Option (List ℕ)) (options : FileOptions) (size : ℕ) (history : List Rec) (pieces : List Piece) (entries : List (Entry X)) (some : options.chunk ≡ Some size) (small : (1 ≤ size) × (size ≤ chunk_size_limit)) (numbered : Numbered history) (kept : Each IsKept history) (first : AreFirst options history pieces)
    (zip : AllZip (IsEntryThere tells) (blocks_from (length (front options.profile)) pieces) entries) where
  abbrev blocks : List (ℕ × List Rec)
  blocks = blocks_from (length (front options.profile)) pieces

  back : Each IsReadBack history
  back = recs_back history kept

  ids : IdsAgree history × Each IsNumberedRec history
  ids = numbered_ids_agree history back numbered

  short : Each PieceIsShort (pieces_of options.chunk options.span history)
  short = pieces_short options.chunk options.span history (sized options size some small) kept

  all_blocks : Each IsBlock pieces
  all_blocks = first_blocks options history pieces kept ids.1 first size some

  agree : EachBehind Agrees (map rec_top (body_of history))
  agree = recs_agree history back ids.0

  can : Each (λ (b : ℕ × List Rec). MakeBlock b.1) (blocks_from (length (front options.profile)) pieces)
  can = can_make options history pieces kept ids.1 first short agree all_blocks (length (front options.profile))

  pub follow_there : (stored : List Stored) → AllZip (IsStored tells) entries stored → Follow stored (stretches_of (blocks_from (length (front options.profile)) pieces))
  follow_there stored told =
      let there = all_stored tells blocks entries stored zip told in
      record {
        rise = pairs_from (λ (p q : Stored). p.at < q.at) stored (λ i j p q less at_p at_q. risen blocks stored there (blocks_rise (length (front options.profile)) pieces) i j p q less at_p at_q);
        each = all_stretches blocks stored can there;
        good = are_good options history pieces kept ids.1 first short agree all_blocks (length (front options.profile));
      }

  pub numbers_there : AllZip HasNumbers entries (stretches_of (blocks_from (length (front options.profile)) pieces))
  numbers_there = all_numbers tells blocks entries can zip

pub entries_follow : {X : Type 0} (tells : X → Option (List ℕ)) → RecordedEntriesFollow tells
entries_follow tells options size history pieces entries some small numbered kept first zip stored told =
    (stretches_of (blocks_from (length (front options.profile)) pieces), follow_there tells options size history pieces entries some small numbered kept first zip stored told, numbers_there tells options size history pieces entries some small numbered kept first zip)
