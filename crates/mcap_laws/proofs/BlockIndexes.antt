-- The Message Indexes of a written file, and the Chunk Index of a block.
use Rattle.std.proofs.Common.{◌≡◌, ℕ, zero, suc, ◌+◌, ◌<◌, List, [], ◌∷◌, ◌++◌, length, take, map, refl, sym, ap, subst, inl, inr, ◌∙◌, append_assoc, ◌≤◌, arith}
use Rattle.std.specs.Prelude.{◌≢◌}
use Rattle.std.specs.List.{flat_map}
use Rattle.std.proofs.lemmas.List.{take-append-le}
use Rattle.rec_data.specs.declared.owned.Rec.{Rec}
use Rattle.mcap_model.specs.Places.{At, Has, Each}
use Rattle.mcap_model.specs.Tops.{Top, spelled, offset_behind, inner_tops}
use Rattle.mcap_model.specs.Fields.{MessageFields, IsMessage, IsMessageIndex}
use Rattle.mcap_model.specs.History.{rec_top}
use Rattle.mcap_model.specs.Blocks.{Piece, block, logged_channels, entries_for, chunk_bytes, indexes_bytes, written_fields}
use Rattle.mcap_model.specs.Whole.{indexes_behind, AreEntries, IndexIsRight, BelongsTo, IsIndexed, IsIndexOf, IsNamed, NamesIndexes}
use Rattle.mcap_model.specs.Laws.{IsNumberedRec, chunk_top, index_top}
use Rattle.mcap_model.specs.ReadBack.{IsReadBack, IsExtra}
use Rattle.mcap_model.proofs.ReadBack.{at_map, message_back}
use Rattle.mcap_model.proofs.WrittenChunks.{written_shows}
use Rattle.mcap_model.proofs.Lists.{pairs_at, has_taken, take_second, each_taken}
use Rattle.mcap_model.proofs.Cutting.{last_of}
use Rattle.mcap_model.proofs.Places.{at_within, at_last, last_apart}
use Rattle.mcap_model.proofs.Shape.{whole}
use Rattle.mcap_model.specs.Recovery.{piece_records}
use Rattle.mcap_model.proofs.Section.{piece_tops, PieceIsSound, written_chunk, indexes_spelled}
use Rattle.mcap_model.proofs.Logged.{channels_ascend, written_entries, message_channel}
use Rattle.mcap_model.proofs.ShownBack.{index_shown, index_shows, offset_is, is_offset}
use Rattle.mcap_model.proofs.Groups.{in_front}
use Rattle.mcap_model.proofs.Standing.{BlockStands, block_stands, behind_block, chunk_there, chunk_offset, index_offset, in_block}
use Rattle.mcap_model.specs.Summary.{written_index}
use Rattle.std.proofs.lemmas.Option.{same_Some}
use Rattle.mcap_model.proofs.Flat.{at_mapped}

-- ---- a block that stands among records

module _ (tops before : List Top) (records : List Rec) (stands : BlockStands tops before records) (back : Each IsReadBack records) (numbered : Each IsNumberedRec records) (sound : PieceIsSound (block records)) where
  own_shown : (k id : ℕ) → At (logged_channels records) k id → IsMessageIndex (index_top records id) id (entries_for records id)
  own_shown k id at = index_shown records id back (k, at) (sound.1 k id at) sound.0

  own_there : (k id : ℕ) → At (logged_channels records) k id → At (indexes_behind tops (length before)) k (index_top records id)
  own_there k id at = subst (λ (l : List Top). At l k (index_top records id)) (sym (behind_block tops before records stands)) (at_mapped (index_top records) (logged_channels records) k id at)

  opened_there : inner_tops (chunk_top records) ≡ map rec_top records
  opened_there = (written_chunk records back numbered sound.2 sound.0).0

  -- the Message Index at a place is that of the channel there
  pub own_index : (k : ℕ) (t : Top) → At (indexes_behind tops (length before)) k t → (id : ℕ) × At (logged_channels records) k id × (t ≡ index_top records id)
  own_index k t at = at_map (index_top records) (logged_channels records) k t (subst (λ (l : List Top). At l k t) (behind_block tops before records stands) at)

  own_channel : (k channel : ℕ) (t : Top) (entries : List (ℕ × ℕ)) → At (indexes_behind tops (length before)) k t → IsMessageIndex t channel entries → At (logged_channels records) k channel × (entries_for records channel ≡ entries)
  own_channel k channel t entries at is =
      let (id, there, same) = own_index k t at in
      let shown : IsMessageIndex (index_top records id) channel entries = subst (λ (x : Top). IsMessageIndex x channel entries) same is in
      let shows = index_shows records id channel entries (own_shown k id there) shown in
      (subst (λ (c : ℕ). At (logged_channels records) k c) shows.0 there, subst (λ (c : ℕ). entries_for records c ≡ entries) shows.0 shows.1)

  pub block_right : (k : ℕ) (t : Top) → At (indexes_behind tops (length before)) k t → IndexIsRight (chunk_top records) (take k (indexes_behind tops (length before))) t
  block_right k t at = record {
    entries = λ channel entries is.
        let own = own_channel k channel t entries at is in
        subst (λ (l : List Top). AreEntries l channel entries) (sym opened_there) (subst (AreEntries (map rec_top records) channel) own.1 (written_entries records channel back));
    only = λ channel u entries others has is_u is_t.
        let j = has.0 in
        let (less, other) = has_taken (indexes_behind tops (length before)) k j u has.1 in
        let one = own_channel j channel u others other is_u in
        let two = own_channel k channel t entries at is_t in
        let up = pairs_at (λ (a b : ℕ). a < b) (logged_channels records) (channels_ascend records) j k channel channel less one.0 two.0 in
        omega (arith, up);
  }

  -- a message of the chunk is on a channel with a Message Index
  pub message_logged : (j channel : ℕ) (u : Top) (m : MessageFields) → At (inner_tops (chunk_top records)) j u → IsMessage u channel m → Has (logged_channels records) channel
  message_logged j channel u m at is =
      let (r, there, same) = at_map rec_top records j u (subst (λ (l : List Top). At l j u) opened_there at) in
      let shown : IsMessage (rec_top r) channel m = subst (λ (t : Top). IsMessage t channel m) same is in
      let own = message_back r channel m (back j r there) shown in
      message_channel records j channel m (subst (λ (x : Rec). At records j x) own there)

  pub block_indexed : IsIndexed tops (length before) (chunk_top records)
  block_indexed = inr (λ j channel u m at is.
      let has = message_logged j channel u m at is in
      (has.0, index_top records channel, entries_for records channel, own_there has.0 channel has.1, own_shown has.0 channel has.1))

  -- ---- its Chunk Index

  pub block_index : (offset : ℕ) → offset ≡ offset_behind before → IsIndexOf tops (written_index offset records) (length before) (chunk_top records) (written_fields records)
  block_index offset is = record {
    at = chunk_there tops before records stands;
    is = written_shows records back sound.0;
    offset = is ∙ sym (chunk_offset tops before records stands);
    size = refl;
    start = refl;
    end = refl;
    compression = refl;
    compressed = refl;
    uncompressed = refl;
  }

  pub is_named : (offset k channel : ℕ) → offset ≡ offset_behind before → At (logged_channels records) k channel
      → IsNamed tops (length before) channel ((offset + length (chunk_bytes records)) + length (indexes_bytes records (take k (logged_channels records)))) (entries_for records channel)
  is_named offset k channel is at = record {
    place = k;
    top = index_top records channel;
    at = own_there k channel at;
    is = own_shown k channel at;
    there = let there = index_offset tops before records k channel stands at in omega (arith, there, is);
  }

  pub block_names : (offset : ℕ) → offset ≡ offset_behind before → NamesIndexes tops (length before) (written_index offset records)
  block_names offset is = inr (named, reached, sizes)
    where
      named : (channel place : ℕ) → Has {X = ℕ × ℕ} (written_index offset records).indexes (channel, place) → (entries : List (ℕ × ℕ)) × IsNamed tops (length before) channel place entries
      named channel place has =
          let at = offset_is records (offset + length (chunk_bytes records)) (logged_channels records) has.0 (channel, place) has.1 in
          (entries_for records channel, subst (λ (k : ℕ). IsNamed tops (length before) channel k (entries_for records channel)) (sym at.1) (is_named offset has.0 channel is at.0))

      reached : (channel place : ℕ) (entries : List (ℕ × ℕ)) → IsNamed tops (length before) channel place entries → entries ≢ [] → Has {X = ℕ × ℕ} (written_index offset records).indexes (channel, place)
      reached channel place entries one some =
          let own = own_channel one.place channel one.top entries one.at one.is in
          let there = index_offset tops before records one.place channel stands own.0 in
          let same : (offset + length (chunk_bytes records)) + length (indexes_bytes records (take one.place (logged_channels records))) ≡ place = omega (arith, there, is, one.there) in
          (one.place, subst (λ (k : ℕ). At {X = ℕ × ℕ} (written_index offset records).indexes one.place (channel, k)) same (is_offset records (offset + length (chunk_bytes records)) (logged_channels records) one.place channel own.0))

      sizes : (written_index offset records).indexes_size ≡ length (spelled (indexes_behind tops (length before)))
      sizes = ap length (indexes_spelled records (logged_channels records)) ∙ ap (λ (l : List Top). length (spelled l)) (sym (behind_block tops before records stands))

-- ---- V9

pub indexes_are : (records : List Rec) → Each (λ u. u.op ≡ 7) (map (index_top records) (logged_channels records))
indexes_are records n t at = let (id, there, same) = at_map (index_top records) (logged_channels records) n t at in ap (λ (x : Top). x.op) same

front_indexes : (tops before : List Top) (records : List Rec) → (stands : BlockStands tops before records) → (i : ℕ) → i ≤ length (map (index_top records) (logged_channels records))
    → take (suc (length before) + i) tops ≡ before ++ chunk_top records ∷ take i (map (index_top records) (logged_channels records))
front_indexes tops before records stands i few =
    let own = map (index_top records) (logged_channels records) in
    let n : suc (length before) + i ≡ length before + suc i = omega arith in
    ap (take (suc (length before) + i)) stands.joined
    ∙ ap (λ (m : ℕ). take m (before ++ (chunk_top records ∷ (own ++ stands.after)))) n
    ∙ take_second before (chunk_top records ∷ (own ++ stands.after)) (suc i)
    ∙ ap (λ (l : List Top). before ++ chunk_top records ∷ l) (take-append-le i own stands.after few)

-- behind a chunk and Message Indexes of it stands one that is right
belongs_by : (all before : List Top) (chunk : Top) (earlier : List Top) (t : Top) → all ≡ before ++ chunk ∷ earlier → chunk.op ≡ 6 → Each (λ u. u.op ≡ 7) earlier → IndexIsRight chunk earlier t → BelongsTo all t
belongs_by all before chunk earlier t front kind each right = by earlier front each
  where
    right_for : (others : List Top) (c : Top) (e : List Top) → all ≡ others ++ c ∷ e → c.op ≡ 6 → Each (λ u. u.op ≡ 7) e → IndexIsRight c e t
    right_for others c e joined six sevens =
        let same = last_apart (λ (u : Top). u.op ≡ 7) before others chunk c earlier e (sym front ∙ joined) (λ k. omega (arith, k, kind)) (λ k. omega (arith, k, six)) each sevens in
        subst (λ (x : Top). IndexIsRight x e t) same.0 (subst (λ (l : List Top). IndexIsRight chunk l t) same.1 right)

    by : (earlier : List Top) → all ≡ before ++ chunk ∷ earlier → Each (λ u. u.op ≡ 7) earlier → BelongsTo all t
    by [] front each = record { front = before; neighbour = chunk; follows = front; is = inl kind; right = right_for }
    by (e ∷ es) front each =
        let (start, last, same) = last_of e es in
        let seven : last.op ≡ 7 = each (length start) last (subst (λ (l : List Top). At l (length start) last) (sym same) (at_last start last [])) in
        record {
          front = before ++ chunk ∷ start;
          neighbour = last;
          follows = front ∙ ap (λ (l : List Top). before ++ chunk ∷ l) same ∙ sym (append_assoc before (chunk ∷ start) (last ∷ []));
          is = inr seven;
          right = right_for;
        }

module _ (header : Top) (ps : List Piece) (extras summary : List Top) (foot : Top) (are : Each IsExtra extras) (back : (n : ℕ) (p : Piece) → At ps n p → Each IsReadBack (piece_records p)) (numbered : (n : ℕ) (p : Piece) → At ps n p → Each IsNumberedRec (piece_records p)) (sound : (n : ℕ) (p : Piece) → At ps n p → PieceIsSound p) where
  pub index_belongs : (j : ℕ) (t : Top) → At (flat_map piece_tops ps ++ extras) j t → t.op ≡ 7 → BelongsTo (take (suc j) (whole (header ∷ (flat_map piece_tops ps ++ extras)) summary foot)) t
  index_belongs j t at kind =
      let b = in_block ps extras j t back are at (inr kind) in
      by b.k b.records b.at b.i b.at_top b.there
    where
      by : (k : ℕ) (records : List Rec) → At ps k (block records) → (i : ℕ) → At (piece_tops (block records)) i t → j ≡ in_front piece_tops ps k + i → BelongsTo (take (suc j) (whole (header ∷ (flat_map piece_tops ps ++ extras)) summary foot)) t
      by k records at_p zero at_t there = absurd (omega (arith, kind, ap (λ (x : Top). x.op) (same_Some (chunk_top records) t at_t)))
      by k records at_p (suc i) at_t there =
          let tops = whole (header ∷ (flat_map piece_tops ps ++ extras)) summary foot in
          let before = header ∷ flat_map piece_tops (take k ps) in
          let stands = block_stands header ps extras summary foot k records back are at_p in
          let within : At (indexes_behind tops (length before)) i t = subst (λ (l : List Top). At l i t) (sym (behind_block tops before records stands)) at_t in
          let indexes = map (index_top records) (logged_channels records) in
          let earlier = take i indexes in
          let right : IndexIsRight (chunk_top records) earlier t = subst (λ (l : List Top). IndexIsRight (chunk_top records) (take i l) t) (behind_block tops before records stands) (block_right tops before records stands (back k (block records) at_p) (numbered k (block records) at_p) (sound k (block records) at_p) i t within) in
          let place : suc j ≡ suc (length before) + i = omega (arith, there) in
          let front : take (suc j) tops ≡ before ++ chunk_top records ∷ earlier = ap (λ (m : ℕ). take m tops) place ∙ front_indexes tops before records stands i (let inside = at_within indexes i t at_t in omega (arith, inside)) in
          belongs_by (take (suc j) tops) before (chunk_top records) earlier t front refl (each_taken (λ u. u.op ≡ 7) indexes i (indexes_are records)) right

  -- a chunk is that of a block
  pub record IsChunkOf (j : ℕ) (t : Top) : Type 0 where
    pub k : ℕ
    pub records : List Rec
    pub at : At ps k (block records)
    pub is : t ≡ chunk_top records
    pub there : suc j ≡ length (header ∷ flat_map piece_tops (take k ps))

  pub chunk_of : (j : ℕ) (t : Top) → At (flat_map piece_tops ps ++ extras) j t → t.op ≡ 6 → IsChunkOf j t
  chunk_of j t at kind =
      let b = in_block ps extras j t back are at (inl kind) in
      by b.k b.records b.at b.i b.at_top b.there
    where
      by : (k : ℕ) (records : List Rec) → At ps k (block records) → (i : ℕ) → At (piece_tops (block records)) i t → j ≡ in_front piece_tops ps k + i → IsChunkOf j t
      by k records at_p zero at_t there = record { k = k; records = records; at = at_p; is = sym (same_Some (chunk_top records) t at_t); there = omega (arith, there) }
      by k records at_p (suc i) at_t there =
          let (id, at_id, same) = at_map (index_top records) (logged_channels records) i t at_t in
          absurd (omega (arith, kind, ap (λ (x : Top). x.op) same))

  pub chunk_indexed : (j : ℕ) (t : Top) → At (flat_map piece_tops ps ++ extras) j t → t.op ≡ 6 → IsIndexed (whole (header ∷ (flat_map piece_tops ps ++ extras)) summary foot) (suc j) t
  chunk_indexed j t at kind =
      let c = chunk_of j t at kind in
      let tops = whole (header ∷ (flat_map piece_tops ps ++ extras)) summary foot in
      let before = header ∷ flat_map piece_tops (take c.k ps) in
      let stands = block_stands header ps extras summary foot c.k c.records back are c.at in
      let indexed = block_indexed tops before c.records stands (back c.k (block c.records) c.at) (numbered c.k (block c.records) c.at) (sound c.k (block c.records) c.at) in
      subst (λ (k : ℕ). IsIndexed tops k t) (sym c.there) (subst (λ (x : Top). IsIndexed tops (length before) x) (sym c.is) indexed)
