-- The block of some records is a stretch: a Chunk with a Message Index for each of its channels. An entry of the block has
-- the stretch's numbers.
use Rattle.std.proofs.Common.{◌≡◌, ℕ, suc, false, List, [], ◌∷◌, length, map, refl, sym, ap, subst, ◌∙◌}
use Rattle.std.specs.Prelude.{filter, not}
use Rattle.std.proofs.lemmas.Bool.{both_ways}
use Rattle.mcap_wire.proofs.Contents.{shows_decided}
use Rattle.rec_data.specs.declared.owned.Rec.{Rec}
use Rattle.rec_data.specs.declared.owned.Rec.TheVariants.{Schema, Channel, Message, Extra}
use Rattle.rec_index.specs.Records.{chunk_kinds, chunk_values}
use Rattle.mcap_model.specs.Places.{At, Each}
use Rattle.mcap_model.specs.Tops.{Top, is_flat_kind, inner_tops}
use Rattle.mcap_model.specs.Fields.{IsMessage, IsMessageIndex}
use Rattle.mcap_model.specs.Scan.{is_message_top}
use Rattle.mcap_model.specs.History.{rec_top, message_of}
use Rattle.mcap_model.specs.Blocks.{block, logged_channels, entries_for, written_fields, chunk_content, block_bytes}
use Rattle.mcap_model.specs.Built.{declarations}
use Rattle.mcap_model.specs.Whole.{count_of}
use Rattle.mcap_model.specs.Laws.{IsNumberedRec, IsInner, chunk_top, index_top}
use Rattle.mcap_model.specs.ReadBack.{IsReadBack}
use Rattle.mcap_model.proofs.ReadBack.{at_map, message_back}
use Rattle.mcap_model.proofs.Histories.{message_shown, recs_are_flat}
use Rattle.mcap_model.proofs.Asides.{body_whole}
use Rattle.mcap_model.proofs.WrittenChunks.{written_shows}
use Rattle.mcap_model.proofs.Logged.{logged_is, channel_logs, message_channel}
use Rattle.mcap_model.proofs.ShownBack.{index_shown, index_shows}
use Rattle.mcap_model.proofs.Flat.{at_mapped}
use Rattle.mcap_model.proofs.Section.{PieceIsSound, piece_spelled, written_chunk}
use Rattle.mcap_laws.proofs.BlockIndexes.{indexes_are}
use Rattle.mcap_laws.proofs.StatisticsRight.{count_messages}
use Rattle.live_entry.specs.declared.entry.Entry.{Entry}
use Rattle.live_entry.specs.Entries.{IsEntry, HasNumbers}
use Rattle.live_entry.specs.Following.{Stretch, HasMessageOn, HasMessageIndex, IsStretch}

abbrev pub stretch_of : List Rec → Stretch
stretch_of records = record { chunk = chunk_top records; indexes = map (index_top records) (logged_channels records) }

declared_among : (records : List Rec) → Each IsInner records → length (declarations records) ≡ length (filter (λ t. not (is_message_top t)) (map rec_top records))
declared_among [] inner = refl
declared_among (Schema id s ∷ rs) inner = ap suc (declared_among rs (λ n x at. inner (suc n) x at))
declared_among (Channel id schema topic encoding metadata ∷ rs) inner = ap suc (declared_among rs (λ n x at. inner (suc n) x at))
declared_among (Message channel sequence log_time publish_time payload ∷ rs) inner = declared_among rs (λ n x at. inner (suc n) x at)
declared_among (Extra op content ∷ rs) inner = absurd (both_ways false refl (inner 0 (Extra op content) refl))

-- records that can be read back, and of which a block can be made
pub record MakeBlock (records : List Rec) : Type 0 where
  pub back : Each IsReadBack records
  pub numbered : Each IsNumberedRec records
  pub sound : PieceIsSound (block records)

module _ (records : List Rec) (can : MakeBlock records) where
  opened_there : inner_tops (chunk_top records) ≡ map rec_top records
  opened_there = let sound = can.sound in (written_chunk records can.back can.numbered sound.2 sound.0).0

  own_shown : (k channel : ℕ) → At (logged_channels records) k channel → IsMessageIndex (index_top records channel) channel (entries_for records channel)
  own_shown k channel at = let sound = can.sound in index_shown records channel can.back (k, at) (sound.1 k channel at) sound.0

  has_index : (channel : ℕ) → HasMessageOn (inner_tops (chunk_top records)) channel → HasMessageIndex (stretch_of records).indexes channel
  has_index channel has =
      let (r, there, same) = at_map rec_top records has.place has.top (subst (λ (l : List Top). At l has.place has.top) opened_there has.at) in
      let shown : IsMessage (rec_top r) channel has.message = subst (λ (t : Top). IsMessage t channel has.message) same has.is in
      let own = message_back r channel has.message (can.back has.place r there) shown in
      let (k, at) = message_channel records has.place channel has.message (subst (λ (x : Rec). At records has.place x) own there) in
      record {
        place = k;
        top = index_top records channel;
        entries = entries_for records channel;
        at = at_mapped (index_top records) (logged_channels records) k channel at;
        is = own_shown k channel at;
      }

  has_message : (channel : ℕ) → HasMessageIndex (stretch_of records).indexes channel → HasMessageOn (inner_tops (chunk_top records)) channel
  has_message channel has =
      let (id, there, same) = at_map (index_top records) (logged_channels records) has.place has.top has.at in
      let shown : IsMessageIndex (index_top records id) channel has.entries = subst (λ (t : Top). IsMessageIndex t channel has.entries) same has.is in
      let own = index_shows records id channel has.entries (own_shown has.place id there) shown in
      let (e, logged, on) = channel_logs records id (has.place, there) in
      let l = logged_is 0 records logged.0 e logged.1 in
      let at : At records l.place (message_of channel l.message) = subst (λ (c : ℕ). At records l.place (message_of c l.message)) (on ∙ own.0) l.at in
      record {
        place = l.place;
        top = rec_top (message_of channel l.message);
        message = l.message;
        at = subst (λ (ts : List Top). At ts l.place (rec_top (message_of channel l.message))) (sym opened_there) (at_mapped rec_top records l.place (message_of channel l.message) at);
        is = message_shown channel l.message (can.back l.place (message_of channel l.message) at);
      }

  pub is_stretch : IsStretch (block_bytes records) (stretch_of records)
  is_stretch = record {
    spelled_as = piece_spelled (block records);
    chunk = refl;
    indexes = indexes_are records;
    each = has_index;
    only = has_message;
  }

  pub has_numbers : {X : Type 0} (e : Entry X) (offset : ℕ) → IsEntry e offset records → HasNumbers e (stretch_of records)
  has_numbers e offset is = record {
    chunk_length = is.chunk;
    times = λ f shown.
        let sound = can.sound in
        let own = written_shows records can.back sound.0 in
        let same = shows_decided chunk_kinds (chunk_content records) (chunk_values (written_fields records)) (chunk_values f) own.layout shown.layout in
        (is.start ∙ ap (λ v. v.0) same, is.end ∙ ap (λ v. v.1.0) same);
    messages = (let sound = can.sound in is.counted ∙ count_messages 0 records sound.2 ∙ ap (count_of 5) (sym opened_there));
    declared = (let sound = can.sound in is.declaring ∙ declared_among records sound.2
        ∙ ap (λ (l : List Top). length (filter (λ t. not (is_message_top t)) l)) (sym (recs_are_flat records can.back ∙ ap (map rec_top) (body_whole records sound.2)))
        ∙ ap (λ (l : List Top). length (filter (λ t. not (is_message_top t)) (filter is_flat_kind l))) (sym opened_there));
  }
