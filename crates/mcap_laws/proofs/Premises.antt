-- What the premises of the laws on written files say, and that some files meet them.
use Rattle.std.proofs.Common.{◌≡◌, ℕ, zero, suc, ◌+◌, ◌^◌, ◌<◌, List, [], ◌∷◌, ◌++◌, length, drop, map, Some, None, refl, sym, ap, subst, inl, ◌∙◌, arith}
use Rattle.std.proofs.lemmas.List.{length-append}
use Rattle.mcap_wire.specs.Layout.{le, string, prefixed}
use Rattle.mcap_wire.proofs.Numbers.{length-le}
use Rattle.mcap_wire.proofs.Framing.{length-string}
use Rattle.mcap_wire.proofs.Contents.{row_shown, shows_decided}
use Rattle.rec_data.specs.declared.owned.Rec.{Rec}
use Rattle.rec_data.specs.Owned.{rec_opcode}
use Rattle.rec_data.specs.Records.{attachment_kinds, attachment_values, CrcStandsAt}
use Rattle.mcap_model.specs.Places.{Each, EachBehind}
use Rattle.mcap_model.specs.Tops.{Top, flattened, flat}
use Rattle.mcap_model.specs.Fields.{AttachmentFields, IsAttachment}
use Rattle.mcap_model.specs.Rules.{V6, Agrees}
use Rattle.mcap_model.specs.Kept.{reading_limits}
use Rattle.mcap_model.specs.History.{rec_top, is_inner, body_of, channel_of, Follows, Numbered}
use Rattle.mcap_model.specs.Blocks.{pieces_of, blocks_in, logged_channels}
use Rattle.mcap_model.specs.Summary.{messages_on}
use Rattle.mcap_model.specs.File.{file_of}
use Rattle.mcap_model.specs.Valid.{IsFullyIndexed}
use Rattle.mcap_model.specs.Laws.{IsNumberedRec, EntriesFit, CanBeWritten, GoodHistoriesAgree}
use Rattle.mcap_model.specs.ReadBack.{IsReadBack, IsExtra}
use Rattle.mcap_model.proofs.Places.{at_none}
use Rattle.mcap_model.proofs.ReadBack.{schema_back}
use Rattle.mcap_model.proofs.Histories.{flat_of_recs, recs_are_flat, numbered_ids_agree}
use Rattle.mcap_model.proofs.Meets.{attachment_meets}
use Rattle.mcap_model.proofs.Lists.{each_cons, filter_has}
use Rattle.mcap_model.proofs.ExtraIndexes.{behind_field}
use Rattle.mcap_model.proofs.Distinct.{rec_id}
use Rattle.mcap_model.proofs.Flat.{good_lists_agree, at_mapped}
use Rattle.mcap_laws.proofs.Validity.{files_are_indexed}
use Rattle.mcap_laws.proofs.Sizes.{in_chunks, channel_a, first, attachment, size_attachment}
use Rattle.mcap_laws.proofs.OneMessage.{one, one_back}
use Rattle.std.proofs.lemmas.Option.{same_Some}
use Rattle.mcap_model.proofs.WrittenChunks.{empty_utf8}

-- ---- ids agree in a good list

numbered_by : (history : List Rec) → Each IsReadBack history → Each V6 (map rec_top (body_of history)) → Each IsNumberedRec history
numbered_by history back meets n r at id f same none =
    let has = filter_has is_inner history n r at (ap is_inner same) in
    let v6 = meets has.0 (rec_top r) (at_mapped rec_top (body_of history) has.0 r has.1) in
    let (own, g, is) = v6.schema (ap rec_opcode same) in
    let ids : id ≡ own = ap rec_id (sym same ∙ schema_back r own g (back n r at) is) in
    is.some (sym ids ∙ none)

pub good_histories_agree : GoodHistoriesAgree
good_histories_agree header history back kind good =
    let both = good_lists_agree reading_limits (header ∷ map rec_top history) good in
    let none : flattened header ≡ [] = subst (λ (k : ℕ). flattened (record { op = k; content = header.content }) ≡ []) (sym kind) refl in
    let same : flat (header ∷ map rec_top history) ≡ map rec_top (body_of history) = ap (λ (l : List Top). l ++ flat (map rec_top history)) none ∙ flat_of_recs history back in
    (subst (EachBehind Agrees) (same ∙ sym (recs_are_flat history back)) both.1, numbered_by history back (subst (Each V6) same both.0))

-- ---- an Attachment has a CRC

crc_stands : (t : Top) (f : AttachmentFields) → IsAttachment t f → CrcStandsAt t.content (32 + length f.name + length f.media_type + length f.payload) f
crc_stands t f is =
    let row = is.layout.1 in
    let rest = is.layout.0 in
    let fit = row.fit in
    let content = t.content in
    let n = length f.name in
    let m = length f.media_type in
    let k = length f.payload in
    let place = 32 + n + m + k in
    let r4 = le 4 f.crc ++ rest in
    let r3 = prefixed 8 f.payload ++ r4 in
    let r2 = string f.media_type ++ r3 in
    let r1 = string f.name ++ r2 in
    let first : drop 0 content ≡ le 8 f.log_time ++ (le 8 f.create_time ++ r1) = row.spelled_there in
    let second = behind_field content 0 8 8 (le 8 f.log_time) (le 8 f.create_time ++ r1) first (length-le 8 f.log_time) (omega arith) in
    let third = behind_field content 8 8 16 (le 8 f.create_time) r1 second (length-le 8 f.create_time) (omega arith) in
    let fourth = behind_field content 16 (4 + n) (20 + n) (string f.name) r2 third (length-string f.name) (omega arith) in
    let fifth = behind_field content (20 + n) (4 + m) (24 + n + m) (string f.media_type) r3 fourth (length-string f.media_type) (omega arith) in
    let payload_size : length (prefixed 8 f.payload) ≡ 8 + k = omega (arith, length-append (le 8 k) f.payload, length-le 8 k) in
    let sixth : drop place content ≡ r4 = behind_field content (24 + n + m) (8 + k) place (prefixed 8 f.payload) r4 fifth payload_size (omega arith) in
    let seventh : drop (place + 4) content ≡ rest = behind_field content place 4 (place + 4) (le 4 f.crc) rest sixth (length-le 4 f.crc) (omega arith) in
    let size : length content ≡ length (le 8 f.log_time ++ (le 8 f.create_time ++ r1)) = ap length row.spelled_there in
    record {
      shows = is.layout;
      behind = refl;
      stands = record {
        field = record {
          spelled_there = sixth ∙ ap (λ (l : List ℕ). le 4 f.crc ++ l) (sym seventh);
          begins = omega arith;
          ends = omega (
            arith,
            size,
            length-append (le 8 f.log_time) (le 8 f.create_time ++ r1),
            length-append (le 8 f.create_time) r1,
            length-append (string f.name) r2,
            length-append (string f.media_type) r3,
            length-append (prefixed 8 f.payload) r4,
            length-append (le 4 f.crc) rest,
            length-le 8 f.log_time,
            length-le 8 f.create_time,
            length-string f.name,
            length-string f.media_type,
            payload_size,
            length-le 4 f.crc,
          );
        };
        size = refl;
        fits = fit.1.1.1.1.1.0;
      };
    }

-- ---- a file of one message and one Attachment

one_numbered : Numbered one
one_numbered zero r at = subst (Follows []) (same_Some channel_a r at) (record {
  numbered = omega arith;
  schema = inl refl;
  order = λ i j d less within. absurd (omega (arith, within));
  is_new = λ n other g there same. at_none n (channel_of other g) there;
})
one_numbered (suc zero) r at = subst (Follows (channel_a ∷ [])) (same_Some first r at) (0, record { schema = 0; topic = 47 ∷ 97 ∷ []; encoding = []; metadata = [] }, refl)
one_numbered (suc (suc n)) r at = absurd (at_none n r at)

attachment_is : IsAttachment attachment (record { log_time = 0; create_time = 0; name = []; media_type = []; payload = []; crc = 0 })
attachment_is = record { kind = refl; layout = row_shown attachment_kinds (attachment_values (record { log_time = 0; create_time = 0; name = []; media_type = []; payload = []; crc = 0 })) (omega arith, (omega arith, ((omega arith, empty_utf8), ((omega arith, empty_utf8), (omega arith, (omega arith, tt)))))) }

attachment_right : IsExtra attachment
attachment_right = record {
  kind = inl refl;
  v6 = attachment_meets attachment _ attachment_is;
  v10 = λ f place kind stands.
      let same = shows_decided attachment_kinds attachment.content (attachment_values f) (attachment_values (record { log_time = 0; create_time = 0; name = []; media_type = []; payload = []; crc = 0 })) stands.shows attachment_is.layout in
      inl (ap (λ v. v.1.1.1.1.1.0) same);
}

one_block : blocks_in (pieces_of (Some 786432) None one) ≡ one ∷ []
unfolding le
one_block = refl

one_channel : logged_channels one ≡ 1 ∷ []
unfolding le
one_channel = refl

one_message : messages_on one 1 ≡ 1
unfolding le
one_message = refl

one_fits : EntriesFit one
one_fits = subst (Each (λ channel. messages_on one channel < 2 ^ 28)) (sym one_channel) (each_cons (λ channel. messages_on one channel < 2 ^ 28) 1 [] (omega (arith, one_message)) (λ n c at. absurd (at_none n c at)))

pub one_written : CanBeWritten (in_chunks 786432) (attachment ∷ []) one
one_written =
    let ids = numbered_ids_agree one one_back one_numbered in
    record {
      profile = empty_utf8;
      profile_fits = omega arith;
      records_fit = one_back;
      numbered = ids.1;
      ids_agree = ids.0;
      extras_meet = each_cons IsExtra attachment [] attachment_right (λ n t at. absurd (at_none n t at));
      entries_fit = subst (Each EntriesFit) (sym one_block) (each_cons EntriesFit one [] one_fits (λ n b at. absurd (at_none n b at)));
      few_blocks = (let size = ap length one_block in omega (arith, size));
      few_attachments = omega arith;
      few_metadata = omega arith;
      size_fits = omega (arith, size_attachment);
    }

one_indexed : IsFullyIndexed (file_of (in_chunks 786432) (attachment ∷ []) one)
one_indexed = files_are_indexed (in_chunks 786432) (attachment ∷ []) one 786432 refl one_written
