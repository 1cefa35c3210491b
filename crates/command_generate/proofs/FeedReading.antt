-- A generated feed is read as its records.
use Rattle.std.proofs.Common.{◌≡◌, ℕ, zero, suc, ◌+◌, ◌*◌, ◌%◌, ◌^◌, ◌<◌, ◌≤◌, List, [], ◌∷◌, ◌++◌, length, take, map, codes, decimal, refl, sym, ap, subst, inl, inr, ◌∙◌, arith}
use Rattle.std.specs.Prelude.{IsUtf8}
use Rattle.std.proofs.lemmas.Fmt.{IsAscii-decimal, length-decimal-le}
use Rattle.std.proofs.lemmas.Str.{IsUtf8-from_ascii, IsUtf8-append}
use Rattle.std.proofs.lemmas.List.{append-nil, length-append, length-replicate, take-append-le}
use Rattle.std.proofs.lemmas.Grind.{flat_map-append}
use Rattle.std.proofs.lemmas.Option.{same_Some}
use Rattle.mcap_wire.specs.Layout.{le, magic}
use Rattle.mcap_wire.specs.Maps.{IsTextMap}
use Rattle.mcap_wire.proofs.Numbers.{length-le}
use Rattle.mcap_wire.proofs.Contents.{row_shown}
use Rattle.rec_data.specs.declared.owned.Rec.TheVariants as recs
use Rattle.rec_data.specs.Fields.{ChannelFields, MessageFields}
use Rattle.rec_data.specs.Records.{header_kinds, header_values, header_text, channel_kinds, channel_values, channel_text, message_text, data_end_text}
use Rattle.rec_data.proofs.Contents.{message_shown, length-message_text, length-header_text, data_end_shown}
use Rattle.mcap_model.specs.Places.{Each}
use Rattle.mcap_model.specs.Tops.{Top, Tops, top_bytes, spelled, offset_behind, flat}
use Rattle.mcap_model.specs.Fields.{IsHeader, IsChannel, IsMessage}
use Rattle.mcap_model.specs.Rules.{HasDataEnd, HasChannel, V7, Agrees}
use Rattle.mcap_model.specs.ReadBack.{IsReadBack}
use Rattle.mcap_model.specs.Kept.{reading_limits, Fits, Good, at_end, at_data_end}
use Rattle.mcap_model.proofs.Places.{at_none, at_more, at_within}
use Rattle.mcap_model.proofs.Lists.{cut_at}
use Rattle.mcap_model.proofs.Histories.{header_meets, data_end_meets, rec_meets, within_there, flat_none}
use Rattle.mcap_model.proofs.Maps.{shows_once, message_once}
use Rattle.mcap_model.proofs.ReadBack.{at_map}
use Rattle.mcap_model.proofs.Readings.{length-top, halts_are_last}
use Rattle.command_generate.specs.Generator.{next_state, upper_bits, generated_message, messages_from, generated, first_state}
use Rattle.command_generate.specs.Feeds.{header_top, topic_of, feed_channel, channel_top, message_top, end_top, feed_bytes}
use Rattle.command_generate.specs.FeedLaws.{FeedsAreRead}

-- ---- what the messages are

-- a message whose numbers fit their fields, and whose data are few
pub record IsSmall (m : MessageFields) : Type 0 where
  pub sequence : m.sequence < 2 ^ 32
  pub log : m.log_time < 2 ^ 64
  pub publish : m.publish_time < 2 ^ 64
  pub few : length m.payload ≤ 63

pub small_from : (n index x : ℕ) → index + n ≤ 2 ^ 32 → Each IsSmall (messages_from n index x)
small_from zero index x fits k m at = absurd (at_none k m at)
small_from (suc n) index x fits zero m at =
    let u = upper_bits (next_state x) in
    subst IsSmall (same_Some (generated_message index u) m at) (record {
      sequence = omega (arith, fits);
      log = omega (arith, fits);
      publish = omega (arith, fits);
      few = (let size = length-replicate (u % 64) (u % 256) in omega (arith, size));
    })
small_from (suc n) index x fits (suc k) m at = small_from n (index + 1) (next_state x) (omega (arith, fits)) k m at

pub many_from : (n index x : ℕ) → length (messages_from n index x) ≡ n
many_from zero index x = refl
many_from (suc n) index x = ap suc (many_from n (index + 1) (next_state x))

-- ---- what the records show

header_is : IsHeader header_top
header_is = record { kind = refl; profile = []; library = []; layout = row_shown header_kinds (header_values (record { profile = []; library = [] })) ((omega arith, ([], (refl, refl))), ((omega arith, ([], (refl, refl))), tt)) }

slash_gen : IsUtf8 (codes "/gen/")
unfolding lib.Utf8.encode
slash_gen = (codes "/gen/", (refl, refl))

length-topic : (feed : ℕ) → feed < 2 ^ 64 → length (topic_of feed) ≤ 25
length-topic feed fits = let size = length-decimal-le 20 feed (omega arith) (omega (arith, fits)) fits in omega (arith, size, length-append (codes "/gen/") (decimal feed))

no_pairs : IsTextMap []
no_pairs = record { texts = λ k d less. absurd (omega (arith, less)); keys_differ = λ i j d less within. absurd (omega (arith, within)) }

pub channel_is : (feed : ℕ) → feed < 2 ^ 64 → IsChannel (channel_top feed) 1 (feed_channel feed)
channel_is feed fits =
    let size = length-topic feed fits in
    let utf8 : IsUtf8 (topic_of feed) = IsUtf8-append (codes "/gen/") (decimal feed) slash_gen (IsUtf8-from_ascii (decimal feed) (IsAscii-decimal feed fits)) in
    record {
      kind = refl;
      layout = row_shown channel_kinds (channel_values 1 (feed_channel feed)) (omega arith, (omega arith, ((omega (arith, size), utf8), ((omega arith, ([], (refl, refl))), ((omega arith, no_pairs), tt)))));
    }

pub message_is : (m : MessageFields) → IsSmall m → IsMessage (message_top m) 1 m
message_is m small = record { kind = refl; layout = message_shown 1 m (omega arith) small.sequence small.log small.publish }

-- ---- how long they are

length-channel : (feed : ℕ) → feed < 2 ^ 64 → length (channel_text 1 (feed_channel feed)) ≤ 64
length-channel feed fits =
    let size = length-topic feed fits in
    let all : length (channel_text 1 (feed_channel feed)) ≡ 16 + length (topic_of feed) = simp (length-append, length-le) (omega arith) in
    omega (arith, size, all)

length-messages : (ms : List MessageFields) → Each IsSmall ms → length (spelled (map message_top ms)) ≤ 94 * length ms
length-messages [] small = omega arith
length-messages (m ∷ ms) small =
    let more = length-messages ms (λ n x at. small (suc n) x at) in
    let first = small 0 m refl in
    let few = first.few in
    omega (arith, more, few, length-append (top_bytes (message_top m)) (spelled (map message_top ms)), length-top (message_top m), length-message_text 1 m)

-- ---- the records keep the rules

-- the records of a feed with these messages
abbrev tops_with : ℕ → List MessageFields → List Top
tops_with feed ms = header_top ∷ channel_top feed ∷ (map message_top ms ++ end_top ∷ [])

near_in : (before : List Top) (t : Top) (more : List Top) → offset_behind before + 9 + length t.content ≤ offset_behind (before ++ t ∷ more)
near_in before t more =
    let size = ap length (flat_map-append top_bytes before (t ∷ more)) in
    omega (arith, size, length-append (spelled before) (top_bytes t ++ spelled more), length-append (top_bytes t) (spelled more), length-top t)

header_fits : Fits reading_limits [] header_top
header_fits =
    let size = length-header_text (record { profile = []; library = [] }) in
    record {
      v3 = header_is;
      v5 = λ e. omega (arith, e);
      v6 = header_meets header_top header_is;
      v7 = flat_none [] header_top refl;
      v8 = λ f chunk. absurd (omega (arith, chunk.kind));
      v10 = λ f place kind. absurd (omega (arith, kind));
      plain = λ name named. let chunk = named.is in absurd (omega (arith, chunk.kind));
      within = within_there 8 (length (header_text (record { profile = []; library = [] }))) (omega (arith, size)) (omega (arith, size));
      unended = λ e. e;
    }

channel_agrees : (feed : ℕ) → feed < 2 ^ 64 → Agrees [] (channel_top feed)
channel_agrees feed fits = record {
  schemas = λ id f g n u is at other. absurd (omega (arith, is.kind));
  channels = λ id f g n u is at other. absurd (at_none n u at);
  schema = λ id f is.
      let same = shows_once (channel_top feed) 1 id (feed_channel feed) f (channel_is feed fits) is in
      inl (ap (λ (g : ChannelFields). g.schema) (sym same.1));
  channel = λ id m is. absurd (omega (arith, is.kind));
}

channel_back : (feed : ℕ) → feed < 2 ^ 64 → IsReadBack (recs.Channel 1 0 (topic_of feed) [] [])
channel_back feed fits = let is = channel_is feed fits in (refl, is.layout)

channel_fits : (feed : ℕ) → feed < 2 ^ 64 → Fits reading_limits (header_top ∷ []) (channel_top feed)
channel_fits feed fits =
    let size = length-channel feed fits in
    let header = length-header_text (record { profile = []; library = [] }) in
    let front : offset_behind (header_top ∷ []) ≤ 64 = omega (arith, header, length-append (top_bytes header_top) [], length-top header_top) in
    record {
      v3 = tt;
      v5 = ((λ e. omega (arith, e)), inr refl);
      v6 = rec_meets (recs.Channel 1 0 (topic_of feed) [] []) (channel_back feed fits) (λ id f same none. absurd cc);
      v7 = seven;
      v8 = λ f chunk. absurd (omega (arith, chunk.kind));
      v10 = λ f place kind. absurd (omega (arith, kind));
      plain = λ name named. let chunk = named.is in absurd (omega (arith, chunk.kind));
      within = within_there (offset_behind (header_top ∷ [])) (length (channel_text 1 (feed_channel feed))) (omega (arith, size)) (omega (arith, size, front));
      unended = unended;
    }
  where
    seven : V7 (header_top ∷ []) (channel_top feed)
    seven zero u at = subst (Agrees []) (same_Some (channel_top feed) u at) (channel_agrees feed fits)
    seven (suc n) u at = absurd (at_none n u at)

    unended : HasDataEnd (header_top ∷ []) → ⊥
    unended (inl e) = omega (arith, e)
    unended (inr e) = e

-- the records in front of one behind the channel
abbrev behind_channel : ℕ → List Top → List Top
behind_channel feed before = header_top ∷ channel_top feed ∷ before

ends_not : (feed : ℕ) (before : List Top) → Each (λ t. t.op ≡ 15 → ⊥) before → HasDataEnd (behind_channel feed before) → ⊥
ends_not feed before each (inl e) = omega (arith, e)
ends_not feed before each (inr (inl e)) = omega (arith, e)
ends_not feed before each (inr (inr ended)) = among before each ended
  where
    among : (ts : List Top) → Each (λ t. t.op ≡ 15 → ⊥) ts → HasDataEnd ts → ⊥
    among [] each none = none
    among (t ∷ ts) each (inl here) = each 0 t refl here
    among (t ∷ ts) each (inr more) = among ts (λ n x at. each (suc n) x at) more

message_agrees : (feed : ℕ) (more : List Top) (m : MessageFields) → feed < 2 ^ 64 → IsSmall m → Agrees (channel_top feed ∷ more) (message_top m)
message_agrees feed more m fits small = record {
  schemas = λ id f g n u is at other. absurd (omega (arith, is.kind));
  channels = λ id f g n u is at other. absurd (omega (arith, is.kind));
  schema = λ id f is. absurd (omega (arith, is.kind));
  channel = λ id n is.
      let same = message_once (message_top m) 1 id m n (message_is m small) is in
      subst (HasChannel (channel_top feed ∷ more)) same.0 (record { place = 0; top = channel_top feed; shown = feed_channel feed; at = refl; is = channel_is feed fits });
}

message_back : (m : MessageFields) → IsSmall m → IsReadBack (recs.Message 1 m.sequence m.log_time m.publish_time m.payload)
message_back m small = let is = message_is m small in (refl, is.layout)

message_fits : (feed : ℕ) (before : List Top) (m : MessageFields) → feed < 2 ^ 64 → IsSmall m → Each (λ t. t.op ≡ 15 → ⊥) before → offset_behind (behind_channel feed before) + 9 + length (message_text 1 m) ≤ 1099511627776
    → Fits reading_limits (behind_channel feed before) (message_top m)
message_fits feed before m fits small none near =
    let size = length-message_text 1 m in
    let few = small.few in
    record {
      v3 = tt;
      v5 = ((λ e. omega (arith, e)), inr refl);
      v6 = rec_meets (recs.Message 1 m.sequence m.log_time m.publish_time m.payload) (message_back m small) (λ id f same none. absurd cc);
      v7 = seven;
      v8 = λ f chunk. absurd (omega (arith, chunk.kind));
      v10 = λ f place kind. absurd (omega (arith, kind));
      plain = λ name named. let chunk = named.is in absurd (omega (arith, chunk.kind));
      within = within_there (offset_behind (behind_channel feed before)) (length (message_text 1 m)) (omega (arith, size, few)) near;
      unended = ends_not feed before none;
    }
  where
    seven : V7 (behind_channel feed before) (message_top m)
    seven zero u at = subst (Agrees (flat (behind_channel feed before) ++ [])) (same_Some (message_top m) u at) (message_agrees feed (flat before ++ []) m fits small)
    seven (suc n) u at = absurd (at_none n u at)

end_fits : (feed : ℕ) (before : List Top) → Each (λ t. t.op ≡ 15 → ⊥) before → offset_behind (behind_channel feed before) + 9 + length (data_end_text 0) ≤ 1099511627776
    → Fits reading_limits (behind_channel feed before) end_top
end_fits feed before none near =
    let size : length (data_end_text 0) ≡ 4 = ap length (append-nil (le 4 0)) ∙ length-le 4 0 in
    record {
      v3 = tt;
      v5 = ((λ e. omega (arith, e)), inr refl);
      v6 = data_end_meets end_top (record { kind = refl; crc = 0; layout = data_end_shown 0 (omega arith) });
      v7 = flat_none (behind_channel feed before) end_top refl;
      v8 = λ f chunk. absurd (omega (arith, chunk.kind));
      v10 = λ f place kind. absurd (omega (arith, kind));
      plain = λ name named. let chunk = named.is in absurd (omega (arith, chunk.kind));
      within = within_there (offset_behind (behind_channel feed before)) (length (data_end_text 0)) (omega (arith, size)) near;
      unended = ends_not feed before none;
    }

messages_end_not : (ms : List MessageFields) (n : ℕ) → Each (λ t. t.op ≡ 15 → ⊥) (take n (map message_top ms))
messages_end_not [] zero k t at = absurd (at_none k t at)
messages_end_not [] (suc n) k t at = absurd (at_none k t at)
messages_end_not (m ∷ ms) zero k t at = absurd (at_none k t at)
messages_end_not (m ∷ ms) (suc n) zero t at = λ e. omega (arith, e, ap (λ (u : Top). u.op) (same_Some (message_top m) t at))
messages_end_not (m ∷ ms) (suc n) (suc k) t at = messages_end_not ms n k t at

good_with : (feed : ℕ) (ms : List MessageFields) → feed < 2 ^ 64 → Each IsSmall ms → offset_behind (tops_with feed ms) ≤ 1099511627776 → Good reading_limits (tops_with feed ms)
good_with feed ms fits small near zero t at = subst (Fits reading_limits []) (same_Some header_top t at) header_fits
good_with feed ms fits small near (suc zero) t at = subst (Fits reading_limits (header_top ∷ [])) (same_Some (channel_top feed) t at) (channel_fits feed fits)
good_with feed ms fits small near (suc (suc n)) t at =
    let later = map message_top ms ++ end_top ∷ [] in
    let split = cut_at (tops_with feed ms) (suc (suc n)) t at in
    let inner = near_in (behind_channel feed (take n later)) t split.0 in
    let whole = ap offset_behind split.1 in
    let close : offset_behind (behind_channel feed (take n later)) + 9 + length t.content ≤ 1099511627776 = omega (arith, inner, whole, near) in
    elim (at_more (map message_top ms) end_top n t at) [
      | inl old ↦
          let (m, there, same) = at_map message_top ms n t old in
          let front : take n later ≡ take n (map message_top ms) = take-append-le n (map message_top ms) (end_top ∷ []) (let within = at_within (map message_top ms) n t old in omega (arith, within)) in
          let none = subst (Each (λ x. x.op ≡ 15 → ⊥)) (sym front) (messages_end_not ms n) in
          subst (Fits reading_limits (behind_channel feed (take n later))) (sym same)
          (message_fits feed (take n later) m fits (small n m there) none (subst (λ (x : Top). offset_behind (behind_channel feed (take n later)) + 9 + length x.content ≤ 1099511627776) same close))
      | inr here ↦
          let front : take n later ≡ take n (map message_top ms) = take-append-le n (map message_top ms) (end_top ∷ []) (omega (arith, here.0)) in
          let none = subst (Each (λ x. x.op ≡ 15 → ⊥)) (sym front) (messages_end_not ms n) in
          subst (Fits reading_limits (behind_channel feed (take n later))) (sym here.1)
          (end_fits feed (take n later) none (subst (λ (x : Top). offset_behind (behind_channel feed (take n later)) + 9 + length x.content ≤ 1099511627776) here.1 close))
    ]

-- ---- the reading

has_end : (ts : List Top) → HasDataEnd (ts ++ end_top ∷ [])
has_end [] = inl refl
has_end (t ∷ ts) = inr (has_end ts)

pub feeds_are_read : FeedsAreRead
feeds_are_read seed feed n fits few =
    let ms = generated seed feed n in
    let small = small_from n 0 (first_state seed feed) (omega (arith, few)) in
    let bytes = feed_bytes seed feed n in
    let tops = tops_with feed ms in
    let many = many_from n 0 (first_state seed feed) in
    let long = length-messages ms small in
    let channel = length-channel feed fits in
    let header = length-header_text (record { profile = []; library = [] }) in
    let foot : length (data_end_text 0) ≡ 4 = ap length (append-nil (le 4 0)) ∙ length-le 4 0 in
    let joined = ap length (flat_map-append top_bytes (map message_top ms) (end_top ∷ [])) in
    let near : offset_behind tops ≤ 1099511627776 =
    omega (
      arith,
      few,
      many,
      long,
      channel,
      header,
      foot,
      joined,
      length-append (top_bytes header_top) (spelled (channel_top feed ∷ (map message_top ms ++ end_top ∷ []))),
      length-top header_top,
      length-append (top_bytes (channel_top feed)) (spelled (map message_top ms ++ end_top ∷ [])),
      length-top (channel_top feed),
      length-append (spelled (map message_top ms)) (spelled (end_top ∷ [])),
      length-append (top_bytes end_top) [],
      length-top end_top,
    ) in
    let good = good_with feed ms fits small near in
    let stands : Tops bytes tops [] = record { split = ap (λ (l : List ℕ). magic ++ l) (sym (append-nil (spelled tops))) } in
    let ended : HasDataEnd tops = has_end (header_top ∷ channel_top feed ∷ map message_top ms) in
    record {
      kept = halts_are_last bytes tops [] (at_end (offset_behind tops)) stands good (inl ended);
      there = at_data_end [] stands ended;
    }
