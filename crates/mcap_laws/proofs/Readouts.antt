-- Where the readings of some small files halt, and what their messages are.
use Rattle.std.proofs.Common.{◌≡◌, ℕ, zero, suc, List, [], ◌∷◌, ◌++◌, length, take, drop, map, Some, None, refl, ap, inl, inr, arith}
use Rattle.std.specs.Prelude.{AllPairs, filter, IsUtf8}
use Rattle.mcap_wire.specs.Layout.{le, number, magic}
use Rattle.mcap_wire.proofs.Contents.{row_shown}
use Rattle.mcap_crc.specs.Remainder.{remainder}
use Rattle.rec_data.proofs.Contents.{length-header_text}
use Rattle.rec_index.specs.Records.{chunk_kinds, chunk_values, chunk_text}
use Rattle.mcap_model.specs.Tops.{Top, Tops, top_bytes, spelled, records_in, chunk_records, placed}
use Rattle.mcap_model.specs.Fields.{IsHeader}
use Rattle.mcap_model.specs.Kept.{reading_limits, NamesCompression, Fits, Good, compressed, beyond, Halts, HaltsThere, past_limit, packed_chunk, behind_kept}
use Rattle.mcap_model.specs.Scan.{Seen, is_message_top, ComesBefore, Replay}
use Rattle.mcap_model.specs.Summary.{summary_text}
use Rattle.mcap_model.specs.File.{library, front, data_end, file_of}
use Rattle.mcap_model.proofs.Places.{at_none, each_more}
use Rattle.mcap_model.proofs.Readings.{halts_are_last}
use Rattle.mcap_model.proofs.Edges.{header_top, header_fits, ascii}
use Rattle.mcap_laws.proofs.Sizes.{file_two}
use Rattle.rec_data.specs.Records.{header_kinds}
use Rattle.rec_index.specs.Fields.{ChunkFields}

-- ---- what stands in the file of two messages

kinds_two : map (λ t. t.op) (records_in (drop 8 file_two)) ≡ 1 ∷ 6 ∷ 7 ∷ 6 ∷ 7 ∷ 15 ∷ 4 ∷ 11 ∷ 8 ∷ 8 ∷ 14 ∷ 14 ∷ 14 ∷ 2 ∷ []
unfolding file_of front data_end le summary_text number remainder records_in
kinds_two = refl

places_two : map {B = ℕ × ℕ} (λ p. (p.place.top, p.place.inner)) (filter (λ p. is_message_top p.top) (placed (take 6 (records_in (drop 8 file_two))))) ≡ (34, 27) ∷ (173, 0) ∷ []
unfolding file_of front data_end le summary_text number remainder records_in chunk_records
places_two = refl

-- ---- a message of it

abbrev seen_at : ℕ → ℕ → ℕ → Seen
seen_at top inner sequence = record {
  place = record { top = top; inner = inner };
  channel = 1;
  topic = 47 ∷ 97 ∷ [];
  message = record { sequence = sequence; log_time = 10; publish_time = 9; payload = 170 ∷ [] };
}

-- ---- equal log times keep the order of the file

-- all messages of it, at any time
replay_all : Replay (record { start = 0; end = None }) None (seen_at 34 27 1 ∷ seen_at 173 0 2 ∷ []) (seen_at 34 27 1 ∷ seen_at 173 0 2 ∷ [])
replay_all = record {
  rises = rise;
  are = λ s has. (has, (record { from = omega arith; before = λ e none. absurd (not_some e none) }, λ t none. absurd (not_text t none)));
  all = λ s has asked. has;
}
  where
    not_some : (e : ℕ) → None ≡ Some e → ⊥
    not_some e same = cc

    not_text : (t : List ℕ) → None ≡ Some t → ⊥
    not_text t same = cc

    rise : AllPairs ComesBefore (seen_at 34 27 1 ∷ seen_at 173 0 2 ∷ [])
    rise zero zero d less within = absurd (omega (arith, less))
    rise zero (suc zero) d less within = inr (refl, inl (omega arith))
    rise (suc i) (suc zero) d less within = absurd (omega (arith, less))
    rise (suc i) zero d less within = absurd (omega (arith, less))
    rise i (suc (suc j)) d less within = absurd (omega (arith, within))

-- none of it from 10 until 10
replay_none : Replay (record { start = 10; end = Some 10 }) None (seen_at 34 27 1 ∷ seen_at 173 0 2 ∷ []) []
replay_none = record {
  rises = λ i j d less within. absurd (omega (arith, within));
  are = λ s has. absurd (at_none has.0 s has.1);
  all = λ s has asked. let range = asked.0 in let late = range.before 10 refl in let early = range.from in absurd (omega (arith, late, early));
}

-- ---- a Header alone

pub is_header : IsHeader (header_top [])
is_header = record { kind = refl; profile = []; library = library; layout = row_shown header_kinds ([], (library, tt)) ((omega arith, empty), ((omega arith, ascii), tt)) }
  where
    empty : IsUtf8 []
    empty = ([], (refl, refl))

header_good : Good reading_limits (header_top [] ∷ [])
header_good =
    let size = length-header_text (record { profile = []; library = library }) in
    let nine : length library ≡ 9 = refl in
    each_more (Fits reading_limits) [] (header_top []) (λ n x at. absurd (at_none n x at)) (header_fits [] is_header (omega (arith, size, nine)))

-- a record behind it at 34 with the length 2^63
abbrev rest_long : List ℕ
rest_long = 5 ∷ le 8 9223372036854775808

halt_long : Halts reading_limits (magic ++ (spelled (header_top [] ∷ []) ++ rest_long)) (header_top [] ∷ []) (beyond 34)
unfolding le number
halt_long =
    let tops = header_top [] ∷ [] in
    let stands : Tops (magic ++ (spelled tops ++ rest_long)) tops rest_long = record { split = refl } in
    let there : HaltsThere reading_limits tops rest_long (beyond 34) = past_limit (refl, λ e. omega (arith, e)) refl in
    record {
      kept = halts_are_last (magic ++ (spelled tops ++ rest_long)) tops rest_long (beyond 34) stands header_good (inr there);
      there = behind_kept rest_long stands (λ e. elim e [ inl one ↦ omega (arith, one) | inr none ↦ none ]) (beyond 34) there;
    }

-- a chunk behind it that names a compression
abbrev zstd : List ℕ
zstd = 122 ∷ 115 ∷ 116 ∷ 100 ∷ []

abbrev zstd_fields : ChunkFields
zstd_fields = record { start = 10; end = 10; size = 59; crc = 0; compression = zstd; records = 1 ∷ 2 ∷ 3 ∷ [] }

abbrev chunk_zstd : Top
chunk_zstd = record { op = 6; content = chunk_text zstd_fields }

zstd_utf8 : IsUtf8 zstd
unfolding lib.Utf8.encode
zstd_utf8 = (zstd, (refl, refl))

names_zstd : NamesCompression chunk_zstd zstd
names_zstd = record {
  shown = zstd_fields;
  is = record {
    kind = refl;
    layout = row_shown chunk_kinds (chunk_values zstd_fields) (omega arith, (omega arith, (omega arith, (omega arith, ((omega arith, zstd_utf8), (omega arith, tt))))));
  };
  named = refl;
  some = λ e. let size : 4 ≡ 0 = ap length e in omega (arith, size);
}

halt_zstd : Halts reading_limits (magic ++ (spelled (header_top [] ∷ []) ++ (top_bytes chunk_zstd ++ []))) (header_top [] ∷ []) (compressed 34 zstd)
unfolding le number
halt_zstd =
    let tops = header_top [] ∷ [] in
    let rest = top_bytes chunk_zstd ++ [] in
    let stands : Tops (magic ++ (spelled tops ++ rest)) tops rest = record { split = refl } in
    let there : HaltsThere reading_limits tops rest (compressed 34 zstd) =
    packed_chunk zstd (record { head = (refl, λ e. omega (arith, e)); within = refl }) refl ((λ e. let size : 1 ≡ 0 = ap length e in omega (arith, size)), names_zstd) in
    record {
      kept = halts_are_last (magic ++ (spelled tops ++ rest)) tops rest (compressed 34 zstd) stands header_good (inr there);
      there = behind_kept rest stands (λ e. elim e [ inl one ↦ omega (arith, one) | inr none ↦ none ]) (compressed 34 zstd) there;
    }
