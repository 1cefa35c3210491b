-- What the entries of the first blocks of a file tell has the scan of the file's front that ends with these blocks.
use Rattle.std.proofs.Common.{◌≡◌, ℕ, suc, ◌+◌, ◌^◌, ◌<◌, ◌≤◌, List, [], ◌∷◌, ◌++◌, length, Option, refl, sym, ap, ap₂, subst, inr, ◌∙◌, append_assoc, append-nil, arith}
use Rattle.std.specs.Prelude.{nat_lt}
use Rattle.std.specs.List.{flat_map, AllZip}
use Rattle.std.proofs.lemmas.Bool.{or_parts, ltb-false}
use Rattle.std.proofs.lemmas.List.{length-append}
use Rattle.mcap_wire.specs.Layout.{magic}
use Rattle.rec_data.proofs.Contents.{length-header_text}
use Rattle.mcap_model.specs.Places.{At, Each}
use Rattle.mcap_model.specs.Tops.{Top, Tops, top_bytes, spelled, offset_behind, flattened, Placed, placed, placed_one, placed_from}
use Rattle.mcap_model.specs.Kept.{reading_limits, Good, short_head, grammar}
use Rattle.mcap_model.specs.Scan.{ScanOf, tops_of}
use Rattle.mcap_model.specs.History.{rec_top}
use Rattle.mcap_model.specs.Recovery.{piece_records}
use Rattle.mcap_model.specs.Blocks.{Piece, block, alone, piece_bytes, pieces_bytes}
use Rattle.mcap_model.specs.File.{library, front, blocks_from}
use Rattle.mcap_model.specs.Whole.{AreShort}
use Rattle.mcap_model.proofs.Places.{heads, tails}
use Rattle.mcap_model.proofs.Readings.{length-top, halts_are_last}
use Rattle.mcap_model.proofs.Histories.{recs_agree, numbered_ids_agree}
use Rattle.mcap_model.proofs.Edges.{header_top}
use Rattle.mcap_model.proofs.Flat.{placed_tops}
use Rattle.mcap_model.proofs.Section.{piece_tops, piece_spelled, pieces_spelled, extra_flat, IsBlock, each_parts}
use Rattle.mcap_model.specs.declared.rules.Rule.TheVariants as rules
use Rattle.mcap_laws.proofs.Leading.{spelled_once}
use Rattle.mcap_laws.proofs.FirstPieces.{pieces_good, header_starts}
use Rattle.live_entry.specs.Following.{Stored, Stretch, stretch_tops, all_tops, IsStretch, AreGood, placed_in}
use Rattle.record_cache.specs.KeptRecords.{IsKept}
use Rattle.chunk_writer.proofs.Planned.{length-front}
use Rattle.recorder.specs.Entries.{FrontsAreTold}
use Rattle.recorder.proofs.ReadBack.{recs_back, pieces_short}
use Rattle.recorder.proofs.EntriesFollow.{stretches_of, IsBlockStored, all_stored, first_blocks, first_kept, first_back, first_numbered, first_sound, first_short, first_agree, follow_there}

-- ---- places

placed_append : (at : ℕ) (ts us : List Top) → placed_from at (ts ++ us) ≡ placed_from at ts ++ placed_from (at + length (spelled ts)) us
placed_append at [] us = ap (λ (n : ℕ). placed_from n us) (omega arith)
placed_append at (t ∷ ts) us =
    let size = length-append (top_bytes t) (spelled ts) in
    let place : at + length (top_bytes t) + length (spelled ts) ≡ at + length (spelled (t ∷ ts)) = omega (arith, size) in
    ap (λ (l : List Placed). placed_one at t ++ l) (placed_append (at + length (top_bytes t)) ts us ∙ ap (λ (n : ℕ). placed_from (at + length (top_bytes t)) ts ++ placed_from n us) place)
    ∙ sym (append_assoc (placed_one at t) (placed_from (at + length (top_bytes t)) ts) (placed_from (at + length (spelled (t ∷ ts))) us))

-- what holds no flat record places none
none_placed : (at : ℕ) (t : Top) → flattened t ≡ [] → placed_one at t ≡ []
none_placed at t none = empty (placed_one at t) (ap tops_of (sym (append-nil (placed_one at t))) ∙ placed_tops at (t ∷ []) ∙ append-nil (flattened t) ∙ none)
  where
    empty : (ps : List Placed) → tops_of ps ≡ [] → ps ≡ []
    empty [] is = refl
    empty (p ∷ ps) is = absurd cc

-- blocks are placed as their pieces are, and extras aren't
placed_same : (start : ℕ) (ps : List Piece) (stored : List Stored) → Each IsBlock ps → ((n : ℕ) (p : Piece) → At ps n p → Each IsKept (piece_records p)) → AllZip IsBlockStored (blocks_from start ps) stored
    → placed_in stored (stretches_of (blocks_from start ps)) ≡ placed_from start (flat_map piece_tops ps)
placed_same start [] [] each kept zip = refl
placed_same start [] (q ∷ qs) each kept zip = absurd zip
placed_same start (block records ∷ ps) [] each kept zip = absurd zip
placed_same start (block records ∷ ps) (q ∷ qs) each kept zip =
    let tops = piece_tops (block records) in
    let next = start + length (piece_bytes (block records)) in
    let first = zip.0 in
    let size = ap length (piece_spelled (block records)) in
    let place : next ≡ start + length (spelled tops) = omega (arith, size) in
    ap (λ (n : ℕ). placed_from n tops ++ placed_in qs (stretches_of (blocks_from next ps))) (sym first.at)
    ∙ ap (λ (l : List Placed). placed_from start tops ++ l) (placed_same next ps qs (λ n p at. each (suc n) p at) (λ n p at. kept (suc n) p at) zip.1 ∙ ap (λ (n : ℕ). placed_from n (flat_map piece_tops ps)) place)
    ∙ sym (placed_append start tops (flat_map piece_tops ps))
placed_same start (alone r ∷ ps) stored each kept zip =
    let next = start + length (piece_bytes (alone r)) in
    let extra = (kept 0 (alone r) refl 0 r refl).extra (each 0 (alone r) refl) in
    placed_same next ps stored (λ n p at. each (suc n) p at) (λ n p at. kept (suc n) p at) zip
    ∙ ap (λ (l : List Placed). l ++ placed_from next (flat_map piece_tops ps)) (sym (none_placed start (rec_top r) (extra_flat (rec_top r) extra)))

-- ---- bytes are one stretch

good_short : (header : Top) (tops : List Top) → Good reading_limits (header ∷ tops) → Each (λ t. length t.content < 2 ^ 64) tops
good_short header tops good n t at =
    let fits = good (suc n) t at in
    let low = ltb-false 268435456 (length t.content) (or_parts (nat_lt 268435456 (length t.content)) _ fits.within).0 in
    omega (arith, low)

abbrev IsShort : Stretch → Type 0
IsShort s = AreShort (stretch_tops s)

all_short : (stretches : List Stretch) → AreGood (all_tops stretches) → Each IsShort stretches
all_short stretches good = each_parts (λ (t : Top). length t.content < 2 ^ 64) stretch_tops stretches (good_short good.header (all_tops stretches) good.good)

one_stretch : (bytes : List ℕ) (s t : Stretch) → IsStretch bytes s → IsStretch bytes t → IsShort s → IsShort t → s ≡ t
one_stretch bytes s t is other short_s short_t =
    let same = spelled_once (stretch_tops s) (stretch_tops t) short_s short_t (sym is.spelled_as ∙ other.spelled_as) in
    ap₂ (λ (c : Top) (l : List Top). record { chunk = c; indexes = l }) (heads s.chunk t.chunk s.indexes t.indexes same) (tails s.chunk t.chunk s.indexes t.indexes same)

one_list : (stored : List Stored) (ss ts : List Stretch) → AllZip (λ p s. IsStretch p.bytes s) stored ss → AllZip (λ p s. IsStretch p.bytes s) stored ts → Each IsShort ss → Each IsShort ts → ss ≡ ts
one_list [] [] [] are other short_ss short_ts = refl
one_list [] [] (t ∷ ts) are other short_ss short_ts = absurd other
one_list [] (s ∷ ss) ts are other short_ss short_ts = absurd are
one_list (p ∷ ps) [] ts are other short_ss short_ts = absurd are
one_list (p ∷ ps) (s ∷ ss) [] are other short_ss short_ts = absurd other
one_list (p ∷ ps) (s ∷ ss) (t ∷ ts) are other short_ss short_ts =
    ap₂ (λ (x : Stretch) (l : List Stretch). x ∷ l) (one_stretch p.bytes s t are.0 other.0 (short_ss 0 s refl) (short_ts 0 t refl))
    (one_list ps ss ts are.1 other.1 (λ n x at. short_ss (suc n) x at) (λ n x at. short_ts (suc n) x at))

-- ---- fronts

front_stands : (profile : List ℕ) (ps : List Piece) → Tops (front profile ++ pieces_bytes ps) (header_top profile ∷ flat_map piece_tops ps) []
unfolding front
front_stands profile ps = record {
  split = append_assoc magic (top_bytes (header_top profile)) (pieces_bytes ps)
      ∙ ap (λ (l : List ℕ). magic ++ (top_bytes (header_top profile) ++ l)) (pieces_spelled ps)
      ∙ ap (λ (l : List ℕ). magic ++ l) (sym (append-nil (top_bytes (header_top profile) ++ spelled (flat_map piece_tops ps))));
}

module _ {X : Type 0} (tells : X → Option (List ℕ)) where
  pub fronts_are_told : FrontsAreTold tells
  fronts_are_told options size history pieces entries readable some numbered kept first zip stored told stretches follow =
      let profile = options.profile in
      let start = length (front profile) in
      let header = header_top profile in
      let body = flat_map piece_tops pieces in
      let back = recs_back history kept in
      let (ids, ours) = numbered_ids_agree history back numbered in
      let long = readable.short in
      let text = length-header_text (record { profile = profile; library = library }) in
      let nine : length library ≡ 9 = refl in
      let fits = header_starts profile readable.profile (omega (arith, long)) in
      let short = pieces_short options.chunk options.span history readable.size kept in
      let bytes = front profile ++ pieces_bytes pieces in
      let within = first.within in
      let own = length-front profile in
      let head : 8 + length (top_bytes header) ≡ start = omega (arith, own, length-top header, text, nine) in
      let near : offset_behind (header ∷ body) ≤ 1099511627776 = omega (arith, within, head, length-append (front profile) (pieces_bytes pieces), ap length (pieces_spelled pieces), length-append (top_bytes header) (spelled body)) in
      let sound = first_sound options history pieces kept ours first short in
      let agree = first_agree options history pieces kept ours first (recs_agree history back ids) in
      let good : Good reading_limits (header ∷ body) = pieces_good profile pieces (first_back options history pieces kept ours first) (first_numbered options history pieces kept ours first) sound fits (first_short options history pieces kept ours first short) agree near in
      let blocks = first_blocks options history pieces kept ours first size some in
      let there = all_stored tells (blocks_from start pieces) entries stored zip told in
      let mine = follow_there tells options size history pieces entries some (readable.size size some) numbered kept first zip stored told in
      let same : stretches ≡ stretches_of (blocks_from start pieces) = one_list stored stretches (stretches_of (blocks_from start pieces)) follow.each mine.each (all_short stretches follow.good) (all_short (stretches_of (blocks_from start pieces)) mine.good) in
      let places : placed_in stored stretches ≡ placed (header ∷ body) = ap (placed_in stored) same ∙ placed_same start pieces stored blocks (first_kept options history pieces kept ours first) there ∙ ap (λ (n : ℕ). placed_from n body) (sym head) in
      record {
        tops = header ∷ body;
        kept = halts_are_last bytes (header ∷ body) [] (grammar (offset_behind (header ∷ body)) rules.V4) (front_stands profile pieces) good (inr (short_head refl));
        scan = λ messages. (
          (λ scan. subst (λ (l : List Placed). ScanOf l messages) (sym places) scan),
          (λ scan. subst (λ (l : List Placed). ScanOf l messages) places scan),
        );
      }
