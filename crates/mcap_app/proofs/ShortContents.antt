-- Each content of a file that a writer ended may be read.
use Rattle.std.proofs.Common.{◌≡◌, ℕ, zero, suc, ◌+◌, ◌≤◌, true, false, List, [], ◌∷◌, length, take, Some, None, refl, sym, ap, subst, inl, inr, ◌∙◌}
use Rattle.std.specs.Prelude.{filter, nat_lt, ◌⊎◌}
use Rattle.std.specs.List.{AllZip}
use Rattle.std.proofs.lemmas.Bool.{both_ways, ltb-false, or_parts}
use Rattle.rec_data.specs.declared.owned.Rec.{Rec}
use Rattle.rec_data.specs.declared.owned.Rec.TheVariants.{Schema, Channel, Message, Extra}
use Rattle.mcap_model.specs.declared.options.FileOptions.{FileOptions}
use Rattle.mcap_model.specs.Places.{At, Each}
use Rattle.mcap_model.specs.Tops.{Top, is_flat_kind, unchunked, flattened, flat, offset_behind}
use Rattle.mcap_model.specs.Kept.{Good, reading_limits}
use Rattle.mcap_model.specs.History.{is_inner}
use Rattle.mcap_model.specs.Written.{IsRec}
use Rattle.mcap_model.specs.Blocks.{Piece, block, alone, blocks_in, pieces_of}
use Rattle.mcap_model.specs.File.{file_of}
use Rattle.mcap_model.specs.Repaired.{is_extra, Repairs}
use Rattle.mcap_model.specs.Recovery.{piece_records}
use Rattle.mcap_model.specs.Laws.{IsInner, PieceIsShort, CanBeRead}
use Rattle.mcap_model.proofs.Places.{at_none, at_kept}
use Rattle.mcap_model.proofs.Lists.{at_second, each_joined, filter_passed}
use Rattle.mcap_model.proofs.Distinct.{repeats_are}
use Rattle.mcap_model.proofs.Histories.{extra_not_flat}
use Rattle.mcap_model.proofs.Section.{held, each_held, block_has, block_of, pieces_are_blocks}
use Rattle.std.proofs.lemmas.Option.{same_Some}
use Rattle.chunk_writer.specs.Limits.{FileHolds}

-- ---- pieces

-- what holds of all that pieces hold holds of each piece's records
each_piece : (P : Rec → Type 0) (pieces : List Piece) → Each P (held pieces) → (n : ℕ) (p : Piece) → At pieces n p → Each P (piece_records p)
each_piece P [] each n p at = absurd (at_none n p at)
each_piece P (q ∷ ps) each zero p at = λ k r there.
    each k r (at_kept (piece_records q) (held ps) k r (subst (λ (x : Piece). At (piece_records x) k r) (sym (same_Some q p at)) there))
each_piece P (q ∷ ps) each (suc n) p at = each_piece P ps (λ k r there. each (length (piece_records q) + k) r (at_second (piece_records q) (held ps) k r there)) n p at

-- a file in chunks has blocks alone where no record of its history is an extra
pieces_short : (chunk : ℕ) (profile : List ℕ) (size : ℕ) (history : List Rec) → Each IsInner history → FileHolds profile (blocks_in (pieces_of (Some chunk) None history)) size → Each PieceIsShort (pieces_of (Some chunk) None history)
pieces_short chunk profile size history inner fits n p at = by p at (block_of p (pieces_are_blocks chunk None history n p at)) (each_piece IsInner (pieces_of (Some chunk) None history) (each_held IsInner (Some chunk) None history inner) n p at)
  where
    by : (q : Piece) → At (pieces_of (Some chunk) None history) n q → ((records : List Rec) × (q ≡ block records)) ⊎ ((r : Rec) × (q ≡ alone r) × (is_inner r ≡ false)) → Each IsInner (piece_records q) → PieceIsShort q
    by (block records) there is each = let (place, has) = block_has (pieces_of (Some chunk) None history) n records there in fits.contents.chunks place records has
    by (alone r) there (inl (records, is)) each = absurd cc
    by (alone r) there (inr (other, is, extra)) each = let same : r ≡ other = cc in absurd (both_ways (is_inner other) extra (subst IsInner same (each 0 r refl)))

-- ---- what repairing makes of records has no extras

rec_at : (us : List Top) (rs : List Rec) (n : ℕ) (r : Rec) → AllZip IsRec us rs → At rs n r → (u : Top) × At us n u × IsRec u r
rec_at [] [] n r zip at = absurd (at_none n r at)
rec_at [] (x ∷ xs) n r zip at = absurd zip
rec_at (u ∷ us) [] n r zip at = absurd zip
rec_at (u ∷ us) (x ∷ xs) zero r zip at = let same : x ≡ r = cc in (u, refl, subst (IsRec u) same zip.0)
rec_at (u ∷ us) (x ∷ xs) (suc n) r zip at = rec_at us xs n r zip.1 at

flat_kinds : (tops : List Top) → Each (λ u. is_flat_kind u ≡ true) (flat tops)
flat_kinds [] = λ n u at. absurd (at_none n u at)
flat_kinds (t ∷ ts) = each_joined (λ u. is_flat_kind u ≡ true) (flattened t) (flat ts) (λ n u at. (filter_passed is_flat_kind (unchunked t) n u at).1) (flat_kinds ts)

inner_of : (u : Top) (r : Rec) → is_flat_kind u ≡ true → IsRec u r → is_inner r ≡ true
inner_of u (Schema id s) kind is = refl
inner_of u (Channel id s topic encoding metadata) kind is = refl
inner_of u (Message c n l p d) kind is = refl
inner_of u (Extra op content) kind is =
    let same : is_flat_kind u ≡ is_flat_kind (record { op = op; content = content }) = ap (λ (k : ℕ). is_flat_kind (record { op = k; content = content })) is.0 in
    absurd (both_ways (is_flat_kind u) (same ∙ extra_not_flat op content is.2) kind)

pub repairs_inner : (tops extras : List Top) (profile : List ℕ) (history : List Rec) → Repairs tops profile extras history → Each IsInner history
repairs_inner tops extras profile history repairs n r at =
    let has = repeats_are repairs.flattened r (n, subst (λ (l : List Rec). At l n r) repairs.history_is at) in
    let (u, stands, shows) = rec_at (flat tops) repairs.flattened has.0 r repairs.are_flattened has.1 in
    inner_of u r (flat_kinds tops has.0 u stands) shows

-- ---- extras

-- those of a good list may be read
pub extras_short : (tops : List Top) → Good reading_limits tops → Each (λ t. length t.content ≤ 268435456) (filter is_extra tops)
extras_short tops good n t at =
    let (has, extra) = filter_passed is_extra tops n t at in
    let fits = good has.0 t has.1 in
    ltb-false 268435456 (length t.content) (or_parts (nat_lt 268435456 (length t.content)) (nat_lt 1099511627776 (offset_behind (take has.0 tops) + 9 + length t.content)) fits.within).0

-- ---- files

abbrev options_of : List ℕ → ℕ → FileOptions
options_of profile chunk = record { profile = profile; chunk = Some chunk; span = None }

pub can_be_read : (chunk : ℕ) (profile : List ℕ) (extras : List Top) (history : List Rec) → Each IsInner history → FileHolds profile (blocks_in (pieces_of (Some chunk) None history)) (length (file_of (options_of profile chunk) extras history))
    → Each (λ t. length t.content ≤ 268435456) extras → CanBeRead (options_of profile chunk) extras history
can_be_read chunk profile extras history inner fits short = record {
  header = fits.contents.header;
  pieces = pieces_short chunk profile (length (file_of (options_of profile chunk) extras history)) history inner fits;
  extras_short = short;
  file = fits.holds.small;
}
