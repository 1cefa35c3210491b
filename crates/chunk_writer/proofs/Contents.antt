-- Whether what a file holds can be read: of the pieces before, and of one more.
use Rattle.std.proofs.Common.{◌≡◌, ℕ, zero, suc, ◌+◌, ◌≤◌, List, [], ◌∷◌, ◌++◌, length, length-append, refl, sym, ap, subst, ◌∙◌, arith}
use Rattle.std.specs.List.{flat_map}
use Rattle.std.proofs.lemmas.Grind.{flat_map-append}
use Rattle.mcap_wire.proofs.Framing.{length-framed, length-string}
use Rattle.rec_data.specs.declared.owned.Rec.{Rec}
use Rattle.rec_data.proofs.Contents.{length-header_text}
use Rattle.mcap_model.specs.declared.block.Block.{Block}
use Rattle.mcap_model.specs.Places.{At, Each}
use Rattle.mcap_model.proofs.Places.{at_kept}
use Rattle.mcap_model.proofs.Lists.{at_second, each_joined}
use Rattle.mcap_model.specs.Built.{IsBlock}
use Rattle.mcap_model.specs.Blocks.{Piece, block, block_in, blocks_in, piece_bytes, chunk_content}
use Rattle.mcap_model.specs.File.{library}
use Rattle.chunk_writer.specs.Limits.{Holds, HeaderFits, ChunkFits, ContentsFit, FileHolds}
use Rattle.chunk_writer.specs.LimitSteps.{BlockFits}
use Rattle.chunk_writer.specs.Plans.{PieceFits}

-- ---- lists

pub each_first : {X : Type 0} (P : X → Type 0) (xs ys : List X) → Each P (xs ++ ys) → Each P xs
each_first P xs ys each n x at = each n x (at_kept xs ys n x at)

pub each_second : {X : Type 0} (P : X → Type 0) (xs ys : List X) → Each P (xs ++ ys) → Each P ys
each_second P xs ys each n x at = each (length xs + n) x (at_second xs ys n x at)

-- ---- the Header

pub header_fits : (profile : List ℕ) → length profile ≤ 268435439 → HeaderFits profile
header_fits profile short = let long = length-header_text (record { profile = profile; library = library }) in omega arith

pub header_short : (profile : List ℕ) → HeaderFits profile → length profile ≤ 268435439
header_short profile fits = let long = length-header_text (record { profile = profile; library = library }) in omega (arith, fits)

-- ---- a piece more

blocks_split : (ps : List Piece) (piece : Piece) → blocks_in (ps ++ piece ∷ []) ≡ blocks_in ps ++ blocks_in (piece ∷ [])
blocks_split ps piece = flat_map-append block_in ps (piece ∷ [])

count_more : (ps : List Piece) (piece : Piece) → length (blocks_in (ps ++ piece ∷ [])) ≡ length (blocks_in ps) + length (blocks_in (piece ∷ []))
count_more ps piece = ap (λ (l : List (List Rec)). length l) (blocks_split ps piece) ∙ length-append (blocks_in ps) (blocks_in (piece ∷ []))

pub contents_more : (profile : List ℕ) (ps : List Piece) (piece : Piece) → ContentsFit profile (blocks_in ps) → Each ChunkFits (blocks_in (piece ∷ []))
    → ContentsFit profile (blocks_in (ps ++ piece ∷ []))
contents_more profile ps piece fits one = record {
  header = fits.header;
  chunks = subst (λ (l : List (List Rec)). Each ChunkFits l) (sym (blocks_split ps piece)) (each_joined ChunkFits (blocks_in ps) (blocks_in (piece ∷ [])) fits.chunks one);
}

-- it fits exactly where a file may hold it with those before it
pub holds_piece : (profile : List ℕ) (ps : List Piece) (piece : Piece) (blocks bytes : ℕ) → blocks ≡ length (blocks_in ps) → ContentsFit profile (blocks_in ps) → PieceFits blocks bytes piece
    → FileHolds profile (blocks_in (ps ++ piece ∷ [])) (bytes + length (piece_bytes piece))
holds_piece profile ps piece blocks bytes many fits one =
    let few = one.holds.few in
    let small = one.holds.small in
    record {
      holds = record { few = omega (arith, few, many, count_more ps piece); small = small };
      contents = contents_more profile ps piece fits one.chunks;
    }

pub fits_piece : (profile : List ℕ) (ps : List Piece) (piece : Piece) (blocks bytes : ℕ) → blocks ≡ length (blocks_in ps) → FileHolds profile (blocks_in (ps ++ piece ∷ [])) (bytes + length (piece_bytes piece))
    → PieceFits blocks bytes piece
fits_piece profile ps piece blocks bytes many all =
    let few = all.holds.few in
    let small = all.holds.small in
    record {
      holds = record { few = omega (arith, few, many, count_more ps piece); small = small };
      chunks = each_second ChunkFits (blocks_in ps) (blocks_in (piece ∷ [])) (subst (λ (l : List (List Rec)). Each ChunkFits l) (blocks_split ps piece) all.contents.chunks);
    }

pub contents_same : (profile : List ℕ) (ps qs : List Piece) → ps ≡ qs → ContentsFit profile (blocks_in ps) → ContentsFit profile (blocks_in qs)
contents_same profile ps qs same fits = subst (λ (l : List Piece). ContentsFit profile (blocks_in l)) same fits

-- ---- a block

pub no_chunks : Each ChunkFits []
no_chunks n x at = absurd cc

chunk_long : (b : Block) (records : List Rec) → IsBlock b records → b.chunk_length ≡ 9 + length (chunk_content records)
chunk_long b records built = built.chunk ∙ length-framed 6 (chunk_content records)

one_block : (records : List Rec) → ChunkFits records → Each ChunkFits (blocks_in (block records ∷ []))
one_block records fits zero x at = subst ChunkFits (let same : records ≡ x = cc in same) fits
one_block records fits (suc n) x at = absurd cc

pub piece_of_block : (blocks bytes : ℕ) (b : Block) (records : List Rec) → IsBlock b records → BlockFits blocks bytes b → PieceFits blocks bytes (block records)
piece_of_block blocks bytes b records built fits =
    let short = fits.short in
    let long = chunk_long b records built in
    record {
      holds = subst (λ (l : List ℕ). Holds (blocks + 1) (bytes + length l)) built.spelled fits.holds;
      chunks = one_block records (omega (arith, short, long));
    }

pub block_of_piece : (blocks bytes : ℕ) (b : Block) (records : List Rec) → IsBlock b records → PieceFits blocks bytes (block records) → BlockFits blocks bytes b
block_of_piece blocks bytes b records built fits =
    let short : length (chunk_content records) ≤ 268435456 = fits.chunks 0 records refl in
    let long = chunk_long b records built in
    record {
      holds = subst (λ (l : List ℕ). Holds (blocks + 1) (bytes + length l)) (sym built.spelled) fits.holds;
      short = omega (arith, short, long);
    }
