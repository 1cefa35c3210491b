-- Where the records of a chunk stand.
use Rattle.std.proofs.Common.{◌≡◌, ℕ, zero, suc, ◌+◌, ◌≤◌, List, [], ◌∷◌, ◌++◌, length, take, drop, Some, refl, sym, ap, ◌∙◌, append_assoc, arith}
use Rattle.std.proofs.lemmas.List.{length-append, drop_at}
use Rattle.std.proofs.lemmas.Option.{same_Some}
use Rattle.mcap_wire.specs.Layout.{le, string, prefixed}
use Rattle.mcap_wire.proofs.Numbers.{length-le}
use Rattle.mcap_model.specs.Places.{At}
use Rattle.mcap_model.specs.Tops.{Top, Placed, top_bytes, spelled, inner_tops, records_in, placed_inside}
use Rattle.mcap_model.specs.Fields.{ChunkFields, IsChunk}
use Rattle.mcap_model.specs.Rules.{ChunkIsRight}
use Rattle.mcap_model.specs.Whole.{offset_among}
use Rattle.mcap_model.proofs.Places.{at_none}
use Rattle.mcap_model.proofs.Lists.{cut_flat}
use Rattle.mcap_model.proofs.Readings.{length-top}
use Rattle.mcap_model.proofs.Unpacking.{chunks_are_opened}

-- ---- among the bytes

-- what stands in a chunk without a compression in front of its records
chunk_head : ChunkFields → List ℕ
chunk_head g = le 8 g.start ++ (le 8 g.end ++ (le 8 g.size ++ (le 4 g.crc ++ (string [] ++ le 8 (length g.records)))))

length-chunk_head : (g : ChunkFields) → length (chunk_head g) ≡ 40
unfolding chunk_head
length-chunk_head g = simp (length-append, length-le) refl

grouped : (g : ChunkFields) (rest : List ℕ) → le 8 g.start ++ (le 8 g.end ++ (le 8 g.size ++ (le 4 g.crc ++ (string [] ++ (prefixed 8 g.records ++ rest))))) ≡ chunk_head g ++ (g.records ++ rest)
unfolding chunk_head
grouped g rest = simp append_assoc refl

chunk_split : (chunk : Top) (g : ChunkFields) → IsChunk chunk g → g.compression ≡ [] → (rest : List ℕ) × (chunk.content ≡ chunk_head g ++ (g.records ++ rest))
chunk_split chunk g is plain =
    let rest = is.layout.0 in
    let row = is.layout.1 in (
      rest,
      row.spelled_there
          ∙ ap (λ (name : List ℕ). le 8 g.start ++ (le 8 g.end ++ (le 8 g.size ++ (le 4 g.crc ++ (string name ++ (prefixed 8 g.records ++ rest)))))) plain
          ∙ grouped g rest,
    )

regroup_chunk : (h a b s e f : List ℕ) → (h ++ ((a ++ (b ++ s)) ++ e)) ++ f ≡ (h ++ a) ++ (b ++ (s ++ (e ++ f)))
regroup_chunk h a b s e f = simp append_assoc refl

-- a record stands at that offset among those of a chunk, whatever stands behind the chunk
pub record StandsInside (chunk : Top) (inner : ℕ) (u : Top) : Type 0 where
  pub rest : List ℕ
  pub there : (behind : List ℕ) → drop (49 + inner) (top_bytes chunk ++ behind) ≡ top_bytes u ++ (rest ++ behind)
  pub within : 49 + inner + length (top_bytes u) ≤ length (top_bytes chunk)

pub stands_inside : (chunk : Top) (g : ChunkFields) → IsChunk chunk g → g.compression ≡ [] → ChunkIsRight g → (j : ℕ) (u : Top) → At (inner_tops chunk) j u → StandsInside chunk (offset_among (inner_tops chunk) j) u
stands_inside chunk g is plain right j u at =
    let found : records_in g.records ≡ inner_tops chunk = ap records_in (sym (chunks_are_opened chunk g is)) in
    let framed : spelled (inner_tops chunk) ≡ g.records = ap spelled (sym found) ∙ right.framed in
    let (rest, split) = chunk_split chunk g is plain in
    let (others, cut) = cut_flat top_bytes (inner_tops chunk) j u at in
    let front = spelled (take j (inner_tops chunk)) in
    let head = chunk.op ∷ (le 8 (length chunk.content) ++ chunk_head g) in
    let head_size : length head ≡ 49 = omega (arith, length-append (le 8 (length chunk.content)) (chunk_head g), length-le 8 (length chunk.content), length-chunk_head g) in
    let spelled_there : top_bytes chunk ≡ head ++ (spelled (inner_tops chunk) ++ rest) =
    ap (λ (l : List ℕ). chunk.op ∷ (le 8 (length chunk.content) ++ l)) (split ∙ ap (λ (l : List ℕ). chunk_head g ++ (l ++ rest)) (sym framed))
    ∙ ap (λ (l : List ℕ). chunk.op ∷ l) (sym (append_assoc (le 8 (length chunk.content)) (chunk_head g) (spelled (inner_tops chunk) ++ rest))) in
    let size : length chunk.content ≡ 40 + (length g.records + length rest) = omega (arith, ap length split, length-append (chunk_head g) (g.records ++ rest), length-append g.records rest, length-chunk_head g) in
    let sizes : length g.records ≡ length front + (length (top_bytes u) + length (spelled others)) = omega (arith, ap length framed, ap length cut, length-append front (top_bytes u ++ spelled others), length-append (top_bytes u) (spelled others)) in
    let o = offset_among (inner_tops chunk) j in
    record {
      rest = spelled others ++ rest;
      there = λ behind.
          ap (λ (l : List ℕ). drop (49 + o) (l ++ behind)) (spelled_there ∙ ap (λ (l : List ℕ). head ++ (l ++ rest)) cut)
          ∙ ap (drop (49 + o)) (regroup_chunk head front (top_bytes u) (spelled others) rest behind)
          ∙ drop_at (head ++ front) (top_bytes u ++ (spelled others ++ (rest ++ behind))) (49 + o) (omega (arith, length-append head front, head_size))
          ∙ ap (λ (l : List ℕ). top_bytes u ++ l) (sym (append_assoc (spelled others) rest behind));
      within = omega (arith, length-top chunk, size, sizes);
    }

-- ---- among placed records

abbrev pub placed_at : ℕ → ℕ → Top → Placed
placed_at chunk inner u = record { place = record { top = chunk; inner = inner }; top = u }

pub inside_at : (chunk at : ℕ) (ts : List Top) (j : ℕ) (u : Top) → At ts j u → (n : ℕ) → n ≡ at + offset_among ts j → At (placed_inside chunk at ts) j (placed_at chunk n u)
inside_at chunk at [] j u here n is = absurd (at_none j u here)
inside_at chunk at (t ∷ ts) zero u here n is =
    let same : at ≡ n = omega (arith, is) in
    ap (λ (m : ℕ). Some (placed_at chunk m t)) same ∙ ap (λ (x : Top). Some (placed_at chunk n x)) (same_Some t u here)
inside_at chunk at (t ∷ ts) (suc j) u here n is = inside_at chunk (at + length (top_bytes t)) ts j u here n (omega (arith, is, length-append (top_bytes t) (spelled (take j ts))))

pub inside_back : (chunk at : ℕ) (ts : List Top) (j : ℕ) (p : Placed) → At (placed_inside chunk at ts) j p → At ts j p.top × (p.place.top ≡ chunk) × (p.place.inner ≡ at + offset_among ts j)
inside_back chunk at [] j p here = absurd (at_none j p here)
inside_back chunk at (t ∷ ts) zero p here =
    let same = same_Some (placed_at chunk at t) p here in (
      ap (λ (q : Placed). Some q.top) same,
      sym (ap (λ (q : Placed). q.place.top) same),
      (let inner = ap (λ (q : Placed). q.place.inner) same in omega (arith, inner)),
    )
inside_back chunk at (t ∷ ts) (suc j) p here =
    let more = inside_back chunk (at + length (top_bytes t)) ts j p here in
    let inner = more.2 in
    (more.0, more.1, omega (arith, inner, length-append (top_bytes t) (spelled (take j ts))))
