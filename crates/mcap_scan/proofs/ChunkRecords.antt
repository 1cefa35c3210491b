-- Where the records of a chunk stand in its content.
use Rattle.std.proofs.Common.{◌≡◌, ℕ, ◌+◌, ◌-◌, Bool, List, [], ◌++◌, length, take, drop, refl, sym, ap, ◌∙◌, append_assoc, arith, length-append}
use Rattle.std.specs.Prelude.{if◌then◌else◌}
use Rattle.std.proofs.lemmas.Bool.{eq-eqb}
use Rattle.std.proofs.lemmas.List.{take_at, drop_at}
use Rattle.mcap_wire.specs.Layout.{le, string, prefixed, part}
use Rattle.mcap_wire.proofs.Numbers.{length-le}
use Rattle.rec_index.specs.Records.{ShowsChunk}
use Rattle.mcap_model.specs.Tops.{chunk_records}
use Rattle.mcap_model.specs.Fields.{ChunkFields}
use Rattle.mcap_model.specs.Made.{top}
use Rattle.mcap_model.proofs.Unpacking.{chunks_are_opened}
use Rattle.mcap_scan.specs.Heads.{LiesInside}

-- what stands in front of a chunk's records
chunk_head : ChunkFields → List ℕ
chunk_head f = le 8 f.start ++ (le 8 f.end ++ (le 8 f.size ++ (le 4 f.crc ++ (string f.compression ++ le 8 (length f.records)))))

length-chunk_head : (f : ChunkFields) → length (chunk_head f) ≡ 40 + length f.compression
unfolding chunk_head
length-chunk_head f =
    let last = le 8 (length f.records) in
    let name = string f.compression ++ last in
    let crc = le 4 f.crc ++ name in
    let size = le 8 f.size ++ crc in
    let end = le 8 f.end ++ size in
    omega (
      arith,
      length-append (le 8 f.start) end,
      length-append (le 8 f.end) size,
      length-append (le 8 f.size) crc,
      length-append (le 4 f.crc) name,
      length-append (string f.compression) last,
      length-append (le 4 (length f.compression)) f.compression,
      length-le 8 f.start,
      length-le 8 f.end,
      length-le 8 f.size,
      length-le 4 f.crc,
      length-le 4 (length f.compression),
      length-le 8 (length f.records),
    )

grouped : (f : ChunkFields) (rest : List ℕ) → le 8 f.start ++ (le 8 f.end ++ (le 8 f.size ++ (le 4 f.crc ++ (string f.compression ++ (prefixed 8 f.records ++ rest))))) ≡ chunk_head f ++ (f.records ++ rest)
unfolding chunk_head
grouped f rest = simp append_assoc refl

pub chunk_lies : (op : ℕ) (content : List ℕ) (f : ChunkFields) → op ≡ 6 → ShowsChunk content f → LiesInside (top op content) (40 + length f.compression) (40 + length f.compression + length f.records)
chunk_lies op content f is shows =
    let rest = shows.0 in
    let from = 40 + length f.compression in
    let to = from + length f.records in
    let row = shows.1 in
    let split : content ≡ chunk_head f ++ (f.records ++ rest) = row.spelled_there ∙ grouped f rest in
    let there : drop from content ≡ f.records ++ rest = ap (drop from) split ∙ drop_at (chunk_head f) (f.records ++ rest) from (length-chunk_head f) in
    let size : to - from ≡ length f.records = omega arith in
    let lies : part from to content ≡ f.records =
    ap (λ (n : ℕ). take n (drop from content)) size ∙ ap (take (length f.records)) there ∙ take_at f.records rest (length f.records) refl in
    record {
      begins = omega arith;
      ends = omega (arith, ap length split, length-append (chunk_head f) (f.records ++ rest), length-append f.records rest, length-chunk_head f);
      records = λ v6.
          lies
          ∙ sym (chunks_are_opened (top 6 content) f (record { kind = refl; layout = shows }))
          ∙ sym (ap (λ (b : Bool). if b then chunk_records content else []) (eq-eqb op 6 is));
    }
